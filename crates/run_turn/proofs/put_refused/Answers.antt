-- Three runs of bytes.
use Rattle.text_letters.proofs.Pages.{then}
use Rattle.run_turn.specs.Turn.{refused_text}
use Rattle.run_turn.proofs.put_refused.Goals as goal

pub returns : goal.returns
unfolding refused_text
returns c = then c.put_all.ensures (then c.put_number.ensures c.put.ensures)
