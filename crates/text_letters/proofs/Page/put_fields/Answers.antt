-- A timer and a name, each with its comma.
-- By what each call puts.
use Rattle.text_letters.specs.Forms.{fields_text}
use Rattle.text_letters.proofs.Pages.{then}
use Rattle.text_letters.proofs.Page.put_fields.Goals as goal

pub returns : goal.returns
unfolding fields_text
returns c = then c.put_timer.ensures (then c.put.ensures (then c.put_name.ensures c.put-2.ensures))
