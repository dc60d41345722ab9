-- The word and the fields.
-- By what each call puts.
use Rattle.text_letters.proofs.Pages.{then}
use Rattle.text_process.proofs.open_one.Goals as goal

pub returns : goal.returns
returns c = then c.put_all.ensures c.put_fields.ensures
