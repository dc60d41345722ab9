-- `arg_name` meets its contract: it is that of the value that stands at the argument's word.
use Rattle.text_process.proofs.arg_name.Goals as goal

pub returns : goal.returns
returns c = rw c.arg_at.ensures at c.value_at.ensures
