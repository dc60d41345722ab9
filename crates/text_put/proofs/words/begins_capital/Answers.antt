-- By the first byte, if there is one.
use Rattle.text_put.proofs.Peeling.{first-none, first_of}
use native.Mathlib.Omega.{arith}
use Rattle.terms.specs.Characters.{is_capital}
use Rattle.text_put.proofs.words.begins_capital.Goals as goal

pub returns-in-empty : goal.returns-in-empty
returns-in-empty c = let h = c.in-empty.len_below in first-none is_capital c.args.w.now (omega arith)

pub returns-in-len1-up : goal.returns-in-len1-up
returns-in-len1-up c = let h = c.in-len1-up.len_at_least in first_of is_capital c.args.w.now (λ e. omega arith) _ c.is_capital.ensures
