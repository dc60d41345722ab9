-- `arg_in` meets its contract: the test decides the case.
use mathlib.Core.Path.{◌∙◌, ap}
use borrow.Author.Tests.{lt-ltb, le-ltb}
use Rattle.table.specs.Words.{arg_at}
use Rattle.table.specs.Fire.{arg_in, value_in}
use Rattle.calls_fire.proofs.fire.arg_in.Goals as goal

pub arg_at-requires : goal.arg_at-requires
arg_at-requires c = rw c.wide.ensures c.requires

pub returns-then-k-n : goal.returns-then-k-n
unfolding arg_in
returns-then-k-n c =
    let a = c.args in
    simp (lt-ltb _ _ c.if-k-n.true) (c.value_in.ensures ∙ ap (value_in a.vals) (c.arg_at.ensures ∙ ap (arg_at a.w.now a.i) c.wide.ensures))

pub returns : goal.returns
unfolding arg_in
returns c = simp (le-ltb _ _ c.if-k-n.false)
