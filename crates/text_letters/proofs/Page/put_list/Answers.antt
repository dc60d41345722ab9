-- Names between brackets, each after its sign.
-- Idea: what is left to put is the chain of the names that are left, after the sign that comes next.
use native.Mathlib.Omega.{arith}
use Rattle.std.proofs.lemmas.Bool.Decides.{nat_tests}
use Rattle.table.specs.Words.{name_at}
use Rattle.text_letters.proofs.Pages.{nothing, begun, step, last, same, left_as}
use Rattle.text_letters.proofs.Lists.{list-none, list-some, chain_next, chain-end}
use Rattle.text_letters.proofs.Page.put_list.Goals as goal

pub returns-then-is_empty : goal.returns-then-is_empty
returns-then-is_empty c = same (list-none (name_at c.args.w.now) c.args.words.now (grind (arith, nat_tests))) nothing

pub loop-o-init : goal.loop-o-init
loop-o-init c = left_as (list-some (name_at c.args.w.now) c.args.words.now (λ e. grind (arith, nat_tests))) begun

pub loop-o-preserved : goal.loop-o-preserved
loop-o-preserved c =
    let l = c.loop-o in
    step (step (left_as (chain_next (name_at c.args.w.now) c.args.words.now l.sign l.o-index c.loop-o-test.true) l.invariant) c.put.ensures) c.put_name.ensures

pub returns : goal.returns
returns c =
    last (left_as (chain-end (name_at c.args.w.now) c.args.words.now c.loop-o.sign c.loop-o.o-index c.loop-o-test.false) c.loop-o.invariant) c.put-2.ensures
