-- The name is there, or is entered behind the last, or is a 65th. By the two tests.
use native.Mathlib.Omega.{arith}
use mathlib.Core.Path.{refl, sym, ◌∙◌}
use Rattle.table.specs.Meaning.{list_from}
use Rattle.table.specs.Tests.{key_name, row_name}
use Rattle.table.proofs.Tests.{length-list_from}
use Rattle.text_build.specs.Tables.{held_in, number_in}
use Rattle.text_build.proofs.Finding.{number-there, number-absent}
use Rattle.text_build.proofs.Tables.{enlisted-there, enlisted-new, enlisted-full}
use Rattle.text_build.proofs.number.Goals as goal

pub find-requires : goal.find-requires
unfolding held_in
find-requires c =
    let e = c.held_in-n.ensures in
    (omega arith, omega arith, omega arith)

pub returns-in-Some : goal.returns-in-Some
unfolding number_in
returns-in-Some c =
    let a = c.args in
    let n = c.held_in-n.result in
    let t = number-there (list_from 0 n (row_name a.w.now a.o 4)) (key_name a.k) c.in-Some.j (sym c.find.ensures ∙ c.in-Some.is) in
    let l = length-list_from (row_name a.w.now a.o 4) 0 n in
    enlisted-there a.w.now a.o a.at a.k _ _ c.held_in-n.ensures t.0 (omega arith)

pub returns-then-n-lt64 : goal.returns-then-n-lt64
unfolding number_in
returns-then-n-lt64 c =
    let a = c.args in
    let n = c.held_in-n.result in
    let t = number-absent (list_from 0 n (row_name a.w.now a.o 4)) (key_name a.k) (sym c.find.ensures ∙ c.in_default.is) in
    let l = length-list_from (row_name a.w.now a.o 4) 0 n in
    let h = enlisted-new a.w.now a.o a.at a.k _ _ c.held_in-n.ensures refl (omega arith) c.if-n-lt64.true in
    rw c.put_key.ensures h

pub returns-else-n-lt64 : goal.returns-else-n-lt64
unfolding number_in
returns-else-n-lt64 c =
    let a = c.args in
    let n = c.held_in-n.result in
    let t = number-absent (list_from 0 n (row_name a.w.now a.o 4)) (key_name a.k) (sym c.find.ensures ∙ c.in_default.is) in
    let l = length-list_from (row_name a.w.now a.o 4) 0 n in
    enlisted-full a.w.now a.o a.at a.k _ _ c.held_in-n.ensures refl (omega arith) c.if-n-lt64.false
