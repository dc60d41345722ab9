-- Where the first words differ the names do; else all four are compared.
-- By the law that the first words tell names apart.
use Prim.Native.Nat.{◌<◌}
use native.Mathlib.Omega.{arith}
use mathlib.Core.Bool.{false}
use mathlib.Core.Path.{◌≡◌, sym, ◌∙◌}
use lib.Dec.{eqb}
use borrow.Author.Tests.{ne_eqb}
use Rattle.table.specs.Words.{word, name_at}
use Rattle.table.proofs.Names.{first-differs}
use Rattle.table.proofs.words.is_named.Goals as goal

pub returns-else-word-x : goal.returns-else-word-x
unfolding name_at
returns-else-word-x c =
    let k = c.args in
    let e = c.word.ensures in
    let f : c.word.result < 4_294_967_296 = omega arith in
    let n : eqb c.word.result k.x.a ≡ false = ne_eqb c.word.result k.x.a c.if-word-x.false in
    n
    ∙ sym (first-differs (word k.w.now k.o) _ _ _ k.x.a k.x.b k.x.c k.x.d (omega arith) (omega arith) (λ z. c.if-word-x.false (e ∙ z)))

pub returns-then-word-x : goal.returns-then-word-x
returns-then-word-x c = rw (c.same_key.ensures, c.key_at.ensures)
