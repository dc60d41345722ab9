-- A row in three runs: its first nine words, its scope, its last seven.
use Prim.Native.Nat.{◌+◌, ◌*◌, ◌-◌}
use native.Mathlib.Omega.{arith}
use mathlib.Core.List.{[], ◌∷◌}
use mathlib.Core.Path.{◌≡◌, ◌∙◌}
use lib.ListN.{length}
use lib.Seq.{sets, length-sets}
use borrow.Author.Rules.{rules}
use Rattle.text_build.proofs.Stores.{put_mid-sets, row-stores}
use Rattle.text_build.proofs.put_row.Goals as goal

pub returns : goal.returns
returns c =
    let a = c.args in
    let w = a.w.now in
    let o = 1288 + a.i * 24 in
    let q : length a.sc.at ≡ 8 = search rules in
    let front = a.k ∷ a.c ∷ a.t ∷ a.v ∷ a.p ∷ 0 ∷ 0 ∷ 0 ∷ a.sc.n ∷ [] in
    let last = a.x.a ∷ a.x.b ∷ a.x.c ∷ a.x.d ∷ 0 ∷ 0 ∷ 0 ∷ [] in
    let v = sets w o front in
    let u = sets v (o + 9) a.sc.at in
    let n₁ = length-sets w o front in
    let n₂ = length-sets v (o + 9) a.sc.at in
    let e₁ = put_mid-sets w o (o + 9 - o) _ front c.copy_from_slice.ensures.after (omega arith) (omega arith) in
    let e₂ = put_mid-sets v (o + 9) (o + 17 - (o + 9)) _ a.sc.at c.copy_from_slice-2.ensures.after (omega arith) (omega arith) in
    let e₃ = put_mid-sets u (o + 17) (o + 24 - (o + 17)) _ last c.copy_from_slice-3.ensures.after (omega arith) (omega arith) in
    rw e₁ (rw e₂ (e₃ ∙ row-stores w a.i a.k a.c a.t a.v a.p a.sc a.x q))
