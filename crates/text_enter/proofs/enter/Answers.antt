-- The script, and what is asked of it.
use native.Mathlib.Omega.{arith}
use mathlib.Core.Path.{◌≡◌, refl}
use borrow.Author.Rules.{rules}
use Prim.Native.Nat.{◌+◌, ◌*◌}
use Rattle.table.specs.Words.{row_size, parts_at}
use Rattle.std.specs.Prelude.{Err}
use Rattle.text_answer.proofs.Kept.{front_zeros}
use Rattle.text_enter.proofs.Answering.{may-fill, may-ask, entered-no, entered-yes}
use Rattle.text_enter.proofs.enter.Goals as goal

pub fill-n-requires : goal.fill-n-requires
fill-n-requires c = may-fill _ _ c.requires.0 _ refl c.requires.1

pub asked-requires : goal.asked-requires
asked-requires c =
    let few = may-fill _ _ c.requires.0 _ refl c.requires.1 in
    let zeros = front_zeros (parts_at + c.args.c.parts * row_size) c.args.w.now _ (c.fill.ensures.after (λ y h. h)) (omega (arith, few.0)) in
    may-ask _ _ c.requires.0 _ refl c.requires.1 c.told-w _ (omega (arith, few.0)) zeros c.fill-n.ensures

pub returns-in_err-asked : goal.returns-in_err-asked
returns-in_err-asked c =
    let few = may-fill _ _ c.requires.0 _ refl c.requires.1 in
    let zeros = front_zeros (parts_at + c.args.c.parts * row_size) c.args.w.now _ (c.fill.ensures.after (λ y h. h)) (omega (arith, few.0)) in
    let e : c.from_residual.result ≡ Err c.in_err-asked.field-0.0 = search rules in
    rw e (entered-no _ _ c.requires.0 _ refl c.requires.1 c.told-w _ (omega (arith, few.0)) zeros c.fill-n.ensures _ c.in_err-asked.ensures c.told-out (omega arith) _ refl)

pub returns : goal.returns
returns c =
    let few = may-fill _ _ c.requires.0 _ refl c.requires.1 in
    let zeros = front_zeros (parts_at + c.args.c.parts * row_size) c.args.w.now _ (c.fill.ensures.after (λ y h. h)) (omega (arith, few.0)) in
    entered-yes _ _ c.requires.0 _ refl c.requires.1 c.told-w _ (omega (arith, few.0)) zeros c.fill-n.ensures _ c.in_ok-asked.ensures c.told-out (omega arith) refl
