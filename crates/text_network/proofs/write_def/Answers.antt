-- The identifier, the parameters, and the body with no slot valued.
-- By what a definition stands for.
-- a definition held is one of the 32
use Prim.Native.Nat.{ℕ, ◌+◌, ◌*◌, ◌<◌}
use native.Mathlib.Omega.{arith}
use mathlib.Core.List.{List, ◌∷◌, [], map}
use mathlib.Core.Bool.{true}
use mathlib.Core.Path.{◌≡◌, ap, sym, ◌∙◌}
use lib.ListN.{take, replicate}
use Rattle.table.specs.Words.{row_size, name_at, defs_in, first_param, fourth_param, second_param, third_param}
use Rattle.table.specs.Valid.{script_ok}
use Rattle.table.proofs.Tests.{script-fine, def-fine}
use Rattle.text_letters.specs.Forms.{listed}
use Rattle.text_process.specs.Forms.{process_text}
use Rattle.text_process.specs.Values.{process_seen}
use lib.Seq.{length-take-le}
use Rattle.text_letters.proofs.Pages.{then, same}
use Rattle.text_process.proofs.Places.{body-place}
use Rattle.text_network.proofs.Networks.{def-written}
use borrow.Author.Rules.{rules}
use Rattle.text_network.proofs.write_def.Goals as goal

few : (w : List ℕ) (d : ℕ) → (script_ok w ≡ true) × (d < defs_in w) → d < 32
few w d h = omega (arith, h.1, (script-fine w h.0).defs)

pub overflow_mul-o-4 : goal.overflow_mul-o-4
overflow_mul-o-4 c = let h = few c.args.w.now c.args.d c.requires in search rules

pub overflow_add-o-4 : goal.overflow_add-o-4
overflow_add-o-4 c = let h = few c.args.w.now c.args.d c.requires in search rules

pub overflow_mul-d : goal.overflow_mul-d
overflow_mul-d c = let h = few c.args.w.now c.args.d c.requires in search rules

pub overflow_add-d : goal.overflow_add-d
overflow_add-d c = let h = few c.args.w.now c.args.d c.requires in search rules

pub arity_of-requires : goal.arity_of-requires
arity_of-requires c = few c.args.w.now c.args.d c.requires

pub slice_bounds-o-end : goal.slice_bounds-o-end
slice_bounds-o-end c = omega (arith, c.wide.ensures, c.arity_of.ensures, (def-fine c.args.w.now c.requires.0 c.args.d c.requires.1).few)

pub slice_bounds-put_list-end : goal.slice_bounds-put_list-end
slice_bounds-put_list-end c = sym (length-take-le _ _ (omega (arith, c.wide.ensures, c.arity_of.ensures, (def-fine c.args.w.now c.requires.0 c.args.d c.requires.1).few)))

pub body_of-requires : goal.body_of-requires
body_of-requires c =
    few c.args.w.now c.args.d c.requires

pub write_process-requires : goal.write_process-requires
write_process-requires c =
    rw (c.wide-2.ensures, c.body_of.ensures) (body-place c.args.w.now c.args.d c.requires.0 c.requires.1)

pub returns : goal.returns
returns c =
    let w = c.args.w.now in
    let d = c.args.d in
    let names = same (ap (λ n. listed (map (name_at w) (take n ((first_param + d * row_size) ∷ (second_param + d * row_size) ∷ (third_param + d * row_size) ∷ (fourth_param + d * row_size) ∷ [])))) (c.wide.ensures ∙ c.arity_of.ensures)) c.put_list.ensures in
    let body = same (ap (λ n. process_text (process_seen w n (replicate 8 64))) (c.wide-2.ensures ∙ c.body_of.ensures)) c.write_process.ensures in
    same (def-written w d) (then c.put_name.ensures (then names (then c.put_all.ensures (then body c.put_end.ensures))))
