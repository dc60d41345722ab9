-- The passes write names below the rows, and rows up to the first place that they are given: what lies behind that row stays as it was, whatever is read.
-- By the writes, one after the other.
use Prim.Native.Nat.{ℕ, zero, suc, ◌+◌, ◌-◌, ◌*◌, ◌≤◌, ◌<◌}
use native.Mathlib.Omega.{arith}
use mathlib.Core.Bool.{Bool, true, false, cond}
use mathlib.Core.List.{List, [], ◌∷◌}
use mathlib.Core.Path.{◌≡◌, refl, ◌∙◌}
use lib.Dec.{ltb}
use lib.ListN.{length, set, length-set}
use lib.Seq.{sets, length-sets}
use borrow.Author.Tests.{ltb-true}
use Rattle.terms.specs.Terms.{Def}
use Rattle.terms.specs.Terms.Def.{define}
use Rattle.text.specs.Tree.{Tree}
use Rattle.table.specs.declared.Key.{Key}
use Rattle.table.specs.Words.{row_size, chans_at, parts_at, word, name_at, first_param, name_size, kind_field}
use Rattle.table.specs.Valid.{index}
use Rattle.table.specs.Tests.{key_name}
use Rattle.table.specs.Size.{size_p}
use Rattle.table.proofs.Stores.{set_out, sets-past}
use Rattle.text_build.specs.declared.Scope.{Scope}
use Rattle.text_build.specs.Tables.{key_words, held_in, number_in, add_key, enlist}
use Rattle.text_build.specs.Rows.{scope_names}
use Rattle.text_build.specs.Put.{offsets, row_of}
use Rattle.text_build.proofs.Opening.{row-length}
use Rattle.text_build.proofs.RowWords.{Eight}
use Rattle.text_build.proofs.Puts.{inner-eight}
use Rattle.text_tree.proofs.Located.{none-eight}
use Rattle.text_tree.specs.Pass.{no_scope, enter_at, params_from, heads, after_bodies, brackets}
use Rattle.text_tree.proofs.Heads.{FewParams, heads-past, heads-long}
use Rattle.text_fill.specs.Ready.{bodies_by, defined}
use Rattle.text_fill.proofs.Keeping.{Keeps, put-kept, brackets-kept}

-- the words behind the row i are the same, and they are as many
pub record Beyond (i : ℕ) (w v : List ℕ) : Type 0 where
  pub same : (o : ℕ) → 1_312 + i * row_size ≤ o → word v o ≡ word w o
  pub size : length v ≡ length w

beyond-none : {i : ℕ} {w : List ℕ} → Beyond i w w
beyond-none = record { same = λ o h. refl; size = refl }

pub beyond-then : {i : ℕ} {w v u : List ℕ} → Beyond i w v → Beyond i v u → Beyond i w u
beyond-then f g = record { same = λ o h. g.same o h ∙ f.same o h; size = g.size ∙ f.size }

-- less is behind a lower row
lower : {i j : ℕ} {w v : List ℕ} → j ≤ i → Beyond j w v → Beyond i w v
lower l f = record { same = λ o h. f.same o (omega arith); size = f.size }

one-beyond : {i : ℕ} (w : List ℕ) (o a : ℕ) → o < parts_at → Beyond i w (set w o a)
one-beyond w o a b = record { same = λ x h. set_out w o x a (λ e. omega arith); size = length-set w o a }

run-beyond : {i : ℕ} (w : List ℕ) (o : ℕ) (vs : List ℕ) → o + length vs ≤ 1_312 + i * row_size → Beyond i w (sets w o vs)
run-beyond w o vs b = record { same = λ x h. sets-past vs w o x (omega arith); size = length-sets w o vs }

-- ── names ──
enlist-beyond : {i : ℕ} (w : List ℕ) (o n : ℕ) (k : Key) → o ≤ chans_at → n ≤ 2 → Beyond i w (enlist w o n k)
unfolding enlist add_key
enlist-beyond {i} w o n k low m = go₁ (ltb (number_in w o (held_in w n) (key_name k)) (held_in w n)) (ltb (held_in w n) 64) refl
  where
    go₁ : (p q : Bool) → ltb (held_in w n) 64 ≡ q → Beyond i w (cond p w (cond q (set (sets w (o + held_in w n * name_size) (key_words k)) n (held_in w n + 1)) (set w 4 1)))
    go₁ true q e = beyond-none
    go₁ false true e =
        let h = ltb-true (held_in w n) 64 e in
        beyond-then (run-beyond w (o + held_in w n * name_size) (key_words k) (omega arith)) (one-beyond _ n (held_in w n + 1) (omega arith))
    go₁ false false e = one-beyond w 4 1 (omega arith)

-- ── parts and processes ──
beyond : Keeps Beyond Eight
beyond = record {
  none = beyond-none;
  then = beyond-then;
  lower = lower;
  flag = λ w. one-beyond w 4 1 (omega arith);
  name = λ w o n k low high l m. enlist-beyond w o n k high m;
  words = λ w i j vs h. run-beyond w (parts_at + i * row_size + j) vs (omega arith);
  row = λ w u i sc a e. run-beyond u (parts_at + i * row_size + kind_field) (row_of w i sc a) (omega (arith, row-length w i sc a e));
  inner = inner-eight;
  outer = none-eight;
}

-- ── bodies and located processes ──
params-eight : (w : List ℕ) (k j m : ℕ) (sc : Scope) → length sc.at ≡ 8 → sc.n + m ≤ 8 → Eight (params_from w k j m sc)
unfolding params_from enter_at
params-eight w k j zero sc e h = record { few = omega arith; slots = e }
params-eight w k j (suc m) sc e h =
    let g = go₁ (ltb (index (scope_names w (offsets sc)) (name_at w (first_param + k * row_size + j * name_size))) sc.n) in
    params-eight w k (j + 1) m _ g.0 g.1
  where
    go₁ : (p : Bool) → (length (cond p sc (record { n = sc.n + 1; at = set sc.at sc.n (first_param + k * row_size + j * name_size) })).at ≡ 8) × ((cond p sc (record { n = sc.n + 1; at = set sc.at sc.n (first_param + k * row_size + j * name_size) })).n + m ≤ 8)
    go₁ true = (e, omega arith)
    go₁ false = (length-set sc.at sc.n (first_param + k * row_size + j * name_size) ∙ e, omega arith)

bodies-beyond : (ds : List Def) (k i : ℕ) (w : List ℕ) → FewParams ds → Beyond i w (bodies_by ds k i w)
unfolding bodies_by
bodies-beyond [] k i w few = beyond-none
bodies-beyond (define x us p ∷ ds) k i w few = beyond-then (put-kept beyond p i _ w (params-eight w k 0 (length us) no_scope refl (omega (arith, few.0)))) (lower (omega arith) (bodies-beyond ds (k + 1) (i - size_p p) _ few.1))

pub after-low : (ds : List Def) (i : ℕ) → after_bodies ds i ≤ i
unfolding after_bodies
after-low [] i = omega arith
after-low (define x us p ∷ ds) i = let h = after-low ds (i - size_p p) in omega arith

-- all passes
pub filled-beyond : (t : Tree) (w : List ℕ) (parts n : ℕ) → FewParams t.defs → length t.defs ≤ 32 → Beyond (parts - 1) w (brackets t.located (after_bodies t.defs (parts - 1)) (defined w parts n t))
filled-beyond t w parts n few d =
    let i : ℕ = parts - 1 in
    let u : List ℕ = set (set w 0 parts) 3 n in
    let heads-beyond : Beyond i u (heads t.defs 0 i u) = record { same = λ o h. heads-past t.defs u 0 i o few (omega arith); size = heads-long t.defs u 0 i } in
    beyond-then (one-beyond w 0 parts (omega arith))
    (beyond-then (one-beyond (set w 0 parts) 3 n (omega arith))
    (beyond-then heads-beyond
    (beyond-then (bodies-beyond t.defs 0 i _ few)
    (lower (after-low t.defs i) (brackets-kept beyond t.located (after_bodies t.defs i) _)))))
