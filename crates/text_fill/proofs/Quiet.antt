-- Below the tables of names the second pass writes only the two counts of names and the mark of a name too many: the heads of definitions and the numbers
-- of parts and definitions stay as they are, whatever is read. By the writes, one after the other.
use Prim.Native.Nat.{ℕ, ◌+◌, ◌-◌, ◌*◌, ◌≤◌, ◌<◌}
use native.Mathlib.Omega.{arith}
use mathlib.Core.Bool.{Bool, true, false, cond}
use mathlib.Core.List.{List, [], ◌∷◌}
use mathlib.Core.Path.{◌≡◌, refl, sym, ap, ◌∙◌}
use lib.Dec.{ltb}
use lib.ListN.{length, set}
use lib.Seq.{sets}
use Rattle.terms.specs.Terms.{Def}
use Rattle.terms.specs.Terms.Def.{define}
use Rattle.text.specs.Tree.{Located}
use Rattle.table.specs.declared.Key.{Key}
use Rattle.table.specs.Words.{row_size, locs_at, parts_at, word, arity_of, name_size}
use Rattle.table.specs.Tests.{key_name}
use Rattle.table.specs.Size.{size_p}
use Rattle.table.proofs.Stores.{set_out, sets-under}
use Rattle.text_build.specs.Tables.{key_words, held_in, number_in, add_key, enlist}
use Rattle.text_build.specs.Put.{row_of, put}
use Rattle.text_tree.specs.Pass.{no_scope, params_from, param_scope, bodies, brackets}
use Rattle.text_tree.proofs.Heads.{HeadsStand, FewParams, heads-kept}
use Rattle.text_fill.specs.Ready.{bodies_by}
use Rattle.text_fill.proofs.Keeping.{Keeps, put-kept, brackets-kept}

-- the words below 776, but for 1, 2 and 4, are the same
pub record Quiet (w v : List ℕ) : Type 0 where
  pub same : (o : ℕ) → o < locs_at → (o ≡ 1 → ⊥) → (o ≡ 2 → ⊥) → (o ≡ 4 → ⊥) → word v o ≡ word w o

quiet_none : {w : List ℕ} → Quiet w w
quiet_none = record { same = λ o h a b c. refl }

pub quiet_then : {w v u : List ℕ} → Quiet w v → Quiet v u → Quiet w u
quiet_then f g = record { same = λ o h a b c. g.same o h a b c ∙ f.same o h a b c }

-- ── names ──
enlist-quiet : (w : List ℕ) (o n : ℕ) (k : Key) → locs_at ≤ o → 1 ≤ n → n ≤ 2 → Quiet w (enlist w o n k)
unfolding enlist add_key
enlist-quiet w o n k low l m = record { same = λ x h a b c. go₁ x h a b c (ltb (number_in w o (held_in w n) (key_name k)) (held_in w n)) (ltb (held_in w n) 64) }
  where
    go₁ : (x : ℕ) → x < locs_at → (x ≡ 1 → ⊥) → (x ≡ 2 → ⊥) → (x ≡ 4 → ⊥) → (p q : Bool) → word (cond p w (cond q (set (sets w (o + held_in w n * name_size) (key_words k)) n (held_in w n + 1)) (set w 4 1))) x ≡ word w x
    go₁ x h a b c true q = refl
    go₁ x h a b c false true = set_out (sets w (o + held_in w n * name_size) (key_words k)) n x (held_in w n + 1) (λ e. omega arith) ∙ sets-under (key_words k) w (o + held_in w n * name_size) x (omega arith)
    go₁ x h a b c false false = set_out w 4 x 1 c

-- ── rows ──
row-quiet : (w : List ℕ) (i k : ℕ) (vs : List ℕ) → Quiet w (sets w (parts_at + i * row_size + k) vs)
row-quiet w i k vs = record { same = λ o h a b c. sets-under vs w (parts_at + i * row_size + k) o (omega arith) }

-- ── parts and processes ──
quiet : Keeps (λ i w v. Quiet w v) (λ sc. Unit {0})
quiet = record {
  none = quiet_none;
  then = quiet_then;
  lower = λ l f. f;
  flag = λ w. record { same = λ o h a b c. set_out w 4 o 1 c };
  name = λ w o n k low high l m. enlist-quiet w o n k low l m;
  words = λ w i j vs h. row-quiet w i j vs;
  row = λ w u i sc a e. row-quiet u i 0 (row_of w i sc a);
  inner = λ w i sc y e. tt;
  outer = tt;
}

-- ── bodies and located processes ──
pub bodies-quiet : (ds : List Def) (k i : ℕ) (w : List ℕ) → Quiet w (bodies ds k i w)
unfolding bodies
bodies-quiet [] k i w = quiet_none
bodies-quiet (define x us p ∷ ds) k i w = quiet_then (put-kept quiet p i (param_scope w k) w tt) (bodies-quiet ds (k + 1) (i - size_p p) _)

pub brackets-quiet : (ls : List Located) (i : ℕ) (w : List ℕ) → Quiet w (brackets ls i w)
brackets-quiet ls i w = brackets-kept quiet ls i w

-- so a body's scope may be taken from its definition's number of parameters
pub bodies-same : (ds : List Def) (k i : ℕ) (w : List ℕ) → FewParams ds → k + length ds ≤ 32 → HeadsStand w ds k i → bodies_by ds k i w ≡ bodies ds k i w
unfolding bodies_by bodies param_scope
bodies-same [] k i w few h s = refl
bodies-same (define x us p ∷ ds) k i w few h s =
    let v = put p i (params_from w k 0 (arity_of w k) no_scope) w in
    let q = put-kept quiet p i (params_from w k 0 (arity_of w k) no_scope) w tt in
    ap (λ n. bodies_by ds (k + 1) (i - size_p p) (put p i (params_from w k 0 n no_scope) w)) (sym s.0.arity)
    ∙ bodies-same ds (k + 1) (i - size_p p) v few.1 (omega arith) (heads-kept ds w v (k + 1) (i - size_p p) few.1 (omega arith) (λ o a b. q.same o b (λ e. omega arith) (λ e. omega arith) (λ e. omega arith)) s.1)
