-- The writes of the second pass, one after the other: what each of them keeps of a script is kept by parts, processes and located processes.
-- By recursion on these, for any relation of the scripts before and after.
use Prim.Native.Nat.{ℕ, suc, ◌+◌, ◌-◌, ◌*◌, ◌≤◌}
use native.Mathlib.Omega.{arith}
use mathlib.Core.Bool.{Bool, true, false, cond}
use mathlib.Core.List.{List, [], ◌∷◌}
use lib.Dec.{ltb}
use lib.ListN.{length, set}
use lib.Seq.{sets}
use Rattle.terms.specs.Names.{Name}
use Rattle.terms.specs.Terms.{Value, Part, Process}
use Rattle.terms.specs.Terms.Value.{loc, var}
use Rattle.terms.specs.Terms.Part.{stop, go, out, inp, call}
use Rattle.terms.specs.Terms.Process.{one, ◌∥◌}
use Rattle.text.specs.Tree.{Located}
use Rattle.text.specs.Tree.Located.{at}
use Rattle.table.specs.declared.Key.{Key}
use Rattle.table.specs.Words.{row_size, chans_at, locs_at, parts_at, kind_field}
use Rattle.table.specs.Size.{size, size_p}
use Rattle.text_build.specs.declared.Scope.{Scope}
use Rattle.text_build.specs.Keys.{key_of}
use Rattle.text_build.specs.Tables.{enlist}
use Rattle.text_build.specs.Rows.{first_place, second_place}
use Rattle.text_build.specs.Put.{slot_of, enter_loc, enter_chan, enter_value, enter_values, enter_part, row_of, opened, set_second, linked, inner_scope, scope_mark, put_part, put}
use Rattle.text_tree.specs.Pass.{no_scope, put_located, brackets}

-- R i w v: what the writes up to the row i keep, w before and v after; G: the scopes under which it is kept
pub record Keeps (R : ℕ → List ℕ → List ℕ → Type 0) (G : Scope → Type 0) : Type 0 where
  pub none : {i : ℕ} {w : List ℕ} → R i w w
  pub then : {i : ℕ} {w v u : List ℕ} → R i w v → R i v u → R i w u
  pub lower : {i j : ℕ} {w v : List ℕ} → j ≤ i → R j w v → R i w v
  pub flag : {i : ℕ} (w : List ℕ) → R i w (set w 4 1)
  pub name : {i : ℕ} (w : List ℕ) (o n : ℕ) (k : Key) → locs_at ≤ o → o ≤ chans_at → 1 ≤ n → n ≤ 2 → R i w (enlist w o n k)
  pub words : (w : List ℕ) (i j : ℕ) (vs : List ℕ) → j + length vs ≤ row_size → R i w (sets w (parts_at + i * row_size + j) vs)
  pub row : (w u : List ℕ) (i : ℕ) (sc : Scope) (a : Part) → G sc → R i u (sets u (parts_at + i * row_size + kind_field) (row_of w i sc a))
  pub inner : (w : List ℕ) (i : ℕ) (sc : Scope) (y : Name) → G sc → G (inner_scope w i sc y)
  pub outer : G no_scope

module _ {R : ℕ → List ℕ → List ℕ → Type 0} {G : Scope → Type 0} (k : Keeps R G) where
  -- ── names ──
  location-kept : {i : ℕ} (w : List ℕ) (l : Name) → R i w (enter_loc w l)
  unfolding enter_loc
  location-kept w l = k.name w locs_at 1 (key_of l) (omega arith) (omega arith) (omega arith) (omega arith)

  value-kept : {i : ℕ} (w : List ℕ) (v : Value) → R i w (enter_value w v)
  unfolding enter_value
  value-kept w (loc l) = location-kept w l
  value-kept w (var x) = k.none

  values-kept : {i : ℕ} (vs : List Value) (w : List ℕ) → R i w (enter_values w vs)
  unfolding enter_values
  values-kept [] w = k.none
  values-kept (v ∷ vs) w = k.then (value-kept w v) (values-kept vs (enter_value w v))

  chan-kept : {i : ℕ} (w : List ℕ) (c : Name) → R i w (enter_chan w c)
  unfolding enter_chan
  chan-kept w c = k.name w chans_at 2 (key_of c) (omega arith) (omega arith) (omega arith) (omega arith)

  enter-kept : {i : ℕ} (w : List ℕ) (a : Part) → R i w (enter_part w a)
  unfolding enter_part
  enter-kept w stop = k.none
  enter-kept w (go t v p) = value-kept w v
  enter-kept w (out c t v p q) = k.then (chan-kept w c) (value-kept (enter_chan w c) v)
  enter-kept w (inp c t y p q) = chan-kept w c
  enter-kept w (call d vs) = values-kept vs w

  mark-kept : {i : ℕ} (w : List ℕ) (sc : Scope) (y : Name) → R i w (scope_mark w sc y)
  unfolding scope_mark
  mark-kept {i} w sc y = go₁ (ltb (slot_of w sc y) sc.n) (ltb sc.n 8)
    where
      go₁ : (p q : Bool) → R i w (cond p w (cond q w (set w 4 1)))
      go₁ true q = k.none
      go₁ false true = k.none
      go₁ false false = k.flag w

  -- ── rows ──
  opened-kept : (w : List ℕ) (i : ℕ) (sc : Scope) (a : Part) → G sc → R i w (opened w i sc a)
  unfolding opened
  opened-kept w i sc a e = k.then (enter-kept w a) (k.row w (enter_part w a) i sc a e)

  second-kept : (w : List ℕ) (i q : ℕ) → R i w (set_second w i q)
  unfolding set_second
  second-kept w i q = k.words w i 5 (q ∷ []) (omega arith)

  linked-kept : (w : List ℕ) (i n l : ℕ) → R i w (linked w i n l)
  unfolding linked
  linked-kept w i n l = k.words w i 6 (n ∷ l ∷ []) (omega arith)

  -- a part's row, and its two processes behind it
  two : {w u v x : List ℕ} (i j l : ℕ) → j ≤ i → l ≤ i → R i w u → R j u v → R l v x → (q : ℕ) → R i w (set_second x i q)
  two i j l a b f g h q = k.then f (k.then (k.lower a g) (k.then (k.lower b h) (second-kept _ i q)))

  -- ── parts and processes ──
  mutual
    unfolding put_part put

    part-kept : (a : Part) (i : ℕ) (sc : Scope) (w : List ℕ) → G sc → R i w (put_part a i sc w)
    part-kept stop i sc w e = opened-kept w i sc stop e
    part-kept (go t v p) i sc w e = k.then (opened-kept w i sc (go t v p) e) (k.lower (omega arith) (put-kept p (first_place i) sc _ e))
    part-kept (out c t v p q) i sc w e =
        two i (first_place i) (second_place i p) (omega arith) (omega arith) (opened-kept w i sc (out c t v p q) e) (put-kept p (first_place i) sc _ e) (put-kept q (second_place i p) sc _ e) (second_place i p)
    part-kept (inp c t y p q) i sc w e =
        let r = k.then (mark-kept w sc y) (opened-kept (scope_mark w sc y) i sc (inp c t y p q) e) in
        two i (first_place i) (second_place i p) (omega arith) (omega arith) r (put-kept p (first_place i) (inner_scope w i sc y) _ (k.inner w i sc y e)) (put-kept q (second_place i p) sc _ e) (second_place i p)
    part-kept (call d vs) i sc w e = opened-kept w i sc (call d vs) e

    pub put-kept : (p : Process) (i : ℕ) (sc : Scope) (w : List ℕ) → G sc → R i w (put p i sc w)
    put-kept (one a) i sc w e = k.then (part-kept a i sc w e) (linked-kept _ i 0 (suc i - size a))
    put-kept (a ∥ p) i sc w e =
        k.then (part-kept a i sc w e)
        (k.then (k.lower (omega arith) (put-kept p (i - size a) sc (put_part a i sc w) e)) (linked-kept _ i (suc (i - size a)) (suc i - (size a + size_p p))))

  -- ── located processes ──
  pub brackets-kept : (ls : List Located) (i : ℕ) (w : List ℕ) → R i w (brackets ls i w)
  unfolding brackets put_located
  brackets-kept [] i w = k.none
  brackets-kept (at l p ∷ ls) i w = k.then (location-kept w l) (k.then (put-kept p i no_scope _ k.outer) (k.lower (omega arith) (brackets-kept ls (i - size_p p) _)))
