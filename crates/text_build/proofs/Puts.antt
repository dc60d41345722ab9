-- The second pass writes rows that stand for the process: unless the word 4 says that a table or a scope is full, `put p i sc w` has p standing at i.
-- By induction on the process, write by write: what was written before goes on standing (proofs/Kept), since each write lies elsewhere (`Frame`) and
-- only adds names (`Grown`).
use Prim.Native.Nat.{ℕ, suc, ◌+◌, ◌-◌, ◌*◌, ◌≤◌, ◌<◌}
use native.Mathlib.Omega.{arith}
use mathlib.Core.List.{List, [], ◌∷◌, ◌++◌}
use mathlib.Core.Bool.{Bool, true, false, cond}
use mathlib.Core.Path.{◌≡◌, refl, sym, ◌∙◌}
use borrow.Author.Tests.{ltb-true}
use lib.Dec.{ltb}
use lib.ListN.{length, set, take, length-set}
use lib.Seq.{sets, length-sets, get_or-set_same, length-take-le, take-suc-set}
use Rattle.terms.specs.Names.{Name}
use Rattle.terms.specs.Terms.{Timer, Value, Part, Process}
use Rattle.terms.specs.Terms.Part.{stop, go, out, inp, call}
use Rattle.terms.specs.Terms.Process.{one, ◌∥◌}
use Rattle.terms.specs.Same.{every}
use Rattle.terms.proofs.Names.{and-inv, and_in}
use Rattle.terms.specs.Letters.{is_small}
use Rattle.text.specs.WellFormed.{Each, WellPart, WellProcess}
use Rattle.text.specs.Questions.{Place, into, part_places, process_places}
use Rattle.table.specs.Words.{row_size, owns_at, parts_at, word, field, name_at, own_at, next_field, second_field}
use Rattle.table.specs.Valid.{index}
use Rattle.table.proofs.Tests.{every_append}
use Rattle.table.specs.Size.{size, size_p}
use Rattle.text_build.specs.declared.Scope.{Scope}
use Rattle.text_build.specs.Rows.{Row, Below, Stands, scope_names, head_of, first_place, second_place, entering, chan_known, args_of}
use Rattle.text_build.specs.Growth.{value_listed, part_listed, place_listed, Grown, Frame, Making}
use Rattle.text_build.specs.Put.{offsets, slot_of, enter_part, row_words, row_of, opened, set_second, linked, inner_scope, scope_mark, put_part, put}
use Rattle.text_build.proofs.Places.{PartFit, Fit, here, size-some, size_p-some}
use Rattle.table.proofs.Stores.{sets-under, sets-past}
use Rattle.text_build.proofs.Grows.{Grew, grew_then, row_grew, mark-back}
use Rattle.text_build.proofs.RowWords.{RowIs, Eight, row-after, row_new, row_kept}
use Rattle.text_build.proofs.Entering.{Clear, Settled, settled_same, settled-lower, listed-on, grew_none}
use Rattle.text_build.proofs.Entering.Clear.{higher}
use Rattle.text_build.proofs.Opening.{second_of, finished, row-length, part-back, PartIn, part_in, part-row, own_name, slot_is}
use Rattle.text_build.proofs.Numbers.{names-entered}
use Rattle.text_build.proofs.Kept.{entering-same, entered-same, below-kept, kept}

-- ── the mark of a name too many is never taken back ──
pub row-flag : (w : List ℕ) (i k : ℕ) (vs : List ℕ) → word (sets w (parts_at + i * row_size + k) vs) 4 ≡ word w 4
row-flag w i k vs = sets-under vs w (parts_at + i * row_size + k) 4 (omega arith)

pub opened-back : (a : Part) (w : List ℕ) (i : ℕ) (sc : Scope) → word (opened w i sc a) 4 ≡ 0 → word (enter_part w a) 4 ≡ 0
unfolding opened
opened-back a w i sc e = sym (row-flag (enter_part w a) i 0 (row_of w i sc a)) ∙ e

pub second_back : (w : List ℕ) (i q : ℕ) → word (set_second w i q) 4 ≡ 0 → word w 4 ≡ 0
unfolding set_second
second_back w i q e = sym (row-flag w i 5 (q ∷ [])) ∙ e

pub linked-back : (w : List ℕ) (i n l : ℕ) → word (linked w i n l) 4 ≡ 0 → word w 4 ≡ 0
unfolding linked
linked-back w i n l e = sym (row-flag w i 6 (n ∷ l ∷ [])) ∙ e

pub scope-back : (w : List ℕ) (sc : Scope) (y : Name) → word (scope_mark w sc y) 4 ≡ 0 → word w 4 ≡ 0
unfolding scope_mark
scope-back w sc y e = go (ltb (slot_of w sc y) sc.n) (ltb sc.n 8) e
  where
    go : (a b : Bool) → word (cond a w (cond b w (set w 4 1))) 4 ≡ 0 → word w 4 ≡ 0
    go true b e = e
    go false true e = e
    go false false e = mark-back w e

mutual
  unfolding put_part put

  pub put_part-back : (a : Part) (i : ℕ) (sc : Scope) (w : List ℕ) → word (put_part a i sc w) 4 ≡ 0 → word w 4 ≡ 0
  put_part-back stop i sc w e = part-back stop w (opened-back stop w i sc e)
  put_part-back (go t v p) i sc w e = part-back (go t v p) w (opened-back (go t v p) w i sc (put_back p (first_place i) sc _ e))
  put_part-back (out c t v p q) i sc w e =
      part-back (out c t v p q) w (opened-back (out c t v p q) w i sc (put_back p (first_place i) sc _ (put_back q (second_place i p) sc _ (second_back _ i _ e))))
  put_part-back (inp c t y p q) i sc w e =
      scope-back w sc y (part-back (inp c t y p q) _ (opened-back (inp c t y p q) _ i sc (put_back p (first_place i) (inner_scope w i sc y) _ (put_back q (second_place i p) sc _ (second_back _ i _ e)))))
  put_part-back (call d vs) i sc w e = part-back (call d vs) w (opened-back (call d vs) w i sc e)

  pub put_back : (p : Process) (i : ℕ) (sc : Scope) (w : List ℕ) → word (put p i sc w) 4 ≡ 0 → word w 4 ≡ 0
  put_back (one a) i sc w e = put_part-back a i sc w (linked-back _ i _ _ e)
  put_back (a ∥ p) i sc w e = put_part-back a i sc w (put_back p (i - size a) sc _ (linked-back _ i _ _ e))

-- ── the scope of an input's P ──
pub inner-eight : (w : List ℕ) (i : ℕ) (sc : Scope) (y : Name) → Eight sc → Eight (inner_scope w i sc y)
unfolding inner_scope
inner-eight w i sc y e = go (ltb (slot_of w sc y) sc.n) (ltb sc.n 8) refl
  where
    go : (a b : Bool) → ltb sc.n 8 ≡ b → Eight (cond a sc (cond b (record { n = sc.n + 1; at = set sc.at sc.n (own_at i) }) sc))
    go true b q = e
    go false true q = record { few = omega (arith, ltb-true sc.n 8 q); slots = length-set sc.at sc.n (own_at i) ∙ e.slots }
    go false false q = e

module _ (w : List ℕ) (m : Making w) (i : ℕ) (sc : Scope) (e : Eight sc) (y : Name) (s : is_small y ≡ true) (z : word (scope_mark w sc y) 4 ≡ 0) where
  full-never : word (set w 4 1) 4 ≡ 0 → ⊥
  full-never q = let l = m.long in let g : word (set w 4 1) 4 ≡ 1 = get_or-set_same w 4 1 0 (omega arith) in omega arith

  pub mark-none : scope_mark w sc y ≡ w
  unfolding scope_mark
  mark-none = go (ltb (slot_of w sc y) sc.n) (ltb sc.n 8) z
    where
      go : (a b : Bool) → word (cond a w (cond b w (set w 4 1))) 4 ≡ 0 → cond a w (cond b w (set w 4 1)) ≡ w
      go true b q = refl
      go false true q = refl
      go false false q = absurd (full-never q)

  pub inner-offsets : offsets (inner_scope w i sc y) ≡ entering w i (offsets sc) y
  unfolding inner_scope entering
  inner-offsets =
      let n : length (offsets sc) ≡ sc.n = let f = e.few in let g = e.slots in length-take-le sc.n sc.at (omega arith) in
      rw (n, ← slot_is w sc y s) (go (ltb (slot_of w sc y) sc.n) refl (ltb sc.n 8) refl z)
    where
      push : sc.n < 8 → take (sc.n + 1) (set sc.at sc.n (own_at i)) ≡ offsets sc ++ (own_at i ∷ [])
      push h =
          let q : sc.n + 1 ≡ suc sc.n = omega arith in
          let l = e.slots in
          rw q (take-suc-set sc.at sc.n (own_at i) (omega arith))

      go : (a : Bool) → ltb (slot_of w sc y) sc.n ≡ a → (b : Bool) → ltb sc.n 8 ≡ b → word (scope_mark w sc y) 4 ≡ 0
          → offsets (cond a sc (cond b (record { n = sc.n + 1; at = set sc.at sc.n (own_at i) }) sc)) ≡ cond a (offsets sc) (offsets sc ++ (own_at i ∷ []))
      go true p b q z = refl
      go false p true q z = push (ltb-true sc.n 8 q)
      go false p false q z = absurd (full-never (unfold scope_mark in rw (p, q) at z))

each_snoc : {A : Type 0} (P : A → Type 0) (xs : List A) (x : A) → Each P xs → P x → Each P (xs ++ (x ∷ []))
each_snoc P [] x e h = (h, tt)
each_snoc P (y ∷ xs) x e h = (e.0, each_snoc P xs x e.1 h)

pub settled-entering : (w : List ℕ) (i : ℕ) (os : List ℕ) (y : Name) → 1 ≤ i → Settled i os → Settled (first_place i) (entering w i os y)
unfolding entering own_at
settled-entering w i os y h s = go (ltb (index (scope_names w os) y) (length os))
  where
    go : (b : Bool) → Settled (first_place i) (cond b os (os ++ ((owns_at + i * row_size) ∷ [])))
    go true = settled-lower i (first_place i) os (omega arith) s
    go false = each_snoc (Clear (first_place i)) os (owns_at + i * row_size) (settled-lower i (first_place i) os (omega arith) s) (higher (omega arith))

-- ── names that are listed stay listed ──
pub every-also : {A : Type 0} (f g : A → Bool) → ((x : A) → f x ≡ true → g x ≡ true) → (xs : List A) → every f xs ≡ true → every g xs ≡ true
unfolding every
every-also f g h [] e = refl
every-also f g h (x ∷ xs) e = let r = and-inv (f x) _ e in and_in _ _ (h x r.0) (every-also f g h xs r.1)

module _ (w v : List ℕ) (g : Grown w v) where
  part-on : (a : Part) → part_listed w a ≡ true → part_listed v a ≡ true
  unfolding part_listed
  part-on stop e = refl
  part-on (go t x p) e = listed-on w v g x e
  part-on (out c t x p q) e = let r = and-inv (chan_known w c) _ e in and_in _ _ (g.chans-on c r.0) (listed-on w v g x r.1)
  part-on (inp c t y p q) e = g.chans-on c e
  part-on (call d xs) e = every-also (value_listed w) (value_listed v) (λ x h. listed-on w v g x h) xs e

  place-on : (x : Place) → place_listed w x ≡ true → place_listed v x ≡ true
  unfolding place_listed
  place-on x e = part-on x.part e

  pub fit_on : (p : Process) (d : ℕ) (ys zs : List Name) → zs ≡ ys → Fit (place_listed w) p d ys → Fit (place_listed v) p d zs
  fit_on p d ys zs q e = rw q (every-also (place_listed w) (place_listed v) place-on (process_places p d ys) e)

  part-fit-on : (a : Part) (d : ℕ) (ys zs : List Name) → zs ≡ ys → PartFit (place_listed w) a d ys → PartFit (place_listed v) a d zs
  part-fit-on a d ys zs q e = rw q (every-also (place_listed w) (place_listed v) place-on (part_places a d ys) e)

-- ── a test of every place, put together ──
module _ (f : Place → Bool) (d : ℕ) (ys : List Name) where
  pub leaf-fit : (a : Part) → part_places a d ys ≡ here f a d ys ∷ [] → f (here f a d ys) ≡ true → PartFit f a d ys
  unfolding every
  leaf-fit a q e = rw q (and_in _ _ e refl)

  pub go-fit : (t : Timer) (v : Value) (p : Process) → f (here f (go t v p) d ys) ≡ true → Fit f p (suc d) ys → PartFit f (go t v p) d ys
  unfolding part_places every
  go-fit t v p e h = and_in _ _ e h

  pub out-fit : (c : Name) (t : Timer) (v : Value) (p q : Process) → f (here f (out c t v p q) d ys) ≡ true → Fit f p (suc d) ys → Fit f q (suc d) ys → PartFit f (out c t v p q) d ys
  unfolding part_places every
  out-fit c t v p q e h k = and_in _ _ e (every_append f (process_places p (suc d) ys) _ h k)

  pub in-fit : (c : Name) (t : Timer) (y : Name) (p q : Process) → f (here f (inp c t y p q) d ys) ≡ true → Fit f p (suc d) (into ys y) → Fit f q (suc d) ys → PartFit f (inp c t y p q) d ys
  unfolding part_places every
  in-fit c t y p q e h k = and_in _ _ e (every_append f (process_places p (suc d) (into ys y)) _ h k)

  pub par-fit : (a : Part) (p : Process) → PartFit f a d ys → Fit f p d ys → Fit f (a ∥ p) d ys
  unfolding process_places
  par-fit a p h k = every_append f (part_places a d ys) _ h k

-- ── a row on its way ──
pub unfinished : (a : Part) (w : List ℕ) (i : ℕ) (sc : Scope) → row_of w i sc a ≡ finished (row_of w i sc a) 0 0 0
unfolding row_of row_words
unfinished stop w i sc = refl
unfinished (go t v p) w i sc = refl
unfinished (out c t v p q) w i sc = refl
unfinished (inp c t y p q) w i sc = refl
unfinished (call d vs) w i sc = refl

with_second : (a : Part) (w : List ℕ) (i : ℕ) (sc : Scope) (q : ℕ) → sets (row_of w i sc a) 5 (q ∷ []) ≡ finished (row_of w i sc a) q 0 0
unfolding row_of row_words
with_second stop w i sc q = refl
with_second (go t v p) w i sc q = refl
with_second (out c t v p r) w i sc q = refl
with_second (inp c t y p r) w i sc q = refl
with_second (call d vs) w i sc q = refl

with-links : (a : Part) (w : List ℕ) (i : ℕ) (sc : Scope) (q n l : ℕ) → sets (finished (row_of w i sc a) q 0 0) 6 (n ∷ l ∷ []) ≡ finished (row_of w i sc a) q n l
unfolding row_of row_words
with-links stop w i sc q n l = refl
with-links (go t v p) w i sc q n l = refl
with-links (out c t v p r) w i sc q n l = refl
with-links (inp c t y p r) w i sc q n l = refl
with-links (call d vs) w i sc q n l = refl

-- the name that a row binds, while other words of the row or rows below are written
own-past : (w : List ℕ) (i k : ℕ) (vs : List ℕ) → k + length vs ≤ 17 → name_at (sets w (parts_at + i * row_size + k) vs) (own_at i) ≡ name_at w (own_at i)
unfolding name_at own_at
own-past w i k vs h = rw (past 1 (omega arith), past 2 (omega arith), past 3 (omega arith), past_first)
  where
    past : (j : ℕ) → j < 4 → word (sets w (parts_at + i * row_size + k) vs) (owns_at + i * row_size + j) ≡ word w (owns_at + i * row_size + j)
    past j l = sets-past vs w (parts_at + i * row_size + k) (owns_at + i * row_size + j) (omega arith)

    past_first : word (sets w (parts_at + i * row_size + k) vs) (owns_at + i * row_size) ≡ word w (owns_at + i * row_size)
    past_first = sets-past vs w (parts_at + i * row_size + k) (owns_at + i * row_size) (omega arith)

own-above : (w v : List ℕ) (low j i : ℕ) → Frame w v low j → j < i → name_at v (own_at i) ≡ name_at w (own_at i)
unfolding name_at own_at
own-above w v low j i f h = rw (f.above (owns_at + i * row_size + 1) (omega arith), f.above (owns_at + i * row_size + 2) (omega arith), f.above (owns_at + i * row_size + 3) (omega arith), f.above (owns_at + i * row_size) (omega arith))

-- ── the row of a part, opened ──
module _ (a : Part) (w : List ℕ) (i : ℕ) (sc : Scope) (m : Making w) (e : Eight sc) (p : WellPart a) (h : i < 4_096) (z : word (opened w i sc a) 4 ≡ 0) where
  names_in : PartIn w (enter_part w a) a
  names_in = part_in w m a p (opened-back a w i sc z)

  row_step : Grew (enter_part w a) (opened w i sc a) i i
  unfolding opened
  row_step = row_grew (enter_part w a) (names_in.grew i i).making i 0 (row_of w i sc a) (let l = row-length w i sc a e in omega arith)

  pub open-grew : Grew w (opened w i sc a) i i
  open-grew = grew_then i i (names_in.grew i i) row_step (omega arith) (omega arith) (omega arith) (omega arith)

  pub open_row : RowIs (opened w i sc a) i (row_of w i sc a)
  unfolding opened
  open_row = row_new (enter_part w a) i (row_of w i sc a) (row-length w i sc a e) (let l = (names_in.grew i i).making.long in omega arith)

  open-listed : part_listed (opened w i sc a) a ≡ true
  open-listed = part-on (enter_part w a) (opened w i sc a) row_step.grown a names_in.listed

  -- its head in a later script
  open-head : (u : List ℕ) (low n l : ℕ) → low ≤ i → Settled i (offsets sc) → Grew (opened w i sc a) u low i
      → RowIs u i (finished (row_of w i sc a) (second_of i a) n l)
      → Row u i (head_of u i (scope_names u (offsets sc)) a) (args_of u (scope_names u (offsets sc)) a) n l (offsets sc)
  open-head u low n l k s g r =
      let t = grew_then low i row_step g k (omega arith) (omega arith) (omega arith) in
      part-row w m u i low n l sc e s a p (opened-back a w i sc z) t.grown t.frame r

-- ── what is written ──
pub record Puts (w v : List ℕ) (p : Process) (i d : ℕ) (os : List ℕ) : Type 0 where
  pub stands : Stands v p i os
  pub listed : Fit (place_listed v) p d (scope_names v os)
  pub grew : Grew w v (suc i - size_p p) i

pub record PutsPart (w v : List ℕ) (a : Part) (i d : ℕ) (sc : Scope) : Type 0 where
  pub below : Below v a i (offsets sc)
  pub listed : PartFit (place_listed v) a d (scope_names v (offsets sc))
  pub later : Grew (opened w i sc a) v (suc i - size a) i
  pub row : RowIs v i (finished (row_of w i sc a) (second_of i a) 0 0)
  pub unmarked : word (opened w i sc a) 4 ≡ 0

widen : {w v : List ℕ} {low₁ i₁ : ℕ} (low i : ℕ) → Making w → Grew w v low₁ i₁ → low ≤ low₁ → i₁ ≤ i → Grew w v low i
widen {w = w} low i m g a b = grew_then low i (grew_none w m low i) g (omega arith) a (omega arith) b

-- the rows below i are those of a script whose row at i was written
under_same : (w v : List ℕ) (i : ℕ) → Frame w v i i → (j k : ℕ) → j < i → k < row_size → field v j k ≡ field w j k
under_same w v i f j k h l = f.under (parts_at + j * row_size + k) (omega arith) (omega arith)

above_same : (w v : List ℕ) (low b : ℕ) → Frame w v low b → (j k : ℕ) → b < j → field v j k ≡ field w j k
above_same w v low b f j k h = f.above (parts_at + j * row_size + k) (omega arith)

-- a part without inner processes
leaf-put : (a : Part) (w : List ℕ) (i d : ℕ) (sc : Scope) → Making w → Eight sc → WellPart a → i < 4_096 → (z : word (opened w i sc a) 4 ≡ 0) → second_of i a ≡ 0
    → size a ≡ 1
    → part_places a d (scope_names (opened w i sc a) (offsets sc)) ≡ here (place_listed w) a d (scope_names (opened w i sc a) (offsets sc)) ∷ []
    → Below (opened w i sc a) a i (offsets sc)
    → PutsPart w (opened w i sc a) a i d sc
unfolding place_listed
leaf-put a w i d sc m e p h z q k o b = record {
  below = b;
  listed = leaf-fit (place_listed (opened w i sc a)) d _ a o (open-listed a w i sc m e p h z);
  later = grew_none _ (open-grew a w i sc m e p h z).making _ i;
  row = rw (q, ← unfinished a w i sc) (open_row a w i sc m e p h z);
  unmarked = z;
}

-- `go`: its P was written below it
go-put : (t : Timer) (x : Value) (p : Process) (w v : List ℕ) (i d : ℕ) (sc : Scope) → Making w → Eight sc → Settled i (offsets sc) → WellPart (go t x p) → size (go t x p) ≤ suc i
    → i < 4_096
    → word (opened w i sc (go t x p)) 4 ≡ 0
    → Puts (opened w i sc (go t x p)) v p (first_place i) (suc d) (offsets sc)
    → PutsPart w v (go t x p) i d sc
unfolding place_listed size
go-put t x p w v i d sc m e s f n h z r =
    let a = go t x p in
    let k = size_p-some p in
    record {
      below = r.stands;
      listed = go-fit (place_listed v) d _ t x p (part-on _ v r.grew.grown a (open-listed a w i sc m e f h z)) r.listed;
      later = widen _ i (open-grew a w i sc m e f h z).making r.grew (omega arith) (omega arith);
      row = rw (← unfinished a w i sc) (row_kept _ v _ (first_place i) i (row_of w i sc a) r.grew.frame (omega arith) (open_row a w i sc m e f h z));
      unmarked = z;
    }

-- `out`: P and then Q were written below it, and the place of Q is set
out-put : (c : Name) (t : Timer) (x : Value) (p q : Process) (w v u : List ℕ) (i d : ℕ) (sc : Scope) → Making w → Eight sc → Settled i (offsets sc) → WellPart (out c t x p q)
    → size (out c t x p q) ≤ suc i
    → i < 4_096
    → word (opened w i sc (out c t x p q)) 4 ≡ 0
    → Puts (opened w i sc (out c t x p q)) v p (first_place i) (suc d) (offsets sc)
    → Puts v u q (second_place i p) (suc d) (offsets sc)
    → PutsPart w (set_second u i (second_place i p)) (out c t x p q) i d sc
unfolding place_listed size set_second
out-put c t x p q w v u i d sc m e s f n h z r b =
    let a = out c t x p q in
    let k = size_p-some p in
    let j = size_p-some q in
    let y = row_grew u b.grew.making i 5 (second_place i p ∷ []) (omega arith) in
    let g = grew_then (suc i - size a) i b.grew y (omega arith) (omega arith) (omega arith) (omega arith) in
    let o : scope_names (sets u (parts_at + i * row_size + second_field) (second_place i p ∷ [])) (offsets sc) ≡ scope_names v (offsets sc) = settled_same _ _ _ i (offsets sc) g.frame s in
    let l : scope_names (sets u (parts_at + i * row_size + second_field) (second_place i p ∷ [])) (offsets sc) ≡ scope_names u (offsets sc) = settled_same _ _ _ i (offsets sc) y.frame s in
    let big = grew_then (suc i - size a) i r.grew g (omega arith) (omega arith) (omega arith) (omega arith) in
    record {
      below = (
        kept v _ g.grown p (first_place i) (suc d) (offsets sc)
            (λ jj kk a₁ a₂ a₃. under_same u _ i y.frame jj kk (omega arith) a₃ ∙ above_same v u _ (second_place i p) b.grew.frame jj kk (omega arith))
            o r.listed (omega arith) r.stands,
        kept u _ y.grown q (second_place i p) (suc d) (offsets sc) (λ jj kk a₁ a₂ a₃. under_same u _ i y.frame jj kk (omega arith) a₃) l b.listed (omega arith) b.stands,
      );
      listed = out-fit _ d _ c t x p q (part-on _ _ big.grown a (open-listed a w i sc m e f h z)) (fit_on v _ g.grown p (suc d) _ _ o r.listed) (fit_on u _ y.grown q (suc d) _ _ l b.listed);
      later = big;
      row = rw (← with_second a w i sc (second_place i p))
          (row-after u i (row_of w i sc a) 5 (second_place i p ∷ []) (row_kept v u _ (second_place i p) i (row_of w i sc a) b.grew.frame (omega arith) (row_kept _ v _ (first_place i) i (row_of w i sc a) r.grew.frame (omega arith) (open_row a w i sc m e f h z)))
          (row-length w i sc a e) (omega arith) (let lg = b.grew.making.long in omega arith));
      unmarked = z;
    }

stop-places : (d : ℕ) (ys : List Name) → part_places stop d ys ≡ record { depth = d; scope = ys; part = stop } ∷ []
unfolding part_places
stop-places d ys = refl

call-places : (x : Name) (vs : List Value) (d : ℕ) (ys : List Name) → part_places (call x vs) d ys ≡ record { depth = d; scope = ys; part = call x vs } ∷ []
unfolding part_places
call-places x vs d ys = refl

-- `in`: the same, where P has the name in scope
in-put : (c : Name) (t : Timer) (x : Name) (p q : Process) (w v u : List ℕ) (i d : ℕ) (sc : Scope) → Making w → Eight sc → Settled i (offsets sc) → WellPart (inp c t x p q)
    → size (inp c t x p q) ≤ suc i
    → i < 4_096
    → word (opened w i sc (inp c t x p q)) 4 ≡ 0
    → Puts (opened w i sc (inp c t x p q)) v p (first_place i) (suc d) (entering w i (offsets sc) x)
    → Puts v u q (second_place i p) (suc d) (offsets sc)
    → PutsPart w (set_second u i (second_place i p)) (inp c t x p q) i d sc
unfolding place_listed size set_second
in-put c t x p q w v u i d sc m e s f n h z r b =
    let a = inp c t x p q in
    let k = size_p-some p in
    let j = size_p-some q in
    let y = row_grew u b.grew.making i 5 (second_place i p ∷ []) (omega arith) in
    let g = grew_then (suc i - size a) i b.grew y (omega arith) (omega arith) (omega arith) (omega arith) in
    let big = grew_then (suc i - size a) i r.grew g (omega arith) (omega arith) (omega arith) (omega arith) in
    let start = grew_then (suc i - size a) i (open-grew a w i sc m e f h z) big (omega arith) (omega arith) (omega arith) (omega arith) in
    let first = grew_then (suc i - size a) i (open-grew a w i sc m e f h z) r.grew (omega arith) (omega arith) (omega arith) (omega arith) in
    let o : scope_names (sets u (parts_at + i * row_size + second_field) (second_place i p ∷ [])) (offsets sc) ≡ scope_names v (offsets sc) = settled_same _ _ _ i (offsets sc) g.frame s in
    let l : scope_names (sets u (parts_at + i * row_size + second_field) (second_place i p ∷ [])) (offsets sc) ≡ scope_names u (offsets sc) = settled_same _ _ _ i (offsets sc) y.frame s in
    let own = own-past u i 5 (second_place i p ∷ []) (omega arith) ∙ own-above v u _ (second_place i p) i b.grew.frame (omega arith) in
    let v-same = entering-same w v first.grown i (offsets sc) x (settled_same w v _ i (offsets sc) first.frame s) in
    let u_same = entering-same w _ start.grown i (offsets sc) x (settled_same w _ _ i (offsets sc) start.frame s) in
    let oe : scope_names (sets u (parts_at + i * row_size + second_field) (second_place i p ∷ [])) (entering w i (offsets sc) x) ≡ scope_names v (entering w i (offsets sc) x) = rw (← v-same) (entered-same v _ g.grown i (offsets sc) x own o) in
    let rows : RowIs (sets u (parts_at + i * row_size + second_field) (second_place i p ∷ [])) i (finished (row_of w i sc a) (second_place i p) 0 0) =
    rw (← with_second a w i sc (second_place i p))
    (row-after u i (row_of w i sc a) 5 (second_place i p ∷ []) (row_kept v u _ (second_place i p) i (row_of w i sc a) b.grew.frame (omega arith) (row_kept _ v _ (first_place i) i (row_of w i sc a) r.grew.frame (omega arith) (open_row a w i sc m e f h z)))
    (row-length w i sc a e) (omega arith) (let lg = b.grew.making.long in omega arith)) in
    let named = own_name w m _ i 0 0 0 sc e s c t x p q (second_place i p) f rows in
    record {
      below = (
        named,
        rw u_same
            (kept v _ g.grown p (first_place i) (suc d) (entering w i (offsets sc) x)
            (λ jj kk a₁ a₂ a₃. under_same u _ i y.frame jj kk (omega arith) a₃ ∙ above_same v u _ (second_place i p) b.grew.frame jj kk (omega arith))
            oe r.listed (omega arith) r.stands),
        kept u _ y.grown q (second_place i p) (suc d) (offsets sc) (λ jj kk a₁ a₂ a₃. under_same u _ i y.frame jj kk (omega arith) a₃) l b.listed (omega arith) b.stands,
      );
      listed = in-fit _ d _ c t x p q (part-on _ _ big.grown a (open-listed a w i sc m e f h z))
          (rw (← names-entered _ i (offsets sc) x named, u_same) (fit_on v _ g.grown p (suc d) _ _ oe r.listed))
          (fit_on u _ y.grown q (suc d) _ _ l b.listed);
      later = big;
      row = rows;
      unmarked = z;
    }

-- ── the last writes of a process ──
module _ (a : Part) (w v : List ℕ) (i d : ℕ) (sc : Scope) (m : Making w) (e : Eight sc) (s : Settled i (offsets sc)) (f : WellPart a) (n : size a ≤ suc i) (h : i < 4_096)
    (r : PutsPart w v a i d sc) where
  last-part : Puts w (linked v i 0 (suc i - size a)) (one a) i d (offsets sc)
  unfolding linked size_p process_places
  last-part =
      let k = size-some a in
      let y = row_grew v r.later.making i 6 (0 ∷ (suc i - size a) ∷ []) (omega arith) in
      let g = grew_then (suc i - size a) i r.later y (omega arith) (omega arith) (omega arith) (omega arith) in
      let o : scope_names (sets v (parts_at + i * row_size + next_field) (0 ∷ (suc i - size a) ∷ [])) (offsets sc) ≡ scope_names v (offsets sc) = settled_same _ _ _ i (offsets sc) y.frame s in
      record {
        stands = (
          open-head a w i sc m e f h r.unmarked _ (suc i - size a) 0 (suc i - size a) (omega arith) s g
              (rw (← with-links a w i sc (second_of i a) 0 (suc i - size a)) (row-after v i (finished (row_of w i sc a) (second_of i a) 0 0) 6 (0 ∷ (suc i - size a) ∷ []) r.row (rw (length-sets (row_of w i sc a) 5 (second_of i a ∷ 0 ∷ 0 ∷ [])) (row-length w i sc a e)) (omega arith) (let lg = r.later.making.long in omega arith))),
          below-kept v _ y.grown a i d (offsets sc) (λ jj kk a₁ a₂ a₃. under_same v _ i y.frame jj kk a₂ a₃) (own-past v i 6 (0 ∷ (suc i - size a) ∷ []) (omega arith)) o r.listed n r.below,
        );
        listed = part-fit-on v _ y.grown a d _ _ o r.listed;
        grew = grew_then (suc i - size a) i (open-grew a w i sc m e f h r.unmarked) g (omega arith) (omega arith) (omega arith) (omega arith);
      }

  next-part : (p : Process) (u : List ℕ) → size a + size_p p ≤ suc i → Puts v u p (i - size a) d (offsets sc)
      → Puts w (linked u i (suc (i - size a)) (suc i - (size a + size_p p))) (a ∥ p) i d (offsets sc)
  unfolding linked size_p
  next-part p u nn b =
      let k = size-some a in
      let j = size_p-some p in
      let low = suc i - (size a + size_p p) in
      let y = row_grew u b.grew.making i 6 (suc (i - size a) ∷ low ∷ []) (omega arith) in
      let g = grew_then (suc i - (size a + size_p p)) i b.grew y (omega arith) (omega arith) (omega arith) (omega arith) in
      let big = grew_then (suc i - (size a + size_p p)) i r.later g (omega arith) (omega arith) (omega arith) (omega arith) in
      let o : scope_names (sets u (parts_at + i * row_size + next_field) (suc (i - size a) ∷ low ∷ [])) (offsets sc) ≡ scope_names v (offsets sc) = settled_same _ _ _ i (offsets sc) g.frame s in
      let l : scope_names (sets u (parts_at + i * row_size + next_field) (suc (i - size a) ∷ low ∷ [])) (offsets sc) ≡ scope_names u (offsets sc) = settled_same _ _ _ i (offsets sc) y.frame s in
      let full-length : length (finished (row_of w i sc a) (second_of i a) 0 0) ≡ row_size = length-sets (row_of w i sc a) 5 (second_of i a ∷ 0 ∷ 0 ∷ []) ∙ row-length w i sc a e in
      record {
        stands = (
          open-head a w i sc m e f h r.unmarked _ (suc i - (size a + size_p p)) (suc (i - size a)) (suc i - (size a + size_p p)) (omega arith) s big
              (rw (← with-links a w i sc (second_of i a) (suc (i - size a)) (suc i - (size a + size_p p)))
              (row-after u i (finished (row_of w i sc a) (second_of i a) 0 0) 6 (suc (i - size a) ∷ low ∷ []) (row_kept v u _ (i - size a) i (finished (row_of w i sc a) (second_of i a) 0 0) b.grew.frame (omega arith) r.row) full-length (omega arith) (let lg = b.grew.making.long in omega arith))),
          below-kept v _ g.grown a i d (offsets sc) (λ jj kk a₁ a₂ a₃. under_same u _ i y.frame jj kk a₂ a₃ ∙ above_same v u _ (i - size a) b.grew.frame jj kk (omega arith))
              (own-past u i 6 (suc (i - size a) ∷ low ∷ []) (omega arith) ∙ own-above v u _ (i - size a) i b.grew.frame (omega arith)) o r.listed n r.below,
          kept u _ y.grown p (i - size a) d (offsets sc) (λ jj kk a₁ a₂ a₃. under_same u _ i y.frame jj kk (omega arith) a₃) l b.listed (omega arith) b.stands,
        );
        listed = par-fit _ d _ a p (part-fit-on v _ g.grown a d _ _ o r.listed) (fit_on u _ y.grown p d _ _ l b.listed);
        grew = grew_then (suc i - (size a + size_p p)) i (open-grew a w i sc m e f h r.unmarked) big (omega arith) (omega arith) (omega arith) (omega arith);
      }

mutual
  unfolding put_part put size size_p process_places

  pub puts-part : (a : Part) (i d : ℕ) (sc : Scope) (w : List ℕ) → Making w → Eight sc → Settled i (offsets sc) → WellPart a → size a ≤ suc i → i < 4_096
      → word (put_part a i sc w) 4 ≡ 0 → PutsPart w (put_part a i sc w) a i d sc
  puts-part stop i d sc w m e s p n h z = leaf-put stop w i d sc m e p h z refl refl (stop-places d _) tt
  puts-part (go t v p) i d sc w m e s f n h z =
      let k = size_p-some p in
      let o = put_back p (first_place i) sc _ z in
      go-put t v p w _ i d sc m e s f n h o
      (puts p (first_place i) (suc d) sc _ (open-grew (go t v p) w i sc m e f h o).making e (settled-lower i (first_place i) (offsets sc) (omega arith) s) f.2 (omega arith) (omega arith) z)
  puts-part (out c t v p q) i d sc w m e s f n h z =
      let k = size_p-some p in
      let j = size_p-some q in
      let zq = second_back _ i (second_place i p) z in
      let zp = put_back q (second_place i p) sc _ zq in
      let o = put_back p (first_place i) sc _ zp in
      let r = puts p (first_place i) (suc d) sc _ (open-grew (out c t v p q) w i sc m e f h o).making e (settled-lower i (first_place i) (offsets sc) (omega arith) s) f.3 (omega arith) (omega arith) zp in
      out-put c t v p q w _ _ i d sc m e s f n h o r
      (puts q (second_place i p) (suc d) sc _ r.grew.making e (settled-lower i (second_place i p) (offsets sc) (omega arith) s) f.4 (omega arith) (omega arith) zq)
  puts-part (inp c t y p q) i d sc w m e s f n h z =
      let k = size_p-some p in
      let j = size_p-some q in
      let inner = inner_scope w i sc y in
      let zs : word (scope_mark w sc y) 4 ≡ 0 =
      part-back (inp c t y p q) _ (opened-back (inp c t y p q) _ i sc (put_back p (first_place i) inner _ (put_back q (second_place i p) sc _ (second_back _ i (second_place i p) z)))) in
      let mk = mark-none w m i sc e y f.2 zs in
      let zq = second_back _ i (second_place i p) (rw mk at z) in
      let zp = put_back q (second_place i p) sc _ zq in
      let o = put_back p (first_place i) inner _ zp in
      let io = inner-offsets w m i sc e y f.2 zs in
      let r = puts p (first_place i) (suc d) inner _ (open-grew (inp c t y p q) w i sc m e f h o).making (inner-eight w i sc y e)
      (rw io (settled-entering w i (offsets sc) y (omega arith) s)) f.3 (omega arith) (omega arith) zp in
      rw mk
      (in-put c t y p q w _ _ i d sc m e s f n h o (rw io at r)
      (puts q (second_place i p) (suc d) sc _ r.grew.making e (settled-lower i (second_place i p) (offsets sc) (omega arith) s) f.4 (omega arith) (omega arith) zq))
  puts-part (call x vs) i d sc w m e s p n h z = leaf-put (call x vs) w i d sc m e p h z refl refl (call-places x vs d _) tt

  pub puts : (p : Process) (i d : ℕ) (sc : Scope) (w : List ℕ) → Making w → Eight sc → Settled i (offsets sc) → WellProcess p → size_p p ≤ suc i → i < 4_096
      → word (put p i sc w) 4 ≡ 0 → Puts w (put p i sc w) p i d (offsets sc)
  puts (one a) i d sc w m e s f n h z = last-part a w _ i d sc m e s f n h (puts-part a i d sc w m e s f n h (linked-back _ i 0 (suc i - size a) z))
  puts (a ∥ p) i d sc w m e s f n h z =
      let k = size-some a in
      let j = size_p-some p in
      let zp = linked-back _ i (suc (i - size a)) (suc i - (size a + size_p p)) z in
      let r = puts-part a i d sc w m e s f.0 (omega arith) h (put_back p (i - size a) sc _ zp) in
      next-part a w _ i d sc m e s f.0 (omega arith) h r p _ n
      (puts p (i - size a) d sc _ r.later.making e (settled-lower i (i - size a) (offsets sc) (omega arith) s) f.1 (omega arith) (omega arith) zp)
