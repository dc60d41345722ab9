-- Words after a run of stores: those stored, and the others as they were. By induction on the run.
use Prim.Native.Nat.{ℕ, zero, suc, ◌+◌, ◌-◌, ◌*◌, ◌≤◌, ◌<◌}
use native.Mathlib.Omega.{arith}
use native.Mathlib.Numerals.{add-one}
use mathlib.Core.Bool.{Bool, true, false}
use mathlib.Core.List.{List, [], ◌∷◌, ◌++◌}
use mathlib.Core.Path.{◌≡◌, refl, ap, ap₂, sym, ◌∙◌}
use lib.Dec.{ltb}
use lib.ListN.{length, get_or, set, take, drop, length-set}
use borrow.Author.Tests.{ltb-true, ltb-false}
use lib.Seq.{sets, get_or-set_same, get_or-set_other}
use borrow.Rule.Slice.PartMut.{put_mid}
use Rattle.std.specs.List.{between}
use Rattle.std.proofs.lemmas.List.{drop-drop}
use Rattle.std.proofs.Common.{append_assoc}
use Rattle.std.proofs.lemmas.List.Edits.{get_or-between, length-between, sets-eq}
use Rattle.terms.specs.Rules as R
use Rattle.table.specs.declared.Comp.{Comp}
use Rattle.table.specs.declared.State.{State}
use Rattle.table.specs.Words.{comp_size, comp_used, state_words, total_at, count_at, word}
use Rattle.table.specs.Meaning.{list_from, comp_in, words_in, PastKept, comps_of, total_in, count_in}

pub set_out : (l : List ℕ) (i j a : ℕ) → (j ≡ i → ⊥) → word (set l i a) j ≡ word l j
set_out l i j a h = get_or-set_other l i j a 0 h

pub sets-under : (vs l : List ℕ) (i j : ℕ) → j < i → word (sets l i vs) j ≡ word l j
sets-under [] l i j h = refl
sets-under (a ∷ vs) l i j h = sets-under vs (set l i a) (suc i) j (omega arith) ∙ set_out l i j a (λ e. omega arith)

pub sets-past : (vs l : List ℕ) (i j : ℕ) → i + length vs ≤ j → word (sets l i vs) j ≡ word l j
sets-past [] l i j h = refl
sets-past (a ∷ vs) l i j h = sets-past vs (set l i a) (suc i) j (omega arith) ∙ set_out l i j a (λ e. omega arith)

pub sets-in : (vs l : List ℕ) (i k : ℕ) → k < length vs → i + length vs ≤ length l → word (sets l i vs) (i + k) ≡ get_or vs k 0
sets-in [] l i k h b = absurd (omega arith)
sets-in (a ∷ vs) l i zero h b =
    let e : i + 0 ≡ i = omega arith in
    rw e (sets-under vs (set l i a) (suc i) i (omega arith) ∙ get_or-set_same l i a 0 (omega arith))
sets-in (a ∷ vs) l i (suc k) h b =
    let e : i + suc k ≡ suc i + k = omega arith in
    rw e (sets-in vs (set l i a) (suc i) k (omega arith) (rw (length-set l i a) (omega arith)))

-- ── eight words read and written at once ──
eight-words : (v : List ℕ) → length v ≡ 8
    → v ≡ get_or v 0 0 ∷ get_or v 1 0 ∷ get_or v 2 0 ∷ get_or v 3 0 ∷ get_or v 4 0 ∷ get_or v 5 0 ∷ get_or v 6 0 ∷ get_or v 7 0 ∷ []
eight-words [] e = absurd (omega arith)
eight-words (a ∷ []) e = absurd (omega arith)
eight-words (a ∷ b ∷ []) e = absurd (omega arith)
eight-words (a ∷ b ∷ c ∷ []) e = absurd (omega arith)
eight-words (a ∷ b ∷ c ∷ d ∷ []) e = absurd (omega arith)
eight-words (a ∷ b ∷ c ∷ d ∷ f ∷ []) e = absurd (omega arith)
eight-words (a ∷ b ∷ c ∷ d ∷ f ∷ g ∷ []) e = absurd (omega arith)
eight-words (a ∷ b ∷ c ∷ d ∷ f ∷ g ∷ h ∷ []) e = absurd (omega arith)
eight-words (a ∷ b ∷ c ∷ d ∷ f ∷ g ∷ h ∷ i ∷ []) e = refl
eight-words (a ∷ b ∷ c ∷ d ∷ f ∷ g ∷ h ∷ i ∷ j ∷ v) e = absurd (omega arith)

-- the eight words behind the first four of o
pub eight_read : (l v : List ℕ) (o : ℕ) → length v ≡ 8 → v ≡ between (o + 4) (o + 12) l
    → v ≡ get_or l (o + 4) 0 ∷ get_or l (o + 5) 0 ∷ get_or l (o + 6) 0 ∷ get_or l (o + 7) 0 ∷ get_or l (o + 8) 0 ∷ get_or l (o + 9) 0 ∷ get_or l (o + 10) 0 ∷ get_or l (o + 11) 0 ∷ []
eight_read l v o n e =
    eight-words v n
    ∙ rw (at 0 (o + 4) (omega arith) (omega arith), at 1 (o + 5) (omega arith) (omega arith), at 2 (o + 6) (omega arith) (omega arith), at 3 (o + 7) (omega arith) (omega arith), at 4 (o + 8) (omega arith) (omega arith), at 5 (o + 9) (omega arith) (omega arith), at 6 (o + 10) (omega arith) (omega arith), at 7 (o + 11) (omega arith) (omega arith)) refl
  where
    at : (k j : ℕ) → k < 8 → o + 4 + k ≡ j → get_or v k 0 ≡ get_or l j 0
    at k j h m = ap (λ u. get_or u k 0) e ∙ get_or-between l (o + 4) (o + 12) k 0 (omega arith) ∙ ap (λ x. get_or l x 0) m

-- eight words put in the place of eight are as many stores
put-eight : (l v : List ℕ) (a k : ℕ) → k ≡ length v → a + length v ≤ length l → put_mid a k l v ≡ sets l a v
put-eight l v a k e h = rw (sets-eq v l a h, drop-drop k a l, e) (sym (append_assoc (take a l) v (drop (a + length v) l)))

-- four stores, eight at once, and one more
pub stores : (l v : List ℕ) (o a b c d n : ℕ) → o + 13 ≤ length l → length v ≡ length (between (o + 4) (o + 12) (set (set (set (set l o a) (o + 1) b) (o + 2) c) (o + 3) d))
    → set (put_mid (o + 4) (o + 12 - (o + 4)) (set (set (set (set l o a) (o + 1) b) (o + 2) c) (o + 3) d) v) (o + 12) n ≡ sets l o (a ∷ b ∷ c ∷ d ∷ get_or v 0 0 ∷ get_or v 1 0 ∷ get_or v 2 0 ∷ get_or v 3 0 ∷ get_or v 4 0 ∷ get_or v 5 0 ∷ get_or v 6 0 ∷ get_or v 7 0 ∷ n ∷ [])
stores l v o a b c d n k f =
    let m = set (set (set (set l o a) (o + 1) b) (o + 2) c) (o + 3) d in
    let e : length m ≡ length l = simp length-set in
    let h : length v ≡ 8 = f ∙ length-between m (o + 4) (o + 12) (omega arith) ∙ omega arith in
    let e₁ : o + 1 ≡ suc o = omega arith in
    let e₂ : o + 2 ≡ suc (suc o) = omega arith in
    let e₃ : o + 3 ≡ suc (suc (suc o)) = omega arith in
    let e₄ : o + 4 ≡ suc (suc (suc (suc o))) = omega arith in
    let e₁₂ : o + 12 ≡ suc (suc (suc (suc (suc (suc (suc (suc (suc (suc (suc (suc o))))))))))) = omega arith in
    ap (λ u. set u (o + 12) n) (put-eight m v (o + 4) (o + 12 - (o + 4)) (omega arith) (omega arith))
    ∙ ap (λ u. set (sets m (o + 4) u) (o + 12) n) (eight-words v h)
    ∙ rw (e₁, e₂, e₃, e₄, e₁₂) refl

-- ── a component written ──
module _ (c : List ℕ) (p : ℕ) (x : Comp) where
  abbrev after : List ℕ
  after = sets c (p * comp_size) (words_in x)

  -- word j of the position k, which lies behind or is a spare one
  beside : (k j : ℕ) → j < comp_size → (p ≤ k → p * comp_size + comp_used ≤ k * comp_size + j) → word after (k * comp_size + j) ≡ word c (k * comp_size + j)
  beside k j h far = go (ltb k p) refl
    where
      go : (b : Bool) → ltb k p ≡ b → word after (k * comp_size + j) ≡ word c (k * comp_size + j)
      go true e = let l : k < p = ltb-true k p e in sets-under (words_in x) c (p * comp_size) (k * comp_size + j) (omega arith)
      go false e = sets-past (words_in x) c (p * comp_size) (k * comp_size + j) (far (ltb-false k p e))

  module _ (k : ℕ) (d : k ≡ p → ⊥) where
    same : (j : ℕ) → j < comp_used → word after (k * comp_size + j) ≡ word c (k * comp_size + j)
    same j h = beside k j (omega arith) (λ b. let m : k ≡ p → ⊥ = d in omega arith)

    first : word after (k * comp_size) ≡ word c (k * comp_size)
    first = let e : k * comp_size ≡ k * comp_size + 0 = omega arith in ap (word after) e ∙ same 0 (omega arith) ∙ ap (word c) (sym e)

    pub put_other : comp_in after k ≡ comp_in c k
    unfolding comp_in
    put_other =
        rw
        (first, same 1 (omega arith), same 2 (omega arith), same 3 (omega arith), same 4 (omega arith), same 5 (omega arith), same 6 (omega arith), same 7 (omega arith), same 8 (omega arith), same 9 (omega arith), same 10 (omega arith), same 11 (omega arith), same 12 (omega arith))

  module _ (room : p * comp_size + comp_used ≤ length c) where
    stored : (j : ℕ) → j < comp_used → word after (p * comp_size + j) ≡ get_or (words_in x) j 0
    stored j h = sets-in (words_in x) c (p * comp_size) j (omega arith) room

    head : word after (p * comp_size) ≡ x.loc
    head = let e : p * comp_size ≡ p * comp_size + 0 = omega arith in ap (word after) e ∙ stored 0 (omega arith)

    pub put_same : length x.vals ≡ 8 → comp_in after p ≡ x
    unfolding comp_in
    put_same e =
        rw
        (head, stored 1 (omega arith), stored 2 (omega arith), stored 3 (omega arith), stored 4 (omega arith), stored 5 (omega arith), stored 6 (omega arith), stored 7 (omega arith), stored 8 (omega arith), stored 9 (omega arith), stored 10 (omega arith), stored 11 (omega arith), stored 12 (omega arith))
        (ap (λ v. record { loc = x.loc; mark = x.mark; place = x.place; timer = x.timer; vals = v; wait = x.wait }) (sym (eight-words x.vals e)))

-- ── words of no component in use ──
pub past-put : (c : List ℕ) (k p : ℕ) (x : Comp) → p < k → PastKept k c (sets c (p * comp_size) (words_in x))
past-put c k p x h = record { words = λ o b. sets-past (words_in x) c (p * comp_size) o (omega arith); spare = λ i j l m. beside c p x i j m (λ b. omega arith) }

pub past-none : (k : ℕ) (c : List ℕ) → PastKept k c c
past-none k c = record { words = λ o b. refl; spare = λ i j l m. refl }

pub past-then : {j k : ℕ} {a b c : List ℕ} → j ≤ k → PastKept j a b → PastKept k b c → PastKept k a c
past-then h p q = record { words = λ o b. q.words o b ∙ p.words o (omega arith); spare = λ i j l m. q.spare i j l m ∙ p.spare i j l m }

pub past_to : {j k : ℕ} {a b : List ℕ} → j ≤ k → PastKept j a b → PastKept k a b
past_to h p = past-then h p (past-none _ _)

-- so the total and the count are as they were
module _ {k : ℕ} {a b : List ℕ} (few : k ≤ 256) (p : PastKept k a b) where
  pub past-total : total_in b ≡ total_in a
  unfolding total_in
  past-total = rw (p.words total_at (omega arith), p.words (total_at + 1) (omega arith))

  pub past-count : count_in b ≡ count_in a
  past-count = p.words count_at (omega arith)

-- ── a list by numbers, of which one is another ──
pub list_from-same : {A : Type 0} (k n : ℕ) (f g : ℕ → A) → ((j : ℕ) → k ≤ j → g j ≡ f j) → list_from k n g ≡ list_from k n f
unfolding list_from
list_from-same k zero f g h = refl
list_from-same k (suc n) f g h = rw (h k (omega arith), list_from-same (suc k) n f g (λ j b. h j (omega arith)))

list_from-set : {A : Type 0} (k n : ℕ) (f g : ℕ → A) (p : ℕ) (x : A) → p < n → g (k + p) ≡ x → ((j : ℕ) → (j ≡ k + p → ⊥) → g j ≡ f j) → list_from k n g ≡ R.set (list_from k n f) p x
unfolding list_from R.set
list_from-set k zero f g p x b e h = absurd (omega arith)
list_from-set k (suc n) f g zero x b e h =
    let z : k + 0 ≡ k = omega arith in
    rw (sym (ap g z) ∙ e, list_from-same (suc k) n f g (λ j c. h j (λ q. omega arith)))
list_from-set k (suc n) f g (suc p) x b e h =
    let z : suc k + p ≡ k + suc p = omega arith in
    rw (h k (λ q. omega arith), list_from-set (suc k) n f g p x (omega arith) (ap g z ∙ e) (λ j q. h j (λ y. q (y ∙ sym z))))

-- the components of a state of which one is written
pub comps-put : (st : State) (p : ℕ) (x : Comp) → p < st.n → st.n ≤ 256 → length st.c ≡ state_words → length x.vals ≡ 8
    → comps_of (record { c = sets st.c (p * comp_size) (words_in x); n = st.n }) ≡ R.set (comps_of st) p x
unfolding comps_of
comps-put st p x b m l v =
    let z : 0 + p ≡ p = omega arith in
    let w = sets st.c (p * comp_size) (words_in x) in
    list_from-set 0 st.n (comp_in st.c) (comp_in w) p x b (ap (comp_in w) z ∙ put_same st.c p x (omega (arith, l)) v) (λ j d. put_other st.c p x j (λ e. d (e ∙ sym z)))

-- components written one after the other
pub list_from-until : {A : Type 0} (i n : ℕ) (f g : ℕ → A) → ((j : ℕ) → j < i + n → g j ≡ f j) → list_from i n g ≡ list_from i n f
unfolding list_from
list_from-until i zero f g h = refl
list_from-until i (suc n) f g h = rw (h i (omega arith), list_from-until (suc i) n f g (λ j b. h j (omega arith)))

pub list_from-end : {A : Type 0} (i n : ℕ) (f : ℕ → A) → list_from i (suc n) f ≡ list_from i n f ++ (f (i + n) ∷ [])
unfolding list_from
list_from-end i zero f = let e : i + 0 ≡ i = omega arith in rw e
list_from-end i (suc n) f = let e : i + suc n ≡ suc i + n = omega arith in rw e (ap (λ z. f i ∷ z) (list_from-end (suc i) n f))

pub drop-from : {A : Type 0} (k n j : ℕ) (f : ℕ → A) → drop j (list_from k n f) ≡ list_from (k + j) (n - j) f
unfolding list_from
drop-from k n zero f =
    let a : k + 0 ≡ k = omega arith in
    let b : n - 0 ≡ n = omega arith in
    rw (a, b)
drop-from k zero (suc j) f = let b : 0 - suc j ≡ 0 = omega arith in rw b
drop-from k (suc n) (suc j) f =
    let a : k + suc j ≡ suc k + j = omega arith in
    let b : suc n - suc j ≡ n - j = omega arith in
    rw (a, b) (drop-from (suc k) n j f)

pub comps-more : (c : List ℕ) (k : ℕ) (x : Comp) → k < 256 → length c ≡ state_words → length x.vals ≡ 8
    → list_from 0 (k + 1) (comp_in (sets c (k * comp_size) (words_in x))) ≡ list_from 0 k (comp_in c) ++ (x ∷ [])
comps-more c k x b l v =
    let w = sets c (k * comp_size) (words_in x) in
    let z : 0 + k ≡ k = omega arith in
    ap (λ m. list_from 0 m (comp_in w)) (add-one k)
    ∙ list_from-end 0 k (comp_in w)
    ∙ ap₂ ◌++◌ (list_from-until 0 k (comp_in c) (comp_in w) (λ j i. put_other c k x j (λ e. omega arith)))
    (ap (λ y. y ∷ []) (ap (comp_in w) z ∙ put_same c k x (omega (arith, l)) v))
