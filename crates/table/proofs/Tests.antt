-- What the tests of question 17 give: of a part, of a definition, of a component, and of names.
-- By taking the conjunctions apart.
use Prim.Native.Nat.{ℕ, zero, suc, ◌+◌, ◌≤◌, ◌<◌}
use native.Mathlib.Omega.{arith}
use mathlib.Core.List.{List, [], ◌∷◌, ◌++◌}
use mathlib.Core.Bool.{Bool, true, false, ◌&&◌, ◌||◌, not, false≢true}
use mathlib.Core.Path.{◌≡◌, refl, ap, ◌∙◌}
use lib.Dec.{eqb, leb, ltb}
use lib.ListN.{length, get_or}
use borrow.Author.Tests.{ltb-true, ltb-false, leb-true, lt-ltb, le-leb, eqb-true, eqb-false}
use Rattle.terms.specs.Names.{Name, same_name}
use Rattle.terms.specs.Rules.{some}
use Rattle.terms.specs.Same.{every}
use Rattle.terms.proofs.Names.{and-inv, and_in, name-eq, name-refl}
use Rattle.terms.specs.Clock.{is_edition}
use Rattle.terms.specs.Letters.{is_location, is_small, is_identifier, member, distinct}
use Rattle.table.specs.declared.Comp.{Comp}
use Rattle.table.specs.declared.State.{State}
use Rattle.table.specs.Words.{parts_in, locs_in, chans_in, defs_in, edition_in, loc_name, chan_name, arity_of, body_of, def_name, params_at, params_of, field, head_at, next_at, scope_at, kind_field}
use Rattle.table.specs.Meaning.{list_from, comps_of}
use Rattle.table.specs.Valid.{below, alike, timer_ok, inner_ok, head_ok, next_ok, scope_ok, tree_ok, part_ok, def_ok, sort_ok, script_ok, mark_ok, wait_ok, comp_ok, state_ok}

-- ── lists and numbers ──
pub below_at : (n : ℕ) (f : ℕ → Bool) → below n f ≡ true → (i : ℕ) → i < n → f i ≡ true
unfolding below
below_at zero f e i h = absurd (omega arith)
below_at (suc n) f e i h = go (ltb i n) refl (λ k. below_at n f (and-inv (below n f) (f n) e).0 i k)
  where
    go : (b : Bool) → ltb i n ≡ b → (i < n → f i ≡ true) → f i ≡ true
    go true q k = k (ltb-true i n q)
    go false q k = let m : n ≡ i = omega (arith, ltb-false i n q) in rw (← m) (and-inv (below n f) (f n) e).1

pub every-get_or : {A : Type 0} (f : A → Bool) (xs : List A) (d : A) (i : ℕ) → every f xs ≡ true → i < length xs → f (get_or xs i d) ≡ true
unfolding every
every-get_or f [] d i e h = absurd (omega arith)
every-get_or f (x ∷ xs) d zero e h = (and-inv (f x) (every f xs) e).0
every-get_or f (x ∷ xs) d (suc i) e h = every-get_or f xs d i (and-inv (f x) (every f xs) e).1 (omega arith)

pub every_append : {A : Type 0} (f : A → Bool) (xs ys : List A) → every f xs ≡ true → every f ys ≡ true → every f (xs ++ ys) ≡ true
unfolding every
every_append f [] ys p q = q
every_append f (x ∷ xs) ys p q = let r = and-inv (f x) (every f xs) p in and_in (f x) _ r.0 (every_append f xs ys r.1 q)

pub alike-eq : (xs ys : List ℕ) → alike xs ys ≡ true → xs ≡ ys
unfolding alike
alike-eq [] [] e = refl
alike-eq [] (y ∷ ys) e = absurd (false≢true e)
alike-eq (x ∷ xs) [] e = absurd (false≢true e)
alike-eq (x ∷ xs) (y ∷ ys) e = let r = and-inv (eqb x y) _ e in rw (eqb-true x y r.0, alike-eq xs ys r.1)

-- ── parts ──
-- an inner process: from a lesser place, with this scope
pub record Inner (w : List ℕ) (i p : ℕ) (os : List ℕ) : Type 0 where
  pub lesser : p < i
  pub scope : scope_at w p ≡ os

pub inner : (w : List ℕ) (i p : ℕ) (os : List ℕ) → inner_ok w i p os ≡ true → Inner w i p os
unfolding inner_ok
inner w i p os e = let r = and-inv (ltb p i) _ e in record { lesser = ltb-true p i r.0; scope = alike-eq _ os r.1 }

pub record PartFine (w : List ℕ) (i : ℕ) : Type 0 where
  pub head : head_ok w i (head_at w i) ≡ true
  pub next : next_ok w i (next_at w i) ≡ true
  pub scope : scope_ok w i ≡ true
  pub tree : tree_ok w i ≡ true

part-parts : (w : List ℕ) (i : ℕ) → part_ok w i ≡ true → PartFine w i
unfolding part_ok
part-parts w i e =
    let a = and-inv (leb (field w i kind_field) 4) _ e in
    let b = and-inv (scope_ok w i) _ a.1 in
    let c = and-inv (head_ok w i (head_at w i)) _ b.1 in
    let d = and-inv (next_ok w i (next_at w i)) _ c.1 in
    record { head = c.0; next = d.0; scope = b.0; tree = d.1 }

-- ── the script ──
pub record ScriptFine (w : List ℕ) : Type 0 where
  pub parts : parts_in w ≤ 4_096
  pub locs : locs_in w ≤ 64
  pub chans : chans_in w ≤ 64
  pub defs : defs_in w ≤ 32
  pub edition : is_edition (edition_in w) ≡ true
  pub loc-names : sort_ok is_location (list_from 0 (locs_in w) (loc_name w)) ≡ true
  pub chan-names : sort_ok is_small (list_from 0 (chans_in w) (chan_name w)) ≡ true
  pub def-names : sort_ok is_identifier (list_from 0 (defs_in w) (def_name w)) ≡ true
  pub each-def : below (defs_in w) (def_ok w) ≡ true
  pub each_part : below (parts_in w) (part_ok w) ≡ true

pub script-fine : (w : List ℕ) → script_ok w ≡ true → ScriptFine w
unfolding script_ok
script-fine w e =
    let a = and-inv (leb (parts_in w) 4_096 && (leb (locs_in w) 64 && (leb (chans_in w) 64 && (leb (defs_in w) 32 && is_edition (edition_in w))))) _ e in
    let n = and-inv (leb (parts_in w) 4_096) _ a.0 in
    let l = and-inv (leb (locs_in w) 64) _ n.1 in
    let c = and-inv (leb (chans_in w) 64) _ l.1 in
    let f = and-inv (leb (defs_in w) 32) _ c.1 in
    let x = and-inv (sort_ok is_location (list_from 0 (locs_in w) (loc_name w))) _ a.1 in
    let y = and-inv (sort_ok is_small (list_from 0 (chans_in w) (chan_name w))) _ x.1 in
    let z = and-inv (sort_ok is_identifier (list_from 0 (defs_in w) (def_name w))) _ y.1 in
    let d = and-inv (below (defs_in w) (def_ok w)) _ z.1 in
    record {
      parts = leb-true _ 4_096 n.0;
      locs = leb-true _ 64 l.0;
      chans = leb-true _ 64 c.0;
      defs = leb-true _ 32 f.0;
      edition = f.1;
      loc-names = x.0;
      chan-names = y.0;
      def-names = z.0;
      each-def = d.0;
      each_part = d.1;
    }

pub part-fine : (w : List ℕ) → script_ok w ≡ true → (i : ℕ) → i < parts_in w → PartFine w i
part-fine w e i h = part-parts w i (below_at (parts_in w) (part_ok w) (script-fine w e).each_part i h)

-- ── definitions ──
pub record DefFine (w : List ℕ) (d : ℕ) : Type 0 where
  pub few : arity_of w d ≤ 4
  pub body : body_of w d < parts_in w
  pub scope : scope_at w (body_of w d) ≡ params_at w d
  pub forms : every is_small (params_of w d) ≡ true
  pub differ : distinct (params_of w d) ≡ true

pub def-fine : (w : List ℕ) → script_ok w ≡ true → (d : ℕ) → d < defs_in w → DefFine w d
unfolding def_ok
def-fine w e d h =
    let f = below_at (defs_in w) (def_ok w) (script-fine w e).each-def d h in
    let a = and-inv (leb (arity_of w d) 4) _ f in
    let b = and-inv (ltb (body_of w d) (parts_in w)) _ a.1 in
    let c = and-inv (alike (scope_at w (body_of w d)) (params_at w d)) _ b.1 in
    let g = and-inv (every is_small (params_of w d)) _ c.1 in
    record { few = leb-true _ 4 a.0; body = ltb-true _ _ b.0; scope = alike-eq _ _ c.0; forms = g.0; differ = g.1 }

-- ── components ──
pub record CompFine (w : List ℕ) (c : Comp) : Type 0 where
  pub loc : c.loc < locs_in w
  pub mark : mark_ok w c.mark ≡ true
  pub place : c.place < parts_in w
  pub timer : timer_ok c.timer ≡ true
  pub wait : c.wait ≤ 1_000_000
  pub slots : length c.vals ≡ 8
  pub vals : every (λ v. ltb v (locs_in w)) c.vals ≡ true

pub comp-fine : (w : List ℕ) (c : Comp) → comp_ok w c ≡ true → CompFine w c
unfolding comp_ok wait_ok
comp-fine w c e =
    let a = and-inv (ltb c.loc (locs_in w)) _ e in
    let b = and-inv (mark_ok w c.mark) _ a.1 in
    let d = and-inv (ltb c.place (parts_in w)) _ b.1 in
    let f = and-inv (timer_ok c.timer) _ d.1 in
    let h = and-inv (wait_ok c.wait) _ f.1 in
    let g = and-inv (eqb (length c.vals) 8) _ h.1 in
    record { loc = ltb-true _ _ a.0; mark = b.0; place = ltb-true _ _ d.0; timer = f.0; wait = leb-true _ 1_000_000 h.0; slots = eqb-true _ 8 g.0; vals = g.1 }

pub comp-ok : (w : List ℕ) (c : Comp) → CompFine w c → comp_ok w c ≡ true
unfolding comp_ok wait_ok
comp-ok w c f = rw (lt-ltb _ _ f.loc, f.mark, lt-ltb _ _ f.place, f.timer, le-leb _ 1_000_000 f.wait, f.slots, f.vals)

-- ── names held once: two places of a list without repetition that hold the same name are one ──
pub get_or-list_from : {A : Type 0} (f : ℕ → A) (d : A) (k n i : ℕ) → i < n → get_or (list_from k n f) i d ≡ f (k + i)
unfolding list_from
get_or-list_from f d k zero i h = absurd (omega arith)
get_or-list_from f d k (suc n) zero h = ap f (omega arith)
get_or-list_from f d k (suc n) (suc i) h = get_or-list_from f d (suc k) n i (omega arith) ∙ ap f (omega arith)

pub length-list_from : {A : Type 0} (f : ℕ → A) (k n : ℕ) → length (list_from k n f) ≡ n
unfolding list_from
length-list_from f k zero = refl
length-list_from f k (suc n) = ap suc (length-list_from f (suc k) n)

member-get_or : (x : Name) (xs : List Name) (i : ℕ) → i < length xs → same_name x (get_or xs i []) ≡ true → member x xs ≡ true
unfolding member some
member-get_or x [] i h e = absurd (omega arith)
member-get_or x (y ∷ xs) zero h e = rw e
member-get_or x (y ∷ xs) (suc i) h e = go (same_name x y) (member-get_or x xs i (omega arith) e)
  where
    go : (b : Bool) → some (same_name x) xs ≡ true → (b || some (same_name x) xs) ≡ true
    go true k = refl
    go false k = k

not-both : (b : Bool) → not b ≡ true → b ≡ true → ⊥
not-both true p q = false≢true p
not-both false p q = false≢true q

distinct-at : (xs : List Name) → distinct xs ≡ true → (i j : ℕ) → i < j → j < length xs → same_name (get_or xs i []) (get_or xs j []) ≡ true → ⊥
unfolding distinct
distinct-at [] e i j h k s = omega arith
distinct-at (x ∷ xs) e i zero h k s = omega arith
distinct-at (x ∷ xs) e zero (suc j) h k s = not-both _ (and-inv (not (member x xs)) _ e).0 (member-get_or x xs j (omega arith) s)
distinct-at (x ∷ xs) e (suc i) (suc j) h k s = distinct-at xs (and-inv (not (member x xs)) _ e).1 i j (omega arith) (omega arith) s

true-or : (b : Bool) → (b ≡ true → ⊥) → b ≡ false
true-or true f = absurd (f refl)
true-or false f = refl

-- the names of a sort are compared by their numbers
pub held-once : (form : Name → Bool) (f : ℕ → Name) (n : ℕ) → sort_ok form (list_from 0 n f) ≡ true → (i j : ℕ) → i < n → j < n → same_name (f i) (f j) ≡ eqb i j
unfolding sort_ok
held-once form f n e i j h k = go (eqb i j) refl
  where
    d : distinct (list_from 0 n f) ≡ true
    d = (and-inv (every form (list_from 0 n f)) _ e).1

    at : (m : ℕ) → m < n → get_or (list_from 0 n f) m [] ≡ f m
    at m l = get_or-list_from f [] 0 n m l ∙ ap f (omega arith)

    apart : (a b : ℕ) → a < b → b < n → same_name (f a) (f b) ≡ true → ⊥
    apart a b l m s = distinct-at (list_from 0 n f) d a b l (omega (arith, length-list_from f 0 n)) (rw (at a (omega arith), at b m) s)

    swap : (a b : ℕ) → same_name (f a) (f b) ≡ true → same_name (f b) (f a) ≡ true
    swap a b s = rw (name-eq (f a) (f b) s) (name-refl (f b))

    ordered : (t : Bool) → ltb i j ≡ t → eqb i j ≡ false → same_name (f i) (f j) ≡ true → ⊥
    ordered true t q s = apart i j (ltb-true i j t) k s
    ordered false t q s = apart j i (omega (arith, ltb-false i j t, eqb-false i j q)) h (swap i j s)

    go : (b : Bool) → eqb i j ≡ b → same_name (f i) (f j) ≡ b
    go true q = rw (eqb-true i j q) (name-refl (f j))
    go false q = true-or _ (ordered (ltb i j) refl q)

pub every-name : (form : Name → Bool) (f : ℕ → Name) (n : ℕ) → sort_ok form (list_from 0 n f) ≡ true → (i : ℕ) → i < n → form (f i) ≡ true
unfolding sort_ok
every-name form f n e i h =
    let a = every-get_or form (list_from 0 n f) [] i (and-inv (every form (list_from 0 n f)) _ e).0 (omega (arith, length-list_from f 0 n)) in
    let q : get_or (list_from 0 n f) i [] ≡ f i = get_or-list_from f [] 0 n i h ∙ ap f (omega arith) in
    rw q at a

-- ── the state ──
pub record StateFine (w : List ℕ) (st : State) : Type 0 where
  pub some : 0 < st.n
  pub few : st.n ≤ 256
  pub each : every (comp_ok w) (comps_of st) ≡ true

pub state-fine : (w : List ℕ) (st : State) → state_ok w st ≡ true → StateFine w st
unfolding state_ok
state-fine w st e =
    let a = and-inv (ltb 0 st.n) _ e in
    let b = and-inv (leb st.n 256) _ a.1 in
    record { some = ltb-true 0 _ a.0; few = leb-true _ 256 b.0; each = b.1 }
