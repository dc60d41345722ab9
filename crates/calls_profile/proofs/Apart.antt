-- No role is taken twice: one more component at the end of a list, and the first components of one.
-- By induction on the list: whether one comes again does not depend on which of the two stands first.
use Prim.Native.Nat.{ℕ, ◌+◌, ◌<◌}
use mathlib.Core.List.{List, [], ◌∷◌, ◌++◌}
use mathlib.Core.Bool.{Bool, true, false, cond, ◌&&◌, ◌||◌, not, false≢true, and-true, and_assoc, or-false}
use mathlib.Core.Path.{◌≡◌, refl, sym, ap, ◌∙◌}
use lib.Dec.{eqb, ltb}
use lib.ListN.{length, get_or, take, drop, take-append-drop}
use borrow.Author.Tests.{eqb-true, ltb-true, lt-ltb}
use Rattle.std.specs.Prelude.{Some}
use Rattle.terms.specs.Rules.{some}
use Rattle.terms.proofs.Names.{and-inv, and_in}
use Rattle.table.proofs.Names.{eqb-sym}
use Rattle.calls_must.proofs.Hearing.{some-append}
use Rattle.calls_steady.proofs.Staying.{take_more}
use Rattle.table.specs.declared.Comp.{Comp}
use Rattle.calls_forced.specs.Marked.{is_marked, Marked}
use Rattle.calls_profile.specs.Roles.{no_role, late_role, comes, apart, is_free}

-- the two have one role
one-role : (k : ℕ) (s t p : Bool) → (comes k (s || true) && (p && comes k t)) ≡ ((comes k s && p) && comes k true)
unfolding comes
one-role k s t p = go (ltb k no_role) (eqb k no_role) s t p
  where
    go : (b e s t p : Bool) → (cond b (not (s || true)) e && (p && cond b (not t) e)) ≡ ((cond b (not s) e && p) && cond b false e)
    go true e true t p = refl
    go true e false t true = refl
    go true e false t false = refl
    go false true s t p = refl
    go false false s t p = refl

either_first : (a b : ℕ) (s t p : Bool) → (comes a (s || eqb b a) && (p && comes b t)) ≡ ((comes a s && p) && comes b (eqb a b || t))
either_first a b s t p = rw (eqb-sym b a) (go (eqb a b) refl)
  where
    go : (x : Bool) → eqb a b ≡ x → (comes a (s || x) && (p && comes b t)) ≡ ((comes a s && p) && comes b (x || t))
    go true e = rw (← eqb-true a b e) (one-role a s t p)
    go false e = rw (or-false s) (sym (and_assoc (comes a s) p (comes b t)))

module _ {A : Type 0} (f : A → ℕ) where
  apart_snoc : (xs : List A) (x : A) → apart f (xs ++ (x ∷ [])) ≡ (apart f xs && comes (f x) (some (λ e. eqb (f e) (f x)) xs))
  unfolding apart some
  apart_snoc [] x = and-true (comes (f x) false)
  apart_snoc (c ∷ cs) x =
      rw (some-append (λ e. eqb (f e) (f c)) cs (x ∷ []), or-false (eqb (f x) (f c)), apart_snoc cs x)
      (either_first (f c) (f x) (some (λ e. eqb (f e) (f c)) cs) (some (λ e. eqb (f e) (f x)) cs) (apart f cs))

  -- one more component is looked at
  apart_more : (xs : List A) (j : ℕ) (d : A) → j < length xs → apart f (take (j + 1) xs) ≡ (apart f (take j xs) && comes (f (get_or xs j d)) (some (λ e. eqb (f e) (f (get_or xs j d))) (take j xs)))
  apart_more xs j d h = ap (apart f) (take_more xs j d h) ∙ apart_snoc (take j xs) (get_or xs j d)

  -- what fails for the first ones fails for all
  comes-less : (k : ℕ) (s t : Bool) → comes k (s || t) ≡ true → comes k s ≡ true
  unfolding comes
  comes-less k s t = go (ltb k no_role) s
    where
      go : (b s : Bool) → cond b (not (s || t)) (eqb k no_role) ≡ true → cond b (not s) (eqb k no_role) ≡ true
      go true true e = e
      go true false e = refl
      go false s e = e

  apart-front : (xs ys : List A) → apart f (xs ++ ys) ≡ true → apart f xs ≡ true
  unfolding apart
  apart-front [] ys e = refl
  apart-front (c ∷ cs) ys e =
      let r = and-inv (comes (f c) (some (λ e. eqb (f e) (f c)) (cs ++ ys))) _ e in
      and_in _ _ (comes-less (f c) (some (λ e. eqb (f e) (f c)) cs) (some (λ e. eqb (f e) (f c)) ys) (ap (comes (f c)) (sym (some-append (λ e. eqb (f e) (f c)) cs ys)) ∙ r.0)) (apart-front cs ys r.1)

  pub apart-fails : (xs : List A) (j : ℕ) → apart f (take j xs) ≡ false → apart f xs ≡ false
  apart-fails xs j e = go (apart f xs) refl
    where
      go : (b : Bool) → apart f xs ≡ b → b ≡ false
      go false k = refl
      go true k = absurd (false≢true (sym e ∙ apart-front (take j xs) (drop j xs) (ap (apart f) (take-append-drop j xs) ∙ k)))

-- ── what is noted ──
-- where the roles of cs are noted, the role of one more is free exactly if it comes after them
free-is : (f : Comp → ℕ) (cs : List Comp) (ys : List Bool) (k : ℕ) → Marked no_role (λ c. Some (f c)) cs ys → is_free ys k ≡ comes k (some (λ e. eqb (f e) k) cs)
unfolding is_free comes
free-is f cs ys k p = go (ltb k no_role) refl
  where
    go : (b : Bool) → ltb k no_role ≡ b → cond b (not (is_marked ys k)) (eqb k no_role) ≡ cond b (not (some (λ e. eqb (f e) k) cs)) (eqb k no_role)
    go true e = ap not (p k (ltb-true k no_role e))
    go false e = refl

pub next-apart : (f : Comp → ℕ) (cs : List Comp) (ys : List Bool) (j : ℕ) (d : Comp) → j < length cs → Marked no_role (λ c. Some (f c)) (take j cs) ys → apart f (take j cs) ≡ true
    → apart f (take (j + 1) cs) ≡ is_free ys (f (get_or cs j d))
next-apart f cs ys j d h p e = apart_more f cs j d h ∙ rw e (sym (free-is f (take j cs) ys (f (get_or cs j d)) p))

-- by the kind of the role
pub free-place : (ys : List Bool) (k : ℕ) → k < no_role → is_free ys k ≡ not (is_marked ys k)
unfolding is_free comes
free-place ys k h = rw (lt-ltb k no_role h)

pub free-nothing : (ys : List Bool) (k : ℕ) → k ≡ no_role → is_free ys k ≡ true
unfolding is_free comes
free-nothing ys k e = rw e

pub late-is_free : (ys : List Bool) (k : ℕ) → k ≡ late_role → is_free ys k ≡ false
unfolding is_free comes
late-is_free ys k e = rw e
