-- The partner of an output: it is found if there is one, none that may meet the output has a lesser timer, and none with the same timer stands lower.
use Prim.Native.Nat.{ℕ, zero, suc, ◌<◌}
use native.Mathlib.Omega.{arith}
use mathlib.Core.List.{List, [], ◌∷◌}
use mathlib.Core.Bool.{Bool, true, false, not, ◌&&◌, ◌||◌, false≢true}
use mathlib.Core.Path.{◌≡◌, refl, sym, subst, ◌∙◌}
use borrow.Author.Tests.{ltb-true, ltb-false, le-ltb}
use Rattle.terms.specs.Names.{Name}
use Rattle.terms.specs.Terms.{Timer, Component, Context, sooner}
use Rattle.terms.specs.Terms.Timer.{ticks, inf}
use Rattle.terms.specs.Rules.{ok, at, some, fire, ready}
use Rattle.terms.specs.Rules.Answer.{refused, accepted}
use Rattle.terms.specs.Rules.Firing.{together}
use Rattle.terms.specs.Step.{timer_in, earlier, foremost, partner}
use Rattle.terms.proofs.Names.{and-inv, not-both}
use Rattle.terms.proofs.Answers.{took}
use Rattle.terms.proofs.Forced.{some-at, some-find}
use Rattle.terms.proofs.Lists.{seek-none, seek-some, seek-lowest}

-- ── the order of timers ──
pub sooner-back : (t u : Timer) → sooner t u ≡ true → sooner u t ≡ false
unfolding sooner
sooner-back (ticks m) (ticks n) e = le-ltb n m (omega (arith, ltb-true m n e))
sooner-back (ticks m) inf e = refl
sooner-back inf u e = absurd (false≢true e)

pub sooner-itself : (t : Timer) → sooner t t ≡ false
unfolding sooner
sooner-itself (ticks n) = le-ltb n n (omega arith)
sooner-itself inf = refl

pub sooner-through : (t u v : Timer) → sooner t u ≡ false → sooner u v ≡ false → sooner t v ≡ false
unfolding sooner
sooner-through (ticks k) (ticks m) (ticks n) e h = le-ltb k n (omega (arith, ltb-false k m e, ltb-false m n h))
sooner-through (ticks k) (ticks m) inf e h = absurd (false≢true (sym h))
sooner-through (ticks k) inf v e h = absurd (false≢true (sym e))
sooner-through inf u v e h = refl

-- ── what an order puts first ──
not-inv : (b : Bool) → not b ≡ true → b ≡ false
not-inv true e = absurd (false≢true e)
not-inv false e = refl

none-at : {A : Type 0} (f : A → Bool) (xs : List A) (q : ℕ) (y : A) → some f xs ≡ false → at xs q ≡ accepted y → f y ≡ false
none-at f xs q y e h = go (f y) refl
  where
    go : (b : Bool) → f y ≡ b → f y ≡ false
    go true t = absurd (not-both _ (some-at f xs q y h t) e)
    go false t = t

-- it passes the test, and nothing that passes comes before it
pub record First {A : Type 0} (before : A → A → Bool) (f : A → Bool) (xs : List A) (p : ℕ) : Type 0 where
  pub what : A
  pub here : at xs p ≡ accepted what
  pub passes : f what ≡ true
  pub least : (q : ℕ) (y : A) → at xs q ≡ accepted y → f y ≡ true → before y what ≡ false

module _ {A : Type 0} (before : A → A → Bool) (f : A → Bool) where
  abbrev leads : List A → A → Bool
  leads xs x = f x && not (some (λ y. f y && before y x) xs)

  -- what is found
  pub foremost-first : (xs : List A) (p : ℕ) → foremost before f xs ≡ accepted p → First before f xs p
  unfolding foremost
  foremost-first xs p e =
      let s = seek-some (leads xs) xs p e in
      let a = and-inv (f s.0) _ s.2 in
      record { what = s.0; here = s.1; passes = a.0; least = λ q y h t. rw t at (none-at (λ y. f y && before y s.0) xs q y (not-inv _ a.1) h) }

  -- what passes and that nothing comes before leads
  leading : (xs : List A) (p : ℕ) (i : First before f xs p) → leads xs i.what ≡ true
  leading xs p i = go (some (λ y. f y && before y i.what) xs) refl
    where
      go : (b : Bool) → some (λ y. f y && before y i.what) xs ≡ b → leads xs i.what ≡ true
      go true e =
          let r = some-find (λ y. f y && before y i.what) xs e in
          let a = and-inv (f r.1) _ r.3 in
          absurd (not-both _ a.1 (i.least r.0 r.1 r.2 a.0))
      go false e = rw (i.passes, e)

  module _ (itself : (x : A) → before x x ≡ false) (back : (x y : A) → before x y ≡ true → before y x ≡ false) (through : (x y z : A) → before x y ≡ false → before y z ≡ false → before x z ≡ false) where
    -- what passes and stands lower than what is found comes behind it
    pub foremost-lowest : (xs : List A) (p : ℕ) (i : First before f xs p) (q : ℕ) (y : A) → foremost before f xs ≡ accepted p → q < p → at xs q ≡ accepted y → f y ≡ true → before i.what y ≡ true
    unfolding foremost
    foremost-lowest xs p i q y e h k t = go (some (λ x. f x && before x y) xs) refl (rw t at (seek-lowest (leads xs) xs p q y e h k))
      where
        behind : (x : A) → before x y ≡ true → before x i.what ≡ false → (b : Bool) → before i.what y ≡ b → before i.what y ≡ true
        behind x a c true s = s
        behind x a c false s = absurd (not-both _ a (through x i.what y c s))

        go : (b : Bool) → some (λ x. f x && before x y) xs ≡ b → not b ≡ false → before i.what y ≡ true
        go false s u = absurd (false≢true (sym u))
        go true s u =
            let r = some-find (λ x. f x && before x y) xs s in
            let a = and-inv (f r.1) _ r.3 in
            behind r.1 a.1 (i.least r.0 r.1 r.2 a.0) (before i.what y) refl

    -- of what passes, if anything does, something comes first
    some_first : (xs : List A) → some f xs ≡ true → (p : ℕ) × First before f xs p
    unfolding some at
    some_first [] e = absurd (false≢true e)
    some_first (z ∷ xs) e = go (f z) refl (some f xs) refl e (some_first xs)
      where
        alone-here : f z ≡ true → some f xs ≡ false → (q : ℕ) (y : A) → at (z ∷ xs) q ≡ accepted y → f y ≡ true → before y z ≡ false
        alone-here t u zero y h k = rw (← took h) (itself z)
        alone-here t u (suc q) y h k = absurd (not-both _ k (none-at f xs q y u h))

        stays : (p : ℕ) (i : First before f xs p) → before z i.what ≡ false → (q : ℕ) (y : A) → at (z ∷ xs) q ≡ accepted y → f y ≡ true → before y i.what ≡ false
        stays p i s zero y h k = rw (← took h) s
        stays p i s (suc q) y h k = i.least q y h k

        gives-way : (p : ℕ) (i : First before f xs p) → before i.what z ≡ false → (q : ℕ) (y : A) → at (z ∷ xs) q ≡ accepted y → f y ≡ true → before y z ≡ false
        gives-way p i s zero y h k = rw (← took h) (itself z)
        gives-way p i s (suc q) y h k = through y i.what z (i.least q y h k) s

        passed-by : (p : ℕ) (i : First before f xs p) → f z ≡ false → (q : ℕ) (y : A) → at (z ∷ xs) q ≡ accepted y → f y ≡ true → before y i.what ≡ false
        passed-by p i t zero y h k = absurd (not-both _ k (rw (← took h) t))
        passed-by p i t (suc q) y h k = i.least q y h k

        either : (p : ℕ) (i : First before f xs p) → f z ≡ true → (b : Bool) → before i.what z ≡ b → (p : ℕ) × First before f (z ∷ xs) p
        either p i t true s = (suc p, record { what = i.what; here = i.here; passes = i.passes; least = stays p i (back i.what z s) })
        either p i t false s = (0, record { what = z; here = refl; passes = t; least = gives-way p i s })

        go : (b : Bool) → f z ≡ b → (c : Bool) → some f xs ≡ c → (b || c) ≡ true → (some f xs ≡ true → (p : ℕ) × First before f xs p) → (p : ℕ) × First before f (z ∷ xs) p
        go true t true u h r = let m = r u in either m.0 m.1 t (before m.1.what z) refl
        go true t false u h r = (0, record { what = z; here = refl; passes = t; least = alone-here t u })
        go false t true u h r = let m = r u in (suc m.0, record { what = m.1.what; here = m.1.here; passes = m.1.passes; least = passed-by m.0 m.1 t })
        go false t false u h r = absurd (false≢true h)

    -- one is found if there is one
    pub foremost-none : (xs : List A) (n : ℕ) → foremost before f xs ≡ refused n → some f xs ≡ false
    unfolding foremost
    foremost-none xs n e = go (some f xs) refl
      where
        go : (b : Bool) → some f xs ≡ b → some f xs ≡ false
        go false t = t
        go true t =
            let m = some_first xs t in
            absurd (not-both _ (leading xs m.0 m.1) (none-at (leads xs) xs m.0 m.1.what (seek-none (leads xs) xs n e) m.1.here))

-- ── the partner ──
module _ (d : Context) (l : Name) (c : Component) (net : List Component) where
  abbrev may_meet : Component → Bool
  may_meet e = ready l e && ok (fire d (together c e))

  pub partner-first : (p : ℕ) → partner d l c net ≡ accepted p → First earlier may_meet net p
  unfolding partner
  partner-first p e = foremost-first earlier may_meet net p e

  -- it is ready and may meet the output
  pub partner-some : (p : ℕ) → partner d l c net ≡ accepted p → (e : Component) × (at net p ≡ accepted e) × ((ready l e && ok (fire d (together c e))) ≡ true)
  partner-some p e = let i = partner-first p e in (i.what, i.here, i.passes)

  -- there is none only if no ready input may meet the output
  pub partner-none : (n : ℕ) → partner d l c net ≡ refused n → some (λ e. ready l e && ok (fire d (together c e))) net ≡ false
  unfolding partner
  partner-none n e = foremost-none earlier may_meet (λ x. sooner-itself (timer_in x)) (λ x y. sooner-back (timer_in x) (timer_in y)) (λ x y z. sooner-through (timer_in x) (timer_in y) (timer_in z)) net n e

  -- no other that may meet the output has a lesser timer
  pub partner-least : (p q : ℕ) (b e : Component) → partner d l c net ≡ accepted p → at net p ≡ accepted b → at net q ≡ accepted e → (ready l e && ok (fire d (together c e))) ≡ true → sooner (timer_in e) (timer_in b) ≡ false
  partner-least p q b e r h k t = let i = partner-first p r in subst (λ x. sooner (timer_in e) (timer_in x) ≡ false) (took (sym i.here ∙ h)) (i.least q e k t)

  -- one that stands lower has a greater timer
  pub partner-lowest : (p q : ℕ) (b e : Component) → partner d l c net ≡ accepted p → at net p ≡ accepted b → q < p → at net q ≡ accepted e → (ready l e && ok (fire d (together c e))) ≡ true → sooner (timer_in b) (timer_in e) ≡ true
  unfolding partner
  partner-lowest p q b e r h s k t =
      let i = partner-first p r in
      subst (λ x. sooner (timer_in x) (timer_in e) ≡ true) (took (sym i.here ∙ h))
      (foremost-lowest earlier may_meet (λ x. sooner-itself (timer_in x)) (λ x y. sooner-back (timer_in x) (timer_in y)) (λ x y z. sooner-through (timer_in x) (timer_in y) (timer_in z)) net p i q e r s k t)
