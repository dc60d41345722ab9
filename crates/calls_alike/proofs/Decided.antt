-- Answers whether two things are one, carried over to other things, and as the tests of components and definitions.
-- By cases on the answer.
use mathlib.Core.Bool.{Bool, true, false, false≢true}
use mathlib.Core.Path.{◌≡◌, refl, ap, sym, subst, ◌∙◌}
use Prim.Native.Nat.{ℕ, ◌≤◌, ◌<◌, min}
use native.Mathlib.Omega.{arith}
use lib.Dec.{ltb}
use borrow.Author.Tests.{ltb-true, ltb-false, lt-ltb, le-ltb}
use lib.ListN.{length, get_or}
use Rattle.std.specs.Bool.{MatchBool}
use Rattle.std.specs.List.{AllWithin, HoldsAt, range_with_len}
use Rattle.std.proofs.lemmas.List.FromFn.{length-range_with_len, get_or-range_with_len}
use Rattle.terms.specs.Terms.Timer.{ticks, inf}
use Rattle.terms.specs.Clock.{ticks_of}
use Rattle.terms.proofs.Clock.{ticks-of, inf-of}
use Rattle.terms.specs.Names.{Name, same_name}
use Rattle.terms.specs.Terms.{Component, Def}
use Rattle.terms.specs.Same.{equal, same_def}
use Rattle.terms.proofs.Names.{name-eq, name-refl, equal-eq, equal-refl, def-eq, def-refl}
use Rattle.calls_alike.specs.Decides.{Decides}

pub never : {A : Type 0} {x y : A} → (x ≡ y → ⊥) → Decides false x y
never f = record { yes = λ e. absurd (false≢true e); no = λ e. absurd (f e) }

pub always : {A : Type 0} {x y : A} → x ≡ y → Decides true x y
always e = record { yes = λ p. e; no = λ p. refl }

-- x and y are one exactly if s and t are
pub carried : {A B : Type 0} {x y : A} {s t : B} {r : Bool} → Decides r s t → (s ≡ t → x ≡ y) → (x ≡ y → s ≡ t) → Decides r x y
carried d f g = record { yes = λ e. f (d.yes e); no = λ e. d.no (g e) }

pub told : {A : Type 0} {x y : A} {r s : Bool} → r ≡ s → Decides s x y → Decides r x y
told p d = record { yes = λ e. d.yes (sym p ∙ e); no = λ e. p ∙ d.no e }

pub flipped : {A : Type 0} {x y : A} {r : Bool} → Decides r x y → Decides r y x
flipped d = carried d sym sym

-- the two things at other places that are the same
pub placed : {A B C : Type 0} (f : A → C) (g : B → C) {a a' : A} {b b' : B} {r : Bool} → a ≡ a' → b ≡ b' → Decides r (f a) (g b) → Decides r (f a') (g b')
placed f g p q d = carried d (λ e. sym (ap f p) ∙ e ∙ ap g q) (λ e. ap f p ∙ e ∙ sym (ap g q))

-- x and y are one exactly if s and t are, which are parts of them
pub record Hangs {A : Type 0} (x y s t : A) : Type 0 where
  pub up : s ≡ t → x ≡ y
  pub down : x ≡ y → s ≡ t

pub hung : {A : Type 0} {x y s t p q : A} → Hangs x y s t → Hangs s t p q → Hangs x y p q
hung f g = record { up = λ e. f.up (g.up e); down = λ e. g.down (f.down e) }

pub by-hang : {A : Type 0} {x y s t : A} {r : Bool} → Hangs x y s t → Decides r s t → Decides r x y
by-hang h d = carried d h.up h.down

-- s and t are not one, though they would be if x and y were
pub differ : {A B : Type 0} {x y : A} {s t : B} {r : Bool} → Decides r s t → r ≡ false → (x ≡ y → s ≡ t) → Decides false x y
differ d n g = never (λ e. false≢true (sym n ∙ d.no (g e)))

-- an answer by no
pub unlike : {A : Type 0} {x y : A} {r : Bool} → Decides r x y → r ≡ false → x ≡ y → ⊥
unlike d n e = false≢true (sym n ∙ d.no e)

-- the answer by no to s and t is that to x and y
pub fails : {A B : Type 0} {x y : A} {s t : B} {r : Bool} → Decides r s t → r ≡ false → (x ≡ y → s ≡ t) → Decides r x y
fails d n g = told n (differ d n g)

pub shown : {A : Type 0} {x y : A} {r : Bool} → Decides r x y → r ≡ true → x ≡ y
shown d n = d.yes n

-- ── an answer from each of n answers ──
in-range : {n : ℕ} (P : ℕ → Type 0) (m : ℕ) → m < n → P (get_or (range_with_len 0 n) m 0) → P m
in-range {n} P m l h = let e : get_or (range_with_len 0 n) m 0 ≡ m = omega (arith, get_or-range_with_len 0 n m 0 l) in subst P e h

pub all-decides : {A B : Type 0} {x y : A} {r : Bool} (f g : ℕ → B) (n : ℕ)
    → MatchBool r (AllWithin (λ m. f m ≡ g m) (range_with_len 0 n) 0 (length (range_with_len 0 n))) ((k : ℕ) × (k < length (range_with_len 0 n)) × HoldsAt (λ m. f m ≡ g m → ⊥) (range_with_len 0 n) k)
    → (((m : ℕ) → m < n → f m ≡ g m) → x ≡ y) → (x ≡ y → (m : ℕ) → m < n → f m ≡ g m) → Decides r x y
all-decides {r = true} f g n h up down = always (up (λ m l. in-range (λ z. f z ≡ g z) m l (h m 0 (omega arith) (omega (arith, length-range_with_len 0 n)))))
all-decides {r = false} f g n h up down =
    let l : h.0 < n = omega (arith, h.1, length-range_with_len 0 n) in
    never (λ e. in-range (λ z. f z ≡ g z → ⊥) h.0 l (h.2 0) (down e h.0 l))

-- ── two answers to one question ──
pub one_answer : {A : Type 0} {x y : A} {r s : Bool} → Decides r x y → Decides s x y → r ≡ s
one_answer {A} {x} {y} {r} {s} d e = go r s (λ p. e.no (d.yes p)) (λ p. d.no (e.yes p))
  where
    go : (b c : Bool) → (b ≡ true → c ≡ true) → (c ≡ true → b ≡ true) → b ≡ c
    go true c f g = sym (f refl)
    go false true f g = g refl
    go false false f g = refl

pub names-decide : (x y : Name) → Decides (same_name x y) x y
names-decide x y = record { yes = name-eq x y; no = λ e. rw e (name-refl y) }

pub equal-decides : (x y : Component) → Decides (equal x y) x y
equal-decides x y = record { yes = equal-eq x y; no = λ e. rw e (equal-refl y) }

pub defs-decide : (x y : Def) → Decides (same_def x y) x y
defs-decide x y = record { yes = def-eq x y; no = λ e. rw e (def-refl y) }

-- ── timers ──
ticks-inf : (n : ℕ) → ticks n ≡ inf → ⊥
ticks-inf n e = let z : ◌≡◌ {A = ℕ} 0 1 = cc in omega arith

-- two timers of different numbers are one if both are inf
pub infs-decide : (t u : ℕ) → (t ≡ u → ⊥) → Decides (ltb 1_000_000 (min t u)) (ticks_of t) (ticks_of u)
infs-decide t u h = go (ltb 1_000_000 t) (ltb 1_000_000 u) refl refl
  where
    go : (a b : Bool) → ltb 1_000_000 t ≡ a → ltb 1_000_000 u ≡ b → Decides (ltb 1_000_000 (min t u)) (ticks_of t) (ticks_of u)
    go true true p q = let m : 1_000_000 < min t u = omega (arith, ltb-true 1_000_000 t p, ltb-true 1_000_000 u q) in rw (lt-ltb _ _ m) (always (inf-of t (ltb-true 1_000_000 t p) ∙ sym (inf-of u (ltb-true 1_000_000 u q))))
    go true false p q =
        let m : min t u ≤ 1_000_000 = omega (arith, ltb-false 1_000_000 u q) in
        rw (le-ltb _ _ m) (never (λ e. ticks-inf u (sym (ticks-of u (ltb-false 1_000_000 u q)) ∙ sym e ∙ inf-of t (ltb-true 1_000_000 t p))))
    go false true p q =
        let m : min t u ≤ 1_000_000 = omega (arith, ltb-false 1_000_000 t p) in
        rw (le-ltb _ _ m) (never (λ e. ticks-inf t (sym (ticks-of t (ltb-false 1_000_000 t p)) ∙ e ∙ inf-of u (ltb-true 1_000_000 u q))))
    go false false p q =
        let m : min t u ≤ 1_000_000 = omega (arith, ltb-false 1_000_000 t p) in
        rw (le-ltb _ _ m) (never (λ e. let n : ticks t ≡ ticks u = sym (ticks-of t (ltb-false 1_000_000 t p)) ∙ e ∙ ticks-of u (ltb-false 1_000_000 u q) in h (cc)))
