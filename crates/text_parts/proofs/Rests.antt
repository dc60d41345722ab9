-- Laws of what readers give: changing what was read, one reader after another.
-- By the two cases, something was read or not.
use Prim.Native.Nat.{ℕ, ◌<◌}
use native.Mathlib.Omega.{arith}
use mathlib.Core.Bool.{Bool, true, false}
use mathlib.Core.List.{List, [], ◌∷◌}
use mathlib.Core.Path.{◌≡◌, refl, ap, sym}
use lib.Dec.{eqb}
use lib.ListN.{length}
use Rattle.text.specs.Tokens.{Token}
use Rattle.text.specs.Tokens.Token.{word, sign}
use Rattle.text.specs.Grammar.{Rest, Reader, bind, when, the, next}
use Rattle.text.specs.Grammar.Rest.{ok, bad}
use Rattle.text.proofs.Unbounded.{Less}
use Rattle.text_words.specs.Bytes.{mapped}
use Rattle.text.proofs.Exact.{clash}

-- ── changing what was read ──
pub mapped-mapped : {A B C : Type 0} (f : B → C) (g : A → B) (x : Rest A) → mapped f (mapped g x) ≡ mapped (λ a. f (g a)) x
mapped-mapped f g (ok a us) = refl
mapped-mapped f g bad = refl

pub mapped-same : {A B : Type 0} (f g : A → B) (x : Rest A) → ((a : A) → f a ≡ g a) → mapped f x ≡ mapped g x
mapped-same f g (ok a us) h = ap (λ b. ok b us) (h a)
mapped-same f g bad h = refl

-- one reader after another, each changed
pub mapped-bind : {A B C D : Type 0} (f : B → D) (g : A → C) (x : Rest A) (k : A → Reader B) (l : C → Reader D) → ((a : A) (us : List Token) → mapped f (k a us) ≡ l (g a) us) → mapped f (bind x k) ≡ bind (mapped g x) l
mapped-bind f g (ok a us) k l h = h a us
mapped-bind f g bad k l h = refl

pub mapped-after : {A B D : Type 0} (f : B → D) (x : Rest A) (k : A → Reader B) (l : A → Reader D) → ((a : A) (us : List Token) → mapped f (k a us) ≡ l a us) → mapped f (bind x k) ≡ bind x l
mapped-after f (ok a us) k l h = h a us
mapped-after f bad k l h = refl

pub mapped-give : {A B D : Type 0} (f : B → D) (x : Rest A) (b : B) → mapped f (bind x (λ u us. ok b us)) ≡ bind x (λ u us. ok (f b) us)
mapped-give f (ok a us) b = refl
mapped-give f bad b = refl

pub bind-same : {A B : Type 0} (x : Rest A) (k l : A → Reader B) → ((a : A) (us : List Token) → k a us ≡ l a us) → bind x k ≡ bind x l
bind-same (ok a us) k l h = h a us
bind-same bad k l h = refl

-- what was read is forgotten at once, or at the end
pub over : {A B C D : Type 0} (f : B → D) (x : Rest A) (k : A → Reader B) (l : Reader C) (g : C → Reader D) → ((a : A) (us : List Token) → mapped f (k a us) ≡ bind (l us) g) → mapped f (bind x k) ≡ bind (bind (mapped (λ a. tt {0}) x) (λ u. l)) g
over f (ok a us) k l g h = h a us
over f bad k l g h = refl

pub sign-over : {B C D : Type 0} (f : B → D) (x : Rest (Unit {0})) (k : Unit {0} → Reader B) (l : Reader C) (g : C → Reader D) → ((a : Unit {0}) (us : List Token) → mapped f (k a us) ≡ bind (l us) g) → mapped f (bind x k) ≡ bind (bind x (λ u. l)) g
sign-over f (ok a us) k l g h = h a us
sign-over f bad k l g h = refl

-- ── readers that leave less ──
pub mapped-less : {A B : Type 0} {r : Reader A} → Less r → (f : A → B) → Less (λ ts. mapped f (r ts))
mapped-less {A} {B} {r} x f ts b us e = go (r ts) refl e
  where
    go : (z : Rest A) → r ts ≡ z → mapped f z ≡ ok b us → length us < length ts
    go (ok a vs) h e = let j : vs ≡ us = cc in omega (arith, x ts a vs h, ap length j)
    go bad h e = clash e

-- ── signs ──
pub next-yes : (c : ℕ) (ts : List Token) {us : List Token} → the c ts ≡ ok tt us → next c ts ≡ true
next-yes c [] e = clash e
next-yes c (word w ∷ ts) e = clash e
next-yes c (sign d ∷ ts) {us} e = go (eqb d c) e
  where
    go : (y : Bool) → when y (tt {0}) ts ≡ ok tt us → y ≡ true
    go true e = refl
    go false e = clash e

pub next-no : (c : ℕ) (ts : List Token) → the c ts ≡ bad → next c ts ≡ false
next-no c [] e = refl
next-no c (word w ∷ ts) e = refl
next-no c (sign d ∷ ts) e = go (eqb d c) e
  where
    go : (y : Bool) → when y (tt {0}) ts ≡ bad → y ≡ false
    go true e = clash (sym e)
    go false e = refl
