-- Bytes put on a page one after the other: two texts in a row are one text, and a text is put in steps.
-- By the laws of bytes put into a buffer (proofs/Puts).
use Prim.Native.Nat.{ℕ}
use mathlib.Core.List.{List, [], ◌++◌}
use mathlib.Core.Path.{◌≡◌, refl, ◌∙◌}
use Rattle.text_letters.specs.declared.Page.{Page}
use Rattle.text_letters.specs.Put.{Wrote}
use Rattle.text_letters.specs.Page.{Adds}
use Rattle.text_letters.proofs.Puts as puts
use Rattle.text_letters.proofs.Puts.{Left}

pub nothing : {p : Page} → Adds p [] p
nothing = record { same_bytes = refl; wrote = puts.nothing }

pub then : {p q r : Page} {s t : List ℕ} → Adds p s q → Adds q t r → Adds p (s ++ t) r
then x y = record { same_bytes = y.same_bytes ∙ x.same_bytes; wrote = puts.then x.wrote y.wrote }

-- the same bytes
pub same : {p q : Page} {s t : List ℕ} → s ≡ t → Adds p s q → Adds p t q
same e x = record { same_bytes = x.same_bytes; wrote = puts.same e x.wrote }

-- ── a text in steps: what is left to put on q of the text s that began on p ──
pub record LeftOf (p : Page) (s : List ℕ) (q : Page) (rest : List ℕ) : Type 0 where
  pub same_bytes : q.buf.ghost_name ≡ p.buf.ghost_name
  pub left : Left p.buf.now p.at s q.buf.now q.at rest

pub left_as : {p q : Page} {s x y : List ℕ} → x ≡ y → LeftOf p s q x → LeftOf p s q y
left_as e l = record { same_bytes = l.same_bytes; left = puts.left_as e l.left }

pub begun : {p : Page} {s : List ℕ} → LeftOf p s p s
begun = record { same_bytes = refl; left = puts.begun }

pub step : {p q r : Page} {s t rest : List ℕ} → LeftOf p s q (t ++ rest) → Adds q t r → LeftOf p s r rest
step x y = record { same_bytes = y.same_bytes ∙ x.same_bytes; left = puts.step x.left y.wrote }

pub last : {p q r : Page} {s t : List ℕ} → LeftOf p s q t → Adds q t r → Adds p s r
last x y = record { same_bytes = y.same_bytes ∙ x.same_bytes; wrote = puts.last x.left y.wrote }

pub done : {p q : Page} {s : List ℕ} → LeftOf p s q [] → Adds p s q
done x = last x nothing

-- ── from the first of the lent bytes on ──
pub from_start : {p q : Page} {d s : List ℕ} → (p.buf.now ≡ d) × (p.at ≡ 0) → Adds p s q → Wrote d 0 s q.buf.now q.at
from_start b x = rw b.1 at (rw b.0 at x.wrote)
