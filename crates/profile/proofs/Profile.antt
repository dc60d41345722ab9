-- The test of a location is the sentence of document 02: no late `go`, and for every channel at most one ready sender and at most one ready receiver.
-- By induction on the ready ones: what a component asks of those behind it is what its own channel asks.
use Prim.Native.Nat.{ℕ, ◌+◌, ◌≤◌}
use native.Mathlib.Omega.{arith}
use mathlib.Core.List.{List, [], ◌∷◌}
use mathlib.Core.Bool.{Bool, true, false, cond, not, false≢true}
use mathlib.Core.Path.{◌≡◌, refl, subst}
use borrow.Author.Tests.{not-false}
use Rattle.terms.specs.Names.{Name}
use Rattle.terms.specs.Terms.{Component, due}
use Rattle.terms.specs.Terms.Part.{stop, go, out, inp, call}
use Rattle.terms.specs.Terms.Process.{one, ◌∥◌}
use Rattle.terms.specs.Terms.Component.{comp}
use Rattle.terms.specs.Rules.{some}
use Rattle.terms.proofs.Names.{and-inv, and_in, name-eq, name-refl}
use Rattle.terms.proofs.Sums.{total}
use Rattle.terms.proofs.Forced.{or-none}
use Rattle.laws.proofs.Fires.{on, ready-total}
use Rattle.profile.specs.Profile.{late_go, sends_on, receives_on, asks, choiceless, ready_ones, conforms, at_most_one, Conforming, ConformsExactly}
use Rattle.profile.proofs.Counts.{bit, none-total, one-total, tail-one}

-- ── what a component asks ──
asks-sends : (k : Name) (c : Component) (cs : List Component) → asks c cs ≡ true → sends_on k c ≡ true → not (some (sends_on k) cs) ≡ true
unfolding asks sends_on
asks-sends k (comp h m (a ∥ p)) cs e s = absurd (false≢true s)
asks-sends k (comp h m (one stop)) cs e s = absurd (false≢true s)
asks-sends k (comp h m (one (go t v p))) cs e s = absurd (false≢true s)
asks-sends k (comp h m (one (out c t v p q))) cs e s = subst (λ k. not (some (sends_on k) cs) ≡ true) (name-eq c k s) e
asks-sends k (comp h m (one (inp c t y p q))) cs e s = absurd (false≢true s)
asks-sends k (comp h m (one (call i vs))) cs e s = absurd (false≢true s)

asks-receives : (k : Name) (c : Component) (cs : List Component) → asks c cs ≡ true → receives_on k c ≡ true → not (some (receives_on k) cs) ≡ true
unfolding asks receives_on
asks-receives k (comp h m (a ∥ p)) cs e s = absurd (false≢true s)
asks-receives k (comp h m (one stop)) cs e s = absurd (false≢true s)
asks-receives k (comp h m (one (go t v p))) cs e s = absurd (false≢true s)
asks-receives k (comp h m (one (out c t v p q))) cs e s = absurd (false≢true s)
asks-receives k (comp h m (one (inp c t y p q))) cs e s = subst (λ k. not (some (receives_on k) cs) ≡ true) (name-eq c k s) e
asks-receives k (comp h m (one (call i vs))) cs e s = absurd (false≢true s)

asks-prompt : (c : Component) (cs : List Component) → asks c cs ≡ true → late_go c ≡ false
unfolding asks late_go
asks-prompt (comp h m (a ∥ p)) cs e = refl
asks-prompt (comp h m (one stop)) cs e = refl
asks-prompt (comp h m (one (go t v p))) cs e = rw e
asks-prompt (comp h m (one (out c t v p q))) cs e = refl
asks-prompt (comp h m (one (inp c t y p q))) cs e = refl
asks-prompt (comp h m (one (call i vs))) cs e = refl

-- ── only if ──
choiceless-one : (f : Component → Bool) → ((c : Component) (cs : List Component) → asks c cs ≡ true → f c ≡ true → not (some f cs) ≡ true) → (cs : List Component) → choiceless cs ≡ true → at_most_one f cs ≡ true
unfolding choiceless at_most_one
choiceless-one f h [] e = refl
choiceless-one f h (c ∷ cs) e = let r = and-inv (asks c cs) (choiceless cs) e in go (f c) refl r.0 (choiceless-one f h cs r.1)
  where
    go : (b : Bool) → f c ≡ b → asks c cs ≡ true → at_most_one f cs ≡ true → cond b (not (some f cs)) (at_most_one f cs) ≡ true
    go true q a k = h c cs a q
    go false q a k = k

choiceless-prompt : (cs : List Component) → choiceless cs ≡ true → some late_go cs ≡ false
unfolding choiceless some
choiceless-prompt [] e = refl
choiceless-prompt (c ∷ cs) e = let r = and-inv (asks c cs) (choiceless cs) e in rw (asks-prompt c cs r.0, choiceless-prompt cs r.1)

-- ── if ──
head-one : (f : Component → Bool) (c : Component) (cs : List Component) → f c ≡ true → at_most_one f (c ∷ cs) ≡ true → not (some f cs) ≡ true
unfolding at_most_one
head-one f c cs q e = rw q at e

asks-if : (c : Component) (cs : List Component) → late_go c ≡ false → ((k : Name) → at_most_one (sends_on k) (c ∷ cs) ≡ true) → ((k : Name) → at_most_one (receives_on k) (c ∷ cs) ≡ true) → asks c cs ≡ true
unfolding asks late_go sends_on receives_on
asks-if (comp h m (a ∥ p)) cs l s r = refl
asks-if (comp h m (one stop)) cs l s r = refl
asks-if (comp h m (one (go t v p))) cs l s r = not-false (due t) l
asks-if (comp h m (one (out c t v p q))) cs l s r = head-one (sends_on c) _ cs (name-refl c) (s c)
asks-if (comp h m (one (inp c t y p q))) cs l s r = head-one (receives_on c) _ cs (name-refl c) (r c)
asks-if (comp h m (one (call i vs))) cs l s r = refl

choiceless-if : (cs : List Component) → some late_go cs ≡ false → ((k : Name) → at_most_one (sends_on k) cs ≡ true) → ((k : Name) → at_most_one (receives_on k) cs ≡ true) → choiceless cs ≡ true
unfolding choiceless some
choiceless-if [] l s r = refl
choiceless-if (c ∷ cs) l s r =
    let t = or-none (late_go c) (some late_go cs) l in
    and_in _ _ (asks-if c cs t.0 s r) (choiceless-if cs t.1 (λ k. tail-one (sends_on k) c cs (s k)) (λ k. tail-one (receives_on k) c cs (r k)))

pub conforms-exactly : ConformsExactly
unfolding conforms
conforms-exactly l net = (only_if, λ h. choiceless-if (ready_ones l net) h.prompt h.senders h.receivers)
  where
    only_if : choiceless (ready_ones l net) ≡ true → Conforming l net
    only_if e = record {
      prompt = choiceless-prompt (ready_ones l net) e;
      senders = λ k. choiceless-one (sends_on k) (asks-sends k) (ready_ones l net) e;
      receivers = λ k. choiceless-one (receives_on k) (asks-receives k) (ready_ones l net) e;
    }

-- ── by weight ──
pub record Sole (l : Name) (s : List Component) : Type 0 where
  pub senders : (k : Name) → total (on l (bit (sends_on k))) s ≤ 1
  pub receivers : (k : Name) → total (on l (bit (receives_on k))) s ≤ 1
  pub prompt : total (on l (bit late_go)) s ≡ 0

pub sole : (l : Name) (net : List Component) → conforms l net ≡ true → Sole l net
sole l net e =
    let h = (conforms-exactly l net).0 e in
    record {
      senders = λ k. omega (arith, ready-total l (bit (sends_on k)) net, one-total (sends_on k) (ready_ones l net) (h.senders k));
      receivers = λ k. omega (arith, ready-total l (bit (receives_on k)) net, one-total (receives_on k) (ready_ones l net) (h.receivers k));
      prompt = omega (arith, ready-total l (bit late_go) net, none-total late_go (ready_ones l net) h.prompt);
    }

-- it holds of every part of the components
pub sole-part : (l : Name) (xs ys : List Component) (more : (Component → ℕ) → ℕ) → ((w : Component → ℕ) → total (on l w) xs ≡ more w + total (on l w) ys) → Sole l xs → Sole l ys
sole-part l xs ys more h k = record {
  senders = λ c. omega (arith, h (bit (sends_on c)), k.senders c);
  receivers = λ c. omega (arith, h (bit (receives_on c)), k.receivers c);
  prompt = omega (arith, h (bit late_go), k.prompt);
}

pub sole-tail : (l : Name) (c : Component) (s : List Component) → Sole l (c ∷ s) → Sole l s
unfolding total
sole-tail l c s = sole-part l (c ∷ s) s (λ w. on l w c) (λ w. refl)
