-- Who fires alone is in no pair, and who is in a pair does not fire alone; a pair is an output and an input on one channel, and each has but one channel.
-- By cases on the parts.
use mathlib.Core.Bool.{Bool, true, false, false≢true}
use mathlib.Core.Logic.{◌⊎◌, inl, inr}
use mathlib.Core.Path.{◌≡◌, refl, ap, sym, ◌∙◌}
use borrow.Author.Tests.{not-false}
use Rattle.terms.specs.Names.{Name, same_name}
use Rattle.terms.specs.Terms.{Part, Process, Component, Context, due}
use Rattle.terms.specs.Terms.Part.{stop, go, out, inp, call}
use Rattle.terms.specs.Terms.Process.{one, ◌∥◌}
use Rattle.terms.specs.Terms.Value.{loc, var}
use Rattle.terms.specs.Terms.Mark.{none, by}
use Rattle.terms.specs.Terms.Component.{comp}
use Rattle.terms.specs.Rules.{Kind, Fired, Met, ok, becomes, meet, fits, fire, due_go}
use Rattle.terms.specs.Rules.Answer.{accepted}
use Rattle.terms.specs.Rules.Kind.{calls, moves}
use Rattle.terms.specs.Rules.Firing.{alone, together}
use Rattle.terms.proofs.Names.{name-eq, name-refl}
use Rattle.terms.proofs.Answers.{clash, bind_inv, cond-inv, fire-fits, unfit}
use Rattle.terms.proofs.Forced.{ok-inv}
use Rattle.profile.specs.Profile.{late_go, sends_on, receives_on}

-- ── who fires alone ──
pub data Alone : Part → Type 0 where
  a-go : {t : _} {v : _} {p : Process} → Alone (go t v p)
  a_call : {i : Name} {vs : _} → Alone (call i vs)

module _ (d : Context) where
  fits-alone : (k : Kind) (h : Name) (a : Part) (f : Fired) → fits d (alone k (comp h none (one a))) ≡ accepted f → Alone a
  unfolding fits becomes
  fits-alone calls h stop f e = clash e
  fits-alone calls h (go t v p) f e = clash e
  fits-alone calls h (out c t v p q) f e = clash e
  fits-alone calls h (inp c t y p q) f e = clash e
  fits-alone calls h (call i vs) f e = a_call
  fits-alone moves h stop f e = clash e
  fits-alone moves h (go t v p) f e = a-go
  fits-alone moves h (out c t v p q) f e = clash e
  fits-alone moves h (inp c t y p q) f e = clash e
  fits-alone moves h (call i vs) f e = clash e

  pub alone-part : (k : Kind) (h : Name) (a : Part) (f : Fired) → fire d (alone k (comp h none (one a))) ≡ accepted f → Alone a
  alone-part k h a f e = fits-alone k h a f (fire-fits d _ f e)

  -- a move and a call are never both possible
  no_move : (h : Name) (a : Part) (f : Fired) → fits d (alone calls (comp h none (one a))) ≡ accepted f → ok (fits d (alone moves (comp h none (one a)))) ≡ false
  unfolding fits becomes
  no_move h stop f e = clash e
  no_move h (go t v p) f e = clash e
  no_move h (out c t v p q) f e = clash e
  no_move h (inp c t y p q) f e = clash e
  no_move h (call i vs) f e = refl

  no_call : (h : Name) (a : Part) (f : Fired) → fits d (alone moves (comp h none (one a))) ≡ accepted f → ok (fits d (alone calls (comp h none (one a)))) ≡ false
  unfolding fits becomes
  no_call h stop f e = clash e
  no_call h (go t v p) f e = refl
  no_call h (out c t v p q) f e = clash e
  no_call h (inp c t y p q) f e = clash e
  no_call h (call i vs) f e = clash e

  pub calls-only : (h : Name) (a : Part) (f : Fired) → fire d (alone calls (comp h none (one a))) ≡ accepted f → ok (fire d (alone moves (comp h none (one a)))) ≡ false
  calls-only h a f e = unfit d _ (no_move h a f (fire-fits d _ f e))

  pub moves-only : (h : Name) (a : Part) (f : Fired) → fire d (alone moves (comp h none (one a))) ≡ accepted f → ok (fire d (alone calls (comp h none (one a)))) ≡ false
  moves-only h a f e = unfit d _ (no_call h a f (fire-fits d _ f e))

  pub one-kind : (c : Component) (f g : Fired) → fire d (alone calls c) ≡ accepted f → fire d (alone moves c) ≡ accepted g → ⊥
  one-kind (comp h (by m) p) f g e o = unfold fits in clash (fire-fits d _ f e)
  one-kind (comp h none (a ∥ p)) f g e o = unfold fits in clash (fire-fits d _ f e)
  one-kind (comp h none (one a)) f g e o = false≢true (sym (calls-only h a f e) ∙ ap ok o)

  -- ── who is in a pair ──
  -- an output and an input on the channel k
  pub data Talk (k : Name) : Part → Part → Type 0 where
    talk : {c c' : Name} {t t' : _} {v : _} {y : Name} {p q p' q' : Process} → c ≡ k → c' ≡ k → Talk k (out c t v p q) (inp c' t' y p' q')

  met-on : (a b : Part) (m : Met) → meet a b ≡ accepted m → Talk m.channel a b
  unfolding meet
  met-on stop b m e = clash e
  met-on (go t v p) b m e = clash e
  met-on (inp c t y p q) b m e = clash e
  met-on (call i vs) b m e = clash e
  met-on (out c t v p q) stop m e = clash e
  met-on (out c t v p q) (go t' v' p') m e = clash e
  met-on (out c t v p q) (out c' t' v' p' q') m e = clash e
  met-on (out c t v p q) (call i vs) m e = clash e
  met-on (out c t (var x) p q) (inp c' t' y p' q') m e = clash e
  met-on (out c t (loc v) p q) (inp c' t' y p' q') m e =
      let r = cond-inv (same_name c c') _ m 11 e in
      let z : c ≡ m.channel = ap (λ (m : Met). m.channel) r.1 in
      talk z (sym (name-eq c c' r.0) ∙ z)

  -- both unmarked, with one part each
  pub data Pair : Component → Component → Type 0 where
    pair-on : {h h' k : Name} {a b : Part} → Talk k a b → Pair (comp h none (one a)) (comp h' none (one b))

  fits-pair : (c e : Component) (f : Fired) → fits d (together c e) ≡ accepted f → Pair c e
  unfolding fits
  fits-pair (comp h (by m) p) e f g = clash g
  fits-pair (comp h none p) (comp k (by m) q) f e = clash e
  fits-pair (comp h none (a ∥ p)) (comp k none q) f e = clash e
  fits-pair (comp h none (one a)) (comp k none (b ∥ q)) f e = clash e
  fits-pair (comp h none (one a)) (comp k none (one b)) f e = let r = bind_inv (meet a b) _ f e in pair-on (met-on a b r.0 r.1)

  pub pairs : (c e : Component) → ok (fire d (together c e)) ≡ true → Pair c e
  pairs c e h = let r = ok-inv (fire d (together c e)) h in fits-pair c e r.0 (fire-fits d _ r.0 r.1)

  -- the one sends and the other receives
  pub sends : {c e : Component} → Pair c e → (k : Name) × (sends_on k c ≡ true) × (receives_on k e ≡ true)
  unfolding sends_on receives_on
  sends (pair-on {k = k} (talk p q)) = (k, rw p (name-refl k), rw q (name-refl k))

  -- and neither fires alone
  fits-no-alone : (k : Kind) {c e : Component} → Pair c e → (ok (fits d (alone k c)) ≡ false) × (ok (fits d (alone k e)) ≡ false)
  unfolding fits becomes
  fits-no-alone calls (pair-on (talk p q)) = (refl, refl)
  fits-no-alone moves (pair-on (talk p q)) = (refl, refl)

  pub no-alone : (k : Kind) {c e : Component} → Pair c e → (ok (fire d (alone k c)) ≡ false) × (ok (fire d (alone k e)) ≡ false)
  no-alone k p = let f = fits-no-alone k p in (unfit d _ f.0, unfit d _ f.1)

  -- who fires alone neither sends nor receives
  alone-mute : (k h : Name) {a : Part} → Alone a → (sends_on k (comp h none (one a)) ≡ false) × (receives_on k (comp h none (one a)) ≡ false)
  unfolding sends_on receives_on
  alone-mute k h a-go = (refl, refl)
  alone-mute k h a_call = (refl, refl)

true-or : (b : Bool) → (b ≡ true) ⊎ (b ≡ false)
true-or true = inl refl
true-or false = inr refl

-- b is false if it would be absurd that it is true
pub never : (b : Bool) → (b ≡ true → ⊥) → b ≡ false
never b h = go (true-or b)
  where
    go : (b ≡ true) ⊎ (b ≡ false) → b ≡ false
    go (inl e) = absurd (h e)
    go (inr e) = e

module _ (d : Context) where
  pub no-first : (h : Name) {a : Part} → Alone a → (e : Component) → ok (fire d (together (comp h none (one a)) e)) ≡ false
  no-first h o e = never _ (λ g. let r = sends d (pairs d _ e g) in false≢true (sym (alone-mute d r.0 h o).0 ∙ r.1))

  pub no_second : (h : Name) {a : Part} → Alone a → (c : Component) → ok (fire d (together c (comp h none (one a)))) ≡ false
  no_second h o c = never _ (λ g. let r = sends d (pairs d c _ g) in false≢true (sym (alone-mute d r.0 h o).1 ∙ r.2))

-- ── one channel each ──
pub only-sends : (h k : Name) (c : Component) → sends_on h c ≡ true → sends_on k c ≡ true → h ≡ k
unfolding sends_on
only-sends h k (comp l m (a ∥ p)) e f = absurd (false≢true e)
only-sends h k (comp l m (one stop)) e f = absurd (false≢true e)
only-sends h k (comp l m (one (go t v p))) e f = absurd (false≢true e)
only-sends h k (comp l m (one (out c t v p q))) e f = sym (name-eq c h e) ∙ name-eq c k f
only-sends h k (comp l m (one (inp c t y p q))) e f = absurd (false≢true e)
only-sends h k (comp l m (one (call i vs))) e f = absurd (false≢true e)

pub only-receives : (h k : Name) (c : Component) → receives_on h c ≡ true → receives_on k c ≡ true → h ≡ k
unfolding receives_on
only-receives h k (comp l m (a ∥ p)) e f = absurd (false≢true e)
only-receives h k (comp l m (one stop)) e f = absurd (false≢true e)
only-receives h k (comp l m (one (go t v p))) e f = absurd (false≢true e)
only-receives h k (comp l m (one (out c t v p q))) e f = absurd (false≢true e)
only-receives h k (comp l m (one (inp c t y p q))) e f = sym (name-eq c h e) ∙ name-eq c k f
only-receives h k (comp l m (one (call i vs))) e f = absurd (false≢true e)

-- an output does not receive
not-both : (h k : Name) (c : Component) → sends_on h c ≡ true → receives_on k c ≡ false
unfolding sends_on receives_on
not-both h k (comp l m (a ∥ p)) e = refl
not-both h k (comp l m (one stop)) e = refl
not-both h k (comp l m (one (go t v p))) e = refl
not-both h k (comp l m (one (out c t v p q))) e = refl
not-both h k (comp l m (one (inp c t y p q))) e = absurd (false≢true e)
not-both h k (comp l m (one (call i vs))) e = refl

module _ (d : Context) where
  -- so what sends is the second of no pair, and what receives the first of none
  pub no-hear : (h : Name) (c : Component) → sends_on h c ≡ true → (a : Component) → ok (fire d (together a c)) ≡ false
  no-hear h c s a = never _ (λ g. let r = sends d (pairs d a c g) in false≢true (sym (not-both h r.0 c s) ∙ r.2))

  pub no-send : (h : Name) (e : Component) → receives_on h e ≡ true → (b : Component) → ok (fire d (together e b)) ≡ false
  no-send h e s b = never _ (λ g. let r = sends d (pairs d e b g) in false≢true (sym (not-both r.0 h e r.1) ∙ s))

  -- a `go` that may fire and is not late is due
  fits-due : (c : Component) → late_go c ≡ false → (f : Fired) → fits d (alone moves c) ≡ accepted f → due_go c ≡ true
  unfolding late_go fits becomes due_go
  fits-due (comp h (by m) p) n f e = clash e
  fits-due (comp h none (a ∥ p)) n f e = clash e
  fits-due (comp h none (one stop)) n f e = clash e
  fits-due (comp h none (one (go t v p))) n f e = not-false (due t) n
  fits-due (comp h none (one (out c t v p q))) n f e = clash e
  fits-due (comp h none (one (inp c t y p q))) n f e = clash e
  fits-due (comp h none (one (call i vs))) n f e = clash e

  pub prompt-go : (c : Component) → late_go c ≡ false → ok (fire d (alone moves c)) ≡ true → due_go c ≡ true
  prompt-go c n o = let r = ok-inv (fire d (alone moves c)) o in fits-due c n r.0 (fire-fits d _ r.0 r.1)
