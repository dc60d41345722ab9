-- The rules: document 01, *Actions* and *The tick at l*, after Table 2 of source document 001.
-- Every definition is a function. A refusal carries the number of the first question answered by no.
use Rattle.std.specs.Prelude.{ℕ, zero, suc, Bool, true, false, cond, ◌&&◌, ◌||◌, eqb, length}
use mathlib.Core.List.{List, [], ◌∷◌, flat_map}
use Rattle.terms.specs.Names.{Name, same_name}
use Rattle.terms.specs.Terms.{Value, Part, Process, Component, Def, Edition, Label, Rights, less, expired, due, fires_at, Context}
use Rattle.terms.specs.Terms.Value.{loc, var}
use Rattle.terms.specs.Terms.Part.{stop, go, out, inp, call}
use Rattle.terms.specs.Terms.Process.{one, ◌∥◌}
use Rattle.terms.specs.Terms.Mark.{none, by}
use Rattle.terms.specs.Terms.Component.{comp}
use Rattle.terms.specs.Terms.Def.{define}
use Rattle.terms.specs.Terms.Label.{called, moved, sent}
use Rattle.terms.specs.Substitution.{just, env, sub_p, substitution}

-- ── answers ──
pub data Answer (A : Type 0) : Type 0 where
  refused : ℕ → Answer A
  accepted : A → Answer A

infixl 20 ◌>>=◌
abbrev pub ◌>>=◌ : {A B : Type 0} → Answer A → (A → Answer B) → Answer B
refused n >>= f = refused n
accepted a >>= f = f a

abbrev pub ok : {A : Type 0} → Answer A → Bool
ok (refused n) = false
ok (accepted a) = true

-- ── lists by position ──
-- question 8 of a position
unfoldable pub at : {A : Type 0} → List A → ℕ → Answer A
at [] p = refused 8
at (x ∷ xs) zero = accepted x
at (x ∷ xs) (suc p) = at xs p

unfoldable pub set : {A : Type 0} → List A → ℕ → A → List A
set [] p y = []
set (x ∷ xs) zero y = y ∷ xs
set (x ∷ xs) (suc p) y = x ∷ set xs p y

unfoldable pub set_all : {A : Type 0} → List ℕ → List A → List A → List A
set_all [] ys xs = xs
set_all (p ∷ ps) [] xs = xs
set_all (p ∷ ps) (y ∷ ys) xs = set_all ps ys (set xs p y)

-- the position of the first element that passes the test
unfoldable pub seek : {A : Type 0} → (A → Bool) → List A → Answer ℕ
seek f [] = refused 8
seek f (x ∷ xs) = cond (f x) (accepted 0) (seek f xs >>= λ p. accepted (suc p))

unfoldable pub some : {A : Type 0} → (A → Bool) → List A → Bool
some f [] = false
some f (x ∷ xs) = f x || some f xs

-- x if it passes the test: `flat_map (only f)` keeps what passes
unfoldable pub only : {A : Type 0} → (A → Bool) → A → List A
only f x = cond (f x) (x ∷ []) []

-- ── what an action does to the components that it replaces ──
-- Kinds 1 and 2 replace one component, kind 3 two: an output and an input.
pub data Kind : Type 0 where
  calls moves : Kind

-- an action with its components, positions aside
pub data Firing : Type 0 where
  alone : Kind → Component → Firing
  together : Component → Component → Firing

-- the label, and the components that take the places of those replaced
pub record Fired : Type 0 where
  pub label : Label
  pub after : List Component

-- a call or a move of one part: its label, where it goes and what it becomes
pub record Became : Type 0 where
  pub label : Label
  pub place : Name
  pub process : Process

-- a communication of two parts: channel, value, and what they become
pub record Met : Type 0 where
  pub channel : Name
  pub value : Name
  pub sender : Process
  pub receiver : Process

-- the arguments of a call that fires are locations
unfoldable pub locations : List Value → Answer (List Name)
locations [] = accepted []
locations (loc l ∷ vs) = locations vs >>= λ ls. accepted (l ∷ ls)
locations (var x ∷ vs) = refused 10

-- a body with the arguments put for the parameters, as many as there are
unfoldable pub filled : List Name → Process → List Name → Answer Process
filled us p ls = cond (eqb (length us) (length ls)) (accepted (sub_p p (env us ls))) (refused 10)

unfoldable pub body : List Def → Name → List Name → Answer Process
body [] i ls = refused 10
body (define j us p ∷ ds) i ls = cond (same_name i j) (filled us p ls) (body ds i ls)

-- kind 1 is of the form `call`, kind 2 of the form `go`, with any timer (question 10)
unfoldable pub becomes : Context → Kind → Name → Part → Answer Became
becomes d calls l stop = refused 10
becomes d calls l (go t v p) = refused 10
becomes d calls l (out c t v p q) = refused 10
becomes d calls l (inp c t y p q) = refused 10
becomes d calls l (call i vs) =
    locations vs >>= λ ls. body d.defs i ls >>= λ p. accepted (record { label = called i l; place = l; process = p })
becomes d moves l stop = refused 10
becomes d moves l (go t (loc v) p) = accepted (record { label = moved v l; place = v; process = p })
becomes d moves l (go t (var y) p) = refused 10
becomes d moves l (out c t v p q) = refused 10
becomes d moves l (inp c t y p q) = refused 10
becomes d moves l (call i vs) = refused 10

-- kind 3: an output and an input, with any timers (question 10), on one channel (question 11)
unfoldable pub meet : Part → Part → Answer Met
meet stop b = refused 10
meet (go t v p) b = refused 10
meet (inp c t y p q) b = refused 10
meet (call i vs) b = refused 10
meet (out c t v p q) stop = refused 10
meet (out c t v p q) (go t' v' p') = refused 10
meet (out c t v p q) (out c' t' v' p' q') = refused 10
meet (out c t v p q) (call i vs) = refused 10
meet (out c t (var x) p q) (inp c' t' y p' q') = refused 10
meet (out c t (loc v) p q) (inp c' t' y p' q') =
    cond (same_name c c') (accepted (record { channel = c; value = v; sender = p; receiver = sub_p p' (just y v) })) (refused 11)

-- Questions 9 to 11, then the components marked with the location where the action fires: for a move the one that it leaves.
unfoldable pub fits : Context → Firing → Answer Fired
fits d (alone k (comp l (by m) p)) = refused 9
fits d (alone k (comp l none (a ∥ p))) = refused 10
fits d (alone k (comp l none (one a))) =
    becomes d k l a >>= λ b. accepted (record { label = b.label; after = comp b.place (by l) b.process ∷ [] })
fits d (together (comp l (by m) p) e) = refused 9
fits d (together (comp l none p) (comp k (by m) q)) = refused 9
fits d (together (comp l none (a ∥ p)) (comp k none q)) = refused 10
fits d (together (comp l none (one a)) (comp k none (b ∥ q))) = refused 10
fits d (together (comp l none (one a)) (comp k none (one b))) =
    meet a b >>= λ m. cond (same_name l k)
    (accepted (record { label = sent m.channel m.value l; after = comp l (by l) m.sender ∷ comp l (by l) m.receiver ∷ [] }))
    (refused 11)

-- The right that an action with this label needs: document 02, R-6. A communication needs two of its location, for its channel; a move the right to leave
-- for its target, unless that is its own location; a call none.
unfoldable pub granted : Rights → Label → Bool
granted r (called i l) = true
granted r (moved v l) = same_name v l || r.leave l v
granted r (sent c v l) = r.send l c && r.receive l c

-- This is the one definition of `may fire`: the questions, the forced test, the step's choice and the notes all go by it. What fits may fire if it has its
-- right (question 20).
unfoldable pub fire : Context → Firing → Answer Fired
fire d x = fits d x >>= λ f. cond (granted d.rights f.label) (accepted f) (refused 20)

-- ── an action at positions ──
pub data Action : Type 0 where
  single : Kind → ℕ → Action
  pair : ℕ → ℕ → Action

unfoldable pub positions : Action → List ℕ
positions (single k p) = p ∷ []
positions (pair p q) = p ∷ q ∷ []

unfoldable pub firing_at : Action → List Component → Answer Firing
firing_at (single k p) net = at net p >>= λ c. accepted (alone k c)
firing_at (pair p q) net = at net p >>= λ c. at net q >>= λ e. accepted (together c e)

pub record Acted : Type 0 where
  pub label : Label
  pub comps : List Component

-- questions 8 to 11 and 20, then the components replaced at their own positions
unfoldable pub act : Context → Action → List Component → Answer Acted
act d a net = firing_at a net >>= λ x. fire d x >>= λ f. accepted (record { label = f.label; comps = set_all (positions a) f.after net })

-- ── when the tick at l is allowed ──
unfoldable pub unmarked : Component → Bool
unmarked (comp l none p) = true
unmarked (comp l (by m) p) = false

-- it stands at l unmarked
unfoldable pub ready : Name → Component → Bool
ready l (comp h none p) = same_name h l
ready l (comp h (by m) p) = false

-- a `go` with timer 0
unfoldable pub due_go : Component → Bool
due_go (comp h m (a ∥ p)) = false
due_go (comp h m (one stop)) = false
due_go (comp h m (one (go t v p))) = due t
due_go (comp h m (one (out c t v p q))) = false
due_go (comp h m (one (inp c t y p q))) = false
due_go (comp h m (one (call i vs))) = false

-- a call or a move with timer 0 can fire
unfoldable pub urgent : Context → Component → Bool
urgent d c = ok (fire d (alone calls c)) || (due_go c && ok (fire d (alone moves c)))

-- of components that are all ready at one location: a call, a communication or a move with timer 0 can fire
unfoldable pub pressing : Context → List Component → Bool
pressing d cs = some (λ c. urgent d c || some (λ e. ok (fire d (together c e))) cs) cs

-- the tick at l is not allowed
unfoldable pub forced : Context → Name → List Component → Bool
forced d l net = pressing d (flat_map (only (ready l)) net)

-- ── the tick at l ──
-- what becomes of a part that is ready where the tick is. (A tick that is allowed meets no call.) Nothing else looks at the edition.
unfoldable pub wait : Edition → Part → Process
wait e stop = one stop
wait e (go t v p) = one (go (less t) v p)
wait e (out c t v p q) = cond (expired e t) q (one (out c (less t) v p q))
wait e (inp c t y p q) = cond (expired e t) q (one (inp c (less t) y p q))
wait e (call i vs) = one (call i vs)

-- each part a component of its own, from left to right
unfoldable pub split : Name → Process → List Component
split l (one a) = comp l none (one a) ∷ []
split l (a ∥ p) = comp l none (one a) ∷ split l p

-- what becomes of a component in the tick at l, where the marks vanish whose owner passes the test.
-- What was ready at l waits, what loses its mark keeps its timers; both are split. All others are untouched.
unfoldable pub pass : Context → (Name → Bool) → Name → Component → List Component
pass d own l (comp h none (one a)) = cond (same_name h l) (split h (wait d.edition a)) (comp h none (one a) ∷ [])
pass d own l (comp h none (a ∥ p)) = comp h none (a ∥ p) ∷ []
pass d own l (comp h (by m) p) = cond (own m) (split h p) (comp h (by m) p ∷ [])

unfoldable pub tick_with : (Name → Bool) → Context → Name → List Component → Answer (List Component)
tick_with own d l net = cond (forced d l net) (refused 12) (accepted (flat_map (pass d own l) net))

-- the engine's tick at l: marks owned by l vanish, at any location
unfoldable pub tick : Context → Name → List Component → Answer (List Component)
tick d l net = tick_with (λ m. same_name m l) d l net

-- Table 2's tick at l, which erases all marks
unfoldable pub tick_all : Context → Name → List Component → Answer (List Component)
tick_all d l net = tick_with (λ m. true) d l net

-- all of the above, for `unfolding ruling`
unfoldable pub ruling : Unit {0}
unfolding substitution less expired due fires_at at set set_all seek some only locations filled body becomes meet fits granted fire positions firing_at act unmarked ready due_go urgent pressing forced wait split pass tick_with tick tick_all
ruling = tt
