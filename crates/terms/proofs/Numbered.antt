-- A refusal of the rules always has a number, never 0: so the code 0 can say that a call was accepted.
-- By cases on what fires.
use Prim.Native.Nat.{ℕ, zero, suc}
use native.Mathlib.Omega.{arith}
use mathlib.Core.List.{List, [], ◌∷◌}
use mathlib.Core.Bool.{Bool, true, false, cond}
use mathlib.Core.Path.{◌≡◌}
use lib.Dec.{eqb}
use lib.ListN.{length}
use Rattle.terms.specs.Names.{Name, same_name}
use Rattle.terms.specs.Terms.{Value, Part, Component, Def, Context}
use Rattle.terms.specs.Terms.Value.{loc, var}
use Rattle.terms.specs.Terms.Part.{stop, go, out, inp, call}
use Rattle.terms.specs.Terms.Process.{one, ◌∥◌}
use Rattle.terms.specs.Terms.Mark.{none, by}
use Rattle.terms.specs.Terms.Component.{comp}
use Rattle.terms.specs.Terms.Def.{define}
use Rattle.terms.specs.Rules.{Answer, Kind, Firing, Action, ◌>>=◌, at, locations, filled, body, becomes, meet, fits, granted, fire, firing_at, act, forced, tick_with, tick}
use Rattle.terms.specs.Rules.Answer.{refused, accepted}
use Rattle.terms.specs.Rules.Kind.{calls, moves}
use Rattle.terms.specs.Rules.Firing.{alone, together}
use Rattle.terms.specs.Rules.Action.{single, pair}

-- it is accepted, or refused with a number that is not 0
abbrev pub numbered : {A : Type 0} → Answer A → Type 0
numbered (refused n) = n ≡ 0 → ⊥
numbered (accepted a) = Unit {0}

pub bind-numbered : {A B : Type 0} (x : Answer A) (f : A → Answer B) → numbered x → ((a : A) → numbered (f a)) → numbered (x >>= f)
bind-numbered (refused n) f h k = h
bind-numbered (accepted a) f h k = k a

pub cond-numbered : {A : Type 0} (b : Bool) (x y : Answer A) → numbered x → numbered y → numbered (cond b x y)
cond-numbered true x y h k = h
cond-numbered false x y h k = k

-- the number n and one is not 0
some_number : (n : ℕ) → suc n ≡ 0 → ⊥
some_number n e = omega arith

at-numbered : {A : Type 0} (xs : List A) (p : ℕ) → numbered (at xs p)
unfolding at
at-numbered [] p = some_number 7
at-numbered (x ∷ xs) zero = tt
at-numbered (x ∷ xs) (suc p) = at-numbered xs p

locations-numbered : (vs : List Value) → numbered (locations vs)
unfolding locations
locations-numbered [] = tt
locations-numbered (loc l ∷ vs) = bind-numbered (locations vs) _ (locations-numbered vs) (λ ls. tt)
locations-numbered (var x ∷ vs) = some_number 9

body-numbered : (d : List Def) (i : Name) (ls : List Name) → numbered (body d i ls)
unfolding body filled
body-numbered [] i ls = some_number 9
body-numbered (define j us p ∷ ds) i ls = cond-numbered (same_name i j) _ _ (cond-numbered (eqb (length us) (length ls)) _ _ tt (some_number 9)) (body-numbered ds i ls)

becomes-numbered : (d : Context) (k : Kind) (l : Name) (a : Part) → numbered (becomes d k l a)
unfolding becomes
becomes-numbered d calls l stop = some_number 9
becomes-numbered d calls l (go t v p) = some_number 9
becomes-numbered d calls l (out c t v p q) = some_number 9
becomes-numbered d calls l (inp c t y p q) = some_number 9
becomes-numbered d calls l (call i vs) = bind-numbered (locations vs) _ (locations-numbered vs) (λ ls. bind-numbered (body d.defs i ls) _ (body-numbered d.defs i ls) (λ p. tt))
becomes-numbered d moves l stop = some_number 9
becomes-numbered d moves l (go t (loc v) p) = tt
becomes-numbered d moves l (go t (var y) p) = some_number 9
becomes-numbered d moves l (out c t v p q) = some_number 9
becomes-numbered d moves l (inp c t y p q) = some_number 9
becomes-numbered d moves l (call i vs) = some_number 9

meet-numbered : (a b : Part) → numbered (meet a b)
unfolding meet
meet-numbered stop b = some_number 9
meet-numbered (go t v p) b = some_number 9
meet-numbered (inp c t y p q) b = some_number 9
meet-numbered (call i vs) b = some_number 9
meet-numbered (out c t v p q) stop = some_number 9
meet-numbered (out c t v p q) (go t' v' p') = some_number 9
meet-numbered (out c t v p q) (out c' t' v' p' q') = some_number 9
meet-numbered (out c t v p q) (call i vs) = some_number 9
meet-numbered (out c t (var x) p q) (inp c' t' y p' q') = some_number 9
meet-numbered (out c t (loc v) p q) (inp c' t' y p' q') = cond-numbered (same_name c c') _ _ tt (some_number 10)

fits-numbered : (d : Context) (x : Firing) → numbered (fits d x)
unfolding fits
fits-numbered d (alone k (comp l (by m) p)) = some_number 8
fits-numbered d (alone k (comp l none (a ∥ p))) = some_number 9
fits-numbered d (alone k (comp l none (one a))) = bind-numbered (becomes d k l a) _ (becomes-numbered d k l a) (λ b. tt)
fits-numbered d (together (comp l (by m) p) e) = some_number 8
fits-numbered d (together (comp l none p) (comp k (by m) q)) = some_number 8
fits-numbered d (together (comp l none (a ∥ p)) (comp k none q)) = some_number 9
fits-numbered d (together (comp l none (one a)) (comp k none (b ∥ q))) = some_number 9
fits-numbered d (together (comp l none (one a)) (comp k none (one b))) = bind-numbered (meet a b) _ (meet-numbered a b) (λ m. cond-numbered (same_name l k) _ _ tt (some_number 10))

fire-numbered : (d : Context) (x : Firing) → numbered (fire d x)
unfolding fire
fire-numbered d x = bind-numbered (fits d x) _ (fits-numbered d x) (λ f. cond-numbered (granted d.rights f.label) _ _ tt (some_number 19))

firing-numbered : (a : Action) (net : List Component) → numbered (firing_at a net)
unfolding firing_at
firing-numbered (single k p) net = bind-numbered (at net p) _ (at-numbered net p) (λ c. tt)
firing-numbered (pair p q) net = bind-numbered (at net p) _ (at-numbered net p) (λ c. bind-numbered (at net q) _ (at-numbered net q) (λ e. tt))

pub act-numbered : (d : Context) (a : Action) (net : List Component) → numbered (act d a net)
unfolding act
act-numbered d a net = bind-numbered (firing_at a net) _ (firing-numbered a net) (λ x. bind-numbered (fire d x) _ (fire-numbered d x) (λ f. tt))

pub tick-numbered : (d : Context) (l : Name) (net : List Component) → numbered (tick d l net)
unfolding tick tick_with
tick-numbered d l net = cond-numbered (forced d l net) _ _ (some_number 11) tt
