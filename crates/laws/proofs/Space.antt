-- A whole step never makes a network smaller: an action replaces components at their positions, and the tick makes at least one of each.
use Prim.Native.Nat.{◌≤◌}
use native.Mathlib.Omega.{arith}
use mathlib.Core.List.{List, [], ◌∷◌, flat_map}
use mathlib.Core.Bool.{Bool, true, false, cond}
use mathlib.Core.Path.{◌≡◌, ap}
use lib.ListN.{length, length-append}
use Rattle.terms.specs.Names.{Name, same_name}
use Rattle.terms.specs.Terms.{Process, Component, Context}
use Rattle.terms.specs.Terms.Process.{one, ◌∥◌}
use Rattle.terms.specs.Terms.Mark.{none, by}
use Rattle.terms.specs.Terms.Component.{comp}
use Rattle.terms.specs.Rules.{Action, split, wait, pass}
use Rattle.terms.specs.Rules.Answer.{accepted}
use Rattle.terms.specs.Step.{Done, whole_step}
use Rattle.terms.proofs.Mixed.{mine, perm-long}
use Rattle.laws.specs.Exchange.{InSpace}
use Rattle.laws.proofs.Fires.{whole, acts-size}

split-some : (l : Name) (p : Process) → 1 ≤ length (split l p)
unfolding split
split-some l (one a) = omega arith
split-some l (a ∥ p) = omega (arith, split-some l p)

pass-some : (d : Context) (own : Name → Bool) (l : Name) (c : Component) → 1 ≤ length (pass d own l c)
unfolding pass
pass-some d own l (comp h none (a ∥ p)) = omega arith
pass-some d own l (comp h none (one a)) = go (same_name h l)
  where
    go : (b : Bool) → 1 ≤ length (cond b (split h (wait d.edition a)) (comp h none (one a) ∷ []))
    go true = split-some h (wait d.edition a)
    go false = omega arith
pass-some d own l (comp h (by m) p) = go (own m)
  where
    go : (b : Bool) → 1 ≤ length (cond b (split h p) (comp h (by m) p ∷ []))
    go true = split-some h p
    go false = omega arith

flat-grows : {A B : Type 0} (f : A → List B) → ((x : A) → 1 ≤ length (f x)) → (xs : List A) → length xs ≤ length (flat_map f xs)
unfolding flat_map
flat-grows f h [] = omega arith
flat-grows f h (x ∷ xs) = omega (arith, length-append (f x) (flat_map f xs), h x, flat-grows f h xs)

pub never-fewer : (d : Context) (l : Name) (xs : List Action) (net : List Component) (r : Done) → whole_step d l xs net ≡ accepted r → length net ≤ length r.comps
never-fewer d l xs net r e =
    let s = whole d l xs net r e in
    omega (arith, acts-size d l xs net s.mid s.acts, flat-grows (pass d (mine l) l) (pass-some d (mine l) l) s.mid.comps, ap length s.ends)

pub in-space : InSpace
in-space d l m xs ys net r s ys' xs' e =
    let q : length e.r'.comps ≡ length s.comps = perm-long e.reordered in
    (omega (arith, never-fewer d l xs' e.s'.comps e.r' e.second, q), q)
