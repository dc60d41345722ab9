-- Two locations by their names, or two variables by theirs.
-- By cases on which each is.
use native.Mathlib.Omega.{arith}
use Prim.Native.Nat.{ℕ}
use mathlib.Core.Bool.{Bool, true, false, cond, beq}
use mathlib.Core.Path.{◌≡◌, ap, sym}
use lib.Dec.{ltb}
use Rattle.terms.specs.Names.{Name}
use Rattle.terms.specs.Terms.{Value}
use Rattle.terms.specs.Terms.Value.{loc, var}
use Rattle.calls_alike.specs.Decides.{Decides}
use Rattle.calls_alike.specs.Pieces.{named}
use Rattle.calls_alike.proofs.Decided.{never, carried}
use Rattle.calls_alike.proofs.parts.same_named.Goals as goal

apart : {x y : Name} → loc x ≡ var y → ⊥
apart e = let z : ◌≡◌ {A = ℕ} 0 1 = cc in omega arith

loc-is : {x y : Name} → loc x ≡ loc y → x ≡ y
loc-is e = cc

var-is : {x y : Name} → var x ≡ var y → x ≡ y
var-is e = cc

abbrev value : Bool → Name → Value
value b x = cond b (loc x) (var x)

one_sort : (a b : Bool) (x y : Name) (r : Bool) → beq a b ≡ true → Decides r x y → Decides r (value a x) (value b y)
one_sort true true x y r h d = carried d (λ e. ap loc e) loc-is
one_sort false false x y r h d = carried d (λ e. ap var e) var-is
one_sort true false x y r h d = let z : false ≡ true = h in cc
one_sort false true x y r h d = let z : false ≡ true = h in cc

two_sorts : (a b : Bool) (x x' y y' : Name) → beq a b ≡ false → Decides false (cond a (loc x) (var x')) (cond b (loc y) (var y'))
two_sorts true false x x' y y' h = never (λ e. apart e)
two_sorts false true x x' y y' h = never (λ e. apart (sym e))
two_sorts true true x x' y y' h = let z : true ≡ false = h in cc
two_sorts false false x x' y y' h = let z : true ≡ false = h in cc

pub returns-then-a-b : goal.returns-then-a-b
returns-then-a-b c = rw (c.name_place.ensures, c.name_place-then-a-b.ensures) (one_sort _ _ _ _ _ c.if-a-b.true c.same_name.ensures)

pub returns-else-a-b : goal.returns-else-a-b
unfolding named
returns-else-a-b c = rw c.if-a-b.false (two_sorts (ltb c.args.a 64) (ltb c.args.b 64) _ _ _ _ c.if-a-b.false)
