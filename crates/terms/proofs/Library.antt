-- The library's words for tests of lists: those of the rules are the same, so that what it says of `all`, `any` and `==` can be used.
use mathlib.Core.List.{List, [], ◌∷◌}
use mathlib.Core.Bool.{Bool, ◌&&◌, ◌||◌}
use mathlib.Core.Path.{◌≡◌, refl, ap}
use Rattle.std.specs.Prelude.{eqb, nat_eq}
use Rattle.std.specs.List.{list_all, list_any}
use Rattle.std.specs.Cmp.Lexicographic.{pointwise}
use Rattle.terms.specs.Names.{Name, same_name}
use Rattle.terms.specs.Same.{every}
use Rattle.terms.specs.Rules.{some}

pub every-list : {A : Type 0} (f : A → Bool) (xs : List A) → every f xs ≡ list_all f xs
unfolding every
every-list f [] = refl
every-list f (x ∷ xs) = ap (λ b. f x && b) (every-list f xs)

pub some-list : {A : Type 0} (f : A → Bool) (xs : List A) → some f xs ≡ list_any f xs
unfolding some
some-list f [] = refl
some-list f (x ∷ xs) = ap (λ b. f x || b) (some-list f xs)

pub same-pointwise : (u v : Name) → same_name u v ≡ pointwise nat_eq u v
unfolding same_name
same-pointwise [] [] = refl
same-pointwise [] (b ∷ v) = refl
same-pointwise (a ∷ u) [] = refl
same-pointwise (a ∷ u) (b ∷ v) = ap (λ t. eqb a b && t) (same-pointwise u v)
