-- Names entered in order, each where it is not there yet: they differ, and have the form that all of them have.
-- By induction on the list of names.
use mathlib.Core.List.{List, [], ◌∷◌, ◌++◌}
use mathlib.Core.Bool.{Bool, true, false, cond, ◌||◌, not}
use mathlib.Core.Path.{◌≡◌, refl, sym, ◌∙◌}
use borrow.Author.Tests.{not-true}
use Rattle.terms.specs.Names.{Name, same_name}
use Rattle.terms.specs.Same.{every}
use Rattle.terms.specs.Letters.{member, distinct}
use Rattle.terms.specs.Rules.{some}
use Rattle.terms.proofs.Names.{and-inv, and_in}
use Rattle.terms.proofs.Forced.{or-none}
use Rattle.text.specs.Questions.{into, firsts}
use Rattle.table.proofs.Names.{name-sym}
use Rattle.table.proofs.Tests.{every_append}

-- ── held once ──
member-append : (x : Name) (xs ys : List Name) → member x (xs ++ ys) ≡ (member x xs || member x ys)
unfolding member some
member-append x [] ys = refl
member-append x (z ∷ xs) ys = rw (member-append x xs ys) (go (same_name x z))
  where
    go : (b : Bool) → (b || (member x xs || member x ys)) ≡ ((b || member x xs) || member x ys)
    go true = refl
    go false = refl

not_in : (b : Bool) → b ≡ false → not b ≡ true
not_in b e = rw e

-- a name behind those before it
differ-snoc : (xs : List Name) (x : Name) → member x xs ≡ false → distinct xs ≡ true → distinct (xs ++ (x ∷ [])) ≡ true
unfolding distinct member some
differ-snoc [] x m e = refl
differ-snoc (y ∷ xs) x m e =
    let r = or-none (same_name x y) (member x xs) m in
    let d = and-inv (not (member y xs)) _ e in
    let s : same_name y x ≡ false = name-sym y x ∙ r.0 in
    let n : member y xs ≡ false = not-true (member y xs) d.0 in
    let o : member y (xs ++ (x ∷ [])) ≡ false = member-append y xs (x ∷ []) ∙ rw (n, s) in
    and_in _ _ (not_in (member y (xs ++ (x ∷ []))) o) (differ-snoc xs x r.1 d.1)

pub into-differ : (xs : List Name) (x : Name) → distinct xs ≡ true → distinct (into xs x) ≡ true
into-differ xs x e = go (member x xs) refl
  where
    go : (b : Bool) → member x xs ≡ b → distinct (cond b xs (xs ++ (x ∷ []))) ≡ true
    go true m = e
    go false m = differ-snoc xs x m e

pub firsts-differ : (xs ys : List Name) → distinct ys ≡ true → distinct (firsts ys xs) ≡ true
unfolding firsts
firsts-differ [] ys e = e
firsts-differ (x ∷ xs) ys e = firsts-differ xs (into ys x) (into-differ ys x e)

-- of different names, one that follows others is none of them
pub differ-none : (xs : List Name) (x : Name) (ys : List Name) → distinct (xs ++ (x ∷ ys)) ≡ true → member x xs ≡ false
unfolding distinct member some
differ-none [] x ys e = refl
differ-none (z ∷ xs) x ys e =
    let d = and-inv (not (member z (xs ++ (x ∷ ys)))) _ e in
    let r = or-none (member z xs) (member z (x ∷ ys)) (sym (member-append z xs (x ∷ ys)) ∙ not-true _ d.0) in
    let s = or-none (same_name z x) (member z ys) r.1 in
    let q : same_name x z ≡ false = name-sym x z ∙ s.0 in
    rw (q, differ-none xs x ys d.1)

-- ── of one form ──
pub into-every : (f : Name → Bool) (xs : List Name) (x : Name) → every f xs ≡ true → f x ≡ true → every f (into xs x) ≡ true
unfolding every
into-every f xs x e h = go (member x xs)
  where
    go : (b : Bool) → every f (cond b xs (xs ++ (x ∷ []))) ≡ true
    go true = e
    go false = every_append f xs (x ∷ []) e (and_in _ _ h refl)

pub firsts-every : (f : Name → Bool) (xs ys : List Name) → every f ys ≡ true → every f xs ≡ true → every f (firsts ys xs) ≡ true
unfolding firsts every
firsts-every f [] ys e h = e
firsts-every f (x ∷ xs) ys e h = let r = and-inv (f x) _ h in firsts-every f xs (into ys x) (into-every f ys x e r.0) r.1
