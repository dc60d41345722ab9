-- What reading gives: the network of the text's tree. It can be written, 5, 6 and 7 hold of it, it has no mark and at least one component.
-- By the answers that the questions gave on the way, and the tree's form.
use Prim.Native.Nat.{ℕ, ◌<◌}
use native.Mathlib.Omega.{arith}
use mathlib.Core.List.{List, [], ◌∷◌, ◌++◌, flat_map, append_assoc, append-nil}
use mathlib.Core.Bool.{Bool, true, false}
use mathlib.Core.Path.{◌≡◌, refl, ap, sym, subst}
use lib.ListN.{length}
use Rattle.terms.specs.Names.{Name}
use Rattle.terms.specs.Terms.{Process, Component, Network}
use Rattle.terms.specs.Terms.Process.{one, ◌∥◌}
use Rattle.terms.specs.Terms.Mark.{none, by}
use Rattle.terms.specs.Terms.Component.{comp}
use Rattle.terms.specs.Rules.{Answer, ◌>>=◌, split, unmarked}
use Rattle.terms.specs.Rules.Answer.{refused, accepted}
use Rattle.terms.specs.Same.{every}
use Rattle.terms.specs.Clock.{is_edition}
use Rattle.terms.specs.Letters.{is_location}
use Rattle.text.specs.Syntax.{Text}
use Rattle.text.specs.Tree.{Located, Tree, settled, components, network_of}
use Rattle.text.specs.Tree.Located.{at}
use Rattle.text.specs.Write.{write}
use Rattle.text.specs.WellFormed.{Is, Each, WellProcess, WellLocated, NonEmpty, WellTree, WellComponent, Writable}
use Rattle.text.specs.Questions.{ask, form, asked, read, read_under, short, shallow, fits, defined_once, calls_met, bound, places, part_places, process_places, located_places, component_places, network_places, Sound}
use Rattle.text.proofs.Exact.{form-tokens}
use Rattle.text.proofs.RoundTrip.{limited, only-limits}

pub each_append : {A : Type 0} (W : A → Type 0) (xs ys : List A) → Each W xs → Each W ys → Each W (xs ++ ys)
each_append W [] ys a b = b
each_append W (x ∷ xs) ys a b = (a.0, each_append W xs ys a.1 b)

split-well : (l : Name) (p : Process) → Is is_location l → WellProcess p → Each WellComponent (split l p)
unfolding split
split-well l (one a) h w = ((h, w), tt)
split-well l (a ∥ p) h w = ((h, w.0), split-well l p h w.1)

comps-well : (ls : List Located) → Each WellLocated ls → Each WellComponent (flat_map components ls)
unfolding flat_map components
comps-well [] w = tt
comps-well (at l p ∷ ls) w = each_append WellComponent (split l p) _ (split-well l p w.0.0 w.0.1) (comps-well ls w.1)

some-split : (l : Name) (p : Process) (cs : List Component) → NonEmpty (split l p ++ cs)
unfolding split
some-split l (one a) cs = tt
some-split l (a ∥ p) cs = tt

pub some-comps : (ls : List Located) → NonEmpty ls → NonEmpty (flat_map components ls)
unfolding flat_map components
some-comps [] s = s
some-comps (at l p ∷ ls) s = some-split l p (flat_map components ls)

flat_append : {A B : Type 0} (f : A → List B) (xs ys : List A) → flat_map f (xs ++ ys) ≡ flat_map f xs ++ flat_map f ys
unfolding flat_map
flat_append f [] ys = refl
flat_append f (x ∷ xs) ys = rw (flat_append f xs ys) (sym (append_assoc (f x) (flat_map f xs) (flat_map f ys)))

split_places : (l : Name) (p : Process) → flat_map component_places (split l p) ≡ process_places p 1 []
unfolding flat_map component_places split part_places process_places
split_places l (one a) = append-nil (part_places a 1 [])
split_places l (a ∥ p) = ap (λ x. part_places a 1 [] ++ x) (split_places l p)

comps-places : (ls : List Located) → flat_map component_places (flat_map components ls) ≡ flat_map located_places ls
unfolding flat_map components located_places
comps-places [] = refl
comps-places (at l p ∷ ls) = rw (flat_append component_places (split l p) (flat_map components ls), split_places l p, comps-places ls)

pub network-places : (t : Tree) → network_places (network_of t) ≡ places t
unfolding network_places network_of places
network-places t = rw (comps-places t.located)

-- the network of a tree that the questions let pass
tree-sound : (t : Tree) → defined_once t.defs ≡ true → calls_met t ≡ true → bound t ≡ true → Sound (network_of t)
unfolding calls_met bound network_of
tree-sound t a b c = record { once = a; defined = rw (network-places t) b; closed = rw (network-places t) c }

tree-writable : (t : Tree) → WellTree t → Writable (network_of t)
unfolding network_of
tree-writable t w = record { defs-well = w.defs-well; comps-well = comps-well t.located w.located-well; some-comps = some-comps t.located w.some-located }

-- ── reading ──
clash : {A B : Type 0} {m : ℕ} {a : A} → refused m ≡ accepted a → B
clash e = let z : ◌≡◌ {A = ℕ} 0 1 = cc in absurd (omega arith)

ask-inv : {B C : Type 0} (n : ℕ) (y : Bool) (k : Answer B) {b : B} → (ask n y >>= λ a. k) ≡ accepted b → (y ≡ true → k ≡ accepted b → C) → C
ask-inv n true k e g = g refl e
ask-inv n false k e g = clash e

pub record Given (s : List ℕ) (n : Network) : Type 0 where
  pub text : Text
  pub formed : form s ≡ accepted text
  pub is : network_of (settled text) ≡ n
  pub writable : Writable n
  pub sound : Sound n

pub read-gives : (s : List ℕ) (n : Network) → read s ≡ accepted n → Given s n
unfolding read asked
read-gives s n e = ask-inv 1 (short s) _ e λ a e. go (form s) refl e
  where
    go : (x : Answer Text) → form s ≡ x → (x >>= λ y. asked (settled y)) ≡ accepted n → Given s n
    go (refused m) h e = clash e
    go (accepted x) h e =
        let t = settled x in
        ask-inv 3 (shallow t) _ e λ q3 e.
        ask-inv 4 (fits t) _ e λ q4 e.
        ask-inv 5 (defined_once t.defs) _ e λ q5 e.
        ask-inv 6 (calls_met t) _ e λ q6 e.
        ask-inv 7 (bound t) _ e λ q7 e.
        let i : network_of t ≡ n = cc in
        record { text = x; formed = h; is = i; writable = subst Writable i (tree-writable t (form-tokens s x h).1); sound = subst Sound i (tree-sound t q5 q6 q7) }

-- ── under an edition ──
pub unknown-edition : (e : ℕ) (s : List ℕ) → is_edition e ≡ false → read_under e s ≡ refused 21
unfolding read_under
unknown-edition e s h = rw h

pub known-edition : (e : ℕ) (s : List ℕ) → is_edition e ≡ true → read_under e s ≡ read s
unfolding read_under
known-edition e s h = rw h

pub first-edition : (s : List ℕ) → read_under 1 s ≡ read s
unfolding is_edition
first-edition s = known-edition 1 s refl

-- what is accepted was read under a known edition, and the text by itself
pub under-gives : (e : ℕ) (s : List ℕ) (n : Network) → read_under e s ≡ accepted n → (is_edition e ≡ true) × (read s ≡ accepted n)
unfolding read_under
under-gives e s n h = ask-inv 21 (is_edition e) _ h λ k g. (k, g)

-- what was read can be written and read again, unless a limit is passed
pub read_again : (s : List ℕ) (n : Network) → read s ≡ accepted n → read (write n) ≡ limited n
read_again s n e = let g = read-gives s n e in only-limits n g.writable g.sound

-- ── no mark, and not empty ──
well-unmarked : (cs : List Component) → Each WellComponent cs → every unmarked cs ≡ true
unfolding every unmarked
well-unmarked [] w = refl
well-unmarked (comp l none (one a) ∷ cs) w = well-unmarked cs w.1
well-unmarked (comp l none (a ∥ p) ∷ cs) w = absurd w.0
well-unmarked (comp l (by m) p ∷ cs) w = absurd w.0

pub read-unmarked : (s : List ℕ) (n : Network) → read s ≡ accepted n → every unmarked n.comps ≡ true
read-unmarked s n e = well-unmarked n.comps (read-gives s n e).writable.comps-well

pub filled : (cs : List Component) → NonEmpty cs → 0 < length cs
filled [] h = absurd h
filled (c ∷ cs) h = omega arith
