-- A test of every place of a text is a test of every row of the script that the second pass left, if the two agree at each place and its row.
-- The bodies' rows lie from the highest place down, those of the located processes directly below, and there are as many rows as places.
use Prim.Native.Nat.{ℕ, ◌+◌, ◌-◌}
use native.Mathlib.Omega.{arith}
use mathlib.Core.List.{List, [], ◌∷◌, ◌++◌, flat_map}
use mathlib.Core.Bool.{Bool, true}
use mathlib.Core.Path.{◌≡◌, refl, ap, sym, ◌∙◌}
use lib.ListN.{length, length-append}
use Rattle.terms.specs.Names.{Name}
use Rattle.terms.specs.Terms.{Process, Def}
use Rattle.terms.specs.Terms.Def.{define}
use Rattle.terms.specs.Same.{every}
use Rattle.text.specs.Tree.{Located, Tree}
use Rattle.text.specs.Tree.Located.{at}
use Rattle.text.specs.Questions.{Place, firsts, process_places, def_places, located_places, places, part_count}
use Rattle.table.specs.Words.{parts_in}
use Rattle.table.specs.Valid.{below}
use Rattle.table.specs.Size.{size_p}
use Rattle.table.proofs.Tests.{every_append}
use Rattle.text_build.specs.Growth.{place_listed}
use Rattle.text_build.specs.Put.{offsets}
use Rattle.text_build.proofs.Places.{Fit, every-split}
use Rattle.text_tree.specs.Pass.{param_scope, after_bodies, top, behind}
use Rattle.text_tree.proofs.Whole.{DefStands, DefsStand, AllStand, Whole}
use Rattle.text_tree.proofs.AskedRows.{every-join, down, down-join, down-all, process-length, Agree, process-rows}

-- the place behind the bodies lies as many rows below as they have
after-length : (ds : List Def) (i : ℕ) → after_bodies ds i ≡ i - length (flat_map def_places ds)
unfolding after_bodies flat_map def_places
after-length [] i = omega arith
after-length (define x us p ∷ ds) i =
    after-length ds (i - size_p p)
    ∙ omega (arith, length-append (process_places p 1 (firsts [] us)) (flat_map def_places ds), process-length p 1 (firsts [] us))

-- the locations and channels of every place are in the script's tables
defs-listed : (w : List ℕ) (ds : List Def) (k i : ℕ) → DefsStand w ds k i → every (place_listed w) (flat_map def_places ds) ≡ true
unfolding flat_map def_places every
defs-listed w [] k i s = refl
defs-listed w (define x us p ∷ ds) k i s = every_append (place_listed w) (process_places p 1 (firsts [] us)) _ s.0.listed (defs-listed w ds (k + 1) (i - size_p p) s.1)

located-listed : (w : List ℕ) (ls : List Located) (i : ℕ) → AllStand w ls i → every (place_listed w) (flat_map located_places ls) ≡ true
unfolding flat_map located_places every
located-listed w [] i s = refl
located-listed w (at l p ∷ ls) i s = every_append (place_listed w) (process_places p 1 []) _ s.0.listed (located-listed w ls (i - size_p p) s.1)

pub all_listed : (t : Tree) (w : List ℕ) → Whole t w → every (place_listed w) (places t) ≡ true
unfolding places
all_listed t w s = every_append (place_listed w) (flat_map def_places t.defs) _ (defs-listed w t.defs 0 (top t) s.bodies) (located-listed w t.located (behind t) s.located)

module _ (w : List ℕ) (f h : Place → Bool) (g : ℕ → Bool) (agree : Agree w f h g) where
  -- the places of a body are those of its process
  def-rows : (x : Name) (us : List Name) (p : Process) (k i : ℕ) → DefStands w x us p k i → Fit h p 1 (firsts [] us)
      → every f (process_places p 1 (firsts [] us)) ≡ down g i (length (process_places p 1 (firsts [] us)))
  def-rows x us p k i s e =
      ap (λ ys. every f (process_places p 1 ys)) (sym s.scope)
      ∙ process-rows w f h g agree p i 1 (offsets (param_scope w k)) s.stands (rw s.scope e)
      ∙ ap (down g i) (sym (process-length p 1 (firsts [] us)))

  -- p's places, then those of what follows
  both-rows : (xs ys : List Place) (i j : ℕ) → i - length xs ≡ j → every f xs ≡ down g i (length xs) → every f ys ≡ down g j (length ys)
      → every f (xs ++ ys) ≡ down g i (length (xs ++ ys))
  both-rows xs ys i j e a b = every-join f xs ys ∙ rw (a, b, ← e, length-append xs ys) (sym (down-join g (length xs) (length ys) i))

  defs-rows : (ds : List Def) (k i : ℕ) → DefsStand w ds k i → every h (flat_map def_places ds) ≡ true
      → every f (flat_map def_places ds) ≡ down g i (length (flat_map def_places ds))
  unfolding flat_map def_places every down
  defs-rows [] k i s e = refl
  defs-rows (define x us p ∷ ds) k i s e =
      let r = every-split h (process_places p 1 (firsts [] us)) _ e in
      let z = process-length p 1 (firsts [] us) in
      both-rows (process_places p 1 (firsts [] us)) (flat_map def_places ds) i (i - size_p p) (omega arith) (def-rows x us p k i s.0 r.0)
      (defs-rows ds (k + 1) (i - size_p p) s.1 r.1)

  located-rows : (ls : List Located) (i : ℕ) → AllStand w ls i → every h (flat_map located_places ls) ≡ true
      → every f (flat_map located_places ls) ≡ down g i (length (flat_map located_places ls))
  unfolding flat_map located_places every down
  located-rows [] i s e = refl
  located-rows (at l p ∷ ls) i s e =
      let r = every-split h (process_places p 1 []) _ e in
      let z = process-length p 1 [] in
      both-rows (process_places p 1 []) (flat_map located_places ls) i (i - size_p p) (omega arith)
      (process-rows w f h g agree p i 1 [] s.0.stands r.0 ∙ ap (down g i) (sym z))
      (located-rows ls (i - size_p p) s.1 r.1)

  -- the law: a test of all places is a test of all rows
  pub places-rows : (t : Tree) → Whole t w → every h (places t) ≡ true → every f (places t) ≡ below (parts_in w) g
  unfolding places part_count
  places-rows t s e =
      let r = every-split h (flat_map def_places t.defs) _ e in
      both-rows (flat_map def_places t.defs) (flat_map located_places t.located) (top t) (behind t) (sym (after-length t.defs (top t)))
      (defs-rows t.defs 0 (top t) s.bodies r.0)
      (located-rows t.located (behind t) s.located r.1)
      ∙ down-all g (part_count t)
      ∙ ap (λ n. below n g) (sym s.parts)
