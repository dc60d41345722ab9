-- The located processes, put one after the other: each stands at its place in the end, its location is known, names are numbered by first place, and
-- a component's location has the number that its name has in the last script. By induction on the located processes.
use Prim.Native.Nat.{ℕ, suc, ◌-◌, ◌≤◌, ◌<◌}
use native.Mathlib.Omega.{arith}
use mathlib.Core.List.{List, [], ◌∷◌, ◌++◌, flat_map}
use mathlib.Core.Bool.{true}
use mathlib.Core.Path.{◌≡◌, refl, sym, ◌∙◌}
use Rattle.terms.specs.Names.{Name}
use Rattle.terms.specs.Terms.{Process}
use Rattle.terms.specs.Terms.Value.{loc}
use Rattle.terms.specs.Letters.{is_location}
use Rattle.text.specs.Tree.{Located}
use Rattle.text.specs.Tree.Located.{at}
use Rattle.text.specs.WellFormed.{Is, Each, WellLocated}
use Rattle.text.specs.Questions.{firsts, loc_of, located_places, located_names, channels_at}
use Rattle.table.specs.Words.{word}
use Rattle.table.specs.Valid.{index}
use Rattle.table.specs.Size.{size_p}
use Rattle.text_build.specs.Rows.{locs_of, value_word}
use Rattle.text_build.specs.Growth.{loc_listed, value_listed, Grown, Making}
use Rattle.text_build.specs.Put.{loc_number, enter_loc, value_number, enter_value}
use Rattle.text_build.proofs.Places.{size_p-some}
use Rattle.text_build.proofs.RowWords.{Eight}
use Rattle.text_build.proofs.Entering.{value-in, value-back}
use Rattle.text_build.proofs.Grows.{Grew, grown-then}
use Rattle.text_build.proofs.Numbering.{flat_append, Numbered, numbered-then}
use Rattle.text_build.proofs.Puts.{put_back, puts}
use Rattle.text_build.proofs.FirstPlaces.{first}
use Rattle.text_tree.specs.Pass.{no_scope, put_located, brackets, part_spots, spots}
use Rattle.text_tree.proofs.Whole.{LocatedStands, AllStand}
use Rattle.text_tree.proofs.Sizes.{size_located}
use Rattle.text_tree.proofs.Timers.{Timely, timely-high, loc-high, put-timely}
use Rattle.text_tree.proofs.Went.{Went, went-none, went_then, went-grew, located-on}

-- ── a location ──
loc-back : (w : List ℕ) (l : Name) → word (enter_loc w l) 4 ≡ 0 → word w 4 ≡ 0
unfolding enter_value
loc-back w l e = value-back w (loc l) e

pub record LocIn (w v : List ℕ) (l : Name) : Type 0 where
  pub grew : (low i : ℕ) → Grew w v low i
  pub numbered : Numbered w v (l ∷ []) []
  pub listed : loc_listed v l ≡ true
  pub number : loc_number w l ≡ index (locs_of v) l

pub loc-entered : (w : List ℕ) (l : Name) → Making w → Is is_location l → word (enter_loc w l) 4 ≡ 0 → LocIn w (enter_loc w l) l
unfolding enter_value value_listed value_number value_word loc_of firsts
loc-entered w l m e z =
    let r = value-in w m (loc l) e z in
    record { grew = r.grew; numbered = record { locs = r.locs; chans = r.chans }; listed = r.listed; number = r.number 0 no_scope tt }

pub located-back : (w : List ℕ) (i : ℕ) (l : Name) (p : Process) → word (put_located w i l p) 4 ≡ 0 → word w 4 ≡ 0
unfolding put_located
located-back w i l p e = loc-back w l (put_back p i no_scope (enter_loc w l) e)

pub brackets-back : (ls : List Located) (i : ℕ) (w : List ℕ) → word (brackets ls i w) 4 ≡ 0 → word w 4 ≡ 0
unfolding brackets
brackets-back [] i w e = e
brackets-back (at l p ∷ ls) i w e = located-back w i l p (brackets-back ls (i - size_p p) _ e)

-- where the components stand, by the numbers of the script u
unfoldable pub spots_in : List ℕ → List Located → ℕ → List (List ℕ)
spots_in u [] i = []
spots_in u (at l p ∷ ls) i = part_spots (index (locs_of u) l) p i ++ spots_in u ls (i - size_p p)

-- ── one located process ──
pub none-eight : Eight no_scope
none-eight = record { few = omega arith; slots = refl }

located-timely : {m : ℕ} → (l : Name) (p : Process) (i : ℕ) (w : List ℕ) → WellLocated (at l p) → Timely m w → Timely m (put_located w i l p)
unfolding put_located
located-timely l p i w f t = put-timely p i no_scope (enter_loc w l) none-eight f.1 (timely-high w (enter_loc w l) (loc-high w l) t)

module _ (l : Name) (p : Process) (i : ℕ) (w : List ℕ) (m : Making w) (f : WellLocated (at l p)) (n : size_p p ≤ suc i) (t : i < 4_096) (z : word (put_located w i l p) 4 ≡ 0) where
  entered-loc : LocIn w (enter_loc w l) l
  unfolding put_located
  entered-loc = loc-entered w l m f.0 (put_back p i no_scope (enter_loc w l) z)

  located-grew : Grew (enter_loc w l) (put_located w i l p) (suc i - size_p p) i
  unfolding put_located
  located-grew = (puts p i 1 no_scope (enter_loc w l) (entered-loc.grew 0 0).making none-eight tt f.1 n t z).grew

  pub located-went : Went w (put_located w i l p) (suc i)
  located-went = went_then (suc i) (went-grew (entered-loc.grew 0 i)) (went-grew located-grew) (omega arith) (omega arith)

  pub located-stands : LocatedStands (put_located w i l p) l p i
  unfolding put_located
  located-stands =
      let r = puts p i 1 no_scope (enter_loc w l) (entered-loc.grew 0 0).making none-eight tt f.1 n t z in
      record { known = located-grew.grown.locs-on l entered-loc.listed; stands = r.stands; listed = r.listed; room = n }

  pub located-numbered : Numbered w (put_located w i l p) (located_names (at l p)) (flat_map channels_at (located_places (at l p)))
  unfolding put_located located_names located_places
  located-numbered = numbered-then entered-loc.numbered (first p i 1 no_scope (enter_loc w l) [] (entered-loc.grew 0 0).making none-eight tt f.1 n t z)

  pub located-number : (u : List ℕ) → Grown (put_located w i l p) u → loc_number w l ≡ index (locs_of u) l
  located-number u g = entered-loc.number ∙ sym ((grown-then located-grew.grown g).locs l entered-loc.listed)

-- ── all of them, n places being left ──
pub record Brackets (w v : List ℕ) (ls : List Located) (i n : ℕ) : Type 0 where
  pub went : Went w v n
  pub stand : AllStand v ls i
  pub numbered : Numbered w v (flat_map located_names ls) (flat_map channels_at (flat_map located_places ls))
  pub timely : {m : ℕ} → Timely m w → Timely m v
  pub spots-are : (u : List ℕ) → Grown v u → spots ls i w ≡ spots_in u ls i

pub brackets-are : (ls : List Located) (i n : ℕ) (w : List ℕ) → Making w → i ≡ n - 1 → size_located ls ≤ n → n ≤ 4_096 → Each WellLocated ls → word (brackets ls i w) 4 ≡ 0
    → Brackets w (brackets ls i w) ls i n
unfolding brackets size_located flat_map firsts spots spots_in
brackets-are [] i n w m e s t f z = record { went = went-none w n m; stand = tt; numbered = record { locs = refl; chans = refl }; timely = λ a. a; spots-are = λ u g. refl }
brackets-are (at l p ∷ ls) i n w m e s t f z =
    let r = size_p-some p in
    let b = brackets-back ls (i - size_p p) _ z in
    let g = located-went l p i w m f.0 (omega arith) (omega arith) b in
    let q = brackets-are ls (i - size_p p) (n - size_p p) (put_located w i l p) g.making (omega arith) (omega arith) (omega arith) f.1 z in
    record {
      went = went_then n g q.went (omega arith) (omega arith);
      stand = (located-on _ _ (n - size_p p) q.went l p i (omega arith) (located-stands l p i w m f.0 (omega arith) (omega arith) b), q.stand);
      numbered =
          rw (flat_append channels_at (located_places (at l p)) (flat_map located_places ls))
          (numbered-then (located-numbered l p i w m f.0 (omega arith) (omega arith) b) q.numbered);
      timely = λ a. q.timely (located-timely l p i w f.0 a);
      spots-are = λ u h. rw (located-number l p i w m f.0 (omega arith) (omega arith) b u (grown-then q.went.grown h), q.spots-are u h);
    }
