-- The engine's step at m passes over what is not ready at m: with such components put in between anywhere, it fires the same, and leaves the same in the
-- same order.
-- Idea: the network is a list of cells, gaps and places. What is found, set and fired in the places is found, set and fired at their positions.
use Prim.Native.Nat.{ℕ, zero, suc}
use native.Mathlib.Omega.{arith}
use mathlib.Core.List.{List, [], ◌∷◌, ◌++◌, append_assoc}
use mathlib.Core.Bool.{Bool, true, false, cond, not, ◌&&◌}
use mathlib.Core.Logic.{◌⊎◌, inl, inr}
use mathlib.Core.Path.{◌≡◌, refl, ap, sym, ◌∙◌, fun_ext}
use lib.ListN.{length}
use Rattle.terms.specs.Names.{Name}
use Rattle.terms.specs.Terms.{Component, Context}
use Rattle.terms.specs.Rules.{Answer, Fired, Action, ◌>>=◌, ok, at, set, set_all, seek, some, fire, positions, firing_at, act, unmarked, ready, due_go}
use Rattle.terms.specs.Rules.Answer.{refused, accepted}
use Rattle.terms.specs.Rules.Kind.{calls, moves}
use Rattle.terms.specs.Rules.Firing.{alone, together}
use Rattle.terms.specs.Rules.Action.{single, pair}
use Rattle.terms.specs.Step.{Swept, foremost, partner, choice, idle, took_place, taken, followed, visit, sweep, fires, earlier}
use Rattle.terms.proofs.Sums.{Each}
use Rattle.terms.proofs.Sums.Each.{each_nil, each-cons}

-- ── a network with gaps ──
-- a component that a step passes over, or the place of another one
pub data Cell : Type 0 where
  gap : Component → Cell
  place : Cell

-- the components cs, each in the next place
unfoldable pub fill : List Cell → List Component → List Component
fill [] cs = cs
fill (gap c ∷ f) cs = c ∷ fill f cs
fill (place ∷ f) [] = []
fill (place ∷ f) (c ∷ cs) = c ∷ fill f cs

-- the position of the place p
unfoldable place_at : List Cell → ℕ → ℕ
place_at [] p = p
place_at (gap c ∷ f) p = suc (place_at f p)
place_at (place ∷ f) zero = zero
place_at (place ∷ f) (suc p) = suc (place_at f p)

-- how many places
unfoldable pub places : List Cell → ℕ
places [] = 0
places (gap c ∷ f) = places f
places (place ∷ f) = suc (places f)

-- the step at m passes over it: its sweep, and its tick
pub record Still (m : Name) (c : Component) : Type 0 where
  pub plain : unmarked c ≡ true
  pub away : ready m c ≡ false

-- each gap is such a component
pub data Calm (m : Name) : Cell → Type 0 where
  calm-gap : {c : Component} → Still m c → Calm m (gap c)
  calm-place : Calm m place

-- what stands in a place, and what is set there
at_fill : (f : List Cell) (cs : List Component) (p : ℕ) → at (fill f cs) (place_at f p) ≡ at cs p
unfolding at fill place_at
at_fill [] cs p = refl
at_fill (gap c ∷ f) cs p = at_fill f cs p
at_fill (place ∷ f) [] p = refl
at_fill (place ∷ f) (c ∷ cs) zero = refl
at_fill (place ∷ f) (c ∷ cs) (suc p) = at_fill f cs p

set-fill : (f : List Cell) (cs : List Component) (p : ℕ) (y : Component) → set (fill f cs) (place_at f p) y ≡ fill f (set cs p y)
unfolding set fill place_at
set-fill [] cs p y = refl
set-fill (gap c ∷ f) cs p y = rw (set-fill f cs p y)
set-fill (place ∷ f) [] p y = refl
set-fill (place ∷ f) (c ∷ cs) zero y = refl
set-fill (place ∷ f) (c ∷ cs) (suc p) y = rw (set-fill f cs p y)

-- a test that fails on what is not ready at m
module _ (m : Name) (h : Component → Bool) (n : (c : Component) → ready m c ≡ false → h c ≡ false) where
  some-fill : {f : List Cell} → Each (Calm m) f → (cs : List Component) → some h (fill f cs) ≡ some h cs
  unfolding some fill
  some-fill each_nil cs = refl
  some-fill (each-cons (calm-gap s) k) cs = rw (n _ s.away) (some-fill k cs)
  some-fill (each-cons calm-place k) [] = refl
  some-fill (each-cons calm-place k) (c ∷ cs) = rw (some-fill k cs)

  seek-fill : {f : List Cell} → Each (Calm m) f → (cs : List Component) → seek h (fill f cs) ≡ (seek h cs >>= λ p. accepted (place_at f p))
  unfolding seek fill place_at
  seek-fill each_nil cs = same (seek h cs)
    where
      same : (x : Answer ℕ) → x ≡ (x >>= λ p. accepted p)
      same (refused i) = refl
      same (accepted p) = refl
  seek-fill (each-cons {xs = f} (calm-gap s) k) cs = rw (n _ s.away, seek-fill k cs) (one_up (seek h cs))
    where
      one_up : (x : Answer ℕ) → ((x >>= λ p. accepted (place_at f p)) >>= λ p. accepted (suc p)) ≡ (x >>= λ p. accepted (suc (place_at f p)))
      one_up (refused i) = refl
      one_up (accepted p) = refl
  seek-fill (each-cons calm-place k) [] = refl
  seek-fill (each-cons {xs = f} calm-place k) (c ∷ cs) = rw (seek-fill k cs) (one_up (h c) (seek h cs))
    where
      one_up : (b : Bool) (x : Answer ℕ)
          → cond b (accepted 0) ((x >>= λ p. accepted (place_at f p)) >>= λ p. accepted (suc p)) ≡ (cond b (accepted 0) (x >>= λ p. accepted (suc p)) >>= λ p. accepted (place_at (place ∷ f) p))
      one_up true x = refl
      one_up false (refused i) = refl
      one_up false (accepted p) = refl

-- so with the first in an order
foremost-fill : (m : Name) (before : Component → Component → Bool) (h : Component → Bool) → ((c : Component) → ready m c ≡ false → h c ≡ false)
    → {f : List Cell} → Each (Calm m) f → (cs : List Component) → foremost before h (fill f cs) ≡ (foremost before h cs >>= λ p. accepted (place_at f p))
unfolding foremost
foremost-fill m before h n {f} k cs =
    ap (λ (g : Component → Bool). seek (λ x. h x && not (g x)) (fill f cs)) (fun_ext (λ x. some-fill m (λ y. h y && before y x) (λ c e. rw (n c e)) k cs))
    ∙ seek-fill m (λ x. h x && not (some (λ y. h y && before y x) cs)) (λ c e. rw (n c e)) k cs

-- ── the step's choice and what it leaves ──
-- an action on the places, on their positions
unfoldable shift : List Cell → Action → Action
shift f (single k p) = single k (place_at f p)
shift f (pair p q) = pair (place_at f p) (place_at f q)

-- the choice in a place is that at its position
choice-fill : (d : Context) (m : Name) {f : List Cell} → Each (Calm m) f → (p : ℕ) (c : Component) (cs : List Component)
    → choice d m (place_at f p) c (fill f cs) ≡ (choice d m p c cs >>= λ a. accepted (shift f a))
unfolding choice shift partner
choice-fill d m {f} k p c cs =
    rw (foremost-fill m earlier (λ e. ready m e && ok (fire d (together c e))) (λ e h. rw h) k cs) (go (ready m c) (ok (fire d (alone calls c))) (due_go c) (partner d m c cs))
  where
    go : (a b u : Bool) (s : Answer ℕ)
        → cond a (cond b (accepted (single calls (place_at f p))) (cond u (accepted (single moves (place_at f p))) ((s >>= λ q. accepted (place_at f q)) >>= λ q. accepted (pair (place_at f p) q)))) (refused 0)
        ≡ (cond a (cond b (accepted (single calls p)) (cond u (accepted (single moves p)) (s >>= λ q. accepted (pair p q)))) (refused 0) >>= λ a. accepted (shift f a))
    go false b u s = refl
    go true true u s = refl
    go true false true s = refl
    go true false false (refused i) = refl
    go true false false (accepted q) = refl

-- and it replaces the same there
set_all-fill : (f : List Cell) (a : Action) (ys cs : List Component) → set_all (positions (shift f a)) ys (fill f cs) ≡ fill f (set_all (positions a) ys cs)
unfolding set_all positions shift
set_all-fill f (single k p) [] cs = refl
set_all-fill f (single k p) (y ∷ ys) cs = set-fill f cs p y
set_all-fill f (pair p q) [] cs = refl
set_all-fill f (pair p q) (y ∷ []) cs = set-fill f cs p y
set_all-fill f (pair p q) (y ∷ z ∷ ys) cs = rw (set-fill f cs p y) (set-fill f (set cs p y) q z)

-- of the same components
firing-fill : (f : List Cell) (a : Action) (cs : List Component) → firing_at (shift f a) (fill f cs) ≡ firing_at a cs
unfolding firing_at shift
firing-fill f (single k p) cs = rw (at_fill f cs p)
firing-fill f (pair p q) cs = rw (at_fill f cs p, at_fill f cs q)

-- the same labels, and the same components in the places
pub record Alike (f : List Cell) (r r' : Swept) : Type 0 where
  pub labels : r.labels ≡ r'.labels
  pub comps : r.comps ≡ fill f r'.comps

idle-alike : (f : List Cell) (cs : List Component) → Alike f (idle (fill f cs)) (idle cs)
unfolding idle
idle-alike f cs = record { labels = refl; comps = refl }

-- what is taken of a choice, on the places and on their positions
taken-fill : (d : Context) (f : List Cell) (x : Answer Action) (cs : List Component) → Alike f (taken d (x >>= λ a. accepted (shift f a)) (fill f cs)) (taken d x cs)
unfolding taken act
taken-fill d f (refused n) cs = idle-alike f cs
taken-fill d f (accepted a) cs = rw (firing-fill f a cs) (fired (firing_at a cs))
  where
    then : (z : Answer Fired)
        → Alike f
        (took_place (shift f a) (z >>= λ g. accepted (record { label = g.label; comps = set_all (positions (shift f a)) g.after (fill f cs) })) (fill f cs))
        (took_place a (z >>= λ g. accepted (record { label = g.label; comps = set_all (positions a) g.after cs })) cs)
    then (refused n) = unfold took_place in idle-alike f cs
    then (accepted g) = unfold took_place in record { labels = refl; comps = set_all-fill f a g.after cs }

    fired : (y : _)
        → Alike f
        (took_place (shift f a) (y >>= λ x. fire d x >>= λ g. accepted (record { label = g.label; comps = set_all (positions (shift f a)) g.after (fill f cs) })) (fill f cs))
        (took_place a (y >>= λ x. fire d x >>= λ g. accepted (record { label = g.label; comps = set_all (positions a) g.after cs })) cs)
    fired (refused n) = unfold took_place in idle-alike f cs
    fired (accepted x) = then (fire d x)

-- a visit of a place
visit-fill : (d : Context) (m : Name) {f : List Cell} → Each (Calm m) f → (p : ℕ) (cs : List Component)
    → Alike f (visit d m (place_at f p) (at (fill f cs) (place_at f p)) (fill f cs)) (visit d m p (at cs p) cs)
unfolding visit
visit-fill d m {f} k p cs = rw (at_fill f cs p) (go (at cs p))
  where
    go : (x : Answer Component) → Alike f (visit d m (place_at f p) x (fill f cs)) (visit d m p x cs)
    go (refused n) = idle-alike f cs
    go (accepted c) = rw (choice-fill d m k p c cs) (taken-fill d f (choice d m p c cs) cs)

-- ── the sweep ──
-- at a gap stands its component, if the places before it are taken
gap_at : (done rest : List Cell) (c : Component) (cs : List Component)
    → (at (fill (done ++ (gap c ∷ rest)) cs) (length done) ≡ accepted c) ⊎ (at (fill (done ++ (gap c ∷ rest)) cs) (length done) ≡ refused 8)
unfolding at fill
gap_at [] rest c cs = inl refl
gap_at (gap e ∷ done) rest c cs = gap_at done rest c cs
gap_at (place ∷ done) rest c [] = inr refl
gap_at (place ∷ done) rest c (e ∷ cs) = gap_at done rest c cs

-- which is one that the step passes over
calm-at : (m : Name) (done rest : List Cell) (c : Component) → Each (Calm m) (done ++ (gap c ∷ rest)) → Still m c
calm-at m [] rest c (each-cons (calm-gap s) k) = s
calm-at m (x ∷ done) rest c (each-cons s k) = calm-at m done rest c k

-- the step does nothing there
visit-gap : (d : Context) (m : Name) (done rest : List Cell) (c : Component) (cs : List Component) → Each (Calm m) (done ++ (gap c ∷ rest))
    → visit d m (length done) (at (fill (done ++ (gap c ∷ rest)) cs) (length done)) (fill (done ++ (gap c ∷ rest)) cs) ≡ idle (fill (done ++ (gap c ∷ rest)) cs)
unfolding visit
visit-gap d m done rest c cs k = go (gap_at done rest c cs)
  where
    go : (at (fill (done ++ (gap c ∷ rest)) cs) (length done) ≡ accepted c) ⊎ (at (fill (done ++ (gap c ∷ rest)) cs) (length done) ≡ refused 8)
        → visit d m (length done) (at (fill (done ++ (gap c ∷ rest)) cs) (length done)) (fill (done ++ (gap c ∷ rest)) cs) ≡ idle (fill (done ++ (gap c ∷ rest)) cs)
    go (inl e) = unfold choice taken in rw (e, (calm-at m done rest c k).away)
    go (inr e) = rw e

-- the next place stands where the sweep is
place-at : (done rest : List Cell) → place_at (done ++ (place ∷ rest)) (places done) ≡ length done
unfolding place_at places
place-at [] rest = refl
place-at (gap c ∷ done) rest = ap suc (place-at done rest)
place-at (place ∷ done) rest = ap suc (place-at done rest)

-- one cell further
length_more : (done : List Cell) (x : Cell) → length (done ++ (x ∷ [])) ≡ suc (length done)
length_more [] x = refl
length_more (y ∷ done) x = ap suc (length_more done x)

places-gap : (done : List Cell) (c : Component) → places (done ++ (gap c ∷ [])) ≡ places done
unfolding places
places-gap [] c = refl
places-gap (gap e ∷ done) c = places-gap done c
places-gap (place ∷ done) c = ap suc (places-gap done c)

places-place : (done : List Cell) → places (done ++ (place ∷ [])) ≡ suc (places done)
unfolding places
places-place [] = refl
places-place (gap e ∷ done) = places-place done
places-place (place ∷ done) = ap suc (places-place done)

-- one after the other
then-alike : (f : List Cell) (r r' : Swept) (k k' : List Component → Swept) → Alike f r r' → ((cs : List Component) → Alike f (k (fill f cs)) (k' cs)) → Alike f (followed r k) (followed r' k')
unfolding followed
then-alike f r r' k k' h s = let t = s r'.comps in record { labels = rw (h.labels, h.comps, t.labels); comps = rw h.comps t.comps }

idle_then : (n : List Component) (k : List Component → Swept) → followed (idle n) k ≡ k n
unfolding followed idle
idle_then n k = refl

-- from one point on: the positions of rest, and the places there
sweep-fill : (d : Context) (m : Name) (done rest : List Cell) → Each (Calm m) (done ++ rest) → (cs : List Component)
    → Alike (done ++ rest) (sweep d m (length done) (length rest) (fill (done ++ rest) cs)) (sweep d m (places done) (places rest) cs)
unfolding sweep places
sweep-fill d m done [] k cs = idle-alike (done ++ []) cs
sweep-fill d m done (gap c ∷ rest) k cs =
    let i = sweep-fill d m (done ++ (gap c ∷ [])) rest (rw append_assoc k) cs in
    rw (visit-gap d m done rest c cs k, idle_then) (rw (append_assoc, length_more, places-gap) at i)
sweep-fill d m done (place ∷ rest) k cs =
    then-alike (done ++ (place ∷ rest)) _ _ _ _ (rw (place-at done rest) at (visit-fill d m k (places done) cs)) λ cs.
    rw (append_assoc, length_more, places-place) at (sweep-fill d m (done ++ (place ∷ [])) rest (rw append_assoc k) cs)

-- if there are as many components as places, there are as many as cells with the gaps
length-fill : (f : List Cell) (cs : List Component) → places f ≡ length cs → length (fill f cs) ≡ length f
unfolding fill places
length-fill [] cs e = sym e
length-fill (gap c ∷ f) cs e = ap suc (length-fill f cs e)
length-fill (place ∷ f) [] e = absurd (omega arith)
length-fill (place ∷ f) (c ∷ cs) e = ap suc (length-fill f cs (omega arith))

-- the step at m fires what it would fire without the gaps
pub fires-fill : (d : Context) (m : Name) {f : List Cell} → Each (Calm m) f → (cs : List Component) → places f ≡ length cs → Alike f (fires d m (fill f cs)) (fires d m cs)
unfolding fires places
fires-fill d m {f} k cs e = rw (length-fill f cs e, ← e) (sweep-fill d m [] f k cs)
