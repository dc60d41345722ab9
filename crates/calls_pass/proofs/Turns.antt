-- The tick, one component written at a time, gives what the tick gives: each turn writes the head of what is left.
-- By the law that a split begins with a fresh part and goes on with the next one.
use Prim.Native.Nat.{ℕ, zero, suc, ◌-◌, ◌<◌, ◌≤◌}
use native.Mathlib.Omega.{arith}
use mathlib.Core.List.{List, [], ◌∷◌, ◌++◌, flat_map}
use mathlib.Core.Bool.{Bool, true, false, cond, not, false≢true}
use mathlib.Core.Logic.{◌⊎◌, inl, inr}
use mathlib.Core.Path.{◌≡◌, refl, sym, ap, ◌∙◌}
use lib.Dec.{eqb, ltb}
use lib.ListN.{length, drop, length-append}
use Rattle.terms.specs.Clock.{less_raw}
use Rattle.table.specs.declared.Comp.{Comp}
use Rattle.table.specs.declared.Head.{Head}
use Rattle.table.specs.declared.Head.TheVariants.{Stop, Go, Out, In, Call}
use Rattle.table.specs.Words.{parts_in, head_at, next_at}
use Rattle.table.specs.Valid.{head_ok, next_ok, script_ok, comp_ok}
use Rattle.table.specs.Split.{timer_in, fresh, and_then, parts_from, split_at, timed, or_else, waited, passed, expired_at}
use Rattle.table.specs.Fire.{passed_all}
use Rattle.table.proofs.Tests.{inner, part-fine, comp-fine}
use Rattle.table.proofs.Places.{out-fine, in-fine}
use Rattle.table.proofs.Kept.{pass-some}
use Rattle.calls_steady.specs.Steady.{touches}
use Rattle.calls_pass.specs.declared.Turn.{Turn}
use Rattle.std.specs.Prelude.{Option, Some, None, SomeIff, is_some}
use Rattle.calls_pass.specs.Turn.{whole, place_of, Within, step_of, part_of, else_turn, wait_turn, touched_turn, only_waits, waits_on, first_turn, turn_of, rest_of, remaining}

-- ── a split, part by part ──
next_small : (w : List ℕ) (i n : ℕ) → next_ok w i n ≡ true → n ≤ i
unfolding next_ok
next_small w i zero e = omega arith
next_small w i (suc j) e = omega (arith, (inner w i j _ e).lesser)

pub next_fits : (w : List ℕ) → script_ok w ≡ true → (i : ℕ) → i < parts_in w → next_at w i ≤ i
next_fits w good i h = next_small w i (next_at w i) (part-fine w good i h).next

and-then : (f g : ℕ → List Comp) (n i : ℕ) → n ≤ i → ((j : ℕ) → j < i → f j ≡ g j) → and_then f n ≡ and_then g n
unfolding and_then
and-then f g zero i h e = refl
and-then f g (suc j) i h e = e j (omega arith)

parts_same : (w : List ℕ) → script_ok w ≡ true → (l : ℕ) (vs : List ℕ) (m n i : ℕ) → i < m → i < n → i < parts_in w → parts_from w l vs m i ≡ parts_from w l vs n i
unfolding parts_from
parts_same w good l vs zero n i h k b = absurd (omega arith)
parts_same w good l vs (suc m) zero i h k b = absurd (omega arith)
parts_same w good l vs (suc m) (suc n) i h k b =
    ap (λ z. fresh w l vs i ∷ z) (and-then (parts_from w l vs m) (parts_from w l vs n) (next_at w i) i (next_fits w good i b) (λ j q. parts_same w good l vs m n j (omega arith) (omega arith) (omega arith)))

pub split_step : (w : List ℕ) → script_ok w ≡ true → (l : ℕ) (vs : List ℕ) (i : ℕ) → i < parts_in w → split_at w l vs i ≡ fresh w l vs i ∷ and_then (split_at w l vs) (next_at w i)
unfolding split_at parts_from
split_step w good l vs i b =
    ap (λ z. fresh w l vs i ∷ z) (and-then (parts_from w l vs i) (λ j. parts_from w l vs (suc j) j) (next_at w i) i (next_fits w good i b) (λ j q. parts_same w good l vs i (suc j) j q (omega arith) (omega arith)))

-- ── one turn ──
-- what a turn leaves of its component: nothing, or the parts from a place on
abbrev left_of : List ℕ → ℕ → Comp → Option ℕ → List Comp
left_of w l c None = []
left_of w l c (Some j) = split_at w c.loc c.vals j

left-next : (w : List ℕ) (l : ℕ) (c : Comp) (n : ℕ) → and_then (split_at w c.loc c.vals) n ≡ left_of w l c (place_of n)
unfolding and_then
left-next w l c zero = refl
left-next w l c (suc j) = refl

-- a turn writes the head of what is left
abbrev Writes : List ℕ → ℕ → Comp → List Comp → Turn → Type 0
Writes w l c rest t = rest ≡ t.comp ∷ left_of w l c t.next

module _ (w : List ℕ) (good : script_ok w ≡ true) (l : ℕ) (c : Comp) where
  whole-writes : (d : Comp) → Writes w l c (d ∷ []) (whole d)
  whole-writes d = refl

  part-writes : (j : ℕ) → j < parts_in w → Writes w l c (split_at w c.loc c.vals j) (part_of w c j)
  part-writes j h = split_step w good c.loc c.vals j h ∙ ap (λ z. fresh w c.loc c.vals j ∷ z) (left-next w l c (next_at w j))

  else-writes : (q : ℕ) → q < parts_in w → Writes w l c (or_else w c q) (else_turn w c q)
  unfolding or_else else_turn
  else-writes q h = go (expired_at w c)
    where
      go : (b : Bool) → Writes w l c (cond b (split_at w c.loc c.vals q) (timed c (less_raw c.timer) ∷ [])) (cond b (part_of w c q) (whole (timed c (less_raw c.timer))))
      go true = part-writes q h
      go false = whole-writes (timed c (less_raw c.timer))

  wait-writes : (h : Head) → head_ok w c.place h ≡ true → c.place < parts_in w → Writes w l c (waited w c h) (wait_turn w c h)
  unfolding waited wait_turn
  wait-writes Stop e b = whole-writes c
  wait-writes (Go t v p) e b = whole-writes (timed c (less_raw c.timer))
  wait-writes (Out d t v p q) e b = else-writes q (omega (arith, (out-fine w c.place d t v p q e).second.lesser))
  wait-writes (In d t k p q) e b = else-writes q (omega (arith, (in-fine w c.place d t k p q e).second.lesser))
  wait-writes (Call d n) e b = whole-writes c

  first-writes : comp_ok w c ≡ true → Writes w l c (passed w l c) (first_turn w l c)
  unfolding passed first_turn
  first-writes f = go (ltb c.mark 64) (eqb c.mark l) (eqb c.loc l)
    where
      b : c.place < parts_in w
      b = (comp-fine w c f).place

      go : (m x y : Bool) → Writes w l c (cond m (cond x (split_at w c.loc c.vals c.place) (c ∷ [])) (cond y (waited w c (head_at w c.place)) (c ∷ [])))
          (cond m (cond x (part_of w c c.place) (whole c)) (cond y (wait_turn w c (head_at w c.place)) (whole c)))
      go true true y = part-writes c.place b
      go true false y = whole-writes c
      go false x true = wait-writes (head_at w c.place) (part-fine w good c.place b).head b
      go false x false = whole-writes c

  turn-writes : (next : Option ℕ) → comp_ok w c ≡ true → Within (parts_in w) next → Writes w l c (rest_of w l c next) (turn_of w l c next)
  unfolding rest_of turn_of
  turn-writes None f h = first-writes f
  turn-writes (Some j) f h = part-writes j h

-- ── the next part is in range, and below the place that was written ──
within-place : (m n : ℕ) → n ≤ m → Within m (place_of n)
within-place m zero h = tt
within-place m (suc j) h = omega arith

pub turn-next : (w : List ℕ) → script_ok w ≡ true → (l : ℕ) (c : Comp) (next : Option ℕ) → comp_ok w c ≡ true → Within (parts_in w) next
    → Within (parts_in w) (turn_of w l c next).next × ((j : ℕ) → next ≡ Some j → Within j (turn_of w l c next).next)
turn-next w good l c next f h = (small next h, below next h)
  where
    b : c.place < parts_in w
    b = (comp-fine w c f).place

    part_small : (j : ℕ) → j < parts_in w → Within (parts_in w) (place_of (next_at w j))
    part_small j h = within-place (parts_in w) (next_at w j) (omega (arith, next_fits w good j h))

    else-small : (q : ℕ) → q < parts_in w → (z : Bool) → Within (parts_in w) (cond z (part_of w c q) (whole (timed c (less_raw c.timer)))).next
    else-small q h true = part_small q h
    else-small q h false = tt

    wait-small : (g : Head) → head_ok w c.place g ≡ true → Within (parts_in w) (wait_turn w c g).next
    wait-small Stop e = unfold wait_turn in tt
    wait-small (Go t v p) e = unfold wait_turn in tt
    wait-small (Out d t v p q) e = unfold wait_turn else_turn in else-small q (omega (arith, (out-fine w c.place d t v p q e).second.lesser, b)) (expired_at w c)
    wait-small (In d t k p q) e = unfold wait_turn else_turn in else-small q (omega (arith, (in-fine w c.place d t k p q e).second.lesser, b)) (expired_at w c)
    wait-small (Call d n) e = unfold wait_turn in tt

    first_small : (m x y : Bool) → Within (parts_in w) (cond m (cond x (part_of w c c.place) (whole c)) (cond y (wait_turn w c (head_at w c.place)) (whole c))).next
    first_small true true y = part_small c.place b
    first_small true false y = tt
    first_small false x true = wait-small (head_at w c.place) (part-fine w good c.place b).head
    first_small false x false = tt

    small : (n : Option ℕ) → Within (parts_in w) n → Within (parts_in w) (turn_of w l c n).next
    small None h = unfold turn_of first_turn in first_small (ltb c.mark 64) (eqb c.mark l) (eqb c.loc l)
    small (Some j) h = unfold turn_of in part_small j h

    below : (n : Option ℕ) → Within (parts_in w) n → (j : ℕ) → n ≡ Some j → Within j (turn_of w l c n).next
    below None h j e = cc
    below (Some i) h j e = unfold turn_of in let m : i ≡ j = cc in rw (← m) (within-place i (next_at w i) (next_fits w good i h))

-- ── what is left after a turn ──
pub remaining-begin : (w : List ℕ) (l : ℕ) (cs : List Comp) → remaining w l cs None ≡ passed_all w l cs
unfolding remaining rest_of passed_all flat_map
remaining-begin w l [] = refl
remaining-begin w l (c ∷ cs) = refl

pub remaining-turn : (w : List ℕ) → script_ok w ≡ true → (l : ℕ) (c : Comp) (cs : List Comp) (next : Option ℕ) → comp_ok w c ≡ true → Within (parts_in w) next
    → remaining w l (c ∷ cs) next ≡ (turn_of w l c next).comp ∷ remaining w l (drop (step_of (turn_of w l c next).next) (c ∷ cs)) (turn_of w l c next).next
unfolding remaining
remaining-turn w good l c cs next f h =
    ap (λ z. z ++ passed_all w l cs) (turn-writes w good l c next f h)
    ∙ ap (λ z. (turn_of w l c next).comp ∷ z) (go (turn_of w l c next).next)
  where
    go : (n : Option ℕ) → left_of w l c n ++ passed_all w l cs ≡ remaining w l (drop (step_of n) (c ∷ cs)) n
    go None = sym (remaining-begin w l cs)
    go (Some j) = unfold rest_of in refl

-- what is left is never nothing while a component is left
pub remaining-some : (w : List ℕ) (l : ℕ) (c : Comp) (cs : List Comp) (next : Option ℕ) → 0 < length (remaining w l (c ∷ cs) next)
unfolding remaining
remaining-some w l c cs next = rw (length-append (rest_of w l c next) (passed_all w l cs)) (omega (arith, go next))
  where
    go : (n : Option ℕ) → 0 < length (rest_of w l c n)
    go None = unfold rest_of in pass-some w l c
    go (Some j) = unfold rest_of split_at parts_from in omega arith

-- the next part's number less one, if it can be taken
pub place-is : (n : ℕ) (r : Option ℕ) → SomeIff r (1 ≤ n) (n - 1) → r ≡ place_of n
place-is zero None h = refl
place-is zero (Some j) h = absurd (omega (arith, h.0))
place-is (suc n) None h = absurd (h (omega arith))
place-is (suc n) (Some j) h = ap Some (omega (arith, h.1))

-- ── is the component done with? ──
pub some-next : (x : Option ℕ) → is_some x ≡ false → x ≡ None
some-next None e = refl
some-next (Some j) e = absurd (false≢true (sym e))

pub step-more : (x : Option ℕ) → is_some x ≡ true → step_of x ≡ 0
step-more None e = absurd (false≢true e)
step-more (Some j) e = refl

-- ── the values of a component stay ──
pub turn-vals : (w : List ℕ) (l : ℕ) (c : Comp) (next : Option ℕ) → length (turn_of w l c next).comp.vals ≡ length c.vals
unfolding turn_of first_turn wait_turn else_turn fresh timed
turn-vals w l c (Some j) = refl
turn-vals w l c None = first (ltb c.mark 64) (eqb c.mark l) (eqb c.loc l) (head_at w c.place)
  where
    other : (b : Bool) (q : ℕ) → length (cond b (part_of w c q) (whole (timed c (less_raw c.timer)))).comp.vals ≡ length c.vals
    other true q = refl
    other false q = refl

    wait : (h : Head) → length (wait_turn w c h).comp.vals ≡ length c.vals
    wait Stop = refl
    wait (Go t v p) = refl
    wait (Out d t v p q) = other (expired_at w c) q
    wait (In d t k p q) = other (expired_at w c) q
    wait (Call d n) = refl

    first : (m x y : Bool) (h : Head) → length (cond m (cond x (part_of w c c.place) (whole c)) (cond y (wait_turn w c h) (whole c))).comp.vals ≡ length c.vals
    first true true y h = refl
    first true false y h = refl
    first false x true h = wait h
    first false x false h = refl

-- what the tick does not touch stays as it is
pub untouched : (w : List ℕ) (l : ℕ) (c : Comp) → touches l c ≡ false → passed w l c ≡ c ∷ []
unfolding touches passed
untouched w l c e = go (ltb c.mark 64) (eqb c.mark l) (eqb c.loc l) _ _ e
  where
    go : (a b d : Bool) (xs ys : List Comp) → cond a b d ≡ false → cond a (cond b xs (c ∷ [])) (cond d ys (c ∷ [])) ≡ c ∷ []
    go true true d xs ys e = absurd (false≢true (sym e))
    go true false d xs ys e = refl
    go false b true xs ys e = absurd (false≢true (sym e))
    go false b false xs ys e = refl

-- the first turn of what it touches
pub touched-first : (w : List ℕ) (l : ℕ) (c : Comp) → touches l c ≡ true → touched_turn w c ≡ first_turn w l c
unfolding touches touched_turn first_turn
touched-first w l c e = go (ltb c.mark 64) (eqb c.mark l) (eqb c.loc l) _ _ _ e
  where
    go : (a b d : Bool) (x y z : Turn) → cond a b d ≡ true → cond a x y ≡ cond a (cond b x z) (cond d y z)
    go true true d x y z e = refl
    go true false d x y z e = absurd (false≢true e)
    go false b true x y z e = refl
    go false b false x y z e = absurd (false≢true e)

-- the turn of what only waits
pub waits-whole : (w : List ℕ) (c : Comp) → waits_on w c ≡ true → touched_turn w c ≡ whole (timed c (less_raw c.timer))
unfolding waits_on touched_turn only_waits wait_turn else_turn
waits-whole w c e = go (ltb c.mark 64) e
  where
    kept : (b : Bool) (x y : Turn) → not b ≡ true → cond b x y ≡ y
    kept true x y e = absurd (false≢true e)
    kept false x y e = refl

    head : (h : Head) → only_waits w c h ≡ true → wait_turn w c h ≡ whole (timed c (less_raw c.timer))
    head Stop e = absurd (false≢true e)
    head (Go t v p) e = refl
    head (Out d t v p q) e = kept (expired_at w c) _ _ e
    head (In d t k p q) e = kept (expired_at w c) _ _ e
    head (Call d n) e = absurd (false≢true e)

    go : (b : Bool) → cond b false (only_waits w c (head_at w c.place)) ≡ true → cond b (part_of w c c.place) (wait_turn w c (head_at w c.place)) ≡ whole (timed c (less_raw c.timer))
    go true e = absurd (false≢true e)
    go false e = head (head_at w c.place) e

-- ── by the form of the head ──
abbrev Silent : Head → Type 0
Silent h = (h ≡ Stop) ⊎ ((d : ℕ) × (n : ℕ) × (h ≡ Call d n))

-- an output or an input with its Q at q
abbrev Waiting : Head → ℕ → Type 0
Waiting h q = ((d : ℕ) × (t : ℕ) × (v : ℕ) × (p : ℕ) × (h ≡ Out d t v p q)) ⊎ ((d : ℕ) × (t : ℕ) × (k : ℕ) × (p : ℕ) × (h ≡ In d t k p q))

abbrev Timed : Head → ℕ → Type 0
Timed h t = ((v : ℕ) × (p : ℕ) × (h ≡ Go t v p)) ⊎ (((d : ℕ) × (v : ℕ) × (p : ℕ) × (q : ℕ) × (h ≡ Out d t v p q)) ⊎ ((d : ℕ) × (k : ℕ) × (p : ℕ) × (q : ℕ) × (h ≡ In d t k p q)))

pub silent-timer : (h : Head) → Silent h → ◌≡◌ {A = ℕ} 0 (timer_in h)
unfolding timer_in
silent-timer h (inl e) = rw e
silent-timer h (inr e) = rw e.2

pub timed-timer : (h : Head) (t : ℕ) → Timed h t → t ≡ timer_in h
unfolding timer_in
timed-timer h t (inl e) = rw e.2
timed-timer h t (inr (inl e)) = rw e.4
timed-timer h t (inr (inr e)) = rw e.4

pub silent-waits : (w : List ℕ) (c : Comp) (h : Head) → Silent h → false ≡ only_waits w c h
unfolding only_waits
silent-waits w c h (inl e) = rw e
silent-waits w c h (inr e) = rw e.2

pub waiting-waits : (w : List ℕ) (c : Comp) (h : Head) → ((d : ℕ) × (t : ℕ) × (v : ℕ) × (p : ℕ) × (q : ℕ) × (h ≡ Out d t v p q)) ⊎ ((d : ℕ) × (t : ℕ) × (k : ℕ) × (p : ℕ) × (q : ℕ) × (h ≡ In d t k p q)) → not (expired_at w c) ≡ only_waits w c h
unfolding only_waits
waiting-waits w c h (inl e) = rw e.5
waiting-waits w c h (inr e) = rw e.5

pub waiting-turn : (w : List ℕ) (c : Comp) (h : Head) (q : ℕ) → Waiting h q → else_turn w c q ≡ wait_turn w c h
unfolding wait_turn
waiting-turn w c h q (inl e) = rw e.4
waiting-turn w c h q (inr e) = rw e.4

-- its Q comes from a lesser place
pub waiting-less : (w : List ℕ) (i q : ℕ) (h : Head) → head_ok w i h ≡ true → Waiting h q → q < i
waiting-less w i q h o (inl e) = let f : head_ok w i (Out e.0 e.1 e.2 e.3 q) ≡ true = rw e.4 at o in omega (arith, (out-fine w i e.0 e.1 e.2 e.3 q f).second.lesser)
waiting-less w i q h o (inr e) = let f : head_ok w i (In e.0 e.1 e.2 e.3 q) ≡ true = rw e.4 at o in omega (arith, (in-fine w i e.0 e.1 e.2 e.3 q f).second.lesser)
