-- Where every component stays one, so it is after an action, and a tick leaves as many as there were.
-- By cases on what fires and on what the tick makes of a component: each goes to a process of one part.
use Prim.Native.Nat.{ℕ, ◌+◌, ◌<◌}
use native.Mathlib.Omega.{arith}
use native.Mathlib.Numerals.{add-one}
use mathlib.Core.List.{List, [], ◌∷◌, ◌++◌, flat_map}
use mathlib.Core.Bool.{Bool, true, false, cond, ◌&&◌, ◌||◌, false≢true}
use mathlib.Core.Logic.{◌⊎◌, inl, inr}
use mathlib.Core.Path.{◌≡◌, refl, sym, ap, subst, ◌∙◌}
use lib.Dec.{eqb, ltb}
use lib.ListN.{length, get_or, set, take, length-append}
use lib.Seq.{take-suc}
use borrow.Author.Tests.{eqb-true, eq-eqb, ltb-true, lt-ltb}
use Rattle.terms.specs.Same.{every}
use Rattle.terms.specs.Clock.{less_raw}
use Rattle.terms.specs.Rules.{Kind, Action}
use Rattle.terms.specs.Rules.Answer.{refused, accepted}
use Rattle.terms.specs.Rules.Kind.{calls, moves}
use Rattle.terms.proofs.Names.{and-inv, and_in}
use Rattle.table.specs.declared.Comp.{Comp}
use Rattle.table.specs.declared.Head.{Head}
use Rattle.table.specs.declared.Head.TheVariants.{Stop, Go, Out, In, Call}
use Rattle.table.specs.Words.{parts_in, defs_in, body_of, head_at, next_at}
use Rattle.table.specs.Valid.{head_ok, script_ok, comp_ok}
use Rattle.table.specs.Split.{and_then, parts_from, split_at, timed, or_else, waited, passed, expired_at}
use Rattle.table.specs.Fire.{left_at, value_in, loaded, becomes_at, handed, meet_at, alone_at, together_at, fits_alone, fits_together, act_on, passed_all}
use Rattle.table.proofs.Tests.{every_append, script-fine, part-fine, def-fine, comp-fine}
use Rattle.table.proofs.Places.{go-fine, out-fine, in-fine}
use Rattle.table.proofs.Kept.{ok_a, in_left, in_acted, rightly-kept, act-keeps}
use Rattle.calls_steady.specs.Steady.{touches, one_part, leaves_one, stays_one}

-- ── the places that a part leads to ──
abbrev pub LeadsTo : List ℕ → Head → Type 0
LeadsTo w Stop = Unit {0}
LeadsTo w (Go t v p) = p < 4_096
LeadsTo w (Out h t v p q) = (p < 4_096) × (q < 4_096)
LeadsTo w (In h t k p q) = (p < 4_096) × (q < 4_096)
LeadsTo w (Call d n) = (d < 32) × (body_of w d < 4_096)

leads : (w : List ℕ) → script_ok w ≡ true → (i : ℕ) (h : Head) → i < parts_in w → head_ok w i h ≡ true → LeadsTo w h
unfolding head_ok
leads w good i Stop b e = tt
leads w good i (Go t v p) b e = omega (arith, (go-fine w i t v p e).first.lesser, b, (script-fine w good).parts)
leads w good i (Out h t v p q) b e = let o = out-fine w i h t v p q e in (omega (arith, o.first.lesser, b, (script-fine w good).parts), omega (arith, o.second.lesser, b, (script-fine w good).parts))
leads w good i (In h t k p q) b e = let o = in-fine w i h t k p q e in (omega (arith, o.first.lesser, b, (script-fine w good).parts), omega (arith, o.second.lesser, b, (script-fine w good).parts))
leads w good i (Call d n) b e =
    let d-in = ltb-true d (defs_in w) (and-inv (ltb d (defs_in w)) _ e).0 in
    (omega (arith, d-in, (script-fine w good).defs), omega (arith, (def-fine w good d d-in).body, (script-fine w good).parts))

pub leads-fit : (w : List ℕ) (c : Comp) → script_ok w ≡ true → comp_ok w c ≡ true → LeadsTo w (head_at w c.place)
leads-fit w c good o = let b = (comp-fine w c o).place in leads w good c.place (head_at w c.place) b (part-fine w good c.place b).head

-- an output and an input each lead to two places
abbrev Forks : Head → ℕ → ℕ → Type 0
Forks h p q = ((c : ℕ) × (t : ℕ) × (v : ℕ) × (h ≡ Out c t v p q)) ⊎ ((c : ℕ) × (t : ℕ) × (k : ℕ) × (h ≡ In c t k p q))

pub two-fit : (w : List ℕ) (h : Head) (p q : ℕ) → Forks h p q → LeadsTo w h → (p < 4_096) × (q < 4_096)
two-fit w h p q (inl e) l = subst (LeadsTo w) e.3 l
two-fit w h p q (inr e) l = subst (LeadsTo w) e.3 l

pub two-leave : (w : List ℕ) (h : Head) (p q : ℕ) → Forks h p q → leaves_one w h ≡ (one_part w p && one_part w q)
unfolding leaves_one
two-leave w h p q (inl e) = rw e.3
two-leave w h p q (inr e) = rw e.3

-- ── looking at one component after another ──
pub take_more : {A : Type 0} (xs : List A) (j : ℕ) (d : A) → j < length xs → take (j + 1) xs ≡ take j xs ++ (get_or xs j d ∷ [])
take_more xs j d h = ap (λ k. take k xs) (add-one j) ∙ take-suc xs j d h

pub every_more : {A : Type 0} (f : A → Bool) (xs : List A) (j : ℕ) (d : A) → j < length xs → every f (take j xs) ≡ true → f (get_or xs j d) ≡ true → every f (take (j + 1) xs) ≡ true
every_more f xs j d h e g = rw (take_more xs j d h) (every_append f (take j xs) (get_or xs j d ∷ []) e (unfold every in and_in _ _ g refl))

-- a component that the tick does not touch stays one
pub untouched-one : (w : List ℕ) (l : ℕ) (c : Comp) → touches l c ≡ false → stays_one w l c ≡ true
unfolding touches stays_one
untouched-one w l c = go (ltb c.mark 64) (eqb c.mark l) (eqb c.loc l)
  where
    go : (m x y : Bool) → cond m x y ≡ false → cond m (cond x (one_part w c.place) true) (cond y (leaves_one w (head_at w c.place)) true) ≡ true
    go true true y e = absurd (false≢true (sym e))
    go true false y e = refl
    go false x true e = absurd (false≢true (sym e))
    go false x false e = refl

-- ── the tick ──
split_one : (w : List ℕ) (l : ℕ) (vs : List ℕ) (i : ℕ) → one_part w i ≡ true → length (split_at w l vs i) ≡ 1
unfolding one_part split_at parts_from and_then
split_one w l vs i e = rw (eqb-true (next_at w i) 0 e)

else-one : (w : List ℕ) (c : Comp) (q : ℕ) → one_part w q ≡ true → length (or_else w c q) ≡ 1
unfolding or_else
else-one w c q e = go (expired_at w c)
  where
    go : (b : Bool) → length (cond b (split_at w c.loc c.vals q) (timed c (less_raw c.timer) ∷ [])) ≡ 1
    go true = split_one w c.loc c.vals q e
    go false = refl

wait-one : (w : List ℕ) (c : Comp) (h : Head) → leaves_one w h ≡ true → length (waited w c h) ≡ 1
unfolding waited leaves_one
wait-one w c Stop e = refl
wait-one w c (Go t v p) e = refl
wait-one w c (Out d t v p q) e = else-one w c q (and-inv (one_part w p) (one_part w q) e).1
wait-one w c (In d t k p q) e = else-one w c q (and-inv (one_part w p) (one_part w q) e).1
wait-one w c (Call d n) e = refl

pass-one : (w : List ℕ) (l : ℕ) (c : Comp) → stays_one w l c ≡ true → length (passed w l c) ≡ 1
unfolding passed stays_one
pass-one w l c = go (ltb c.mark 64) (eqb c.mark l) (eqb c.loc l)
  where
    go : (m x y : Bool) → cond m (cond x (one_part w c.place) true) (cond y (leaves_one w (head_at w c.place)) true) ≡ true
        → length (cond m (cond x (split_at w c.loc c.vals c.place) (c ∷ [])) (cond y (waited w c (head_at w c.place)) (c ∷ []))) ≡ 1
    go true true y e = split_one w c.loc c.vals c.place e
    go true false y e = refl
    go false x true e = wait-one w c (head_at w c.place) e
    go false x false e = refl

-- a tick leaves as many components as there were
pub tick-steady : (w : List ℕ) (l : ℕ) (cs : List Comp) → every (stays_one w l) cs ≡ true → length (passed_all w l cs) ≡ length cs
unfolding passed_all flat_map every
tick-steady w l [] e = refl
tick-steady w l (c ∷ cs) e =
    let a = and-inv (stays_one w l c) (every (stays_one w l) cs) e in
    rw (length-append (passed w l c) (passed_all w l cs)) (omega (arith, pass-one w l c a.0, tick-steady w l cs a.1))

-- ── an action ──
module _ (w : List ℕ) (l : ℕ) where
  -- what an action at m leaves
  left_one : (m k i : ℕ) (vs : List ℕ) → m < 64 → (m ≡ l → one_part w i ≡ true) → stays_one w l (left_at m k i vs) ≡ true
  unfolding left_at stays_one
  left_one m k i vs b e = rw (lt-ltb m 64 b) (go (eqb m l) refl)
    where
      go : (x : Bool) → eqb m l ≡ x → cond x (one_part w i) true ≡ true
      go true z = e (eqb-true m l z)
      go false z = refl

  becomes-one : (k : Kind) (c : Comp) (h : Head) → c.loc < 64 → (c.loc ≡ l → leaves_one w h ≡ true) → ok_a (in_left (stays_one w l)) (becomes_at w k c h) ≡ true
  unfolding becomes_at every leaves_one
  becomes-one calls c Stop b e = refl
  becomes-one calls c (Go t v p) b e = refl
  becomes-one calls c (Out d t v p q) b e = refl
  becomes-one calls c (In d t k p q) b e = refl
  becomes-one calls c (Call d n) b e = and_in _ _ (left_one c.loc c.loc (body_of w d) (loaded w c.place c.vals n) b e) refl
  becomes-one moves c Stop b e = refl
  becomes-one moves c (Go t v p) b e = and_in _ _ (left_one c.loc (value_in c.vals v) p c.vals b e) refl
  becomes-one moves c (Out d t v p q) b e = refl
  becomes-one moves c (In d t k p q) b e = refl
  becomes-one moves c (Call d n) b e = refl

  meet_one : (c e : Comp) (g h : Head) → c.loc < 64 → (c.loc ≡ l → leaves_one w g ≡ true) → (e.loc ≡ l → leaves_one w h ≡ true) → ok_a (in_left (stays_one w l)) (meet_at c e g h) ≡ true
  unfolding meet_at leaves_one
  meet_one c e Stop h b x y = refl
  meet_one c e (Go t v p) h b x y = refl
  meet_one c e (In d t k p q) h b x y = refl
  meet_one c e (Call d n) h b x y = refl
  meet_one c e (Out d t v p q) Stop b x y = refl
  meet_one c e (Out d t v p q) (Go t' v' p') b x y = refl
  meet_one c e (Out d t v p q) (Out d' t' v' p' q') b x y = refl
  meet_one c e (Out d t v p q) (Call d' n) b x y = refl
  meet_one c e (Out d t v p q) (In d' t' k p' q') b x y = tests (eqb d d' && eqb c.loc e.loc) refl
    where
      two : stays_one w l (left_at c.loc c.loc p c.vals) ≡ true → stays_one w l (left_at c.loc c.loc p' (set e.vals k (value_in c.vals v))) ≡ true → in_left (stays_one w l) (handed c e d (value_in c.vals v) p k p') ≡ true
      two a u = unfold handed every in and_in _ _ a (and_in _ _ u refl)

      tests : (z : Bool) → (eqb d d' && eqb c.loc e.loc) ≡ z → ok_a (in_left (stays_one w l)) (cond z (accepted (handed c e d (value_in c.vals v) p k p')) (refused 11)) ≡ true
      tests false z = refl
      tests true z =
          let s : c.loc ≡ e.loc = eqb-true c.loc e.loc (and-inv (eqb d d') _ z).1 in
          let f : c.loc ≡ l → one_part w p ≡ true = λ i. (and-inv (one_part w p) (one_part w q) (x i)).0 in
          let g : c.loc ≡ l → one_part w p' ≡ true = λ i. (and-inv (one_part w p') (one_part w q') (y (sym s ∙ i))).0 in
          let a = left_one c.loc c.loc p c.vals b f in
          let u = left_one c.loc c.loc p' (set e.vals k (value_in c.vals v)) b g in
          two a u

  -- an unmarked component that stays one, at l
  here-one : (c : Comp) → ltb c.mark 64 ≡ false → stays_one w l c ≡ true → c.loc ≡ l → leaves_one w (head_at w c.place) ≡ true
  unfolding stays_one
  here-one c m e z = rw (m, eq-eqb c.loc l z) at e

  module _ (good : script_ok w ≡ true) where
    stands : (c : Comp) → comp_ok w c ≡ true → c.loc < 64
    stands c o = omega (arith, (comp-fine w c o).loc, (script-fine w good).locs)

    alone-one : (k : Kind) (c : Comp) → comp_ok w c ≡ true → stays_one w l c ≡ true → ok_a (in_left (stays_one w l)) (alone_at w k c) ≡ true
    unfolding alone_at fits_alone
    alone-one k c o e = rightly-kept w (in_left (stays_one w l)) (fits_alone w k c) (go (ltb c.mark 64) refl)
      where
        go : (b : Bool) → ltb c.mark 64 ≡ b → ok_a (in_left (stays_one w l)) (cond b (refused 9) (becomes_at w k c (head_at w c.place))) ≡ true
        go true m = refl
        go false m = becomes-one k c (head_at w c.place) (stands c o) (here-one c m e)

    together-one : (c e : Comp) → comp_ok w c ≡ true → comp_ok w e ≡ true → stays_one w l c ≡ true → stays_one w l e ≡ true → ok_a (in_left (stays_one w l)) (together_at w c e) ≡ true
    unfolding together_at fits_together
    together-one c e o u x y = rightly-kept w (in_left (stays_one w l)) (fits_together w c e) (go (ltb c.mark 64) (ltb e.mark 64) refl refl)
      where
        go : (a b : Bool) → ltb c.mark 64 ≡ a → ltb e.mark 64 ≡ b → ok_a (in_left (stays_one w l)) (cond (a || b) (refused 9) (meet_at c e (head_at w c.place) (head_at w e.place))) ≡ true
        go true b m n = refl
        go false true m n = refl
        go false false m n = meet_one c e (head_at w c.place) (head_at w e.place) (stands c o) (here-one c m x) (here-one e n y)

    -- after an action each still stays one
    pub act-steady : (cs : List Comp) → every (comp_ok w) cs ≡ true → every (stays_one w l) cs ≡ true → (a : Action) → ok_a (in_acted (stays_one w l)) (act_on w a cs) ≡ true
    act-steady cs o e = act-keeps w (comp_ok w) (stays_one w l) cs o e alone-one together-one
