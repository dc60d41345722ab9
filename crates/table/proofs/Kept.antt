-- Actions and ticks keep what question 17 asks of components, so that it never stands in the way of what the rules allow.
-- By cases on what fires: places go to lesser places, values come from slots in range.
use Prim.Native.Nat.{ℕ, zero, suc, ◌-◌, ◌≤◌, ◌<◌}
use native.Mathlib.Omega.{arith}
use mathlib.Core.List.{List, [], ◌∷◌, flat_map}
use mathlib.Core.Bool.{Bool, true, false, cond, ◌&&◌, ◌||◌}
use mathlib.Core.Path.{◌≡◌, refl, ap, sym, ◌∙◌}
use lib.Dec.{eqb, leb, ltb}
use lib.ListN.{length, get_or, set, take, length-append, length-set}
use borrow.Author.Tests.{ltb-true, leb-true, lt-ltb, le-leb, eqb-true}
use Rattle.terms.specs.Names.{Name}
use Rattle.terms.specs.Same.{every}
use Rattle.terms.specs.Clock.{less_raw}
use Rattle.terms.specs.Rules.{Answer, Kind, Action, ◌>>=◌, at, set_all, positions}
use Rattle.terms.specs.Rules as R
use Rattle.terms.specs.Rules.Answer.{refused, accepted}
use Rattle.terms.specs.Rules.Kind.{calls, moves}
use Rattle.terms.specs.Rules.Action.{single, pair}
use Rattle.terms.proofs.Lists.{every-at}
use Rattle.terms.proofs.Names.{and-inv, and_in}
use Rattle.waits.proofs.Waits.{longer-halts}
use Rattle.table.specs.declared.Head.{Head}
use Rattle.table.specs.declared.Head.TheVariants.{Stop, Go, Out, In, Call}
use Rattle.table.specs.declared.Comp.{Comp}
use Rattle.table.specs.Words.{parts_in, locs_in, defs_in, arity_of, body_of, head_at, next_at, names_at, arg_at, arg_words, args_at}
use Rattle.table.specs.Valid.{index, slot_ok, ref_ok, head_ok, next_ok, script_ok, mark_ok, comp_ok, timer_ok}
use Rattle.table.specs.Split.{timer_in, fresh, and_then, parts_from, split_at, timed, or_else, waited, passed, expired_at}
use Rattle.table.specs.Fire.{Left, ActedAt, granted_at, rightly, value_in, left_at, arg_in, loaded, becomes_at, handed, meet_at, alone_at, together_at, left_by, act_on, passed_all, fits_alone, fits_together}
use Rattle.table.proofs.Tests.{every-get_or, every_append, inner, part-fine, def-fine, CompFine, comp-fine, comp-ok}
use Rattle.table.proofs.Places.{args-at, go-fine, out-fine, in-fine}
use Rattle.table.proofs.Fires.{scope-length, names-length}

-- what is accepted passes the test
abbrev pub ok_a : {A : Type 0} → (A → Bool) → Answer A → Bool
ok_a f (refused n) = true
ok_a f (accepted a) = f a

abbrev pub in_range : List ℕ → ℕ → Bool
in_range w v = ltb v (locs_in w)

-- ── values ──
pub value-in : (w : List ℕ) (ys : List Name) (vs : List ℕ) (v : ℕ) → ref_ok w ys v ≡ true → length ys ≤ length vs → every (in_range w) vs ≡ true → value_in vs v < locs_in w
unfolding ref_ok slot_ok value_in
value-in w ys vs v e h f = go (ltb v 64) e
  where
    go : (b : Bool) → cond b (ltb v (locs_in w)) (ltb (v - 64) (length ys) && eqb (index ys (get_or ys (v - 64) [])) (v - 64)) ≡ true → cond b v (get_or vs (v - 64) 0) < locs_in w
    go true e = ltb-true v (locs_in w) e
    go false e =
        let a = and-inv (ltb (v - 64) (length ys)) _ e in
        ltb-true _ _ (every-get_or (in_range w) vs 0 (v - 64) f (omega (arith, ltb-true (v - 64) (length ys) a.0)))

every_set : {A : Type 0} (f : A → Bool) (xs : List A) (k : ℕ) (y : A) → every f xs ≡ true → f y ≡ true → every f (set xs k y) ≡ true
unfolding every
every_set f [] k y e h = refl
every_set f (x ∷ xs) zero y e h = and_in _ _ h (and-inv (f x) _ e).1
every_set f (x ∷ xs) (suc k) y e h = let a = and-inv (f x) _ e in and_in _ _ a.0 (every_set f xs k y a.1 h)

ref_ok-at : (w : List ℕ) (ys : List Name) (n k : ℕ) (xs : List ℕ) → every (ref_ok w ys) (take n xs) ≡ true → k < n → n ≤ length xs → ref_ok w ys (get_or xs k 0) ≡ true
unfolding every
ref_ok-at w ys zero k xs e h l = absurd (omega arith)
ref_ok-at w ys (suc n) k [] e h l = absurd (omega arith)
ref_ok-at w ys (suc n) zero (x ∷ xs) e h l = (and-inv (ref_ok w ys x) _ e).0
ref_ok-at w ys (suc n) (suc k) (x ∷ xs) e h l = ref_ok-at w ys n k xs (and-inv (ref_ok w ys x) _ e).1 (omega arith) (omega arith)

-- the argument k of n, among the values that are put in
arg-in : (w : List ℕ) (i : ℕ) (ys : List Name) (vs : List ℕ) (n k : ℕ) → every (ref_ok w ys) (args_at w i n) ≡ true → n ≤ 4 → length ys ≤ length vs → every (in_range w) vs ≡ true → 0 < locs_in w
    → in_range w (arg_in w i vs n k) ≡ true
unfolding arg_in
arg-in w i ys vs n k e m h f z = go (ltb k n) refl
  where
    go : (b : Bool) → ltb k n ≡ b → in_range w (cond b (value_in vs (arg_at w i k)) 0) ≡ true
    go true q =
        let b = ltb-true k n q in
        lt-ltb _ _ (value-in w ys vs (arg_at w i k) (ap (ref_ok w ys) (sym (args-at w i k (omega arith))) ∙ ref_ok-at w ys n k (arg_words w i) e b (omega arith)) h f)
    go false q = lt-ltb 0 (locs_in w) z

-- ── what an action leaves ──
-- each component that is left passes the test f
abbrev pub in_left : (Comp → Bool) → Left → Bool
in_left f x = every f x.after

abbrev pub in_acted : (Comp → Bool) → ActedAt → Bool
in_acted f r = every f r.comps

abbrev pub good_left : List ℕ → Left → Bool
good_left w x = in_left (comp_ok w) x

abbrev pub good_acted : List ℕ → ActedAt → Bool
good_acted w r = in_acted (comp_ok w) r

-- what holds of what fits holds of what may fire
pub rightly-kept : (w : List ℕ) (f : Left → Bool) (x : Answer Left) → ok_a f x ≡ true → ok_a f (x >>= rightly w) ≡ true
unfolding rightly
rightly-kept w f (refused n) e = refl
rightly-kept w f (accepted y) e = go (granted_at w y.tag)
  where
    go : (b : Bool) → ok_a f (cond b (accepted y) (refused 20)) ≡ true
    go true = e
    go false = refl

left-ok : (w : List ℕ) (l k i : ℕ) (vs : List ℕ) → l < locs_in w → k < locs_in w → i < parts_in w → length vs ≡ 8 → every (in_range w) vs ≡ true → comp_ok w (left_at l k i vs) ≡ true
unfolding left_at mark_ok timer_ok
left-ok w l k i vs a b c n e = comp-ok w (left_at l k i vs) (record { loc = b; mark = or_right (eqb l 64) (ltb l (locs_in w)) (lt-ltb l (locs_in w) a); place = c; timer = refl; slots = n; vals = e; wait = omega arith })
  where
    or_right : (x y : Bool) → y ≡ true → (x || y) ≡ true
    or_right true y q = refl
    or_right false y q = q

module _ (w : List ℕ) (good : script_ok w ≡ true) where
  pub enough : (c : Comp) → CompFine w c → length (names_at w c.place) ≤ length c.vals
  enough c f = omega (arith, f.slots, names-length w c.place, scope-length w c.place)

  becomes-kept : (k : Kind) (c : Comp) (h : Head) → head_ok w c.place h ≡ true → CompFine w c → ok_a (good_left w) (becomes_at w k c h) ≡ true
  unfolding becomes_at every head_ok loaded
  becomes-kept calls c Stop o f = refl
  becomes-kept calls c (Go t v p) o f = refl
  becomes-kept calls c (Out d t v p q) o f = refl
  becomes-kept calls c (In d t k p q) o f = refl
  becomes-kept calls c (Call d n) o f =
      let r = and-inv (ltb d (defs_in w)) _ o in
      let s = and-inv (eqb n (arity_of w d)) _ r.1 in
      let g = def-fine w good d (ltb-true d (defs_in w) r.0) in
      let arg : (k : ℕ) → in_range w (arg_in w c.place c.vals n k) ≡ true
      = λ k. arg-in w c.place (names_at w c.place) c.vals n k s.1 (omega (arith, g.few, eqb-true n (arity_of w d) s.0)) (enough c f) f.vals (omega (arith, f.loc)) in
      let z : in_range w 0 ≡ true = lt-ltb 0 (locs_in w) (omega (arith, f.loc)) in
      and_in _ _ (left-ok w c.loc c.loc (body_of w d) (loaded w c.place c.vals n) f.loc f.loc g.body refl (rw (arg 0, arg 1, arg 2, arg 3, z))) refl
  becomes-kept moves c Stop o f = refl
  becomes-kept moves c (Go t v p) o f =
      let g = go-fine w c.place t v p o in
      and_in _ _ (left-ok w c.loc (value_in c.vals v) p c.vals f.loc (value-in w (names_at w c.place) c.vals v g.value (enough c f) f.vals) (omega (arith, g.first.lesser, f.place)) f.slots f.vals) refl
  becomes-kept moves c (Out d t v p q) o f = refl
  becomes-kept moves c (In d t k p q) o f = refl
  becomes-kept moves c (Call d n) o f = refl

  meet-kept : (c e : Comp) (g h : Head) → head_ok w c.place g ≡ true → head_ok w e.place h ≡ true → CompFine w c → CompFine w e → ok_a (good_left w) (meet_at c e g h) ≡ true
  unfolding meet_at
  meet-kept c e Stop h o o' f f' = refl
  meet-kept c e (Go t v p) h o o' f f' = refl
  meet-kept c e (In d t k p q) h o o' f f' = refl
  meet-kept c e (Call d n) h o o' f f' = refl
  meet-kept c e (Out d t v p q) Stop o o' f f' = refl
  meet-kept c e (Out d t v p q) (Go t' v' p') o o' f f' = refl
  meet-kept c e (Out d t v p q) (Out d' t' v' p' q') o o' f f' = refl
  meet-kept c e (Out d t v p q) (Call d' n) o o' f f' = refl
  meet-kept c e (Out d t v p q) (In d' t' k p' q') o o' f f' = tests (eqb d d' && eqb c.loc e.loc)
    where
      tests : (b : Bool) → ok_a (good_left w) (cond b (accepted (handed c e d (value_in c.vals v) p k p')) (refused 11)) ≡ true
      tests false = refl
      tests true =
          let r = out-fine w c.place d t v p q o in
          let s = in-fine w e.place d' t' k p' q' o' in
          let b = value-in w (names_at w c.place) c.vals v r.value (enough c f) f.vals in
          unfold handed every in
          and_in _ _ (left-ok w c.loc c.loc p c.vals f.loc f.loc (omega (arith, r.first.lesser, f.place)) f.slots f.vals)
          (and_in _ _ (left-ok w c.loc c.loc p' (set e.vals k (value_in c.vals v)) f.loc f.loc (omega (arith, s.first.lesser, f'.place)) (length-set e.vals k (value_in c.vals v) ∙ f'.slots) (every_set (in_range w) e.vals k (value_in c.vals v) f'.vals (lt-ltb _ _ b))) refl)

  pub alone-kept : (k : Kind) (c : Comp) → CompFine w c → ok_a (good_left w) (alone_at w k c) ≡ true
  unfolding alone_at fits_alone
  alone-kept k c f = rightly-kept w (good_left w) (fits_alone w k c) (go (ltb c.mark 64))
    where
      go : (b : Bool) → ok_a (good_left w) (cond b (refused 9) (becomes_at w k c (head_at w c.place))) ≡ true
      go true = refl
      go false = becomes-kept k c (head_at w c.place) (part-fine w good c.place f.place).head f

  pub together-kept : (c e : Comp) → CompFine w c → CompFine w e → ok_a (good_left w) (together_at w c e) ≡ true
  unfolding together_at fits_together
  together-kept c e f g = rightly-kept w (good_left w) (fits_together w c e) (go (ltb c.mark 64 || ltb e.mark 64))
    where
      go : (b : Bool) → ok_a (good_left w) (cond b (refused 9) (meet_at c e (head_at w c.place) (head_at w e.place))) ≡ true
      go true = refl
      go false = meet-kept c e (head_at w c.place) (head_at w e.place) (part-fine w good c.place f.place).head (part-fine w good e.place g.place).head f g

-- ── at positions ──
put-every : {A : Type 0} (f : A → Bool) (xs : List A) (k : ℕ) (y : A) → every f xs ≡ true → f y ≡ true → every f (R.set xs k y) ≡ true
unfolding every R.set
put-every f [] k y e h = refl
put-every f (x ∷ xs) zero y e h = and_in _ _ h (and-inv (f x) _ e).1
put-every f (x ∷ xs) (suc k) y e h = let a = and-inv (f x) _ e in and_in _ _ a.0 (put-every f xs k y a.1 h)

all-every : {A : Type 0} (f : A → Bool) (ps : List ℕ) (ys xs : List A) → every f xs ≡ true → every f ys ≡ true → every f (set_all ps ys xs) ≡ true
unfolding every set_all
all-every f [] ys xs e h = e
all-every f (p ∷ ps) [] xs e h = e
all-every f (p ∷ ps) (y ∷ ys) xs e h = let a = and-inv (f y) _ h in all-every f ps ys (R.set xs p y) (put-every f xs p y e a.0) a.1

-- what holds of each component holds of each after an action, if it holds of what the action leaves of components of which it held; q is known of each beforehand
module _ (w : List ℕ) (q f : Comp → Bool) (cs : List Comp) (known : every q cs ≡ true) (holds : every f cs ≡ true)
    (alone : (k : Kind) (c : Comp) → q c ≡ true → f c ≡ true → ok_a (in_left f) (alone_at w k c) ≡ true)
    (together : (c e : Comp) → q c ≡ true → q e ≡ true → f c ≡ true → f e ≡ true → ok_a (in_left f) (together_at w c e) ≡ true) where
  put_keeps : (ps : List ℕ) (x : Answer Left) → ok_a (in_left f) x ≡ true → ok_a (in_acted f) (x >>= λ x. accepted (record { tag = x.tag; comps = set_all ps x.after cs })) ≡ true
  put_keeps ps (refused n) h = refl
  put_keeps ps (accepted x) h = all-every f ps x.after cs holds h

  pub act-keeps : (a : Action) → ok_a (in_acted f) (act_on w a cs) ≡ true
  unfolding act_on left_by
  act-keeps (single k p) = go (at cs p) refl
    where
      go : (x : Answer Comp) → at cs p ≡ x → ok_a (in_acted f) ((x >>= λ c. alone_at w k c) >>= λ y. accepted (record { tag = y.tag; comps = set_all (positions (single k p)) y.after cs })) ≡ true
      go (refused n) e = refl
      go (accepted c) e = put_keeps (positions (single k p)) (alone_at w k c) (alone k c (every-at q cs p c known e) (every-at f cs p c holds e))
  act-keeps (pair p r) = go (at cs p) refl (at cs r) refl
    where
      go : (x : Answer Comp) → at cs p ≡ x → (y : Answer Comp) → at cs r ≡ y → ok_a (in_acted f) ((x >>= λ c. y >>= λ e. together_at w c e) >>= λ z. accepted (record { tag = z.tag; comps = set_all (positions (pair p r)) z.after cs })) ≡ true
      go (refused n) e y h = refl
      go (accepted c) e (refused n) h = refl
      go (accepted c) e (accepted b) h = put_keeps (positions (pair p r)) (together_at w c b) (together c b (every-at q cs p c known e) (every-at q cs r b known h) (every-at f cs p c holds e) (every-at f cs r b holds h))

-- components stay good under an action
pub act-kept : (w : List ℕ) → script_ok w ≡ true → (cs : List Comp) → every (comp_ok w) cs ≡ true → (a : Action) → ok_a (good_acted w) (act_on w a cs) ≡ true
act-kept w good cs fine =
    act-keeps w (comp_ok w) (comp_ok w) cs fine fine (λ k c o h. alone-kept w good k c (comp-fine w c o)) (λ c e o u h v. together-kept w good c e (comp-fine w c o) (comp-fine w e u))

-- ── the tick ──
fresh-timer : (w : List ℕ) (i : ℕ) (h : Head) → head_ok w i h ≡ true → timer_ok (timer_in h) ≡ true
unfolding timer_in timer_ok
fresh-timer w i Stop e = refl
fresh-timer w i (Go t v p) e = unfold timer_ok in (go-fine w i t v p e).timer
fresh-timer w i (Out c t v p q) e = unfold timer_ok in (out-fine w i c t v p q e).timer
fresh-timer w i (In c t k p q) e = unfold timer_ok in (in-fine w i c t k p q e).timer
fresh-timer w i (Call d n) e = refl

less-ok : (t : ℕ) → timer_ok t ≡ true → timer_ok (less_raw t) ≡ true
unfolding timer_ok less_raw
less-ok t e = go (leb t 1_000_000)
  where
    go : (b : Bool) → leb (cond b (t - 1) t) 1_000_001 ≡ true
    go true = le-leb (t - 1) 1_000_001 (omega (arith, leb-true t 1_000_001 e))
    go false = e

module _ (w : List ℕ) (good : script_ok w ≡ true) where
  rest-kept : (l i : ℕ) (vs : List ℕ) (f : ℕ → List Comp) (n : ℕ) → comp_ok w (fresh w l vs i) ≡ true → next_ok w i n ≡ true → ((j : ℕ) → j < i → every (comp_ok w) (f j) ≡ true) → every (comp_ok w) (fresh w l vs i ∷ and_then f n) ≡ true
  unfolding every and_then next_ok
  rest-kept l i vs f zero c e h = and_in _ _ c refl
  rest-kept l i vs f (suc j) c e h = and_in _ _ c (h j (inner w i j _ e).lesser)

  module _ (l : ℕ) (vs : List ℕ) (b : l < locs_in w) (n : length vs ≡ 8) (e : every (in_range w) vs ≡ true) where
    parts-kept : (k i : ℕ) → i < parts_in w → every (comp_ok w) (parts_from w l vs k i) ≡ true
    unfolding parts_from every mark_ok fresh
    parts-kept zero i h = refl
    parts-kept (suc k) i h =
        let r = part-fine w good i h in
        rest-kept l i vs (parts_from w l vs k) (next_at w i)
        (comp-ok w (fresh w l vs i) (record { loc = b; mark = refl; place = h; timer = fresh-timer w i (head_at w i) r.head; slots = n; vals = e; wait = omega arith }))
        r.next (λ j q. parts-kept k j (omega arith))

    split-kept : (i : ℕ) → i < parts_in w → every (comp_ok w) (split_at w l vs i) ≡ true
    unfolding split_at
    split-kept i h = parts-kept (suc i) i h

  timed-kept : (c : Comp) (t : ℕ) → CompFine w c → timer_ok t ≡ true → every (comp_ok w) (timed c t ∷ []) ≡ true
  unfolding every timed
  timed-kept c t f e = and_in _ _ (comp-ok w (timed c t) (record { loc = f.loc; mark = f.mark; place = f.place; timer = e; slots = f.slots; vals = f.vals; wait = longer-halts c.wait f.wait })) refl

  one_kept : (c : Comp) → CompFine w c → every (comp_ok w) (c ∷ []) ≡ true
  unfolding every
  one_kept c f = and_in _ _ (comp-ok w c f) refl

  else-kept : (c : Comp) (q : ℕ) → CompFine w c → q < c.place → every (comp_ok w) (or_else w c q) ≡ true
  unfolding or_else
  else-kept c q f h = go (expired_at w c)
    where
      go : (b : Bool) → every (comp_ok w) (cond b (split_at w c.loc c.vals q) (timed c (less_raw c.timer) ∷ [])) ≡ true
      go true = split-kept c.loc c.vals f.loc f.slots f.vals q (omega (arith, f.place))
      go false = timed-kept c (less_raw c.timer) f (less-ok c.timer f.timer)

  wait-kept : (c : Comp) (h : Head) → CompFine w c → head_ok w c.place h ≡ true → every (comp_ok w) (waited w c h) ≡ true
  unfolding waited
  wait-kept c Stop f e = one_kept c f
  wait-kept c (Go t v p) f e = timed-kept c (less_raw c.timer) f (less-ok c.timer f.timer)
  wait-kept c (Out d t v p q) f e = else-kept c q f (out-fine w c.place d t v p q e).second.lesser
  wait-kept c (In d t k p q) f e = else-kept c q f (in-fine w c.place d t k p q e).second.lesser
  wait-kept c (Call d n) f e = one_kept c f

  pass_kept : (l : ℕ) (c : Comp) → CompFine w c → every (comp_ok w) (passed w l c) ≡ true
  unfolding passed
  pass_kept l c f = go (ltb c.mark 64) (eqb c.mark l) (eqb c.loc l)
    where
      go : (m a b : Bool) → every (comp_ok w) (cond m (cond a (split_at w c.loc c.vals c.place) (c ∷ [])) (cond b (waited w c (head_at w c.place)) (c ∷ []))) ≡ true
      go true true b = split-kept c.loc c.vals f.loc f.slots f.vals c.place f.place
      go true false b = one_kept c f
      go false a true = wait-kept c (head_at w c.place) f (part-fine w good c.place f.place).head
      go false a false = one_kept c f

  -- components stay good under a tick
  pub tick-kept : (l : ℕ) (cs : List Comp) → every (comp_ok w) cs ≡ true → every (comp_ok w) (passed_all w l cs) ≡ true
  unfolding passed_all flat_map every
  tick-kept l [] e = refl
  tick-kept l (c ∷ cs) e = let a = and-inv (comp_ok w c) _ e in every_append (comp_ok w) (passed w l c) _ (pass_kept l c (comp-fine w c a.0)) (tick-kept l cs a.1)

-- ── nothing is ever removed ──
cond-some : {A : Type 0} (b : Bool) (xs ys : List A) → 0 < length xs → 0 < length ys → 0 < length (cond b xs ys)
cond-some true xs ys p q = p
cond-some false xs ys p q = q

split-some : (w : List ℕ) (l : ℕ) (vs : List ℕ) (i : ℕ) → 0 < length (split_at w l vs i)
unfolding split_at parts_from
split-some w l vs i = omega arith

else-some : (w : List ℕ) (c : Comp) (q : ℕ) → 0 < length (or_else w c q)
unfolding or_else
else-some w c q = cond-some (expired_at w c) _ _ (split-some w c.loc c.vals q) (omega arith)

wait-some : (w : List ℕ) (c : Comp) (h : Head) → 0 < length (waited w c h)
unfolding waited
wait-some w c Stop = omega arith
wait-some w c (Go t v p) = omega arith
wait-some w c (Out d t v p q) = else-some w c q
wait-some w c (In d t k p q) = else-some w c q
wait-some w c (Call d n) = omega arith

pub pass-some : (w : List ℕ) (l : ℕ) (c : Comp) → 0 < length (passed w l c)
unfolding passed
pass-some w l c =
    cond-some (ltb c.mark 64) _ _
    (cond-some (eqb c.mark l) _ _ (split-some w c.loc c.vals c.place) (omega arith))
    (cond-some (eqb c.loc l) _ _ (wait-some w c (head_at w c.place)) (omega arith))

pub tick-grows : (w : List ℕ) (l : ℕ) (cs : List Comp) → length cs ≤ length (passed_all w l cs)
unfolding passed_all flat_map
tick-grows w l [] = omega arith
tick-grows w l (c ∷ cs) = rw (length-append (passed w l c) (passed_all w l cs)) (omega (arith, pass-some w l c, tick-grows w l cs))
