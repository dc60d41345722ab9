-- What fits on the components of a valid table, questions 9 to 11, is what fits by the rules of what they stand for. (With rights: Granted.)
-- Idea: putting the values in makes each head the part that the rules see; an input that receives has its slot set (Scopes).
use Prim.Native.Nat.{ℕ, zero, suc, ◌+◌, ◌-◌, ◌≤◌, ◌<◌}
use native.Mathlib.Omega.{arith}
use mathlib.Core.List.{List, [], ◌∷◌, ◌++◌, map}
use mathlib.Core.Bool.{Bool, true, false, cond, ◌&&◌, ◌||◌}
use mathlib.Core.Path.{◌≡◌, refl, ap, sym, ◌∙◌}
use lib.Dec.{eqb, ltb}
use lib.ListN.{length, get_or, set, length-map, length-take}
use borrow.Author.Tests.{ltb-true, lt-ltb, eqb-true, eqb-false, eq-eqb}
use Rattle.terms.specs.Names.{Name, same_name}
use Rattle.terms.specs.Terms.{Part}
use Rattle.terms.specs.Terms.Value.{loc, var}
use Rattle.terms.specs.Terms.Mark.{by}
use Rattle.terms.specs.Terms.Component.{comp}
use Rattle.terms.specs.Terms.Label.{sent}
use Rattle.terms.specs.Same.{every}
use Rattle.terms.specs.Substitution.{held, env, just, hide, sub, sub_p, sub_v, sub_vs}
use Rattle.terms.specs.Rules.{Answer, Kind, Action, Acted, Fired, Became, Met, ◌>>=◌, at, set_all, positions, locations, filled, body, becomes, meet, fire, firing_at, act, fits}
use Rattle.terms.specs.Rules as R
use Rattle.terms.specs.Rules.Answer.{refused, accepted}
use Rattle.terms.specs.Rules.Kind.{calls, moves}
use Rattle.terms.specs.Rules.Firing.{alone, together}
use Rattle.terms.specs.Rules.Action.{single, pair}
use Rattle.terms.specs.Clock.{ticks_of}
use Rattle.terms.proofs.Names.{and-inv}
use Rattle.terms.proofs.Substitution.{env-more}
use Rattle.terms.specs.Letters.{is_small, is_identifier}
use Rattle.table.specs.declared.Head.{Head}
use Rattle.table.specs.declared.Head.TheVariants.{Stop, Go, Out, In, Call}
use Rattle.table.specs.declared.Comp.{Comp}
use Rattle.table.specs.Words.{locs_in, chans_in, defs_in, name_at, loc_name, chan_name, def_name, arity_of, body_of, params_at, params_of, head_at, own_at, bound_at, scope_at, names_at, args_at}
use Rattle.table.specs.Meaning.{value_of, values_of, part_of, process_at, part_at, list_from, def_of, defs_of, with_timer, env_at, means, context_of}
use Rattle.table.specs.Valid.{index, slot_ok, ref_ok, entered, head_ok, script_ok}
use Rattle.table.specs.Fire.{Left, ActedAt, label_of, value_in, left_at, arg_in, loaded, becomes_at, handed, meet_at, fits_alone, fits_together}
use Rattle.table.proofs.Scopes.{enter, enter-is, received, slotted, index-enter}
use Rattle.table.proofs.Tests.{part-fine, script-fine, def-fine, CompFine, held-once}
use Rattle.table.proofs.Places.{go-fine, out-fine, in-fine}
use Rattle.table.proofs.Splits.{unmarked-is, marked-is, loc-eqb, same-scope}

abbrev pub map_a : {A B : Type 0} → (A → B) → Answer A → Answer B
map_a f (refused n) = refused n
map_a f (accepted a) = accepted (f a)

-- ── values ──
pub scope-length : (w : List ℕ) (i : ℕ) → length (scope_at w i) ≤ 8
unfolding scope_at
scope-length w i = simp length-take (omega arith)

pub names-length : (w : List ℕ) (i : ℕ) → length (names_at w i) ≡ length (scope_at w i)
unfolding names_at
names-length w i = length-map (scope_at w i) (name_at w)

pub get_d_map : {A B : Type 0} (f : A → B) (xs : List A) (k : ℕ) (a : A) (b : B) → k < length xs → get_or (map f xs) k b ≡ f (get_or xs k a)
get_d_map f [] k a b h = absurd (omega arith)
get_d_map f (x ∷ xs) zero a b h = refl
get_d_map f (x ∷ xs) (suc k) a b h = get_d_map f xs k a b (omega arith)

-- a value's word with the values put in: a location
pub ref-means : (w : List ℕ) (ys : List Name) (vs : List ℕ) (v : ℕ) → ref_ok w ys v ≡ true → length ys ≤ length vs
    → sub_v (env ys (map (loc_name w) vs)) (value_of w ys v) ≡ loc (loc_name w (value_in vs v))
unfolding ref_ok slot_ok value_of value_in sub_v held
ref-means w ys vs v e h = go (ltb v 64) e
  where
    go : (b : Bool) → cond b (ltb v (locs_in w)) (slot_ok ys (v - 64)) ≡ true
        → sub_v (env ys (map (loc_name w) vs)) (cond b (loc (loc_name w v)) (var (get_or ys (v - 64) []))) ≡ loc (loc_name w (cond b v (get_or vs (v - 64) 0)))
    go true e = refl
    go false e =
        let a = and-inv (ltb (v - 64) (length ys)) _ e in
        let k = ltb-true (v - 64) (length ys) a.0 in
        let q = eqb-true (index ys (get_or ys (v - 64) [])) (v - 64) a.1 in
        rw (
          slotted ys (map (loc_name w) vs) (get_or ys (v - 64) []) (omega (arith, q, k)) (omega (arith, length-map vs (loc_name w))),
          q,
          get_d_map (loc_name w) vs (v - 64) 0 [] (omega arith),
        )

-- the values of a call, put in: locations, all of them
refs-mean : (w : List ℕ) (ys : List Name) (vs xs : List ℕ) → every (ref_ok w ys) xs ≡ true → length ys ≤ length vs
    → locations (sub_vs (env ys (map (loc_name w) vs)) (values_of w ys xs)) ≡ accepted (map (loc_name w) (map (value_in vs) xs))
unfolding every sub_vs values_of locations
refs-mean w ys vs [] e h = refl
refs-mean w ys vs (a ∷ xs) e h = let r = and-inv (ref_ok w ys a) _ e in rw (ref-means w ys vs a r.0 h, refs-mean w ys vs xs r.1 h)

-- ── definitions ──
body-from : (w : List ℕ) → script_ok w ≡ true → (k n d : ℕ) (ls : List Name) → k + n ≡ defs_in w → k ≤ d → d < k + n
    → body (list_from k n (def_of w)) (def_name w d) ls ≡ filled (params_of w d) (process_at w (body_of w d)) ls
unfolding body list_from def_of
body-from w good k zero d ls e h l = absurd (omega arith)
body-from w good k (suc n) d ls e h l =
    rw (held-once is_identifier (def_name w) (defs_in w) (script-fine w good).def-names d k (omega arith) (omega arith))
    (go (eqb d k) refl (λ m. body-from w good (suc k) n d ls (omega arith) m (omega arith)))
  where
    go : (b : Bool) → eqb d k ≡ b → (suc k ≤ d → body (list_from (suc k) n (def_of w)) (def_name w d) ls ≡ filled (params_of w d) (process_at w (body_of w d)) ls)
        → cond b (filled (params_of w k) (process_at w (body_of w k)) ls) (body (list_from (suc k) n (def_of w)) (def_name w d) ls) ≡ filled (params_of w d) (process_at w (body_of w d)) ls
    go true q m = rw (eqb-true d k q)
    go false q m = m (omega (arith, eqb-false d k q))

params-length : (w : List ℕ) (d : ℕ) → arity_of w d ≤ 4 → length (params_of w d) ≡ arity_of w d
unfolding params_of params_at
params-length w d h = simp (length-map, length-take) (omega arith)

-- the arguments stand in the first slots
record Loads (w : List ℕ) (i : ℕ) (vs : List ℕ) (n : ℕ) : Type 0 where
  more : List ℕ
  is : loaded w i vs n ≡ map (value_in vs) (args_at w i n) ++ more

loads : (w : List ℕ) (i : ℕ) (vs : List ℕ) (n : ℕ) → n ≤ 4 → Loads w i vs n
unfolding loaded arg_in
loads w i vs zero h = record { more = _; is = refl }
loads w i vs (suc zero) h = record { more = _; is = refl }
loads w i vs (suc (suc zero)) h = record { more = _; is = refl }
loads w i vs (suc (suc (suc zero))) h = record { more = _; is = refl }
loads w i vs (suc (suc (suc (suc zero)))) h = record { more = _; is = refl }
loads w i vs (suc (suc (suc (suc (suc n))))) h = absurd (omega arith)

pub map-append : {A B : Type 0} (f : A → B) (xs ys : List A) → map f (xs ++ ys) ≡ map f xs ++ map f ys
map-append f [] ys = refl
map-append f (x ∷ xs) ys = rw (map-append f xs ys)

-- a call's body with its arguments in is the body with its slots loaded
body-means : (w : List ℕ) → script_ok w ≡ true → (d n i : ℕ) (vs : List ℕ) → d < defs_in w → n ≡ arity_of w d
    → body (defs_of w) (def_name w d) (map (loc_name w) (map (value_in vs) (args_at w i n)))
    ≡ accepted (sub_p (process_at w (body_of w d)) (env_at w (body_of w d) (loaded w i vs n)))
unfolding defs_of env_at names_at params_of
body-means w good d n i vs h e =
    let f = def-fine w good d h in
    let l = loads w i vs n (omega (arith, f.few)) in
    let xs = map (loc_name w) (map (value_in vs) (args_at w i n)) in
    let len : length (params_of w d) ≡ length xs = params-length w d f.few ∙ sym e ∙ simp (length-map, length-take) (omega (arith, f.few)) in
    body-from w good 0 (defs_in w) d xs (omega arith) (omega arith) (omega arith)
    ∙ fill (params_of w d) xs len
    ∙ ap (λ z. accepted (sub_p (process_at w (body_of w d)) z)) (sym (env-more (params_of w d) xs (map (loc_name w) l.more) (omega arith)) ∙ ap (env (params_of w d)) (sym (map-append (loc_name w) (map (value_in vs) (args_at w i n)) l.more) ∙ ap (map (loc_name w)) (sym l.is)) ∙ ap (λ os. env (map (name_at w) os) (map (loc_name w) (loaded w i vs n))) (sym f.scope))
  where
    fill : (us xs : List Name) → length us ≡ length xs → filled us (process_at w (body_of w d)) xs ≡ accepted (sub_p (process_at w (body_of w d)) (env us xs))
    fill us xs q = unfold filled in rw (eq-eqb (length us) (length xs) q)

-- ── one component ──
unfoldable pub fired_of : List ℕ → Left → Fired
fired_of w f = record { label = label_of w f.tag; after = map (means w) f.after }

left-means : (w : List ℕ) → script_ok w ≡ true → (l k i : ℕ) (vs : List ℕ) → l < locs_in w
    → means w (left_at l k i vs) ≡ comp (loc_name w k) (by (loc_name w l)) (sub_p (process_at w i) (env_at w i vs))
unfolding left_at
left-means w good l k i vs h = marked-is w (left_at l k i vs) (lt-ltb l 64 (omega (arith, (script-fine w good).locs)))

module _ (w : List ℕ) (good : script_ok w ≡ true) where
  abbrev as_fired : Answer Became → Name → Answer Fired
  as_fired x l = x >>= λ b. accepted (record { label = b.label; after = comp b.place (by l) b.process ∷ [] })

  -- the part of a head at the place of c, with its values and its timer
  abbrev seen : Comp → Head → Part
  seen c h = with_timer (ticks_of c.timer) (sub (part_of w (process_at w) c.place h) (env_at w c.place c.vals))

  vals-enough : (c : Comp) → CompFine w c → length (names_at w c.place) ≤ length c.vals
  vals-enough c f = omega (arith, f.slots, names-length w c.place, scope-length w c.place)

  becomes-means : (k : Kind) (c : Comp) (h : Head) → head_ok w c.place h ≡ true → CompFine w c
      → map_a (fired_of w) (becomes_at w k c h) ≡ as_fired (becomes (context_of w) k (loc_name w c.loc) (seen c h)) (loc_name w c.loc)
  unfolding context_of becomes_at becomes with_timer sub part_of fired_of label_of env_at head_ok
  becomes-means calls c Stop o f = refl
  becomes-means calls c (Go t v p) o f = refl
  becomes-means calls c (Out h t v p q) o f = refl
  becomes-means calls c (In h t k p q) o f = refl
  becomes-means calls c (Call d m) o f =
      let r = and-inv (ltb d (defs_in w)) _ o in
      let s = and-inv (eqb m (arity_of w d)) _ r.1 in
      rw (
        refs-mean w (names_at w c.place) c.vals (args_at w c.place m) s.1 (vals-enough c f),
        body-means w good d m c.place c.vals (ltb-true d (defs_in w) r.0) (eqb-true m (arity_of w d) s.0),
        left-means w good c.loc c.loc (body_of w d) (loaded w c.place c.vals m) f.loc,
      )
  becomes-means moves c Stop o f = refl
  becomes-means moves c (Go t v p) o f =
      let g = go-fine w c.place t v p o in
      rw (
        ref-means w (names_at w c.place) c.vals v g.value (vals-enough c f),
        left-means w good c.loc (value_in c.vals v) p c.vals f.loc,
        same-scope w c.place p c.vals g.first.scope,
      )
  becomes-means moves c (Out h t v p q) o f = refl
  becomes-means moves c (In h t k p q) o f = refl
  becomes-means moves c (Call d m) o f = refl

  -- ── two components ──
  abbrev as_met : Answer Met → Name → Name → Answer Fired
  as_met x l k = x >>= λ m. cond (same_name l k)
      (accepted (record { label = sent m.channel m.value l; after = comp l (by l) m.sender ∷ comp l (by l) m.receiver ∷ [] }))
      (refused 11)

  entered-names : (i k : ℕ) → index (names_at w i) (bound_at w i) ≡ k → map (name_at w) (entered w i k) ≡ enter (names_at w i) (bound_at w i)
  unfolding entered names_at bound_at
  entered-names i k e =
      map-cond (ltb k (length (scope_at w i)))
      ∙ rw (← e, ← length-map (scope_at w i) (name_at w)) (enter-is (map (name_at w) (scope_at w i)) (name_at w (own_at i)))
    where
      map-cond : (b : Bool) → map (name_at w) (cond b (scope_at w i) (scope_at w i ++ (own_at i ∷ []))) ≡ cond b (map (name_at w) (scope_at w i)) (map (name_at w) (scope_at w i) ++ (name_at w (own_at i) ∷ []))
      map-cond true = refl
      map-cond false = map-append (name_at w) (scope_at w i) (own_at i ∷ [])

  map-set : {A B : Type 0} (f : A → B) (xs : List A) (k : ℕ) (y : A) → map f (set xs k y) ≡ set (map f xs) k (f y)
  map-set f [] k y = refl
  map-set f (x ∷ xs) zero y = refl
  map-set f (x ∷ xs) (suc k) y = rw (map-set f xs k y)

  -- what the input of e, at its place, becomes when it receives v
  receives : (e : Comp) (h t k p q v : ℕ) → head_ok w e.place (In h t k p q) ≡ true → CompFine w e
      → sub_p (sub_p (process_at w p) (hide (bound_at w e.place) (env_at w e.place e.vals))) (just (bound_at w e.place) (loc_name w v))
      ≡ sub_p (process_at w p) (env_at w p (set e.vals k v))
  unfolding env_at names_at
  receives e h t k p q v o f =
      let r = in-fine w e.place h t k p q o in
      let s = eqb-true (index (names_at w e.place) (bound_at w e.place)) k r.slot in
      let names : names_at w p ≡ enter (names_at w e.place) (bound_at w e.place) = ap (map (name_at w)) r.first.scope ∙ entered-names e.place k s in
      let few : length (enter (names_at w e.place) (bound_at w e.place)) ≤ 8 = rw (← names) (omega (arith, names-length w p, scope-length w p)) in
      received (process_at w p) (names_at w e.place) (map (loc_name w) e.vals) (bound_at w e.place) (loc_name w v)
      (omega (arith, index-enter (names_at w e.place) (bound_at w e.place), f.slots, length-map e.vals (loc_name w)))
      ∙ ap (λ z. sub_p (process_at w p) (env (enter (names_at w e.place) (bound_at w e.place)) (set (map (loc_name w) e.vals) z (loc_name w v)))) s
      ∙ ap (λ z. sub_p (process_at w p) (env (enter (names_at w e.place) (bound_at w e.place)) z)) (sym (map-set (loc_name w) e.vals k v))
      ∙ ap (λ z. sub_p (process_at w p) (env z (map (loc_name w) (set e.vals k v)))) (sym names)

  meet-means : (c e : Comp) (g h : Head) → head_ok w c.place g ≡ true → head_ok w e.place h ≡ true → CompFine w c → CompFine w e
      → map_a (fired_of w) (meet_at c e g h) ≡ as_met (meet (seen c g) (seen e h)) (loc_name w c.loc) (loc_name w e.loc)
  unfolding meet_at meet with_timer sub part_of
  meet-means c e Stop h o o' f f' = refl
  meet-means c e (Go t v p) h o o' f f' = refl
  meet-means c e (In d t k p q) h o o' f f' = refl
  meet-means c e (Call d n) h o o' f f' = refl
  meet-means c e (Out d t v p q) Stop o o' f f' = refl
  meet-means c e (Out d t v p q) (Go t' v' p') o o' f f' = refl
  meet-means c e (Out d t v p q) (Out d' t' v' p' q') o o' f f' = refl
  meet-means c e (Out d t v p q) (Call d' n) o o' f f' = refl
  meet-means c e (Out d t v p q) (In d' t' k p' q') o o' f f' =
      let r = out-fine w c.place d t v p q o in
      let s = in-fine w e.place d' t' k p' q' o' in
      let x = ltb-true d (chans_in w) r.channel in
      let y = ltb-true d' (chans_in w) s.channel in
      unfold env_at in rw (
        ref-means w (names_at w c.place) c.vals v r.value (vals-enough c f),
        held-once is_small (chan_name w) (chans_in w) (script-fine w good).chan-names d d' x y,
      )
      (both-tests (value_in c.vals v) (eqb d d') (eqb c.loc e.loc) (loc-eqb w good c.loc e.loc f.loc f'.loc))
    where
      both-tests : (x : ℕ) (a b : Bool) → same_name (loc_name w c.loc) (loc_name w e.loc) ≡ b
          → map_a (fired_of w) (cond (a && b) (accepted (handed c e d x p k p')) (refused 11))
          ≡ as_met (cond a (accepted (record { channel = chan_name w d; value = loc_name w x; sender = sub_p (process_at w p) (env_at w c.place c.vals); receiver = sub_p (sub_p (process_at w p') (hide (bound_at w e.place) (env_at w e.place e.vals))) (just (bound_at w e.place) (loc_name w x)) })) (refused 11)) (loc_name w c.loc) (loc_name w e.loc)
      both-tests x false b z = refl
      both-tests x true false z = rw z
      both-tests x true true z =
          unfold handed fired_of label_of in rw (
            z,
            left-means w good c.loc c.loc p c.vals f.loc,
            left-means w good c.loc c.loc p' (set e.vals k x) f.loc,
            same-scope w c.place p c.vals (out-fine w c.place d t v p q o).first.scope,
            receives e d' t' k p' q' x o' f',
          )

  -- ── an action with its components ──
  pub fits-alone-means : (k : Kind) (c : Comp) → CompFine w c → map_a (fired_of w) (fits_alone w k c) ≡ fits (context_of w) (alone k (means w c))
  unfolding fits_alone
  fits-alone-means k c f = go (ltb c.mark 64) refl
    where
      go : (b : Bool) → ltb c.mark 64 ≡ b → map_a (fired_of w) (cond b (refused 9) (becomes_at w k c (head_at w c.place))) ≡ fits (context_of w) (alone k (means w c))
      go true e = unfold fits in rw (marked-is w c e)
      go false e = unfold fits part_at in rw (unmarked-is w c e) (becomes-means k c (head_at w c.place) (part-fine w good c.place f.place).head f)

  pub fits-together-means : (c e : Comp) → CompFine w c → CompFine w e → map_a (fired_of w) (fits_together w c e) ≡ fits (context_of w) (together (means w c) (means w e))
  unfolding fits_together
  fits-together-means c e f g = go (ltb c.mark 64) refl (ltb e.mark 64) refl
    where
      go : (a : Bool) → ltb c.mark 64 ≡ a → (b : Bool) → ltb e.mark 64 ≡ b
          → map_a (fired_of w) (cond (a || b) (refused 9) (meet_at c e (head_at w c.place) (head_at w e.place))) ≡ fits (context_of w) (together (means w c) (means w e))
      go true p b q = unfold fits in rw (marked-is w c p)
      go false p true q = unfold fits in rw (unmarked-is w c p, marked-is w e q)
      go false p false q =
          unfold fits part_at in rw (unmarked-is w c p, unmarked-is w e q)
          (meet-means c e (head_at w c.place) (head_at w e.place) (part-fine w good c.place f.place).head (part-fine w good e.place g.place).head f g)

-- ── at positions ──
pub at_map : {A B : Type 0} (f : A → B) (xs : List A) (p : ℕ) → at (map f xs) p ≡ map_a f (at xs p)
unfolding at
at_map f [] p = refl
at_map f (x ∷ xs) zero = refl
at_map f (x ∷ xs) (suc p) = at_map f xs p

put_map : {A B : Type 0} (f : A → B) (xs : List A) (p : ℕ) (y : A) → map f (R.set xs p y) ≡ R.set (map f xs) p (f y)
unfolding R.set
put_map f [] p y = refl
put_map f (x ∷ xs) zero y = refl
put_map f (x ∷ xs) (suc p) y = rw (put_map f xs p y)

pub set_all-map : {A B : Type 0} (f : A → B) (ps : List ℕ) (ys xs : List A) → map f (set_all ps ys xs) ≡ set_all ps (map f ys) (map f xs)
unfolding set_all
set_all-map f [] ys xs = refl
set_all-map f (p ∷ ps) [] xs = refl
set_all-map f (p ∷ ps) (y ∷ ys) xs = set_all-map f ps ys (R.set xs p y) ∙ ap (set_all ps (map f ys)) (put_map f xs p y)

unfoldable pub acted_of : List ℕ → ActedAt → Acted
acted_of w r = record { label = label_of w r.tag; comps = map (means w) r.comps }
