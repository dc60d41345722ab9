-- What an action and a tick make of the waits on the table is what the definition of waits says of what the components stand for.
-- Idea: an action leaves components whose wait is 0, a split gives components whose wait is 0, and a lowered timer is a longer wait.
use Prim.Native.Nat.{ℕ, zero, suc, ◌<◌, ◌≤◌}
use native.Mathlib.Omega.{arith}
use mathlib.Core.List.{List, [], ◌∷◌, ◌++◌, map, flat_map}
use mathlib.Core.Bool.{Bool, true, false, cond, ◌&&◌, ◌||◌}
use mathlib.Core.Path.{◌≡◌, refl, ap, ap₂, sym, ◌∙◌}
use lib.Dec.{eqb, ltb}
use lib.ListN.{length, get_or}
use lib.ListN as L
use Rattle.terms.specs.Names.{Name}
use Rattle.terms.specs.Terms.{Process, expired}
use Rattle.terms.specs.Same.{every}
use Rattle.terms.specs.Substitution.{sub_p, sub}
use Rattle.terms.specs.Clock.{ticks_of, less_raw, edition_of}
use Rattle.terms.specs.Rules.{Answer, Kind, Action, ◌>>=◌, at, set, set_all, split, positions}
use Rattle.terms.specs.Rules.Answer.{refused, accepted}
use Rattle.terms.specs.Rules.Kind.{calls, moves}
use Rattle.terms.specs.Rules.Action.{single, pair}
use Rattle.waits.specs.Waits.{Tally, longer, restarted, aged, waits_all, act_tally}
use Rattle.waits.specs.Waits as W
use Rattle.terms.proofs.Names.{and-inv}
use Rattle.terms.proofs.Answers.{clash, took, bind_inv, cond-inv}
use Rattle.table.specs.declared.Head.{Head}
use Rattle.table.specs.declared.Head.TheVariants.{Stop, Go, Out, In, Call}
use Rattle.table.specs.declared.Comp.{Comp}
use Rattle.table.specs.declared.State.{State}
use Rattle.table.specs.Words.{parts_in, locs_in, edition_in, loc_name, head_at, next_at, scope_at, body_of}
use Rattle.table.specs.Meaning.{part_of, process_at, part_at, with_timer, env_at, means, comp_in, comps_of, context_of, no_comp, waits_of}
use Rattle.table.specs.Valid.{head_ok, script_ok, comp_ok}
use Rattle.table.specs.Split.{fresh, and_then, parts_from, split_at, timed, expired_at, or_else, waited, passed}
use Rattle.table.specs.Fire.{Left, ActedAt, value_in, left_at, loaded, becomes_at, handed, meet_at, fits_alone, fits_together, granted_at, rightly, alone_at, together_at, left_by, act_on, passed_all}
use Rattle.table.proofs.Tests.{Inner, part-fine, CompFine, comp-fine}
use Rattle.table.proofs.Places.{out-fine, in-fine}
use Rattle.table.proofs.Splits.{unmarked-is, marked-is, mark-loc, loc-eqb, split-means, q-means}
use Rattle.table.proofs.Fires.{map-append}
use Rattle.table.proofs.InUse.{comps-length, in_use}

abbrev wait_in : Comp → ℕ
wait_in c = c.wait

-- ── lists ──
map-set : {A B : Type 0} (f : A → B) (xs : List A) (p : ℕ) (y : A) → map f (set xs p y) ≡ set (map f xs) p (f y)
unfolding set
map-set f [] p y = refl
map-set f (x ∷ xs) zero y = refl
map-set f (x ∷ xs) (suc p) y = ap (λ z. f x ∷ z) (map-set f xs p y)

none_of : {A B : Type 0} (f : A → B) (xs : List A) → map {B = ℕ} (λ x. 0) xs ≡ map {B = ℕ} (λ y. 0) (map f xs)
none_of f [] = refl
none_of f (x ∷ xs) = ap (λ z. 0 ∷ z) (none_of f xs)

-- each wait is in range
pub waits-small : (w : List ℕ) (cs : List Comp) → every (comp_ok w) cs ≡ true → (p : ℕ) → get_or (waits_of cs) p 0 ≤ 1_000_000
unfolding every
waits-small w [] e p = omega arith
waits-small w (c ∷ cs) e zero = (comp-fine w c (and-inv (comp_ok w c) _ e).0).wait
waits-small w (c ∷ cs) e (suc p) = waits-small w cs (and-inv (comp_ok w c) _ e).1 p

get_d_map : (cs : List Comp) (p : ℕ) (d : Comp) → p < length cs → get_or (waits_of cs) p 0 ≡ (get_or cs p d).wait
get_d_map [] p d h = absurd (omega arith)
get_d_map (c ∷ cs) zero d h = refl
get_d_map (c ∷ cs) (suc p) d h = get_d_map cs p d (omega arith)

-- the wait at a position in use
pub wait-at : (st : State) (p : ℕ) → p < st.n → get_or (waits_of (comps_of st)) p 0 ≡ (comp_in st.c p).wait
wait-at st p h = get_d_map (comps_of st) p no_comp (omega (arith, comps-length st)) ∙ ap (λ x. x.wait) (in_use st no_comp p h)

-- three equal parts are equal tallies
pub tally-is : (s t : Tally) → s.waits ≡ t.waits → s.total ≡ t.total → s.count ≡ t.count → s ≡ t
tally-is s t a b c =
    ap (λ z. record { waits = z; total = s.total; count = s.count }) a
    ∙ ap (λ z. record { waits = t.waits; total = z; count = s.count }) b
    ∙ ap (λ z. record { waits = t.waits; total = t.total; count = z }) c

-- ── what an action leaves has waited 0 ──
abbrev One : Left → Type 0
One f = (y : Comp) × (f.after ≡ y ∷ []) × (y.wait ≡ 0)

abbrev Two : Left → Type 0
Two f = (y z : Comp) × (f.after ≡ y ∷ z ∷ []) × (y.wait ≡ 0) × (z.wait ≡ 0)

module _ (w : List ℕ) where
  becomes-one : (k : Kind) (c : Comp) (h : Head) (f : Left) → becomes_at w k c h ≡ accepted f → One f
  unfolding becomes_at left_at
  becomes-one calls c Stop f e = clash e
  becomes-one calls c (Go t v p) f e = clash e
  becomes-one calls c (Out d t v p q) f e = clash e
  becomes-one calls c (In d t k p q) f e = clash e
  becomes-one calls c (Call d n) f e = (left_at c.loc c.loc (body_of w d) (loaded w c.place c.vals n), sym (ap (λ f. f.after) (took e)), refl)
  becomes-one moves c Stop f e = clash e
  becomes-one moves c (Go t v p) f e = (left_at c.loc (value_in c.vals v) p c.vals, sym (ap (λ f. f.after) (took e)), refl)
  becomes-one moves c (Out d t v p q) f e = clash e
  becomes-one moves c (In d t k p q) f e = clash e
  becomes-one moves c (Call d n) f e = clash e

  righted : (x : Answer Left) (f : Left) → (x >>= rightly w) ≡ accepted f → x ≡ accepted f
  unfolding rightly
  righted x f e = let u = bind_inv x (rightly w) f e in u.1 ∙ ap accepted (cond-inv (granted_at w u.0.tag) u.0 f 20 u.2).1

  alone-one : (k : Kind) (c : Comp) (f : Left) → alone_at w k c ≡ accepted f → One f
  unfolding alone_at fits_alone
  alone-one k c f e = go (ltb c.mark 64) (righted (fits_alone w k c) f e)
    where
      go : (b : Bool) → cond b (refused 9) (becomes_at w k c (head_at w c.place)) ≡ accepted f → One f
      go true e = clash e
      go false e = becomes-one k c (head_at w c.place) f e

  meet-two : (c e : Comp) (g h : Head) (f : Left) → meet_at c e g h ≡ accepted f → Two f
  unfolding meet_at
  meet-two c e Stop h f q = clash q
  meet-two c e (Go t v p) h f q = clash q
  meet-two c e (In d t k p r) h f q = clash q
  meet-two c e (Call d n) h f q = clash q
  meet-two c e (Out d t v p r) Stop f q = clash q
  meet-two c e (Out d t v p r) (Go t' v' p') f q = clash q
  meet-two c e (Out d t v p r) (Out d' t' v' p' r') f q = clash q
  meet-two c e (Out d t v p r) (Call d' n) f q = clash q
  meet-two c e (Out d t v p r) (In d' t' k p' r') f q = go (eqb d d' && eqb c.loc e.loc) q
    where
      go : (b : Bool) → cond b (accepted (handed c e d (value_in c.vals v) p k p')) (refused 11) ≡ accepted f → Two f
      go true q = unfold handed left_at in (left_at c.loc c.loc p c.vals, left_at c.loc c.loc p' (L.set e.vals k (value_in c.vals v)), sym (ap (λ f. f.after) (took q)), refl, refl)
      go false q = clash q

  together-two : (c e : Comp) (f : Left) → together_at w c e ≡ accepted f → Two f
  unfolding together_at fits_together
  together-two c e f q = go (ltb c.mark 64 || ltb e.mark 64) (righted (fits_together w c e) f q)
    where
      go : (b : Bool) → cond b (refused 9) (meet_at c e (head_at w c.place) (head_at w e.place)) ≡ accepted f → Two f
      go true q = clash q
      go false q = meet-two c e (head_at w c.place) (head_at w e.place) f q

  -- the waits after an action, where t has those before it
  pub act-waits : (a : Action) (cs : List Comp) (t : Tally) → t.waits ≡ waits_of cs → (r : ActedAt) → act_on w a cs ≡ accepted r → waits_of r.comps ≡ (act_tally a t).waits
  unfolding act_on left_by positions set_all act_tally
  act-waits (single k p) cs t s r e =
      let u = bind_inv (at cs p >>= λ c. alone_at w k c) _ r e in
      let v = bind_inv (at cs p) _ u.0 u.1 in
      let o = alone-one k v.0 u.0 v.2 in
      ap (λ r. map wait_in r.comps) (sym (took u.2))
      ∙ ap (λ ys. map wait_in (set_all (p ∷ []) ys cs)) o.1
      ∙ map-set wait_in cs p o.0
      ∙ ap₂ (λ ws x. set ws p x) (sym s) o.2
  act-waits (pair p q) cs t s r e =
      let u = bind_inv (at cs p >>= λ c. at cs q >>= λ e. together_at w c e) _ r e in
      let v = bind_inv (at cs p) _ u.0 u.1 in
      let x = bind_inv (at cs q) _ u.0 v.2 in
      let o = together-two v.0 x.0 u.0 x.2 in
      ap (λ r. map wait_in r.comps) (sym (took u.2))
      ∙ ap (λ ys. map wait_in (set_all (p ∷ q ∷ []) ys cs)) o.2
      ∙ map-set wait_in (set cs p o.0) q o.1
      ∙ ap₂ (λ ws x. set ws q x) (map-set wait_in cs p o.0 ∙ ap₂ (λ ws x. set ws p x) (sym s) o.3) o.4

  -- ── what is split off has waited 0 ──
  then-zero : (f : ℕ → List Comp) → ((j : ℕ) → map wait_in (f j) ≡ map (λ x. 0) (f j)) → (m : ℕ) → map wait_in (and_then f m) ≡ map (λ x. 0) (and_then f m)
  unfolding and_then
  then-zero f h zero = refl
  then-zero f h (suc j) = h j

  parts-zero : (l : ℕ) (vs : List ℕ) (n i : ℕ) → map wait_in (parts_from w l vs n i) ≡ map (λ x. 0) (parts_from w l vs n i)
  unfolding parts_from fresh
  parts-zero l vs zero i = refl
  parts-zero l vs (suc n) i = ap (λ z. 0 ∷ z) (then-zero (parts_from w l vs n) (λ j. parts-zero l vs n j) (next_at w i))

  restart : (l : ℕ) (vs : List ℕ) (i : ℕ) (h : Name) (p : Process) → map (means w) (split_at w l vs i) ≡ split h p → map wait_in (split_at w l vs i) ≡ restarted h p
  unfolding split_at restarted
  restart l vs i h p e = parts-zero l vs (suc i) i ∙ none_of (means w) (split_at w l vs i) ∙ ap (map {B = ℕ} (λ y. 0)) e

module _ (w : List ℕ) (good : script_ok w ≡ true) where
  else-waits : (c : Comp) (q : ℕ) → c.place < parts_in w → Inner w c.place q (scope_at w c.place)
      → map wait_in (or_else w c q) ≡ cond (expired (edition_of (edition_in w)) (ticks_of c.timer)) (restarted (loc_name w c.loc) (sub_p (process_at w q) (env_at w c.place c.vals))) (longer c.wait ∷ [])
  unfolding or_else expired_at
  else-waits c q b r = go (expired_at w c)
    where
      go : (z : Bool) → map wait_in (cond z (split_at w c.loc c.vals q) (timed c (less_raw c.timer) ∷ [])) ≡ cond z (restarted (loc_name w c.loc) (sub_p (process_at w q) (env_at w c.place c.vals))) (longer c.wait ∷ [])
      go true = restart w c.loc c.vals q _ _ (q-means w good c.loc c.place q c.vals b r)
      go false = unfold timed in refl

  aged-waits : (c : Comp) (h : Head) → head_ok w c.place h ≡ true → c.place < parts_in w
      → map wait_in (waited w c h) ≡ aged (edition_of (edition_in w)) (loc_name w c.loc) (with_timer (ticks_of c.timer) (sub (part_of w (process_at w) c.place h) (env_at w c.place c.vals))) c.wait
  unfolding waited aged with_timer sub part_of
  aged-waits c Stop o b = refl
  aged-waits c (Go t v p) o b = unfold timed in refl
  aged-waits c (Out d t v p q) o b = else-waits c q b (out-fine w c.place d t v p q o).second
  aged-waits c (In d t k p q) o b = else-waits c q b (in-fine w c.place d t k p q o).second
  aged-waits c (Call d n) o b = refl

  -- of one component in the tick at l
  pub passed-waits : (l : ℕ) (c : Comp) → l < locs_in w → CompFine w c → waits_of (passed w l c) ≡ W.waits_of (context_of w) (loc_name w l) (means w c) c.wait
  unfolding passed
  passed-waits l c h f = go (ltb c.mark 64) refl
    where
      mine : (b : Bool) → map wait_in (cond b (split_at w c.loc c.vals c.place) (c ∷ [])) ≡ cond b (restarted (loc_name w c.loc) (sub_p (process_at w c.place) (env_at w c.place c.vals))) (c.wait ∷ [])
      mine true = restart w c.loc c.vals c.place _ _ (split-means w good c.loc c.vals c.place f.place)
      mine false = refl

      here : (b : Bool) → map wait_in (cond b (waited w c (head_at w c.place)) (c ∷ []))
          ≡ cond b (aged (edition_of (edition_in w)) (loc_name w c.loc) (with_timer (ticks_of c.timer) (sub (part_at w c.place) (env_at w c.place c.vals))) c.wait) (c.wait ∷ [])
      here true = unfold part_at in aged-waits c (head_at w c.place) (part-fine w good c.place f.place).head f.place
      here false = refl

      go : (b : Bool) → ltb c.mark 64 ≡ b
          → map wait_in (cond b (cond (eqb c.mark l) (split_at w c.loc c.vals c.place) (c ∷ [])) (cond (eqb c.loc l) (waited w c (head_at w c.place)) (c ∷ [])))
          ≡ W.waits_of (context_of w) (loc_name w l) (means w c) c.wait
      go true e = unfold W.waits_of context_of in rw (marked-is w c e, loc-eqb w good c.mark l (mark-loc w c.mark f.mark e) h) (mine (eqb c.mark l))
      go false e = unfold W.waits_of context_of in rw (unmarked-is w c e, loc-eqb w good c.loc l f.loc h) (here (eqb c.loc l))

  -- of all of them
  pub tick-waits : (l : ℕ) (cs : List Comp) → l < locs_in w → every (comp_ok w) cs ≡ true → waits_of (passed_all w l cs) ≡ waits_all (context_of w) (loc_name w l) (map (means w) cs) (waits_of cs)
  unfolding passed_all flat_map waits_all every
  tick-waits l [] h e = refl
  tick-waits l (c ∷ cs) h e =
      let a = and-inv (comp_ok w c) _ e in
      map-append wait_in (passed w l c) (flat_map (passed w l) cs) ∙ ap₂ ◌++◌ (passed-waits l c h (comp-fine w c a.0)) (tick-waits l cs h a.1)
