-- What a tick makes of a component on the table stands for what the rules make of what the component stands for.
-- Idea: a component's own timer takes the place of the written one; a process splits along its chain of next parts, left to right.
use Prim.Native.Nat.{ℕ, zero, suc, ◌<◌}
use native.Mathlib.Omega.{arith}
use mathlib.Core.List.{List, [], ◌∷◌, map}
use mathlib.Core.Bool.{Bool, true, false, cond, ◌||◌}
use mathlib.Core.Path.{◌≡◌, refl, ap, ◌∙◌}
use lib.Dec.{eqb, ltb}
use borrow.Author.Tests.{ltb-true, eqb-true}
use Rattle.terms.specs.Names.{same_name}
use Rattle.terms.specs.Terms.{Timer, Part, Process, less, expired}
use Rattle.terms.specs.Terms.Process.{one}
use Rattle.terms.specs.Terms.Mark.{none, by}
use Rattle.terms.specs.Terms.Component.{comp}
use Rattle.terms.specs.Substitution.{Env, sub, sub_p}
use Rattle.terms.specs.Rules.{wait, split, pass}
use Rattle.terms.specs.Clock.{ticks_of, less_raw, edition_of}
use Rattle.terms.proofs.Clock.{less-raw}
use Rattle.terms.specs.Letters.{is_location}
use Rattle.table.specs.declared.Head.{Head}
use Rattle.table.specs.declared.Head.TheVariants.{Stop, Go, Out, In, Call}
use Rattle.table.specs.declared.Comp.{Comp}
use Rattle.table.specs.Words.{parts_in, locs_in, edition_in, loc_name, head_at, next_at, scope_at, names_at}
use Rattle.table.specs.Meaning.{part_of, joined, process_at, part_at, context_of, with_timer, env_at, mark_of, process_of, means}
use Rattle.table.specs.Valid.{head_ok, next_ok, script_ok, mark_ok}
use Rattle.table.specs.Split.{timer_in, fresh, and_then, parts_from, split_at, timed, or_else, waited, passed, expired_at}
use Rattle.table.proofs.Tests.{Inner, inner, part-fine, script-fine, CompFine, held-once}
use Rattle.table.proofs.Places.{out-fine, in-fine, process-is}

-- ── timers ──
-- a part's own timer put for its timer changes nothing
own-timer : (w : List ℕ) (f : ℕ → Process) (i : ℕ) (h : Head) (e : Env) → with_timer (ticks_of (timer_in h)) (sub (part_of w f i h) e) ≡ sub (part_of w f i h) e
unfolding with_timer timer_in sub part_of
own-timer w f i Stop e = refl
own-timer w f i (Go t v p) e = refl
own-timer w f i (Out c t v p q) e = refl
own-timer w f i (In c t k p q) e = refl
own-timer w f i (Call d n) e = refl

-- ── the mark ──
pub unmarked-is : (w : List ℕ) (c : Comp) → ltb c.mark 64 ≡ false
    → means w c ≡ comp (loc_name w c.loc) none (one (with_timer (ticks_of c.timer) (sub (part_at w c.place) (env_at w c.place c.vals))))
unfolding means mark_of process_of
unmarked-is w c e = rw e

pub marked-is : (w : List ℕ) (c : Comp) → ltb c.mark 64 ≡ true
    → means w c ≡ comp (loc_name w c.loc) (by (loc_name w c.mark)) (sub_p (process_at w c.place) (env_at w c.place c.vals))
unfolding means mark_of process_of
marked-is w c e = rw e

-- a mark in range that is one names a location
pub mark-loc : (w : List ℕ) (m : ℕ) → mark_ok w m ≡ true → ltb m 64 ≡ true → m < locs_in w
unfolding mark_ok
mark-loc w m e h = go (eqb m 64) refl e
  where
    go : (b : Bool) → eqb m 64 ≡ b → (b || ltb m (locs_in w)) ≡ true → m < locs_in w
    go true q e = absurd (omega (arith, eqb-true m 64 q, ltb-true m 64 h))
    go false q e = ltb-true m (locs_in w) e

-- the process at p under values, where the scope of p is that of i
pub same-scope : (w : List ℕ) (i p : ℕ) (vs : List ℕ) → scope_at w p ≡ scope_at w i → env_at w p vs ≡ env_at w i vs
unfolding env_at names_at
same-scope w i p vs e = rw e

module _ (w : List ℕ) (good : script_ok w ≡ true) where
  pub loc-eqb : (i j : ℕ) → i < locs_in w → j < locs_in w → same_name (loc_name w i) (loc_name w j) ≡ eqb i j
  loc-eqb = held-once is_location (loc_name w) (locs_in w) (script-fine w good).loc-names

  -- ── splitting ──
  fresh-means : (l i : ℕ) (vs : List ℕ) → means w (fresh w l vs i) ≡ comp (loc_name w l) none (one (sub (part_at w i) (env_at w i vs)))
  unfolding fresh part_at
  fresh-means l i vs =
      unmarked-is w (fresh w l vs i) refl
      ∙ ap (λ a. comp (loc_name w l) none (one a)) (own-timer w (process_at w) i (head_at w i) (env_at w i vs))

  rest-means : (l i : ℕ) (vs : List ℕ) (f : ℕ → List Comp) (n : ℕ) → next_ok w i n ≡ true
      → ((j : ℕ) → j < i → map (means w) (f j) ≡ split (loc_name w l) (sub_p (process_at w j) (env_at w j vs)))
      → map (means w) (fresh w l vs i ∷ and_then f n) ≡ split (loc_name w l) (sub_p (joined (process_at w) (part_at w i) n) (env_at w i vs))
  unfolding and_then joined split sub_p next_ok
  rest-means l i vs f zero e h = rw (fresh-means l i vs)
  rest-means l i vs f (suc j) e h =
      let r = inner w i j (scope_at w i) e in
      rw (fresh-means l i vs, h j r.lesser, same-scope w i j vs r.scope)

  parts-mean : (l : ℕ) (vs : List ℕ) (n i : ℕ) → i < n → i < parts_in w → map (means w) (parts_from w l vs n i) ≡ split (loc_name w l) (sub_p (process_at w i) (env_at w i vs))
  unfolding parts_from
  parts-mean l vs zero i h b = absurd (omega arith)
  parts-mean l vs (suc n) i h b =
      rw (process-is w good i b)
      (rest-means l i vs (parts_from w l vs n) (next_at w i) (part-fine w good i b).next (λ j k. parts-mean l vs n j (omega arith) (omega arith)))

  -- a split from left to right
  pub split-means : (l : ℕ) (vs : List ℕ) (i : ℕ) → i < parts_in w → map (means w) (split_at w l vs i) ≡ split (loc_name w l) (sub_p (process_at w i) (env_at w i vs))
  unfolding split_at
  split-means l vs i b = parts-mean l vs (suc i) i (omega arith) b

  -- ── waiting ──
  -- the Q at q of the part at i
  pub q-means : (l i q : ℕ) (vs : List ℕ) → i < parts_in w → Inner w i q (scope_at w i) → map (means w) (split_at w l vs q) ≡ split (loc_name w l) (sub_p (process_at w q) (env_at w i vs))
  q-means l i q vs b r = split-means l vs q (omega (arith, r.lesser)) ∙ ap (λ e. split (loc_name w l) (sub_p (process_at w q) e)) (same-scope w i q vs r.scope)

  -- what an unmarked component with another timer stands for
  pub timed-means : (c : Comp) (t : ℕ) → ltb c.mark 64 ≡ false
      → means w (timed c t) ≡ comp (loc_name w c.loc) none (one (with_timer (ticks_of t) (sub (part_at w c.place) (env_at w c.place c.vals))))
  unfolding timed
  timed-means c t e = unmarked-is w (timed c t) e

  else-means : (c : Comp) (q : ℕ) (a : Timer → Part) → c.place < parts_in w → ltb c.mark 64 ≡ false → Inner w c.place q (scope_at w c.place)
      → ((u : Timer) → with_timer u (sub (part_at w c.place) (env_at w c.place c.vals)) ≡ a u)
      → map (means w) (or_else w c q)
      ≡ split (loc_name w c.loc) (cond (expired (edition_of (edition_in w)) (ticks_of c.timer)) (sub_p (process_at w q) (env_at w c.place c.vals)) (one (a (less (ticks_of c.timer)))))
  unfolding or_else expired_at
  else-means c q a b u r h = go (expired_at w c)
    where
      go : (z : Bool) → map (means w) (cond z (split_at w c.loc c.vals q) (timed c (less_raw c.timer) ∷ []))
          ≡ split (loc_name w c.loc) (cond z (sub_p (process_at w q) (env_at w c.place c.vals)) (one (a (less (ticks_of c.timer)))))
      go true = q-means c.loc c.place q c.vals b r
      go false = unfold split in rw (timed-means c (less_raw c.timer) u, less-raw c.timer, h (less (ticks_of c.timer)))

  wait-means : (c : Comp) (h : Head) → head_at w c.place ≡ h → head_ok w c.place h ≡ true → c.place < parts_in w → ltb c.mark 64 ≡ false
      → map (means w) (waited w c h)
      ≡ split (loc_name w c.loc) (wait (edition_of (edition_in w)) (with_timer (ticks_of c.timer) (sub (part_of w (process_at w) c.place h) (env_at w c.place c.vals))))
  unfolding waited wait with_timer sub part_of split part_at
  wait-means c Stop e o b u = rw (unmarked-is w c u, e)
  wait-means c (Go t v p) e o b u = rw (timed-means c (less_raw c.timer) u, less-raw c.timer, e)
  wait-means c (Out d t v p q) e o b u = else-means c q (λ z. with_timer z (sub (part_at w c.place) (env_at w c.place c.vals))) b u (out-fine w c.place d t v p q o).second (λ z. refl) ∙ rw e
  wait-means c (In d t k p q) e o b u = else-means c q (λ z. with_timer z (sub (part_at w c.place) (env_at w c.place c.vals))) b u (in-fine w c.place d t k p q o).second (λ z. refl) ∙ rw e
  wait-means c (Call d n) e o b u = rw (unmarked-is w c u, e)

  -- ── the tick, of one component ──
  pub passed-means : (l : ℕ) (c : Comp) → l < locs_in w → CompFine w c → map (means w) (passed w l c) ≡ pass (context_of w) (λ m. same_name m (loc_name w l)) (loc_name w l) (means w c)
  unfolding passed
  passed-means l c h f = go (ltb c.mark 64) refl
    where
      mine : ltb c.mark 64 ≡ true → (b : Bool)
          → map (means w) (cond b (split_at w c.loc c.vals c.place) (c ∷ []))
          ≡ cond b (split (loc_name w c.loc) (sub_p (process_at w c.place) (env_at w c.place c.vals))) (comp (loc_name w c.loc) (by (loc_name w c.mark)) (sub_p (process_at w c.place) (env_at w c.place c.vals)) ∷ [])
      mine e true = split-means c.loc c.vals c.place f.place
      mine e false = rw (marked-is w c e)

      here : ltb c.mark 64 ≡ false → (b : Bool)
          → map (means w) (cond b (waited w c (head_at w c.place)) (c ∷ []))
          ≡ cond b (split (loc_name w c.loc) (wait (edition_of (edition_in w)) (with_timer (ticks_of c.timer) (sub (part_at w c.place) (env_at w c.place c.vals))))) (comp (loc_name w c.loc) none (one (with_timer (ticks_of c.timer) (sub (part_at w c.place) (env_at w c.place c.vals)))) ∷ [])
      here e true = unfold part_at in wait-means c (head_at w c.place) refl (part-fine w good c.place f.place).head f.place e
      here e false = rw (unmarked-is w c e)

      go : (b : Bool) → ltb c.mark 64 ≡ b
          → map (means w) (cond b (cond (eqb c.mark l) (split_at w c.loc c.vals c.place) (c ∷ [])) (cond (eqb c.loc l) (waited w c (head_at w c.place)) (c ∷ [])))
          ≡ pass (context_of w) (λ m. same_name m (loc_name w l)) (loc_name w l) (means w c)
      go true e = unfold pass context_of in rw (marked-is w c e, loc-eqb c.mark l (mark-loc w c.mark f.mark e) h) (mine e (eqb c.mark l))
      go false e = unfold pass context_of in rw (unmarked-is w c e, loc-eqb c.loc l f.loc h) (here e (eqb c.loc l))
