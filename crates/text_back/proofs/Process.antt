-- The process at a place of a valid script, with values put in: it can be written, it calls what is defined, and it has no unbound variable.
-- By induction on the place, for every way to fill the names in scope there: every link goes to a lesser place.
use Prim.Native.Nat.{ℕ, zero, suc, ◌<◌}
use native.Mathlib.Omega.{arith}
use mathlib.Core.List.{List, [], ◌∷◌, ◌++◌, map}
use mathlib.Core.Bool.{Bool, true, false, cond, ◌||◌}
use mathlib.Core.Path.{◌≡◌, refl, ap, ◌∙◌}
use lib.Dec.{leb, ltb}
use lib.ListN.{length, get_or, replicate, length-map, length-take}
use borrow.Author.Tests.{ltb-true, leb-true, eq-eqb}
use Rattle.terms.specs.Names.{Name}
use Rattle.terms.specs.Same.{every}
use Rattle.terms.specs.Rules.{some}
use Rattle.terms.specs.Terms.{Timer, Value, Part, Process, Def}
use Rattle.terms.specs.Terms.Timer.{ticks, inf}
use Rattle.terms.specs.Terms.Part.{stop, go, out, inp, call}
use Rattle.terms.specs.Terms.Process.{one, ◌∥◌}
use Rattle.terms.specs.Clock.{ticks_of}
use Rattle.terms.specs.Substitution.{Env, hide, sub, sub_p, sub_vs}
use Rattle.terms.proofs.Names.{name-refl}
use Rattle.terms.specs.Letters.{is_small, is_identifier}
use Rattle.text.specs.WellFormed.{Is, WellTimer, WellPart, WellProcess}
use Rattle.text.specs.Questions.{into, part_places, process_places, is_for, call_met, bound_at as bound_at_place}
use Rattle.table.specs.declared.Head.{Head}
use Rattle.table.specs.declared.Head.TheVariants.{Stop, Go, Out, In, Call}
use Rattle.table.specs.Words.{parts_in, chans_in, defs_in, name_at, chan_name, arity_of, def_name, params_at, params_of, head_at, next_at, bound_at, scope_at, names_at, args_at}
use Rattle.table.specs.Meaning.{values_of, part_of, joined, process_at, part_at, list_from, def_of, defs_of, with_timer}
use Rattle.table.specs.Valid.{head_ok, next_ok, script_ok}
use Rattle.table.proofs.Tests.{Inner, inner, part-fine, script-fine, every-name, every_append, get_or-list_from, length-list_from}
use Rattle.table.proofs.Places.{go-fine, out-fine, in-fine, process-is}
use Rattle.text_process.proofs.Heads.{call-fine}
use Rattle.text_back.proofs.Scope.{Covers, covers-entered, value-fit, values-fit}

-- ── what holds of a part and of a process, at nesting d, where the names sc are bound and the definitions are ds ──
pub record FinePart (ds : List Def) (d : ℕ) (sc : List Name) (a : Part) : Type 0 where
  pub well : WellPart a
  pub met : every (call_met ds) (part_places a d sc) ≡ true
  pub closed : every bound_at_place (part_places a d sc) ≡ true

pub record FineProcess (ds : List Def) (d : ℕ) (sc : List Name) (p : Process) : Type 0 where
  pub well : WellProcess p
  pub met : every (call_met ds) (process_places p d sc) ≡ true
  pub closed : every bound_at_place (process_places p d sc) ≡ true

pub fine-one : (ds : List Def) (d : ℕ) (sc : List Name) (a : Part) → FinePart ds d sc a → FineProcess ds d sc (one a)
fine-one ds d sc a f = record { well = f.well; met = unfold process_places in f.met; closed = unfold process_places in f.closed }

fine-both : (ds : List Def) (d : ℕ) (sc : List Name) (a : Part) (p : Process) → FinePart ds d sc a → FineProcess ds d sc p → FineProcess ds d sc (a ∥ p)
fine-both ds d sc a p f g = record {
  well = (f.well, g.well);
  met = unfold process_places in every_append _ _ _ f.met g.met;
  closed = unfold process_places in every_append _ _ _ f.closed g.closed;
}

-- the places of two processes in a row
met-both : {ds : List Def} {d : ℕ} {sc vc : List Name} {p q : Process} → FineProcess ds d sc p → FineProcess ds d vc q
    → every (call_met ds) (process_places p d sc ++ process_places q d vc) ≡ true
met-both {ds} {d} {sc} {vc} {p} {q} f g = every_append (call_met ds) (process_places p d sc) (process_places q d vc) f.met g.met

closed-both : {ds : List Def} {d : ℕ} {sc vc : List Name} {p q : Process} → FineProcess ds d sc p → FineProcess ds d vc q
    → every bound_at_place (process_places p d sc ++ process_places q d vc) ≡ true
closed-both {ds} {d} {sc} {vc} {p} {q} f g = every_append bound_at_place (process_places p d sc) (process_places q d vc) f.closed g.closed

-- ── timers ──
pub timer-well : (t : ℕ) → WellTimer (ticks_of t)
unfolding ticks_of
timer-well t = go (leb t 1_000_000) refl
  where
    go : (b : Bool) → leb t 1_000_000 ≡ b → WellTimer (cond b (ticks t) inf)
    go true e = leb-true t 1_000_000 e
    go false e = tt

-- a part with another timer
pub fine-timer : (ds : List Def) (d : ℕ) (sc : List Name) (u : Timer) (a : Part) → WellTimer u → FinePart ds d sc a → FinePart ds d sc (with_timer u a)
unfolding with_timer part_places every call_met bound_at_place
fine-timer ds d sc u stop t f = f
fine-timer ds d sc u (go s v p) t f = record { well = (t, f.well.1, f.well.2); met = f.met; closed = f.closed }
fine-timer ds d sc u (out c s v p q) t f = record { well = (f.well.0, t, f.well.2, f.well.3, f.well.4); met = f.met; closed = f.closed }
fine-timer ds d sc u (inp c s y p q) t f = record { well = (f.well.0, t, f.well.2, f.well.3, f.well.4); met = f.met; closed = f.closed }
fine-timer ds d sc u (call i vs) t f = f

-- ── calls ──
some-hit : {A : Type 0} (f : A → Bool) (xs : List A) (i : ℕ) (d : A) → i < length xs → f (get_or xs i d) ≡ true → some f xs ≡ true
unfolding some
some-hit f [] i d h e = absurd (omega arith)
some-hit f (x ∷ xs) zero d h e = rw e
some-hit f (x ∷ xs) (suc i) d h e = go (f x) (some-hit f xs i d (omega arith) e)
  where
    go : (b : Bool) → some f xs ≡ true → (b || some f xs) ≡ true
    go true k = refl
    go false k = k

length-values : (e : Env) (vs : List Value) → length (sub_vs e vs) ≡ length vs
unfolding sub_vs
length-values e [] = refl
length-values e (v ∷ vs) = ap suc (length-values e vs)

module _ (w : List ℕ) where
  -- a call of a held definition with its number of arguments
  call-met : (k : ℕ) (vs : List Value) → k < defs_in w → length (params_of w k) ≡ length vs → some (is_for (def_name w k) vs) (defs_of w) ≡ true
  unfolding defs_of
  call-met k vs h e =
      some-hit (is_for (def_name w k) vs) (list_from 0 (defs_in w) (def_of w)) k (def_of w k) (omega (arith, length-list_from (def_of w) 0 (defs_in w)))
      (rw found at-k)
    where
      found : get_or (list_from 0 (defs_in w) (def_of w)) k (def_of w k) ≡ def_of w k
      found = get_or-list_from (def_of w) (def_of w k) 0 (defs_in w) k h ∙ ap (def_of w) (omega arith)

      at-k : is_for (def_name w k) vs (def_of w k) ≡ true
      at-k = unfold def_of in rw (name-refl (def_name w k), e) (eq-eqb (length vs) (length vs) refl)

  args-many : (k : ℕ) (e : Env) (i n : ℕ) → n ≡ arity_of w k → length (params_of w k) ≡ length (sub_vs e (values_of w (names_at w i) (args_at w i n)))
  unfolding params_of params_at values_of
  args-many k e i n q = simp (length-values, length-map, length-take) (rw q)

  -- ── parts ──
  abbrev P : ℕ → Process
  P j = process_at w j

  abbrev ds : List Def
  ds = defs_of w

  -- what holds of the processes at lesser places
  abbrev Before : ℕ → Type 0
  Before i = (j : ℕ) → j < i → (sc : List Name) (e : Env) → Covers sc e (names_at w j) → (d : ℕ) → FineProcess ds d sc (sub_p (P j) e)

  -- at a place with these names in scope
  same_names : (j : ℕ) (os : List ℕ) (sc : List Name) (e : Env) → scope_at w j ≡ os → Covers sc e (map (name_at w) os) → Covers sc e (names_at w j)
  unfolding names_at
  same_names j os sc e q c = rw q c

  module _ (good : script_ok w ≡ true) where
    chan-form : (c : ℕ) → ltb c (chans_in w) ≡ true → Is is_small (chan_name w c)
    chan-form c h = every-name is_small (chan_name w) (chans_in w) (script-fine w good).chan-names c (ltb-true _ _ h)

    pub def-form : (k : ℕ) → k < defs_in w → Is is_identifier (def_name w k)
    def-form k h = every-name is_identifier (def_name w) (defs_in w) (script-fine w good).def-names k h

    module _ (i : ℕ) (b : i < parts_in w) (sc : List Name) (e : Env) (c : Covers sc e (names_at w i)) (k : Before i) (d : ℕ) where
      -- an inner process with the same names in scope
      inside : (p : ℕ) → Inner w i p (scope_at w i) → (n : ℕ) → FineProcess ds n sc (sub_p (P p) e)
      inside p r n = k p r.lesser sc e (same_names p (scope_at w i) sc e r.scope (unfold names_at in c)) n

      -- a call's tests do not look at the values of slots, so any eight serve
      part-fits : (h : Head) → head_ok w i h ≡ true → FinePart ds d sc (sub (part_of w P i h) e)
      unfolding part_of sub part_places every call_met bound_at_place
      part-fits Stop o = record { well = tt; met = refl; closed = refl }
      part-fits (Go t v p) o =
          let r = go-fine w i t v p o in
          let f = inside p r.first (suc d) in
          let x = value-fit w good sc e (names_at w i) c v r.value in
          record { well = (timer-well t, x.0, f.well); met = f.met; closed = rw x.1 f.closed }
      part-fits (Out a t v p q) o =
          let r = out-fine w i a t v p q o in
          let f = inside p r.first (suc d) in
          let g = inside q r.second (suc d) in
          let x = value-fit w good sc e (names_at w i) c v r.value in
          record {
            well = (chan-form a r.channel, timer-well t, x.0, f.well, g.well);
            met = met-both f g;
            closed = rw x.1 (closed-both f g);
          }
      part-fits (In a t j p q) o =
          let r = in-fine w i a t j p q o in
          let s : Is is_small (bound_at w i) = r.form in
          let m = same_names p _ (into sc (bound_at w i)) (hide (bound_at w i) e) r.first.scope (covers-entered w i j sc e s c) in
          let f = k p r.first.lesser (into sc (bound_at w i)) (hide (bound_at w i) e) m (suc d) in
          let g = inside q r.second (suc d) in
          record {
            well = (chan-form a r.channel, timer-well t, s, f.well, g.well);
            met = met-both f g;
            closed = closed-both f g;
          }
      part-fits (Call m n) o =
          let r = call-fine w i (replicate 8 64) (record { good = good; within = b; slots = refl }) m n o in
          let v = values-fit w good sc e (names_at w i) c (args_at w i n) r.each in
          record {
            well = (def-form m r.held, v.0);
            met = rw (call-met m (sub_vs e (values_of w (names_at w i) (args_at w i n))) r.held (args-many m e i n r.many));
            closed = rw v.1;
          }

      join-fits : (a : Part) (n : ℕ) → FinePart ds d sc (sub a e) → next_ok w i n ≡ true → FineProcess ds d sc (sub_p (joined P a n) e)
      unfolding joined sub_p next_ok
      join-fits a zero f o = fine-one ds d sc (sub a e) f
      join-fits a (suc j) f o = fine-both ds d sc (sub a e) (sub_p (P j) e) f (inside j (inner w i j (scope_at w i) o) d)

    -- ── processes ──
    upto : (n i : ℕ) → i < n → i < parts_in w → (sc : List Name) (e : Env) → Covers sc e (names_at w i) → (d : ℕ) → FineProcess ds d sc (sub_p (P i) e)
    unfolding part_at
    upto zero i h b sc e c d = absurd (omega arith)
    upto (suc n) i h b sc e c d =
        let r = part-fine w good i b in
        let k : Before i = λ j l. upto n j (omega arith) (omega arith) in
        rw (process-is w good i b) (join-fits i b sc e c k d (part_at w i) (next_at w i) (part-fits i b sc e c k d (head_at w i) r.head) r.next)

    pub process-fits : (i : ℕ) → i < parts_in w → (sc : List Name) (e : Env) → Covers sc e (names_at w i) → (d : ℕ) → FineProcess ds d sc (sub_p (process_at w i) e)
    process-fits i b = upto (suc i) i (omega arith) b

    -- the one part at a place
    pub part-at-fits : (i : ℕ) → i < parts_in w → (sc : List Name) (e : Env) → Covers sc e (names_at w i) → (d : ℕ) → FinePart ds d sc (sub (part_at w i) e)
    unfolding part_at
    part-at-fits i b sc e c d = part-fits i b sc e c (λ j l. process-fits j (omega arith)) d (head_at w i) (part-fine w good i b).head
