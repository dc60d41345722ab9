-- What the contracts of the calls say of one call of a list (that of a tick is that of a proposal); and one more call at the end of a run.
-- By cases on the answer.
use Prim.Native.Nat.{ℕ, zero, suc, ◌+◌, ◌<◌, ◌≤◌}
use native.Mathlib.Omega.{arith}
use native.Mathlib.Numerals.{add-one}
use lib.ListN.{length, get_or, set, take, drop, length-set}
use lib.Seq.{take-suc, take-suc-set}
use mathlib.Core.List.{List, [], ◌∷◌, ◌++◌, map, append_assoc, append-nil}
use mathlib.Core.Bool.{Bool, true, false, cond}
use mathlib.Core.Path.{◌≡◌, refl, sym, ap, subst, ◌∙◌}
use lib.Dec.{eqb}
use Rattle.terms.specs.Rules.{Answer, ◌>>=◌}
use Rattle.terms.specs.Rules.Answer.{refused, accepted}
use Rattle.waits.specs.Counted.{Counted, Acted as ActedBy}
use Rattle.table.specs.declared.State.{State}
use Rattle.table.specs.Valid.{valid}
use Rattle.calls_act.specs.declared.Acted.{Acted}
use Rattle.calls_act.specs.Acted.{action_answer, after, ActsAs}
use Rattle.calls_tick.specs.declared.Ticked.{Ticked}
use Rattle.calls_tick.specs.Ticked.{tick_answer, refusal, TicksAs}
use Rattle.calls_tick.specs.Ticked as T
use Rattle.table.proofs.Fires.{map-append}
use Rattle.terms.specs.Runs.{Fed}
use Rattle.calls.specs.Run.Given.{action, tick}
use Rattle.calls.specs.Run.{Given, answer_to, DoesAs, feeds, given_by, Run, RunsAs}
use Rattle.calls.proofs.Demand3.{mixed-calls}
use Rattle.calls.specs.Run.Run.{over, then}

pub tick-does : (w : List ℕ) (st : State) (x : Answer Counted) (r : Ticked) (out : List ℕ) → TicksAs w st x r out → DoesAs w st x r.code (T.left r out)
tick-does w st (refused n) r out e = (ap (λ z. z.code) e.0, λ i. record { c = e.1 i; n = (e.0 i).n })
tick-does w st (accepted cs) r out t = record { code = t.code; comps = t.comps; tally = t.tally; good = t.good; past = t.past }

pub act-does : (w : List ℕ) (st : State) (x : Answer ActedBy) (r : Acted) (cs : List ℕ) → ActsAs w st x r cs → DoesAs w st (x >>= λ a. accepted (record { comps = a.comps; tally = a.tally })) r.code (after st cs)
act-does w st (refused n) r cs e = (ap (λ z. z.code) e.0, ap (after st) e.1)
act-does w st (accepted a) r cs t = record { code = t.code; comps = t.comps; tally = t.tally; good = t.good; past = t.past }

-- ── question 17 in a list of actions and ticks: no call changes its answer ──
not_good : (w : List ℕ) (st : State) (e : List ℕ) → valid w st ≡ false → answer_to w st (given_by e) ≡ refused 17
unfolding given_by
not_good w st e v = go (eqb (get_or e 0 0) 4)
  where
    go : (b : Bool) → answer_to w st (cond b (tick (get_or e 1 0)) (action (get_or e 0 0) (get_or e 1 0) (get_or e 2 0))) ≡ refused 17
    go true = unfold answer_to tick_answer in rw v
    go false = unfold answer_to action_answer in rw v

pub refused-17 : (w : List ℕ) (st : State) (e : List ℕ) (r : Ticked) → valid w st ≡ false → r ≡ refusal 17 st.n → DoesAs w st (answer_to w st (given_by e)) r.code (T.left r st.c)
refused-17 w st e r v q = rw (not_good w st e v) (ap (λ z. z.code) q, ap (λ z. T.left z st.c) q)

still-good : (w : List ℕ) (st next : State) (e : List ℕ) (k : ℕ) (b : Bool) → valid w st ≡ b → DoesAs w st (answer_to w st (given_by e)) k next → valid w next ≡ b
still-good w st next e k true v d = go (answer_to w st (given_by e)) d
  where
    go : (x : Answer Counted) → DoesAs w st x k next → valid w next ≡ true
    go (refused n) d = ap (valid w) d.1 ∙ v
    go (accepted cs) d = d.good
still-good w st next e k false v d = let f = subst (λ x. DoesAs w st x k next) (not_good w st e v) d in ap (valid w) f.1 ∙ v

run_more : (w : List ℕ) {st mid next : State} {gs : List Given} {ks : List ℕ} {fs : List Fed} (g : Given) (k : ℕ) → Run w st gs ks fs mid → DoesAs w mid (answer_to w mid g) k next
    → Run w st (gs ++ (g ∷ [])) (ks ++ (k ∷ [])) (fs ++ feeds w mid g) next
run_more w {mid = mid} {next = next} g k over d = subst (λ fs. Run w mid (g ∷ []) (k ∷ []) fs next) (append-nil (feeds w mid g)) (then d over)
run_more w {mid = mid} {next = next} g k (then {st = st} {g = h} {gs = gs} {k = j} {ks = ks} {fs = fs} c r) d =
    subst (λ fs. Run w st (h ∷ (gs ++ (g ∷ []))) (j ∷ (ks ++ (k ∷ []))) fs next) (sym (append_assoc (feeds w st h) fs (feeds w mid g))) (then c (run_more w g k r d))

-- ── the loop over a list of calls ──
pub record Running (w : List ℕ) (st : State) (calls : List (List ℕ)) (before after : List ℕ) (j : ℕ) (now : State) : Type 0 where
  pub size : length after ≡ length before
  pub few : j ≤ length before
  pub fs : List Fed
  pub runs : Run w st (map given_by (take j calls)) (take j after) fs now
  pub rest : drop j after ≡ drop j before
  pub good : valid w now ≡ valid w st

pub running-begin : (w : List ℕ) (st : State) (calls : List (List ℕ)) (codes : List ℕ) → Running w st calls codes codes 0 st
running-begin w st calls codes = record { size = refl; few = omega arith; fs = []; runs = over; rest = refl; good = refl }

-- the call of three numbers is the call of the list that has them first
same-call : (e : List ℕ) → given_by (get_or e 0 0 ∷ get_or e 1 0 ∷ get_or e 2 0 ∷ []) ≡ given_by e
unfolding given_by
same-call e = refl

drop_past : (xs : List ℕ) (j k : ℕ) → drop (suc j) (set xs j k) ≡ drop (suc j) xs
drop_past [] j k = refl
drop_past (x ∷ xs) zero k = refl
drop_past (x ∷ xs) (suc j) k = drop_past xs j k

one_later : (j : ℕ) (xs : List ℕ) → drop (suc j) xs ≡ drop 1 (drop j xs)
one_later zero xs = refl
one_later (suc j) [] = refl
one_later (suc j) (x ∷ xs) = one_later j xs

pub running_more : (w : List ℕ) (st now next : State) (calls : List (List ℕ)) (before after : List ℕ) (j k : ℕ) → j < length calls → j < length before → Running w st calls before after j now
    → DoesAs w now (answer_to w now (given_by (get_or (get_or calls j []) 0 0 ∷ get_or (get_or calls j []) 1 0 ∷ get_or (get_or calls j []) 2 0 ∷ []))) k next → Running w st calls before (set after j k) (j + 1) next
running_more w st now next calls before after j k h b r d =
    let g = given_by (get_or calls j []) in
    let e : map given_by (take j calls) ++ (g ∷ []) ≡ map given_by (take (j + 1) calls) = sym (ap (map given_by) (ap (λ m. take m calls) (add-one j) ∙ take-suc calls j [] h) ∙ map-append given_by (take j calls) (get_or calls j [] ∷ [])) in
    let c : take j after ++ (k ∷ []) ≡ take (j + 1) (set after j k) = sym (ap (λ m. take m (set after j k)) (add-one j) ∙ take-suc-set after j k (omega (arith, r.size))) in
    let one = run_more w g k r.runs (subst (λ x. DoesAs w now (answer_to w now x) k next) (same-call (get_or calls j [])) d) in
    record {
      size = length-set after j k ∙ r.size;
      few = omega arith;
      fs = r.fs ++ feeds w now g;
      runs = subst (λ z. Run w st z (take (j + 1) (set after j k)) (r.fs ++ feeds w now g) next) e (subst (λ z. Run w st (map given_by (take j calls) ++ (g ∷ [])) z (r.fs ++ feeds w now g) next) c one);
      rest = ap (λ m. drop m (set after j k)) (add-one j) ∙ drop_past after j k ∙ one_later j after ∙ ap (drop 1) r.rest ∙ sym (one_later j before) ∙ sym (ap (λ m. drop m before) (add-one j));
      good = still-good w now next _ k (valid w st) r.good d;
    }

-- at its end: what `run` gives
pub running-end : {w : List ℕ} {st now : State} {calls : List (List ℕ)} {before after : List ℕ} {j : ℕ} → Running w st calls before after j now → RunsAs w st calls before after j now
running-end {w} r = record { fs = r.fs; runs = r.runs; rest = r.rest; mixed = mixed-calls w r.runs }
