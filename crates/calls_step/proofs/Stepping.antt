-- The step on a valid table stands for the step of the rules, with questions 15, 18 and 13.
-- By the law of the sweep (Sweeps) and that of its waits (Tallying), that of the tick's pass, and that a step never meets question 12.
use Prim.Native.Nat.{ℕ, ◌+◌, ◌<◌, ◌≤◌}
use native.Mathlib.Omega.{arith}
use mathlib.Core.List.{List, ◌++◌, map}
use mathlib.Core.Bool.{true}
use mathlib.Core.Path.{◌≡◌, refl, sym, ap, ap₂, subst, ◌∙◌}
use lib.Dec.{leb}
use lib.ListN.{length, take, drop, length-map, take-append-drop}
use borrow.Author.Tests.{lt-ltb, le-ltb, le-leb, lt-leb}
use Rattle.terms.specs.Same.{every}
use Rattle.terms.specs.Rules.{◌>>=◌}
use Rattle.terms.specs.Rules.Answer.{refused, accepted}
use Rattle.terms.specs.Step.{fires}
use Rattle.waits.specs.Waits.{Tally, acts_tally, tick_tally, step_tally, countable}
use Rattle.waits.proofs.Counting.{countable-is, messages-few}
use Rattle.terms.proofs.Steps.{step-accepted}
use Rattle.table.specs.declared.State.{State}
use Rattle.table.specs.Words.{locs_in, loc_name}
use Rattle.table.specs.Meaning.{PastKept, context_of, means, comps_of, net_of, total_in, count_in, waits_of, tally_of}
use Rattle.table.specs.Valid.{script_ok, valid}
use Rattle.table.specs.Fire.{passed_all}
use Rattle.table.proofs.Ticks.{passed-all}
use Rattle.calls_act.specs.Acted.{asked}
use Rattle.calls_act.proofs.Positions.{valid-parts}
use Rattle.table.proofs.InUse.{comps-length, LedgerFine, valid-ledger, is-valid}
use Rattle.table.proofs.Stores.{past-total, past-count}
use Rattle.table_waits.specs.Ledger.{counted}
use Rattle.table_waits.proofs.Ledger.{past-others, others-then, counted-others, counted-comps, counted-count, counted-total}
use Rattle.table_waits.proofs.Waits.{tally-is}
use Rattle.calls_tick.specs.Ticked.{room}
use Rattle.calls_steady.specs.Steady.{stays_one}
use Rattle.calls_tick.proofs.Ticking.{tick-took}
use Rattle.calls_steady.proofs.Staying.{tick-steady}
use Rattle.calls_sweep.specs.Sweep.{SweptAt, sweep_at, rec_of}
use Rattle.calls_sweep.specs.Visit.{SweepsAs}
use Rattle.calls_step.specs.Stepped.{step_of, step_counted, step_rule, Took}
use Rattle.calls_sweep.proofs.Sweeps.{Like, fires-like}
use Rattle.calls_sweep.proofs.Going.{sweep-steady}
use Rattle.calls_sweep.proofs.Tallying.{sweep-tallies}

module _ (w : List ℕ) (st : State) (l : ℕ) (v : valid w st ≡ true) (after : List ℕ) (lent acts : List (List ℕ)) (count sent sum : ℕ) (s : SweepsAs w l st after lent acts count sent sum) where
  -- the state that the actions leave, with their messages counted
  abbrev told : State
  told = record { c = counted after sent sum; n = st.n }

  good : script_ok w ≡ true
  good = (valid-parts w st v).0

  few : st.n ≤ 256
  few = (valid-parts w st v).1.few

  abbrev swept : SweptAt
  swept = sweep_at w l 0 st.n (comps_of st)

  told-comps : comps_of (record { c = counted after sent sum; n = st.n }) ≡ (sweep_at w l 0 st.n (comps_of st)).comps
  told-comps = counted-comps after sent sum st.n few ∙ s.comps

  -- ── the count ──
  total-same : total_in after ≡ total_in st.c
  total-same = past-total few s.past

  count_same : count_in after ≡ count_in st.c
  count_same = past-count few s.past

  ledger : LedgerFine st.c
  ledger = valid-ledger w st v

  -- question 18 in numbers
  counts-are : countable (sweep_at w l 0 st.n (comps_of st)).actions (count_in st.c) ≡ leb (count_in st.c + sent) 1_000_000
  counts-are = countable-is swept.actions (count_in st.c) ledger.few ∙ ap (λ m. leb (count_in st.c + m) 1_000_000) (sym s.sent_is)

  pub fits-now : count_in st.c + sent ≤ 1_000_000 → (count_in after + sent ≤ 1_000_000) × (total_in after + sum ≤ 2_000_000_000_000)
  fits-now h = (omega (arith, count_same), omega (arith, total-same, s.small, ledger.within, ledger.few))

  pub sent-few : sent ≤ st.n
  sent-few = omega (arith, s.sent_is, messages-few swept.actions, s.number, s.few)

  pub count-now : count_in after ≡ count_in st.c
  count-now = count_same

  -- what is kept beside the components is what the actions one by one leave
  told-tally : tally_of (record { c = counted after sent sum; n = st.n }) ≡ acts_tally (sweep_at w l 0 st.n (comps_of st)).actions (tally_of st)
  unfolding tally_of
  told-tally =
      tally-is _ _ (ap waits_of told-comps) (counted-total after sent sum s.slotted ∙ ap₂ ◌+◌ total-same s.sum_is) (counted-count after sent sum s.slotted ∙ ap₂ ◌+◌ count_same s.sent_is)
      ∙ sym (sweep-tallies w l 0 st.n (comps_of st) (total_in st.c) (count_in st.c))

  module _ (inl : l < locs_in w) where
    -- the sweep of the rules
    like : Like w good l inl (fires (context_of w) (loc_name w l) (map (means w) (comps_of st))) (sweep_at w l 0 st.n (comps_of st))
    like = subst (λ n. Like w good l inl (fires (context_of w) (loc_name w l) (map (means w) (comps_of st))) (sweep_at w l 0 n (comps_of st))) (comps-length st) (fires-like w good l inl (comps_of st) (valid-parts w st v).1.each)

    -- that state still passes question 17
    pub told-good : count_in st.c + sent ≤ 1_000_000 → valid w (record { c = counted after sent sum; n = st.n }) ≡ true
    told-good h =
        let p = (valid-parts w st v).1 in
        let n = counted-count after sent sum s.slotted in
        is-valid w told good (record { some = p.some; few = p.few; each = rw told-comps like.fine })
        (record { few = omega (arith, n, count_same); within = omega (arith, n, counted-total after sent sum s.slotted, total-same, count_same, s.small, ledger.within) })

    -- what the rules answer, by the numbers of the code
    by-rules : (size : ℕ) → step_rule w st l size
        ≡ asked 15 (leb count size)
        (asked 18 (leb (count_in st.c + sent) 1_000_000)
        (room (map (means w) (passed_all w l swept.comps)) >>= λ cs. accepted (step_of swept.actions cs (tick_tally (context_of w) (loc_name w l) (map (means w) swept.comps) (acts_tally swept.actions (tally_of st))))))
    unfolding step_rule step_counted step_tally net_of
    by-rules size =
        let c = passed-all w good l inl swept.comps like.fine in
        let n : countable swept.actions (tally_of st).count ≡ leb (count_in st.c + sent) 1_000_000 = (unfold tally_of in counts-are) in
        rw (lt-ltb l (locs_in w) inl, like.actions, n, ← s.number, step-accepted (context_of w) (loc_name w l) (map (means w) (comps_of st)), like.actions, like.comps, ← c)

    -- what the tick makes of what is kept beside the components
    abbrev last : Tally
    last = tick_tally (context_of w) (loc_name w l) (net_of w told) (tally_of told)

    ruled : (size : ℕ) → step_rule w st l size
        ≡ asked 15 (leb count size)
        (asked 18 (leb (count_in st.c + sent) 1_000_000)
        (room (map (means w) (passed_all w l (comps_of told))) >>= λ cs. accepted (step_of swept.actions cs last)))
    unfolding net_of
    ruled size =
        by-rules size
        ∙ ap₂ (λ cs t. asked 15 (leb count size) (asked 18 (leb (count_in st.c + sent) 1_000_000) (room (map (means w) (passed_all w l cs)) >>= λ ds. accepted (step_of swept.actions ds (tick_tally (context_of w) (loc_name w l) (map (means w) cs) t)))))
        (sym told-comps) (sym told-tally)

    pub step_small : (size : ℕ) → size < count → step_rule w st l size ≡ refused 15
    step_small size h = ruled size ∙ rw (lt-leb count size h)

    pub step-uncounted : (size : ℕ) → count ≤ size → 1_000_000 < count_in st.c + sent → step_rule w st l size ≡ refused 18
    step-uncounted size h n = ruled size ∙ rw (le-leb count size h, lt-leb (count_in st.c + sent) 1_000_000 n)

    pub step-full : (size : ℕ) → count ≤ size → count_in st.c + sent ≤ 1_000_000 → 256 < length (passed_all w l (comps_of told)) → step_rule w st l size ≡ refused 13
    unfolding room
    step-full size h b n = ruled size ∙ rw (le-leb count size h, le-leb (count_in st.c + sent) 1_000_000 b, length-map (passed_all w l (comps_of told)) (means w), lt-leb (length (passed_all w l (comps_of told))) 256 n)

    pub step-done : (size : ℕ) → count ≤ size → count_in st.c + sent ≤ 1_000_000 → length (passed_all w l (comps_of told)) < 257 → step_rule w st l size ≡ accepted (step_of swept.actions (map (means w) (passed_all w l (comps_of told))) last)
    unfolding room
    step-done size h b n = ruled size ∙ rw (le-leb count size h, le-leb (count_in st.c + sent) 1_000_000 b, length-map (passed_all w l (comps_of told)) (means w), le-leb (length (passed_all w l (comps_of told))) 256 (omega arith))

    pub step-took : count_in st.c + sent ≤ 1_000_000 → (cs : List ℕ) (k : ℕ) (before now : List (List ℕ)) → comps_of (record { c = cs; n = k }) ≡ passed_all w l (comps_of told) → k ≡ length (passed_all w l (comps_of told)) → length (passed_all w l (comps_of told)) < 257
        → PastKept k (counted after sent sum) cs
        → now ≡ take count acts ++ drop count before
        → Took w st (step_of swept.actions (map (means w) (passed_all w l (comps_of told))) last) (record { code = 0; count = count; n = k }) cs before now
    step-took h cs k before now e n b q a =
        let t = tick-took w told cs k l (told-good h) inl e n b q in
        record {
          code = refl;
          count = s.number;
          few = s.few;
          comps = t.comps;
          tally = t.tally;
          good = t.good;
          past = others-then t.grows (others-then (omega arith) (past-others few s.past) (counted-others after sent sum st.n)) t.past;
          records = a ∙ ap (λ xs. xs ++ drop count before) s.records ∙ ap (λ k. map rec_of swept.actions ++ drop k before) s.number;
        }

    -- where every component stays one, as many are left as there were
    pub step-steady : every (stays_one w l) (comps_of st) ≡ true → length (passed_all w l (comps_of told)) ≡ st.n
    step-steady e = tick-steady w l (comps_of told) (rw told-comps (sweep-steady w good l st.n 0 (comps_of st) (valid-parts w st v).1.each e)) ∙ comps-length told

    -- the records, where they were written in front of the lent ones themselves
    pub written : acts ≡ take count acts ++ drop count lent
    written = sym (take-append-drop count acts) ∙ ap (λ z. take count acts ++ z) s.rest

-- question 8
pub step-out : (w : List ℕ) (st : State) (l size : ℕ) → locs_in w ≤ l → step_rule w st l size ≡ refused 8
unfolding step_rule
step-out w st l size h = rw (le-ltb l (locs_in w) h)
