-- The tick on a valid table stands for the tick of the rules, with question 13 after it, and for what it leaves of waits, total and count.
-- By the laws of the forced test, of the pass and of the waits on the table; what is left still passes question 17, since nothing is ever removed.
use Prim.Native.Nat.{ℕ, ◌<◌, ◌≤◌}
use native.Mathlib.Omega.{arith}
use mathlib.Core.List.{List, map}
use mathlib.Core.Bool.{true, false, cond}
use mathlib.Core.Path.{◌≡◌, refl, ap, ◌∙◌}
use lib.ListN.{length, length-map}
use borrow.Author.Tests.{lt-ltb, le-ltb, le-leb, lt-leb}
use Rattle.terms.specs.Rules.{◌>>=◌}
use Rattle.terms.specs.Rules.Answer.{refused, accepted}
use Rattle.waits.specs.Waits.{tick_tally}
use Rattle.waits.specs.Counted.{Counted}
use Rattle.table.specs.declared.State.{State}
use Rattle.table.specs.Words.{locs_in, loc_name}
use Rattle.table.specs.Meaning.{means, PastKept, context_of, comps_of, net_of, tally_of}
use Rattle.table.specs.Valid.{valid}
use Rattle.table.specs.Fire.{forced_at, passed_all}
use Rattle.table.proofs.Ticks.{tick-means}
use Rattle.table.proofs.Kept.{tick-kept, tick-grows}
use Rattle.table.proofs.Stores.{past-total, past-count}
use Rattle.table.proofs.InUse.{comps-length, valid-ledger, ledger-same, is-valid}
use Rattle.table_waits.proofs.Ledger.{past-others}
use Rattle.table_waits.proofs.Waits.{tick-waits}
use Rattle.calls_act.proofs.Positions.{valid-parts}
use Rattle.calls_tick.specs.Ticked.{room, tick_counted, tick_rule, Took}

-- what the tick at l leaves of the components of st, and of what is kept beside them
abbrev pub ticked : List ℕ → State → ℕ → Counted
ticked w st l = record { comps = map (means w) (passed_all w l (comps_of st)); tally = tick_tally (context_of w) (loc_name w l) (net_of w st) (tally_of st) }

-- question 8
pub tick-out : (w : List ℕ) (st : State) (l : ℕ) → locs_in w ≤ l → tick_rule w st l ≡ refused 8
unfolding tick_rule
tick-out w st l h = rw (le-ltb l (locs_in w) h)

-- the tick at a location in range, on the table
in-range : (w : List ℕ) (st : State) (l : ℕ) → valid w st ≡ true → l < locs_in w → tick_rule w st l ≡ (cond (forced_at w l (comps_of st)) (refused 12) (accepted (map (means w) (passed_all w l (comps_of st)))) >>= room >>= λ cs. accepted (record { comps = cs; tally = (ticked w st l).tally }))
unfolding tick_rule tick_counted net_of
in-range w st l v h =
    let p = valid-parts w st v in
    rw (lt-ltb l (locs_in w) h, tick-means w p.0 l h (comps_of st) p.1.each)

-- question 12
pub tick-forced : (w : List ℕ) (st : State) (l : ℕ) → valid w st ≡ true → l < locs_in w → forced_at w l (comps_of st) ≡ true → tick_rule w st l ≡ refused 12
tick-forced w st l v h e = in-range w st l v h ∙ rw e

-- question 13
pub tick-full : (w : List ℕ) (st : State) (l : ℕ) → valid w st ≡ true → l < locs_in w → forced_at w l (comps_of st) ≡ false → 256 < length (passed_all w l (comps_of st)) → tick_rule w st l ≡ refused 13
unfolding room
tick-full w st l v h e n = in-range w st l v h ∙ rw (e, length-map (passed_all w l (comps_of st)) (means w), lt-leb (length (passed_all w l (comps_of st))) 256 n)

pub tick-done : (w : List ℕ) (st : State) (l : ℕ) → valid w st ≡ true → l < locs_in w → forced_at w l (comps_of st) ≡ false → length (passed_all w l (comps_of st)) < 257
    → tick_rule w st l ≡ accepted (ticked w st l)
unfolding room
tick-done w st l v h e n = in-range w st l v h ∙ rw (e, length-map (passed_all w l (comps_of st)) (means w), le-leb (length (passed_all w l (comps_of st))) 256 (omega arith))

-- k components whose words are out are what the tick leaves
pub tick-took : (w : List ℕ) (st : State) (out : List ℕ) (k l : ℕ) → valid w st ≡ true → l < locs_in w → comps_of (record { c = out; n = k }) ≡ passed_all w l (comps_of st) → k ≡ length (passed_all w l (comps_of st)) → length (passed_all w l (comps_of st)) < 257 → PastKept k st.c out
    → Took w st (ticked w st l) (record { code = 0; n = k }) out
unfolding net_of
tick-took w st out k l v h e n b q =
    let p = valid-parts w st v in
    let few : k ≤ 256 = omega (arith, n) in
    let some : 0 < k = omega (arith, n, tick-grows w l (comps_of st), comps-length st, p.1.some) in
    record {
      code = refl;
      comps = ap (map (means w)) e;
      tally = unfold tally_of tick_tally in rw (past-total few q, past-count few q, e, tick-waits w p.0 l (comps_of st) h p.1.each);
      good = is-valid w (record { c = out; n = k }) p.0 (record { some = some; few = few; each = rw e (tick-kept w p.0 l (comps_of st) p.1.each) }) (ledger-same (past-total few q) (past-count few q) (valid-ledger w st v));
      grows = omega (arith, n, tick-grows w l (comps_of st), comps-length st);
      past = past-others few q;
    }
