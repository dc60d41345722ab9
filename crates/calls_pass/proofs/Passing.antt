-- The loops of `pass_all`: what was written and what remains are what the tick leaves.
-- By the law of one turn (Turns); the array's first k components are those written.
use Prim.Native.Nat.{ℕ, suc, ◌+◌, ◌-◌, ◌*◌, ◌<◌, ◌≤◌}
use native.Mathlib.Omega.{arith}
use native.Mathlib.Numerals.{add-one}
use mathlib.Core.List.{List, [], ◌∷◌, ◌++◌, append_assoc, append-nil, flat_map}
use mathlib.Core.Bool.{Bool, true, false}
use mathlib.Core.Path.{◌≡◌, refl, sym, ap, subst, ◌∙◌}
use lib.Dec.{ltb}
use lib.ListN.{length, drop, length-append, get_or-append}
use lib.Seq.{sets, length-sets, drop-drop, drop-length}
use borrow.Author.Tests.{ltb-true, ltb-false}
use Rattle.terms.specs.Same.{every}
use Rattle.table.specs.declared.Comp.{Comp}
use Rattle.table.specs.declared.State.{State}
use Rattle.table.specs.Words.{comp_size, state_words, parts_in}
use Rattle.table.specs.Meaning.{list_from, comp_in, words_in, PastKept, comps_of, no_comp}
use Rattle.table.specs.Valid.{script_ok, comp_ok, valid}
use Rattle.table.specs.Fire.{passed_all}
use Rattle.table.proofs.Tests.{every-get_or, script-fine, comp-fine}
use Rattle.table.proofs.Kept.{tick-kept, tick-grows}
use Rattle.calls_act.proofs.Positions.{valid-parts, comp-good}
use Rattle.calls_pass.specs.declared.Turn.{Turn}
use Rattle.calls_steady.specs.Steady.{touches}
use Rattle.std.specs.Prelude.{Option, Some, None}
use Rattle.calls_pass.specs.Turn.{Within, step_of, turn_of, remaining}
use Rattle.calls_pass.specs.Passed.{passed_from, PassedHere, PassesAs}
use Rattle.calls_pass.proofs.Turns.{turn-vals, turn-next, remaining-begin, remaining-turn, remaining-some, untouched}
use Rattle.table.proofs.InUse.{comps-length, in_use, from-here, comp-at, valid-ledger, ledger-same, is-valid}
use Rattle.table.proofs.ValidLists.{every-all, list_from-length, list_from-at}
use Rattle.table.proofs.Stores.{put_other, past-put, past-none, past-then, past-total, past-count, list_from-same, list_from-end, drop-from, comps-more}

-- k components are written to out, i are done with, and of the next one the parts from next on are left
pub record Passing (w : List ℕ) (l : ℕ) (st : State) (goal : List Comp) (out : List ℕ) (k i : ℕ) (next : Option ℕ) : Type 0 where
  pub few-k : k ≤ 256
  pub few-i : i ≤ st.n
  pub size : length out ≡ state_words
  pub part : Within (parts_in w) next
  pub holds : list_from 0 k (comp_in out) ++ remaining w l (drop i (comps_of st)) next ≡ goal

pub passing-begin : (w : List ℕ) (l : ℕ) (st : State) (out : List ℕ) (j : ℕ) → length out ≡ state_words → j ≤ st.n → j ≤ 256 → Passing w l st (passed_from w l st j out) out j j None
passing-begin w l st out j e n b =
    record { few-k = b; few-i = n; size = e; part = tt; holds = ap (λ z. list_from 0 j (comp_in out) ++ z) (remaining-begin w l (drop j (comps_of st))) }

module _ (w : List ℕ) (l : ℕ) (st : State) (goal : List Comp) (out : List ℕ) (k i : ℕ) (next : Option ℕ) (v : valid w st ≡ true) (p : Passing w l st goal out k i next) (h : i < st.n) where
  fine : comp_ok w (comp_in st.c i) ≡ true
  fine = comp-good w st v i h

  good : script_ok w ≡ true
  good = (valid-parts w st v).0

  abbrev t : Turn
  t = turn_of w l (comp_in st.c i) next

  turn-range : Within (parts_in w) (turn_of w l (comp_in st.c i) next).next × ((j : ℕ) → next ≡ Some j → Within j (turn_of w l (comp_in st.c i) next).next)
  turn-range = turn-next w good l (comp_in st.c i) next fine p.part

  step_small : (n : Option ℕ) → step_of n ≤ 1
  step_small None = omega arith
  step_small (Some j) = omega arith

  passing-turn : k < 256 → Passing w l st goal (sets out (k * comp_size) (words_in (turn_of w l (comp_in st.c i) next).comp)) (k + 1) (i + step_of (turn_of w l (comp_in st.c i) next).next) (turn_of w l (comp_in st.c i) next).next
  passing-turn b = record {
    few-k = omega arith;
    few-i = omega (arith, step_small t.next);
    size = length-sets out (k * comp_size) (words_in t.comp) ∙ p.size;
    part = turn-range.0;
    holds =
        ap (λ z. z ++ remaining w l (drop (i + step_of t.next) (comps_of st)) t.next) (comps-more out k t.comp b p.size (turn-vals w l (comp_in st.c i) next ∙ (comp-fine w _ fine).slots))
        ∙ append_assoc (list_from 0 k (comp_in out)) (t.comp ∷ []) (remaining w l (drop (i + step_of t.next) (comps_of st)) t.next)
        ∙ ap (λ z. list_from 0 k (comp_in out) ++ z) (sym left_over)
        ∙ p.holds;
  }
    where
      dropped : drop (i + step_of t.next) (comps_of st) ≡ drop (step_of t.next) (comp_in st.c i ∷ drop (suc i) (comps_of st))
      dropped = sym (drop-drop (step_of t.next) i (comps_of st)) ∙ ap (drop (step_of t.next)) (from-here st i h)

      left_over : remaining w l (drop i (comps_of st)) next ≡ t.comp ∷ remaining w l (drop (i + step_of t.next) (comps_of st)) t.next
      left_over =
          ap (λ z. remaining w l z next) (from-here st i h)
          ∙ remaining-turn w good l (comp_in st.c i) (drop (suc i) (comps_of st)) next fine p.part
          ∙ ap (λ z. t.comp ∷ remaining w l z t.next) (sym dropped)

  -- the position afterwards, by what comes next
  pub passing-next : (j : ℕ) → j ≡ i + step_of (turn_of w l (comp_in st.c i) next).next → k < 256 → Passing w l st goal (sets out (k * comp_size) (words_in (turn_of w l (comp_in st.c i) next).comp)) (k + 1) j (turn_of w l (comp_in st.c i) next).next
  passing-next j e b = subst (λ z. Passing w l st goal (sets out (k * comp_size) (words_in t.comp)) (k + 1) z t.next) (sym e) (passing-turn b)

-- ── the loop ends ──
unfoldable pub rank : Option ℕ → ℕ
rank None = 8_000
rank (Some j) = j

-- how far the loop has come: components left, then parts left
abbrev pub left_over : ℕ → ℕ → Option ℕ → ℕ
left_over n i next = (n - i) * 8_192 + rank next

falls : (n i : ℕ) (next m : Option ℕ) → i < n → Within 4_096 next → Within 4_096 m → ((j : ℕ) → next ≡ Some j → Within j m) → left_over n (i + step_of m) m < left_over n i next
unfolding rank
falls n i next None h a b f = omega (arith, rank-low next)
  where
    rank-low : (x : Option ℕ) → 0 ≤ rank x
    rank-low x = omega arith
falls n i None (Some k) h a b f = omega arith
falls n i (Some j) (Some k) h a b f = omega (arith, f j refl)

within-more : (m n : ℕ) (x : Option ℕ) → m ≤ n → Within m x → Within n x
within-more m n None h w = tt
within-more m n (Some j) h w = omega arith

pub turn-less : (w : List ℕ) (l : ℕ) (st : State) (goal : List Comp) (out : List ℕ) (k i : ℕ) (next : Option ℕ) (v : valid w st ≡ true) (p : Passing w l st goal out k i next) (h : i < st.n) (j : ℕ) → j ≡ i + step_of (turn_of w l (comp_in st.c i) next).next
    → left_over st.n j (turn_of w l (comp_in st.c i) next).next < left_over st.n i next
turn-less w l st goal out k i next v p h j e =
    let r = turn-range w l st goal out k i next v p h in
    let s = (script-fine w (valid-parts w st v).0).parts in
    rw e (falls st.n i next _ h (within-more _ _ next s p.part) (within-more _ _ _ s r.0) r.1)

-- ── what the loop gives ──
pub passing-full : (w : List ℕ) (l : ℕ) (st : State) (goal : List Comp) (out : List ℕ) (k i : ℕ) (next : Option ℕ) → Passing w l st goal out k i next → i < st.n → 256 ≤ k → 256 < length goal
passing-full w l st goal out k i next p h b =
    let e = ap length (sym p.holds) ∙ length-append (list_from 0 k (comp_in out)) _ in
    let d = ap (λ z. length (remaining w l z next)) (from-here st i h) in
    omega (arith, e, d, remaining-some w l (comp_in st.c i) (drop (suc i) (comps_of st)) next, list_from-length 0 k (comp_in out), p.few-k)

pub passing-done : (w : List ℕ) (l : ℕ) (st : State) (goal : List Comp) (out : List ℕ) (k i : ℕ) (next : Option ℕ) → Passing w l st goal out k i next → st.n ≤ i
    → (list_from 0 k (comp_in out) ≡ goal) × (k ≡ length goal)
unfolding remaining
passing-done w l st goal out k i next p h =
    let z : i ≡ length (comps_of st) = omega (arith, comps-length st, p.few-i) in
    let none : drop i (comps_of st) ≡ [] = ap (λ j. drop j (comps_of st)) z ∙ drop-length (comps_of st) in
    let e : list_from 0 k (comp_in out) ≡ goal = sym (append-nil (list_from 0 k (comp_in out))) ∙ ap (λ z. list_from 0 k (comp_in out) ++ remaining w l z next) (sym none) ∙ p.holds in
    (e, sizes e)
  where
    sizes : list_from 0 k (comp_in out) ≡ goal → k ≡ length goal
    sizes e = sym (list_from-length 0 k (comp_in out)) ∙ ap length e

-- ── in place ──
module _ (w : List ℕ) (l : ℕ) (st : State) where
  abbrev all : List Comp
  all = passed_all w l (comps_of st)

  pub here-begin : length st.c ≡ state_words → PassedHere w l st st.c 0
  unfolding list_from
  here-begin e = record { few = omega arith; size = e; front = refl; rest = λ m b. refl; past = past-none st.n st.c }

  module _ (out : List ℕ) (i : ℕ) (v : valid w st ≡ true) (p : PassedHere w l st out i) (h : i < st.n) where
    abbrev x : Comp
    x = comp_in st.c i

    passing : Passing w l st all out i i None
    passing = record {
      few-k = omega (arith, (valid-parts w st v).1.few);
      few-i = p.few;
      size = p.size;
      part = tt;
      holds = ap (λ z. list_from 0 i (comp_in out) ++ z) (remaining-begin w l (drop i (comps_of st))) ∙ p.front;
    }

    -- a component that becomes one other
    pub here-turn : (turn_of w l (comp_in st.c i) None).next ≡ None → PassedHere w l st (sets out (i * comp_size) (words_in (turn_of w l (comp_in st.c i) None).comp)) (i + 1)
    here-turn e =
        let t = turn_of w l x None in
        let q = passing-turn w l st all out i i None v passing h (omega (arith, (valid-parts w st v).1.few)) in
        let s : i + step_of t.next ≡ i + 1 = ap (λ z. i + step_of z) e in
        record {
          few = omega arith;
          size = q.size;
          front =
              ap (λ z. list_from 0 (i + 1) (comp_in (sets out (i * comp_size) (words_in t.comp))) ++ z) (sym (remaining-begin w l (drop (i + 1) (comps_of st))))
              ∙ ap (λ z. list_from 0 (i + 1) (comp_in (sets out (i * comp_size) (words_in t.comp))) ++ remaining w l (drop z (comps_of st)) None) (sym s)
              ∙ ap (λ z. list_from 0 (i + 1) (comp_in (sets out (i * comp_size) (words_in t.comp))) ++ remaining w l (drop (i + step_of t.next) (comps_of st)) z) (sym e)
              ∙ q.holds;
          rest = λ m b. put_other out i t.comp m (λ d. omega arith) ∙ p.rest m (omega arith);
          past = past-then (omega arith) p.past (past-put out st.n i t.comp h);
        }

    -- a component that the tick does not touch
    pub here-left : touches l (comp_in st.c i) ≡ false → PassedHere w l st out (i + 1)
    unfolding passed_all flat_map
    here-left e =
        let z : 0 + i ≡ i = omega arith in
        let a : list_from 0 (i + 1) (comp_in out) ≡ list_from 0 i (comp_in out) ++ (x ∷ []) = ap (λ m. list_from 0 m (comp_in out)) (add-one i) ∙ list_from-end 0 i (comp_in out) ∙ ap (λ y. list_from 0 i (comp_in out) ++ (y ∷ [])) (ap (comp_in out) z ∙ p.rest i (omega arith)) in
        let b : passed_all w l (drop i (comps_of st)) ≡ x ∷ passed_all w l (drop (i + 1) (comps_of st)) = ap (passed_all w l) (comp-at st i h) ∙ ap (λ y. y ++ passed_all w l (drop (i + 1) (comps_of st))) (untouched w l x e) in
        record {
          few = omega arith;
          size = p.size;
          front =
              ap (λ y. y ++ passed_all w l (drop (i + 1) (comps_of st))) a
              ∙ append_assoc (list_from 0 i (comp_in out)) (x ∷ []) (passed_all w l (drop (i + 1) (comps_of st)))
              ∙ ap (λ y. list_from 0 i (comp_in out) ++ y) (sym b)
              ∙ p.front;
          rest = λ m b. p.rest m (omega arith);
          past = p.past;
        }

  -- ── and then out of a copy ──
  module _ (out : List ℕ) (i : ℕ) (p : PassedHere w l st out i) where
    abbrev copy : State
    copy = record { c = out; n = st.n }

    rest-same : drop i (comps_of copy) ≡ drop i (comps_of st)
    unfolding comps_of
    rest-same = drop-from 0 st.n i (comp_in out) ∙ list_from-same (0 + i) (st.n - i) (comp_in st.c) (comp_in out) (λ m b. p.rest m (omega arith)) ∙ sym (drop-from 0 st.n i (comp_in st.c))

    goal-same : passed_from w l (record { c = out; n = st.n }) i out ≡ passed_all w l (comps_of st)
    goal-same = ap (λ z. list_from 0 i (comp_in out) ++ passed_all w l z) rest-same ∙ p.front

    pub here-done : st.n ≤ i → (comps_of (record { c = out; n = st.n }) ≡ passed_all w l (comps_of st)) × (st.n ≡ length (passed_all w l (comps_of st))) × PastKept st.n st.c out
    unfolding comps_of passed_all flat_map
    here-done b =
        let z : i ≡ st.n = omega (arith, p.few) in
        let none : drop i (comps_of st) ≡ [] = ap (λ j. drop j (comps_of st)) (z ∙ sym (comps-length st)) ∙ drop-length (comps_of st) in
        let e : list_from 0 i (comp_in out) ≡ all = sym (append-nil (list_from 0 i (comp_in out))) ∙ ap (λ y. list_from 0 i (comp_in out) ++ passed_all w l y) (sym none) ∙ p.front in
        let f : list_from 0 st.n (comp_in out) ≡ all = ap (λ j. list_from 0 j (comp_in out)) (sym z) ∙ e in
        (f, sym (list_from-length 0 st.n (comp_in out)) ∙ ap length f, p.past)

    -- what the copy's pass leaves past the components in use
    rest-past : {e : List ℕ} {k : ℕ} → k ≡ length (passed_all w l (comps_of st)) → PastKept k out e → PastKept k st.c e
    rest-past q r = past-then (omega (arith, q, tick-grows w l (comps_of st), comps-length st)) p.past r

    -- what its pass leaves is what the tick leaves
    pub all-passed : (e : List ℕ) (r : Option ℕ) → PassesAs (passed_from w l (record { c = out; n = st.n }) i out) out e r → PassesAs (passed_all w l (comps_of st)) st.c e r
    all-passed e None q = rw (← goal-same) q
    all-passed e (Some k) q = let z : k ≡ length all = q.1 ∙ ap length goal-same in (q.0 ∙ goal-same, z, q.2, rest-past z q.3)

    -- the copy still passes question 17
    pub copy-good : valid w st ≡ true → valid w (record { c = out; n = st.n }) ≡ true
    copy-good v =
        let q = valid-parts w st v in
        let fine = every-all (comp_ok w) no_comp (comps_of copy) (λ m b. let c : m < st.n = omega (arith, comps-length copy) in ap (comp_ok w) (in_use copy no_comp m c) ∙ each v m c) in
        is-valid w copy q.0 (record { some = q.1.some; few = q.1.few; each = fine }) (ledger-same (past-total q.1.few p.past) (past-count q.1.few p.past) (valid-ledger w st v))
      where
        passed-fine : valid w st ≡ true → every (comp_ok w) (list_from 0 i (comp_in out) ++ passed_all w l (drop i (comps_of st))) ≡ true
        passed-fine v = ap (every (comp_ok w)) p.front ∙ tick-kept w (valid-parts w st v).0 l (comps_of st) (valid-parts w st v).1.each

        each : valid w st ≡ true → (m : ℕ) → m < st.n → comp_ok w (comp_in out m) ≡ true
        each v m c = go (ltb m i) refl
          where
            go : (b : Bool) → ltb m i ≡ b → comp_ok w (comp_in out m) ≡ true
            go true e =
                let d = ltb-true m i e in
                let g = every-get_or (comp_ok w) _ no_comp m (passed-fine v) (omega (arith, length-append (list_from 0 i (comp_in out)) (passed_all w l (drop i (comps_of st))), list_from-length 0 i (comp_in out))) in
                ap (comp_ok w) (sym (get_or-append (list_from 0 i (comp_in out)) _ no_comp m (omega (arith, list_from-length 0 i (comp_in out))) ∙ list_from-at 0 i (comp_in out) m no_comp d ∙ ap (comp_in out) (omega arith))) ∙ g
            go false e = ap (comp_ok w) (p.rest m (ltb-false m i e)) ∙ comp-good w st v m c

-- ── room for all ──
-- where they are few enough afterwards, the pass over all components finds room
pub pass_fits : (cs : List Comp) (before out : List ℕ) (r : Option ℕ) → PassesAs cs before out r → length cs ≤ 256 → (comps_of (record { c = out; n = length cs }) ≡ cs) × PastKept (length cs) before out
pass_fits cs before out None p h = absurd (omega arith)
pass_fits cs before out (Some k) p h = (subst (λ n. comps_of (record { c = out; n = n }) ≡ cs) p.1 p.0, subst (λ n. PastKept n before out) p.1 p.3)
