-- An action at positions of a valid table: what the code leaves stands for what the rules leave.
-- Idea: the components in use are the first n of the array, so reading and setting one of them is reading and setting in the list.
use Prim.Native.Nat.{ℕ, zero, suc, ◌+◌, ◌*◌, ◌<◌, ◌≤◌}
use native.Mathlib.Omega.{arith}
use native.Mathlib.Numerals.{add-one}
use mathlib.Core.List.{List, [], ◌∷◌, map}
use mathlib.Core.Bool.{Bool, true, false, cond}
use mathlib.Core.Logic.{◌⊎◌, inl, inr}
use mathlib.Core.Path.{◌≡◌, refl, sym, ap, ap₂, subst, ◌∙◌}
use lib.Dec.{ltb}
use lib.ListN.{length, get_or}
use lib.Seq.{length-sets}
use borrow.Author.Tests.{ltb-true, lt-ltb, le-ltb}
use Rattle.terms.specs.Rules.{Answer, Kind, Action, ◌>>=◌, at, set_all, positions}
use Rattle.terms.specs.Rules as R
use Rattle.terms.specs.Rules.Answer.{refused, accepted}
use Rattle.terms.specs.Rules.Action.{single, pair}
use Rattle.terms.specs.Same.{every}
use Rattle.waits.specs.Waits.{act_tally, countable}
use Rattle.waits.specs.Counted.{act_counted}
use Rattle.terms.proofs.Names.{and-inv}
use Rattle.table.specs.declared.Comp.{Comp}
use Rattle.table.specs.declared.State.{State}
use Rattle.table.specs.Meaning.{PastKept, comp_in, context_of, means, words_in, comps_of, net_of, no_comp, total_in, count_in, waits_of, tally_of, counted_of}
use Rattle.table.specs.Valid.{script_ok, comp_ok, valid}
use Rattle.table.specs.Fire.{Left, ActedAt, tag_held, alone_at, together_at, left_by, act_on}
use Rattle.table.proofs.Tests.{StateFine, comp-fine}
use Rattle.table.proofs.Fires.{map_a, acted_of}
use Rattle.table.proofs.Granted.{act-means}
use Rattle.table.proofs.Kept.{ok_a, good_left, good_acted, alone-kept, together-kept, act-kept}
use Rattle.calls_fire.specs.declared.Fired.{Fired}
use Rattle.calls_fire.specs.declared.Met.{Met}
use Rattle.calls_act.specs.declared.Acted.{Acted}
use Rattle.calls_fire.specs.Fired.{left_one, left_two}
use Rattle.calls_act.specs.Acted.{asked, after, Took, ActsAs, Leaves, LeavesAs, limited, put_at}
use Rattle.table.proofs.InUse.{comps-length, in_use, valid-script, valid-state, comp-held, LedgerFine, valid-ledger, ledger-same, is-valid}
use Rattle.table.proofs.Tags.{GoodTag, ActedTag, act-tagged}
use Rattle.table.proofs.Stores.{comps-put, past-put, past-then, past-total, past-count}
use Rattle.table_waits.specs.Ledger.{counted}
use Rattle.table_waits.proofs.Ledger.{past-others, others-then, counted-others, counted-comps, counted-count, counted-total}
use Rattle.table_waits.proofs.Waits.{waits-small, wait-at, tally-is, act-waits}
use Rattle.table.specs.Words.{comp_size, state_words}

-- ── lists ──
at-get_or : {A : Type 0} (xs : List A) (p : ℕ) (d : A) → p < length xs → at xs p ≡ accepted (get_or xs p d)
unfolding at
at-get_or [] p d h = absurd (omega arith)
at-get_or (x ∷ xs) zero d h = refl
at-get_or (x ∷ xs) (suc p) d h = at-get_or xs p d (omega arith)

pub at-past : {A : Type 0} (xs : List A) (p : ℕ) → length xs ≤ p → at xs p ≡ refused 8
unfolding at
at-past [] p h = refl
at-past (x ∷ xs) zero h = absurd (omega arith)
at-past (x ∷ xs) (suc p) h = at-past xs p (omega arith)

pub at-in-use : (st : State) (p : ℕ) → p < st.n → at (comps_of st) p ≡ accepted (comp_in st.c p)
at-in-use st p h = at-get_or (comps_of st) p no_comp (omega (arith, comps-length st)) ∙ ap accepted (in_use st no_comp p h)

-- ── what question 17 gives ──
pub valid-parts : (w : List ℕ) (st : State) → valid w st ≡ true → (script_ok w ≡ true) × (StateFine w st)
valid-parts w st e = (valid-script w st e, valid-state w st e)

pub few-comps : (w : List ℕ) (st : State) → valid w st ≡ true → st.n ≤ 256
few-comps w st e = (valid-parts w st e).1.few

pub comp-good : (w : List ℕ) (st : State) → valid w st ≡ true → (p : ℕ) → p < st.n → comp_ok w (comp_in st.c p) ≡ true
comp-good w st e = comp-held w st e

-- ── waits, total and count ──
module _ (w : List ℕ) (st : State) (e : valid w st ≡ true) where
  ledger : LedgerFine st.c
  ledger = valid-ledger w st e

  -- what an action that is counted leaves is in range
  still-counted : (a : Action) (c : List ℕ) → countable (a ∷ []) (count_in st.c) ≡ true → total_in c ≡ (act_tally a (tally_of st)).total → count_in c ≡ (act_tally a (tally_of st)).count → LedgerFine c
  unfolding countable tally_of act_tally
  still-counted (single k p) c h t n = ledger-same t n ledger
  still-counted (pair p q) c h t n =
      record {
        few = omega (arith, n, ltb-true (count_in st.c) 1_000_000 (and-inv (ltb (count_in st.c) 1_000_000) true h).0);
        within = omega (arith, t, n, ledger.within, waits-small w (comps_of st) (valid-parts w st e).1.each p);
      }

-- two components that are written leave the total and the count
pub met-ledger : (c : List ℕ) (p q : ℕ) (x y : Comp) → p < 256 → q < 256 → (total_in (put_at (put_at c p x) q y) ≡ total_in c) × (count_in (put_at (put_at c p x) q y) ≡ count_in c)
met-ledger c p q x y h k =
    let m : PastKept 256 c (put_at (put_at c p x) q y) = past-then (omega arith) (past-put c 256 p x h) (past-put (put_at c p x) 256 q y k) in
    (past-total (omega arith) m, past-count (omega arith) m)

-- ── from the table to the rules ──
took : (w : List ℕ) (st : State) (a : Action) (b : ActedAt) (r : Acted) (cs : List ℕ) → valid w st ≡ true → act_on w a (comps_of st) ≡ accepted b → countable (a ∷ []) (count_in st.c) ≡ true → good_acted w b ≡ true → GoodTag w b.tag → Leaves st a b r cs
    → Took w st (record { label = (acted_of w b).label; comps = (acted_of w b).comps; tally = act_tally a (tally_of st) }) r cs
unfolding acted_of net_of
took w st a b r cs e o h g t l =
    let v = valid-parts w st e in
    record {
      code = l.code;
      label = l.tag ∙ sym t.number;
      held = ap (tag_held w) l.tag ∙ t.held;
      comps = ap (map (means w)) l.comps;
      tally = tally-is (tally_of (after st cs)) (act_tally a (tally_of st)) (waits-now o l.comps) (total-now l.total) (count-now l.count);
      good = is-valid w (after st cs) v.0 (record { some = v.1.some; few = v.1.few; each = rw l.comps g }) (still-counted w st e a cs h l.total l.count);
      past = l.past;
    }
  where
    waits-now : act_on w a (comps_of st) ≡ accepted b → comps_of (after st cs) ≡ b.comps → (tally_of (after st cs)).waits ≡ (act_tally a (tally_of st)).waits
    waits-now o e = unfold tally_of in ap waits_of e ∙ act-waits w a (comps_of st) (tally_of st) refl b o

    total-now : total_in cs ≡ (act_tally a (tally_of st)).total → (tally_of (after st cs)).total ≡ (act_tally a (tally_of st)).total
    total-now e = unfold tally_of in e

    count-now : count_in cs ≡ (act_tally a (tally_of st)).count → (tally_of (after st cs)).count ≡ (act_tally a (tally_of st)).count
    count-now e = unfold tally_of in e

pub acts-as : (w : List ℕ) (st : State) (a : Action) (r : Acted) (cs : List ℕ) → valid w st ≡ true → LeavesAs st a (limited st a (act_on w a (comps_of st))) r cs → ActsAs w st (act_counted (context_of w) a (counted_of w st)) r cs
unfolding net_of act_counted limited tally_of
acts-as w st a r cs e l =
    subst (λ x. ActsAs w st (x >>= λ y. cond (countable (a ∷ []) (count_in st.c)) (accepted (record { label = y.label; comps = y.comps; tally = act_tally a (tally_of st) })) (refused 18)) r cs)
    (act-means w v.0 (comps_of st) v.1.each a)
    (go (act_on w a (comps_of st)) refl (act-kept w v.0 (comps_of st) v.1.each a) (act-tagged w v.0 (comps_of st) v.1.each a) l)
  where
    v : (script_ok w ≡ true) × (StateFine w st)
    v = valid-parts w st e

    counted-or-not : (b : ActedAt) → act_on w a (comps_of st) ≡ accepted b → good_acted w b ≡ true → GoodTag w b.tag → (t : Bool) → countable (a ∷ []) (count_in st.c) ≡ t → LeavesAs st a (asked 18 t (accepted b)) r cs
        → ActsAs w st (cond t (accepted (record { label = (acted_of w b).label; comps = (acted_of w b).comps; tally = act_tally a (tally_of st) })) (refused 18)) r cs
    counted-or-not b o g t true h l = took w st a b r cs e o h g t l
    counted-or-not b o g t false h l = l

    go : (x : Answer ActedAt) → act_on w a (comps_of st) ≡ x → ok_a (good_acted w) x ≡ true → ActedTag w x → LeavesAs st a (x >>= λ b. asked 18 (countable (a ∷ []) (count_in st.c)) (accepted b)) r cs
        → ActsAs w st (map_a (acted_of w) x >>= λ y. cond (countable (a ∷ []) (count_in st.c)) (accepted (record { label = y.label; comps = y.comps; tally = act_tally a (tally_of st) })) (refused 18)) r cs
    go (refused n) o g t l = l
    go (accepted b) o g t l = counted-or-not b o g t (countable (a ∷ []) (count_in st.c)) refl l

-- ── what the code leaves ──
-- a refusal of the component at p, or of those at p and q
pub one_refused : (w : List ℕ) (st : State) (k : Kind) (p n : ℕ) → p < st.n → refused n ≡ alone_at w k (comp_in st.c p) → limited st (single k p) (act_on w (single k p) (comps_of st)) ≡ refused n
unfolding act_on left_by limited
one_refused w st k p n h e = let z : at (comps_of st) p ≡ accepted (comp_in st.c p) = at-in-use st p h in rw (z, ← e)

pub two-refused : (w : List ℕ) (st : State) (p q n : ℕ) → p < st.n → q < st.n → refused n ≡ together_at w (comp_in st.c p) (comp_in st.c q) → limited st (pair p q) (act_on w (pair p q) (comps_of st)) ≡ refused n
unfolding act_on left_by limited
two-refused w st p q n h k e =
    let z : at (comps_of st) p ≡ accepted (comp_in st.c p) = at-in-use st p h in
    let y : at (comps_of st) q ≡ accepted (comp_in st.c q) = at-in-use st q k in
    rw (z, y, ← e)

-- question 18 of a communication
pub two-full : (w : List ℕ) (st : State) (p q : ℕ) (f : Left) → p < st.n → q < st.n → accepted f ≡ together_at w (comp_in st.c p) (comp_in st.c q) → 1_000_000 ≤ count_in st.c → limited st (pair p q) (act_on w (pair p q) (comps_of st)) ≡ refused 18
unfolding act_on left_by limited countable
two-full w st p q f h k e m =
    let z : at (comps_of st) p ≡ accepted (comp_in st.c p) = at-in-use st p h in
    let y : at (comps_of st) q ≡ accepted (comp_in st.c q) = at-in-use st q k in
    rw (z, y, ← e, le-ltb (count_in st.c) 1_000_000 m)

-- a call or a move: question 18 does not stand in its way
pub one_left : (w : List ℕ) (st : State) (k : Kind) (p : ℕ) (f : Fired) → valid w st ≡ true → length st.c ≡ state_words → p < st.n → accepted (left_one f) ≡ alone_at w k (comp_in st.c p)
    → LeavesAs st (single k p) (limited st (single k p) (act_on w (single k p) (comps_of st))) (record { code = 0; label = f.label }) (put_at st.c p f.comp)
unfolding act_on left_by positions set_all every limited countable
one_left w st k p f v l h e =
    let z : at (comps_of st) p ≡ accepted (comp_in st.c p) = at-in-use st p h in
    rw (z, ← e) (unfold act_tally tally_of in
    record {
      code = refl;
      tag = refl;
      comps = comps-put st p f.comp h (few-comps w st v) l (comp-fine w f.comp (and-inv (comp_ok w f.comp) _ good).0).slots;
      total = past-total (few-comps w st v) kept;
      count = past-count (few-comps w st v) kept;
      past = past-others (few-comps w st v) kept;
    })
  where
    good : every (comp_ok w) (f.comp ∷ []) ≡ true
    good = subst (λ x. ok_a (good_left w) x ≡ true) (sym e) (alone-kept w (valid-parts w st v).0 k (comp_in st.c p) (comp-fine w _ (comp-good w st v p h)))

    kept : PastKept st.n st.c (put_at st.c p f.comp)
    kept = past-put st.c st.n p f.comp h

-- a communication whose sender had waited as long as the component at p
pub two-left : (w : List ℕ) (st : State) (p q : ℕ) (m : Met) → valid w st ≡ true → length st.c ≡ state_words → p < st.n → q < st.n → accepted (left_two m) ≡ together_at w (comp_in st.c p) (comp_in st.c q) → count_in st.c < 1_000_000
    → LeavesAs st (pair p q) (limited st (pair p q) (act_on w (pair p q) (comps_of st))) (record { code = 0; label = m.label }) (counted (put_at (put_at st.c p m.sender) q m.receiver) 1 (comp_in st.c p).wait)
unfolding act_on left_by positions set_all every limited countable
two-left w st p q m v l h k e b =
    let z : at (comps_of st) p ≡ accepted (comp_in st.c p) = at-in-use st p h in
    let y : at (comps_of st) q ≡ accepted (comp_in st.c q) = at-in-use st q k in
    rw (z, y, ← e, lt-ltb (count_in st.c) 1_000_000 b)
    (
    let i = and-inv (comp_ok w m.sender) _ good in
    let j = and-inv (comp_ok w m.receiver) _ i.1 in
    record {
      code = refl;
      tag = refl;
      comps = both (comp-fine w m.sender i.0).slots (comp-fine w m.receiver j.0).slots;
      total = total-now;
      count = count-now;
      past = others-then (omega arith) (past-others n kept) (counted-others met 1 waited st.n);
    }
    )
  where
    n : st.n ≤ 256
    n = few-comps w st v

    good : every (comp_ok w) (m.sender ∷ m.receiver ∷ []) ≡ true
    good = subst (λ x. ok_a (good_left w) x ≡ true) (sym e) (together-kept w (valid-parts w st v).0 (comp_in st.c p) (comp_in st.c q) (comp-fine w _ (comp-good w st v p h)) (comp-fine w _ (comp-good w st v q k)))

    -- the sender is in its place, and both are
    sent : List ℕ
    sent = put_at st.c p m.sender

    met : List ℕ
    met = put_at sent q m.receiver

    waited : ℕ
    waited = (comp_in st.c p).wait

    kept : PastKept st.n st.c met
    kept = past-then (omega arith) (past-put st.c st.n p m.sender h) (past-put sent st.n q m.receiver k)

    long : length met ≡ state_words
    long = length-sets sent (q * comp_size) (words_in m.receiver) ∙ length-sets st.c (p * comp_size) (words_in m.sender) ∙ l

    both : length m.sender.vals ≡ 8 → length m.receiver.vals ≡ 8 → comps_of (after st (counted met 1 waited)) ≡ R.set (R.set (comps_of st) p m.sender) q m.receiver
    both u v =
        counted-comps met 1 waited st.n n
        ∙ comps-put (after st sent) q m.receiver k n (length-sets st.c (p * comp_size) (words_in m.sender) ∙ l) v
        ∙ ap (λ z. R.set z q m.receiver) (comps-put st p m.sender h n l u)

    total-now : total_in (counted met 1 waited) ≡ (act_tally (pair p q) (tally_of st)).total
    total-now = unfold act_tally tally_of in counted-total met 1 waited long ∙ ap₂ ◌+◌ (past-total n kept) (sym (wait-at st p h))

    count-now : count_in (counted met 1 waited) ≡ (act_tally (pair p q) (tally_of st)).count
    count-now = unfold act_tally tally_of in counted-count met 1 waited long ∙ add-one (count_in met) ∙ ap suc (past-count n kept)

-- a position past the components in use: question 8
pub one_out : (w : List ℕ) (st : State) (k : Kind) (p : ℕ) → st.n ≤ p → limited st (single k p) (act_on w (single k p) (comps_of st)) ≡ refused 8
unfolding act_on left_by limited
one_out w st k p h = rw (at-past (comps_of st) p (omega (arith, comps-length st)))

pub two-out : (w : List ℕ) (st : State) (p q : ℕ) → (st.n ≤ p) ⊎ ((p < st.n) × (st.n ≤ q)) → limited st (pair p q) (act_on w (pair p q) (comps_of st)) ≡ refused 8
unfolding act_on left_by limited
two-out w st p q (inl h) = rw (at-past (comps_of st) p (omega (arith, comps-length st)))
two-out w st p q (inr h) =
    let z : at (comps_of st) p ≡ accepted (comp_in st.c p) = at-in-use st p h.0 in
    rw (z, at-past (comps_of st) q (omega (arith, comps-length st)))
