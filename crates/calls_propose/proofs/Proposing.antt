-- The parts of a proposal on a valid table stand for what the rules make of it so far.
-- An action fires where its label says, so question 16 compares the label's last number; a refusal is never numbered 0.
use Prim.Native.Nat.{ℕ, suc, ◌+◌, ◌<◌, ◌≤◌}
use native.Mathlib.Omega.{arith}
use native.Mathlib.Numerals.{add-one}
use mathlib.Core.List.{List, [], ◌∷◌}
use mathlib.Core.Bool.{Bool, true, false, cond}
use mathlib.Core.Path.{◌≡◌, refl, sym, ap, ap₂, subst, ◌∙◌}
use lib.Dec.{eqb, ltb, leb}
use lib.ListN.{length, get_or, drop, drop_of_length-le}
use lib.Seq.{drop-cons}
use borrow.Author.Tests.{lt-ltb, le-ltb, ltb-true, eq-eqb, ne_eqb}
use Rattle.terms.specs.Names.{Name, same_name}
use Rattle.terms.specs.Terms.{Component, Context, Label, fires_at}
use Rattle.terms.specs.Terms.Label.{called, moved, sent}
use Rattle.terms.specs.Rules.{Answer, Action, ◌>>=◌, act, tick}
use Rattle.terms.specs.Rules as R
use Rattle.terms.specs.Rules.Answer.{refused, accepted}
use Rattle.terms.specs.Rules.Kind.{calls, moves}
use Rattle.terms.specs.Rules.Action.{single, pair}
use Rattle.waits.specs.Waits.{act_tally, countable}
use Rattle.waits.specs.Counted.{Counted, Acted as ActedBy, act_counted}
use Rattle.terms.proofs.Names.{and-inv, name-eq}
use Rattle.terms.proofs.Numbered.{numbered, bind-numbered, act-numbered, tick-numbered}
use Rattle.table.specs.declared.State.{State}
use Rattle.table.specs.Words.{locs_in, loc_name}
use Rattle.table.specs.Meaning.{OthersKept, list_from, context_of, counted_of}
use Rattle.table.specs.Valid.{index, valid}
use Rattle.table.specs.Fire.{tag_in, tag_held, loc_number}
use Rattle.table.proofs.Tests.{script-fine, held-once}
use Rattle.table.proofs.ValidLists.{list_from-length, list_from-at}
use Rattle.table.proofs.Stores.{past-none}
use Rattle.table_waits.proofs.Ledger.{past-others, others-then}
use Rattle.calls_act.specs.declared.Acted.{Acted}
use Rattle.calls_fire.specs.Fired.{tag_of}
use Rattle.calls_act.specs.Acted.{asked, action_of, action_rule, after, ActsAs}
use Rattle.calls_act.specs.Acted as A
use Rattle.calls_act.proofs.Positions.{valid-parts}
use Rattle.calls_tick.specs.declared.Ticked.{Ticked}
use Rattle.calls_tick.specs.Ticked.{room, tick_counted, tick_rule, TicksAs}
use Rattle.calls_propose.specs.declared.Record.{Record}
use Rattle.calls_propose.specs.Proposed.{here_only, record_rule, records_rule, propose_rule, propose_answer, so_far, Next, begun, fired_next, fired_all, ticked_last}

-- ── the answer so far ──
pub far_none : (w : List ℕ) (k : ℕ) (st : State) → (k ≡ 0 → ⊥) → so_far w k st ≡ refused k
unfolding so_far
far_none w k st h = rw (ne_eqb k 0 h)

far_some : (w : List ℕ) (k : ℕ) (st : State) → k ≡ 0 → so_far w k st ≡ accepted (counted_of w st)
unfolding so_far
far_some w k st h = rw (eq-eqb k 0 h)

-- a no: what the components hold is of no use
next-no : (w : List ℕ) (l : ℕ) (st : State) (x : Answer Counted) (k : ℕ) (cs : List ℕ) → (k ≡ 0 → ⊥) → x ≡ refused k → Next w l st x k cs
next-no w l st x k cs h e = record { far = far_none w k (after st cs) h ∙ sym e; held = λ z. absurd (h z) }

pub begin-bad : (w : List ℕ) (st : State) (l : ℕ) → valid w st ≡ false → Next w l st (begun w st l) 17 st.c
unfolding begun
begin-bad w st l v = next-no w l st (begun w st l) 17 st.c (λ z. omega arith) (rw v)

pub begin-out : (w : List ℕ) (st : State) (l : ℕ) → valid w st ≡ true → locs_in w ≤ l → Next w l st (begun w st l) 8 st.c
unfolding begun
begin-out w st l v h = next-no w l st (begun w st l) 8 st.c (λ z. omega arith) (rw (v, le-ltb l (locs_in w) h))

pub begin-in : (w : List ℕ) (st : State) (l : ℕ) → valid w st ≡ true → l < locs_in w → Next w l st (begun w st l) 0 st.c
unfolding begun so_far
begin-in w st l v h = record { far = rw (v, lt-ltb l (locs_in w) h); held = λ z. record { good = v; here = h; past = past-others (valid-parts w st v).1.few (past-none st.n st.c) } }

-- ── where an action fires ──
-- a name stands at its number
index_at : (ys : List Name) (x : Name) → index ys x < length ys → get_or ys (index ys x) [] ≡ x
unfolding index
index_at [] x h = absurd (omega arith)
index_at (y ∷ ys) x h = go (same_name y x) refl h (index_at ys x)
  where
    go : (b : Bool) → same_name y x ≡ b → cond b 0 (suc (index ys x)) < length (y ∷ ys) → (index ys x < length ys → get_or ys (index ys x) [] ≡ x) → get_or (y ∷ ys) (cond b 0 (suc (index ys x))) [] ≡ x
    go true e h f = name-eq y x e
    go false e h f = f (omega arith)

at-number : (w : List ℕ) (l : Name) → loc_number w l < locs_in w → l ≡ loc_name w (loc_number w l)
at-number w l h = sym (index_at (list_from 0 (locs_in w) (loc_name w)) l (omega (arith, list_from-length 0 (locs_in w) (loc_name w)))) ∙ list_from-at 0 (locs_in w) (loc_name w) (loc_number w l) [] h ∙ ap (loc_name w) (omega arith)

fires-spot : (w : List ℕ) (x : Label) → (tag_in w x).spot < locs_in w → fires_at x ≡ loc_name w (tag_in w x).spot
unfolding tag_in fires_at
fires-spot w (called i l) h = at-number w l h
fires-spot w (moved v l) h = at-number w l h
fires-spot w (sent c v l) h = at-number w l h

-- question 16, on the table
fires-here-is : (w : List ℕ) (st : State) (l : ℕ) (b : ActedBy) (a : Acted) (cs : List ℕ) → valid w st ≡ true → l < locs_in w → A.Took w st b a cs → same_name (fires_at b.label) (loc_name w l) ≡ eqb a.label.«at» l
unfolding tag_held
fires-here-is w st l b a cs v h t =
    let s : (tag_of a.label).spot < locs_in w = ltb-true _ _ (and-inv (ltb (tag_of a.label).spot (locs_in w)) _ t.held).0 in
    let e : (tag_of a.label).spot ≡ (tag_in w b.label).spot = ap (λ z. z.spot) t.label in
    rw (fires-spot w b.label (omega (arith, s, e)), ← e) (held-once _ (loc_name w) (locs_in w) (script-fine w (valid-parts w st v).0).loc-names a.label.«at» l s h)

-- ── one record ──
counted-numbered : (d : Context) (a : Action) (k : Counted) → numbered (act_counted d a k)
unfolding act_counted
counted-numbered d a k = bind-numbered (act d a k.comps) _ (act-numbered d a k.comps) (λ r. go (countable (a ∷ []) k.tally.count) r)
  where
    go : (b : Bool) (r : R.Acted) → numbered {A = ActedBy} (cond b (accepted (record { label = r.label; comps = r.comps; tally = act_tally a k.tally })) (refused 18))
    go true r = tt
    go false r = λ e. omega arith

rule-numbered : (w : List ℕ) (st : State) (k p q : ℕ) → numbered (action_rule w st k p q)
unfolding action_rule action_of
rule-numbered w st k p q = go (eqb k 1) (eqb k 2) (eqb k 3)
  where
    go : (x y z : Bool) → numbered (cond x (accepted (single calls p)) (cond y (accepted (single moves p)) (cond z (accepted (pair p q)) (refused 8))) >>= λ a. act_counted (context_of w) a (counted_of w st))
    go true y z = counted-numbered (context_of w) (single calls p) (counted_of w st)
    go false true z = counted-numbered (context_of w) (single moves p) (counted_of w st)
    go false false true = counted-numbered (context_of w) (pair p q) (counted_of w st)
    go false false false = λ e. omega arith

-- what the rules say where the code's answer is 0
act-accepted : (w : List ℕ) (st : State) (k p q : ℕ) (a : Acted) (cs : List ℕ) → ActsAs w st (action_rule w st k p q) a cs → a.code ≡ 0 → (b : ActedBy) × (action_rule w st k p q ≡ accepted b) × A.Took w st b a cs
act-accepted w st k p q a cs h e = go (action_rule w st k p q) (rule-numbered w st k p q) h
  where
    go : (x : Answer ActedBy) → numbered x → ActsAs w st x a cs → (b : ActedBy) × (x ≡ accepted b) × A.Took w st b a cs
    go (refused n) m h = absurd (m (ap (λ y. y.code) (sym h.0) ∙ e))
    go (accepted b) m h = (b, refl, h)

-- and where it is not
act-refused : (w : List ℕ) (st : State) (k p q : ℕ) (a : Acted) (cs : List ℕ) → ActsAs w st (action_rule w st k p q) a cs → (a.code ≡ 0 → ⊥) → action_rule w st k p q ≡ refused a.code
act-refused w st k p q a cs h e = go (action_rule w st k p q) h
  where
    go : (x : Answer ActedBy) → ActsAs w st x a cs → x ≡ refused a.code
    go (refused n) h = ap refused (ap (λ y. y.code) (sym h.0))
    go (accepted b) h = absurd (e h.code)

-- a record is its action, then question 16
record_is : (w : List ℕ) (st : State) (l : Name) (r : Record) → record_rule (context_of w) l r (counted_of w st) ≡ (action_rule w st r.kind r.p r.q >>= here_only l)
unfolding record_rule action_rule
record_is w st l r = go (action_of r.kind r.p r.q)
  where
    go : (a : Answer Action) → (a >>= λ y. act_counted (context_of w) y (counted_of w st) >>= here_only l) ≡ ((a >>= λ y. act_counted (context_of w) y (counted_of w st)) >>= here_only l)
    go (refused n) = refl
    go (accepted y) = refl

module _ (w : List ℕ) (st : State) (l : ℕ) (r : Record) (v : valid w st ≡ true) (here : l < locs_in w) (a : Acted) (cs : List ℕ) (h : ActsAs w st (action_rule w st r.kind r.p r.q) a cs) where
  -- what the rules make of the record
  abbrev fired : Answer Counted
  fired = fired_next w l r (so_far w 0 st)

  fired-is : fired ≡ (action_rule w st r.kind r.p r.q >>= here_only (loc_name w l))
  unfolding fired_next
  fired-is = ap (λ x. x >>= record_rule (context_of w) (loc_name w l) r) (far_some w 0 st refl) ∙ record_is w st (loc_name w l) r

  -- questions 8 to 11, 20 and 18
  pub next-refused : (a.code ≡ 0 → ⊥) → Next w l st fired a.code cs
  next-refused e = next-no w l st fired a.code cs e (fired-is ∙ ap (λ x. x >>= here_only (loc_name w l)) (act-refused w st r.kind r.p r.q a cs h e))

  module _ (e : a.code ≡ 0) where
    answer : (b : ActedBy) × (action_rule w st r.kind r.p r.q ≡ accepted b) × A.Took w st b a cs
    answer = act-accepted w st r.kind r.p r.q a cs h e

    -- what it leaves
    abbrev now : Counted
    now = record { comps = answer.0.comps; tally = answer.0.tally }

    decided : fired ≡ cond (eqb a.label.«at» l) (accepted now) (refused 16)
    unfolding here_only
    decided = fired-is ∙ ap (λ x. x >>= here_only (loc_name w l)) answer.1 ∙ ap (λ x. cond x (accepted now) (refused 16)) (fires-here-is w st l answer.0 a cs v here answer.2)

    -- question 16
    pub next-elsewhere : (a.label.«at» ≡ l → ⊥) → Next w l st fired 16 cs
    next-elsewhere k = next-no w l st fired 16 cs (λ i. omega arith) (decided ∙ rw (ne_eqb _ _ k))

    pub next-fired : a.label.«at» ≡ l → Next w l st fired 0 cs
    next-fired k = record {
      far = far_some w 0 (after st cs) refl ∙ ap₂ (λ cs t. accepted (record { comps = cs; tally = t })) answer.2.comps answer.2.tally ∙ sym (decided ∙ rw (eq-eqb _ _ k));
      held = λ z. record { good = answer.2.good; here = here; past = answer.2.past };
    }

-- ── the tick ──
room-numbered : (cs : List Component) → numbered (room cs)
unfolding room
room-numbered cs = go (leb (length cs) 256)
  where
    go : (b : Bool) → numbered (asked 13 b (accepted cs))
    go true = tt
    go false = λ e. omega arith

last-numbered : (d : Context) (l : Name) (k : Counted) → numbered (tick_counted d l k)
unfolding tick_counted
last-numbered d l k = bind-numbered (tick d l k.comps >>= room) _ (bind-numbered (tick d l k.comps) room (tick-numbered d l k.comps) room-numbered) (λ cs. tt)

-- what the actions leave, and the tick on it
module _ (w : List ℕ) (l : ℕ) (st : State) (cs : List ℕ) where
  abbrev lastly : Answer Counted
  lastly = tick_counted (context_of w) (loc_name w l) (counted_of w (after st cs))

  lastly-is : l < locs_in w → (ticked_last w l (so_far w 0 (after st cs)) ≡ lastly) × (tick_rule w (after st cs) l ≡ lastly)
  unfolding ticked_last tick_rule
  lastly-is h = (rw (far_some w 0 (after st cs) refl), rw (lt-ltb l (locs_in w) h))

  pub last-refused : (k : ℕ) → (k ≡ 0 → ⊥) → ticked_last w l (so_far w k (after st cs)) ≡ refused k
  unfolding ticked_last
  last-refused k h = rw (far_none w k (after st cs) h)

  module _ (here : l < locs_in w) (t : Ticked) (out : List ℕ) (h : TicksAs w (after st cs) (tick_rule w (after st cs) l) t out) where
    -- all or none
    pub last_none : (t.code ≡ 0 → ⊥) → ticked_last w l (so_far w 0 (after st cs)) ≡ refused t.code
    last_none e = (lastly-is here).0 ∙ go lastly (subst (λ x. TicksAs w (after st cs) x t out) (lastly-is here).1 h)
      where
        go : (x : Answer Counted) → TicksAs w (after st cs) x t out → x ≡ refused t.code
        go (refused n) h = ap (λ y. refused y.code) (sym h.0)
        go (accepted cs) h = absurd (e h.code)

    pub last-all : OthersKept st.n st.c cs → t.code ≡ 0 → TicksAs w st (ticked_last w l (so_far w 0 (after st cs))) t out
    last-all k e = subst (λ x. TicksAs w st x t out) (sym (lastly-is here).0) (go lastly (last-numbered (context_of w) (loc_name w l) (counted_of w (after st cs))) (subst (λ x. TicksAs w (after st cs) x t out) (lastly-is here).1 h))
      where
        go : (x : Answer Counted) → numbered x → TicksAs w (after st cs) x t out → TicksAs w st x t out
        go (refused n) m h = absurd (m (ap (λ y. y.code) (sym h.0) ∙ e))
        go (accepted cs) m h = record { code = h.code; comps = h.comps; tally = h.tally; good = h.good; grows = h.grows; past = others-then h.grows k h.past }

-- ── the list ──
abbrev pub zero-record : Record
zero-record = record { kind = 0; p = 0; q = 0 }

fired-cons : (w : List ℕ) (l : ℕ) (r : Record) (rs : List Record) (x : Answer Counted) → fired_all w l (r ∷ rs) x ≡ fired_all w l rs (fired_next w l r x)
unfolding fired_all fired_next records_rule
fired-cons w l r rs (refused n) = refl
fired-cons w l r rs (accepted net) = refl

-- one record is fired, and the others are left
pub one_more : (w : List ℕ) (l : ℕ) (rs : List Record) (x : Answer Counted) (i : ℕ) → i < length rs → fired_all w l (drop i rs) x ≡ fired_all w l (drop (i + 1) rs) (fired_next w l (get_or rs i zero-record) x)
one_more w l rs x i h =
    ap (λ ys. fired_all w l ys x) (drop-cons rs i zero-record h ∙ ap (λ n. get_or rs i zero-record ∷ drop n rs) (sym (add-one i)))
    ∙ fired-cons w l (get_or rs i zero-record) (drop (i + 1) rs) x

pub all-fired : (w : List ℕ) (l : ℕ) (rs : List Record) (x : Answer Counted) (i : ℕ) → length rs ≤ i → fired_all w l (drop i rs) x ≡ x
unfolding fired_all records_rule
all-fired w l rs x i h = rw (drop_of_length-le rs h) (same x)
  where
    same : (y : Answer Counted) → (y >>= accepted) ≡ y
    same (refused n) = refl
    same (accepted net) = refl

-- after a refusal nothing is fired
pub none-fired : (w : List ℕ) (l : ℕ) (rs : List Record) (k : ℕ) (st : State) → (k ≡ 0 → ⊥) → fired_all w l rs (so_far w k st) ≡ so_far w k st
unfolding fired_all
none-fired w l rs k st h = rw (far_none w k st h)

-- a no of what was fired is one of all
pub fired-no : (w : List ℕ) (l : ℕ) (st : State) (rs : List Record) (x y : Answer Counted) (k : ℕ) (cs : List ℕ) → (k ≡ 0 → ⊥) → fired_all w l rs x ≡ y → so_far w k (after st cs) ≡ x → Next w l st y k cs
fired-no w l st rs x y k cs h e f = record {
  far = sym (none-fired w l rs k (after st cs) h) ∙ ap (fired_all w l rs) f ∙ e;
  held = λ z. absurd (h z);
}

-- the parts together are the proposal
pub proposal-is : (w : List ℕ) (st : State) (l : ℕ) (rs : List Record) → ticked_last w l (fired_all w l rs (begun w st l)) ≡ propose_answer w st l rs
unfolding ticked_last fired_all begun propose_rule propose_answer
proposal-is w st l rs = go (valid w st) (ltb l (locs_in w))
  where
    go : (a b : Bool) → ((asked 17 a (asked 8 b (accepted (counted_of w st))) >>= records_rule (context_of w) (loc_name w l) rs) >>= tick_counted (context_of w) (loc_name w l))
        ≡ asked 17 a (asked 8 b (records_rule (context_of w) (loc_name w l) rs (counted_of w st) >>= tick_counted (context_of w) (loc_name w l)))
    go true true = refl
    go true false = refl
    go false b = refl
