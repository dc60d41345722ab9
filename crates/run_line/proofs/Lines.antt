-- The line made of the records of a step is the line of the step, and the records that an accepted step gave back are such records.
-- By the law of Labels: the action of each record has its label already in the network before the step.
use Prim.Native.Nat.{ℕ, suc, ◌+◌, ◌*◌, ◌≤◌, ◌<◌}
use native.Mathlib.Omega.{arith}
use native.Mathlib.Numerals.{add-one}
use mathlib.Core.List.{List, [], ◌∷◌, ◌++◌, map, append_assoc, append-nil, flat_map}
use mathlib.Core.Bool.{Bool, true, false, cond, false≢true}
use mathlib.Core.Path.{◌≡◌, refl, ap, sym, ◌∙◌}
use lib.Dec.{eqb, leb, ltb}
use lib.ListN.{length, get_or, take, drop, length-map, length-append, drop_of_length-le}
use lib.Seq.{drop-cons, take_at, take-length}
use borrow.Author.Tests.{eq-eqb, ne_eqb}
use Rattle.terms.specs.Names.{bytes, same_name}
use Rattle.terms.specs.Terms.{Component, Label}
use Rattle.terms.specs.Same.{every}
use Rattle.terms.specs.Rules.{Answer, Action, Acted as ActedBy, ◌>>=◌, ok, act, pass}
use Rattle.terms.specs.Rules.Answer.{refused, accepted}
use Rattle.terms.specs.Rules.Kind.{calls, moves}
use Rattle.terms.specs.Rules.Action.{single, pair}
use Rattle.terms.specs.Step.{fires}
use Rattle.terms.proofs.Answers.{clash, took}
use Rattle.terms.proofs.Steps.{step-accepted}
use Rattle.table.specs.declared.State.{State}
use Rattle.table.specs.Words.{row_size, locs_at, locs_in, name_at, loc_name, chan_name, def_name, ids_at, name_size}
use Rattle.table.specs.Meaning.{context_of, net_of, tally_of}
use Rattle.table.specs.Valid.{valid}
use Rattle.table.specs.Fire.{label_of}
use Rattle.table.proofs.Tests.{every-get_or}
use Rattle.calls_act.specs.declared.Acted.{Acted}
use Rattle.calls_fire.specs.Fired.{tag_of}
use Rattle.calls_act.specs.Acted.{asked, action_of, action_allowed}
use Rattle.calls_act.specs.Labelled.{named, labelled}
use Rattle.waits.specs.Waits.{Tally, step_tally, countable}
use Rattle.calls_tick.specs.Ticked.{room}
use Rattle.calls_sweep.specs.Sweep.{rec_of}
use Rattle.calls_step.specs.declared.Stepped.{Stepped}
use Rattle.calls_step.specs.Stepped.{step_of, step_counted, step_rule, step_answer, Took, StepsAs}
use Rattle.run_line.specs.Line.{label_text, spaced, step_labels}
use Rattle.run_line.specs.Records.{label_by, answer_by, label_in, may_fire, Holds}
use Rattle.run_line.proofs.Labels.{Before, step-before}
use Rattle.calls_fire.specs.declared.Label.{Label as Numbers}

-- ── the label of one record ──
-- a label in numbers, by its kind; o is the number of the definition called or of the location moved to
pub label-call : (w : List ℕ) (x : Numbers) (o : ℕ) → x.kind ≡ 1 → o ≡ x.a → name_at w (ids_at + o * row_size) ++ (bytes "@" ++ loc_name w x.«at») ≡ label_text (label_of w (tag_of x))
unfolding label_text label_of def_name
label-call w x o k e = rw (eq-eqb x.kind 1 k, e)

pub label-move : (w : List ℕ) (x : Numbers) (o : ℕ) → (x.kind ≡ 1 → ⊥) → x.kind ≡ 2 → o ≡ x.a → name_at w (locs_at + o * name_size) ++ (bytes "@" ++ loc_name w x.«at») ≡ label_text (label_of w (tag_of x))
unfolding label_text label_of loc_name
label-move w x o n k e = rw (ne_eqb x.kind 1 n, eq-eqb x.kind 2 k, e)

pub label-sent : (w : List ℕ) (x : Numbers) → (x.kind ≡ 1 → ⊥) → (x.kind ≡ 2 → ⊥)
    → chan_name w x.a ++ (bytes "<" ++ (loc_name w x.b ++ (bytes ">@" ++ loc_name w x.«at»))) ≡ label_text (label_of w (tag_of x))
unfolding label_text label_of
label-sent w x m n = rw (ne_eqb x.kind 1 m, ne_eqb x.kind 2 n)

-- an action that is accepted has the label that the code gives back
pub action-text : (w : List ℕ) (x : Answer ActedBy) (r : Acted) → named w r ≡ labelled x → ok x ≡ true → bytes " " ++ label_text (label_of w (tag_of r.label)) ≡ spaced (label_by x)
unfolding spaced named
action-text w (refused n) r e o = absurd (false≢true o)
action-text w (accepted a) r e o = ap (λ z. 32 ∷ z) (sym (append-nil (label_text (label_of w (tag_of r.label)))) ∙ ap (λ z. label_text z ++ []) (go (eqb r.code 0) e))
  where
    go : (b : Bool) → cond b (accepted (label_of w (tag_of r.label))) (refused r.code) ≡ accepted a.label → label_of w (tag_of r.label) ≡ a.label
    go true e = took e
    go false e = clash e

-- ── one record after the other ──
pub spaced-append : (xs ys : List Label) → spaced (xs ++ ys) ≡ spaced xs ++ spaced ys
unfolding spaced
spaced-append [] ys = refl
spaced-append (x ∷ xs) ys = ap (λ z. 32 ∷ z) (ap (λ z. label_text x ++ z) (spaced-append xs ys) ∙ sym (append_assoc (label_text x) (spaced xs) (spaced ys)))

module _ (w : List ℕ) (st : State) (records : List (List ℕ)) where
  -- what is left to put from the record j on
  abbrev pub rest : ℕ → List ℕ
  rest j = spaced (flat_map (label_in w st) (drop j records))

  pub rest-next : (j : ℕ) → j < length records → rest j ≡ spaced (label_in w st (get_or records j [])) ++ rest (j + 1)
  unfolding flat_map
  rest-next j h =
      ap (λ z. spaced (flat_map (label_in w st) z)) (drop-cons records j [] h)
      ∙ spaced-append (label_in w st (get_or records j [])) (flat_map (label_in w st) (drop (suc j) records))
      ∙ ap (λ m. spaced (label_in w st (get_or records j [])) ++ rest m) (sym (add-one j))

  pub rest_end : (j : ℕ) → length records ≤ j → rest j ≡ []
  unfolding flat_map spaced
  rest_end j h = rw (drop_of_length-le records h)

  pub fires-at : (j : ℕ) → j < length records → every (may_fire w st) records ≡ true → may_fire w st (get_or records j []) ≡ true
  fires-at j h e = every-get_or (may_fire w st) records [] j e h

-- ── the records of a step ──
-- the rules answer a record as they answer its action
answered : (w : List ℕ) (st : State) (a : Action) → answer_by w st (rec_of a) ≡ act (context_of w) a (net_of w st)
unfolding action_allowed action_of
answered w st (single calls p) = refl
answered w st (single moves p) = refl
answered w st (pair p q) = refl

labels-of : (w : List ℕ) (st : State) (xs : List Action) → flat_map (label_in w st) (map rec_of xs) ≡ flat_map (λ a. label_by (act (context_of w) a (net_of w st))) xs
unfolding flat_map
labels-of w st [] = refl
labels-of w st (a ∷ xs) = rw (answered w st a, labels-of w st xs)

fires-of : (w : List ℕ) (st : State) (xs : List Action) → every (may_fire w st) (map rec_of xs) ≡ every (λ a. ok (act (context_of w) a (net_of w st))) xs
unfolding every
fires-of w st [] = refl
fires-of w st (a ∷ xs) = rw (answered w st a, fires-of w st xs)

module _ (w : List ℕ) (st : State) (l : ℕ) (records : List (List ℕ)) (n : ℕ) (h : Holds w st l records n) where
  before : Before (context_of w) (net_of w st) (fires (context_of w) (loc_name w l) (net_of w st)).actions (step_labels w st l)
  before = step-before (context_of w) (loc_name w l) (net_of w st)

  pub held-labels : flat_map (label_in w st) (take n records) ≡ step_labels w st l
  held-labels = ap (flat_map (label_in w st)) h.actions ∙ labels-of w st _ ∙ sym before.labels

  -- the same of the records alone
  pub held-front : Holds w st l (take n records) (length (take n records))
  held-front = record { good = h.good; within = omega arith; actions = take-length (take n records) ∙ h.actions }

  pub held-fire : every (may_fire w st) (take n records) ≡ true
  held-fire = ap (every (may_fire w st)) h.actions ∙ fires-of w st _ ∙ before.fire

-- ── for the caller of a step ──
-- the first records that an accepted step gave back are those of its actions
module _ (w : List ℕ) (st : State) (l size : ℕ) (r : Stepped) (ds : List ℕ) (before after : List (List ℕ)) where
  abbrev xs : List Action
  xs = (fires (context_of w) (loc_name w l) (net_of w st)).actions

  took-holds : (cs : List Component) (u : Tally) → valid w st ≡ true → Took w st (step_of (fires (context_of w) (loc_name w l) (net_of w st)).actions cs u) r ds before after → Holds w st l after r.count
  took-holds cs u v t =
      let n : length (map rec_of xs) ≡ r.count = length-map xs rec_of ∙ sym t.count in
      record {
        good = v;
        within = omega (arith, n, ap length t.records, length-append (map rec_of xs) (drop (length xs) before));
        actions = ap (take r.count) t.records ∙ take_at (map rec_of xs) _ r.count n;
      }

  -- a refusal has its number, which is not 0
  by-questions : (v a b x c : Bool) (cs : List Component) (u : Tally) → valid w st ≡ v
      → StepsAs w st (asked 17 v (asked 8 a (asked 15 b (asked 18 x (asked 13 c (accepted cs) >>= λ cs. accepted (step_of (fires (context_of w) (loc_name w l) (net_of w st)).actions cs u)))))) r ds before after
      → r.code ≡ 0 → Holds w st l after r.count
  by-questions true true true true true cs u v t z = took-holds cs u v t
  by-questions false a b x c cs u v t z = absurd (omega (arith, z, ap (λ r. r.code) t.0))
  by-questions true false b x c cs u v t z = absurd (omega (arith, z, ap (λ r. r.code) t.0))
  by-questions true true false x c cs u v t z = absurd (omega (arith, z, ap (λ r. r.code) t.0))
  by-questions true true true false c cs u v t z = absurd (omega (arith, z, ap (λ r. r.code) t.0))
  by-questions true true true true false cs u v t z = absurd (omega (arith, z, ap (λ r. r.code) t.0))

  pub step-holds : StepsAs w st (step_answer w st l size) r ds before after → r.code ≡ 0 → Holds w st l after r.count
  unfolding step_answer step_rule step_counted room
  step-holds s z =
      let cs = flat_map (pass (context_of w) (λ m. same_name m (loc_name w l)) (loc_name w l)) (fires (context_of w) (loc_name w l) (net_of w st)).comps in
      by-questions (valid w st) (ltb l (locs_in w)) (leb (length xs) size) (countable xs (tally_of st).count) (leb (length cs) 256) cs (step_tally (context_of w) (loc_name w l) (net_of w st) (tally_of st)) refl (rw (step-accepted (context_of w) (loc_name w l) (net_of w st)) at s) z
