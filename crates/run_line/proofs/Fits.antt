-- A line has at most 13,329 bytes, so that it stands whole in a buffer of that many.
-- A name has at most 16 bytes, a label with its space 52, and a step at most one action for each of its at most 256 components.
use Prim.Native.Nat.{ℕ, zero, suc, ◌+◌, ◌*◌, ◌≤◌}
use native.Mathlib.Omega.{arith}
use mathlib.Core.List.{List, [], ◌∷◌, flat_map}
use mathlib.Core.Bool.{Bool, true, false, cond}
use mathlib.Core.Path.{◌≡◌, subst}
use lib.Dec.{eqb}
use lib.ListN.{length, length-map, length-append}
use borrow.Author.Tests.{leb-true}
use Rattle.terms.specs.Names.{Name}
use Rattle.terms.specs.Terms.{Component, Context}
use Rattle.terms.specs.Terms.Label.{called, moved, sent}
use Rattle.terms.specs.Rules.{Answer, Action, Acted, at, act}
use Rattle.terms.specs.Rules.Answer.{refused, accepted}
use Rattle.terms.specs.Step.{idle, took_place, taken, followed, visit, sweep, fires, choice}
use Rattle.table.specs.declared.State.{State}
use Rattle.table.specs.Words.{row_size, chans_at, locs_at, name_at, loc_name, chan_name, def_name, word, ids_at, name_size}
use Rattle.table.specs.Meaning.{context_of, means, comps_of, net_of}
use Rattle.table.proofs.InUse.{comps-length}
use Rattle.table.specs.Valid.{valid}
use Rattle.table.specs.Fire.{Tag, ActedAt, label_of, act_on}
use Rattle.table.proofs.Names.{short-enough}
use Rattle.table.proofs.Fires.{map_a, acted_of}
use Rattle.table.proofs.Granted.{act-means}
use Rattle.calls_act.proofs.Positions.{valid-parts}
use Rattle.run_line.specs.Line.{label_text, spaced, line_text, step_labels}
use Rattle.run_line.specs.Records.{label_by}
use Rattle.run_line.proofs.Labels.{step-before}
use Rattle.run_line.proofs.Lines.{spaced-append}

-- ── names and labels ──
pub name-short : (w : List ℕ) (o : ℕ) → length (name_at w o) ≤ 16
unfolding name_at
name-short w o = leb-true _ 16 (short-enough (record { a = word w o; b = word w (o + 1); c = word w (o + 2); d = word w (o + 3) }))

pub label-short : (w : List ℕ) (t : Tag) → length (label_text (label_of w t)) ≤ 51
unfolding label_text label_of loc_name chan_name def_name
label-short w t = go (eqb t.kind 1) (eqb t.kind 2)
  where
    go : (x y : Bool) → length (label_text (cond x (called (def_name w t.a) (loc_name w t.spot)) (cond y (moved (loc_name w t.a) (loc_name w t.spot)) (sent (chan_name w t.a) (loc_name w t.b) (loc_name w t.spot))))) ≤ 51
    go true y = simp length-append (omega (arith, name-short w (ids_at + t.a * row_size), name-short w (locs_at + t.spot * name_size)))
    go false true = simp length-append (omega (arith, name-short w (locs_at + t.a * name_size), name-short w (locs_at + t.spot * name_size)))
    go false false = simp length-append (omega (arith, name-short w (chans_at + t.a * name_size), name-short w (locs_at + t.b * name_size), name-short w (locs_at + t.spot * name_size)))

-- ── the actions of a step: at most one at a position ──
taken-few : (d : Context) (x : Answer Action) (net : List Component) → length (taken d x net).actions ≤ 1
unfolding taken took_place idle
taken-few d (refused n) net = omega arith
taken-few d (accepted a) net = go (act d a net)
  where
    go : (x : Answer Acted) → length (took_place a x net).actions ≤ 1
    go (refused n) = omega arith
    go (accepted r) = omega arith

visit-few : (d : Context) (l : Name) (p : ℕ) (x : Answer Component) (net : List Component) → length (visit d l p x net).actions ≤ 1
unfolding visit idle
visit-few d l p (refused n) net = omega arith
visit-few d l p (accepted c) net = taken-few d (choice d l p c net) net

sweep-few : (d : Context) (l : Name) (p n : ℕ) (net : List Component) → length (sweep d l p n net).actions ≤ n
unfolding sweep followed idle
sweep-few d l p zero net = omega arith
sweep-few d l p (suc n) net = simp length-append (omega (arith, visit-few d l p (at net p) net, sweep-few d l (suc p) n (visit d l p (at net p) net).comps))

-- document 01, *Step at l*: their number is never above that of the components
pub fires-few : (d : Context) (l : Name) (net : List Component) → length (fires d l net).actions ≤ length net
unfolding fires
fires-few d l net = sweep-few d l 0 (length net) net

-- ── the line ──
module _ (w : List ℕ) (st : State) (v : valid w st ≡ true) where
  one-short : (a : Action) → length (spaced (label_by (act (context_of w) a (net_of w st)))) ≤ 52
  unfolding net_of spaced acted_of
  one-short a = subst (λ x. length (spaced (label_by x)) ≤ 52) (act-means w (valid-parts w st v).0 (comps_of st) (valid-parts w st v).1.each a) (go (act_on w a (comps_of st)))
    where
      go : (x : Answer ActedAt) → length (spaced (label_by (map_a (acted_of w) x))) ≤ 52
      go (refused n) = omega arith
      go (accepted r) = simp length-append (omega (arith, label-short w r.tag))

  all_short : (xs : List Action) → length (spaced (flat_map (λ a. label_by (act (context_of w) a (net_of w st))) xs)) ≤ 52 * length xs
  unfolding flat_map
  all_short [] = unfold spaced in omega arith
  all_short (a ∷ xs) = rw spaced-append (simp length-append (omega (arith, one-short a, all_short xs)))

  pub few : length (net_of w st) ≤ 256
  unfolding net_of
  few = omega (arith, length-map (comps_of st) (means w), comps-length st, (valid-parts w st v).1.few)

  pub line-short : (l : ℕ) → length (line_text (loc_name w l) (step_labels w st l)) ≤ 13_329
  unfolding line_text loc_name
  line-short l =
      let xs = (fires (context_of w) (loc_name w l) (net_of w st)).actions in
      let s : length (spaced (step_labels w st l)) ≤ 52 * length xs = rw (step-before (context_of w) (loc_name w l) (net_of w st)).labels (all_short xs) in
      simp length-append (omega (arith, s, name-short w (locs_at + l * name_size), fires-few (context_of w) (loc_name w l) (net_of w st), few))
