-- The label of an action from its components alone.
-- Idea: an action on a table is the rules' action on what the table stands for, and its label is that of what `fire` makes of its components.
use Prim.Native.Nat.{ℕ, ◌<◌, ◌≤◌}
use native.Mathlib.Omega.{arith}
use mathlib.Core.List.{List}
use mathlib.Core.Bool.{true}
use mathlib.Core.Logic.{◌⊎◌, inl, inr}
use mathlib.Core.Path.{◌≡◌, refl, ap, ◌∙◌}
use Rattle.terms.specs.Terms.{Label}
use Rattle.terms.specs.Rules.{Answer, Kind, Action, ◌>>=◌, at, act, positions, set_all}
use Rattle.terms.specs.Rules.Answer.{refused, accepted}
use Rattle.terms.specs.Rules.Action.{single, pair}
use Rattle.table.specs.declared.State.{State}
use Rattle.table.specs.Meaning.{comp_in, context_of, comps_of, net_of}
use Rattle.table.specs.Valid.{valid}
use Rattle.table.specs.Fire.{Left, label_of, alone_at, together_at, left_by, act_on}
use Rattle.table.proofs.InUse.{comps-length}
use Rattle.table.proofs.Fires.{map_a, acted_of}
use Rattle.table.proofs.Granted.{act-means}
use Rattle.calls_fire.specs.declared.Label.{Label as Numbers}
use Rattle.calls_act.proofs.Positions.{at-past, at-in-use, valid-parts}
use Rattle.calls_act.specs.Acted.{acted_of as numbers_of}
use Rattle.calls_act.specs.Labelled.{name_of, named, labelled}
use Rattle.std.specs.Prelude.{Result, Ok, Err}
use Rattle.terms.specs.Refusals.{number_of, answer_of}
use Rattle.terms.specs.declared.refusal.Refusal.{Refusal}
use Rattle.terms.proofs.Refusals.{number-some}
use borrow.Author.Tests.{ne_eqb}

-- the label of what an action makes of its components
abbrev pub tagged : List ℕ → Answer Left → Answer Label
tagged w x = x >>= λ f. accepted (label_of w f.tag)

module _ (w : List ℕ) (st : State) (v : valid w st ≡ true) where
  pub on-table : (a : Action) → tagged w (left_by w a (comps_of st)) ≡ labelled (act (context_of w) a (net_of w st))
  unfolding net_of act_on acted_of
  on-table a = go (left_by w a (comps_of st)) ∙ ap labelled (act-means w (valid-parts w st v).0 (comps_of st) (valid-parts w st v).1.each a)
    where
      go : (x : Answer Left) → tagged w x ≡ labelled (map_a (acted_of w) (x >>= λ f. accepted (record { tag = f.tag; comps = set_all (positions a) f.after (comps_of st) })))
      go (refused n) = refl
      go (accepted f) = refl

  -- a position past the components in use: question 8
  pub one-past : (k : Kind) (p : ℕ) → st.n ≤ p → refused 8 ≡ labelled (act (context_of w) (single k p) (net_of w st))
  unfolding left_by
  one-past k p h = rw (at-past (comps_of st) p (omega (arith, comps-length st))) at (on-table (single k p))

  -- what `fire` answers of the component there
  pub one_at : (k : Kind) (p : ℕ) (x : Answer Left) → p < st.n → x ≡ alone_at w k (comp_in st.c p) → tagged w x ≡ labelled (act (context_of w) (single k p) (net_of w st))
  unfolding left_by
  one_at k p x h e =
      let z : at (comps_of st) p ≡ accepted (comp_in st.c p) = at-in-use st p h in
      ap (tagged w) e ∙ (rw z at (on-table (single k p)))

  pub two-past : (p q : ℕ) → (st.n ≤ p) ⊎ ((p < st.n) × (st.n ≤ q)) → refused 8 ≡ labelled (act (context_of w) (pair p q) (net_of w st))
  unfolding left_by
  two-past p q (inl h) = rw (at-past (comps_of st) p (omega (arith, comps-length st))) at (on-table (pair p q))
  two-past p q (inr h) =
      let z : at (comps_of st) p ≡ accepted (comp_in st.c p) = at-in-use st p h.0 in
      rw (z, at-past (comps_of st) q (omega (arith, comps-length st))) at (on-table (pair p q))

  pub two_at : (p q : ℕ) (x : Answer Left) → p < st.n → q < st.n → x ≡ together_at w (comp_in st.c p) (comp_in st.c q) → tagged w x ≡ labelled (act (context_of w) (pair p q) (net_of w st))
  unfolding left_by
  two_at p q x h k e =
      let z : at (comps_of st) p ≡ accepted (comp_in st.c p) = at-in-use st p h in
      let y : at (comps_of st) q ≡ accepted (comp_in st.c q) = at-in-use st q k in
      ap (tagged w) e ∙ (rw (z, y) at (on-table (pair p q)))

-- the answer in numbers names what the answer was
pub named-answer : (w : List ℕ) (r : Result Numbers Refusal) → named w (numbers_of r) ≡ answer_of (name_of w) r
unfolding named
named-answer w (Ok l) = refl
named-answer w (Err e) = rw (ne_eqb (number_of e) 0 (number-some e))
