-- The records of a step, shown one by one with the components as they were before it, have the labels of the step, in its order.
-- By the law step-before of run_line: an action of a step has the same label in the network before the step.
use Prim.Native.Nat.{ℕ}
use mathlib.Core.List.{List, [], ◌∷◌, ◌++◌, map, flat_map}
use mathlib.Core.Bool.{true, false≢true}
use mathlib.Core.Path.{◌≡◌, refl, ap, sym, ◌∙◌}
use lib.ListN.{get_or, take}
use Rattle.terms.specs.Same.{every}
use Rattle.terms.specs.Rules.{Answer, Acted, ok, ◌>>=◌}
use Rattle.terms.specs.Rules.Answer.{refused, accepted}
use Rattle.terms.proofs.Names.{and-inv}
use Rattle.table.specs.declared.State.{State}
use Rattle.table.specs.Valid.{valid}
use Rattle.table.proofs.Fires.{map-append}
use Rattle.calls_step.specs.declared.Stepped.{Stepped}
use Rattle.calls_step.specs.Stepped.{step_answer, StepsAs}
use Rattle.run_line.specs.Line.{label_text, step_labels}
use Rattle.run_line.specs.Records.{label_by, answer_by, label_in, may_fire}
use Rattle.run_line.proofs.Lines.{held-labels, held-fire, step-holds}
use Rattle.host.specs.Shown.{holding, label_answer}

-- the label call for the action of a record
abbrev pub shown : List ℕ → State → ℕ → List ℕ → Answer (List ℕ)
shown w st m e = label_answer w st (get_or e 0 0) (get_or e 1 0) (get_or e 2 0) m

module _ (w : List ℕ) (st : State) (m : ℕ) (v : valid w st ≡ true) where
  shown-one : (e : List ℕ) → may_fire w st e ≡ true → shown w st m e ∷ [] ≡ map (λ x. holding (label_text x) m) (label_in w st e)
  unfolding label_answer
  shown-one e h = rw v (go (answer_by w st e) h)
    where
      go : (x : Answer Acted) → ok x ≡ true → (x >>= λ a. holding (label_text a.label) m) ∷ [] ≡ map (λ x. holding (label_text x) m) (label_by x)
      go (refused n) h = absurd (false≢true h)
      go (accepted a) h = refl

  shown-all : (es : List (List ℕ)) → every (may_fire w st) es ≡ true → map (shown w st m) es ≡ map (λ x. holding (label_text x) m) (flat_map (label_in w st) es)
  unfolding every flat_map
  shown-all [] h = refl
  shown-all (e ∷ es) h =
      let p = and-inv (may_fire w st e) _ h in
      ap (λ z. z ++ map (shown w st m) es) (shown-one e p.0)
      ∙ ap (λ z. map (λ x. holding (label_text x) m) (label_in w st e) ++ z) (shown-all es p.1)
      ∙ sym (map-append (λ x. holding (label_text x) m) (label_in w st e) (flat_map (label_in w st) es))

-- of an accepted step: what the label call answers to each of its records
pub step-shown : (w : List ℕ) (st : State) (l size m : ℕ) (r : Stepped) (ds : List ℕ) (before after : List (List ℕ)) → StepsAs w st (step_answer w st l size) r ds before after → r.code ≡ 0
    → map (shown w st m) (take r.count after) ≡ map (λ x. holding (label_text x) m) (step_labels w st l)
step-shown w st l size m r ds before after s z =
    let h = step-holds w st l size r ds before after s z in
    shown-all w st m h.good (take r.count after) (held-fire w st l after r.count h) ∙ ap (map (λ x. holding (label_text x) m)) (held-labels w st l after r.count h)
