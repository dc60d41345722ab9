-- The label of an action, and its text.
use Prim.Native.Nat.{ℕ}
use mathlib.Core.List.{List}
use mathlib.Core.Bool.{true}
use mathlib.Core.Path.{◌≡◌, refl, ap, sym, ◌∙◌}
use borrow.Author.Tests.{eq-eqb, ne_eqb}
use Rattle.terms.specs.Rules.{Answer, Acted, ◌>>=◌}
use Rattle.terms.specs.Rules.Answer.{refused, accepted}
use Rattle.table.specs.declared.State.{State}
use Rattle.table.specs.Valid.{valid}
use Rattle.table.specs.Fire.{label_of}
use Rattle.calls_act.specs.declared.Acted.{Acted as Answered}
use Rattle.calls_fire.specs.Fired.{tag_of}
use Rattle.calls_act.specs.Acted.{action_allowed}
use Rattle.calls_act.specs.Labelled.{named, labelled}
use Rattle.run_line.specs.Line.{label_text}
use Rattle.host.specs.Shown.{holding, label_answer}

module _ (w : List ℕ) (st : State) (k p q n : ℕ) (r : Answered) (v : valid w st ≡ true) (e : named w r ≡ labelled (action_allowed w st k p q)) where
  by-label : label_answer w st k p q n ≡ (named w r >>= λ x. holding (label_text x) n)
  unfolding label_answer
  by-label = rw v (go (action_allowed w st k p q) ∙ ap (λ y. y >>= λ x. holding (label_text x) n) (sym e))
    where
      go : (x : Answer Acted) → (x >>= λ a. holding (label_text a.label) n) ≡ (labelled x >>= λ y. holding (label_text y) n)
      go (refused m) = refl
      go (accepted a) = refl

  pub label-refused : (r.code ≡ 0 → ⊥) → label_answer w st k p q n ≡ refused r.code
  unfolding named
  label-refused h = by-label ∙ rw (ne_eqb r.code 0 h)

  pub label-taken : r.code ≡ 0 → label_answer w st k p q n ≡ holding (label_text (label_of w (tag_of r.label))) n
  unfolding named
  label-taken h = by-label ∙ rw (eq-eqb r.code 0 h)
