-- What the answer of an action stands for: document 01, *Actions* and *Questions, asked downward*, and document 02, R-1. A refusal is its number, and leaves
-- the components with all that is kept beside them.
use Rattle.std.specs.Prelude.{ℕ, ◌*◌, List, [], ◌∷◌, Bool, true, false, cond, ◌≡◌, eqb, Result, Ok, Err}
use Rattle.std.proofs.lemmas.List.Edits.{sets}
use Rattle.terms.specs.Rules.{Answer, Kind, Action, ◌>>=◌, act}
use Rattle.terms.specs.Rules as R
use Rattle.terms.specs.Rules.Answer.{refused, accepted}
use Rattle.terms.specs.Rules.Kind.{calls, moves}
use Rattle.terms.specs.Rules.Action.{single, pair}
use Rattle.waits.specs.Waits.{act_tally, countable}
use Rattle.waits.specs.Counted.{act_counted, Acted as ActedBy}
use Rattle.table.specs.declared.Comp.{Comp}
use Rattle.table.specs.declared.State.{State}
use Rattle.table.specs.Meaning.{words_in, OthersKept, context_of, comps_of, net_of, total_in, count_in, tally_of, counted_of}
use Rattle.table.specs.Valid.{valid}
use Rattle.table.specs.Fire.{ActedAt, tag_in, tag_held}
use Rattle.calls_fire.specs.declared.Label.{Label}
use Rattle.terms.specs.Refusals.{number_of}
use Rattle.terms.specs.declared.refusal.Refusal.{Refusal}
use Rattle.calls_act.specs.declared.Acted.{Acted}
use Rattle.calls_act.specs.declared.action.Kind.{Kind as OfOne}
use Rattle.calls_act.specs.declared.action.Kind.TheVariants.{Call, Move}
use Rattle.calls_act.specs.declared.action.Action.{Action as At}
use Rattle.calls_act.specs.declared.action.Action.TheVariants.{Single, Pair}
use Rattle.calls_fire.specs.Fired.{no_label, tag_of}
use Rattle.table.specs.Words.{comp_size}

-- x, if question n is answered by yes
abbrev pub asked : {A : Type 0} → ℕ → Bool → Answer A → Answer A
asked n true x = x
asked n false x = refused n

-- the rules' kind and action
abbrev pub kind_is : OfOne → Kind
kind_is Call = calls
kind_is Move = moves

abbrev pub action_is : At → Action
action_is (Single k p) = single (kind_is k) p
action_is (Pair p q) = pair p q

-- question 8 of the kind; for kinds 1 and 2, q is not looked at
unfoldable pub action_of : ℕ → ℕ → ℕ → Answer Action
action_of k p q =
    cond (eqb k 1) (accepted (single calls p))
    (cond (eqb k 2) (accepted (single moves p))
    (cond (eqb k 3) (accepted (pair p q))
    (refused 8)))

-- an action of kind k at p and q, as the rules answer it: questions 8 to 11 and 20
unfoldable pub action_allowed : List ℕ → State → ℕ → ℕ → ℕ → Answer R.Acted
action_allowed w st k p q = action_of k p q >>= λ a. act (context_of w) a (net_of w st)

-- the same with what is kept beside the components, and question 18 after them
unfoldable pub action_rule : List ℕ → State → ℕ → ℕ → ℕ → Answer ActedBy
action_rule w st k p q = action_of k p q >>= λ a. act_counted (context_of w) a (counted_of w st)

-- question 17 first
unfoldable pub action_answer : List ℕ → State → ℕ → ℕ → ℕ → Answer ActedBy
action_answer w st k p q = asked 17 (valid w st) (action_rule w st k p q)

abbrev pub refusal : ℕ → Acted
refusal n = record { code = n; label = no_label }

-- the answer, of a refusal or of the label in numbers
abbrev pub acted_of : Result Label Refusal → Acted
acted_of (Ok l) = record { code = 0; label = l }
acted_of (Err e) = refusal (number_of e)

-- as many components as in st, with the words cs
abbrev pub after : State → List ℕ → State
after st cs = record { c = cs; n = st.n }

-- an accepted action: the code 0; the four numbers of the label, each of them in range; the next components, as many as before; waits, total and count;
-- question 17 still answered by yes; and every word that is none of theirs as it was
pub record Took (w : List ℕ) (st : State) (a : ActedBy) (r : Acted) (cs : List ℕ) : Type 0 where
  pub code : r.code ≡ 0
  pub label : tag_of r.label ≡ tag_in w a.label
  pub held : tag_held w (tag_of r.label) ≡ true
  pub comps : net_of w (after st cs) ≡ a.comps
  pub tally : tally_of (after st cs) ≡ a.tally
  pub good : valid w (after st cs) ≡ true
  pub past : OthersKept st.n st.c cs

-- the code's answer r and the lent components cs afterwards stand for the answer of the rules
abbrev pub ActsAs : List ℕ → State → Answer ActedBy → Acted → List ℕ → Type 0
ActsAs w st (refused n) r cs = (r ≡ refusal n) × (cs ≡ st.c)
ActsAs w st (accepted a) r cs = Took w st a r cs

-- ── the same on the table ──
-- what the action x makes of the components of st, if there is a count left for it (question 18)
unfoldable pub limited : State → Action → Answer ActedAt → Answer ActedAt
limited st x a = a >>= λ b. asked 18 (countable (x ∷ []) (count_in st.c)) (accepted b)

-- the components have their waits with them
pub record Leaves (st : State) (x : Action) (a : ActedAt) (r : Acted) (cs : List ℕ) : Type 0 where
  pub code : r.code ≡ 0
  pub tag : tag_of r.label ≡ a.tag
  pub comps : comps_of (after st cs) ≡ a.comps
  pub total : total_in cs ≡ (act_tally x (tally_of st)).total
  pub count : count_in cs ≡ (act_tally x (tally_of st)).count
  pub past : OthersKept st.n st.c cs

abbrev pub LeavesAs : State → Action → Answer ActedAt → Acted → List ℕ → Type 0
LeavesAs st x (refused n) r cs = (r ≡ refusal n) × (cs ≡ st.c)
LeavesAs st x (accepted a) r cs = Leaves st x a r cs

-- the component v at p
abbrev pub put_at : List ℕ → ℕ → Comp → List ℕ
put_at cs p v = sets cs (p * comp_size) (words_in v)
