-- Components with their waits, total and count, and the calls of the rules on them, with question 18: document 02, R-1. The rules are asked first, so a full
-- count is like a full table a reason to turn down what they allow, and never one to allow what they do not.
use Rattle.std.specs.Prelude.{ℕ, ◌≤◌, ◌*◌, List, [], ◌∷◌, cond, ◌≡◌, length, get_or}
use Rattle.terms.specs.Terms.{Component, Context, Label}
use Rattle.terms.specs.Rules.{Answer, Action, ◌>>=◌, act}
use Rattle.terms.specs.Rules.Answer.{refused, accepted}
use Rattle.terms.specs.Runs.{Call}
use Rattle.terms.specs.Runs.Call.{acting, ticking}
use Rattle.waits.specs.Waits.{Tally, act_tally, tick_tally, countable}

-- components with what is kept beside them
pub record Counted : Type 0 where
  pub comps : List Component
  pub tally : Tally

-- an accepted action: its label, the components that it leaves, and what is kept beside them
pub record Acted : Type 0 where
  pub label : Label
  pub comps : List Component
  pub tally : Tally

-- an action: what the rules ask (8 to 11 and 20), then 18
unfoldable pub act_counted : Context → Action → Counted → Answer Acted
act_counted d a k =
    act d a k.comps >>= λ r.
    cond (countable (a ∷ []) k.tally.count) (accepted (record { label = r.label; comps = r.comps; tally = act_tally a k.tally })) (refused 18)

-- what is kept after an accepted call of a mixed list
unfoldable pub call_tally : Context → Call → List Component → Tally → Tally
call_tally d (acting a) cs t = act_tally a t
call_tally d (ticking l) cs t = tick_tally d l cs t

-- ── what question 17 asks of it ──
pub record Kept (cs : List Component) (t : Tally) : Type 0 where
  pub beside : length t.waits ≡ length cs
  pub halting : (p : ℕ) → get_or t.waits p 0 ≤ 1_000_000
  pub few : t.count ≤ 1_000_000
  pub within : t.total ≤ 1_000_000 * t.count
