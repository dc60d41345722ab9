-- Editions: document 02, R-8. What may fire, what an action does, whether a tick is allowed and which actions a step fires are the same in either edition,
-- so that a ready pair that could fire stops the tick in both, even at 0. The tick of edition 1 is that of document 01. (What the editions say of a timer: Clock.)
-- What fits does not look at the edition, and every rule but the tick goes by what may fire (Alike).
use mathlib.Core.List.{List}
use mathlib.Core.Bool.{cond}
use mathlib.Core.Path.{◌≡◌, refl, ap, fun_ext}
use Rattle.terms.specs.Names.{Name}
use Rattle.terms.specs.Terms.{Part, Process, Component, Def, Edition, Context, Rights, less, due}
use Rattle.terms.specs.Terms.Part.{stop, go, out, inp, call}
use Rattle.terms.specs.Terms.Process.{one}
use Rattle.terms.specs.Terms.Edition.{edition1}
use Rattle.terms.specs.Rules.{Action, ◌>>=◌, granted, fire, act, forced, wait}
use Rattle.terms.specs.Rules.Answer.{refused, accepted}
use Rattle.terms.specs.Step.{fires}
use Rattle.terms.proofs.Clock.{expired-first}
use Rattle.terms.proofs.Alike.{fits-defs, act-alike, forced-alike, fires-alike}

module _ (ds : List Def) (e f : Edition) (r : Rights) where
  abbrev D : Context
  D = record { defs = ds; edition = e; rights = r }

  abbrev E : Context
  E = record { defs = ds; edition = f; rights = r }

  pub fire-any : fire D ≡ fire E
  unfolding fire
  fire-any = fun_ext (λ x. ap (λ a. a >>= λ f. cond (granted r f.label) (accepted f) (refused 20)) (fits-defs ds e f r r x))

  pub act-any : (a : Action) (net : List Component) → act D a net ≡ act E a net
  act-any = act-alike D E fire-any

  -- the forced test
  pub forced-any : (l : Name) (net : List Component) → forced D l net ≡ forced E l net
  forced-any = forced-alike D E fire-any

  -- the actions of a step, their labels and what they leave
  pub fires-any : (l : Name) (net : List Component) → fires D l net ≡ fires E l net
  fires-any = fires-alike D E fire-any

-- what becomes of a part in document 01's tick: an `in` or `out` with timer 0 takes its Q
unfoldable pub wait_first : Part → Process
wait_first stop = one stop
wait_first (go t v p) = one (go (less t) v p)
wait_first (out c t v p q) = cond (due t) q (one (out c (less t) v p q))
wait_first (inp c t y p q) = cond (due t) q (one (inp c (less t) y p q))
wait_first (call i vs) = one (call i vs)

pub wait-first : (a : Part) → wait edition1 a ≡ wait_first a
unfolding wait wait_first
wait-first stop = refl
wait-first (go t v p) = refl
wait-first (out c t v p q) = rw (expired-first t)
wait-first (inp c t y p q) = rw (expired-first t)
wait-first (call i vs) = refl
