-- What an action makes of its components, and when a tick is allowed, on the table: numbers for names. The laws (proofs/Fires, proofs/Ticks) say that this
-- is what the rules make of what the components stand for.
use Rattle.std.specs.Prelude.{ℕ, ◌-◌, Bool, true, false, cond, ◌&&◌, ◌||◌, not, eqb, ltb, get_or}
use mathlib.Core.List.{List, [], ◌∷◌, flat_map}
use Rattle.std.proofs.Math.ListN as L
use Rattle.terms.specs.Names.{Name}
use Rattle.terms.specs.Terms.{Label}
use Rattle.terms.specs.Terms.Label.{called, moved, sent}
use Rattle.terms.specs.Rules.{Answer, Kind, Action, ◌>>=◌, at, set_all, positions, some}
use Rattle.terms.specs.Rules.Answer.{refused, accepted}
use Rattle.terms.specs.Rules.Kind.{calls, moves}
use Rattle.terms.specs.Rules.Action.{single, pair}
use Rattle.table.specs.declared.Head.{Head}
use Rattle.table.specs.declared.Head.TheVariants.{Stop, Go, Out, In, Call}
use Rattle.table.specs.declared.Comp.{Comp}
use Rattle.table.specs.Words.{locs_in, chans_in, defs_in, rights_in, loc_name, chan_name, def_name, body_of, head_at, arg_at}
use Rattle.table.specs.Meaning.{list_from}
use Rattle.table.specs.Valid.{index}
use Rattle.table.specs.Split.{passed, due_at}

-- a label in numbers: kind 1, the definition a is called; kind 2, the location a is moved to; kind 3, the value b is sent on the channel a.
-- It fires at the location `spot`; b is 0 for kinds 1 and 2.
pub record Tag : Type 0 where
  pub kind : ℕ
  pub a : ℕ
  pub b : ℕ
  pub spot : ℕ

abbrev pub call_tag : ℕ → ℕ → Tag
call_tag d l = record { kind = 1; a = d; b = 0; spot = l }

abbrev pub move_tag : ℕ → ℕ → Tag
move_tag v l = record { kind = 2; a = v; b = 0; spot = l }

abbrev pub send_tag : ℕ → ℕ → ℕ → Tag
send_tag c v l = record { kind = 3; a = c; b = v; spot = l }

unfoldable pub label_of : List ℕ → Tag → Label
label_of w t =
    cond (eqb t.kind 1) (called (def_name w t.a) (loc_name w t.spot))
    (cond (eqb t.kind 2) (moved (loc_name w t.a) (loc_name w t.spot))
    (sent (chan_name w t.a) (loc_name w t.b) (loc_name w t.spot)))

-- the numbers of a label's names: a name's number is its first place among those of its sort
abbrev pub loc_number : List ℕ → Name → ℕ
loc_number w x = index (list_from 0 (locs_in w) (loc_name w)) x

unfoldable pub tag_in : List ℕ → Label → Tag
tag_in w (called i l) = call_tag (index (list_from 0 (defs_in w) (def_name w)) i) (loc_number w l)
tag_in w (moved v l) = move_tag (loc_number w v) (loc_number w l)
tag_in w (sent c v l) = send_tag (index (list_from 0 (chans_in w) (chan_name w)) c) (loc_number w v) (loc_number w l)

-- each number of a tag names something that the script holds
unfoldable pub tag_held : List ℕ → Tag → Bool
tag_held w t =
    ltb t.spot (locs_in w)
    && cond (eqb t.kind 1) (ltb t.a (defs_in w)) (cond (eqb t.kind 2) (ltb t.a (locs_in w)) (ltb t.a (chans_in w) && ltb t.b (locs_in w)))

-- the rights of a move from l to v and of a communication at l on the channel h, by number: a move to its own location needs none
unfoldable pub may_leave : List ℕ → ℕ → ℕ → Bool
may_leave w l v = eqb v l || (rights_in w).leave l v

unfoldable pub may_meet : List ℕ → ℕ → ℕ → Bool
may_meet w l h = (rights_in w).send l h && (rights_in w).receive l h

-- the right that an action with this tag needs; a call needs none
unfoldable pub granted_at : List ℕ → Tag → Bool
granted_at w t = cond (eqb t.kind 1) true (cond (eqb t.kind 2) (may_leave w t.spot t.a) (may_meet w t.spot t.a))

-- what a value's word stands for, with the slots' values
unfoldable pub value_in : List ℕ → ℕ → ℕ
value_in vs v = cond (ltb v 64) v (get_or vs (v - 64) 0)

-- a component that an action at l leaves at k
unfoldable pub left_at : ℕ → ℕ → ℕ → List ℕ → Comp
left_at l k i vs = record { loc = k; mark = l; place = i; timer = 0; vals = vs; wait = 0 }

-- the n arguments of the call at the place i in the first slots
unfoldable pub arg_in : List ℕ → ℕ → List ℕ → ℕ → ℕ → ℕ
arg_in w i vs n k = cond (ltb k n) (value_in vs (arg_at w i k)) 0

unfoldable pub loaded : List ℕ → ℕ → List ℕ → ℕ → List ℕ
loaded w i vs n = arg_in w i vs n 0 ∷ arg_in w i vs n 1 ∷ arg_in w i vs n 2 ∷ arg_in w i vs n 3 ∷ 0 ∷ 0 ∷ 0 ∷ 0 ∷ []

pub record Left : Type 0 where
  pub tag : Tag
  pub after : List Comp

unfoldable pub becomes_at : List ℕ → Kind → Comp → Head → Answer Left
becomes_at w calls c Stop = refused 10
becomes_at w calls c (Go t v p) = refused 10
becomes_at w calls c (Out h t v p q) = refused 10
becomes_at w calls c (In h t k p q) = refused 10
becomes_at w calls c (Call d n) =
    accepted (record { tag = call_tag d c.loc; after = left_at c.loc c.loc (body_of w d) (loaded w c.place c.vals n) ∷ [] })
becomes_at w moves c Stop = refused 10
becomes_at w moves c (Go t v p) =
    accepted (record { tag = move_tag (value_in c.vals v) c.loc; after = left_at c.loc (value_in c.vals v) p c.vals ∷ [] })
becomes_at w moves c (Out h t v p q) = refused 10
becomes_at w moves c (In h t k p q) = refused 10
becomes_at w moves c (Call d n) = refused 10

-- an output and an input that meet
unfoldable pub handed : Comp → Comp → ℕ → ℕ → ℕ → ℕ → ℕ → Left
handed c e h v p k p' =
    record { tag = send_tag h v c.loc; after = left_at c.loc c.loc p c.vals ∷ left_at c.loc c.loc p' (L.set e.vals k v) ∷ [] }

unfoldable pub meet_at : Comp → Comp → Head → Head → Answer Left
meet_at c e Stop g = refused 10
meet_at c e (Go t v p) g = refused 10
meet_at c e (In h t k p q) g = refused 10
meet_at c e (Call d n) g = refused 10
meet_at c e (Out h t v p q) Stop = refused 10
meet_at c e (Out h t v p q) (Go t' v' p') = refused 10
meet_at c e (Out h t v p q) (Out h' t' v' p' q') = refused 10
meet_at c e (Out h t v p q) (Call d n) = refused 10
meet_at c e (Out h t v p q) (In h' t' k p' q') =
    cond (eqb h h' && eqb c.loc e.loc) (accepted (handed c e h (value_in c.vals v) p k p')) (refused 11)

-- questions 9 to 11: what fits
unfoldable pub fits_alone : List ℕ → Kind → Comp → Answer Left
fits_alone w k c = cond (ltb c.mark 64) (refused 9) (becomes_at w k c (head_at w c.place))

unfoldable pub fits_together : List ℕ → Comp → Comp → Answer Left
fits_together w c e = cond (ltb c.mark 64 || ltb e.mark 64) (refused 9) (meet_at c e (head_at w c.place) (head_at w e.place))

-- This is `may fire` on the table: what fits may fire if it has its right (question 20).
unfoldable pub rightly : List ℕ → Left → Answer Left
rightly w f = cond (granted_at w f.tag) (accepted f) (refused 20)

unfoldable pub alone_at : List ℕ → Kind → Comp → Answer Left
alone_at w k c = fits_alone w k c >>= rightly w

unfoldable pub together_at : List ℕ → Comp → Comp → Answer Left
together_at w c e = fits_together w c e >>= rightly w

-- ── an action at positions ──
unfoldable pub left_by : List ℕ → Action → List Comp → Answer Left
left_by w (single k p) cs = at cs p >>= λ c. alone_at w k c
left_by w (pair p q) cs = at cs p >>= λ c. at cs q >>= λ e. together_at w c e

pub record ActedAt : Type 0 where
  pub tag : Tag
  pub comps : List Comp

unfoldable pub act_on : List ℕ → Action → List Comp → Answer ActedAt
act_on w a cs = left_by w a cs >>= λ f. accepted (record { tag = f.tag; comps = set_all (positions a) f.after cs })

-- ── when the tick at l is allowed ──
unfoldable pub ready_at : ℕ → Comp → Bool
ready_at l c = not (ltb c.mark 64) && eqb c.loc l

-- the channel of an output, and of an input; 64 for none
unfoldable pub sent_on : Head → ℕ
sent_on Stop = 64
sent_on (Go t v p) = 64
sent_on (Out h t v p q) = h
sent_on (In h t k p q) = 64
sent_on (Call d n) = 64

-- an input on the channel h
unfoldable pub hears : ℕ → Head → Bool
hears h Stop = false
hears h (Go t v p) = false
hears h (Out h' t v p q) = false
hears h (In h' t k p q) = eqb h h'
hears h (Call d n) = false

-- the right of the action that a component with the head h has to perform
unfoldable pub right_in : List ℕ → Comp → Head → Bool
right_in w c Stop = true
right_in w c (Go t v p) = may_leave w c.loc (value_in c.vals v)
right_in w c (Out h t v p q) = may_meet w c.loc h
right_in w c (In h t k p q) = true
right_in w c (Call d n) = true

-- with its right, a ready component with the head h acts before a tick if it is a call, a `go` that is due, or an output that is heard
unfoldable pub would_act : Bool → Comp → Head → Bool
would_act heard c Stop = false
would_act heard c (Go t v p) = due_at c
would_act heard c (Out h t v p q) = heard
would_act heard c (In h t k p q) = false
would_act heard c (Call d n) = true

-- This is the one definition of `must act` on the table. The forced test, the report and the step go by it.
unfoldable pub must_act : List ℕ → Bool → Comp → Head → Bool
must_act w heard c h = would_act heard c h && right_in w c h

-- some component ready at l hears the channel h
unfoldable pub heard_at : List ℕ → ℕ → List Comp → ℕ → Bool
heard_at w l cs h = some (λ e. ready_at l e && hears h (head_at w e.place)) cs

-- a component of cs that is ready at l and must act
unfoldable pub presses_at : List ℕ → ℕ → List Comp → Comp → Bool
presses_at w l cs c = ready_at l c && must_act w (heard_at w l cs (sent_on (head_at w c.place))) c (head_at w c.place)

unfoldable pub forced_at : List ℕ → ℕ → List Comp → Bool
forced_at w l cs = some (presses_at w l cs) cs

-- what the tick at l leaves, where it is allowed
unfoldable pub passed_all : List ℕ → ℕ → List Comp → List Comp
passed_all w l cs = flat_map (passed w l) cs
