-- The test of a location by numbers: each component that is ready there has a role, and no sender's or receiver's role is taken twice. The law (proofs/Conforming)
-- says that this is the test of what the components stand for.
-- Serves inner contracts only.
use Rattle.std.specs.Prelude.{ℕ, ◌+◌, ◌<◌, ◌≡◌, List, [], ◌∷◌, Bool, true, cond, ◌&&◌, not, eqb, ltb}
use Rattle.terms.specs.Rules.{some}
use Rattle.table.specs.declared.Comp.{Comp}
use Rattle.table.specs.declared.Head.{Head}
use Rattle.table.specs.declared.Head.TheVariants.{Stop, Go, Out, In, Call}
use Rattle.table.specs.Words.{head_at}
use Rattle.table.specs.Split.{due_at}
use Rattle.table.specs.Fire.{ready_at}
use Rattle.calls_forced.specs.Marked.{is_marked}
use Rattle.calls_profile.specs.declared.roles.Role.{Role}
use Rattle.calls_profile.specs.declared.roles.Role.TheVariants.{Place, Nothing, Late}

-- Below 64 the roles of senders by their channels, from there on those of receivers; then that of all who ask nothing, and that of a `go` that is not due.
abbrev pub receivers : ℕ
receivers = 64

abbrev pub no_role : ℕ
no_role = 128

abbrev pub late_role : ℕ
late_role = 129

unfoldable pub role_in : Comp → Head → ℕ
role_in c Stop = no_role
role_in c (Go t v p) = cond (due_at c) no_role late_role
role_in c (Out h t v p q) = h
role_in c (In h t k p q) = h + receivers
role_in c (Call d n) = no_role

-- what is not ready at l has none
unfoldable pub role_of : List ℕ → ℕ → Comp → ℕ
role_of w l c = cond (ready_at l c) (role_in c (head_at w c.place)) no_role

-- the role with the number k, as the code has it
abbrev pub OfRole : ℕ → Role → Type 0
OfRole k (Place p) = (p ≡ k) × (p < no_role)
OfRole k Nothing = k ≡ no_role
OfRole k Late = k ≡ late_role

-- the role k comes after others: that of a sender or a receiver is not among them, and the late one may never come
unfoldable pub comes : ℕ → Bool → Bool
comes k again = cond (ltb k no_role) (not again) (eqb k no_role)

unfoldable pub apart : {A : Type 0} → (A → ℕ) → List A → Bool
apart f [] = true
apart f (c ∷ cs) = comes (f c) (some (λ e. eqb (f e) (f c)) cs) && apart f cs

-- where ys are noted
unfoldable pub is_free : List Bool → ℕ → Bool
is_free ys k = comes k (is_marked ys k)
