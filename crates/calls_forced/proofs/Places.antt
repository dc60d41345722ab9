-- Who has no place, and what is heard of whom.
use Prim.Native.Nat.{ℕ, ◌+◌, ◌*◌}
use mathlib.Core.List.{List}
use mathlib.Core.Bool.{Bool, false}
use mathlib.Core.Path.{◌≡◌, refl}
use Rattle.std.specs.Prelude.{Option, Some, None}
use Rattle.std.specs.Option.{MatchOption}
use Rattle.table.specs.declared.Head.{Head}
use Rattle.table.specs.declared.Head.TheVariants.{Stop, Go, Out, In, Call}
use Rattle.calls_forced.specs.Marked.{is_marked, ear_in, is_heard}

pub no-ear : (l : ℕ) (g : Head) → ((h t k p q : ℕ) → g ≡ In h t k p q → ⊥) → None ≡ ear_in l g
unfolding ear_in
no-ear l Stop n = refl
no-ear l (Go t v p) n = refl
no-ear l (Out h t v p q) n = refl
no-ear l (In h t k p q) n = absurd (n h t k p q refl)
no-ear l (Call d m) n = refl

pub heard_of : (ys : List Bool) (l : ℕ) (o : Option ℕ) (r : Bool) → MatchOption o (r ≡ false) (λ d. r ≡ is_marked ys (l * 64 + d)) → r ≡ is_heard ys l o
heard_of ys l None r e = e
heard_of ys l (Some d) r e = e
