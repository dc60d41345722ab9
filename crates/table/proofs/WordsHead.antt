-- The head of a part by its kind.
-- Each kind's test decides, in their order.
use Prim.Native.Nat.{ℕ}
use mathlib.Core.List.{List}
use mathlib.Core.Path.{◌≡◌}
use borrow.Author.Tests.{ne_eqb}
use Rattle.table.specs.declared.Head.TheVariants.{Stop, Go, Out, In, Call}
use Rattle.table.specs.Words.{field, head_at, first_field, kind_field, name_field, second_field, timer_field, value_field}

module _ (w : List ℕ) (i : ℕ) where
  pub head-go : field w i kind_field ≡ 1 → head_at w i ≡ Go (field w i timer_field) (field w i value_field) (field w i first_field)
  unfolding head_at
  head-go e = rw e

  pub head-out : field w i kind_field ≡ 2 → head_at w i ≡ Out (field w i name_field) (field w i timer_field) (field w i value_field) (field w i first_field) (field w i second_field)
  unfolding head_at
  head-out e = rw e

  pub head_in : field w i kind_field ≡ 3 → head_at w i ≡ In (field w i name_field) (field w i timer_field) (field w i value_field) (field w i first_field) (field w i second_field)
  unfolding head_at
  head_in e = rw e

  pub head-call : field w i kind_field ≡ 4
      → head_at w i ≡ Call (field w i name_field) (field w i value_field)
  unfolding head_at
  head-call e = rw e

  pub head-stop : (field w i kind_field ≡ 1 → ⊥) → (field w i kind_field ≡ 2 → ⊥) → (field w i kind_field ≡ 3 → ⊥) → (field w i kind_field ≡ 4 → ⊥)
      → head_at w i ≡ Stop
  unfolding head_at
  head-stop p q r s = rw (ne_eqb (field w i kind_field) 1 p, ne_eqb (field w i kind_field) 2 q, ne_eqb (field w i kind_field) 3 r, ne_eqb (field w i kind_field) 4 s)
