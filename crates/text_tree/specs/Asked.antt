-- Questions 4 to 7 over what the second pass wrote, and the components of the network. proofs: they are the questions of `text`.
-- Serves inner contracts only.
use Rattle.std.specs.Prelude.{ℕ, ◌+◌, List, [], ◌∷◌, Bool, true, ◌&&◌, eqb, ltb, get_or}
use Rattle.terms.specs.Same.{every}
use Rattle.terms.specs.Letters.{distinct}
use Rattle.table.specs.declared.Head.{Head}
use Rattle.table.specs.declared.Head.TheVariants.{Stop, Go, Out, In, Call}
use Rattle.table.specs.declared.Comp.{Comp}
use Rattle.table.specs.Words.{word, parts_in, defs_in, arity_of, params_of, field, head_at, args_at, count_field, timer_field}
use Rattle.table.specs.Valid.{below}
use Rattle.text_build.specs.Rows.{ids_of}

-- ── 4: no table of names and no scope was too small ──
unfoldable pub roomy : List ℕ → Bool
roomy w = eqb (word w 4) 0

-- ── 5: identifiers differ, and the parameters of each definition ──
unfoldable pub apart : List ℕ → Bool
apart w = distinct (ids_of w) && below (defs_in w) (λ d. distinct (params_of w d))

-- ── 6: each call names a held definition, with as many arguments as it has parameters ──
unfoldable pub call_held : List ℕ → Head → Bool
call_held w Stop = true
call_held w (Go t v p) = true
call_held w (Out c t v p q) = true
call_held w (In c t k p q) = true
call_held w (Call d n) = ltb d (defs_in w) && eqb n (arity_of w d)

unfoldable pub calls_held : List ℕ → Bool
calls_held w = below (parts_in w) (λ i. call_held w (head_at w i))

-- ── 7: each value is a location or the slot of one of the n names in scope ──
unfoldable pub in_scope : ℕ → ℕ → Bool
in_scope n v = ltb v (64 + n)

unfoldable pub values_bound : List ℕ → ℕ → ℕ → Head → Bool
values_bound w i n Stop = true
values_bound w i n (Go t v p) = in_scope n v
values_bound w i n (Out c t v p q) = in_scope n v
values_bound w i n (In c t k p q) = true
values_bound w i n (Call d m) = every (in_scope n) (args_at w i m)

unfoldable pub all_bound : List ℕ → Bool
all_bound w = below (parts_in w) (λ i. values_bound w i (field w i count_field) (head_at w i))

-- ── the components: unmarked, the timer of the part, no value in any slot, no tick waited ──
unfoldable pub comp_of : List ℕ → List ℕ → Comp
comp_of w x = record {
  loc = get_or x 0 0;
  mark = 64;
  place = get_or x 1 0;
  timer = field w (get_or x 1 0) timer_field;
  vals = 0 ∷ 0 ∷ 0 ∷ 0 ∷ 0 ∷ 0 ∷ 0 ∷ 0 ∷ [];
  wait = 0;
}
