-- Question 17: document 01, *Questions, asked downward*. Every test is local to a part, a definition, a name or a component.
-- That each process has a part, and each unmarked component one part, holds by what places mean (Meaning).
use Rattle.std.specs.Prelude.{ℕ, zero, suc, ◌-◌, ◌*◌, List, [], ◌∷◌, ◌++◌, Bool, true, false, cond, ◌&&◌, ◌||◌, eqb, leb, ltb, length, get_or}
use Rattle.terms.specs.Names.{Name, same_name}
use Rattle.terms.specs.Same.{every}
use Rattle.terms.specs.Clock.{is_edition}
use Rattle.terms.specs.Letters.{is_location, is_small, is_identifier, distinct}
use Rattle.table.specs.declared.Head.{Head}
use Rattle.table.specs.declared.Head.TheVariants.{Stop, Go, Out, In, Call}
use Rattle.table.specs.declared.Comp.{Comp}
use Rattle.table.specs.declared.State.{State}
use Rattle.table.specs.Words.{last_name, parts_in, locs_in, chans_in, defs_in, edition_in, loc_name, chan_name, arity_of, body_of, def_name, params_at, params_of, field, head_at, args_at, next_at, low_at, own_at, bound_at, scope_at, names_at, count_field, kind_field}
use Rattle.table.specs.Meaning.{list_from, comps_of, total_in, count_in}

-- of each number below n
unfoldable pub below : ℕ → (ℕ → Bool) → Bool
below zero f = true
below (suc n) f = below n f && f n

unfoldable pub alike : List ℕ → List ℕ → Bool
alike [] [] = true
alike [] (y ∷ ys) = false
alike (x ∷ xs) [] = false
alike (x ∷ xs) (y ∷ ys) = eqb x y && alike xs ys

-- the index of the first name equal to x; the list's length if there is none
unfoldable pub index : List Name → Name → ℕ
index [] x = 0
index (y ∷ ys) x = cond (same_name y x) 0 (suc (index ys x))

-- ── names: each of its sort's form and held once in its sort. (A variable's name stands only where it is bound.) ──
unfoldable pub sort_ok : (Name → Bool) → List Name → Bool
sort_ok form xs = every form xs && distinct xs

-- ── parts ──
-- 0 to 1,000,000, or 1,000,001 for inf
unfoldable pub timer_ok : ℕ → Bool
timer_ok t = leb t 1_000_001

-- a variable has a value or a binder: it is in scope, at the first slot of its name
unfoldable pub slot_ok : List Name → ℕ → Bool
slot_ok ys k = ltb k (length ys) && eqb (index ys (get_or ys k [])) k

unfoldable pub ref_ok : List ℕ → List Name → ℕ → Bool
ref_ok w ys v = cond (ltb v 64) (ltb v (locs_in w)) (slot_ok ys (v - 64))

-- an inner process of the part at i comes from a lesser place, and the names os are in scope there
unfoldable pub inner_ok : List ℕ → ℕ → ℕ → List ℕ → Bool
inner_ok w i p os = ltb p i && alike (scope_at w p) os

-- the scope of the P of an input at i whose name has the slot k: entered if it is not there
unfoldable pub entered : List ℕ → ℕ → ℕ → List ℕ
entered w i k = cond (ltb k (length (scope_at w i))) (scope_at w i) (scope_at w i ++ (own_at i ∷ []))

unfoldable pub head_ok : List ℕ → ℕ → Head → Bool
head_ok w i Stop = true
head_ok w i (Go t v p) = timer_ok t && (ref_ok w (names_at w i) v && inner_ok w i p (scope_at w i))
head_ok w i (Out c t v p q) =
    ltb c (chans_in w) && (timer_ok t && (ref_ok w (names_at w i) v && (inner_ok w i p (scope_at w i) && inner_ok w i q (scope_at w i))))
head_ok w i (In c t k p q) =
    ltb c (chans_in w) && (timer_ok t && (is_small (bound_at w i) && (eqb (index (names_at w i) (bound_at w i)) k
    && (inner_ok w i p (entered w i k) && inner_ok w i q (scope_at w i)))))
-- a held definition with its number of arguments
head_ok w i (Call d n) =
    ltb d (defs_in w) && (eqb n (arity_of w d) && every (ref_ok w (names_at w i)) (args_at w i n))

unfoldable pub next_ok : List ℕ → ℕ → ℕ → Bool
next_ok w i zero = true
next_ok w i (suc j) = inner_ok w i j (scope_at w i)

-- at most 8 variables in scope, with names that stand in the script, each of the form of a variable, all different
unfoldable pub scope_ok : List ℕ → ℕ → Bool
scope_ok w i = leb (field w i count_field) 8 && (every (λ o. ltb o last_name) (scope_at w i) && sort_ok is_small (names_at w i))

-- The range of a place: P lies directly below its part, Q directly below P's last part, the next part directly below these, and `low` is the least
-- place of them all. So nothing is shared, and no term is larger than its table.
unfoldable pub stacked : List ℕ → ℕ → Head → Bool
stacked w i Stop = true
stacked w i (Go t v p) = eqb (suc p) i
stacked w i (Out c t v p q) = eqb (suc p) i && eqb (suc q) (low_at w p)
stacked w i (In c t k p q) = eqb (suc p) i && eqb (suc q) (low_at w p)
stacked w i (Call d n) = true

-- the least place of the part at i
unfoldable pub floor : List ℕ → ℕ → Head → ℕ
floor w i Stop = i
floor w i (Go t v p) = low_at w p
floor w i (Out c t v p q) = low_at w q
floor w i (In c t k p q) = low_at w q
floor w i (Call d n) = i

unfoldable pub low_ok : List ℕ → ℕ → ℕ → ℕ → Bool
low_ok w low f zero = eqb low f
low_ok w low f (suc j) = eqb (suc j) f && eqb low (low_at w j)

unfoldable pub tree_ok : List ℕ → ℕ → Bool
tree_ok w i = stacked w i (head_at w i) && low_ok w (low_at w i) (floor w i (head_at w i)) (next_at w i)

unfoldable pub part_ok : List ℕ → ℕ → Bool
part_ok w i = leb (field w i kind_field) 4 && (scope_ok w i && (head_ok w i (head_at w i) && (next_ok w i (next_at w i) && tree_ok w i)))

-- ── definitions: different parameters, at most 4, which are what is in scope in the body ──
unfoldable pub def_ok : List ℕ → ℕ → Bool
def_ok w d =
    leb (arity_of w d) 4 && (ltb (body_of w d) (parts_in w)
    && (alike (scope_at w (body_of w d)) (params_at w d) && (every is_small (params_of w d) && distinct (params_of w d))))

-- as many of each as there is room for, and a known edition; then all of them
unfoldable pub script_ok : List ℕ → Bool
script_ok w =
    (leb (parts_in w) 4_096 && (leb (locs_in w) 64 && (leb (chans_in w) 64 && (leb (defs_in w) 32 && is_edition (edition_in w)))))
    && (sort_ok is_location (list_from 0 (locs_in w) (loc_name w))
    && (sort_ok is_small (list_from 0 (chans_in w) (chan_name w))
    && (sort_ok is_identifier (list_from 0 (defs_in w) (def_name w))
    && (below (defs_in w) (def_ok w) && below (parts_in w) (part_ok w)))))

-- ── components ──
unfoldable pub mark_ok : List ℕ → ℕ → Bool
mark_ok w m = eqb m 64 || ltb m (locs_in w)

-- document 02, R-1: a wait halts at 1,000,000
unfoldable pub wait_ok : ℕ → Bool
wait_ok n = leb n 1_000_000

unfoldable pub comp_ok : List ℕ → Comp → Bool
comp_ok w c =
    ltb c.loc (locs_in w) && (mark_ok w c.mark && (ltb c.place (parts_in w) && (timer_ok c.timer && (wait_ok c.wait
    && (eqb (length c.vals) 8 && every (λ v. ltb v (locs_in w)) c.vals)))))

-- at least one component, and at most 256
unfoldable pub state_ok : List ℕ → State → Bool
state_ok w st = ltb 0 st.n && (leb st.n 256 && every (comp_ok w) (comps_of st))

-- document 02, R-1: at most 1,000,000 messages, and the total within 1,000,000 times their count
unfoldable pub ledger_ok : List ℕ → Bool
ledger_ok c = leb (count_in c) 1_000_000 && leb (total_in c) (1_000_000 * count_in c)

-- question 17
unfoldable pub valid : List ℕ → State → Bool
valid w st = script_ok w && (state_ok w st && ledger_ok st.c)
