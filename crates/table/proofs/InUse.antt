-- The components in use, by position: they are the first n of the state's, and in a valid table each passes its test.
-- By the laws of the first n of a list.
use Prim.Native.Nat.{ℕ, suc, ◌+◌, ◌*◌, ◌<◌, ◌≤◌}
use native.Mathlib.Omega.{arith}
use native.Mathlib.Numerals.{add-one}
use mathlib.Core.List.{List, ◌∷◌}
use mathlib.Core.Bool.{true}
use mathlib.Core.Path.{◌≡◌, ap, ◌∙◌}
use lib.Dec.{leb}
use lib.ListN.{length, get_or, drop, replicate, get_or-replicate}
use lib.Seq.{drop-cons}
use borrow.Author.Tests.{leb-true, lt-ltb, le-leb}
use Rattle.terms.proofs.Names.{and-inv, and_in}
use Rattle.table.specs.declared.Comp.{Comp}
use Rattle.table.specs.declared.State.{State}
use Rattle.table.specs.Words.{state_words, total_at, count_at}
use Rattle.table.specs.Meaning.{PastKept, comp_in, comps_of, no_comp, total_in, count_in}
use Rattle.table.specs.Valid.{script_ok, comp_ok, state_ok, ledger_ok, valid}
use Rattle.table.proofs.Tests.{every-get_or, StateFine, state-fine}
use Rattle.table.proofs.Stores.{past-total, past-count}
use Rattle.table.proofs.ValidLists.{list_from-length, list_from-at}

module _ (st : State) where
  pub comps-length : length (comps_of st) ≡ st.n
  unfolding comps_of
  comps-length = list_from-length 0 st.n (comp_in st.c)

  pub in_use : (d : Comp) (k : ℕ) → k < st.n → get_or (comps_of st) k d ≡ comp_in st.c k
  unfolding comps_of
  in_use d k l = list_from-at 0 st.n (comp_in st.c) k d l ∙ ap (comp_in st.c) (omega arith)

  pub from-here : (k : ℕ) → k < st.n → drop k (comps_of st) ≡ comp_in st.c k ∷ drop (suc k) (comps_of st)
  from-here k l = drop-cons (comps_of st) k no_comp (omega (arith, comps-length)) ∙ rw (in_use no_comp k l)

  -- the same, where a loop counts by adding one
  pub comp-at : (k : ℕ) → k < st.n → drop k (comps_of st) ≡ comp_in st.c k ∷ drop (k + 1) (comps_of st)
  comp-at k l = from-here k l ∙ rw (add-one k)

-- ── what question 17 gives ──
pub valid-script : (w : List ℕ) (st : State) → valid w st ≡ true → script_ok w ≡ true
unfolding valid
valid-script w st e = (and-inv (script_ok w) _ e).0

state-test : (w : List ℕ) (st : State) → valid w st ≡ true → (state_ok w st ≡ true) × (ledger_ok st.c ≡ true)
unfolding valid
state-test w st e = let r = and-inv (state_ok w st) _ (and-inv (script_ok w) _ e).1 in (r.0, r.1)

pub valid-state : (w : List ℕ) (st : State) → valid w st ≡ true → StateFine w st
valid-state w st e = state-fine w st (state-test w st e).0

-- the total and the count in range
pub record LedgerFine (c : List ℕ) : Type 0 where
  pub few : count_in c ≤ 1_000_000
  pub within : total_in c ≤ 1_000_000 * count_in c

pub valid-ledger : (w : List ℕ) (st : State) → valid w st ≡ true → LedgerFine st.c
unfolding ledger_ok
valid-ledger w st e =
    let r = and-inv (leb (count_in st.c) 1_000_000) _ (state-test w st e).1 in
    record { few = leb-true _ 1_000_000 r.0; within = leb-true _ _ r.1 }

-- zeros behind the components
module _ {k : ℕ} {c : List ℕ} (few : k ≤ 256) (p : PastKept k (replicate state_words 0) c) where
  pub blank-total : total_in c ≡ 0
  unfolding total_in
  blank-total = past-total few p ∙ rw (get_or-replicate {A = ℕ} state_words total_at 0 0 (omega arith), get_or-replicate {A = ℕ} state_words (total_at + 1) 0 0 (omega arith))

  pub blank-count : count_in c ≡ 0
  blank-count = past-count few p ∙ get_or-replicate {A = ℕ} state_words count_at 0 0 (omega arith)

  pub blank-ledger : LedgerFine c
  blank-ledger = record { few = omega (arith, blank-count); within = omega (arith, blank-total) }

-- the same numbers, elsewhere
pub ledger-same : {c d : List ℕ} → total_in d ≡ total_in c → count_in d ≡ count_in c → LedgerFine c → LedgerFine d
ledger-same e f g = record { few = omega (arith, f, g.few); within = omega (arith, e, f, g.within) }

-- and back: all that question 17 asks
pub is-valid : (w : List ℕ) (st : State) → script_ok w ≡ true → StateFine w st → LedgerFine st.c → valid w st ≡ true
unfolding valid state_ok ledger_ok
is-valid w st s f g =
    and_in _ _ s
    (and_in _ _ (and_in _ _ (lt-ltb 0 st.n f.some) (and_in _ _ (le-leb st.n 256 f.few) f.each))
    (and_in _ _ (le-leb _ 1_000_000 g.few) (le-leb _ _ g.within)))

pub comp-held : (w : List ℕ) (st : State) → valid w st ≡ true → (k : ℕ) → k < st.n → comp_ok w (comp_in st.c k) ≡ true
comp-held w st v k l =
    let g = every-get_or (comp_ok w) (comps_of st) no_comp k (valid-state w st v).each (omega (arith, comps-length st)) in
    rw (in_use st no_comp k l) at g
