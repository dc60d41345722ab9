-- Components made one after the other from their places; none has waited, and nothing is counted.
use Prim.Native.Nat.{ℕ, ◌+◌, ◌*◌, ◌<◌, ◌≤◌}
use native.Mathlib.Numerals.{add-one}
use mathlib.Core.List.{List, [], ◌∷◌, ◌++◌, map}
use mathlib.Core.Path.{◌≡◌, refl, sym, ap, ◌∙◌}
use lib.ListN.{length, take, get_or, replicate}
use lib.Seq.{sets, take-suc}
use Rattle.waits.specs.Waits.{begun}
use Rattle.table.specs.declared.Comp.{Comp}
use Rattle.table.specs.declared.State.{State}
use Rattle.table.specs.Words.{comp_size, state_words}
use Rattle.table.specs.Meaning.{means, list_from, comp_in, words_in, PastKept, comps_of, net_of, network_of, waits_of, tally_of}
use Rattle.table.proofs.Fires.{map-append}
use Rattle.table.proofs.InUse.{blank-total, blank-count}
use Rattle.table.proofs.Stores.{comps-more}
use Rattle.text_tree.specs.Asked.{comp_of}

-- one more component, by what it is made from
pub made-on : {A : Type 0} (f : A → Comp) (xs : List A) (c : List ℕ) (j : ℕ) (d : A) → j < length xs → j < 256 → length c ≡ state_words → length (f (get_or xs j d)).vals ≡ 8
    → list_from 0 j (comp_in c) ≡ map f (take j xs)
    → list_from 0 (j + 1) (comp_in (sets c (j * comp_size) (words_in (f (get_or xs j d))))) ≡ map f (take (j + 1) xs)
made-on f xs c j d h k l v g =
    comps-more c j (f (get_or xs j d)) k l v
    ∙ ap (λ z. z ++ (f (get_or xs j d) ∷ [])) g
    ∙ sym (ap (λ n. map f (take n xs)) (add-one j) ∙ ap (map f) (take-suc xs j d h) ∙ map-append f (take j xs) (get_or xs j d ∷ []))

-- ── document 02, R-1: waits, total and count of a network just read ──
none-waited : (w v : List ℕ) (xs : List (List ℕ)) → waits_of (map (comp_of w) xs) ≡ map (λ c. 0) (map (means v) (map (comp_of w) xs))
unfolding comp_of
none-waited w v [] = refl
none-waited w v (x ∷ xs) = ap (λ z. 0 ∷ z) (none-waited w v xs)

pub tally-new : (w v : List ℕ) (xs : List (List ℕ)) (st : State) → comps_of st ≡ map (comp_of w) xs → st.n ≤ 256 → PastKept st.n (replicate state_words 0) st.c → tally_of st ≡ begun (network_of v st).comps
unfolding tally_of begun net_of network_of
tally-new w v xs st e h p = rw (blank-total h p, blank-count h p, e, none-waited w v xs)
