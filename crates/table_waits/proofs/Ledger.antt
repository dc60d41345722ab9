-- The total and the count after stores: a component that is written leaves them, and messages that are counted leave the components.
-- By the words that are stored.
use Prim.Native.Nat.{ℕ, ◌+◌, ◌*◌, ◌/◌, ◌%◌, ◌≤◌, ◌<◌}
use native.Mathlib.Omega.{arith}
use mathlib.Core.List.{List}
use mathlib.Core.Path.{◌≡◌, ◌∙◌}
use lib.ListN.{length}
use lib.Seq.{length-sets}
use Rattle.table.specs.Words.{comp_size, state_words, total_at, word}
use Rattle.table.specs.Meaning.{comp_in, PastKept, OthersKept, comps_of, total_in, count_in}
use Rattle.table.proofs.Stores.{sets-under, sets-past, sets-in, list_from-until}
use Rattle.table_waits.specs.Ledger.{ledger_words, counted}

-- ── words of no component in use ──
pub past-others : {k : ℕ} {a b : List ℕ} → k ≤ 256 → PastKept k a b → OthersKept k a b
past-others few p = record { words = λ o h l. p.words o h; behind = λ o h. p.words o (omega arith); spare = λ i j h. p.spare i j }

pub others-then : {j k : ℕ} {a b c : List ℕ} → j ≤ k → OthersKept j a b → OthersKept k b c → OthersKept k a c
others-then h p q = record {
  words = λ o b l. q.words o b l ∙ p.words o (omega arith) l;
  behind = λ o b. q.behind o b ∙ p.behind o b;
  spare = λ i j b l m. q.spare i j b l m ∙ p.spare i j b l m;
}

-- ── messages counted ──
module _ (c : List ℕ) (sent s : ℕ) where
  pub counted-length : length (counted c sent s) ≡ length c
  unfolding counted
  counted-length = length-sets c total_at (ledger_words (total_in c + s) (count_in c + sent))

  front : (o : ℕ) → o < total_at → word (counted c sent s) o ≡ word c o
  unfolding counted
  front o h = sets-under (ledger_words (total_in c + s) (count_in c + sent)) c total_at o h

  pub counted-others : (k : ℕ) → OthersKept k c (counted c sent s)
  unfolding counted
  counted-others k = record {
    words = λ o h l. front o l;
    behind = λ o h. sets-past (ledger_words (total_in c + s) (count_in c + sent)) c total_at o (omega arith);
    spare = λ i j b l m. front (i * comp_size + j) (omega arith);
  }

  comp-same : (i : ℕ) → i < 256 → comp_in (counted c sent s) i ≡ comp_in c i
  unfolding comp_in
  comp-same i b =
      let h : (j : ℕ) → j < comp_size → word (counted c sent s) (i * comp_size + j) ≡ word c (i * comp_size + j) = λ j l. front (i * comp_size + j) (omega arith) in
      rw
      (front (i * comp_size) (omega arith), h 1 (omega arith), h 2 (omega arith), h 3 (omega arith), h 4 (omega arith), h 5 (omega arith), h 6 (omega arith), h 7 (omega arith), h 8 (omega arith), h 9 (omega arith), h 10 (omega arith), h 11 (omega arith), h 12 (omega arith))

  pub counted-comps : (n : ℕ) → n ≤ 256 → comps_of (record { c = counted c sent s; n = n }) ≡ comps_of (record { c = c; n = n })
  unfolding comps_of
  counted-comps n b = list_from-until 0 n (comp_in c) (comp_in (counted c sent s)) (λ j k. comp-same j (omega arith))

  module _ (size : length c ≡ state_words) where
    stored : (j : ℕ) → j < 3 → word (counted c sent s) (total_at + j) ≡ word (ledger_words (total_in c + s) (count_in c + sent)) j
    unfolding counted
    stored j h = sets-in (ledger_words (total_in c + s) (count_in c + sent)) c total_at j h (omega (arith, size))

    pub counted-count : count_in (counted c sent s) ≡ count_in c + sent
    counted-count = stored 2 (omega arith)

    whole : (t : ℕ) → t % 4_294_967_296 + t / 4_294_967_296 * 4_294_967_296 ≡ t
    whole t = omega arith

    read_off : (d : List ℕ) (t : ℕ) → word d (total_at + 0) ≡ t % 4_294_967_296 → word d (total_at + 1) ≡ t / 4_294_967_296 → total_in d ≡ t % 4_294_967_296 + t / 4_294_967_296 * 4_294_967_296
    unfolding total_in
    read_off d t e f = rw (e, f)

    pub counted-total : total_in (counted c sent s) ≡ total_in c + s
    counted-total = read_off (counted c sent s) (total_in c + s) (stored 0 (omega arith)) (stored 1 (omega arith)) ∙ whole (total_in c + s)
