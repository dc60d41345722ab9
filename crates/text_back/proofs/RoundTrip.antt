-- The round trip of the tables: what is written for a table that passes question 17 and has no mark is read again, under the table's edition, as the network that
-- the table stands for, unless a limit of 1, 3 or 4 is passed (document 01, *Write* of *The other calls*, last sentence; document 02, R-8). By the round trip of
-- networks (the crate `text`), since the table's network can be written and is sound.
use Prim.Native.Nat.{ℕ}
use native.Mathlib.Omega.{arith}
use mathlib.Core.List.{List}
use mathlib.Core.Bool.{Bool, true, false, cond}
use mathlib.Core.Path.{◌≡◌, refl, ◌∙◌}
use lib.Dec.{leb}
use lib.ListN.{length}
use Rattle.terms.specs.Same.{every}
use Rattle.terms.specs.Clock.{is_edition}
use Rattle.terms.specs.Rules.{unmarked}
use Rattle.terms.specs.Rules.Answer.{refused, accepted}
use Rattle.text.specs.Tree.{tree_of}
use Rattle.text.specs.Write.{spell_network}
use Rattle.text.specs.Questions.{form, read, read_under, short, shallow, fits}
use Rattle.text.proofs.Gives.{known-edition}
use Rattle.text.proofs.RoundTrip.{form-write, limited, only-limits, round_trip}
use Rattle.table.specs.declared.State.{State}
use Rattle.table.specs.Words.{edition_in}
use Rattle.table.specs.Meaning.{net_of, network_of}
use Rattle.table.specs.Valid.{valid}
use Rattle.table.proofs.Tests.{script-fine}
use Rattle.table.proofs.InUse.{valid-script}
use Rattle.text_network.specs.Text.{text_of, no_mark}
use Rattle.text_write.specs.Answer.{write_answer}
use Rattle.text_back.proofs.Tables.{back-sound, back-writable}

module _ (w : List ℕ) (st : State) where
  module _ (v : valid w st ≡ true) (u : every unmarked (net_of w st) ≡ true) where
    -- 2 does not refuse the text of a table, and its tree is that of the table's network
    pub table-form : form (text_of w st) ≡ accepted (spell_network (network_of w st))
    unfolding text_of
    table-form = form-write (network_of w st) (back-writable w st v u)

    -- only the limits, 1, 3 and 4, can refuse the text of a table
    pub table-only-limits : read (text_of w st) ≡ limited (network_of w st)
    unfolding text_of
    table-only-limits = only-limits (network_of w st) (back-writable w st v u) (back-sound w st v)

    -- the round trip
    pub table-round-trip : short (text_of w st) ≡ true → shallow (tree_of (network_of w st)) ≡ true → fits (tree_of (network_of w st)) ≡ true
        → read (text_of w st) ≡ accepted (network_of w st)
    unfolding text_of
    table-round-trip a b c = round_trip (network_of w st) (back-writable w st v u) (back-sound w st v) a b c

  -- what is written passes question 17, and so has a known edition
  pub written-valid : (n : ℕ) (s : List ℕ) → write_answer w st n ≡ accepted s → (valid w st ≡ true) × (is_edition (edition_in w) ≡ true)
  unfolding write_answer
  written-valid n s e = go (valid w st) refl e
    where
      go : (a : Bool) → valid w st ≡ a → cond a (cond (no_mark w st) (cond (leb (length (text_of w st)) n) (accepted (text_of w st)) (refused 15)) (refused 14)) (refused 17) ≡ accepted s
          → (valid w st ≡ true) × (is_edition (edition_in w) ≡ true)
      go true p e = (p, (script-fine w (valid-script w st p)).edition)
      go false p e = let z : ◌≡◌ {A = ℕ} 0 1 = cc in absurd (omega arith)

  -- what the write call writes, into a buffer of n bytes, is read again as the same network under its own edition: 21 does not refuse it
  pub written-again : (n : ℕ) (s : List ℕ) → write_answer w st n ≡ accepted s → read_under (edition_in w) s ≡ limited (network_of w st)
  unfolding write_answer
  written-again n s e = go (valid w st) refl (no_mark w st) refl (leb (length (text_of w st)) n) e
    where
      go : (a : Bool) → valid w st ≡ a → (b : Bool) → no_mark w st ≡ b → (c : Bool)
          → cond a (cond b (cond c (accepted (text_of w st)) (refused 15)) (refused 14)) (refused 17) ≡ accepted s
          → read_under (edition_in w) s ≡ limited (network_of w st)
      go true p true q true e = let t : text_of w st ≡ s = cc in known-edition (edition_in w) s (script-fine w (valid-script w st p)).edition ∙ rw (← t) (table-only-limits p (unfold no_mark in q))
      go true p true q false e = let z : ◌≡◌ {A = ℕ} 0 1 = cc in absurd (omega arith)
      go true p false q c e = let z : ◌≡◌ {A = ℕ} 0 1 = cc in absurd (omega arith)
      go false p b q c e = let z : ◌≡◌ {A = ℕ} 0 1 = cc in absurd (omega arith)
