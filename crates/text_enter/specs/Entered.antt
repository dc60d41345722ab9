-- A text that passes the scan, written into the lent script: what the contracts of `enter` and `enter_kept` cite.
-- Serves inner contracts only.
use Rattle.std.specs.Prelude.{ℕ, ◌+◌, ◌*◌, ◌≤◌, List, true, ◌≡◌, length, take, Result, Ok, Err}
use Rattle.terms.specs.declared.refusal.Refusal.{Refusal}
use Rattle.terms.specs.Refusals.{number_of}
use Rattle.terms.specs.Rules.Answer.{refused}
use Rattle.terms.specs.Clock.{is_edition}
use Rattle.text.specs.Questions.{read}
use Rattle.table.specs.Words.{row_size, parts_at, word}
use Rattle.text_answer.specs.declared.Settings.{Settings}
use Rattle.text_answer.specs.declared.Reading.{Reading}
use Rattle.text_answer.specs.Answer.{StateIs, under, ReadsAnswer}

-- the text s was written into the script w, now v, and the places of its n components into `after`: the definition's refusal, or a script that with the
-- components at these places stands for the network. What was given, g, is put into the script w₀ before.
pub record Answered (s w v : List ℕ) (after : List (List ℕ)) (r : Result ℕ Refusal) : Type 0 where
  pub few : (n : ℕ) → r ≡ Ok n → n ≤ 256
  pub no : (e : Refusal) → r ≡ Err e → read s ≡ refused (number_of e)
  pub yes : (n : ℕ) → r ≡ Ok n → (g : Settings) (w₀ : List ℕ) → w ≡ under g w₀ → is_edition g.edition ≡ true
      → (u : List ℕ) (q : Reading) → q.code ≡ 0 → StateIs v (take n after) q.state → ReadsAnswer s g (read s) u w₀ v q

-- behind the row of the last of n parts the script is as it was
pub record Entered (s : List ℕ) (n : ℕ) (w v : List ℕ) (after : List (List ℕ)) (r : Result ℕ Refusal) : Type 0 where
  pub answer : Answered s w v after r
  pub rest : (o : ℕ) → parts_at + n * row_size ≤ o → word v o ≡ word w o
  pub size : length v ≡ length w

-- a refusal leaves all of it as it was
pub record Tried (s w v : List ℕ) (after : List (List ℕ)) (r : Result ℕ Refusal) : Type 0 where
  pub answer : Answered s w v after r
  pub back : (e : Refusal) → r ≡ Err e → v ≡ w
