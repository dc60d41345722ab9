-- What the write call answers: document 01, *Write* of *The other calls*, and its questions of *Questions, asked downward*:
-- 17 of every call on a network, then 14, does no component bear a mark, then 15, does the lent buffer hold the whole text.
-- The text and question 14 stand in the crate `text_network`, Text.
use Rattle.std.specs.Prelude.{ℕ, List, ◌++◌, cond, ◌≡◌, leb, length, drop}
use Rattle.std.specs.Prelude.{Result, Ok, Err}
use Rattle.terms.specs.declared.refusal.Refusal.{Refusal}
use Rattle.terms.specs.Refusals.{number_of}
use Rattle.terms.specs.Rules.{Answer}
use Rattle.terms.specs.Rules.Answer.{refused, accepted}
use Rattle.table.specs.declared.State.{State}
use Rattle.table.specs.Valid.{valid}
use Rattle.text_network.specs.Text.{text_of, no_mark}
use Rattle.text_write.specs.declared.Written.{Written}

-- from the words, the components and the length of the buffer: the first question answered by no, or the text
unfoldable pub write_answer : List ℕ → State → ℕ → Answer (List ℕ)
write_answer w st n =
    cond (valid w st)
    (cond (no_mark w st)
    (cond (leb (length (text_of w st)) n) (accepted (text_of w st)) (refused 15))
    (refused 14))
    (refused 17)

-- ── an answer in the call's form: a number, a length, and the buffer at exit ──
-- the question's number, or 0
abbrev pub code_of : Answer (List ℕ) → ℕ
code_of (refused n) = n
code_of (accepted s) = 0

-- the text's length; 0 with a refusal
abbrev pub len_of : Answer (List ℕ) → ℕ
len_of (refused n) = 0
len_of (accepted s) = length s

-- the text, and past its length what was there before; with a refusal all as it was
abbrev pub bytes_after : Answer (List ℕ) → List ℕ → List ℕ
bytes_after (refused n) d = d
bytes_after (accepted s) d = s ++ drop (length s) d

-- the call's answer from the text's length, or a refusal
abbrev pub written : Result ℕ Refusal → Written
written (Ok n) = record { code = 0; len = n }
written (Err e) = record { code = number_of e; len = 0 }

-- the call returns r and leaves e in the buffer that held d
pub record Answers (x : Answer (List ℕ)) (d : List ℕ) (r : Written) (e : List ℕ) : Type 0 where
  pub code : r.code ≡ code_of x
  pub len : r.len ≡ len_of x
  pub bytes : e ≡ bytes_after x d
