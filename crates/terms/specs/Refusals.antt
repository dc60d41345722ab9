-- The numbers of refusals: document 01, *Questions, asked downward*; and what an answer of the code stands for.
-- Serves inner contracts only.
use Rattle.std.specs.Prelude.{ℕ, Result, Ok, Err}
use Rattle.terms.specs.Rules.{Answer}
use Rattle.terms.specs.Rules.Answer.{refused, accepted}
use Rattle.terms.specs.declared.refusal.Refusal.{Refusal}
use Rattle.terms.specs.declared.refusal.Refusal.TheVariants.{TooLong, NotOfForm, TooDeep, TooMany, DefinedTwice, NotDefined, NotBound, OutOfRange, Marked, WrongForm, Apart, Forced, TableFull, MarkedText, BufferShort, Elsewhere, NotValid, MessagesFull, NoRight, NoEdition, NotConforming}

-- the number of the question that was answered by no
abbrev pub number_of : Refusal → ℕ
number_of TooLong = 1
number_of NotOfForm = 2
number_of TooDeep = 3
number_of TooMany = 4
number_of DefinedTwice = 5
number_of NotDefined = 6
number_of NotBound = 7
number_of OutOfRange = 8
number_of Marked = 9
number_of WrongForm = 10
number_of Apart = 11
number_of Forced = 12
number_of TableFull = 13
number_of MarkedText = 14
number_of BufferShort = 15
number_of Elsewhere = 16
number_of NotValid = 17
number_of MessagesFull = 18
number_of NoRight = 20
number_of NoEdition = 21
number_of NotConforming = 26

-- 0, or the number of the refusal
abbrev pub code_of : {A : Type 0} → Result A Refusal → ℕ
code_of (Ok a) = 0
code_of (Err e) = number_of e

-- what an answer of the code stands for, where f says it of what was accepted
abbrev pub answer_of : {A B : Type 0} → (A → B) → Result A Refusal → Answer B
answer_of f (Ok a) = accepted (f a)
answer_of f (Err e) = refused (number_of e)
