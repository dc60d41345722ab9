-- A refusal has a number that is not 0; so an answer is accepted exactly if its code is 0.
use native.Mathlib.Omega.{arith}
use Rattle.std.specs.Prelude.{◌≡◌, Result, Ok, Err}
use Rattle.terms.specs.Refusals.{number_of, code_of}
use Rattle.terms.specs.declared.refusal.Refusal.{Refusal}
use Rattle.terms.specs.declared.refusal.Refusal.TheVariants.{TooLong, NotOfForm, TooDeep, TooMany, DefinedTwice, NotDefined, NotBound, OutOfRange, Marked, WrongForm, Apart, Forced, TableFull, MarkedText, BufferShort, Elsewhere, NotValid, MessagesFull, NoRight, NoEdition, NotConforming}

pub number-some : (e : Refusal) → number_of e ≡ 0 → ⊥
number-some TooLong h = omega arith
number-some NotOfForm h = omega arith
number-some TooDeep h = omega arith
number-some TooMany h = omega arith
number-some DefinedTwice h = omega arith
number-some NotDefined h = omega arith
number-some NotBound h = omega arith
number-some OutOfRange h = omega arith
number-some Marked h = omega arith
number-some WrongForm h = omega arith
number-some Apart h = omega arith
number-some Forced h = omega arith
number-some TableFull h = omega arith
number-some MarkedText h = omega arith
number-some BufferShort h = omega arith
number-some Elsewhere h = omega arith
number-some NotValid h = omega arith
number-some MessagesFull h = omega arith
number-some NoRight h = omega arith
number-some NoEdition h = omega arith
number-some NotConforming h = omega arith

pub err-some : {A : Type 0} (r : Result A Refusal) (e : Refusal) → r ≡ Err e → code_of r ≡ 0 → ⊥
err-some (Ok a) e p h = cc
err-some (Err d) e p h = number-some d h
