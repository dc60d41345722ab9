-- How many letters a name's last word has, by the word.
-- By the law of each number of letters.
use native.Mathlib.Omega.{arith}
use Rattle.text_letters.proofs.Letters.{last_none, last_one, last-two, last-three, last-four}
use Rattle.text_letters.proofs.letters_of.Goals as goal

pub returns-in-0-clause-all : goal.returns-in-0-clause-all
returns-in-0-clause-all c = rw c.in-0.is last_none

pub returns-in-1-to-255-clause-all : goal.returns-in-1-to-255-clause-all
returns-in-1-to-255-clause-all c = last_one c.args.x (λ e. omega arith) (omega arith)

pub returns-in-256-to-65535-clause-all : goal.returns-in-256-to-65535-clause-all
returns-in-256-to-65535-clause-all c = last-two c.args.x (omega arith) (omega arith)

pub returns-in-65536-to-16777215-clause-all : goal.returns-in-65536-to-16777215-clause-all
returns-in-65536-to-16777215-clause-all c = last-three c.args.x (omega arith) (omega arith)

pub returns-in_default-clause-all : goal.returns-in_default-clause-all
returns-in_default-clause-all c = last-four c.args.x (omega arith) (omega arith)
