-- `class_of` gives the class that the definition gives.
-- The match is a run of tests of the ranges' ends, in rising order, and each answer says on which side of each range the byte lies.
use mathlib.Core.Logic.{⊎_elim, inl, inr}
use mathlib.Core.Path.{sym, ap}
use native.Mathlib.Omega.{arith}
use Rattle.terms.specs.Characters.{class_of}
use Rattle.terms.proofs.Classes.{capital-class, small-class, digit-class, paren-class, other-class, below, above}
use Rattle.text_words.proofs.class_of.Goals as goal

pub returns-in-32 : goal.returns-in-32
unfolding class_of
returns-in-32 c =
    ⊎_elim (λ e. sym (ap class_of e)) (λ e. sym (ap class_of e)) c.in-32.is

pub returns-in-48-to-57 : goal.returns-in-48-to-57
returns-in-48-to-57 c =
    sym (digit-class _ (omega arith) (omega arith))

pub returns-in-65-to-90 : goal.returns-in-65-to-90
returns-in-65-to-90 c =
    sym (capital-class _ (omega arith) (omega arith))

pub returns-in-97-to-122 : goal.returns-in-97-to-122
returns-in-97-to-122 c =
    sym (small-class _ (omega arith) (omega arith))

pub returns-in_default : goal.returns-in_default
returns-in_default c =
    let b = c.args.b in
    let rest = c.in_default.in_default-own.rest in
    sym (other-class b (below 65 90 b (omega arith)) (below 97 122 b (omega arith)) (below 48 57 b (omega arith)) (λ e. omega arith) (λ e. omega arith) (λ e. rest.0.1 (inl e)) (λ e. rest.0.1 (inr e)) (λ e. rest.1 (inr e)) (λ e. rest.1 (inl e)))

pub returns-in_default-2 : goal.returns-in_default-2
returns-in_default-2 c =
    let b = c.args.b in
    let rest = c.in_default.in_default-own.rest in
    sym (other-class b (below 65 90 b (omega arith)) (below 97 122 b (omega arith)) (below 48 57 b (omega arith)) (λ e. omega arith) (λ e. omega arith) (λ e. rest.0.1 (inl e)) (λ e. rest.0.1 (inr e)) (λ e. rest.1 (inr e)) (λ e. rest.1 (inl e)))

pub returns-in_default-3 : goal.returns-in_default-3
returns-in_default-3 c =
    let b = c.args.b in
    let rest = c.in_default.in_default-own.rest in
    sym (other-class b (below 65 90 b (omega arith)) (below 97 122 b (omega arith)) (above 48 57 b (omega arith)) (λ e. omega arith) (λ e. omega arith) (λ e. rest.0.1 (inl e)) (λ e. rest.0.1 (inr e)) (λ e. rest.1 (inr e)) (λ e. rest.1 (inl e)))

pub returns-in_default-4 : goal.returns-in_default-4
returns-in_default-4 c =
    let b = c.args.b in
    let rest = c.in_default.in_default-own.rest in
    sym (other-class b (above 65 90 b (omega arith)) (below 97 122 b (omega arith)) (above 48 57 b (omega arith)) (λ e. omega arith) (λ e. omega arith) (λ e. rest.0.1 (inl e)) (λ e. rest.0.1 (inr e)) (λ e. rest.1 (inr e)) (λ e. rest.1 (inl e)))

pub returns-in_default-5 : goal.returns-in_default-5
returns-in_default-5 c =
    let b = c.args.b in
    let rest = c.in_default.in_default-own.rest in
    sym (other-class b (above 65 90 b (omega arith)) (above 97 122 b (omega arith)) (above 48 57 b (omega arith)) (λ e. omega arith) (λ e. omega arith) (λ e. rest.0.1 (inl e)) (λ e. rest.0.1 (inr e)) (λ e. rest.1 (inr e)) (λ e. rest.1 (inl e)))

pub returns-in-40 : goal.returns-in-40
unfolding class_of
returns-in-40 c =
    ⊎_elim (λ e. sym (ap class_of e)) (λ e. sym (ap class_of e)) c.in-40.is

pub returns-in-40-2 : goal.returns-in-40-2
returns-in-40-2 c =
    sym (paren-class c.args.b (omega arith) (omega arith))
