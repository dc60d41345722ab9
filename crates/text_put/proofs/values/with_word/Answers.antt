-- By the word's number.
use mathlib.Core.Path.{sym, ap}
use Rattle.text_put.specs.Found.{with_word}
use Rattle.text_put.proofs.Arguments.{with_rest}
use Rattle.text_put.proofs.values.with_word.Goals as goal

pub returns-in-0 : goal.returns-in-0
returns-in-0 c =
    let a = c.args in
    ap (λ n. with_word a.k n a.v) (sym c.in-0.is)

pub returns-in-1 : goal.returns-in-1
returns-in-1 c =
    let a = c.args in
    ap (λ n. with_word a.k n a.v) (sym c.in-1.is)

pub returns-in-2 : goal.returns-in-2
returns-in-2 c =
    let a = c.args in
    ap (λ n. with_word a.k n a.v) (sym c.in-2.is)

pub returns-in-3 : goal.returns-in-3
returns-in-3 c =
    let a = c.args in
    ap (λ n. with_word a.k n a.v) (sym c.in-3.is)

pub returns-in_default : goal.returns-in_default
returns-in_default c =
    let a = c.args in
    let r = c.in_default.in_default-own.rest in
    with_rest a.k a.n a.v r.0.0.0.1 r.0.0.1 r.0.1 r.1
