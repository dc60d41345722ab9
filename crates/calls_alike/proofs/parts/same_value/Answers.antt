-- Two values are one if they are once resolved.
-- By the law of a resolved value.
use mathlib.Core.Path.{sym, ◌∙◌}
use Rattle.text_process.proofs.Heads.{place-small}
use Rattle.calls_alike.specs.Pieces.{named}
use Rattle.calls_alike.proofs.Decided.{carried, placed}
use Rattle.calls_alike.proofs.Pieces.{value-is}
use Rattle.calls_alike.proofs.parts.same_value.Goals as goal

pub resolve-x-requires : goal.resolve-x-requires
resolve-x-requires c = c.requires.places.0.slots

pub resolve-y-requires : goal.resolve-y-requires
resolve-y-requires c = c.requires.places.1.slots

pub same_named-requires : goal.same_named-requires
same_named-requires c = (place-small c.requires.places.0, place-small c.requires.places.1)

pub returns : goal.returns
returns c =
    let k = c.args in
    let p = value-is k.w.now.table.now k.i k.w.now.vals c.requires.places.0.slots k.a c.requires.a_value.0 in
    let q = value-is k.v.now.table.now k.j k.v.now.vals c.requires.places.1.slots k.b c.requires.a_value.1 in
    carried (placed (named k.w.now.table.now k.i) (named k.v.now.table.now k.j) c.resolve-x.ensures c.resolve-y.ensures c.same_named.ensures)
    (λ e. sym p ∙ e ∙ q) (λ e. p ∙ e ∙ sym q)
