-- One argument by its value.
use Rattle.text_process.specs.Values.{value_seen}
use Rattle.text_process.proofs.Heads.{place-small}
use Rattle.calls_alike.proofs.Decided.{placed}
use Rattle.calls_alike.proofs.parts.same_arg.Goals as goal

pub arg_at-requires : goal.arg_at-requires
arg_at-requires c = (place-small c.requires.places.0, c.requires.k_value.0)

pub arg_at-requires-2 : goal.arg_at-requires-2
arg_at-requires-2 c = (place-small c.requires.places.1, c.requires.k_value.0)

pub same_value-requires : goal.same_value-requires
same_value-requires c = record { places = c.requires.places; a_value = (rw c.arg_at.ensures c.requires.k_value.1, rw c.arg_at-2.ensures c.requires.k_value.2) }

pub returns : goal.returns
returns c =
    let k = c.args in
    placed (value_seen k.w.now.table.now k.i k.w.now.vals) (value_seen k.v.now.table.now k.j k.v.now.vals) c.arg_at.ensures c.arg_at-2.ensures c.same_value.ensures
