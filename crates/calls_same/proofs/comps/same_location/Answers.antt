-- Two locations are one if their names are.
use Prim.Native.Nat.{◌+◌, ◌*◌}
use Rattle.table.specs.Words.{locs_at, name_at, name_size}
use Rattle.calls_alike.proofs.Decided.{placed}
use Rattle.calls_same.proofs.comps.same_location.Goals as goal

pub returns : goal.returns
returns c = placed (λ n. name_at c.args.w.now (locs_at + n * name_size)) (λ n. name_at c.args.v.now (locs_at + n * name_size)) c.wide.ensures c.wide-2.ensures c.same_name.ensures
