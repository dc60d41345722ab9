use Rattle.std.proofs.Common.{rules}
use Rattle.run_emit.proofs.Moved.{read_more}
use Rattle.run_emit.proofs.read_input.Goals as goal

pub loop-n-preserved : goal.loop-n-preserved
loop-n-preserved g c =
    (search rules, read_more _ _ _ c.loop-n.buf c.read.new.buf c.loop-n.n c.in-Ok.k _ c.loop-n.invariant.0 c.in-Ok.ensures.bound.0 c.loop-n.invariant.1 c.in-Ok.ensures.bytes.0)
