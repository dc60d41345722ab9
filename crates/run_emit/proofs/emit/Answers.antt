use Rattle.std.proofs.KnownBytes.{Appends-kept}
use Rattle.std.proofs.lemmas.Result.{MatchResult-from_err}
use Rattle.run_emit.proofs.Moved.{written_more, written_so_far}
use Rattle.run_emit.proofs.emit.Goals as goal

pub returns-in_err-k : goal.returns-in_err-k
returns-in_err-k g c =
    let (done, split, appended) = c.loop-rest.invariant in
    MatchResult-from_err _ _ _ c.from_residual.ensures.0 (λ y. written_so_far _ _ _ done _ split (Appends-kept _ _ _ done appended c.in_err-k.ensures.bytes))

pub returns-then-k-eq0 : goal.returns-then-k-eq0
returns-then-k-eq0 g c =
    let (done, split, appended) = c.loop-rest.invariant in
    let (x, more, a) = written_more _ _ _ _ done _ c.in_ok-k.k split appended c.in_ok-k.ensures.bytes in
    written_so_far _ _ _ x _ more a

pub loop-rest-preserved : goal.loop-rest-preserved
loop-rest-preserved g c =
    let (done, split, appended) = c.loop-rest.invariant in
    written_more _ _ _ _ done _ c.in_ok-k.k split appended c.in_ok-k.ensures.bytes
