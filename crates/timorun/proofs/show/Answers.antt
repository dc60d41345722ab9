use Rattle.std.proofs.Common.{◌+◌, ◌++◌, length, take, rules, subst, sym, ap, ◌∙◌, append-nil}
use Rattle.std.specs.Io.KnownBytes.{Appends}
use Rattle.std.proofs.KnownBytes.{Appends-trans}
use Rattle.std.proofs.lemmas.Result.{MatchResult-from_err}
use Rattle.timorun.proofs.Shown.{piece_more, piece_cut, nothing_left}
use Rattle.timorun.proofs.show.Goals as goal

pub returns-in_err-emit : goal.returns-in_err-emit
returns-in_err-emit g c =
    let (done, split, appended) = c.loop-len.invariant.2 in
    let (k, few, more) = c.in_err-emit.ensures in
    let piece = c.in-Some.ensures in
    MatchResult-from_err _ _ _ c.from_residual.ensures.0
    (λ y. (length done + k, subst (Appends _ _) (sym (piece_cut _ done _ k _ _ piece.first split few)) (Appends-trans _ _ _ _ _ appended more)))

pub loop-len-preserved : goal.loop-len-preserved
loop-len-preserved g c =
    let (done, split, appended) = c.loop-len.invariant.2 in
    let piece = c.in-Some.ensures in
    (piece.ok, search rules, (done ++ take c.in-Some.len c.put_next.new.buf, piece_more _ done _ _ _ piece.first split, Appends-trans _ _ _ _ _ appended c.in_ok-emit.ensures))

pub returns : goal.returns
returns g c =
    let (done, split, appended) = c.loop-len.invariant.2 in
    subst (Appends _ _) (sym (split ∙ ap (λ l. done ++ l) (nothing_left c.args.w.now c.loop-len.now c.in_default.ensures.1) ∙ append-nil done)) appended
