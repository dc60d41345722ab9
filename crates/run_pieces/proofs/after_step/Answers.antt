-- The round is over: the next round's first step, or after the last the network.
use Rattle.std.proofs.Common.{◌≤◌, ◌+◌, ap, sym, arith}
use Rattle.table.specs.Words.{locs_in}
use Rattle.table.specs.Meaning.{context_of, counted_of}
use Rattle.run_print.proofs.Playing.{locs-some}
use Rattle.run_pieces.specs.Pieces.{playing_pieces}
use Rattle.run_pieces.proofs.Pieces.{next-round, steps-over}
use Rattle.run_pieces.proofs.after_step.Goals as goal

pub returns-then-round-lt3 : goal.returns-then-round-lt3
returns-then-round-lt3 c = λ st good.
    let p = c.requires in
    let h : locs_in c.args.w.now ≤ c.args.l + 1 = omega arith in
    ((good, locs-some _ _ good, omega arith), ap (λ ls. playing_pieces (context_of c.args.w.now) ls (counted_of c.args.w.now st)) (sym (next-round c.args.w.now c.args.round (c.args.l + 1) p.1 h)))

pub returns-else-round-lt3 : goal.returns-else-round-lt3
returns-else-round-lt3 c = λ st good.
    let p = c.requires in
    let h : locs_in c.args.w.now ≤ c.args.l + 1 = omega arith in
    (good, steps-over c.args.w.now c.args.round (c.args.l + 1) st (omega arith) h)
