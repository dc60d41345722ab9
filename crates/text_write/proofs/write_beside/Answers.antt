-- An unmarked network's text, or 15.
-- Idea: the text is written beside the buffer first, so that a refusal leaves the buffer as it was.
use native.Mathlib.Omega.{arith}
use mathlib.Core.List.{◌++◌}
use mathlib.Core.Path.{ap}
use lib.ListN.{drop}
use Rattle.text_write.proofs.Answered.{says-15, says-text, says-copied}
use Rattle.text_write.proofs.write_beside.Goals as goal

pub write_text-k-requires : goal.write_text-k-requires
write_text-k-requires c = c.requires

pub returns-then-buf-k : goal.returns-then-buf-k
returns-then-buf-k c =
    let a = c.args in
    says-15 a.net.script.now (record { c = a.net.words.now; n = a.net.n }) a.buf.now a.net.passes c.requires c.write_text-k.result c.write_text-k.ensures.place c.if-buf-k.true

pub write_text-requires : goal.write_text-requires
write_text-requires c = c.requires

pub returns-then-text-k : goal.returns-then-text-k
returns-then-text-k c =
    let a = c.args in
    says-text a.net.script.now (record { c = a.net.words.now; n = a.net.n }) a.buf.now a.net.passes c.requires c.write_text-k.result c.write_text-k.ensures.place c.if-buf-k.false (omega arith) c.write_text.ensures

pub returns : goal.returns
returns c =
    let a = c.args in
    says-copied a.net.script.now (record { c = a.net.words.now; n = a.net.n }) a.buf.now a.net.passes c.requires c.write_text-k.result c.write_text-k.ensures.place c.if-buf-k.false (omega arith) (omega arith) (omega arith) c.write_text-k.ensures (ap (λ s. s ++ drop c.write_text-k.result a.buf.now) c.copy_from_slice.ensures.after)
