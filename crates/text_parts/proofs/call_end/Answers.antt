-- `call_end` reads the arguments of a call, if any.
use mathlib.Core.Path.{ap, ◌∙◌}
use lib.ListN.{drop}
use Rattle.text.specs.Tokens.{lex}
use Rattle.text_words.specs.Bytes.{ended}
use Rattle.text_parts.proofs.Fields.{call-skim}
use Rattle.text_parts.proofs.call_end.Goals as goal

pub returns-in_err-n : goal.returns-in_err-n
returns-in_err-n c = let a = c.args in ap (ended a.s.now) c.from_residual.ensures ∙ call-skim (lex (drop a.at a.s.now)) _ c.in_err-n.ensures

pub returns : goal.returns
returns c = let a = c.args in call-skim (lex (drop a.at a.s.now)) _ c.in_ok-n.ensures
