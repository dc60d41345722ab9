-- `label_at` meets its contract: the answer in numbers names what `label_by` answers (Labelling).
use mathlib.Core.Path.{ap, ◌∙◌}
use Rattle.calls_act.specs.Labelled.{named}
use Rattle.calls_act.proofs.Labelling.{named-answer}
use Rattle.calls_act.proofs.naming.label_at.Goals as goal

pub returns : goal.returns
returns c = let w = c.args.net.script.now in ap (named w) c.from.ensures ∙ named-answer w c.label_by.result ∙ c.label_by.ensures
