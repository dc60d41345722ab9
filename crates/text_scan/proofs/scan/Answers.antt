-- `scan` answers what the definition does: questions 1 and 2, and the numbers of the text.
-- By its length, and by whether the text has the form.
use mathlib.Core.Path.{◌∙◌}
use Rattle.text_scan.proofs.Scanning.{scan-long, scan-none, scan-some}
use Rattle.text_scan.proofs.scan.Goals as goal

pub returns-then-text-gt65535 : goal.returns-then-text-gt65535
returns-then-text-gt65535 c = c.unread.ensures ∙ scan-long c.args.text.now c.if-text-gt65535.true

pub returns-in_default : goal.returns-in_default
returns-in_default c = c.unread-in_default.ensures ∙ scan-none c.args.text.now c.if-text-gt65535.false c.in_default.ensures

pub returns : goal.returns
returns c = scan-some c.args.text.now c.if-text-gt65535.false _ c.in-Some.ensures
