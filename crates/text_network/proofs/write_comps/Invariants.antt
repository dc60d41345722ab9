-- The first component, each other one after ` | `, and the line's end.
-- Idea: what is left to put is the components from the position on.
use Rattle.text_network.specs.Forms.{barred}
use Rattle.text_letters.proofs.Pages.{LeftOf}
use Rattle.text_network.proofs.Networks.{left}
use Rattle.text_network.proofs.write_comps.Given as goal

abbrev pub invariant-loop-k : goal.invariant-loop-k
invariant-loop-k l = LeftOf l.initial.page (barred (left l.net.script.now (record { c = l.net.words.now; n = l.net.n }) 1)) l.page (barred (left l.net.script.now (record { c = l.net.words.now; n = l.net.n }) l.k))
