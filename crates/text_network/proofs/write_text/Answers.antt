-- The definitions and then the components are the whole text.
-- By what each writes.
use borrow.Author.Rules.{rules}
use Rattle.text_letters.proofs.Pages.{then, same}
use Rattle.table.proofs.InUse.{valid-script}
use Rattle.text_network.proofs.Networks.{text-is}
use Rattle.text_network.proofs.write_text.Goals as goal

pub write_defs-requires : goal.write_defs-requires
write_defs-requires c = valid-script c.args.net.script.now (record { c = c.args.net.words.now; n = c.args.net.n }) c.args.net.passes

pub returns : goal.returns
returns c =
    let e = same (text-is c.args.net.script.now (record { c = c.args.net.words.now; n = c.args.net.n })) (then c.write_defs.ensures c.write_comps.ensures) in let f = e.wrote in search rules
