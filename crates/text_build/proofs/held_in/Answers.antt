-- The word that counts the names, or 64 if it is more.
use Rattle.text_build.specs.Tables.{held_in}
use borrow.Author.Rules.{rules}
use Rattle.text_build.proofs.held_in.Goals as goal

pub returns : goal.returns
unfolding held_in
returns c = search rules
