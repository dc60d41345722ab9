-- The loop's invariant: the components of the places before j stand, and all else is zeros.
use mathlib.Core.List.{map}
use mathlib.Core.Path.{◌≡◌}
use lib.ListN.{length, take, replicate}
use Rattle.table.specs.Words.{state_words}
use Rattle.table.specs.Meaning.{list_from, comp_in, PastKept}
use Rattle.text_tree.specs.Asked.{comp_of}
use Rattle.text_answer.proofs.state.accept.Given as goal

abbrev pub invariant-loop-j : goal.invariant-loop-j
invariant-loop-j l = record {
  count : l.r.state.n ≡ length l.places;
  size : length l.r.state.c ≡ state_words;
  comps : list_from 0 l.j (comp_in l.r.state.c) ≡ map (comp_of l.w) (take l.j l.places);
  past : PastKept l.j (replicate state_words 0) l.r.state.c;
  code : l.r.code ≡ 0;
}
