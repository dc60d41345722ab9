-- The loop's invariant: the components of the places before j stand, and all else is zeros.
use Prim.Native.Nat.{◌+◌, ◌*◌}
use native.Mathlib.Omega.{arith}
use mathlib.Core.List.{[], map}
use mathlib.Core.Path.{◌≡◌, refl, sym, ap, ◌∙◌}
use lib.ListN.{length, replicate}
use lib.Seq.{length-sets, take_all}
use Rattle.table.specs.Words.{comp_size, state_words}
use Rattle.table.specs.Meaning.{list_from, comp_in, words_in, comps_of}
use Rattle.table.proofs.Stores.{past-put, past-none, past-then, past_to}
use Rattle.text_tree.specs.Asked.{comp_of}
use Rattle.text_answer.proofs.States.{made-on}
use Rattle.text_answer.proofs.state.accept.Goals as goal

pub loop-j-init : goal.loop-j-init
unfolding list_from
loop-j-init c = record { count = refl; size = refl; comps = refl; past = past-none 0 (replicate state_words 0); code = refl }

pub loop-j-preserved : goal.loop-j-preserved
unfolding comp_of
loop-j-preserved c =
    let a = c.args in
    let q = c.requires in
    let l = c.loop-j in
    let h = c.loop-j-test.true in
    let v = l.invariant in
    record {
      count = v.count;
      size = ap length c.put_comp.ensures ∙ length-sets l.r.state.c (l.j * comp_size) (words_in c.comp_of.result) ∙ v.size;
      comps = rw (c.put_comp.ensures, c.comp_of.ensures) (made-on (comp_of a.w.now) a.places.now l.r.state.c l.j [] (omega arith) (omega arith) v.size refl v.comps);
      past = past-then (omega arith) v.past (rw c.put_comp.ensures (past-put l.r.state.c (l.j + 1) l.j c.comp_of.result (omega arith)));
      code = v.code;
    }

pub returns : goal.returns
unfolding comps_of
returns c =
    let a = c.args in
    let l = c.loop-j in
    let v = l.invariant in
    let e : l.j ≡ length a.places.now = omega (arith, l.auto.j-end, c.loop-j-test.false) in (
      v.code,
      record {
        count = v.count;
        comps = ap (λ n. list_from 0 n (comp_in l.r.state.c)) (v.count ∙ sym e) ∙ v.comps ∙ ap (map (comp_of a.w.now)) (take_all l.j a.places.now (omega arith));
        past = past_to (omega (arith, v.count)) v.past;
      },
    )
