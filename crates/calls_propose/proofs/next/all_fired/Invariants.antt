-- `all_fired` meets its contract. The loop's invariant: what is left of the list makes of the components what the whole list makes of those at entry.
use Rattle.std.proofs.Common.{◌≡◌, drop}
use Rattle.table.specs.declared.State.{State}
use Rattle.calls_act.specs.Acted.{after}
use Rattle.calls_propose.specs.Proposed.{so_far, Held, begun, fired_all}
use Rattle.calls_propose.proofs.next.all_fired.Given as goal

abbrev pub invariant-loop-r : goal.invariant-loop-r
invariant-loop-r l =
    let s : State = record { c = l.fn.c; n = l.n } in
    record {
      held : Held l.w l.l s l.c;
      far : fired_all l.w l.l (drop l.r-index l.records) (so_far l.w 0 (after s l.c)) ≡ fired_all l.w l.l l.records (begun l.w s l.l);
    }
