-- The identifier and the arguments.
-- By what each call puts.
use Prim.Native.Nat.{◌+◌, ◌*◌}
use mathlib.Core.Path.{ap}
use Rattle.table.specs.Words.{row_size, name_at, def_name, ids_at}
use Rattle.text_letters.proofs.Pages.{then, same}
use Rattle.text_process.proofs.put_call.Goals as goal

pub returns : goal.returns
unfolding def_name
returns c =
    let named = same (ap (λ n. name_at c.args.w.now (ids_at + n * row_size)) c.wide.ensures) c.put_name.ensures in
    then named c.put_list.ensures
