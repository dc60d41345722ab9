-- The role of a ready component is that of its head.
use Prim.Native.Nat.{ℕ}
use mathlib.Core.List.{List}
use mathlib.Core.Bool.{true}
use mathlib.Core.Path.{◌≡◌}
use Rattle.table.specs.declared.Comp.{Comp}
use Rattle.table.specs.declared.Head.{Head}
use Rattle.table.specs.Words.{head_at}
use Rattle.table.specs.Fire.{ready_at}
use Rattle.calls_profile.specs.Roles.{role_in, role_of}

pub role-is : (w : List ℕ) (l : ℕ) (c : Comp) (h : Head) → ready_at l c ≡ true → head_at w c.place ≡ h → role_of w l c ≡ role_in c h
unfolding role_of
role-is w l c h r e = rw (r, e)
