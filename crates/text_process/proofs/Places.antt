-- The places where a body and a component's part stand: in the script, with eight values, of which the body has none.
-- By question 17 on definitions and on components.
use Prim.Native.Nat.{ℕ, ◌≤◌, ◌<◌}
use native.Mathlib.Omega.{arith}
use mathlib.Core.List.{List, [], ◌∷◌}
use mathlib.Core.Bool.{true}
use mathlib.Core.Path.{◌≡◌, refl, ap, ◌∙◌}
use lib.Dec.{ltb}
use lib.ListN.{replicate}
use borrow.Author.Tests.{ltb-true, lt-ltb}
use Rattle.terms.specs.Same.{every}
use Rattle.terms.specs.Substitution.{sub_p}
use Rattle.terms.proofs.Names.{and-inv}
use Rattle.terms.proofs.Substitution.{none-in_p}
use Rattle.table.specs.declared.Comp.{Comp}
use Rattle.table.specs.Words.{defs_in, body_of}
use Rattle.table.specs.Meaning.{process_at}
use Rattle.table.specs.Valid.{script_ok, comp_ok}
use Rattle.table.proofs.Tests.{def-fine, comp-fine}
use Rattle.text_process.specs.Values.{process_seen, Places}
use Rattle.text_process.proofs.Values.{none-shown}

-- ── the body of a definition ──
-- no slot holds a value
pub none_seen : (w : List ℕ) (i : ℕ) → process_seen w i (replicate 8 64) ≡ process_at w i
unfolding process_seen
none_seen w i = ap (sub_p (process_at w i)) (none-shown w i) ∙ none-in_p (process_at w i)

pub body-place : (w : List ℕ) (d : ℕ) → script_ok w ≡ true → d < defs_in w → Places w (body_of w d) (replicate 8 64)
body-place w d e h = record { good = e; within = (def-fine w e d h).body; slots = refl }

-- ── the part of a component ──
pub every-less : (m : ℕ) (vs : List ℕ) → m ≤ 64 → every (λ v. ltb v m) vs ≡ true → every (λ v. ltb v 64) vs ≡ true
unfolding every
every-less m [] h e = refl
every-less m (v ∷ vs) h e = let r = and-inv (ltb v m) _ e in rw (lt-ltb v 64 (omega (arith, ltb-true v m r.0)), every-less m vs h r.1)

module _ (w : List ℕ) (good : script_ok w ≡ true) (c : Comp) (fine : comp_ok w c ≡ true) where
  pub comp-place : Places w c.place c.vals
  comp-place = let f = comp-fine w c fine in record { good = good; within = f.place; slots = f.slots }
