-- The same identifier, the same parameters, the same body.
-- By what a definition is made of.
use native.Mathlib.Omega.{arith}
use Prim.Native.Nat.{ℕ, ◌<◌}
use mathlib.Core.List.{List}
use mathlib.Core.Bool.{true, false≢true}
use mathlib.Core.Path.{◌≡◌, sym, ◌∙◌}
use lib.ListN.{replicate}
use Rattle.terms.specs.Names.{Name}
use Rattle.terms.specs.Terms.{Process}
use Rattle.terms.specs.Terms.Def.{define}
use Rattle.table.specs.Words.{defs_in}
use Rattle.table.specs.Meaning.{def_of}
use Rattle.table.specs.Valid.{script_ok}
use Rattle.table.proofs.Tests.{script-fine}
use Rattle.text_process.specs.Values.{process_seen}
use Rattle.text_process.proofs.Places.{body-place}
use Rattle.calls_alike.proofs.Decided.{carried, fails, shown, placed, told, one_answer, defs-decide}
use Rattle.calls_alike.proofs.Definitions.{def_is}
use Rattle.calls_alike.proofs.defs.same_def.Goals.{then-same_name, else-same_name}
use Rattle.calls_alike.proofs.defs.same_def.Goals as goal

name-is : {x y : Name} {us vs : List Name} {p q : Process} → define x us p ≡ define y vs q → x ≡ y
name-is e = cc

params_are : {x y : Name} {us vs : List Name} {p q : Process} → define x us p ≡ define y vs q → us ≡ vs
params_are e = cc

body_is : {x y : Name} {us vs : List Name} {p q : Process} → define x us p ≡ define y vs q → p ≡ q
body_is e = cc

def-same : {x y : Name} {us vs : List Name} {p q : Process} → x ≡ y → us ≡ vs → p ≡ q → define x us p ≡ define y vs q
def-same e f g = cc

-- a definition held is one of the 32

few : (w : List ℕ) (d : ℕ) → script_ok w ≡ true → d < defs_in w → d < 32
few w d e h = omega (arith, (script-fine w e).defs)

pub overflow_mul-d : goal.overflow_mul-d
overflow_mul-d c =
    let k = c.args in
    let h = few k.w.now k.d c.requires.0 c.requires.1 in omega arith

pub overflow_add-d : goal.overflow_add-d
overflow_add-d c =
    let k = c.args in
    let h = few k.w.now k.d c.requires.0 c.requires.1 in omega arith

pub overflow_mul-e : goal.overflow_mul-e
overflow_mul-e c =
    let k = c.args in
    let h = few k.v.now k.e c.requires.2 c.requires.3 in omega arith

pub overflow_add-e : goal.overflow_add-e
overflow_add-e c =
    let k = c.args in
    let h = few k.v.now k.e c.requires.2 c.requires.3 in omega arith

pub body_of-requires : goal.body_of-requires
body_of-requires c =
    let k = c.args in
    few k.w.now k.d c.requires.0 c.requires.1

pub body_of-requires-then-same_params : goal.body_of-requires-then-same_params
body_of-requires-then-same_params c =
    let k = c.args in
    few k.v.now k.e c.requires.2 c.requires.3

pub same_process-requires : goal.same_process-requires
same_process-requires c =
    let k = c.args in
    rw (c.wide.ensures, c.wide-then-same_params.ensures, c.body_of.ensures, c.body_of-then-same_params.ensures) (body-place k.w.now k.d c.requires.0 c.requires.1, body-place k.v.now k.e c.requires.2 c.requires.3)

pub returns-then-same_params : goal.returns-then-same_params
returns-then-same_params c =
    let k = c.args in
    let p = def_is k.w.now k.d in
    let q = def_is k.v.now k.e in
    let b = placed (λ z. process_seen k.w.now z (replicate 8 64)) (λ z. process_seen k.v.now z (replicate 8 64)) (c.wide.ensures ∙ c.body_of.ensures) (c.wide-then-same_params.ensures ∙ c.body_of-then-same_params.ensures) c.same_process.ensures in
    elim c.if-same_name.branch [
      | then-same_name w ↦
          (let n = shown c.same_name.ensures w.if-same_name.true in
          let u = shown w.same_params.ensures (sym w.value-is ∙ c.if-same_params.true) in
          one_answer (carried b (λ z. p ∙ def-same n u z ∙ sym q) (λ z. body_is (sym p ∙ z ∙ q))) (defs-decide (def_of k.w.now k.d) (def_of k.v.now k.e)))
      | else-same_name w ↦ absurd (false≢true (sym w.if-same_name.false ∙ sym w.value-is ∙ c.if-same_params.true))
    ]

pub returns-else-same_params : goal.returns-else-same_params
returns-else-same_params c =
    let k = c.args in
    let p = def_is k.w.now k.d in
    let q = def_is k.v.now k.e in
    elim c.if-same_name.branch [
      | then-same_name w ↦ one_answer (told w.value-is (fails w.same_params.ensures (sym w.value-is ∙ c.if-same_params.false) (λ z. params_are (sym p ∙ z ∙ q)))) (defs-decide (def_of k.w.now k.d) (def_of k.v.now k.e))
      | else-same_name w ↦ one_answer (told w.value-is (fails c.same_name.ensures w.if-same_name.false (λ z. name-is (sym p ∙ z ∙ q)))) (defs-decide (def_of k.w.now k.d) (def_of k.v.now k.e))
    ]
