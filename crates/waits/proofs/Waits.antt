-- Waits stay beside the components and halt at 1,000,000, and the total stays within 1,000,000 times the count: what question 17 asks of them, no accepted
-- call breaks. By cases on what becomes of a component, and by induction on the list of components.
use Prim.Native.Nat.{ℕ, zero, suc, ◌+◌, ◌≤◌}
use native.Mathlib.Omega.{arith}
use mathlib.Core.List.{List, [], ◌∷◌, ◌++◌, map, flat_map}
use mathlib.Core.Bool.{Bool, true, false, cond, not}
use mathlib.Core.Path.{◌≡◌, refl, sym, ap, ap₂, ◌∙◌}
use lib.Dec.{ltb}
use lib.ListN.{length, get_or}
use borrow.Author.Tests.{ltb-true}
use Rattle.terms.specs.Names.{Name, same_name}
use Rattle.terms.specs.Terms.{Edition, Part, Process, Component, Context, expired, less}
use Rattle.terms.specs.Terms.Part.{stop, go, out, inp, call}
use Rattle.terms.specs.Terms.Process.{one, ◌∥◌}
use Rattle.terms.specs.Terms.Mark.{none, by}
use Rattle.terms.specs.Terms.Component.{comp}
use Rattle.terms.specs.Rules.{Action, Acted, set, split, wait, pass, positions, firing_at, fire, act, forced, tick_with, tick}
use Rattle.terms.specs.Rules.Answer.{accepted}
use Rattle.terms.specs.Rules.Action.{single, pair}
use Rattle.terms.specs.Runs.{Call, answer}
use Rattle.terms.specs.Runs.Call.{acting, ticking}
use Rattle.waits.specs.Waits.{Tally, longer, restarted, aged, waits_of, waits_all, act_tally, tick_tally, begun, countable}
use Rattle.waits.specs.Counted.{call_tally, Kept}
use Rattle.waits.specs.Limits.{full}
use Rattle.terms.proofs.Answers.{took, bind_inv, cond-inv'}
use Rattle.terms.proofs.Lists.{length-set}
use Rattle.terms.proofs.Names.{and-inv}
use Rattle.terms.proofs.Steps.{length-set_all}

-- ── lengths ──
length-map : {A B : Type 0} (f : A → B) (xs : List A) → length (map f xs) ≡ length xs
length-map f [] = refl
length-map f (x ∷ xs) = ap suc (length-map f xs)

length-++ : {A : Type 0} (xs ys : List A) → length (xs ++ ys) ≡ length xs + length ys
length-++ [] ys = omega arith
length-++ (x ∷ xs) ys = omega (arith, length-++ xs ys)

-- one wait for each of what a component becomes
restarted-length : (l : Name) (p : Process) → length (restarted l p) ≡ length (split l p)
unfolding restarted
restarted-length l p = length-map (λ c. 0) (split l p)

aged-length : (e : Edition) (l : Name) (a : Part) (n : ℕ) → length (aged e l a n) ≡ length (split l (wait e a))
unfolding aged wait split
aged-length e l stop n = refl
aged-length e l (go t v p) n = refl
aged-length e l (call i vs) n = refl
aged-length e l (out c t v p q) n = pick (expired e t)
  where
    pick : (b : Bool) → length (cond b (restarted l q) (longer n ∷ [])) ≡ length (split l (cond b q (one (out c (less t) v p q))))
    pick true = restarted-length l q
    pick false = refl
aged-length e l (inp c t y p q) n = pick (expired e t)
  where
    pick : (b : Bool) → length (cond b (restarted l q) (longer n ∷ [])) ≡ length (split l (cond b q (one (inp c (less t) y p q))))
    pick true = restarted-length l q
    pick false = refl

waits-length : (d : Context) (l : Name) (c : Component) (n : ℕ) → length (waits_of d l c n) ≡ length (pass d (λ m. same_name m l) l c)
unfolding waits_of pass
waits-length d l (comp h none (a ∥ p)) n = refl
waits-length d l (comp h none (one a)) n = pick (same_name h l)
  where
    pick : (b : Bool) → length (cond b (aged d.edition h a n) (n ∷ [])) ≡ length (cond b (split h (wait d.edition a)) (comp h none (one a) ∷ []))
    pick true = aged-length d.edition h a n
    pick false = refl
waits-length d l (comp h (by m) p) n = pick (same_name m l)
  where
    pick : (b : Bool) → length (cond b (restarted h p) (n ∷ [])) ≡ length (cond b (split h p) (comp h (by m) p ∷ []))
    pick true = restarted-length h p
    pick false = refl

all-length : (d : Context) (l : Name) (cs : List Component) (ws : List ℕ) → length ws ≡ length cs → length (waits_all d l cs ws) ≡ length (flat_map (pass d (λ m. same_name m l) l) cs)
unfolding waits_all flat_map
all-length d l [] ws e = refl
all-length d l (c ∷ cs) [] e = absurd (omega arith)
all-length d l (c ∷ cs) (n ∷ ws) e =
    let f = pass d (λ m. same_name m l) l in
    length-++ (waits_of d l c n) (waits_all d l cs ws)
    ∙ ap₂ ◌+◌ (waits-length d l c n) (all-length d l cs ws (omega arith))
    ∙ sym (length-++ (f c) (flat_map f cs))

-- ── each wait at most 1,000,000 ──
abbrev Halting : List ℕ → Type 0
Halting ws = (p : ℕ) → get_or ws p 0 ≤ 1_000_000

pub longer-halts : (n : ℕ) → n ≤ 1_000_000 → longer n ≤ 1_000_000
unfolding longer
longer-halts n h = pick (ltb n 1_000_000) refl
  where
    pick : (b : Bool) → ltb n 1_000_000 ≡ b → cond b (suc n) n ≤ 1_000_000
    pick true e = omega (arith, ltb-true n 1_000_000 e)
    pick false e = h

halting-nil : Halting []
halting-nil p = omega arith

halting-cons : (n : ℕ) (ws : List ℕ) → n ≤ 1_000_000 → Halting ws → Halting (n ∷ ws)
halting-cons n ws h k zero = h
halting-cons n ws h k (suc p) = k p

halting-++ : (us ws : List ℕ) → Halting us → Halting ws → Halting (us ++ ws)
halting-++ [] ws h k p = k p
halting-++ (u ∷ us) ws h k zero = h zero
halting-++ (u ∷ us) ws h k (suc p) = halting-++ us ws (λ q. h (suc q)) k p

halting-zeros : {A : Type 0} (xs : List A) → Halting (map (λ x. 0) xs)
halting-zeros [] = halting-nil
halting-zeros (x ∷ xs) = halting-cons 0 (map (λ x. 0) xs) (omega arith) (halting-zeros xs)

halting-set : (ws : List ℕ) (p : ℕ) → Halting ws → Halting (set ws p 0)
unfolding set
halting-set [] p h = h
halting-set (w ∷ ws) zero h = halting-cons 0 ws (omega arith) (λ q. h (suc q))
halting-set (w ∷ ws) (suc p) h = halting-cons w (set ws p 0) (h zero) (halting-set ws p (λ q. h (suc q)))

halting-one : (n : ℕ) → n ≤ 1_000_000 → Halting (n ∷ [])
halting-one n h = halting-cons n [] h halting-nil

restarted-halts : (l : Name) (p : Process) → Halting (restarted l p)
unfolding restarted
restarted-halts l p = halting-zeros (split l p)

halting-cond : (b : Bool) (us ws : List ℕ) → Halting us → Halting ws → Halting (cond b us ws)
halting-cond true us ws h k = h
halting-cond false us ws h k = k

waits-halt : (d : Context) (l : Name) (c : Component) (n : ℕ) → n ≤ 1_000_000 → Halting (waits_of d l c n)
unfolding waits_of aged
waits-halt d l (comp h none (a ∥ p)) n k = halting-one n k
waits-halt d l (comp h (by m) p) n k = halting-cond (same_name m l) (restarted h p) (n ∷ []) (restarted-halts h p) (halting-one n k)
waits-halt d l (comp h none (one stop)) n k = halting-cond (same_name h l) (n ∷ []) (n ∷ []) (halting-one n k) (halting-one n k)
waits-halt d l (comp h none (one (call i vs))) n k = halting-cond (same_name h l) (n ∷ []) (n ∷ []) (halting-one n k) (halting-one n k)
waits-halt d l (comp h none (one (go t v p))) n k = halting-cond (same_name h l) (longer n ∷ []) (n ∷ []) (halting-one (longer n) (longer-halts n k)) (halting-one n k)
waits-halt d l (comp h none (one (out c t v p q))) n k = halting-cond (same_name h l) (cond (expired d.edition t) (restarted h q) (longer n ∷ [])) (n ∷ []) (halting-cond (expired d.edition t) (restarted h q) (longer n ∷ []) (restarted-halts h q) (halting-one (longer n) (longer-halts n k))) (halting-one n k)
waits-halt d l (comp h none (one (inp c t y p q))) n k = halting-cond (same_name h l) (cond (expired d.edition t) (restarted h q) (longer n ∷ [])) (n ∷ []) (halting-cond (expired d.edition t) (restarted h q) (longer n ∷ []) (restarted-halts h q) (halting-one (longer n) (longer-halts n k))) (halting-one n k)

all-halt : (d : Context) (l : Name) (cs : List Component) (ws : List ℕ) → Halting ws → Halting (waits_all d l cs ws)
unfolding waits_all
all-halt d l [] ws h = halting-nil
all-halt d l (c ∷ cs) [] h = halting-nil
all-halt d l (c ∷ cs) (n ∷ ws) h = halting-++ (waits_of d l c n) (waits_all d l cs ws) (waits-halt d l c n (h zero)) (all-halt d l cs ws (λ q. h (suc q)))

-- ── the laws ──
pub begun_kept : (cs : List Component) → Kept cs (begun cs)
unfolding begun
begun_kept cs = record { beside = length-map (λ c. 0) cs; halting = halting-zeros cs; few = omega arith; within = omega arith }

not-false : (b : Bool) → not b ≡ false → b ≡ true
not-false true e = refl
not-false false e = sym e

-- an action that question 18 does not turn down
pub act-kept : (a : Action) (cs cs' : List Component) (t : Tally) → length cs' ≡ length cs → countable (a ∷ []) t.count ≡ true → Kept cs t → Kept cs' (act_tally a t)
unfolding act_tally countable
act-kept (single k p) cs cs' t e h i = record { beside = length-set t.waits p 0 ∙ i.beside ∙ sym e; halting = halting-set t.waits p i.halting; few = i.few; within = i.within }
act-kept (pair p q) cs cs' t e h i =
    record {
      beside = length-set (set t.waits p 0) q 0 ∙ length-set t.waits p 0 ∙ i.beside ∙ sym e;
      halting = halting-set (set t.waits p 0) q (halting-set t.waits p i.halting);
      few = omega (arith, ltb-true t.count 1_000_000 (and-inv (ltb t.count 1_000_000) true h).0);
      within = omega (arith, i.within, i.halting p);
    }

pub act-size : (d : Context) (a : Action) (cs : List Component) (r : Acted) → act d a cs ≡ accepted r → length r.comps ≡ length cs
unfolding act
act-size d a cs r e =
    let u = bind_inv (firing_at a cs) _ r e in
    let t = bind_inv (fire d u.0) _ r u.2 in
    ap (λ r. length (Acted.comps r)) (sym (took t.2)) ∙ length-set_all (positions a) t.0.after cs

pub tick-kept : (d : Context) (l : Name) (cs cs' : List Component) (t : Tally) → tick d l cs ≡ accepted cs' → Kept cs t → Kept cs' (tick_tally d l cs t)
unfolding tick tick_with tick_tally
tick-kept d l cs cs' t e i =
    let r = cond-inv' (forced d l cs) _ cs' 12 e in
    record { beside = all-length d l cs t.waits i.beside ∙ ap length r.1; halting = all-halt d l cs t.waits i.halting; few = i.few; within = i.within }

-- a call that the rules accept and that there is space for
pub call_kept : (d : Context) (c : Call) (cs cs' : List Component) (t : Tally) → answer d c cs ≡ accepted cs' → full d c cs t ≡ false → Kept cs t → Kept cs' (call_tally d c cs t)
unfolding answer call_tally full
call_kept d (acting a) cs cs' t e h i =
    let r = bind_inv (act d a cs) _ cs' e in
    act-kept a cs cs' t (ap length (sym (took r.2)) ∙ act-size d a cs r.0 r.1) (not-false (countable (a ∷ []) t.count) h) i
call_kept d (ticking l) cs cs' t e h i = tick-kept d l cs cs' t e i
