-- The process at a place of a valid script is its part followed by the process at its next; how deep one looks does not matter.
-- By induction on the depth: every link goes to a lesser place.
use Prim.Native.Nat.{ℕ, zero, suc, ◌<◌}
use native.Mathlib.Omega.{arith}
use mathlib.Core.List.{List}
use mathlib.Core.Bool.{true}
use mathlib.Core.Path.{◌≡◌, refl}
use lib.Dec.{ltb, eqb}
use lib.ListN.{get_or}
use Rattle.terms.specs.Terms.{Part, Process}
use Rattle.terms.proofs.Names.{and-inv}
use Rattle.terms.specs.Letters.{is_small}
use Rattle.table.specs.declared.Head.{Head}
use Rattle.table.specs.declared.Head.TheVariants.{Stop, Go, Out, In, Call}
use Rattle.table.specs.Words.{parts_in, chans_in, head_at, arg_at, arg_words, next_at, scope_at, names_at, bound_at}
use Rattle.table.specs.Meaning.{part_of, joined, deep, process_at, part_at}
use Rattle.table.specs.Valid.{index, timer_ok, ref_ok, inner_ok, entered, head_ok, next_ok, script_ok}
use Rattle.table.proofs.Tests.{Inner, inner, part-fine}

-- ── the arguments of a call, by number ──
pub args-at : (w : List ℕ) (i k : ℕ) → k < 4 → get_or (arg_words w i) k 0 ≡ arg_at w i k
args-at w i zero h = refl
args-at w i (suc zero) h = refl
args-at w i (suc (suc zero)) h = refl
args-at w i (suc (suc (suc zero))) h = refl
args-at w i (suc (suc (suc (suc k)))) h = absurd (omega arith)

-- ── the inner processes of a head ──
pub record GoFine (w : List ℕ) (i t v p : ℕ) : Type 0 where
  pub timer : timer_ok t ≡ true
  pub value : ref_ok w (names_at w i) v ≡ true
  pub first : Inner w i p (scope_at w i)

pub go-fine : (w : List ℕ) (i t v p : ℕ) → head_ok w i (Go t v p) ≡ true → GoFine w i t v p
unfolding head_ok
go-fine w i t v p e =
    let a = and-inv (timer_ok t) _ e in
    let b = and-inv (ref_ok w (names_at w i) v) _ a.1 in
    record { timer = a.0; value = b.0; first = inner w i p _ b.1 }

pub record OutFine (w : List ℕ) (i c t v p q : ℕ) : Type 0 where
  pub channel : ltb c (chans_in w) ≡ true
  pub timer : timer_ok t ≡ true
  pub value : ref_ok w (names_at w i) v ≡ true
  pub first : Inner w i p (scope_at w i)
  pub second : Inner w i q (scope_at w i)

pub out-fine : (w : List ℕ) (i c t v p q : ℕ) → head_ok w i (Out c t v p q) ≡ true → OutFine w i c t v p q
unfolding head_ok
out-fine w i c t v p q e =
    let z = and-inv (ltb c (chans_in w)) _ e in
    let a = and-inv (timer_ok t) _ z.1 in
    let b = and-inv (ref_ok w (names_at w i) v) _ a.1 in
    let d = and-inv (inner_ok w i p (scope_at w i)) _ b.1 in
    record { channel = z.0; timer = a.0; value = b.0; first = inner w i p _ d.0; second = inner w i q _ d.1 }

pub record InFine (w : List ℕ) (i c t k p q : ℕ) : Type 0 where
  pub channel : ltb c (chans_in w) ≡ true
  pub timer : timer_ok t ≡ true
  pub form : is_small (bound_at w i) ≡ true
  pub slot : eqb (index (names_at w i) (bound_at w i)) k ≡ true
  pub first : Inner w i p (entered w i k)
  pub second : Inner w i q (scope_at w i)

pub in-fine : (w : List ℕ) (i c t k p q : ℕ) → head_ok w i (In c t k p q) ≡ true → InFine w i c t k p q
unfolding head_ok
in-fine w i c t k p q e =
    let z = and-inv (ltb c (chans_in w)) _ e in
    let a = and-inv (timer_ok t) _ z.1 in
    let b = and-inv (is_small (bound_at w i)) _ a.1 in
    let s = and-inv (eqb (index (names_at w i) (bound_at w i)) k) _ b.1 in
    let d = and-inv (inner_ok w i p (entered w i k)) _ s.1 in
    record { channel = z.0; timer = a.0; form = b.0; slot = s.0; first = inner w i p _ d.0; second = inner w i q _ d.1 }

-- ── what a process is, at any depth ──
part-agree : (w : List ℕ) (f g : ℕ → Process) (i : ℕ) (h : Head) → head_ok w i h ≡ true → ((j : ℕ) → j < i → f j ≡ g j) → part_of w f i h ≡ part_of w g i h
unfolding part_of
part-agree w f g i Stop o e = refl
part-agree w f g i (Go t v p) o e = rw (e p (go-fine w i t v p o).first.lesser)
part-agree w f g i (Out c t v p q) o e = let r = out-fine w i c t v p q o in rw (e p r.first.lesser, e q r.second.lesser)
part-agree w f g i (In c t k p q) o e = let r = in-fine w i c t k p q o in rw (e p r.first.lesser, e q r.second.lesser)
part-agree w f g i (Call d n) o e = refl

joined-agree : (w : List ℕ) (f g : ℕ → Process) (i : ℕ) (a b : Part) (n : ℕ) → next_ok w i n ≡ true → a ≡ b → ((j : ℕ) → j < i → f j ≡ g j) → joined f a n ≡ joined g b n
unfolding joined next_ok
joined-agree w f g i a b zero o q e = rw q
joined-agree w f g i a b (suc j) o q e = rw (q, e j (inner w i j _ o).lesser)

module _ (w : List ℕ) (good : script_ok w ≡ true) where
  deep-same : (m n i : ℕ) → i < m → i < n → i < parts_in w → deep w m i ≡ deep w n i
  unfolding deep
  deep-same zero n i h k b = absurd (omega arith)
  deep-same (suc m) zero i h k b = absurd (omega arith)
  deep-same (suc m) (suc n) i h k b =
      let e : (j : ℕ) → j < i → deep w m j ≡ deep w n j = λ j l. deep-same m n j (omega arith) (omega arith) (omega arith) in
      let f = part-fine w good i b in
      joined-agree w (deep w m) (deep w n) i _ _ (next_at w i) f.next (part-agree w (deep w m) (deep w n) i (head_at w i) f.head e) e

  pub process-is : (i : ℕ) → i < parts_in w → process_at w i ≡ joined (process_at w) (part_at w i) (next_at w i)
  unfolding process_at part_at deep
  process-is i b =
      let e : (j : ℕ) → j < i → deep w i j ≡ deep w (suc j) j = λ j l. deep-same i (suc j) j l (omega arith) (omega arith) in
      let f = part-fine w good i b in
      joined-agree w (deep w i) (process_at w) i _ _ (next_at w i) f.next (part-agree w (deep w i) (process_at w) i (head_at w i) f.head e) e
