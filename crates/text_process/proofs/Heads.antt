-- The text of a part at a place by its head, and of a process by its next part, under the values of some slots.
-- By putting the values into the part that the head stands for; inner processes have the part's scope, or one with the input's name hidden.
use Prim.Native.Nat.{ℕ, zero, suc, ◌+◌, ◌*◌, ◌≤◌, ◌<◌}
use native.Mathlib.Omega.{arith}
use mathlib.Core.List.{List, [], ◌∷◌, ◌++◌, map, append-nil}
use mathlib.Core.Bool.{Bool, true, false, cond}
use mathlib.Core.Path.{◌≡◌, refl, ap, sym, ◌∙◌}
use lib.Dec.{eqb, ltb}
use lib.ListN.{length, take, set}
use borrow.Author.Tests.{ltb-true, eqb-true}
use Rattle.terms.specs.Names.{Name, bytes}
use Rattle.terms.specs.Terms.{Part}
use Rattle.terms.specs.Same.{every}
use Rattle.terms.specs.Substitution.{Env, hide, sub, sub_p, sub_v, sub_vs}
use Rattle.terms.specs.Clock.{ticks_of}
use Rattle.terms.proofs.Names.{and-inv}
use Rattle.table.specs.declared.Head.{Head}
use Rattle.table.specs.declared.Head.TheVariants.{Stop, Go, Out, In, Call}
use Rattle.table.specs.Words.{row_size, owns_at, defs_in, name_at, chan_name, def_name, arity_of, field, head_at, next_at, own_at, bound_at, scope_at, names_at, arg_words, args_at, first_field, kind_field, name_field, second_field, timer_field, value_field}
use Rattle.table.specs.Meaning.{value_of, values_of, part_of, joined, process_at, part_at, with_timer}
use Rattle.table.specs.Valid.{index, ref_ok, entered, head_ok, next_ok}
use Rattle.table.proofs.Tests.{Inner, inner, PartFine, part-fine, script-fine, def-fine}
use Rattle.table.proofs.Places.{go-fine, out-fine, in-fine, process-is}
use Rattle.text_letters.specs.Forms.{listed, fields_text}
use Rattle.text_process.specs.Forms.{value_text, open_text, close_text, part_text, process_text}
use Rattle.text_process.specs.Values.{some_at, part_seen, process_seen, Places}
use Rattle.text_process.proofs.Values.{hidden, same-values}

-- ── a call's arguments ──
module _ (w : List ℕ) (e : Env) (ys : List Name) where
  -- names at the words os for the values xs, where these are in range
  pub data Named : List ℕ → List ℕ → Type 0 where
    none : Named [] []
    more : {a o : ℕ} {xs os : List ℕ} → (ref_ok w ys a ≡ true → name_at w o ≡ value_text (sub_v e (value_of w ys a))) → Named xs os → Named (a ∷ xs) (o ∷ os)

  pub arguments-written : {xs os : List ℕ} (n : ℕ) → Named xs os → every (ref_ok w ys) (take n xs) ≡ true
      → map (name_at w) (take n os) ≡ map value_text (sub_vs e (values_of w ys (take n xs)))
  unfolding sub_vs values_of every
  arguments-written zero x g = refl
  arguments-written (suc n) none g = refl
  arguments-written (suc n) (more {a} h x) g = let r = and-inv (ref_ok w ys a) _ g in rw (h r.0, arguments-written n x r.1)

-- the place is one of the table's 4,096
pub place-small : {w vs : List ℕ} {i : ℕ} → Places w i vs → i < 4_096
place-small {w} p = omega (arith, p.within, (script-fine w p.good).parts)

module _ (w : List ℕ) (i : ℕ) (vs : List ℕ) (at : Places w i vs) where
  pub fine : PartFine w i
  fine = part-fine w at.good i at.within

  pub record CallFine (d n : ℕ) : Type 0 where
    pub held : d < defs_in w
    pub many : n ≡ arity_of w d
    pub each : every (ref_ok w (names_at w i)) (args_at w i n) ≡ true

  pub call-fine : (d n : ℕ) → head_ok w i (Call d n) ≡ true → CallFine d n
  unfolding head_ok
  call-fine d n o =
      let r = and-inv (ltb d (defs_in w)) _ o in
      let s = and-inv (eqb n (arity_of w d)) _ r.1 in
      record { held = ltb-true d (defs_in w) r.0; many = eqb-true n (arity_of w d) s.0; each = s.1 }

  next-fine : (n : ℕ) → next_at w i ≡ n → next_ok w i n ≡ true
  next-fine n e = rw e at fine.next

  pub after-fine : (j : ℕ) → next_at w i ≡ suc j → Inner w i j (scope_at w i)
  unfolding next_ok
  after-fine j e = inner w i j (scope_at w i) (next-fine (suc j) e)

  -- ── up to the first process ──
  module _ (t : ℕ) where
    pub open-stop : head_at w i ≡ Stop → bytes "stop" ≡ open_text (part_seen w i t vs)
    open-stop e = unfold part_seen part_at part_of with_timer sub open_text in rw e

    pub open-go : {s v p : ℕ} (o : ℕ) → head_at w i ≡ Go s v p → (ref_ok w (names_at w i) v ≡ true → name_at w o ≡ value_text (sub_v (some_at w i vs) (value_of w (names_at w i) v)))
        → bytes "go(" ++ fields_text (ticks_of t) (name_at w o) ≡ open_text (part_seen w i t vs)
    open-go {s} {v} {p} o e h =
        let r = go-fine w i s v p (rw e at fine.head) in
        unfold part_seen part_at part_of with_timer sub open_text in rw (e, h r.value)

    pub open-out : {c s v p q : ℕ} (o : ℕ) → head_at w i ≡ Out c s v p q → (ref_ok w (names_at w i) v ≡ true → name_at w o ≡ value_text (sub_v (some_at w i vs) (value_of w (names_at w i) v)))
        → bytes "out(" ++ (chan_name w c ++ (44 ∷ fields_text (ticks_of t) (name_at w o))) ≡ open_text (part_seen w i t vs)
    open-out {c} {s} {v} {p} {q} o e h =
        let r = out-fine w i c s v p q (rw e at fine.head) in
        unfold part_seen part_at part_of with_timer sub open_text in rw (e, h r.value)

    pub open_in : {c s k p q : ℕ} → head_at w i ≡ In c s k p q
        → bytes "in(" ++ (chan_name w c ++ (44 ∷ fields_text (ticks_of t) (name_at w (owns_at + i * row_size)))) ≡ open_text (part_seen w i t vs)
    open_in e = unfold part_seen part_at part_of with_timer sub open_text bound_at own_at in rw e

    pub open-call : {d n : ℕ} {os : List ℕ} → head_at w i ≡ Call d n → Named w (some_at w i vs) (names_at w i) (arg_words w i) os
        → def_name w d ++ listed (map (name_at w) (take n os)) ≡ open_text (part_seen w i t vs)
    open-call {d} {n} {os} e h =
        let r = call-fine d n (rw e at fine.head) in
        unfold part_seen part_at part_of with_timer sub open_text in rw (e, arguments-written w (some_at w i vs) (names_at w i) n h r.each)

  pub call-few : {d n : ℕ} → head_at w i ≡ Call d n → n ≤ 4
  call-few {d} {n} e =
      let r = call-fine d n (rw e at fine.head) in
      omega (arith, r.many, (def-fine w at.good d r.held).few)

  -- ── from the first process on ──
  pub inner-seen : (p : ℕ) → Inner w i p (scope_at w i) → sub_p (process_at w p) (some_at w i vs) ≡ process_seen w p vs
  unfolding process_seen
  inner-seen p r = ap (sub_p (process_at w p)) (sym (same-values w i p vs r.scope))

  pub hidden-seen : (k p : ℕ) → index (names_at w i) (bound_at w i) ≡ k → Inner w i p (entered w i k)
      → sub_p (process_at w p) (hide (bound_at w i) (some_at w i vs)) ≡ process_seen w p (set vs k 64)
  unfolding process_seen
  hidden-seen k p e r = ap (sub_p (process_at w p)) (hidden w i k p vs e r.scope at.slots)

  inner-place : (p : ℕ) (os us : List ℕ) → Inner w i p os → length us ≡ 8 → Places w p us
  inner-place p os us r n = record { good = at.good; within = omega (arith, r.lesser, at.within); slots = n }

  set-length : (xs : List ℕ) (k v : ℕ) → length (set xs k v) ≡ length xs
  set-length [] k v = refl
  set-length (x ∷ xs) zero v = refl
  set-length (x ∷ xs) (suc k) v = ap suc (set-length xs k v)

  -- an inner process: at a lesser place, with eight values
  pub record Below (p : ℕ) (us : List ℕ) : Type 0 where
    pub lesser : p < i
    pub place : Places w p us

  pub below-go : {s v p : ℕ} → head_at w i ≡ Go s v p → Below p vs
  below-go {s} {v} {p} e = let r = go-fine w i s v p (rw e at fine.head) in record { lesser = r.first.lesser; place = inner-place p _ vs r.first at.slots }

  pub below_out : {c s v p q : ℕ} → head_at w i ≡ Out c s v p q → Below p vs × Below q vs
  below_out {c} {s} {v} {p} {q} e =
      let r = out-fine w i c s v p q (rw e at fine.head) in
      (record { lesser = r.first.lesser; place = inner-place p _ vs r.first at.slots }, record { lesser = r.second.lesser; place = inner-place q _ vs r.second at.slots })

  pub below_in : {c s k p q : ℕ} → head_at w i ≡ In c s k p q → Below p (set vs k 64) × Below q vs
  below_in {c} {s} {k} {p} {q} e =
      let r = in-fine w i c s k p q (rw e at fine.head) in
      (record { lesser = r.first.lesser; place = inner-place p _ (set vs k 64) r.first (set-length vs k 64 ∙ at.slots) }, record { lesser = r.second.lesser; place = inner-place q _ vs r.second at.slots })

  module _ (t : ℕ) where
    pub close-stop : head_at w i ≡ Stop → open_text (part_seen w i t vs) ≡ part_text (part_seen w i t vs)
    close-stop e = unfold part_text part_seen part_at part_of with_timer sub close_text in rw e (sym (append-nil _))

    pub close-call : {d n : ℕ} → head_at w i ≡ Call d n → open_text (part_seen w i t vs) ≡ part_text (part_seen w i t vs)
    close-call e = unfold part_text part_seen part_at part_of with_timer sub close_text in rw e (sym (append-nil _))

    pub close-go : {s v p : ℕ} → head_at w i ≡ Go s v p → open_text (part_seen w i t vs) ++ (process_text (process_seen w p vs) ++ (41 ∷ [])) ≡ part_text (part_seen w i t vs)
    close-go {s} {v} {p} e =
        let r = go-fine w i s v p (rw e at fine.head) in
        unfold part_text part_seen part_at part_of with_timer sub close_text in rw (← inner-seen p r.first, e)

    pub close-out : {c s v p q : ℕ} → head_at w i ≡ Out c s v p q
        → open_text (part_seen w i t vs) ++ (process_text (process_seen w p vs) ++ (44 ∷ (process_text (process_seen w q vs) ++ (41 ∷ [])))) ≡ part_text (part_seen w i t vs)
    close-out {c} {s} {v} {p} {q} e =
        let r = out-fine w i c s v p q (rw e at fine.head) in
        unfold part_text part_seen part_at part_of with_timer sub close_text in rw (← inner-seen p r.first, ← inner-seen q r.second, e)

    pub close-in : {c s k p q : ℕ} → head_at w i ≡ In c s k p q
        → open_text (part_seen w i t vs) ++ (process_text (process_seen w p (set vs k 64)) ++ (44 ∷ (process_text (process_seen w q vs) ++ (41 ∷ [])))) ≡ part_text (part_seen w i t vs)
    close-in {c} {s} {k} {p} {q} e =
        let r = in-fine w i c s k p q (rw e at fine.head) in
        unfold part_text part_seen part_at part_of with_timer sub close_text in rw (← hidden-seen k p (eqb-true _ k r.slot) r.first, ← inner-seen q r.second, e)

  -- ── a process ──
  -- a part with its own timer
  abbrev kinds : Bool → Bool → Bool → Bool → Head
  kinds a b c d =
      cond a (Go (field w i timer_field) (field w i value_field) (field w i first_field))
      (cond b (Out (field w i name_field) (field w i timer_field) (field w i value_field) (field w i first_field) (field w i second_field))
      (cond c (In (field w i name_field) (field w i timer_field) (field w i value_field) (field w i first_field) (field w i second_field))
      (cond d (Call (field w i name_field) (field w i value_field))
      Stop)))

  abbrev made : Env → Head → Part
  made e h = sub (part_of w (process_at w) i h) e

  own-kind : (e : Env) (a b c d : Bool) → with_timer (ticks_of (field w i timer_field)) (made e (kinds a b c d)) ≡ made e (kinds a b c d)
  unfolding with_timer sub part_of
  own-kind e true b c d = refl
  own-kind e false true c d = refl
  own-kind e false false true d = refl
  own-kind e false false false true = refl
  own-kind e false false false false = refl

  pub own-timer : (e : Env) → with_timer (ticks_of (field w i timer_field)) (sub (part_at w i) e) ≡ sub (part_at w i) e
  unfolding part_at head_at
  own-timer e = own-kind e (eqb (field w i kind_field) 1) (eqb (field w i kind_field) 2) (eqb (field w i kind_field) 3) (eqb (field w i kind_field) 4)

  pub process-last : next_at w i ≡ 0 → process_text (process_seen w i vs) ≡ part_text (part_seen w i (field w i timer_field) vs)
  process-last e = unfold process_seen part_seen part_text in rw (process-is w at.good i at.within, e, own-timer (some_at w i vs)) (unfold joined sub_p process_text in refl)

  pub process-more : (j : ℕ) → next_at w i ≡ suc j
      → process_text (process_seen w i vs) ≡ part_text (part_seen w i (field w i timer_field) vs) ++ (bytes " | " ++ process_text (process_seen w j vs))
  process-more j e =
      rw (← inner-seen j (after-fine j e)) (unfold process_seen part_seen part_text in rw (process-is w at.good i at.within, e, own-timer (some_at w i vs)) (unfold joined sub_p process_text in refl))

  pub below_next : (j : ℕ) → next_at w i ≡ suc j → Below j vs
  below_next j e =
      let r = after-fine j e in
      record { lesser = r.lesser; place = inner-place j _ vs r at.slots }
