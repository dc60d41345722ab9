-- The part at a place in its pieces by its kind, and the process at a place by its next part, under the values of some slots.
-- By putting the values into the part that the head stands for (the crate `text_process`, Heads).
use Prim.Native.Nat.{ℕ, zero, suc, ◌-◌, ◌≤◌}
use native.Mathlib.Omega.{arith}
use mathlib.Core.List.{List, [], ◌∷◌, map}
use mathlib.Core.Bool.{Bool, true, false, cond}
use mathlib.Core.Path.{◌≡◌, refl, ap, sym, ◌∙◌}
use lib.Dec.{eqb, leb, ltb}
use lib.ListN.{length, get_or, take, set}
use borrow.Author.Tests.{ltb-false, leb-true, le-ltb, eqb-true, eqb-false, ne_eqb}
use Rattle.terms.specs.Names.{Name}
use Rattle.terms.specs.Terms.{Timer, Part, Process}
use Rattle.terms.specs.Terms.Value.{var}
use Rattle.terms.specs.Terms.Part.{stop, go, out, inp, call}
use Rattle.terms.specs.Terms.Process.{one, ◌∥◌}
use Rattle.terms.specs.Substitution.{Env, sub, sub_p, sub_v, sub_vs, held}
use Rattle.terms.specs.Clock.{ticks_of}
use Rattle.terms.proofs.Names.{and-inv}
use Rattle.table.specs.Words.{parts_in, chan_name, def_name, field, next_at, bound_at, names_at, arg_words, first_field, kind_field, name_field, second_field, timer_field, value_field}
use Rattle.table.specs.Meaning.{value_of, values_of, part_of, joined, part_at, with_timer}
use Rattle.table.specs.Valid.{ref_ok, part_ok}
use Rattle.table.proofs.Tests.{script-fine, below_at}
use Rattle.table.proofs.Places.{go-fine, out-fine, in-fine, process-is}
use Rattle.table.proofs.WordsHead.{head-go, head-out, head_in, head-call, head-stop}
use Rattle.text_process.specs.Values.{shown, some_at, value_seen, part_seen, process_seen, Places}
use Rattle.text_process.proofs.Values.{slot, slot_held, slot-few, name-field}
use Rattle.text_process.proofs.Heads.{fine, call-fine, call-few, after-fine, inner-seen, hidden-seen, own-timer}
use Rattle.calls_alike.specs.Decides.{Decides}
use Rattle.calls_alike.proofs.Decided.{Hangs, never, always, told}
use Rattle.calls_alike.specs.Pieces.{halt, opening, inner, resolved, named, ValueOk, ArgsOk, args_seen, call_seen, go_seen, inner_seen}

-- ── a part is its two pieces ──
unfoldable rebuilt : Part → List Process → Part
rebuilt stop ps = stop
rebuilt (go t v p) ps = go t v (get_or ps 0 halt)
rebuilt (out c t v p q) ps = out c t v (get_or ps 0 halt) (get_or ps 1 halt)
rebuilt (inp c t y p q) ps = inp c t y (get_or ps 0 halt) (get_or ps 1 halt)
rebuilt (call i vs) ps = call i vs

rebuilt-is : (a : Part) → rebuilt (opening a) (inner a) ≡ a
unfolding rebuilt opening inner
rebuilt-is stop = refl
rebuilt-is (go t v p) = refl
rebuilt-is (out c t v p q) = refl
rebuilt-is (inp c t y p q) = refl
rebuilt-is (call i vs) = refl

pub both-pieces : {a b : Part} → opening a ≡ opening b → inner a ≡ inner b → a ≡ b
both-pieces {a} {b} p q = sym (rebuilt-is a) ∙ ap (λ z. rebuilt z (inner a)) p ∙ ap (rebuilt (opening b)) q ∙ rebuilt-is b

inner-timer : (u : Timer) (a : Part) → inner (with_timer u a) ≡ inner a
unfolding inner with_timer
inner-timer u stop = refl
inner-timer u (go t v p) = refl
inner-timer u (out c t v p q) = refl
inner-timer u (inp c t y p q) = refl
inner-timer u (call i vs) = refl

-- the timer does not show in the inner processes
pub inner-any : (w : List ℕ) (i t : ℕ) (vs : List ℕ) → inner (part_seen w i t vs) ≡ inner_seen w i vs
unfolding inner_seen part_seen
inner-any w i t vs = inner-timer (ticks_of t) (sub (part_at w i) (some_at w i vs)) ∙ sym (inner-timer (ticks_of 0) (sub (part_at w i) (some_at w i vs)))

-- ── up to the inner processes, by the kind ──
all-put : (w : List ℕ) (e : Env) (ys : List Name) (xs : List ℕ) → sub_vs e (values_of w ys xs) ≡ map (λ v. sub_v e (value_of w ys v)) xs
unfolding sub_vs values_of
all-put w e ys [] = refl
all-put w e ys (x ∷ xs) = ap (◌∷◌ (sub_v e (value_of w ys x))) (all-put w e ys xs)

module _ (w : List ℕ) (i : ℕ) (vs : List ℕ) (t : ℕ) where
  pub open-go : field w i kind_field ≡ 1 → opening (part_seen w i t vs) ≡ go_seen w i t vs
  unfolding part_seen part_at part_of with_timer sub opening go_seen
  open-go e = rw (head-go w i e)

  pub open-out : field w i kind_field ≡ 2
      → opening (part_seen w i t vs) ≡ out (chan_name w (field w i name_field)) (ticks_of t) (value_seen w i vs (field w i value_field)) halt halt
  unfolding part_seen part_at part_of with_timer sub opening
  open-out e = rw (head-out w i e)

  pub open_in : field w i kind_field ≡ 3 → opening (part_seen w i t vs) ≡ inp (chan_name w (field w i name_field)) (ticks_of t) (bound_at w i) halt halt
  unfolding part_seen part_at part_of with_timer sub opening
  open_in e = rw (head_in w i e)

  pub open-call : field w i kind_field ≡ 4 → opening (part_seen w i t vs) ≡ call_seen w i vs
  unfolding part_seen part_at part_of with_timer sub opening call_seen args_seen
  open-call e = rw (head-call w i e) (ap (call (def_name w (field w i name_field))) (all-put w (some_at w i vs) (names_at w i) (take (field w i value_field) (arg_words w i))))

  pub open-stop : (field w i kind_field ≡ 1 → ⊥) → (field w i kind_field ≡ 2 → ⊥) → (field w i kind_field ≡ 3 → ⊥) → (field w i kind_field ≡ 4 → ⊥)
      → opening (part_seen w i t vs) ≡ stop
  unfolding part_seen part_at part_of with_timer sub opening
  open-stop a b c d = rw (head-stop w i a b c d)

-- ── the kind, told by what stands before the inner processes ──
unfoldable tag : Part → ℕ
tag stop = 0
tag (go t v p) = 1
tag (out c t v p q) = 2
tag (inp c t y p q) = 3
tag (call i vs) = 4

module _ (w : List ℕ) (i : ℕ) (vs : List ℕ) (at : Places w i vs) where
  kind-few : field w i kind_field ≤ 4
  unfolding part_ok
  kind-few = leb-true _ 4 (and-inv (leb (field w i kind_field) 4) _ (below_at (parts_in w) (part_ok w) (script-fine w at.good).each_part i at.within)).0

  tag_is : (t k : ℕ) → k ≤ 4 → field w i kind_field ≡ k → tag (opening (part_seen w i t vs)) ≡ k
  unfolding tag go_seen call_seen
  tag_is t zero h e = ap tag (open-stop w i vs t (λ p. omega arith) (λ p. omega arith) (λ p. omega arith) (λ p. omega arith))
  tag_is t (suc zero) h e = ap tag (open-go w i vs t e)
  tag_is t (suc (suc zero)) h e = ap tag (open-out w i vs t e)
  tag_is t (suc (suc (suc zero))) h e = ap tag (open_in w i vs t e)
  tag_is t (suc (suc (suc (suc zero)))) h e = ap tag (open-call w i vs t e)
  tag_is t (suc (suc (suc (suc (suc k))))) h e = absurd (omega arith)

pub one-kind : {w v vs us : List ℕ} {i j : ℕ} → Places w i vs → Places v j us → (t u : ℕ)
    → opening (part_seen w i t vs) ≡ opening (part_seen v j u us) → field w i kind_field ≡ field v j kind_field
one-kind {w} {v} {vs} {us} {i} {j} p q t u e =
    sym (tag_is w i vs p t (field w i kind_field) (kind-few w i vs p) refl) ∙ ap tag e ∙ tag_is v j us q u (field v j kind_field) (kind-few v j us q) refl

-- ── the inner processes, by the kind ──
module _ (w : List ℕ) (i : ℕ) (vs : List ℕ) (at : Places w i vs) where
  pub go-value : field w i kind_field ≡ 1 → ValueOk w i
  go-value e = (go-fine w i _ _ _ (rw (head-go w i e) at (fine w i vs at).head)).value

  pub out-value : field w i kind_field ≡ 2 → ValueOk w i
  out-value e = (out-fine w i _ _ _ _ _ (rw (head-out w i e) at (fine w i vs at).head)).value

  pub call-args : field w i kind_field ≡ 4 → (field w i value_field ≤ 4) × ArgsOk w i (field w i value_field)
  call-args e = (call-few w i vs at (head-call w i e), (call-fine w i vs at _ _ (rw (head-call w i e) at (fine w i vs at).head)).each)

  pub inner-go : field w i kind_field ≡ 1 → inner_seen w i vs ≡ process_seen w (field w i first_field) vs ∷ []
  inner-go e =
      let r = go-fine w i _ _ _ (rw (head-go w i e) at (fine w i vs at).head) in
      rw (← inner-seen w i vs at (field w i first_field) r.first) (unfold inner_seen part_seen part_at part_of with_timer sub inner in rw (head-go w i e))

  pub inner_out : field w i kind_field ≡ 2 → inner_seen w i vs ≡ process_seen w (field w i first_field) vs ∷ process_seen w (field w i second_field) vs ∷ []
  inner_out e =
      let r = out-fine w i _ _ _ _ _ (rw (head-out w i e) at (fine w i vs at).head) in
      rw (← inner-seen w i vs at (field w i first_field) r.first, ← inner-seen w i vs at (field w i second_field) r.second) (unfold inner_seen part_seen part_at part_of with_timer sub inner in rw (head-out w i e))

  pub inner-in : field w i kind_field ≡ 3 → inner_seen w i vs ≡ process_seen w (field w i first_field) (set vs (field w i value_field) 64) ∷ process_seen w (field w i second_field) vs ∷ []
  inner-in e =
      let r = in-fine w i _ _ _ _ _ (rw (head_in w i e) at (fine w i vs at).head) in
      rw (← hidden-seen w i vs at (field w i value_field) (field w i first_field) (eqb-true _ (field w i value_field) r.slot) r.first, ← inner-seen w i vs at (field w i second_field) r.second)
      (unfold inner_seen part_seen part_at part_of with_timer sub inner in rw (head_in w i e))

  pub inner-none : (field w i kind_field ≡ 1 → ⊥) → (field w i kind_field ≡ 2 → ⊥) → (field w i kind_field ≡ 3 → ⊥) → inner_seen w i vs ≡ []
  inner-none a b c = go (eqb (field w i kind_field) 4) refl
    where
      go : (d : Bool) → eqb (field w i kind_field) 4 ≡ d → inner_seen w i vs ≡ []
      go true d = unfold inner_seen part_seen part_at part_of with_timer sub inner in rw (head-call w i (eqb-true _ 4 d))
      go false d = unfold inner_seen part_seen part_at part_of with_timer sub inner in rw (head-stop w i a b c (eqb-false _ 4 d))

  -- ── a process ──
  pub process-end : next_at w i ≡ 0 → process_seen w i vs ≡ one (part_seen w i (field w i timer_field) vs)
  process-end e = unfold process_seen part_seen in rw (process-is w at.good i at.within, e, own-timer w i vs at (some_at w i vs)) (unfold joined sub_p in refl)

  pub process-next : (j : ℕ) → next_at w i ≡ suc j → process_seen w i vs ≡ part_seen w i (field w i timer_field) vs ∥ process_seen w j vs
  process-next j e =
      rw (← inner-seen w i vs at j (after-fine w i vs at j e)) (unfold process_seen part_seen in rw (process-is w at.good i at.within, e, own-timer w i vs at (some_at w i vs)) (unfold joined sub_p in refl))

-- ── values ──
resolved-slot : (vs : List ℕ) (a : ℕ) → ltb a 64 ≡ false → ltb 7 (a - 64) ≡ false → resolved vs a ≡ cond (ltb (get_or vs (a - 64) 0) 64) (get_or vs (a - 64) 0) a
unfolding resolved
resolved-slot vs a p q = rw (p, q)

module _ (w : List ℕ) (i : ℕ) (vs : List ℕ) (n : length vs ≡ 8) where
  variable-is : (a : ℕ) → 64 ≤ a → value_seen w i vs a ≡ held (some_at w i vs (get_or (names_at w i) (a - 64) [])) (get_or (names_at w i) (a - 64) [])
  variable-is a h = unfold value_of sub_v in rw (le-ltb a 64 h)

  pub value-is : (a : ℕ) → ref_ok w (names_at w i) a ≡ true → named w i (resolved vs a) ≡ value_seen w i vs a
  value-is a e = go (ltb a 64) refl
    where
      slotted : (b : Bool) → 64 ≤ a → ltb (get_or vs (a - 64) 0) 64 ≡ b → named w i (cond b (get_or vs (a - 64) 0) a) ≡ value_seen w i vs a
      slotted true h q =
          let s = slot w i vs n a h e in
          sym (variable-is a h ∙ rw (slot_held w i vs n a s) (unfold shown held named in rw q))
      slotted false h q =
          let s = slot w i vs n a h e in
          let m : named w i a ≡ var (get_or (names_at w i) (a - 64) []) = unfold named in rw (le-ltb a 64 h, name-field w i (a - 64) s.few) in
          m ∙ sym (variable-is a h ∙ rw (slot_held w i vs n a s) (unfold shown held in rw q))

      go : (b : Bool) → ltb a 64 ≡ b → named w i (resolved vs a) ≡ value_seen w i vs a
      go true q = unfold resolved named value_of sub_v in rw q (rw q)
      go false q =
          let h = ltb-false a 64 q in
          let k : ltb 7 (a - 64) ≡ false = le-ltb 7 (a - 64) (omega (arith, slot-few w i vs n a h e)) in
          ap (named w i) (resolved-slot vs a q k) ∙ slotted (ltb (get_or vs (a - 64) 0) 64) h refl

-- ── the processes at two places ──
unfoldable first_of : Process → Part
first_of (one a) = a
first_of (a ∥ p) = a

first-is : (w : List ℕ) (i : ℕ) (vs : List ℕ) → Places w i vs → first_of (process_seen w i vs) ≡ part_seen w i (field w i timer_field) vs
first-is w i vs at = go (next_at w i) refl
  where
    go : (n : ℕ) → next_at w i ≡ n → first_of (process_seen w i vs) ≡ part_seen w i (field w i timer_field) vs
    go zero e = ap first_of (process-end w i vs at e) ∙ (unfold first_of in refl)
    go (suc j) e = ap first_of (process-next w i vs at j e) ∙ (unfold first_of in refl)

rest-is : {a b : Part} {p q : Process} → a ∥ p ≡ b ∥ q → p ≡ q
rest-is e = cc

joined_is : {a b : Part} {p q : Process} → a ≡ b → p ≡ q → a ∥ p ≡ b ∥ q
joined_is e f = cc

longer : {a b : Part} {p : Process} → one a ≡ b ∥ p → ⊥
longer e = let z : ◌≡◌ {A = ℕ} 0 1 = cc in omega arith

module _ {w v vs us : List ℕ} {i j : ℕ} (p : Places w i vs) (q : Places v j us) where
  pub firsts_same : process_seen w i vs ≡ process_seen v j us → part_seen w i (field w i timer_field) vs ≡ part_seen v j (field v j timer_field) us
  firsts_same e = sym (first-is w i vs p) ∙ ap first_of e ∙ first-is v j us q

  -- the first process ends here
  pub end-decides : part_seen w i (field w i timer_field) vs ≡ part_seen v j (field v j timer_field) us → next_at w i ≡ 0
      → Decides (eqb (next_at v j) 0) (process_seen w i vs) (process_seen v j us)
  end-decides e h = go (next_at v j) refl
    where
      go : (n : ℕ) → next_at v j ≡ n → Decides (eqb n 0) (process_seen w i vs) (process_seen v j us)
      go zero k = always (process-end w i vs p h ∙ ap one e ∙ sym (process-end v j us q k))
      go (suc m) k = told (ne_eqb (suc m) 0 (λ z. omega arith)) (never (λ f. longer (sym (process-end w i vs p h) ∙ f ∙ process-next v j us q m k)))

  -- only the second ends here
  pub ends-early : (m : ℕ) → next_at w i ≡ suc m → next_at v j ≡ 0 → Decides false (process_seen w i vs) (process_seen v j us)
  ends-early m h k = never (λ f. longer (sym (process-end v j us q k) ∙ sym f ∙ process-next w i vs p m h))

  -- both go on
  pub next-hangs : part_seen w i (field w i timer_field) vs ≡ part_seen v j (field v j timer_field) us → (m n : ℕ) → next_at w i ≡ suc m → next_at v j ≡ suc n
      → Hangs (process_seen w i vs) (process_seen v j us) (process_seen w m vs) (process_seen v n us)
  next-hangs e m n h k = record {
    up = λ f. process-next w i vs p m h ∙ joined_is e f ∙ sym (process-next v j us q n k);
    down = λ f. rest-is (sym (process-next w i vs p m h) ∙ f ∙ process-next v j us q n k);
  }
