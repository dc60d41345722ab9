-- The channels heard at a location, found component by component, decide what presses there.
-- By induction on how many components were looked at: one more adds its own channel.
use Prim.Native.Nat.{ℕ, ◌+◌, ◌<◌, ◌≤◌}
use native.Mathlib.Omega.{arith}
use mathlib.Core.List.{List, [], ◌∷◌, ◌++◌}
use mathlib.Core.Bool.{Bool, true, false, cond, ◌&&◌, ◌||◌}
use mathlib.Core.Path.{◌≡◌, refl, sym, ap, ◌∙◌}
use lib.Dec.{eqb}
use lib.ListN.{length, get_or, set, take, replicate, get_or-replicate, get_or-eq_default}
use lib.Seq.{get_or-set_same, get_or-set_other}
use borrow.Author.Tests.{ltb-true, eqb-true, eqb-false}
use Rattle.std.specs.Prelude.{Option, Some, None, unwrap_or}
use Rattle.std.specs.Option.{MatchOption}
use Rattle.std.specs.List.{list_any, range_with_len}
use Rattle.terms.specs.Rules.{some}
use Rattle.table.specs.declared.Comp.{Comp}
use Rattle.table.specs.declared.Head.{Head}
use Rattle.table.specs.declared.Head.TheVariants.{Stop, Go, Out, In, Call}
use Rattle.table.specs.declared.State.{State}
use Rattle.table.specs.Words.{chans_in, head_at}
use Rattle.table.specs.Meaning.{comp_in, comps_of}
use Rattle.table.specs.Valid.{head_ok, script_ok, comp_ok, valid}
use Rattle.table.specs.Fire.{ready_at, sent_on, hears, right_in, would_act, must_act, heard_at, presses_at, forced_at}
use Rattle.table.proofs.Tests.{script-fine, part-fine, comp-fine}
use Rattle.table.proofs.Places.{out-fine, in-fine}
use Rattle.table.proofs.InUse.{valid-script, valid-state}
use Rattle.table.proofs.Ranges.{some-range}
use Rattle.table.proofs.Ticks.{some_same}
use Rattle.calls_steady.proofs.Staying.{take_more}
use Rattle.calls_must.specs.Heard.{heard_on, hears_at, sends_on, Heard, pressed_by}

-- ── lists ──
pub some-append : {A : Type 0} (f : A → Bool) (xs ys : List A) → some f (xs ++ ys) ≡ (some f xs || some f ys)
unfolding some
some-append f [] ys = refl
some-append f (x ∷ xs) ys = go (f x) (some-append f xs ys)
  where
    go : (b : Bool) → some f (xs ++ ys) ≡ (some f xs || some f ys) → (b || some f (xs ++ ys)) ≡ ((b || some f xs) || some f ys)
    go true h = refl
    go false h = h

pub or-none : (b : Bool) → (b || false) ≡ b
or-none true = refl
or-none false = refl

-- one more component
pub some_more : {A : Type 0} (f : A → Bool) (xs : List A) (j : ℕ) (d : A) → j < length xs → some f (take (j + 1) xs) ≡ (some f (take j xs) || f (get_or xs j d))
unfolding some
some_more f xs j d h = ap (some f) (take_more xs j d h) ∙ some-append f (take j xs) (get_or xs j d ∷ []) ∙ ap (λ b. some f (take j xs) || b) (or-none (f (get_or xs j d)))

-- ── what is heard ──
-- the channel of a head in range
abbrev pub InEar : ℕ → Head → Type 0
InEar n Stop = Unit {0}
InEar n (Go t v p) = Unit {0}
InEar n (Out h t v p q) = h < n
InEar n (In h t k p q) = h < n
InEar n (Call d m) = Unit {0}

ear-small : (w : List ℕ) (i : ℕ) (h : Head) → head_ok w i h ≡ true → chans_in w ≤ 64 → InEar 64 h
ear-small w i Stop e n = tt
ear-small w i (Go t v p) e n = tt
ear-small w i (Out h t v p q) e n = omega (arith, ltb-true h (chans_in w) (out-fine w i h t v p q e).channel)
ear-small w i (In h t k p q) e n = omega (arith, ltb-true h (chans_in w) (in-fine w i h t k p q e).channel)
ear-small w i (Call d m) e n = tt

pub ear-fits : (w : List ℕ) (c : Comp) → script_ok w ≡ true → comp_ok w c ≡ true → InEar 64 (head_at w c.place)
ear-fits w c e f = ear-small w c.place (head_at w c.place) (part-fine w e c.place (comp-fine w c f).place).head (script-fine w e).chans

-- the channel h is this one
abbrev pub is_own : ℕ → Option ℕ → Bool
is_own h (Some d) = eqb h d
is_own h None = false

pub no-input : (g : Head) → ((h t k p q : ℕ) → g ≡ In h t k p q → ⊥) → None ≡ heard_on g
unfolding heard_on
no-input Stop n = refl
no-input (Go t v p) n = refl
no-input (Out h t v p q) n = refl
no-input (In h t k p q) n = absurd (n h t k p q refl)
no-input (Call d m) n = refl

pub no-output : (g : Head) → ((h t v p q : ℕ) → g ≡ Out h t v p q → ⊥) → None ≡ sends_on g
unfolding sends_on
no-output Stop n = refl
no-output (Go t v p) n = refl
no-output (Out h t v p q) n = absurd (n h t v p q refl)
no-output (In h t k p q) n = refl
no-output (Call d m) n = refl

pub sent-number : (g : Head) → unwrap_or (sends_on g) 64 ≡ sent_on g
unfolding sends_on sent_on
sent-number Stop = refl
sent-number (Go t v p) = refl
sent-number (Out h t v p q) = refl
sent-number (In h t k p q) = refl
sent-number (Call d m) = refl

-- past the last place nothing is marked, so that 64 serves for no channel
pub marked_out : (ys : List Bool) → length ys ≤ 64 → (o : Option ℕ) (r : Bool) → MatchOption o (r ≡ false) (λ d. r ≡ get_or ys d false) → r ≡ get_or ys (unwrap_or o 64) false
marked_out ys n None r e = e ∙ sym (get_or-eq_default ys false n)
marked_out ys n (Some d) r e = e

-- a channel is heard exactly if it is the component's own
pub hears-own : (w : List ℕ) (l g : ℕ) (c : Comp) → (ready_at l c && hears g (head_at w c.place)) ≡ is_own g (hears_at w l c)
unfolding hears_at
hears-own w l g c = go (ready_at l c) (head_at w c.place)
  where
    go : (b : Bool) (x : Head) → (b && hears g x) ≡ is_own g (cond b (heard_on x) None)
    go false x = refl
    go true Stop = unfold hears heard_on in refl
    go true (Go t v p) = unfold hears heard_on in refl
    go true (Out d t v p q) = unfold hears heard_on in refl
    go true (In d t k p q) = unfold hears heard_on in refl
    go true (Call d n) = unfold hears heard_on in refl

-- and it is one of 64
pub own-fits : (w : List ℕ) (l : ℕ) (c : Comp) (d : ℕ) → script_ok w ≡ true → comp_ok w c ≡ true → hears_at w l c ≡ Some d → d < 64
unfolding hears_at heard_on
own-fits w l c d e f = go (ready_at l c) (head_at w c.place) (ear-fits w c e f)
  where
    go : (b : Bool) (x : Head) → InEar 64 x → cond b (heard_on x) None ≡ Some d → d < 64
    go false x i p = cc
    go true Stop i p = cc
    go true (Go t v q) i p = cc
    go true (Out h t v q r) i p = cc
    go true (In h t k q r) i p = let z : h ≡ d = cc in omega (arith, i)
    go true (Call h n) i p = cc

pub heard-none : (w : List ℕ) (l : ℕ) → Heard w l [] (replicate 64 false)
unfolding some heard_at
heard-none w l h k = get_or-replicate 64 h false false k

-- one more component is looked at, which hears a channel, or none
module _ (w : List ℕ) (l : ℕ) (xs : List Comp) (j : ℕ) (d : Comp) (ys : List Bool) (b : j < length xs) (n : length ys ≡ 64) (p : Heard w l (take j xs) ys) where
  one_more : (h : ℕ) → h < 64 → heard_at w l (take (j + 1) xs) h ≡ (get_or ys h false || is_own h (hears_at w l (get_or xs j d)))
  unfolding heard_at
  one_more h k =
      some_more (λ e. ready_at l e && hears h (head_at w e.place)) xs j d b
      ∙ ap (λ z. z || (ready_at l (get_or xs j d) && hears h (head_at w (get_or xs j d).place))) (sym (p h k))
      ∙ ap (λ z. get_or ys h false || z) (hears-own w l h (get_or xs j d))

  pub heard-more : (m : ℕ) → m < 64 → hears_at w l (get_or xs j d) ≡ Some m → Heard w l (take (j + 1) xs) (set ys m true)
  heard-more m f e h k = go (eqb h m) refl ∙ sym (one_more h k ∙ ap (λ z. get_or ys h false || is_own h z) e)
    where
      yes-or : (b : Bool) → true ≡ (b || true)
      yes-or true = refl
      yes-or false = refl

      go : (t : Bool) → eqb h m ≡ t → get_or (set ys m true) h false ≡ (get_or ys h false || eqb h m)
      go true o = ap (λ z. get_or (set ys m true) z false) (eqb-true h m o) ∙ get_or-set_same ys m true false (omega arith) ∙ rw o (yes-or (get_or ys h false))
      go false o = get_or-set_other ys m h true false (eqb-false h m o) ∙ rw o (sym (or-none (get_or ys h false)))

  pub heard-past : hears_at w l (get_or xs j d) ≡ None → Heard w l (take (j + 1) xs) ys
  heard-past e h k = sym (one_more h k ∙ ap (λ z. get_or ys h false || is_own h z) e ∙ or-none (get_or ys h false))

-- ── what presses ──
presses-heard : (w : List ℕ) (l : ℕ) (cs : List Comp) (ys : List Bool) (c : Comp) (g : Head) → InEar 64 g → Heard w l cs ys
    → must_act w (get_or ys (sent_on g) false) c g ≡ must_act w (heard_at w l cs (sent_on g)) c g
unfolding must_act would_act sent_on
presses-heard w l cs ys c Stop i p = refl
presses-heard w l cs ys c (Go u v q) i p = refl
presses-heard w l cs ys c (Out h u v q r) i p = ap (λ b. b && right_in w c (Out h u v q r)) (p h i)
presses-heard w l cs ys c (In h u k q r) i p = refl
presses-heard w l cs ys c (Call d n) i p = refl

pub pressed-is : (w : List ℕ) (l : ℕ) (cs : List Comp) (ys : List Bool) (c : Comp) → script_ok w ≡ true → comp_ok w c ≡ true → Heard w l cs ys
    → pressed_by w l ys c ≡ presses_at w l cs c
unfolding pressed_by presses_at
pressed-is w l cs ys c e f p = ap (λ b. ready_at l c && b) (presses-heard w l cs ys c (head_at w c.place) (ear-fits w c e f) p)

-- of all components in use, one presses exactly if it does by what is heard
pub presses-any : (w : List ℕ) (st : State) (l : ℕ) (ys : List Bool) → valid w st ≡ true → Heard w l (comps_of st) ys
    → list_any (λ j. pressed_by w l ys (comp_in st.c j)) (range_with_len 0 st.n) ≡ forced_at w l (comps_of st)
unfolding comps_of forced_at
presses-any w st l ys v p =
    sym (some-range (pressed_by w l ys) 0 st.n (comp_in st.c))
    ∙ some_same (pressed_by w l ys) (presses_at w l (comps_of st)) (comp_ok w) (comps_of st) (valid-state w st v).each (λ c e. pressed-is w l (comps_of st) ys c (valid-script w st v) e p)
