-- Every row's timer is in range, also where its part has none: what is written there is a timer of the text or 0.
-- By induction on the process, write by write: names lie below the rows, and of a row's words only the third is its timer.
use Prim.Native.Nat.{ℕ, suc, ◌+◌, ◌-◌, ◌*◌, ◌≤◌, ◌<◌}
use native.Mathlib.Omega.{arith}
use mathlib.Core.List.{List, [], ◌∷◌}
use mathlib.Core.Bool.{Bool, true, false, cond}
use mathlib.Core.Path.{◌≡◌, refl, sym, ◌∙◌}
use borrow.Author.Tests.{ltb-true, ltb-false, eqb-true, eqb-false}
use lib.Dec.{ltb, eqb}
use lib.ListN.{length, get_or, set}
use lib.Seq.{sets, get_or-set_same, set_out as set-none}
use Rattle.terms.specs.Names.{Name}
use Rattle.terms.specs.Terms.{Timer, Value, Part, Process}
use Rattle.terms.specs.Terms.Timer.{ticks, inf}
use Rattle.terms.specs.Terms.Value.{loc, var}
use Rattle.terms.specs.Terms.Part.{stop, go, out, inp, call}
use Rattle.terms.specs.Terms.Process.{one, ◌∥◌}
use Rattle.text.specs.WellFormed.{WellTimer, WellPart, WellProcess}
use Rattle.table.specs.declared.Key.{Key}
use Rattle.table.specs.Words.{row_size, chans_at, locs_at, parts_at, word, field, name_size, kind_field, timer_field}
use Rattle.table.specs.Tests.{key_name}
use Rattle.table.specs.Size.{size, size_p}
use Rattle.text_build.specs.declared.Scope.{Scope}
use Rattle.text_build.specs.Keys.{key_of}
use Rattle.text_build.specs.Tables.{key_words, held_in, number_in, add_key, enlist}
use Rattle.text_build.specs.Rows.{timer_word, first_place, second_place}
use Rattle.text_build.specs.Put.{slot_of, enter_loc, enter_chan, enter_value, enter_values, enter_part, row_words, row_of, opened, set_second, linked, inner_scope, scope_mark, put_part, put}
use Rattle.table.proofs.Stores.{set_out, sets-past}
use Rattle.text_build.proofs.RowWords.{Eight}
use Rattle.text_build.proofs.Opening.{row-length}
use Rattle.text_build.proofs.Puts.{inner-eight}

-- ── names lie below the rows ──
abbrev pub High : List ℕ → List ℕ → Type 0
High w v = (x : ℕ) → parts_at ≤ x → word v x ≡ word w x

enlist-high : (w : List ℕ) (o c : ℕ) (k : Key) → o + 256 ≤ parts_at → c < 8 → High w (enlist w o c k)
unfolding enlist add_key
enlist-high w o c k a b x h = go (ltb (number_in w o (held_in w c) (key_name k)) (held_in w c)) (ltb (held_in w c) 64) refl
  where
    go : (p q : Bool) → ltb (held_in w c) 64 ≡ q → word (cond p w (cond q (set (sets w (o + held_in w c * name_size) (key_words k)) c (held_in w c + 1)) (set w 4 1))) x ≡ word w x
    go true q e = refl
    go false true e =
        let l = ltb-true (held_in w c) 64 e in
        set_out (sets w (o + held_in w c * name_size) (key_words k)) c x (held_in w c + 1) (λ z. omega arith) ∙ sets-past (key_words k) w (o + held_in w c * name_size) x (omega arith)
    go false false e = set_out w 4 x 1 (λ z. omega arith)

pub loc-high : (w : List ℕ) (l : Name) → High w (enter_loc w l)
unfolding enter_loc
loc-high w l = enlist-high w locs_at 1 (key_of l) (omega arith) (omega arith)

chan-high : (w : List ℕ) (c : Name) → High w (enter_chan w c)
unfolding enter_chan
chan-high w c = enlist-high w chans_at 2 (key_of c) (omega arith) (omega arith)

value-high : (w : List ℕ) (v : Value) → High w (enter_value w v)
unfolding enter_value
value-high w (loc l) x h = loc-high w l x h
value-high w (var y) x h = refl

values-high : (vs : List Value) (w : List ℕ) → High w (enter_values w vs)
unfolding enter_values
values-high [] w x h = refl
values-high (v ∷ vs) w x h = values-high vs (enter_value w v) x h ∙ value-high w v x h

part-high : (a : Part) (w : List ℕ) → High w (enter_part w a)
unfolding enter_part
part-high stop w x h = refl
part-high (go t v p) w x h = value-high w v x h
part-high (out c t v p q) w x h = value-high (enter_chan w c) v x h ∙ chan-high w c x h
part-high (inp c t y p q) w x h = chan-high w c x h
part-high (call d vs) w x h = values-high vs w x h

mark-high : (w : List ℕ) (sc : Scope) (y : Name) → High w (scope_mark w sc y)
unfolding scope_mark
mark-high w sc y x h = go (ltb (slot_of w sc y) sc.n) (ltb sc.n 8)
  where
    go : (a b : Bool) → word (cond a w (cond b w (set w 4 1))) x ≡ word w x
    go true b = refl
    go false true = refl
    go false false = set_out w 4 x 1 (λ z. omega arith)

-- ── rows ──
-- of the first n rows
abbrev pub Timely : ℕ → List ℕ → Type 0
Timely n w = (j : ℕ) → j < n → field w j timer_field ≤ 1_000_001

pub timely-high : {m : ℕ} → (w v : List ℕ) → High w v → Timely m w → Timely m v
timely-high w v e t j b = rw (e (parts_at + j * row_size + timer_field) (omega arith)) (t j b)

-- one word
set-small : (w : List ℕ) (o a x : ℕ) → (o ≡ x → a ≤ 1_000_001) → word w x ≤ 1_000_001 → word (set w o a) x ≤ 1_000_001
set-small w o a x h t = go (eqb x o) refl (ltb o (length w)) refl
  where
    go : (b : Bool) → eqb x o ≡ b → (c : Bool) → ltb o (length w) ≡ c → word (set w o a) x ≤ 1_000_001
    go true e true l =
        let q = eqb-true x o e in
        rw q (rw (get_or-set_same w o a 0 (ltb-true o (length w) l)) (h (sym q)))
    go true e false l = rw (set-none w o a (ltb-false o (length w) l)) t
    go false e c l = rw (set_out w o x a (eqb-false x o e)) t

sets-small : (vs w : List ℕ) (o x : ℕ) → ((k : ℕ) → k < length vs → o + k ≡ x → get_or vs k 0 ≤ 1_000_001) → word w x ≤ 1_000_001 → word (sets w o vs) x ≤ 1_000_001
sets-small [] w o x h t = t
sets-small (a ∷ vs) w o x h t = sets-small vs (set w o a) (suc o) x (λ k l e. h (suc k) (omega arith) (omega arith)) (set-small w o a x (λ e. h 0 (omega arith) (omega arith)) t)

timer-small : (t : Timer) → WellTimer t → timer_word t ≤ 1_000_001
unfolding timer_word
timer-small (ticks n) h = omega arith
timer-small inf h = omega arith

row_small : (a : Part) (w : List ℕ) (i : ℕ) (sc : Scope) → WellPart a → get_or (row_of w i sc a) 2 0 ≤ 1_000_001
unfolding row_of row_words
row_small stop w i sc f = omega arith
row_small (go t v p) w i sc f = timer-small t f.0
row_small (out c t v p q) w i sc f = timer-small t f.1
row_small (inp c t y p q) w i sc f = timer-small t f.1
row_small (call d vs) w i sc f = omega arith

opened-timely : {m : ℕ} → (a : Part) (w : List ℕ) (i : ℕ) (sc : Scope) → Eight sc → WellPart a → Timely m w → Timely m (opened w i sc a)
unfolding opened
opened-timely a w i sc e f t j b =
    sets-small (row_of w i sc a) (enter_part w a) (parts_at + i * row_size + kind_field) (parts_at + j * row_size + timer_field)
    (λ k l q. let n = row-length w i sc a e in let two : k ≡ 2 = omega arith in rw two (row_small a w i sc f))
    (timely-high w (enter_part w a) (part-high a w) t j b)

-- words 5 to 7 of a row
later-timely : {m : ℕ} → (w : List ℕ) (i k : ℕ) (vs : List ℕ) → 5 ≤ k → k + length vs ≤ 8 → Timely m w → Timely m (sets w (parts_at + i * row_size + k) vs)
later-timely w i k vs a b t j d = sets-small vs w (parts_at + i * row_size + k) (parts_at + j * row_size + timer_field) (λ m l q. absurd (omega arith)) (t j d)

second-timely : {m : ℕ} → (w : List ℕ) (i q : ℕ) → Timely m w → Timely m (set_second w i q)
unfolding set_second
second-timely w i q t = later-timely w i 5 (q ∷ []) (omega arith) (omega arith) t

linked-timely : {m : ℕ} → (w : List ℕ) (i n l : ℕ) → Timely m w → Timely m (linked w i n l)
unfolding linked
linked-timely w i n l t = later-timely w i 6 (n ∷ l ∷ []) (omega arith) (omega arith) t

mutual
  unfolding put_part put

  part-timely : {m : ℕ} → (a : Part) (i : ℕ) (sc : Scope) (w : List ℕ) → Eight sc → WellPart a → Timely m w → Timely m (put_part a i sc w)
  part-timely stop i sc w e f t = opened-timely stop w i sc e f t
  part-timely (go u v p) i sc w e f t = put-timely p (first_place i) sc _ e f.2 (opened-timely (go u v p) w i sc e f t)
  part-timely (out c u v p q) i sc w e f t =
      second-timely _ i (second_place i p) (put-timely q (second_place i p) sc _ e f.4 (put-timely p (first_place i) sc _ e f.3 (opened-timely (out c u v p q) w i sc e f t)))
  part-timely (inp c u y p q) i sc w e f t =
      second-timely _ i (second_place i p) (put-timely q (second_place i p) sc _ e f.4
      (put-timely p (first_place i) (inner_scope w i sc y) _ (inner-eight w i sc y e) f.3 (opened-timely (inp c u y p q) _ i sc e f (timely-high w (scope_mark w sc y) (mark-high w sc y) t))))
  part-timely (call d vs) i sc w e f t = opened-timely (call d vs) w i sc e f t

  pub put-timely : {m : ℕ} → (p : Process) (i : ℕ) (sc : Scope) (w : List ℕ) → Eight sc → WellProcess p → Timely m w → Timely m (put p i sc w)
  put-timely (one a) i sc w e f t = linked-timely _ i 0 (suc i - size a) (part-timely a i sc w e f t)
  put-timely (a ∥ p) i sc w e f t = linked-timely _ i (suc (i - size a)) (suc i - (size a + size_p p)) (put-timely p (i - size a) sc _ e f.1 (part-timely a i sc w e f.0 t))
