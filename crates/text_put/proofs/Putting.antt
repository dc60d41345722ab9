-- Parts and processes put into their rows: what the two readers make of what they read and called.
-- By the forms of a part, and by whether a process has one part or more.
use Prim.Native.Nat.{ℕ, suc, ◌+◌, ◌-◌, ◌≤◌, ◌<◌}
use native.Mathlib.Omega.{arith}
use native.Mathlib.Numerals.{add-one}
use mathlib.Core.Bool.{Bool, true, false, cond, false≢true}
use mathlib.Core.List.{List, ◌∷◌}
use mathlib.Core.Path.{◌≡◌, refl, sym, ap, ◌∙◌}
use borrow.Author.Tests.{ltb-true}
use lib.Dec.{ltb}
use lib.ListN.{length, drop, set}
use Rattle.terms.specs.Names.{Name}
use Rattle.terms.specs.Terms as T
use Rattle.text.specs.Tokens.{Token, lex, closes, comma, bar}
use Rattle.text.specs.Tokens.Token.{word, sign}
use Rattle.text.specs.Syntax.{Part, Process}
use Rattle.text.specs.Syntax.Part.{stop, go, out, inp, call}
use Rattle.text.specs.Syntax.Process.{one, ◌∥◌}
use Rattle.text.specs.Tree.{settle, settle_p}
use Rattle.text.specs.Grammar.{the, next}
use Rattle.text.specs.Write.{value_t, part_t, process_t}
use Rattle.text.specs.WellFormed.{WellPart, WellProcess}
use Rattle.text.proofs.ReadBack.{timer-longer, value-longer, part-longer, process-longer}
use Rattle.text.specs.Grammar.Rest.{ok, bad}
use Rattle.text_words.proofs.Positions.{bytes-fall}
use Rattle.table.specs.Words.{own_at}
use Rattle.table.specs.Size.{size, size_p}
use Rattle.text_build.specs.declared.Scope.{Scope}
use Rattle.text_build.specs.Put.{slot_of, opened, set_second, linked, inner_scope, put_part, put}
use Rattle.text_build.proofs.Places.{size-some, size_p-some}
use Rattle.text_put.specs.declared.Open.{Open}
use Rattle.text_put.specs.declared.Placed.{Placed}
use Rattle.text_parts.specs.declared.Form.{Form}
use Rattle.text_parts.specs.declared.Form.TheVariants.{Leaf, One, Two}
use Rattle.text_put.specs.Opened.{PartAt, ProcessAt, rest, arms_of, arms, within, noted, OpenIs, PartPut, ProcessPut}
use Rattle.text_put.proofs.Peeling.{peel-sign, peel-some, sign-next}

-- ── what is behind a part's front is less than the part ──
rest-less : (a : Part) (us : List Token) → (arms a ≡ 0 → ⊥) → length (rest a us) < length (part_t a us)
unfolding part_t
rest-less stop us n = absurd (n refl)
rest-less (go t v p) us n =
    let x = sign comma ∷ process_t p (sign closes ∷ us) in
    omega (arith, timer-longer t (sign comma ∷ value_t v x), value-longer v x)
rest-less (out c t v p q) us n =
    let x = sign comma ∷ process_t p (sign comma ∷ process_t q (sign closes ∷ us)) in
    omega (arith, timer-longer t (sign comma ∷ value_t v x), value-longer v x)
rest-less (inp c t y p q) us n =
    let x = sign comma ∷ word y ∷ sign comma ∷ process_t p (sign comma ∷ process_t q (sign closes ∷ us)) in
    omega (arith, timer-longer t x)
rest-less (call d vs) us n = absurd (n refl)

-- ── at most 8 names are in scope ──
inner-few : (w : List ℕ) (i : ℕ) (sc : Scope) (y : Name) → sc.n ≤ 8 → (inner_scope w i sc y).n ≤ 8
unfolding inner_scope
inner-few w i sc y h = go₁ (ltb (slot_of w sc y) sc.n) (ltb sc.n 8) refl
  where
    go₁ : (a b : Bool) → ltb sc.n 8 ≡ b → (cond a sc (cond b (record { n = sc.n + 1; at = set sc.at sc.n (own_at i) }) sc)).n ≤ 8
    go₁ true b e = h
    go₁ false true e = let l = ltb-true sc.n 8 e in omega arith
    go₁ false false e = h

pub within-few : (w : List ℕ) (i : ℕ) (sc : Scope) (a : T.Part) → sc.n ≤ 8 → (within w i sc a).n ≤ 8
within-few w i sc T.stop h = h
within-few w i sc (T.go t v p) h = h
within-few w i sc (T.out c t v p q) h = h
within-few w i sc (T.inp c t y p q) h = inner-few w i sc y h
within-few w i sc (T.call d vs) h = h

-- ── a part of two processes: an output, an input ──
record Both (a : Part) : Type 0 where
  first : Process
  second : Process
  is : (us : List Token) → rest a us ≡ process_t first (sign comma ∷ process_t second (sign closes ∷ us))
  well : WellPart (settle a) → WellProcess (settle_p first) × WellProcess (settle_p second)
  size_is : size (settle a) ≡ suc (size_p (settle_p first) + size_p (settle_p second))
  puts : (w : List ℕ) (i : ℕ) (sc : Scope)
      → put_part (settle a) i sc w
      ≡ set_second (put (settle_p second) (i - 1 - size_p (settle_p first)) sc (put (settle_p first) (i - 1) (within w i sc (settle a)) (opened (noted w sc (settle a)) i sc (settle a)))) i (i - 1 - size_p (settle_p first))

two : (a : Part) → (arms a ≡ 0 → ⊥) → (arms a ≡ 1 → ⊥) → Both a
unfolding put_part size
two stop n m = absurd (n refl)
two (go t v p) n m = absurd (m refl)
two (out c t v p q) n m = record { first = p; second = q; is = λ us. refl; well = λ w. (w.3, w.4); size_is = refl; puts = λ w i sc. refl }
two (inp c t y p q) n m = record { first = p; second = q; is = λ us. refl; well = λ w. (w.3, w.4); size_is = refl; puts = λ w i sc. refl }
two (call d vs) n m = absurd (n refl)

-- ── how many processes a form has ──
pub some-arms : (f : Form) → (f ≡ Leaf → ⊥) → arms_of f ≡ 0 → ⊥
some-arms Leaf n z = n refl
some-arms One n z = omega arith
some-arms Two n z = omega arith

pub two-arms : (f : Form) → (f ≡ One → ⊥) → arms_of f ≡ 1 → ⊥
two-arms Leaf n z = omega arith
two-arms One n z = n refl
two-arms Two n z = omega arith

-- ── the part reader ──
module _ {s : List ℕ} {at : ℕ} (x : PartAt s at) {w u : List ℕ} {i : ℕ} {sc : Scope} {o : Open} (f : OpenIs s w u i sc o x.what x.left) where
  pub inner-small : sc.n ≤ 8 → o.inner.n ≤ 8
  inner-small h = let k = within-few w i sc (settle x.what) h in rw f.inner k

  -- no process
  pub part-leaf : arms_of o.form ≡ 0 → PartPut s w u i sc (record { end = o.end; low = i }) x.what x.left
  unfolding put_part size
  part-leaf z = go₁ x.what f.left (sym f.form ∙ z) f.after
    where
      go₁ : (a : Part) → lex (drop o.end s) ≡ rest a x.left → arms a ≡ 0 → u ≡ opened (noted w sc (settle a)) i sc (settle a) → PartPut s w u i sc (record { end = o.end; low = i }) a x.left
      go₁ stop g e h = record { left = g; after = h; low = omega arith }
      go₁ (go t v p) g e h = absurd (omega arith)
      go₁ (out c t v p q) g e h = absurd (omega arith)
      go₁ (inp c t y p q) g e h = absurd (omega arith)
      go₁ (call d vs) g e h = record { left = g; after = h; low = omega arith }

  -- the first process
  pub first-at : (arms_of o.form ≡ 0 → ⊥) → ProcessAt s o.end
  first-at n = go₁ x.what x.well f.left f.form
    where
      go₁ : (a : Part) → WellPart (settle a) → lex (drop o.end s) ≡ rest a x.left → arms_of o.form ≡ arms a → ProcessAt s o.end
      go₁ stop h g e = absurd (n e)
      go₁ (go t v p) h g e = record { what = p; left = sign closes ∷ x.left; is = g; well = h.2; over = refl; last = refl }
      go₁ (out c t v p q) h g e = record { what = p; left = _; is = g; well = h.3; over = refl; last = refl }
      go₁ (inp c t y p q) h g e = record { what = p; left = _; is = g; well = h.3; over = refl; last = refl }
      go₁ (call d vs) h g e = absurd (n e)

  tokens-fall : (arms_of o.form ≡ 0 → ⊥) → length (lex (drop o.end s)) < length (lex (drop at s))
  tokens-fall n = omega (arith, rest-less x.what x.left (λ z. n (f.form ∙ z)), ap length f.left, ap length x.is)

  pub first-falls : (arms_of o.form ≡ 0 → ⊥) → length s - o.end < length s - at
  first-falls n = bytes-fall s at o.end (tokens-fall n)

  module _ {u' : List ℕ} {r : Placed} (h : (y : ProcessAt s o.end) → ProcessPut s u u' (i - 1) o.inner r y.what y.left) where
    -- one process
    pub part-one : arms_of o.form ≡ 1 → (e : ℕ) → ok tt (lex (drop e s)) ≡ the closes (lex (drop r.end s)) → PartPut s w u' i sc (record { end = e; low = r.low }) x.what x.left
    unfolding put_part size
    part-one z e c = go₁ x.what x.well f.left (sym f.form ∙ z) f.inner f.after
      where
        go₁ : (a : Part) → WellPart (settle a) → lex (drop o.end s) ≡ rest a x.left → arms a ≡ 1 → o.inner ≡ within w i sc (settle a) → u ≡ opened (noted w sc (settle a)) i sc (settle a)
            → PartPut s w u' i sc (record { end = e; low = r.low }) a x.left
        go₁ stop l g k b d = absurd (omega arith)
        go₁ (go t v p) l g k b d =
            let y = h (record { what = p; left = sign closes ∷ x.left; is = g; well = l.2; over = refl; last = refl }) in
            let m = size_p-some (settle_p p) in
            record { left = peel-sign s e closes y.left c; after = y.after ∙ rw (b, d); low = y.low ∙ omega arith }
        go₁ (out c t v p q) l g k b d = absurd (omega arith)
        go₁ (inp c t y p q) l g k b d = absurd (omega arith)
        go₁ (call n vs) l g k b d = absurd (omega arith)

    -- and then the bracket is there
    pub one-closes : arms_of o.form ≡ 1 → bad ≡ the closes (lex (drop r.end s)) → ⊥
    one-closes z c = go₁ x.what x.well f.left (sym f.form ∙ z)
      where
        go₁ : (a : Part) → WellPart (settle a) → lex (drop o.end s) ≡ rest a x.left → arms a ≡ 1 → ⊥
        go₁ stop l g k = omega arith
        go₁ (go t v p) l g k =
            let y = h (record { what = p; left = sign closes ∷ x.left; is = g; well = l.2; over = refl; last = refl }) in
            peel-some closes y.left c
        go₁ (out c t v p q) l g k = omega arith
        go₁ (inp c t y p q) l g k = omega arith
        go₁ (call n vs) l g k = omega arith

    pub first-low : (arms_of o.form ≡ 0 → ⊥) → r.low ≤ suc i
    first-low n = let y = (h (first-at n)).low in omega arith

    module _ (n : arms_of o.form ≡ 0 → ⊥) (m : arms_of o.form ≡ 1 → ⊥) where
      abbrev T₂ : Both x.what
      T₂ = two x.what (λ z. n (f.form ∙ z)) (λ z. m (f.form ∙ z))

      first-put : ProcessPut s u u' (i - 1) o.inner r T₂.first (sign comma ∷ process_t T₂.second (sign closes ∷ x.left))
      first-put = h (record { what = T₂.first; left = _; is = f.left ∙ T₂.is x.left; well = (T₂.well x.well).0; over = refl; last = refl })

      pub two-comma : bad ≡ the comma (lex (drop r.end s)) → ⊥
      two-comma c = peel-some comma first-put.left c

      module _ (q : ℕ) (c : ok tt (lex (drop q s)) ≡ the comma (lex (drop r.end s))) where
        -- the second process
        pub second_at : ProcessAt s q
        second_at = record { what = T₂.second; left = sign closes ∷ x.left; is = peel-sign s q comma first-put.left c; well = (T₂.well x.well).1; over = refl; last = refl }

        second-tokens : length (lex (drop q s)) < length (lex (drop o.end s))
        second-tokens = omega (arith, ap length (peel-sign s q comma first-put.left c), ap length (f.left ∙ T₂.is x.left), process-longer T₂.first (sign comma ∷ process_t T₂.second (sign closes ∷ x.left)))

        pub second-falls : length s - q < length s - at
        second-falls = bytes-fall s at q (omega (arith, second-tokens, tokens-fall n))

        -- two processes
        pub two-closes : {u' u'' : List ℕ} {k : ℕ} {r' : Placed} → ((y : ProcessAt s q) → ProcessPut s u' u'' k sc r' y.what y.left) → bad ≡ the closes (lex (drop r'.end s)) → ⊥
        unfolding second_at
        two-closes h' d = peel-some closes (h' second_at).left d

        pub part-two : (k : ℕ) → k ≡ r.low - 1 → {u'' : List ℕ} {r' : Placed} → ((y : ProcessAt s q) → ProcessPut s u' u'' k sc r' y.what y.left) → {v : List ℕ} → v ≡ set_second u'' i k
            → (e : ℕ) → ok tt (lex (drop e s)) ≡ the closes (lex (drop r'.end s)) → PartPut s w v i sc (record { end = e; low = r'.low }) x.what x.left
        unfolding second_at
        part-two k z {u''} {r'} h' {v} b e d =
            let p = settle_p T₂.first in
            let p' = settle_p T₂.second in
            let y = h' second_at in
            let m₁ = size_p-some p in
            let m₂ = size_p-some p' in
            let w₁ : k ≡ i - 1 - size_p p = z ∙ ap (λ n. n - 1) first-put.low ∙ omega arith in
            record {
              left = peel-sign s e closes y.left d;
              after = rw (T₂.puts w i sc, b, y.after, first-put.after, f.inner, f.after, w₁);
              low = y.low ∙ ap (λ n. suc n - size_p p') w₁ ∙ omega (arith, T₂.size_is);
            }

-- ── the process reader ──
module _ {s : List ℕ} {at : ℕ} (x : ProcessAt s at) where
  pub part_at : PartAt s at
  unfolding process_t
  part_at = go₁ x.what x.well x.is
    where
      go₁ : (p : Process) → WellProcess (settle_p p) → lex (drop at s) ≡ process_t p x.left → PartAt s at
      go₁ (one a) l g = record { what = a; left = x.left; is = g; well = l; over = x.over }
      go₁ (a ∥ p) l g = record { what = a; left = sign bar ∷ process_t p x.left; is = g; well = l.0; over = refl }

  module _ {w u : List ℕ} {i : ℕ} {sc : Scope} {r : Placed} (h : (y : PartAt s at) → PartPut s w u i sc r y.what y.left) where
    pub low-few : r.low ≤ suc i
    low-few = let y = (h part_at).low in omega arith

    -- no bar: it was the last part
    pub process-last : bad ≡ the bar (lex (drop r.end s)) → {v : List ℕ} → v ≡ linked u i 0 r.low → ProcessPut s w v i sc r x.what x.left
    unfolding put size_p process_t
    process-last c {v} e = go₁ x.what x.well x.is
      where
        go₁ : (p : Process) → WellProcess (settle_p p) → lex (drop at s) ≡ process_t p x.left → ProcessPut s w v i sc r p x.left
        go₁ (one a) l g =
            let y = h (record { what = a; left = x.left; is = g; well = l; over = x.over }) in
            record { left = y.left; after = e ∙ rw (y.after, y.low); low = y.low }
        go₁ (a ∥ p) l g =
            let y = h (record { what = a; left = sign bar ∷ process_t p x.left; is = g; well = l.0; over = refl }) in
            absurd (peel-some bar y.left c)

    module _ (b : ℕ) (c : ok tt (lex (drop b s)) ≡ the bar (lex (drop r.end s))) where
      pub process-next : ProcessAt s b
      unfolding process_t
      process-next = go₁ x.what x.well x.is
        where
          go₁ : (p : Process) → WellProcess (settle_p p) → lex (drop at s) ≡ process_t p x.left → ProcessAt s b
          go₁ (one a) l g =
              let y = h (record { what = a; left = x.left; is = g; well = l; over = x.over }) in
              absurd (false≢true (sym x.last ∙ ap (next bar) (sym y.left) ∙ sign-next s b bar (lex (drop r.end s)) c))
          go₁ (a ∥ p) l g =
              let y = h (record { what = a; left = sign bar ∷ process_t p x.left; is = g; well = l.0; over = refl }) in
              record { what = p; left = x.left; is = peel-sign s b bar y.left c; well = l.1; over = x.over; last = x.last }

      pub next_low : {u' : List ℕ} {j : ℕ} {r' : Placed} → ((y : ProcessAt s b) → ProcessPut s u u' j sc r' y.what y.left) → r'.low ≤ suc j
      next_low h' = let y = (h' process-next).low in omega arith

      pub next-falls : length s - b < length s - at
      unfolding process_t
      next-falls = bytes-fall s at b (go₁ x.what x.well x.is)
        where
          go₁ : (p : Process) → WellProcess (settle_p p) → lex (drop at s) ≡ process_t p x.left → length (lex (drop b s)) < length (lex (drop at s))
          go₁ (one a) l g =
              let y = h (record { what = a; left = x.left; is = g; well = l; over = x.over }) in
              absurd (false≢true (sym x.last ∙ ap (next bar) (sym y.left) ∙ sign-next s b bar (lex (drop r.end s)) c))
          go₁ (a ∥ p) l g =
              let y = h (record { what = a; left = sign bar ∷ process_t p x.left; is = g; well = l.0; over = refl }) in
              omega (arith, ap length g, ap length (peel-sign s b bar y.left c), part-longer a (sign bar ∷ process_t p x.left))

      pub process-more : (j : ℕ) → j ≡ r.low - 1 → {u' : List ℕ} {r' : Placed} → ((y : ProcessAt s b) → ProcessPut s u u' j sc r' y.what y.left) → {v : List ℕ} → v ≡ linked u' i (j + 1) r'.low
          → ProcessPut s w v i sc r' x.what x.left
      unfolding put size_p process_t
      process-more j m {u'} {r'} h' {v} e = go₁ x.what x.well x.is
        where
          go₁ : (p : Process) → WellProcess (settle_p p) → lex (drop at s) ≡ process_t p x.left → ProcessPut s w v i sc r' p x.left
          go₁ (one a) l g =
              let y = h (record { what = a; left = x.left; is = g; well = l; over = x.over }) in
              absurd (false≢true (sym x.last ∙ ap (next bar) (sym y.left) ∙ sign-next s b bar (lex (drop r.end s)) c))
          go₁ (a ∥ p) l g =
              let y = h (record { what = a; left = sign bar ∷ process_t p x.left; is = g; well = l.0; over = refl }) in
              let y' = h' (record { what = p; left = x.left; is = peel-sign s b bar y.left c; well = l.1; over = x.over; last = x.last }) in
              let m₁ = size-some (settle a) in
              let m₂ = size_p-some (settle_p p) in
              let k : j ≡ i - size (settle a) = m ∙ ap (λ n. n - 1) y.low ∙ omega arith in
              let o : r'.low ≡ suc i - (size (settle a) + size_p (settle_p p)) = y'.low ∙ ap (λ n. suc n - size_p (settle_p p)) k ∙ omega arith in
              let t : j + 1 ≡ suc (i - size (settle a)) = ap (λ n. n + 1) k ∙ add-one (i - size (settle a)) in
              record { left = y'.left; after = e ∙ rw (t, o, y'.after, y.after, k); low = o }
