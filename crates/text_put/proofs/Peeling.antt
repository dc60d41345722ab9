-- Tokens peeled off a text one after the other: a sign that is eaten, a word that is read.
-- From what the code of words and signs gives, where the next token is known.
use Prim.Native.Nat.{ℕ, ◌-◌, ◌≤◌, ◌<◌}
use native.Mathlib.Omega.{arith}
use mathlib.Core.Bool.{Bool, true, false, cond, false≢true}
use mathlib.Core.List.{List, [], ◌∷◌}
use mathlib.Core.Path.{◌≡◌, refl, sym, ap, ◌∙◌}
use borrow.Author.Tests.{eq-eqb, leb-false}
use lib.Dec.{leb}
use lib.ListN.{length, take, drop, get_or}
use Rattle.terms.specs.Names.{Name, bytes, same_name}
use Rattle.std.specs.Prelude.{Option, Some, None}
use Rattle.terms.specs.Clock.{made_of}
use Rattle.text.specs.Tokens.{Token, lex, digits, number}
use Rattle.text.specs.Tokens.Token.{word, sign}
use Rattle.text.specs.Syntax.{Span}
use Rattle.text.specs.Syntax.Span.{exactly, forever}
use Rattle.text.specs.Tree.{timer_of}
use Rattle.text.specs.Grammar.{the, a_word, next}
use Rattle.text.specs.Grammar.Rest.{ok, bad}
use Rattle.text.specs.Write.{timer_t}
use Rattle.text.specs.WellFormed.{WellTimer}
use Rattle.text.proofs.Digits.{digits_number, digits-not-inf}
use Rattle.text_words.specs.Bytes.{after_blanks, Run}
use Rattle.text_words.proofs.Positions.{word-is, word_none}
use Rattle.text_build.specs.Rows.{timer_word}
use Rattle.text.proofs.Exact.{clash}
use Rattle.text_parts.proofs.Rests.{next-yes}
use Rattle.terms.specs.declared.Timer.{Timer as CodeTimer}
use Rattle.terms.specs.Characters.{Class, class_of}
use Rattle.terms.specs.Letters.{first_is}

-- ── signs ──
pub the-sign : (c : ℕ) (us : List Token) → the c (sign c ∷ us) ≡ ok tt us
the-sign c us = rw (eq-eqb c c refl)

module _ (s : List ℕ) (r c : ℕ) {ts us : List Token} (g : ts ≡ sign c ∷ us) (e : ok tt (lex (drop r s)) ≡ the c ts) where
  -- the sign c is eaten
  pub peel-sign : lex (drop r s) ≡ us
  peel-sign = let h : ok tt (lex (drop r s)) ≡ ok tt us = e ∙ ap (the c) g ∙ the-sign c us in cc

-- it is not missed
pub peel-some : (c : ℕ) {ts us : List Token} → ts ≡ sign c ∷ us → bad ≡ the c ts → ⊥
peel-some c {ts} {us} g e = clash (e ∙ ap (the c) g ∙ the-sign c us)

-- nor is one eaten where another token comes
pub sign-next : (s : List ℕ) (r c : ℕ) (ts : List Token) → ok tt (lex (drop r s)) ≡ the c ts → next c ts ≡ true
sign-next s r c ts e = next-yes c ts (sym e)

-- ── words ──
module _ (s : List ℕ) (at a e : ℕ) (skipped : drop a s ≡ after_blanks (drop at s)) (r : Run s a e) (x : Name) (us : List Token) (g : lex (drop at s) ≡ word x ∷ us) where
  pub peel-name : a < e → take (e - a) (drop a s) ≡ x
  peel-name h = let k : ok (take (e - a) (drop a s)) (lex (drop e s)) ≡ ok x us = sym (word-is s at a e skipped r h) ∙ ap a_word g in cc

  pub peel-word : a < e → lex (drop e s) ≡ us
  peel-word h = let k : ok (take (e - a) (drop a s)) (lex (drop e s)) ≡ ok x us = sym (word-is s at a e skipped r h) ∙ ap a_word g in cc

  pub peel-none : {A : Type 0} → e ≤ a → A
  peel-none h = clash (sym (word_none s at a e skipped r h) ∙ ap a_word g)

module _ (p : Class → Bool) where
  pub first-none : (w : Name) → length w ≡ 0 → false ≡ first_is p w
  first-none [] e = refl
  first-none (b ∷ w) e = absurd (omega arith)

  pub first_of : (w : Name) → (length w ≡ 0 → ⊥) → (r : Bool) → r ≡ p (class_of (get_or w 0 0)) → r ≡ first_is p w
  first_of [] n r e = absurd (n refl)
  first_of (b ∷ w) n r e = e

-- ── timers ──
abbrev pub timer_name : Span → Name
timer_name (exactly n) = digits n
timer_name forever = bytes "inf"

pub timer-word : (t : Span) (us : List Token) → timer_t t us ≡ word (timer_name t) ∷ us
timer-word (exactly n) us = refl
timer-word forever us = refl

pub timer-inf : (t : Span) (us : List Token) (w : Name) → WellTimer (timer_of t) → word w ∷ us ≡ timer_t t us → same_name w (bytes "inf") ≡ true → 1_000_001 ≡ timer_word (timer_of t)
unfolding timer_word
timer-inf (exactly n) us w f g e = let i : w ≡ digits n = cc in absurd (false≢true (sym (digits-not-inf n) ∙ ap (λ x. same_name x (bytes "inf")) (sym i) ∙ e))
timer-inf forever us w f g e = refl

pub timer-ticks : (t : Span) (us : List Token) (w : Name) → WellTimer (timer_of t) → word w ∷ us ≡ timer_t t us → same_name w (bytes "inf") ≡ false → (r : ℕ) → (number w ≤ 1_000_000 → r ≡ number w) → r ≡ timer_word (timer_of t)
unfolding timer_word same_name
timer-ticks (exactly n) us w f g e r k =
    let i : w ≡ digits n = cc in
    let j : number w ≡ n = ap number i ∙ digits_number n in
    k (omega arith) ∙ j
timer-ticks forever us w f g e r k = let i : w ≡ bytes "inf" = cc in absurd (false≢true (sym e ∙ ap (λ x. same_name x (bytes "inf")) i))

-- the timer's constructor takes the number of a timer of a text, and keeps it
made-is : (n : ℕ) (x : CodeTimer) → made_of n ≡ Some x → x.raw ≡ n
unfolding made_of
made-is n x e = go (leb n 1_000_000) e
  where
    go : (b : Bool) → cond b (Some (record { raw = n })) None ≡ Some x → x.raw ≡ n
    go true e = let f : record { raw = n } ≡ x = cc in sym (ap (λ y. y.raw) f)
    go false e = let z : ◌≡◌ {A = ℕ} 0 1 = cc in absurd (omega arith)

made-not : (n : ℕ) → made_of n ≡ None → 1_000_000 < n
unfolding made_of
made-not n e = go (leb n 1_000_000) refl e
  where
    go : (b : Bool) → leb n 1_000_000 ≡ b → cond {A = Option CodeTimer} b (Some (record { raw = n })) None ≡ None → 1_000_000 < n
    go true f e = let z : ◌≡◌ {A = ℕ} 0 1 = cc in absurd (omega arith)
    go false f e = leb-false n 1_000_000 f

module _ (t : Span) (us : List Token) (w : Name) (f : WellTimer (timer_of t)) (g : word w ∷ us ≡ timer_t t us) (e : same_name w (bytes "inf") ≡ false) (n : ℕ) (k : number w ≤ 1_000_000 → n ≡ number w) where
  pub timer-made : (x : CodeTimer) → made_of n ≡ Some x → x.raw ≡ timer_word (timer_of t)
  timer-made x m = timer-ticks t us w f g e x.raw (λ h. made-is n x m ∙ k h)

  pub timer-large : made_of n ≡ None → ⊥
  unfolding same_name
  timer-large m = go t f g
    where
      go : (t : Span) → WellTimer (timer_of t) → word w ∷ us ≡ timer_t t us → ⊥
      go (exactly j) f g =
          let i : w ≡ digits j = cc in
          let q : number w ≡ j = ap number i ∙ digits_number j in
          let r = k (omega arith) in
          omega (arith, made-not n m)
      go forever f g = let i : w ≡ bytes "inf" = cc in false≢true (sym e ∙ ap (λ x. same_name x (bytes "inf")) i)
