-- A loop over things joined by a sign that adds their numbers up, stopped at limits: what it has gathered, joined with what is left to read,
-- stays what the whole is. Stated once, over the numbers and the readers, for parts in a process and located processes in a network.
use Prim.Native.Nat.{ℕ, ◌-◌, ◌<◌}
use native.Mathlib.Omega.{arith}
use mathlib.Core.Bool.{Bool, true, false}
use mathlib.Core.List.{List}
use mathlib.Core.Path.{◌≡◌, refl, sym, ap, ◌∙◌}
use lib.ListN.{length, drop}
use Rattle.text.specs.Tokens.{Token, lex}
use Rattle.text.specs.Grammar.{Rest, Reader, bind, the, next}
use Rattle.text.specs.Grammar.Rest.{ok, bad}
use Rattle.text.proofs.Unbounded.{Less, the-less}
use Rattle.text_words.specs.Bytes.{mapped}
use Rattle.text_words.proofs.Positions.{bytes-fall}
use Rattle.text.proofs.Exact.{clash}
use Rattle.text_parts.proofs.Rests.{mapped-same, next-yes, next-no}

-- the numbers of one thing x, and of those after the sign c if it comes next
abbrev pub more_of : {C : Type 0} → (C → C → C) → ℕ → Reader C → Bool → C → Reader C
more_of join c M false x us = ok x us
more_of join c M true x us = bind (the c us) (λ u ts. bind (M ts) (λ y vs. ok (join x y) vs))

-- numbers that stop (cap), the numbers of two things one after the other (join), and the same of numbers that stop (up_to);
-- A reads one thing, M one or more joined by the sign c
pub record Adding (C : Type 0) : Type 0 where
  pub cap : C → C
  pub join : C → C → C
  pub up_to : C → C → C
  pub on : (a x y : C) → up_to (up_to a (cap x)) (cap y) ≡ up_to a (cap (join x y))
  pub c : ℕ
  pub A : Reader C
  pub M : Reader C
  pub less : Less A
  pub M-is : (ts : List Token) → M ts ≡ bind (A ts) (λ x us. more_of join c M (next c us) x us)

-- a is gathered before `here`
abbrev pub Gathered : {C : Type 0} → Adding C → List ℕ → ℕ → ℕ → C → Type 0
Gathered l s at here a = mapped (λ y. l.up_to a (l.cap y)) (l.M (lex (drop here s))) ≡ mapped l.cap (l.M (lex (drop at s)))

module _ {C : Type 0} (l : Adding C) (s : List ℕ) where
  pub gathered-first : (at : ℕ) (a : C) → ((y : C) → l.up_to a (l.cap y) ≡ l.cap y) → Gathered l s at at a
  gathered-first at a unit = mapped-same _ _ (l.M (lex (drop at s))) unit

  module _ (at here : ℕ) (a : C) (i : Gathered l s at here a) where
    abbrev Hs : List Token
    Hs = lex (drop here s)

    M-at : (x : Rest C) → l.A Hs ≡ x → l.M Hs ≡ bind x (λ x us. more_of l.join l.c l.M (next l.c us) x us)
    M-at x h = l.M-is Hs ∙ ap (λ x. bind x (λ x us. more_of l.join l.c l.M (next l.c us) x us)) h

    -- nothing was read
    pub gathered-bad : bad ≡ mapped l.cap (l.A Hs) → bad ≡ mapped l.cap (l.M (lex (drop at s)))
    gathered-bad p = go (l.A Hs) refl p ∙ i
      where
        go : (x : Rest C) → l.A Hs ≡ x → bad ≡ mapped l.cap x → bad ≡ mapped (λ y. l.up_to a (l.cap y)) (l.M Hs)
        go (ok x us) h p = clash p
        go bad h p = sym (ap (mapped (λ y. l.up_to a (l.cap y))) (M-at bad h))

    -- b was read, up to r; then the sign was looked for
    module _ (b : C) (r : ℕ) (p : ok b (lex (drop r s)) ≡ mapped l.cap (l.A Hs)) where
      abbrev Rs : List Token
      Rs = lex (drop r s)

      record Turn : Type 0 where
        count : C
        was : l.A Hs ≡ ok count Rs
        is : b ≡ l.cap count

      turn : Turn
      turn = go (l.A Hs) refl p
        where
          go : (x : Rest C) → l.A Hs ≡ x → ok b Rs ≡ mapped l.cap x → Turn
          go (ok x us) h p = let j : us ≡ Rs = cc in record { count = x; was = h ∙ ap (ok x) j; is = cc }
          go bad h p = clash (sym p)

      -- it is not there
      pub gathered-end : bad ≡ the l.c Rs → ok (l.up_to a b) Rs ≡ mapped l.cap (l.M (lex (drop at s)))
      gathered-end e =
          let t = turn in
          ap (λ b. ok (l.up_to a b) Rs) t.is
          ∙ sym (ap (mapped (λ y. l.up_to a (l.cap y))) (M-at (ok t.count Rs) t.was ∙ ap (λ y. more_of l.join l.c l.M y t.count Rs) (next-no l.c Rs (sym e))))
          ∙ i

      -- q is behind it
      module _ (q : ℕ) (e : ok tt (lex (drop q s)) ≡ the l.c Rs) where
        pub turn-falls : length s - q < length s - here
        turn-falls = let t = turn in bytes-fall s here q (omega (arith, l.less Hs t.count Rs t.was, the-less l.c Rs tt (lex (drop q s)) (sym e)))

        pub gathered-on : Gathered l s at q (l.up_to a b)
        gathered-on =
            let t = turn in
            sym (ap (mapped (λ y. l.up_to a (l.cap y)))
            (M-at (ok t.count Rs) t.was ∙ ap (λ y. more_of l.join l.c l.M y t.count Rs) (next-yes l.c Rs (sym e)) ∙ ap (λ x. bind x (λ u ts. bind (l.M ts) (λ y us. ok (l.join t.count y) us))) (sym e))
            ∙ go t.count t.is (l.M (lex (drop q s))))
            ∙ i
          where
            go : (x : C) → b ≡ l.cap x → (w : Rest C) → mapped (λ y. l.up_to a (l.cap y)) (bind w (λ y us. ok (l.join x y) us)) ≡ mapped (λ y. l.up_to (l.up_to a b) (l.cap y)) w
            go x h (ok y us) = ap (λ n. ok n us) (sym (l.on a x y) ∙ ap (λ b. l.up_to (l.up_to a b) (l.cap y)) (sym h))
            go x h bad = refl
