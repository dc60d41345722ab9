-- The ways of the two readers through the code, over the bytes of a text s.
-- Each way is an equation of what the code's numbers stand for with what the grammar gives, stopped at the limits; bytes left fall.
use Prim.Native.Nat.{ℕ, ◌-◌, ◌<◌}
use native.Mathlib.Omega.{arith}
use mathlib.Core.List.{List}
use mathlib.Core.Path.{◌≡◌, refl, sym, ap, ◌∙◌}
use lib.ListN.{length, drop}
use Rattle.text.specs.Tokens.{Token, lex, closes, comma, bar}
use Rattle.text.specs.Grammar.{Rest, Reader, bind, the}
use Rattle.text.specs.Grammar.Rest.{ok, bad}
use Rattle.text.proofs.Unbounded.{the-less}
use Rattle.std.specs.Prelude.{Some}
use Rattle.text_words.specs.Bytes.{mapped}
use Rattle.text_words.proofs.Positions.{bytes-fall}
use Rattle.text_parts.specs.Openings.{Opening, double, an_opening}
use Rattle.text_parts.specs.Counts.{Count, leaf_count, joined, wrapped, capped}
use Rattle.text_parts.specs.Counting.{part_counts, process_counts, close_form}
use Rattle.text_parts.specs.declared.Form.{Form}
use Rattle.text_parts.specs.declared.Form.TheVariants.{Leaf, One, Two}
use Rattle.text_parts.specs.declared.Begun.{Begun}
use Rattle.text_parts.specs.Answers.{opening_of, began, count_of, sized, joined_up_to, joined_size, closed_size}
use Rattle.text_parts.specs.declared.Size.{Size}
use Rattle.text_parts.proofs.Stops.{sum-on, max-on}
use Rattle.text.proofs.Exact.{clash}
use Rattle.text_parts.proofs.Fields.{opening-less}
use Rattle.text_parts.proofs.Gathering as gathering
use Rattle.text_parts.proofs.Processes.{part-counts, process-counts, part-counts-less, process-counts-less}

-- ── numbers that stop ──
count_same : {a b c a' b' c' : ℕ} → a ≡ a' → b ≡ b' → c ≡ c' → ◌≡◌ {A = Count} (record { nesting = a; parts = b; width = c }) (record { nesting = a'; parts = b'; width = c' })
count_same e f g = λ i. record { nesting = e i; parts = f i; width = g i }

capped-wrapped : (x : Count) → capped (wrapped x) ≡ capped (wrapped (capped x))
capped-wrapped x = count_same (omega arith) (omega arith) refl

wrapped-joined : (x y : Count) → capped (wrapped (joined x y)) ≡ capped (wrapped (joined_up_to (capped x) (capped y)))
wrapped-joined x y = count_same (omega arith) (omega arith) refl

pub joined-on : (a x y : Count) → joined_up_to (joined_up_to a (capped x)) (capped y) ≡ joined_up_to a (capped (joined x y))
joined-on a x y = count_same (max-on 33 a.nesting x.nesting y.nesting) (sum-on 4097 a.parts x.parts y.parts) (sum-on 257 a.width x.width y.width)

-- parts joined by `|`
abbrev pub processes : gathering.Adding Count
processes = record { cap = capped; join = joined; up_to = joined_up_to; on = joined-on; c = bar; A = part_counts; M = process_counts; less = part-counts-less; M-is = process-counts }

-- ── the ways of the code ──
module _ (s : List ℕ) where
  -- a part around the processes of r, closed at q's end
  pub closed_none : (r : Size) → bad ≡ the closes (lex (drop r.end s)) → bad ≡ closed_size (sized s (Some r))
  closed_none r e = ap (λ x. bind x (λ u us. ok (capped (wrapped (count_of r))) us)) e

  pub closed_is : (r q : Size) → ok tt (lex (drop q.end s)) ≡ the closes (lex (drop r.end s)) → count_of q ≡ capped (wrapped (count_of r)) → sized s (Some q) ≡ closed_size (sized s (Some r))
  closed_is r q e g = ap (λ n. ok n (lex (drop q.end s))) g ∙ ap (λ x. bind x (λ u us. ok (capped (wrapped (count_of r))) us)) e

  -- ── the part reader ──
  module _ (at : ℕ) where
    abbrev Ts : List Token
    Ts = lex (drop at s)

    part_at : (x : Rest Opening) → x ≡ an_opening Ts → part_counts Ts ≡ bind x (close_form process_counts)
    part_at x e = part-counts Ts ∙ ap (λ x. bind x (close_form process_counts)) (sym e)

    pub part-wrong : bad ≡ an_opening Ts → bad ≡ mapped capped (part_counts Ts)
    part-wrong e = sym (ap (mapped capped) (part_at bad e))

    -- its opening is b
    module _ (b : Begun) (e : began s (Some b) ≡ an_opening Ts) where
      pub opening-falls : length s - b.end < length s - at
      opening-falls = bytes-fall s at b.end (opening-less Ts (opening_of b.form) (lex (drop b.end s)) (sym e))

      pub part-leaf : b.form ≡ Leaf → ok leaf_count (lex (drop b.end s)) ≡ mapped capped (part_counts Ts)
      part-leaf f = sym (ap (mapped capped) (part_at _ (ap (λ f. ok (opening_of f) (lex (drop b.end s))) (sym f) ∙ e)))

      pub part-no-first : (b.form ≡ Leaf → ⊥) → bad ≡ mapped capped (process_counts (lex (drop b.end s))) → bad ≡ mapped capped (part_counts Ts)
      part-no-first n p = go b.form refl (process_counts (lex (drop b.end s))) refl p
        where
          go : (f : Form) → b.form ≡ f → (x : Rest Count) → process_counts (lex (drop b.end s)) ≡ x → bad ≡ mapped capped x → bad ≡ mapped capped (part_counts Ts)
          go f i (ok x us) h p = clash p
          go Leaf i bad h p = absurd (n i)
          go One i bad h p = sym (ap (mapped capped) (part_at _ (ap (λ f. ok (opening_of f) (lex (drop b.end s))) (sym i) ∙ e) ∙ ap (λ x. bind x (λ x us. bind (the closes us) (λ u us. ok (wrapped x) us))) h))
          go Two i bad h p = sym (ap (mapped capped) (part_at _ (ap (λ f. ok (opening_of f) (lex (drop b.end s))) (sym i) ∙ e) ∙ ap (λ x. bind x (λ x us. bind (the comma us) (λ u ts. bind (process_counts ts) (λ y us. bind (the closes us) (λ u us. ok (wrapped (joined x y)) us))))) h))

      pub part-one : b.form ≡ One → (x : Rest Count) → x ≡ mapped capped (process_counts (lex (drop b.end s))) → closed_size x ≡ mapped capped (part_counts Ts)
      part-one f x p = ap closed_size p ∙ sym (ap (mapped capped) (part_at _ (ap (λ f. ok (opening_of f) (lex (drop b.end s))) (sym f) ∙ e)) ∙ go (process_counts (lex (drop b.end s))))
        where
          inner : (x : Count) (y : Rest (Unit {0})) → mapped capped (bind y (λ u us. ok (wrapped x) us)) ≡ bind y (λ u us. ok (capped (wrapped (capped x))) us)
          inner x (ok u us) = ap (λ n. ok n us) (capped-wrapped x)
          inner x bad = refl

          go : (y : Rest Count) → mapped capped (bind y (λ x us. bind (the closes us) (λ u us. ok (wrapped x) us))) ≡ closed_size (mapped capped y)
          go (ok x us) = inner x (the closes us)
          go bad = refl

      pub opening-two : (b.form ≡ Leaf → ⊥) → (b.form ≡ One → ⊥) → ok double (lex (drop b.end s)) ≡ an_opening Ts
      opening-two n m = go b.form refl
        where
          go : (f : Form) → b.form ≡ f → ok double (lex (drop b.end s)) ≡ an_opening Ts
          go Leaf i = absurd (n i)
          go One i = absurd (m i)
          go Two i = ap (λ f. ok (opening_of f) (lex (drop b.end s))) (sym i) ∙ e

    module _ (n : ℕ) (e : ok double (lex (drop n s)) ≡ an_opening Ts) where
      abbrev Second : Count → Reader Count
      Second x ts = bind (process_counts ts) (λ y us. bind (the closes us) (λ u us. ok (wrapped (joined x y)) us))

      two_at : (x : Rest Count) → process_counts (lex (drop n s)) ≡ x → part_counts Ts ≡ bind x (λ x us. bind (the comma us) (λ u. Second x))
      two_at x h = part_at _ e ∙ ap (λ x. bind x (λ x us. bind (the comma us) (λ u. Second x))) h

      -- the first process is r
      module _ (r : Size) (p : sized s (Some r) ≡ mapped capped (process_counts (lex (drop n s)))) where
        record First : Type 0 where
          count : Count
          was : process_counts (lex (drop n s)) ≡ ok count (lex (drop r.end s))
          is : count_of r ≡ capped count

        first : First
        first = go (process_counts (lex (drop n s))) refl p
          where
            go : (x : Rest Count) → process_counts (lex (drop n s)) ≡ x → sized s (Some r) ≡ mapped capped x → First
            go (ok x us) h p = let j : us ≡ lex (drop r.end s) = cc in record { count = x; was = h ∙ ap (ok x) j; is = cc }
            go bad h p = clash (sym p)

        pub part-no-comma : bad ≡ the comma (lex (drop r.end s)) → bad ≡ mapped capped (part_counts Ts)
        part-no-comma c = let f = first in sym (ap (mapped capped) (two_at _ f.was ∙ ap (λ x. bind x (λ u. Second f.count)) (sym c)))

        -- behind its comma is q
        module _ (q : ℕ) (c : ok tt (lex (drop q s)) ≡ the comma (lex (drop r.end s))) where
          pub second-falls : length s - q < length s - n
          second-falls =
              let f = first in
              bytes-fall s n q (omega (arith, process-counts-less (lex (drop n s)) f.count (lex (drop r.end s)) f.was, the-less comma (lex (drop r.end s)) tt (lex (drop q s)) (sym c)))

          pub part-two : (x : Rest Count) → x ≡ mapped capped (process_counts (lex (drop q s))) → closed_size (mapped (joined_up_to (count_of r)) x) ≡ mapped capped (part_counts Ts)
          part-two x k =
              let f = first in
              ap (λ x. closed_size (mapped (joined_up_to (count_of r)) x)) k
              ∙ sym (ap (mapped capped) (two_at _ f.was ∙ ap (λ x. bind x (λ u. Second f.count)) (sym c)) ∙ go f.count f.is (process_counts (lex (drop q s))))
            where
              inner : (x y : Count) → count_of r ≡ capped x → (w : Rest (Unit {0})) → mapped capped (bind w (λ u us. ok (wrapped (joined x y)) us)) ≡ bind w (λ u us. ok (capped (wrapped (joined_up_to (count_of r) (capped y)))) us)
              inner x y h (ok u us) = ap (λ n. ok n us) (wrapped-joined x y ∙ ap (λ a. capped (wrapped (joined_up_to a (capped y)))) (sym h))
              inner x y h bad = refl

              go : (x : Count) → count_of r ≡ capped x → (w : Rest Count) → mapped capped (bind w (λ y us. bind (the closes us) (λ u us. ok (wrapped (joined x y)) us))) ≡ closed_size (mapped (joined_up_to (count_of r)) (mapped capped w))
              go x h (ok y us) = inner x y h (the closes us)
              go x h bad = refl

  -- ── the process reader: its loop has gathered `size` before `here` ──
  abbrev pub Gathered : ℕ → ℕ → Size → Type 0
  Gathered at here size = gathering.Gathered processes s at here (count_of size)

  pub gathered-first : (at : ℕ) (size : Size) → count_of size ≡ record { nesting = 0; parts = 0; width = 0 } → Gathered at at size
  gathered-first at size e =
      gathering.gathered-first processes s at (count_of size)
      λ y. ap (λ a. joined_up_to a (capped y)) e ∙ count_same (omega arith) (omega arith) (omega arith)

  module _ (at here : ℕ) (size : Size) (i : Gathered at here size) where
    pub gathered-bad : bad ≡ mapped capped (part_counts (lex (drop here s))) → bad ≡ mapped capped (process_counts (lex (drop at s)))
    gathered-bad = gathering.gathered-bad processes s at here (count_of size) i

    module _ (r : Size) (p : sized s (Some r) ≡ mapped capped (part_counts (lex (drop here s)))) where
      pub gathered-end : bad ≡ the bar (lex (drop r.end s)) → sized s (Some (joined_size size r)) ≡ mapped capped (process_counts (lex (drop at s)))
      gathered-end = gathering.gathered-end processes s at here (count_of size) i (count_of r) r.end p

      module _ (q : ℕ) (c : ok tt (lex (drop q s)) ≡ the bar (lex (drop r.end s))) where
        pub turn-falls : length s - q < length s - here
        turn-falls = gathering.turn-falls processes s at here (count_of size) i (count_of r) r.end p q c

        pub gathered-on : Gathered at q (joined_size size r)
        gathered-on = gathering.gathered-on processes s at here (count_of size) i (count_of r) r.end p q c
