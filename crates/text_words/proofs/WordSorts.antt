-- The one sort of a word: what `sort_of` says agrees with every test of the grammar (`suits-is`, `head-is`), and what the code finds.
-- A name's first byte tells its sort, and no keyword passes a name's test.
use Prim.Native.Nat.{◌≤◌, ◌<◌}
use native.Mathlib.Omega.{arith}
use mathlib.Core.Bool.{Bool, true, false, cond, ◌&&◌, ◌||◌, not, false≢true}
use mathlib.Core.List.{[], ◌∷◌}
use mathlib.Core.Path.{◌≡◌, refl, sym, ap, ◌∙◌}
use borrow.Author.Tests.{le-leb}
use lib.Dec.{leb}
use lib.ListN.{length, get_or}
use Rattle.terms.specs.Names.{Name, bytes, same_name}
use Rattle.terms.specs.Same.{every}
use Rattle.terms.specs.Characters.Class.{capital, small, digit, bracket, blank, other}
use Rattle.text.specs.Tokens.{tokenwise, is_ticks, plain, number}
use Rattle.text.specs.Grammar.{head_of, grammar}
use Rattle.text.specs.Grammar.Head.{calls, nothing}
use Rattle.terms.proofs.Names.{and-inv}
use Rattle.terms.specs.Characters.{Class, class_of, is_capital, is_lower, is_letter, is_digit, is_alnum}
use Rattle.terms.specs.Rules.{some}
use Rattle.terms.specs.Letters.{member, reserved, first_is, is_name, is_small, is_location, is_identifier}
use Rattle.terms.proofs.Letters.{name-form, no_name, no-long}
use Rattle.text.proofs.Exact.{same-eq}
use Rattle.text.proofs.ReadBack.{identifier-calls}
use Rattle.text_words.specs.declared.Sort.{Sort}
use Rattle.text_words.specs.declared.Sort.TheVariants.{Stop, Go, Out, In, Inf, Small, Location, Ticks, Other}
use Rattle.text_words.specs.declared.Field.{Field}
use Rattle.text_words.specs.declared.Field.TheVariants as field
use Rattle.text_words.specs.Bytes.{digit_at}
use Rattle.text_words.specs.Sorts.{sort_of, suits_of, fits, head_is, is_timer}

-- ── the first byte ──
-- a test of classes that two others exclude
abbrev Apart : (Class → Bool) → (Class → Bool) → Type 0
Apart p q = (k : Class) → p k ≡ true → q k ≡ false

lower-capital : Apart is_lower is_capital
lower-capital capital e = sym e
lower-capital small e = refl
lower-capital digit e = refl
lower-capital bracket e = refl
lower-capital blank e = refl
lower-capital other e = refl

lower-digit : Apart is_lower is_digit
lower-digit capital e = refl
lower-digit small e = refl
lower-digit digit e = sym e
lower-digit bracket e = refl
lower-digit blank e = refl
lower-digit other e = refl

capital-lower : Apart is_capital is_lower
capital-lower capital e = refl
capital-lower small e = sym e
capital-lower digit e = refl
capital-lower bracket e = refl
capital-lower blank e = refl
capital-lower other e = refl

capital-digit : Apart is_capital is_digit
capital-digit capital e = refl
capital-digit small e = refl
capital-digit digit e = sym e
capital-digit bracket e = refl
capital-digit blank e = refl
capital-digit other e = refl

digit-lower : Apart is_digit is_lower
digit-lower capital e = refl
digit-lower small e = sym e
digit-lower digit e = refl
digit-lower bracket e = refl
digit-lower blank e = refl
digit-lower other e = refl

digit-capital : Apart is_digit is_capital
digit-capital capital e = sym e
digit-capital small e = refl
digit-capital digit e = refl
digit-capital bracket e = refl
digit-capital blank e = refl
digit-capital other e = refl

first-apart : {p q : Class → Bool} → Apart p q → (w : Name) → first_is p w ≡ true → first_is q w ≡ false
first-apart a [] e = refl
first-apart a (b ∷ w) e = a (class_of b) e

no-small : (w : Name) → first_is is_lower w ≡ false → is_small w ≡ false
unfolding is_small
no-small w e = no_name is_lower w e

no-location : (w : Name) → first_is is_capital w ≡ false → is_location w ≡ false
unfolding is_location
no-location w e = no_name is_capital w e

ticks-first : (w : Name) → is_ticks w ≡ true → first_is is_digit w ≡ true
unfolding is_ticks every
ticks-first [] e = absurd (false≢true e)
ticks-first (b ∷ w) e =
    let a = and-inv (plain (b ∷ w) && every digit_at (b ∷ w)) _ e in
    let c = and-inv (plain (b ∷ w)) _ a.0 in
    (and-inv (digit_at b) _ c.1).0

no-ticks : (w : Name) → first_is is_digit w ≡ false → is_ticks w ≡ false
no-ticks w e = go (is_ticks w) refl
  where
    go : (y : Bool) → is_ticks w ≡ y → y ≡ false
    go true h = absurd (false≢true (sym e ∙ ticks-first w h))
    go false h = refl

-- a word and a keyword that begin differently
differs : (p : Class → Bool) (w k : Name) → first_is p w ≡ true → first_is p k ≡ false → same_name w k ≡ false
differs p w k e g = go (same_name w k) refl
  where
    go : (y : Bool) → same_name w k ≡ y → y ≡ false
    go true h = absurd (false≢true (sym g ∙ ap (first_is p) (sym (same-eq w k h)) ∙ e))
    go false h = refl

-- ── identifiers are the names that begin small and the locations ──
pub identifier-is : (w : Name) → is_identifier w ≡ (is_small w || is_location w)
unfolding is_name is_identifier is_small is_location
identifier-is [] = refl
identifier-is (b ∷ w) = go (class_of b) (every is_alnum (b ∷ w)) (leb (length (b ∷ w)) 16) (not (member (b ∷ w) reserved))
  where
    or-false : (y : Bool) → y ≡ (y || false)
    or-false true = refl
    or-false false = refl

    go : (k : Class) (x y z : Bool) → (is_letter k && (x && (y && z))) ≡ ((is_lower k && (x && (y && z))) || (is_capital k && (x && (y && z))))
    go capital x y z = refl
    go small x y z = or-false (x && (y && z))
    go digit x y z = refl
    go bracket x y z = refl
    go blank x y z = refl
    go other x y z = refl

-- ── the sort of a word, by cases ──
data View (w : Name) : Sort → Type 0 where
  is_stop : w ≡ bytes "stop" → View w Stop
  is-go : w ≡ bytes "go" → View w Go
  is-out : w ≡ bytes "out" → View w Out
  is-in : w ≡ bytes "in" → View w In
  is-inf : w ≡ bytes "inf" → View w Inf
  is-small : is_small w ≡ true → View w Small
  is-location : is_location w ≡ true → View w Location
  is-ticks : is_ticks w ≡ true → View w Ticks
  is-other : is_small w ≡ false → is_location w ≡ false → is_ticks w ≡ false
      → same_name w (bytes "stop") ≡ false → same_name w (bytes "go") ≡ false → same_name w (bytes "out") ≡ false → same_name w (bytes "in") ≡ false → same_name w (bytes "inf") ≡ false
      → View w Other

view : (w : Name) → View w (sort_of w)
unfolding sort_of
view w = go (same_name w (bytes "stop")) (same_name w (bytes "go")) (same_name w (bytes "out")) (same_name w (bytes "in")) (same_name w (bytes "inf")) (is_small w) (is_location w) (is_ticks w) refl refl refl refl refl refl refl refl
  where
    go : (a b c d e f g h : Bool)
        → same_name w (bytes "stop") ≡ a → same_name w (bytes "go") ≡ b → same_name w (bytes "out") ≡ c → same_name w (bytes "in") ≡ d → same_name w (bytes "inf") ≡ e
        → is_small w ≡ f → is_location w ≡ g → is_ticks w ≡ h
        → View w (cond a Stop (cond b Go (cond c Out (cond d In (cond e Inf (cond f Small (cond g Location (cond h Ticks Other))))))))
    go true b c d e f g h q r s t u v x y = is_stop (same-eq w _ q)
    go false true c d e f g h q r s t u v x y = is-go (same-eq w _ r)
    go false false true d e f g h q r s t u v x y = is-out (same-eq w _ s)
    go false false false true e f g h q r s t u v x y = is-in (same-eq w _ t)
    go false false false false true f g h q r s t u v x y = is-inf (same-eq w _ u)
    go false false false false false true g h q r s t u v x y = is-small v
    go false false false false false false true h q r s t u v x y = is-location x
    go false false false false false false false true q r s t u v x y = is-ticks y
    go false false false false false false false false q r s t u v x y = is-other v x y q r s t u

-- ── agreement with the grammar's tests ──
small-first : (w : Name) → is_small w ≡ true → first_is is_lower w ≡ true
unfolding is_small
small-first w e = (name-form is_lower w e).first

pub location-first : (w : Name) → is_location w ≡ true → first_is is_capital w ≡ true
unfolding is_location
location-first w e = (name-form is_capital w e).first

pub small-not-capital : (w : Name) → is_small w ≡ true → first_is is_capital w ≡ false
small-not-capital w e = first-apart lower-capital w (small-first w e)

module _ (w : Name) where
  -- of a name that begins small
  small-no-location : is_small w ≡ true → is_location w ≡ false
  small-no-location e = no-location w (small-not-capital w e)

  small-no-timer : is_small w ≡ true → is_timer w ≡ false
  unfolding is_timer
  small-no-timer e = rw (no-inf, no-ticks w (first-apart lower-digit w (small-first w e)))
    where
      no-inf : same_name w (bytes "inf") ≡ false
      no-inf = go (same_name w (bytes "inf")) refl
        where
          go : (y : Bool) → same_name w (bytes "inf") ≡ y → y ≡ false
          go true h = absurd (false≢true (unfold tokenwise in ap is_small (sym (same-eq w _ h)) ∙ e))
          go false h = refl

  -- of a location
  location-no-small : is_location w ≡ true → is_small w ≡ false
  location-no-small e = no-small w (first-apart capital-lower w (location-first w e))

  location-no-timer : is_location w ≡ true → is_timer w ≡ false
  unfolding is_timer class_of
  location-no-timer e = rw (differs is_capital w (bytes "inf") (location-first w e) refl, no-ticks w (first-apart capital-digit w (location-first w e)))

  -- of a number of ticks
  ticks-no-small : is_ticks w ≡ true → is_small w ≡ false
  ticks-no-small e = no-small w (first-apart digit-lower w (ticks-first w e))

  ticks-no-location : is_ticks w ≡ true → is_location w ≡ false
  ticks-no-location e = no-location w (first-apart digit-capital w (ticks-first w e))

or-true : (a : Bool) → (a || true) ≡ true
or-true true = refl
or-true false = refl

-- a field takes a word exactly if the word's sort suits it
pub suits-is : (w : Name) (f : Field) → suits_of (sort_of w) f ≡ fits f w
suits-is w f = go (sort_of w) (view w) f
  where
    fixed : (k : Name) → w ≡ k → (f : Field) → (y : Bool) → y ≡ fits f k → y ≡ fits f w
    fixed k e f y g = g ∙ ap (fits f) (sym e)

    ident : (x y : Bool) → is_small w ≡ x → is_location w ≡ y → (x || y) ≡ is_identifier w
    ident x y e g = sym (identifier-is w ∙ ap (λ z. z || is_location w) e ∙ ap (λ z. x || z) g)

    go : (k : Sort) → View w k → (f : Field) → suits_of k f ≡ fits f w
    go Stop (is_stop e) field.Small = unfold tokenwise in fixed _ e field.Small _ refl
    go Stop (is_stop e) field.Value = unfold tokenwise in fixed _ e field.Value _ refl
    go Stop (is_stop e) field.Timer = unfold tokenwise is_timer in fixed _ e field.Timer _ refl
    go Stop (is_stop e) field.Location = unfold tokenwise in fixed _ e field.Location _ refl
    go Go (is-go e) field.Small = unfold tokenwise in fixed _ e field.Small _ refl
    go Go (is-go e) field.Value = unfold tokenwise in fixed _ e field.Value _ refl
    go Go (is-go e) field.Timer = unfold tokenwise is_timer in fixed _ e field.Timer _ refl
    go Go (is-go e) field.Location = unfold tokenwise in fixed _ e field.Location _ refl
    go Out (is-out e) field.Small = unfold tokenwise in fixed _ e field.Small _ refl
    go Out (is-out e) field.Value = unfold tokenwise in fixed _ e field.Value _ refl
    go Out (is-out e) field.Timer = unfold tokenwise is_timer in fixed _ e field.Timer _ refl
    go Out (is-out e) field.Location = unfold tokenwise in fixed _ e field.Location _ refl
    go In (is-in e) field.Small = unfold tokenwise in fixed _ e field.Small _ refl
    go In (is-in e) field.Value = unfold tokenwise in fixed _ e field.Value _ refl
    go In (is-in e) field.Timer = unfold tokenwise is_timer in fixed _ e field.Timer _ refl
    go In (is-in e) field.Location = unfold tokenwise in fixed _ e field.Location _ refl
    go Inf (is-inf e) field.Small = unfold tokenwise in fixed _ e field.Small _ refl
    go Inf (is-inf e) field.Value = unfold tokenwise in fixed _ e field.Value _ refl
    go Inf (is-inf e) field.Timer = unfold tokenwise is_timer in fixed _ e field.Timer _ refl
    go Inf (is-inf e) field.Location = unfold tokenwise in fixed _ e field.Location _ refl
    go Small (is-small e) field.Small = sym e
    go Small (is-small e) field.Value = ident true false e (small-no-location w e)
    go Small (is-small e) field.Timer = sym (small-no-timer w e)
    go Small (is-small e) field.Location = sym (small-no-location w e)
    go Location (is-location e) field.Small = sym (location-no-small w e)
    go Location (is-location e) field.Value = ident false true (location-no-small w e) e
    go Location (is-location e) field.Timer = sym (location-no-timer w e)
    go Location (is-location e) field.Location = sym e
    go Ticks (is-ticks e) field.Small = sym (ticks-no-small w e)
    go Ticks (is-ticks e) field.Value = ident false false (ticks-no-small w e) (ticks-no-location w e)
    go Ticks (is-ticks e) field.Timer = unfold is_timer in rw e (sym (or-true (same_name w (bytes "inf"))))
    go Ticks (is-ticks e) field.Location = sym (ticks-no-location w e)
    go Other (is-other s l t q1 q2 q3 q4 q5) field.Small = sym s
    go Other (is-other s l t q1 q2 q3 q4 q5) field.Value = ident false false s l
    go Other (is-other s l t q1 q2 q3 q4 q5) field.Timer = unfold is_timer in rw (q5, t)
    go Other (is-other s l t q1 q2 q3 q4 q5) field.Location = sym l

-- five keywords begin small: what begins otherwise is none of them
module _ (w : Name) (p : Class → Bool) (e : first_is p w ≡ true) (low : p small ≡ false) where
  pub no-keyword : (same_name w (bytes "stop") ≡ false) × (same_name w (bytes "go") ≡ false) × (same_name w (bytes "out") ≡ false) × (same_name w (bytes "in") ≡ false) × (same_name w (bytes "inf") ≡ false)
  unfolding class_of
  no-keyword = (differs p w _ e low, differs p w _ e low, differs p w _ e low, differs p w _ e low, differs p w _ e low)

-- what a part begins with, by the word's sort
pub head-is : (w : Name) → head_is (sort_of w) ≡ head_of w
head-is w = go (sort_of w) (view w)
  where
    named : is_identifier w ≡ true → calls ≡ head_of w
    named e = sym (identifier-calls w e)

    neither : is_small w ≡ false → is_location w ≡ false → is_identifier w ≡ false
    neither e g = identifier-is w ∙ rw (e, g)

    none : same_name w (bytes "stop") ≡ false → same_name w (bytes "go") ≡ false → same_name w (bytes "out") ≡ false → same_name w (bytes "in") ≡ false → is_identifier w ≡ false → nothing ≡ head_of w
    none a b c d e = unfold head_of in rw (a, b, c, d, e)

    go : (k : Sort) → View w k → head_is k ≡ head_of w
    go Stop (is_stop e) = unfold tokenwise grammar in sym (ap head_of e)
    go Go (is-go e) = unfold tokenwise grammar in sym (ap head_of e)
    go Out (is-out e) = unfold tokenwise grammar in sym (ap head_of e)
    go In (is-in e) = unfold tokenwise grammar in sym (ap head_of e)
    go Inf (is-inf e) = unfold tokenwise grammar in sym (ap head_of e)
    go Small (is-small e) = named (identifier-is w ∙ rw e)
    go Location (is-location e) = named (identifier-is w ∙ rw e (or-true (is_small w)))
    go Ticks (is-ticks e) =
        let q = no-keyword w is_digit (ticks-first w e) refl in
        none q.0 q.1 q.2 q.3 (neither (ticks-no-small w e) (ticks-no-location w e))
    go Other (is-other s l t q1 q2 q3 q4 q5) = none q1 q2 q3 q4 (neither s l)

-- ── what the code finds ──
pub sort-empty : (w : Name) → length w ≡ 0 → Other ≡ sort_of w
sort-empty [] h = unfold tokenwise sort_of in refl
sort-empty (b ∷ w) h = absurd (omega arith)

pub first-is : (p : Class → Bool) (w : Name) → (length w ≡ 0 → ⊥) → p (class_of (get_or w 0 0)) ≡ true → first_is p w ≡ true
first-is p [] h e = absurd (h refl)
first-is p (b ∷ w) h e = e

pub first-alnum : (w : Name) → (length w ≡ 0 → ⊥) → every is_alnum w ≡ true → is_alnum (get_or w 0 0) ≡ true
unfolding every
first-alnum [] h e = absurd (h refl)
first-alnum (b ∷ w) h e = (and-inv (is_alnum b) _ e).0

module _ (w : Name) (f : first_is is_lower w ≡ true)
    (q1 : same_name w (bytes "stop") ≡ false) (q2 : same_name w (bytes "go") ≡ false) (q3 : same_name w (bytes "out") ≡ false)
    (q4 : same_name w (bytes "in") ≡ false) (q5 : same_name w (bytes "inf") ≡ false) where
  pub small-name : every is_alnum w ≡ true → length w ≤ 16 → Small ≡ sort_of w
  unfolding sort_of is_small is_name member some class_of
  small-name a h = rw (q1, q2, q3, q4, q5, f, a, le-leb (length w) 16 h, differs is_lower w (bytes "S") f refl)

  pub small-long : 16 < length w → Other ≡ sort_of w
  unfolding sort_of
  small-long h = rw (q1, q2, q3, q4, q5, long, no-location w (first-apart lower-capital w f), no-ticks w (first-apart lower-digit w f))
    where
      long : is_small w ≡ false
      long = unfold is_small in no-long is_lower w h

module _ (w : Name) (f : first_is is_capital w ≡ true) where
  pub capital-reserved : same_name w (bytes "S") ≡ true → Other ≡ sort_of w
  capital-reserved e = unfold tokenwise sort_of in sym (ap sort_of (same-eq w _ e))

  pub capital-name : every is_alnum w ≡ true → same_name w (bytes "S") ≡ false → length w ≤ 16 → Location ≡ sort_of w
  unfolding sort_of is_location is_name member some
  capital-name a e h =
      let q = no-keyword w is_capital f refl in
      rw (q.0, q.1, q.2, q.3, q.4, no-small w (first-apart capital-lower w f), f, a, le-leb (length w) 16 h, e)

  pub capital-long : 16 < length w → Other ≡ sort_of w
  unfolding sort_of
  capital-long h =
      let q = no-keyword w is_capital f refl in
      rw (q.0, q.1, q.2, q.3, q.4, no-small w (first-apart capital-lower w f), long, no-ticks w (first-apart capital-digit w f))
    where
      long : is_location w ≡ false
      long = unfold is_location in no-long is_capital w h

module _ (w : Name) (f : first_is is_digit w ≡ true) where
  digit-sorts : sort_of w ≡ cond (is_ticks w) Ticks Other
  unfolding sort_of
  digit-sorts =
      let q = no-keyword w is_digit f refl in
      rw (q.0, q.1, q.2, q.3, q.4, no-small w (first-apart digit-lower w f), no-location w (first-apart digit-capital w f))

  pub digit-not-plain : plain w ≡ false → Other ≡ sort_of w
  digit-not-plain e = sym (digit-sorts ∙ (unfold is_ticks in rw e))

  pub digit-not-digits : every digit_at w ≡ false → Other ≡ sort_of w
  digit-not-digits e = sym (digit-sorts ∙ (unfold is_ticks in rw e (go (plain w))))
    where
      go : (y : Bool) → cond (y && false && leb (number w) 1_000_000) Ticks Other ≡ Other
      go true = refl
      go false = refl

  module _ (e : plain w ≡ true) (g : every digit_at w ≡ true) where
    pub digit-ticks : leb (number w) 1_000_000 ≡ true → Ticks ≡ sort_of w
    digit-ticks h = sym (digit-sorts ∙ (unfold is_ticks in rw (e, g, h)))

    pub digit-above : leb (number w) 1_000_000 ≡ false → Other ≡ sort_of w
    digit-above h = sym (digit-sorts ∙ (unfold is_ticks in rw (e, g, h)))
