-- The grammar's equations with no bound on depth or number: `part-is`, `process-is`, `sep_by-is`, `text-is`.
-- Every reader leaves fewer tokens than it got, so that a bound beyond the number of tokens changes nothing.
use Prim.Native.Nat.{ℕ, zero, suc, ◌+◌, ◌*◌, ◌≤◌, ◌<◌}
use native.Mathlib.Omega.{arith}
use mathlib.Core.List.{List, [], ◌∷◌}
use mathlib.Core.Bool.{Bool, true, false}
use mathlib.Core.Path.{◌≡◌, refl, ap, sym, ◌∙◌}
use lib.ListN.{length}
use Rattle.terms.specs.Names.{Name}
use Rattle.terms.specs.Terms.{Value}
use Rattle.terms.specs.Letters.{is_small}
use Rattle.text.specs.Tokens.{Token, opens, comma, bar}
use Rattle.text.specs.Syntax.{Span, Part, Process, Text}
use Rattle.text.specs.Syntax.Part.{out, inp}
use Rattle.text.specs.Grammar.{Rest, Reader, bind, named, the, a_word, next, more, joined, sep_by, list_of, a_timer, a_value, Head, head_of, comm_form, part_form, a_part, more_parts, a_process, part_of, process_of, part, process, a_def, a_located, net_next, add_def, text_form, text_of, text, ◌>>◌}
use Rattle.text.specs.Grammar.Rest.{ok, bad}
use Rattle.text.specs.Grammar.Head.{stops, goes, sends, receives, calls, nothing}
use Rattle.text.specs.Write.{Printer}
use Rattle.text.proofs.Exact.{Exact, sign_t, the-exact, word-exact, name-exact, timer-exact, value-exact, list-exact, part-exact, process-exact, def-exact, located-exact}
use Rattle.text.proofs.ReadBack.{timer-longer, value-longer, part-longer, process-longer, def-longer, located-longer, list-longer, values}

-- a reader that leaves less
abbrev pub Less : {A : Type 0} → Reader A → Type 0
Less {A} r = (ts : List Token) (a : A) (us : List Token) → r ts ≡ ok a us → length us < length ts

pub less : {A : Type 0} {W : A → Type 0} {r : Reader A} {pr : Printer A} → Exact W r pr → ((a : A) (ts : List Token) → length ts < length (pr a ts)) → Less r
less x l ts a us e = omega (arith, ap length (x ts a us e).was, l a us)

-- the sameName reader, then two that agree on what is left
pub same_then : {A B : Type 0} {r : Reader A} → Less r → (ts : List Token) (k l : A → Reader B) → ((a : A) (us : List Token) → length us < length ts → k a us ≡ l a us) → bind (r ts) k ≡ bind (r ts) l
same_then {A} {B} {r} x ts k l h = go (r ts) refl
  where
    go : (y : Rest A) → r ts ≡ y → bind y k ≡ bind y l
    go (ok a us) e = h a us (x ts a us e)
    go bad e = refl

pub the-less : (c : ℕ) → Less (the c)
unfolding sign_t
the-less c = less (the-exact c) (λ u ts. omega arith)

pub word-less : Less a_word
word-less = less word-exact (λ w ts. omega arith)

pub small-less : Less (named is_small)
small-less = less (name-exact is_small) (λ w ts. omega arith)

pub timer-less : Less a_timer
timer-less = less timer-exact timer-longer

pub value-less : Less a_value
value-less = less value-exact value-longer

pub part-less : (f : ℕ) → Less (part_of f)
part-less f = less (part-exact f) part-longer

pub process-less : (f : ℕ) → Less (process_of f)
process-less f = less (process-exact f) process-longer

module _ (P Q : Reader Process) (n : ℕ) (agree : (ts : List Token) → length ts < n → P ts ≡ Q ts) (less_q : Less Q) where
  -- P, then what agrees
  same-P : {B : Type 0} (ts : List Token) (k l : Process → Reader B) → length ts < n → ((p : Process) (us : List Token) → length us < length ts → k p us ≡ l p us) → bind (P ts) k ≡ bind (Q ts) l
  same-P ts k l h g = rw (agree ts h) (same_then less_q ts k l g)

  comm-same : {A : Type 0} {r : Reader A} → Less r → (k : Name → Span → A → Process → Process → Part) (ts : List Token) → length ts < n → comm_form r k P ts ≡ comm_form r k Q ts
  comm-same x k ts h =
      same_then (the-less opens) ts _ _ λ o a l7.
      same_then small-less a _ _ λ c b l8.
      same_then (the-less comma) b _ _ λ o c l9.
      same_then timer-less c _ _ λ t d l10.
      same_then (the-less comma) d _ _ λ o e l11.
      same_then x e _ _ λ v f l12.
      same_then (the-less comma) f _ _ λ o g l13.
      same-P g _ _ (omega arith) λ p i l14.
      same_then (the-less comma) i _ _ λ o j l15.
      same-P j _ _ (omega arith) λ q k l16. refl

  form-same : (h : Head) (w : Name) (ts : List Token) → length ts < n → part_form P h w ts ≡ part_form Q h w ts
  form-same stops w ts h = refl
  form-same goes w ts h =
      same_then (the-less opens) ts _ _ λ o a l1.
      same_then timer-less a _ _ λ t b l2.
      same_then (the-less comma) b _ _ λ o c l3.
      same_then value-less c _ _ λ v d l4.
      same_then (the-less comma) d _ _ λ o e l5.
      same-P e _ _ (omega arith) λ p f l6. refl
  form-same sends w ts h = comm-same value-less out ts h
  form-same receives w ts h = comm-same small-less inp ts h
  form-same calls w ts h = refl
  form-same nothing w ts h = refl

  part_same : (ts : List Token) → length ts ≤ n → a_part P ts ≡ a_part Q ts
  part_same ts h = same_then word-less ts _ _ λ w us l27. form-same (head_of w) w us (omega arith)

  more_same : (y : Bool) (a : Part) (ts : List Token) → length ts < n → more_parts y a P ts ≡ more_parts y a Q ts
  more_same false a ts h = refl
  more_same true a ts h = same_then (the-less bar) ts _ _ λ o us l28. same-P us _ _ (omega arith) λ p vs l29. refl

  process-same : (A B : Reader Part) → Less B → (ts : List Token) → A ts ≡ B ts → length ts ≤ n → a_process A P ts ≡ a_process B Q ts
  process-same A B b ts e h = rw e (same_then b ts _ _ λ a us l30. more_same (next bar us) a us (omega arith))

-- more depth than the tokens need changes nothing
mutual
  unfolding part_of

  part-enough : (f g : ℕ) (ts : List Token) → 2 * length ts < f → 2 * length ts < g → part_of f ts ≡ part_of g ts
  part-enough zero g ts hf hg = absurd (omega arith)
  part-enough (suc f) zero ts hf hg = absurd (omega arith)
  part-enough (suc f) (suc g) ts hf hg = part_same (process_of f) (process_of g) (length ts) (λ us l. process-enough f g us (omega arith) (omega arith)) (process-less g) ts (omega arith)

  process-enough : (f g : ℕ) (ts : List Token) → 2 * length ts + 1 < f → 2 * length ts + 1 < g → process_of f ts ≡ process_of g ts
  process-enough zero g ts hf hg = absurd (omega arith)
  process-enough (suc f) zero ts hf hg = absurd (omega arith)
  process-enough (suc f) (suc g) ts hf hg = process-same (process_of f) (process_of g) (length ts) (λ us l. process-enough f g us (omega arith) (omega arith)) (process-less g) (part_of f) (part_of g) (part-less g) ts (part-enough f g ts (omega arith) (omega arith)) (omega arith)

-- the two equations
pub part-is : (ts : List Token) → part ts ≡ a_part process ts
unfolding part_of
part-is ts = ap (λ f. part_of f ts) two ∙ part_same (process_of (2 * length ts)) process (length ts) (λ us l. process-enough (2 * length ts) (2 * length us + 2) us (omega arith) (omega arith)) (λ us p vs e. process-less (2 * length us + 2) us p vs e) ts (omega arith)
  where
    two : 2 * length ts + 1 ≡ suc (2 * length ts)
    two = omega arith

pub process-is : (ts : List Token) → process ts ≡ a_process part process ts
unfolding part_of
process-is ts = ap (λ f. process_of f ts) two ∙ process-same (process_of (2 * length ts + 1)) process (length ts) (λ us l. process-enough (2 * length ts + 1) (2 * length us + 2) us (omega arith) (omega arith)) (λ us p vs e. process-less (2 * length us + 2) us p vs e) (part_of (2 * length ts + 1)) part (λ us p vs e. part-less (2 * length us + 1) us p vs e) ts refl (omega arith)
  where
    two : 2 * length ts + 2 ≡ suc (2 * length ts + 1)
    two = omega arith

pub list-within : (ts : List Token) (vs : List Value) (us : List Token) → list_of a_value ts ≡ ok vs us → length us ≤ length ts
list-within ts vs us e = omega (arith, ap length (list-exact value-exact ts vs us e).was, list-longer values vs us)

pub name-less : (p : Name → Bool) → Less (named p)
name-less p = less (name-exact p) (λ w ts. omega arith)

pub def-less : Less a_def
def-less = less def-exact def-longer

pub located-less : Less a_located
located-less = less located-exact located-longer

-- ── one or more, with no bound on their number ──
module _ {A : Type 0} (c : ℕ) (r : Reader A) (l : Less r) where
  reads_none : (ts : List Token) → length ts ≡ 0 → r ts ≡ bad
  reads_none ts h = go (r ts) refl
    where
      go : (x : Rest A) → r ts ≡ x → x ≡ bad
      go (ok a us) e = absurd (omega (arith, l ts a us e))
      go bad e = refl

  joined-enough : (f g : ℕ) (ts : List Token) → length ts ≤ f → length ts ≤ g → joined f c r ts ≡ joined g c r ts
  unfolding joined
  joined-enough zero zero ts hf hg = refl
  joined-enough zero (suc g) ts hf hg = rw (reads_none ts (omega arith))
  joined-enough (suc f) zero ts hf hg = rw (reads_none ts (omega arith))
  joined-enough (suc f) (suc g) ts hf hg = same_then l ts _ _ λ a us h. go a us h (next c us) (λ vs i. joined-enough f g vs (omega arith) (omega arith))
    where
      go : (a : A) (us : List Token) → length us < length ts → (y : Bool) → ((vs : List Token) → length vs < length us → joined f c r vs ≡ joined g c r vs)
          → more y a (the c >> joined f c r) us ≡ more y a (the c >> joined g c r) us
      go a us h false k = refl
      go a us h true k = ap (λ x. bind x (λ xs zs. ok (a ∷ xs) zs)) (same_then (the-less c) us _ _ λ u vs i. k vs i)

  pub sep_by-is : (ts : List Token) → sep_by c r ts ≡ bind (r ts) (λ a us. more (next c us) a (the c >> sep_by c r) us)
  unfolding joined
  sep_by-is [] = rw (reads_none [] refl)
  sep_by-is (t ∷ ts) = same_then l (t ∷ ts) _ _ λ a us h. go a us h (next c us)
    where
      go : (a : A) (us : List Token) → length us < suc (length ts) → (y : Bool) → more y a (the c >> joined (length ts) c r) us ≡ more y a (the c >> sep_by c r) us
      go a us h false = refl
      go a us h true = ap (λ x. bind x (λ xs zs. ok (a ∷ xs) zs)) (same_then (the-less c) us _ _ λ u vs i. joined-enough (length ts) (length vs) vs (omega arith) (omega arith))

-- ── texts, with no bound on the number of definitions ──
no-def : (T : Reader Text) → text_form false T [] ≡ bad
unfolding a_def
no-def T = refl

text_same : (n : ℕ) (T U : Reader Text) → ((ts : List Token) → length ts < n → T ts ≡ U ts) → (y : Bool) (ts : List Token) → length ts ≤ n → text_form y T ts ≡ text_form y U ts
text_same n T U h true ts g = refl
text_same n T U h false ts g = same_then def-less ts _ _ λ d us l. ap (λ x. bind x (λ t zs. ok (add_def d t) zs)) (h us (omega arith))

text-enough : (f g : ℕ) (ts : List Token) → length ts ≤ f → length ts ≤ g → text_of f ts ≡ text_of g ts
unfolding text_of
text-enough zero zero ts hf hg = refl
text-enough zero (suc g) [] hf hg = sym (no-def (text_of g))
text-enough zero (suc g) (t ∷ ts) hf hg = absurd (omega arith)
text-enough (suc f) zero [] hf hg = no-def (text_of f)
text-enough (suc f) zero (t ∷ ts) hf hg = absurd (omega arith)
text-enough (suc f) (suc g) ts hf hg = text_same (length ts) (text_of f) (text_of g) (λ us l. text-enough f g us (omega arith) (omega arith)) (net_next ts) ts (omega arith)

-- a network, or a definition and a text
pub text-is : (ts : List Token) → text ts ≡ text_form (net_next ts) text ts
unfolding text_of
text-is [] = sym (no-def text)
text-is (t ∷ ts) = text_same (suc (length ts)) (text_of (length ts)) text (λ us l. text-enough (length ts) (length us) us (omega arith) (omega arith)) (net_next (t ∷ ts)) (t ∷ ts) (omega arith)
