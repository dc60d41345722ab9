-- The spelling of a tree's tokens has those tokens.
-- No word follows a word directly, a word's bytes are letters and digits, and each sign's spelling has that sign alone.
use Prim.Native.Nat.{ℕ}
use mathlib.Core.List.{List, [], ◌∷◌, ◌++◌, map, append_assoc, append-nil}
use mathlib.Core.Bool.{Bool, true, false≢true}
use mathlib.Core.Path.{◌≡◌, refl, ap, sym, ◌∙◌}
use Rattle.terms.specs.Names.{Name}
use Rattle.terms.specs.Terms.Value.{loc, var}
use Rattle.terms.specs.Same.{every}
use Rattle.terms.specs.Characters.Class.{capital, small, digit, bracket, blank, other}
use Rattle.text.specs.Tokens.{Token, flush, step, lex_from, lex, digits, opens, closes, left, right, comma, bar, dot, equals}
use Rattle.text.specs.Tokens.Token.{word, sign}
use Rattle.text.specs.Syntax.{Def, Located, Text}
use Rattle.text.specs.Syntax.Span.{exactly, forever}
use Rattle.text.specs.Syntax.Part.{stop, go, out, inp, call}
use Rattle.text.specs.Syntax.Process.{one, ◌∥◌}
use Rattle.text.specs.Syntax.Def.{define}
use Rattle.text.specs.Syntax.Located.{at}
use Rattle.text.specs.Tree.{timer_of, settle, settle_p, settle_def, settle_at}
use Rattle.text.specs.Write.{Printer, name_t, timer_t, value_t, joined_t, list_t, part_t, process_t, located_t, network_t, text_t, tokens, spell, spelled}
use Rattle.text.specs.WellFormed.{Is, WellTimer, WellValue, Each, WellPart, WellProcess, WellDef, WellLocated, WellText}
use Rattle.terms.proofs.Names.{and-inv}
use Rattle.terms.specs.Characters.{Class, class_of, is_digit, alnum, is_alnum}
use Rattle.terms.specs.Letters.{is_name, is_location, is_small, is_identifier}
use Rattle.terms.proofs.Letters.{name-form}
use Rattle.text.proofs.ReadBack.{each_of}
use Rattle.text.proofs.Digits.{every_map, digits-digit, digits-lead, Leads, leads}

-- ── words ──
step-alnum : (c : Class) (w : Name) (b : ℕ) (k : Name → List Token) → alnum c ≡ true → step c w b k ≡ k (w ++ (b ∷ []))
step-alnum capital w b k e = refl
step-alnum small w b k e = refl
step-alnum digit w b k e = refl
step-alnum blank w b k e = absurd (false≢true e)
step-alnum bracket w b k e = absurd (false≢true e)
step-alnum other w b k e = absurd (false≢true e)

pub run : (w v s : List ℕ) → every is_alnum v ≡ true → lex_from w (v ++ s) ≡ lex_from (w ++ v) s
unfolding lex_from every
run w [] s e = rw append-nil
run w (b ∷ v) s e =
    let h = and-inv (is_alnum b) _ e in
    step-alnum (class_of b) w b _ h.0 ∙ run (w ++ (b ∷ [])) v s h.1 ∙ ap (λ x. lex_from x s) (append_assoc w (b ∷ []) v)

-- a word that a token may hold
pub data Worded : Name → Type 0 where
  worded : {b : ℕ} {w : Name} → every is_alnum (b ∷ w) ≡ true → Worded (b ∷ w)

-- a sign whose spelling has that sign for its token
abbrev pub Signed : ℕ → Type 0
Signed c = (w : Name) (s : List ℕ) → lex_from w (spell (sign c) ++ s) ≡ flush w (sign c ∷ lex s)

-- no word follows a word
abbrev pub Parted : List Token → Type 0
Parted [] = Unit {0}
Parted (word w ∷ ts) = ⊥
Parted (sign c ∷ ts) = Unit {0}

pub data Clear : List Token → Type 0 where
  ends : Clear []
  signs : {c : ℕ} {ts : List Token} → Signed c → Clear ts → Clear (sign c ∷ ts)
  words : {w : Name} {ts : List Token} → Worded w → Parted ts → Clear ts → Clear (word w ∷ ts)

-- where the tokens are clear, their spelling has them; w is a word before them, if no word follows
lexes : {ts : List Token} → Clear ts → lex (spelled ts) ≡ ts
unfolding lex_from spelled spell
lexes ends = refl
lexes (signs {c} {ts} s k) = s [] (spelled ts) ∙ ap (λ us. sign c ∷ us) (lexes k)
lexes (words {ts = ts} (worded {b} {w} e) p k) = run [] (b ∷ w) (spelled ts) e ∙ after k p (lexes k)
  where
    after : {ts : List Token} → Clear ts → Parted ts → lex (spelled ts) ≡ ts → lex_from (b ∷ w) (spelled ts) ≡ word (b ∷ w) ∷ ts
    after ends p e = refl
    after (signs {c} {ts = us} s k) p e = s (b ∷ w) (spelled us) ∙ ap (λ ts. word (b ∷ w) ∷ ts) (sym (s [] (spelled us)) ∙ e)
    after (words o q k) p e = absurd p

-- ── the signs ──
is-opens : Signed opens
unfolding lex_from class_of spell
is-opens w s = refl

is-closes : Signed closes
unfolding lex_from class_of spell
is-closes w s = refl

is-left : Signed left
unfolding lex_from class_of spell
is-left w s = refl

is_right : Signed right
unfolding lex_from class_of spell
is_right w s = refl

is-comma : Signed comma
unfolding lex_from class_of spell
is-comma w s = refl

is-bar : Signed bar
unfolding lex_from class_of spell
is-bar w s = refl

is-dot : Signed dot
unfolding lex_from class_of spell
is-dot w s = refl

is-equals : Signed equals
unfolding lex_from class_of spell
is-equals w s = refl

-- ── the words ──
name-worded : (p : Class → Bool) (w : Name) → is_name p w ≡ true → Worded w
name-worded p [] e = absurd (false≢true (name-form p [] e).first)
name-worded p (b ∷ w) e = worded (name-form p (b ∷ w) e).solid

location-worded : (w : Name) → Is is_location w → Worded w
unfolding is_location
location-worded w e = name-worded _ w e

small-worded : (w : Name) → Is is_small w → Worded w
unfolding is_small
small-worded w e = name-worded _ w e

identifier-worded : (w : Name) → Is is_identifier w → Worded w
unfolding is_identifier
identifier-worded w e = name-worded _ w e

digit-alnum : (c : Class) → is_digit c ≡ true → alnum c ≡ true
digit-alnum capital e = refl
digit-alnum small e = refl
digit-alnum digit e = refl
digit-alnum blank e = e
digit-alnum bracket e = e
digit-alnum other e = e

digits-worded : (n : ℕ) → Worded (digits n)
digits-worded n = go (digits-lead n) (every_map (λ b e. digit-alnum (class_of b) e) (digits n) (digits-digit n))
  where
    go : {w : Name} → Leads n w → every is_alnum w ≡ true → Worded w
    go (leads h l p) e = worded e

-- ── what is well is clear ──
abbrev Clears : {A : Type 0} → (A → Type 0) → Printer A → Type 0
Clears {A} W pr = (a : A) (ts : List Token) → W a → Parted ts → Clear ts → Clear (pr a ts)

timer-clear : Clears (λ t. WellTimer (timer_of t)) timer_t
unfolding every class_of
timer-clear (exactly n) ts w p k = words (digits-worded n) p k
timer-clear forever ts w p k = words (worded refl) p k

value-clear : Clears WellValue value_t
value-clear (loc w) ts h p k = words (location-worded w h) p k
value-clear (var w) ts h p k = words (small-worded w h) p k

small-clear : Clears (Is is_small) name_t
small-clear w ts h p k = words (small-worded w h) p k

joined-clear : {A : Type 0} {W : A → Type 0} {pr : Printer A} {c : ℕ} → Signed c → Clears W pr → (a : A) (xs : List A) (ts : List Token) → Each W (a ∷ xs) → Parted ts → Clear ts → Clear (joined_t c pr a xs ts)
unfolding joined_t
joined-clear s h a [] ts w p k = h a ts w.0 p k
joined-clear s h a (x ∷ xs) ts w p k = h a _ w.0 tt (signs s (joined-clear s h x xs ts w.1 p k))

list-clear : {A : Type 0} {W : A → Type 0} {pr : Printer A} → Clears W pr → (xs : List A) (ts : List Token) → Each W xs → Parted ts → Clear ts → Clear (list_t pr xs ts)
list-clear h [] ts w p k = k
list-clear h (a ∷ xs) ts w p k = signs is-opens (joined-clear is-comma h a xs _ w tt (signs is-closes k))

list-parted : {A : Type 0} (pr : Printer A) (xs : List A) (ts : List Token) → Parted ts → Parted (list_t pr xs ts)
list-parted pr [] ts p = p
list-parted pr (a ∷ xs) ts p = tt

mutual
  unfolding part_t every class_of

  part-clear : Clears (λ a. WellPart (settle a)) part_t
  part-clear stop ts w p k = words (worded refl) p k
  part-clear (go t v p) ts (a, b, c) h k = words (worded refl) tt (signs is-opens (timer-clear t _ a tt (signs is-comma (value-clear v _ b tt (signs is-comma (process-clear p _ c tt (signs is-closes k)))))))
  part-clear (out m t v p q) ts (a, b, c, d, e) h k = words (worded refl) tt (signs is-opens (small-clear m _ a tt (signs is-comma (timer-clear t _ b tt (signs is-comma (value-clear v _ c tt (signs is-comma (process-clear p _ d tt (signs is-comma (process-clear q _ e tt (signs is-closes k)))))))))))
  part-clear (inp m t y p q) ts (a, b, c, d, e) h k = words (worded refl) tt (signs is-opens (small-clear m _ a tt (signs is-comma (timer-clear t _ b tt (signs is-comma (small-clear y _ c tt (signs is-comma (process-clear p _ d tt (signs is-comma (process-clear q _ e tt (signs is-closes k)))))))))))
  part-clear (call i vs) ts (a, b) h k = words (identifier-worded i a) (list-parted value_t vs ts h) (list-clear value-clear vs ts b h k)

  process-clear : Clears (λ p. WellProcess (settle_p p)) process_t
  process-clear (one a) ts w h k = part-clear a ts w h k
  process-clear (a ∥ p) ts w h k = part-clear a _ w.0 tt (signs is-bar (process-clear p ts w.1 h k))

located-clear : Clears (λ l. WellLocated (settle_at l)) located_t
located-clear (at l p) ts w h k = words (location-worded l w.0) tt (signs is-left (process-clear p _ w.1 tt (signs is_right k)))

network-clear : (ls : List Located) → Each WellLocated (map settle_at ls) → Clear (network_t ls)
unfolding network_t
network-clear [] w = signs is-dot ends
network-clear (l ∷ ls) w = joined-clear is-bar located-clear l ls _ (each_of WellLocated settle_at (l ∷ ls) w) tt (signs is-dot ends)

text-clear : (ds : List Def) (ls : List Located) → Each WellDef (map settle_def ds) → Each WellLocated (map settle_at ls) → Clear (text_t ds ls)
unfolding text_t
text-clear [] ls d w = network-clear ls w
text-clear (define i us p ∷ ds) ls ((a, b, c), d) w = words (identifier-worded i a) (list-parted name_t us _ tt) (list-clear small-clear us _ b tt (signs is-equals (process-clear p _ c tt (signs is-dot (text-clear ds ls d w)))))

-- the spelling of a tree's tokens has those tokens
pub tokens-lex : (t : Text) → WellText t → lex (spelled (tokens t)) ≡ tokens t
tokens-lex t w = lexes (text-clear t.defs t.located w.defs-well w.located-well)
