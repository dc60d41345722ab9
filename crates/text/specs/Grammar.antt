-- The form of a text (question 2): document 01, *Reading* and *The term and the network*. Each form is a reader of tokens, read downward.
-- The form has no upper numbers: nesting, parts, parameters, arguments and definitions belong to questions 3 and 4.
use Rattle.std.specs.Prelude.{ℕ, zero, suc, ◌+◌, ◌*◌, List, [], ◌∷◌, Bool, true, false, cond, length, eqb}
use Rattle.terms.specs.Names.{Name, bytes, same_name}
use Rattle.terms.specs.Terms.{Value}
use Rattle.terms.specs.Terms.Value.{loc, var}
use Rattle.terms.specs.Letters.{is_location, is_small, is_identifier}
use Rattle.text.specs.Tokens.{Token, number, is_ticks, opens, closes, left, right, comma, bar, dot, equals}
use Rattle.text.specs.Tokens.Token.{word, sign}
use Rattle.text.specs.Syntax.{Span, Part, Process, Def, Located, Text}
use Rattle.text.specs.Syntax.Span.{exactly, forever}
use Rattle.text.specs.Syntax.Part.{stop, go, out, inp, call}
use Rattle.text.specs.Syntax.Process.{one, ◌∥◌}
use Rattle.text.specs.Syntax.Def.{define}
use Rattle.text.specs.Syntax.Located.{at}

-- ── readers ──
-- what was read and the tokens left, or that the tokens do not begin so
pub data Rest (A : Type 0) : Type 0 where
  ok : A → List Token → Rest A
  bad : Rest A

abbrev pub Reader : Type 0 → Type 0
Reader A = List Token → Rest A

abbrev pub bind : {A B : Type 0} → Rest A → (A → Reader B) → Rest B
bind (ok a ts) k = k a ts
bind bad k = bad

infixl 20 ◌>>=◌
infixl 20 ◌>>◌
abbrev pub ◌>>=◌ : {A B : Type 0} → Reader A → (A → Reader B) → Reader B
◌>>=◌ r k ts = bind (r ts) k

abbrev pub ◌>>◌ : {A B : Type 0} → Reader A → Reader B → Reader B
◌>>◌ r k ts = bind (r ts) (λ a. k)

abbrev pub give : {A : Type 0} → A → Reader A
give a ts = ok a ts

abbrev pub fail : {A : Type 0} → Reader A
fail ts = bad

abbrev pub when : {A : Type 0} → Bool → A → Reader A
when true a ts = ok a ts
when false a ts = bad

-- ── single tokens ──
-- the sign c
abbrev pub the : ℕ → Reader (Unit {0})
the c [] = bad
the c (word w ∷ ts) = bad
the c (sign d ∷ ts) = when (eqb d c) tt ts

abbrev pub a_word : Reader Name
a_word [] = bad
a_word (word w ∷ ts) = ok w ts
a_word (sign d ∷ ts) = bad

-- a word that passes a test
abbrev pub named : (Name → Bool) → Reader Name
named p = do
  w ← a_word
  when (p w) w

-- does the sign c come next?
abbrev pub next : ℕ → List Token → Bool
next c [] = false
next c (word w ∷ ts) = false
next c (sign d ∷ ts) = eqb d c

abbrev pub end : Reader (Unit {0})
end [] = ok tt []
end (t ∷ ts) = bad

-- ── lists ──
abbrev pub more : {A : Type 0} → Bool → A → Reader (List A) → Reader (List A)
more false a r = give (a ∷ [])
more true a r = r >>= λ xs. give (a ∷ xs)

-- one or more, joined by the sign c; f bounds their number
unfoldable pub joined : {A : Type 0} → ℕ → ℕ → Reader A → Reader (List A)
joined zero c r ts = bad
joined (suc f) c r ts = bind (r ts) (λ a us. more (next c us) a (the c >> joined f c r) us)

-- as many as the tokens may hold
abbrev pub sep_by : {A : Type 0} → ℕ → Reader A → Reader (List A)
sep_by c r ts = joined (length ts) c r ts

abbrev pub bracketed : {A : Type 0} → Bool → Reader A → Reader (List A)
bracketed false r = give []
bracketed true r = do
  the opens
  xs ← sep_by comma r
  the closes
  give xs

-- nothing, or `(x1,..)`: no name stands before empty brackets
abbrev pub list_of : {A : Type 0} → Reader A → Reader (List A)
list_of r ts = bracketed (next opens ts) r ts

-- ── timers and values ──
unfoldable pub a_timer : Reader Span
a_timer = do
  w ← a_word
  cond (same_name w (bytes "inf")) (give forever) (when (is_ticks w) (exactly (number w)))

-- in a value's place a capital makes a location
unfoldable pub a_value : Reader Value
a_value = do
  w ← a_word
  cond (is_location w) (give (loc w)) (when (is_small w) (var w))

-- ── parts and processes ──
-- what a part begins with
pub data Head : Type 0 where
  stops goes sends receives calls nothing : Head

unfoldable pub head_of : Name → Head
head_of w =
    cond (same_name w (bytes "stop")) stops
    (cond (same_name w (bytes "go")) goes
    (cond (same_name w (bytes "out")) sends
    (cond (same_name w (bytes "in")) receives
    (cond (is_identifier w) calls nothing))))

-- `(c,t,x,P,Q)`, where r reads x and P a process; k makes the part
abbrev pub comm_form : {A : Type 0} → Reader A → (Name → Span → A → Process → Process → Part) → Reader Process → Reader Part
comm_form r k P = do
  the opens
  c ← named is_small
  the comma
  t ← a_timer
  the comma
  x ← r
  the comma
  p ← P
  the comma
  q ← P
  the closes
  give (k c t x p q)

-- a part after its first word w: `stop`, `go(t,v,P)`, `out(c,t,v,P,Q)`, `in(c,t,y,P,Q)`, `id` or `id(v1,..)`; P reads a process
abbrev pub part_form : Reader Process → Head → Name → Reader Part
part_form P stops w = give stop
part_form P goes w = do
  the opens
  t ← a_timer
  the comma
  v ← a_value
  the comma
  p ← P
  the closes
  give (go t v p)
part_form P sends w = comm_form a_value out P
part_form P receives w = comm_form (named is_small) inp P
part_form P calls w = do
  vs ← list_of a_value
  give (call w vs)
part_form P nothing w = fail

abbrev pub a_part : Reader Process → Reader Part
a_part P = do
  w ← a_word
  part_form P (head_of w) w

abbrev pub more_parts : Bool → Part → Reader Process → Reader Process
more_parts false a P = give (one a)
more_parts true a P = do
  the bar
  p ← P
  give (a ∥ p)

-- parts joined by `|`
abbrev pub a_process : Reader Part → Reader Process → Reader Process
a_process A P = A >>= λ a ts. more_parts (next bar ts) a P ts

-- part and process read one another in turn; the number bounds the depth of the calls
unfoldable mutual
  pub part_of : ℕ → Reader Part
  part_of zero = fail
  part_of (suc f) = a_part (process_of f)

  pub process_of : ℕ → Reader Process
  process_of zero = fail
  process_of (suc f) = a_process (part_of f) (process_of f)

-- n tokens need no more than 2 n + 1 and 2 n + 2 (proofs/Unbounded: more changes nothing)
abbrev pub part : Reader Part
part ts = part_of (2 * length ts + 1) ts

abbrev pub process : Reader Process
process ts = process_of (2 * length ts + 2) ts

-- ── definitions, located processes, texts ──
-- `id = P .` or `id(u1,..) = P .`
unfoldable pub a_def : Reader Def
a_def = do
  i ← named is_identifier
  us ← list_of (named is_small)
  the equals
  p ← process
  the dot
  give (define i us p)

-- `L[P]`
unfoldable pub a_located : Reader Located
a_located = do
  l ← named is_location
  the left
  p ← process
  the right
  give (at l p)

-- `L[P] | M[P] .`, at least one located process, and nothing more
unfoldable pub a_network : Reader (List Located)
a_network = do
  ls ← sep_by bar a_located
  the dot
  end
  give ls

-- a network begins with a word and `[`, a definition does not
abbrev pub net_next : List Token → Bool
net_next [] = false
net_next (word w ∷ ts) = next left ts
net_next (sign d ∷ ts) = false

abbrev pub add_def : Def → Text → Text
add_def d t = record { defs = d ∷ t.defs; located = t.located }

abbrev pub text_form : Bool → Reader Text → Reader Text
text_form true T = do
  ls ← a_network
  give (record { defs = []; located = ls })
text_form false T = do
  d ← a_def
  t ← T
  give (add_def d t)

-- definitions, then a network; the number bounds that of the definitions
unfoldable pub text_of : ℕ → Reader Text
text_of zero ts = bad
text_of (suc f) ts = text_form (net_next ts) (text_of f) ts

abbrev pub text : Reader Text
text ts = text_of (length ts) ts

-- all of the above, for `unfolding grammar`
unfoldable pub grammar : Unit {0}
unfolding joined a_timer a_value head_of part_of process_of a_def a_located a_network text_of
grammar = tt
