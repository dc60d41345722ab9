-- Writing: document 01, *Write* of *The other calls*, with the spacing of its example of `timorun`.
-- A network has one syntax tree, a tree one list of tokens, and a token one spelling.
use Rattle.std.specs.Prelude.{ℕ, List, [], ◌∷◌, ◌++◌, map, cond, eqb}
use Rattle.terms.specs.Names.{Name, bytes}
use Rattle.terms.specs.Terms as T
use Rattle.terms.specs.Terms.{Value, Component, Network}
use Rattle.terms.specs.Terms.Value.{loc, var}
use Rattle.terms.specs.Terms.Component.{comp}
use Rattle.text.specs.Tokens.{Token, digits, digits_of, opens, closes, left, right, comma, bar, dot, equals}
use Rattle.text.specs.Tokens.Token.{word, sign}
use Rattle.text.specs.Syntax.{Span, Part, Process, Def, Located, Text}
use Rattle.text.specs.Syntax.Span.{exactly, forever}
use Rattle.text.specs.Syntax.Part.{stop, go, out, inp, call}
use Rattle.text.specs.Syntax.Process.{one, ◌∥◌}
use Rattle.text.specs.Syntax.Def.{define}
use Rattle.text.specs.Syntax.Located.{at}

-- ── the tokens of each form, in front of the tokens ts: the grammar's page, with one line for each form ──
abbrev pub Printer : Type 0 → Type 0
Printer A = A → List Token → List Token

abbrev pub name_t : Printer Name
name_t w ts = word w ∷ ts

abbrev pub timer_t : Printer Span
timer_t (exactly n) ts = word (digits n) ∷ ts
timer_t forever ts = word (bytes "inf") ∷ ts

abbrev pub value_t : Printer Value
value_t (loc w) ts = word w ∷ ts
value_t (var w) ts = word w ∷ ts

-- one or more, joined by the sign c
unfoldable pub joined_t : {A : Type 0} → ℕ → Printer A → A → List A → List Token → List Token
joined_t c pr a [] ts = pr a ts
joined_t c pr a (b ∷ bs) ts = pr a (sign c ∷ joined_t c pr b bs ts)

-- nothing, or `(x1,..)`
abbrev pub list_t : {A : Type 0} → Printer A → Printer (List A)
list_t pr [] ts = ts
list_t pr (a ∷ xs) ts = sign opens ∷ joined_t comma pr a xs (sign closes ∷ ts)

unfoldable mutual
  pub part_t : Printer Part
  part_t stop ts = word (bytes "stop") ∷ ts
  part_t (go t v p) ts = word (bytes "go") ∷ sign opens ∷ timer_t t (sign comma ∷ value_t v (sign comma ∷ process_t p (sign closes ∷ ts)))
  part_t (out c t v p q) ts = word (bytes "out") ∷ sign opens ∷ word c ∷ sign comma ∷ timer_t t (sign comma ∷ value_t v (sign comma ∷ process_t p (sign comma ∷ process_t q (sign closes ∷ ts))))
  part_t (inp c t y p q) ts = word (bytes "in") ∷ sign opens ∷ word c ∷ sign comma ∷ timer_t t (sign comma ∷ word y ∷ sign comma ∷ process_t p (sign comma ∷ process_t q (sign closes ∷ ts)))
  part_t (call i vs) ts = word i ∷ list_t value_t vs ts

  pub process_t : Printer Process
  process_t (one a) ts = part_t a ts
  process_t (a ∥ p) ts = part_t a (sign bar ∷ process_t p ts)

abbrev pub def_t : Printer Def
def_t (define i us p) ts = word i ∷ list_t name_t us (sign equals ∷ process_t p (sign dot ∷ ts))

abbrev pub located_t : Printer Located
located_t (at l p) ts = word l ∷ sign left ∷ process_t p (sign right ∷ ts)

unfoldable pub network_t : List Located → List Token
network_t [] = sign dot ∷ []
network_t (l ∷ ls) = joined_t bar located_t l ls (sign dot ∷ [])

unfoldable pub text_t : List Def → List Located → List Token
text_t [] ls = network_t ls
text_t (d ∷ ds) ls = def_t d (text_t ds ls)

abbrev pub tokens : Text → List Token
tokens t = text_t t.defs t.located

-- ── their spelling: `|` and `=` stand between spaces, ` .` ends the line, nothing else is spaced ──
unfoldable pub spell : Token → List ℕ
spell (word w) = w
spell (sign c) =
    cond (eqb c bar) (bytes " | ")
    (cond (eqb c equals) (bytes " = ")
    (cond (eqb c dot) (bytes " .\n") (c ∷ [])))

unfoldable pub spelled : List Token → List ℕ
spelled [] = []
spelled (t ∷ ts) = spell t ++ spelled ts

-- ── the syntax tree in which a term is written ──
abbrev pub spell_timer : T.Timer → Span
spell_timer (T.ticks n) = exactly n
spell_timer T.inf = forever

abbrev mutual
  pub spell_part : T.Part → Part
  spell_part T.stop = stop
  spell_part (T.go t v p) = go (spell_timer t) v (spell_process p)
  spell_part (T.out c t v p q) = out c (spell_timer t) v (spell_process p) (spell_process q)
  spell_part (T.inp c t y p q) = inp c (spell_timer t) y (spell_process p) (spell_process q)
  spell_part (T.call i vs) = call i vs

  pub spell_process : T.Process → Process
  spell_process (T.one a) = one (spell_part a)
  spell_process (T.◌∥◌ a p) = spell_part a ∥ spell_process p

abbrev pub spell_def : T.Def → Def
spell_def (T.define i us p) = define i us (spell_process p)

abbrev pub spell_component : Component → Located
spell_component (comp l m p) = at l (spell_process p)

-- ── writing a network: definitions in order, then components in order, each in brackets of its own ──
abbrev pub spell_network : Network → Text
spell_network n = record { defs = map spell_def n.defs; located = map spell_component n.comps }

abbrev pub write : Network → List ℕ
write n = spelled (tokens (spell_network n))

-- all of the above, for `unfolding writing`
unfoldable pub writing : Unit {0}
unfolding digits_of joined_t part_t process_t network_t text_t spell spelled
writing = tt
