-- Reading: document 01, *Questions, asked downward* (1 to 7) and the numbering of *Reading*; document 02, R-8 (21).
-- Each question is asked of the whole text, one after the other, and the first no gives the answer.
use Rattle.std.specs.Prelude.{ℕ, suc, max, Bool, true, false, cond, ◌&&◌, ◌≡◌, eqb, leb, length}
use mathlib.Core.List.{List, [], ◌∷◌, ◌++◌, map, flat_map}
use Rattle.terms.specs.Names.{Name, same_name}
use Rattle.terms.specs.Terms.{Value, Part, Process, Component, Def, Network}
use Rattle.terms.specs.Terms.Value.{loc, var}
use Rattle.terms.specs.Terms.Part.{stop, go, out, inp, call}
use Rattle.terms.specs.Terms.Process.{one, ◌∥◌}
use Rattle.terms.specs.Terms.Component.{comp}
use Rattle.terms.specs.Terms.Def.{define}
use Rattle.terms.specs.Rules.{Answer, ◌>>=◌, some, split}
use Rattle.terms.specs.Rules.Answer.{refused, accepted}
use Rattle.terms.specs.Same.{every}
use Rattle.terms.specs.Clock.{is_edition}
use Rattle.terms.specs.Letters.{member, distinct}
use Rattle.text.specs.Tokens.{lex}
use Rattle.text.specs.Syntax.{Text}
use Rattle.text.specs.Tree.{Located, Tree, settled, components, network_of}
use Rattle.text.specs.Tree.Located.{at}
use Rattle.text.specs.Grammar.{Rest, text}
use Rattle.text.specs.Grammar.Rest.{ok, bad}

infixl 20 ◌>>◌
abbrev pub ◌>>◌ : {A B : Type 0} → Answer A → Answer B → Answer B
x >> y = x >>= λ a. y

-- question n, with its answer
abbrev pub ask : ℕ → Bool → Answer (Unit {0})
ask n true = accepted tt
ask n false = refused n

-- ── 1: at most 65,535 bytes? ──
unfoldable pub short : List ℕ → Bool
short s = leb (length s) 65_535

-- ── 2: is the whole text of the form? ──
abbrev pub whole : {A : Type 0} → Rest A → Answer A
whole (ok a ts) = accepted a
whole bad = refused 2

unfoldable pub form : List ℕ → Answer Text
form s = whole (text (lex s))

-- ── the parts of a text, in text order, each with its nesting and the names in scope ──
pub record Place : Type 0 where
  pub depth : ℕ
  pub scope : List Name
  pub part : Part

-- a name after those before it, unless it is among them: binding a name again adds none
abbrev pub into : List Name → Name → List Name
into ws w = cond (member w ws) ws (ws ++ (w ∷ []))

-- each name once, by first place, after the names ws
unfoldable pub firsts : List Name → List Name → List Name
firsts ws [] = ws
firsts ws (v ∷ vs) = firsts (into ws v) vs

-- at nesting d, with the names sc in scope. `in` binds y in P and not in Q
unfoldable mutual
  pub part_places : Part → ℕ → List Name → List Place
  part_places stop d sc = record { depth = d; scope = sc; part = stop } ∷ []
  part_places (go t v p) d sc = record { depth = d; scope = sc; part = go t v p } ∷ process_places p (suc d) sc
  part_places (out c t v p q) d sc = record { depth = d; scope = sc; part = out c t v p q } ∷ (process_places p (suc d) sc ++ process_places q (suc d) sc)
  part_places (inp c t y p q) d sc = record { depth = d; scope = sc; part = inp c t y p q } ∷ (process_places p (suc d) (into sc y) ++ process_places q (suc d) sc)
  part_places (call i vs) d sc = record { depth = d; scope = sc; part = call i vs } ∷ []

  pub process_places : Process → ℕ → List Name → List Place
  process_places (one a) d sc = part_places a d sc
  process_places (a ∥ p) d sc = part_places a d sc ++ process_places p d sc

-- an outermost part has nesting 1; in a definition the parameters are in scope
unfoldable pub def_places : Def → List Place
def_places (define i us p) = process_places p 1 (firsts [] us)

unfoldable pub located_places : Located → List Place
located_places (at l p) = process_places p 1 []

unfoldable pub places : Tree → List Place
places t = flat_map def_places t.defs ++ flat_map located_places t.located

-- ── channels and locations by first place: the number of a name is its position in these lists ──
unfoldable pub channels_at : Place → List Name
channels_at x = elim x.part [ stop ↦ [] | go t v p ↦ [] | out c t v p q ↦ c ∷ [] | inp c t y p q ↦ c ∷ [] | call i vs ↦ [] ]

abbrev pub values_of : Part → List Value
values_of stop = []
values_of (go t v p) = v ∷ []
values_of (out c t v p q) = v ∷ []
values_of (inp c t y p q) = []
values_of (call i vs) = vs

unfoldable pub loc_of : Value → List Name
loc_of (loc w) = w ∷ []
loc_of (var w) = []

unfoldable pub locations_at : Place → List Name
locations_at x = flat_map loc_of (values_of x.part)

-- the location in front of the bracket, then those inside
unfoldable pub located_names : Located → List Name
located_names (at l p) = l ∷ flat_map locations_at (located_places (at l p))

unfoldable pub channels : Tree → List Name
channels t = firsts [] (flat_map channels_at (places t))

-- wherever they stand: also in a definition that nobody calls, as a value, among arguments
unfoldable pub locations : Tree → List Name
locations t = firsts [] (flat_map locations_at (flat_map def_places t.defs) ++ flat_map located_names t.located)

-- ── the numbers that 3 and 4 put limits on ──
-- the largest of a measure over a list, 0 if it is empty
unfoldable pub most : {A : Type 0} → (A → ℕ) → List A → ℕ
most f [] = 0
most f (x ∷ xs) = max (f x) (most f xs)

abbrev pub params : Def → List Name
params (define i us p) = us

abbrev pub identifier : Def → Name
identifier (define i us p) = i

unfoldable pub nesting : Tree → ℕ
nesting t = most (λ x. x.depth) (places t)

unfoldable pub definition_count : Tree → ℕ
definition_count t = length t.defs

-- most parameters of one definition
unfoldable pub parameter_count : Tree → ℕ
parameter_count t = most (λ d. length (params d)) t.defs

-- every part at any depth, in definitions and in the network
unfoldable pub part_count : Tree → ℕ
part_count t = length (places t)

unfoldable pub component_count : Tree → ℕ
component_count t = length (network_of t).comps

-- most different names in scope at one part, parameters included
unfoldable pub scope_size : Tree → ℕ
scope_size t = most (λ x. length x.scope) (places t)

-- ── 3: nesting at most 32? ──
unfoldable pub shallow : Tree → Bool
shallow t = leb (nesting t) 32

-- ── 4: at most 32 definitions, 4 parameters each, 4,096 parts, 64 channels, 64 locations, 256 components, 8 variables bound at one place? ──
unfoldable pub fits : Tree → Bool
fits t =
    leb (definition_count t) 32
    && leb (parameter_count t) 4
    && leb (part_count t) 4_096
    && leb (length (channels t)) 64
    && leb (length (locations t)) 64
    && leb (component_count t) 256
    && leb (scope_size t) 8

-- ── 5: each identifier defined once, with different parameters? ──
unfoldable pub defined_once : List Def → Bool
defined_once ds = distinct (map identifier ds) && every (λ d. distinct (params d)) ds

-- ── 6: each called identifier defined, with that many arguments? ──
abbrev pub is_for : Name → List Value → Def → Bool
is_for i vs (define j us p) = same_name i j && eqb (length us) (length vs)

unfoldable pub call_met : List Def → Place → Bool
call_met ds x = elim x.part [ stop ↦ true | go t v p ↦ true | out c t v p q ↦ true | inp c t y p q ↦ true | call i vs ↦ some (is_for i vs) ds ]

unfoldable pub calls_met : Tree → Bool
calls_met t = every (call_met t.defs) (places t)

-- ── 7: each variable bound? ──
abbrev pub bound_in : List Name → Value → Bool
bound_in sc (loc w) = true
bound_in sc (var w) = member w sc

unfoldable pub bound_at : Place → Bool
bound_at x = every (bound_in x.scope) (values_of x.part)

unfoldable pub bound : Tree → Bool
bound t = every bound_at (places t)

-- ── reading ──
-- questions 3 to 7, and the network
unfoldable pub asked : Tree → Answer Network
asked t = do
  ask 3 (shallow t)
  ask 4 (fits t)
  ask 5 (defined_once t.defs)
  ask 6 (calls_met t)
  ask 7 (bound t)
  accepted (network_of t)

unfoldable pub read : List ℕ → Answer Network
read s = do
  ask 1 (short s)
  x ← form s
  asked (settled x)

-- ── 21: is the edition 1 or 2? It is given with the text, and asked first ──
unfoldable pub read_under : ℕ → List ℕ → Answer Network
read_under e s = do
  ask 21 (is_edition e)
  read s

-- ── 5, 6 and 7 of a network ──
unfoldable pub component_places : Component → List Place
component_places (comp l m p) = process_places p 1 []

unfoldable pub network_places : Network → List Place
network_places n = flat_map def_places n.defs ++ flat_map component_places n.comps

pub record Sound (n : Network) : Type 0 where
  pub once : defined_once n.defs ≡ true
  pub defined : every (call_met n.defs) (network_places n) ≡ true
  pub closed : every bound_at (network_places n) ≡ true

-- all of the above, for `unfolding questions`
unfoldable pub questions : Unit {0}
unfolding short form firsts part_places process_places def_places located_places places channels_at loc_of locations_at located_names channels locations split components network_of most nesting definition_count parameter_count part_count component_count scope_size shallow fits distinct defined_once some call_met calls_met bound_at bound asked read is_edition read_under flat_map every
questions = tt
