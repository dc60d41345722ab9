-- A refusal of `read` has the number of a question: question by question.
use Prim.Native.Nat.{ℕ, ◌<◌}
use native.Mathlib.Omega.{arith}
use mathlib.Core.Bool.{Bool, true, false}
use mathlib.Core.List.{List}
use Rattle.terms.specs.Terms.{Network}
use Rattle.terms.specs.Rules.{Answer, ◌>>=◌}
use Rattle.terms.specs.Rules.Answer.{refused, accepted}
use Rattle.terms.specs.Clock.{is_edition}
use Rattle.text.specs.Tokens.{lex}
use Rattle.text.specs.Syntax.{Text}
use Rattle.text.specs.Tree.{Tree, settled, network_of}
use Rattle.text.specs.Grammar.{Rest, text}
use Rattle.text.specs.Grammar.Rest.{ok, bad}
use Rattle.text.specs.Questions.{ask, ◌>>◌, short, whole, form, shallow, fits, defined_once, calls_met, bound, asked as asked_of, read, read_under}

-- questions have the numbers 1 to 7
abbrev pub Among : Answer Network → Type 0
Among (refused n) = (0 < n) × (n < 8)
Among (accepted m) = Unit {0}

pub among : (s : List ℕ) → Among (read s)
unfolding read asked_of form
among s = go (short s) (text (lex s))
  where
    tree : (t : Tree) (a b c d f : Bool) → Among (ask 3 a >> (ask 4 b >> (ask 5 c >> (ask 6 d >> (ask 7 f >> accepted (network_of t))))))
    tree t false b c d f = (omega arith, omega arith)
    tree t true false c d f = (omega arith, omega arith)
    tree t true true false d f = (omega arith, omega arith)
    tree t true true true false f = (omega arith, omega arith)
    tree t true true true true false = (omega arith, omega arith)
    tree t true true true true true = tt

    go : (y : Bool) (x : Rest Text) → Among (ask 1 y >> (whole x >>= λ x. asked_of (settled x)))
    go false x = (omega arith, omega arith)
    go true bad = (omega arith, omega arith)
    go true (ok x us) = let t = settled x in tree t (shallow t) (fits t) (defined_once t.defs) (calls_met t) (bound t)

-- under an edition there is 21 before them
abbrev pub AmongAll : Answer Network → Type 0
AmongAll (refused n) = (0 < n) × (n < 22)
AmongAll (accepted m) = Unit {0}

pub among-all : (e : ℕ) (s : List ℕ) → AmongAll (read_under e s)
unfolding read_under
among-all e s = first (is_edition e)
  where
    all : (x : Answer Network) → Among x → AmongAll x
    all (refused n) a = (a.0, omega (arith, a.1))
    all (accepted m) a = tt

    first : (k : Bool) → AmongAll (ask 21 k >> read s)
    first false = (omega arith, omega arith)
    first true = all (read s) (among s)
