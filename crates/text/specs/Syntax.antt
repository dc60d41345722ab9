-- The syntax tree of a text, as the grammar reads it: document 01, *Reading*. It keeps what the text says; Tree has the term that it stands for.
-- Names and values are what they are in a term. A part, and a timer in it, is of a type of its own, so that one term may have several spellings.
use Rattle.std.specs.Prelude.{ℕ, List}
use Rattle.terms.specs.Names.{Name}
use Rattle.terms.specs.Terms.{Value}

-- a timer: a number of ticks, or `inf`
pub data Span : Type 0 where
  exactly : ℕ → Span
  forever : Span

infixr 5 ◌∥◌
mutual
  pub data Part : Type 0 where
    stop : Part
    go : Span → Value → Process → Part
    out : Name → Span → Value → Process → Process → Part
    inp : Name → Span → Name → Process → Process → Part
    call : Name → List Value → Part

  pub data Process : Type 0 where
    one : Part → Process
    ◌∥◌ : Part → Process → Process

-- a definition `id = P .` or `id(u1,..) = P .`
pub data Def : Type 0 where
  define : Name → List Name → Process → Def

-- a located process `L[P]`
pub data Located : Type 0 where
  at : Name → Process → Located

-- definitions, then located processes
pub record Text : Type 0 where
  pub defs : List Def
  pub located : List Located
