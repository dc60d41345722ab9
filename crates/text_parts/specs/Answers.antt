-- What the answers of the code stand for, over a text s.
-- Serves inner contracts only.
use Rattle.std.specs.Prelude.{ℕ, ◌+◌, min, max, List, Option, Some, None, cond, drop}
use Rattle.text.specs.Tokens.{lex, closes}
use Rattle.text.specs.Grammar.{Rest, bind, the}
use Rattle.text.specs.Grammar.Rest.{ok, bad}
use Rattle.text_parts.specs.Openings.{Opening, leaf, single, double}
use Rattle.text_parts.specs.Counts.{Count, capped, wrapped}
use Rattle.text_parts.specs.declared.Begun.{Begun}
use Rattle.text_parts.specs.declared.Form.{Form}
use Rattle.text_parts.specs.declared.Form.TheVariants.{Leaf, One, Two}
use Rattle.text_parts.specs.declared.Names.{Names}
use Rattle.text_parts.specs.declared.Size.{Size}
use Rattle.text_parts.specs.declared.Span.{Span}

abbrev pub opening_of : Form → Opening
opening_of Leaf = leaf
opening_of One = single
opening_of Two = double

abbrev pub began : List ℕ → Option Begun → Rest Opening
began s None = bad
began s (Some r) = ok (opening_of r.form) (lex (drop r.end s))

abbrev pub listed : List ℕ → Option Names → Rest ℕ
listed s None = bad
listed s (Some r) = ok r.count (lex (drop r.end s))

-- ── sizes ──
abbrev pub count_of : Size → Count
count_of r = record { nesting = r.nesting; parts = r.parts; width = r.width }

abbrev pub sized : List ℕ → Option Size → Rest Count
sized s None = bad
sized s (Some r) = ok (count_of r) (lex (drop r.end s))

-- a size in the form in which a level of nesting hands it on
abbrev pub size_in : Span → Option Size
size_in r = cond r.found (Some (record { end = r.end; nesting = r.nesting; parts = r.parts; width = r.width })) None

-- numbers that stop, one after the other
abbrev pub joined_up_to : Count → Count → Count
joined_up_to x y = record { nesting = max x.nesting y.nesting; parts = min (x.parts + y.parts) 4097; width = min (x.width + y.width) 257 }

-- the same of sizes, ending where the second does
abbrev pub joined_size : Size → Size → Size
joined_size a b = record {
  end = b.end;
  nesting = max a.nesting b.nesting;
  parts = min (a.parts + b.parts) 4097;
  width = min (a.width + b.width) 257;
}

-- a part around it, closed by `)`
abbrev pub closed_size : Rest Count → Rest Count
closed_size x = bind x (λ n ts. bind (the closes ts) (λ u us. ok (capped (wrapped n)) us))
