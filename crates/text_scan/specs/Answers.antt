-- What the answers of the code stand for, over a text s, and what the scan answers: document 01, questions 1 to 4.
use Rattle.std.specs.Prelude.{ℕ, ◌+◌, min, max, Bool, true, false, cond, List, Option, Some, None, drop}
use Rattle.terms.specs.Rules.{Answer}
use Rattle.terms.specs.Rules.Answer.{refused, accepted}
use Rattle.text.specs.Syntax.{Text}
use Rattle.text.specs.Tokens.{lex}
use Rattle.text.specs.Tree.{settled}
use Rattle.text.specs.Grammar.{Rest}
use Rattle.text.specs.Grammar.Rest.{ok, bad}
use Rattle.text.specs.Questions.{form, short, nesting, definition_count, parameter_count, part_count, component_count}
use Rattle.text_scan.specs.Totals.{Totals}
use Rattle.text_scan.specs.declared.Scanned.{Scanned}
use Rattle.text_scan.specs.declared.Totals.{Totals as CodeTotals}

-- ── totals ──
abbrev pub totals_of : CodeTotals → Totals
totals_of t = record { nesting = t.nesting; parts = t.parts; components = t.components; definitions = t.definitions; parameters = t.parameters }

abbrev pub totaled : List ℕ → Option CodeTotals → Rest Totals
totaled s None = bad
totaled s (Some t) = ok (totals_of t) (lex (drop t.end s))

-- numbers that stop, one after the other
abbrev pub plus_up_to : Totals → Totals → Totals
plus_up_to x y = record {
  nesting = max x.nesting y.nesting;
  parts = min (x.parts + y.parts) 4097;
  components = min (x.components + y.components) 257;
  definitions = min (x.definitions + y.definitions) 33;
  parameters = max x.parameters y.parameters;
}

-- the same of the code's, ending where the second does
abbrev pub plus_totals : CodeTotals → CodeTotals → CodeTotals
plus_totals a b = record {
  end = b.end;
  nesting = max a.nesting b.nesting;
  parts = min (a.parts + b.parts) 4097;
  components = min (a.components + b.components) 257;
  definitions = min (a.definitions + b.definitions) 33;
  parameters = max a.parameters b.parameters;
}

-- ── the scan ──
-- a text that is too long, or not of the form
abbrev pub unread_scan : Bool → Scanned
unread_scan short = record { short = short; form = false; nesting = 0; definitions = 0; parameters = 0; parts = 0; components = 0 }

-- a text of the form: its numbers, each at most one past its limit
abbrev pub scanned : Answer Text → Scanned
scanned (refused n) = unread_scan true
scanned (accepted x) = record {
  short = true;
  form = true;
  nesting = min (nesting (settled x)) 33;
  definitions = min (definition_count (settled x)) 33;
  parameters = min (parameter_count (settled x)) 5;
  parts = min (part_count (settled x)) 4097;
  components = min (component_count (settled x)) 257;
}

-- question 1, question 2, and the numbers
unfoldable pub scan_of : List ℕ → Scanned
scan_of s = cond (short s) (scanned (form s)) (unread_scan false)
