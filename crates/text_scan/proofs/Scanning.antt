-- What the scan answers: the definition's fields from the code's numbers, and questions 1 to 4 from these fields.
-- A number that stops one past its limit is within the limit exactly if the number is.
use Prim.Native.Nat.{ℕ, suc, ◌≤◌, ◌<◌, min}
use native.Mathlib.Omega.{arith}
use mathlib.Core.Bool.{Bool, true, false}
use mathlib.Core.List.{List}
use mathlib.Core.Path.{◌≡◌, refl, sym, ap, ◌∙◌}
use borrow.Author.Tests.{le-leb, lt-leb, leb-true, leb-false}
use lib.Dec.{leb}
use lib.ListN.{length}
use Rattle.text.specs.Tokens.{Token, lex}
use Rattle.text.specs.Syntax.{Text}
use Rattle.text.specs.Tree.{settled}
use Rattle.text.specs.Grammar.{Rest, text}
use Rattle.text.specs.Grammar.Rest.{ok, bad}
use Rattle.text.specs.Questions.{form, whole, short}
use Rattle.std.specs.Prelude.{Some}
use Rattle.text_words.specs.Bytes.{mapped}
use Rattle.text.proofs.Exact.{clash}
use Rattle.text_scan.specs.Totals.{tree_totals, capped_t}
use Rattle.text_scan.specs.Counting.{text_counts}
use Rattle.text_scan.specs.Answers.{totals_of, totaled, unread_scan, scanned, scan_of}
use Rattle.text_scan.proofs.Places.{numbers, tree-numbers}
use Rattle.text_scan.specs.declared.Totals.{Totals as CodeTotals}

-- ── the code's ways to its answer ──
module _ (s : List ℕ) where
  pub scan-long : 65_535 < length s → unread_scan false ≡ scan_of s
  unfolding scan_of short
  scan-long h = rw (lt-leb (length s) 65_535 h)

  module _ (h : length s ≤ 65_535) where
    scan-short : scan_of s ≡ scanned (form s)
    unfolding scan_of short
    scan-short = rw (le-leb (length s) 65_535 h)

    pub scan-none : bad ≡ mapped capped_t (text_counts (lex s)) → unread_scan true ≡ scan_of s
    unfolding text_counts form
    scan-none e = sym (scan-short ∙ go (text (lex s)) e)
      where
        go : (x : Rest Text) → bad ≡ mapped capped_t (mapped tree_totals x) → scanned (whole x) ≡ unread_scan true
        go (ok r us) g = clash g
        go bad g = refl

    module _ (t : CodeTotals) (e : totaled s (Some t) ≡ mapped capped_t (text_counts (lex s))) where
      pub scan-some : record { short = true; form = true; nesting = t.nesting; definitions = t.definitions; parameters = t.parameters; parts = t.parts; components = t.components } ≡ scan_of s
      unfolding text_counts form
      scan-some = sym (scan-short ∙ go (text (lex s)) e)
        where
          go : (x : Rest Text) {us : List Token} → ok (totals_of t) us ≡ mapped capped_t (mapped tree_totals x) → scanned (whole x) ≡ record { short = true; form = true; nesting = t.nesting; definitions = t.definitions; parameters = t.parameters; parts = t.parts; components = t.components }
          go (ok r vs) g =
              let f : totals_of t ≡ capped_t (tree_totals r) = cc in
              let k : capped_t (numbers (settled r)) ≡ totals_of t = sym (f ∙ ap capped_t (tree-numbers r)) in
              λ i. record { short = true; form = true; nesting = (k i).nesting; definitions = (k i).definitions; parameters = (k i).parameters; parts = (k i).parts; components = (k i).components }
          go bad g = clash (sym g)

-- ── questions 1 to 4 from the answer ──
pub capped-within : (k n : ℕ) → leb (min n (suc k)) k ≡ leb n k
capped-within k n = go (leb n k) refl
  where
    go : (y : Bool) → leb n k ≡ y → leb (min n (suc k)) k ≡ y
    go true e = let h = leb-true n k e in le-leb (min n (suc k)) k (omega arith)
    go false e = let h = leb-false n k e in lt-leb (min n (suc k)) k (omega arith)
