-- `sort_of` gives the sort of a word of letters and digits.
-- By the class of its first byte, which is a letter or a digit.
use native.Mathlib.Omega.{arith}
use mathlib.Core.Logic.{⊎_elim}
use mathlib.Core.Path.{◌≡◌, refl, sym, ap, ◌∙◌}
use lib.ListN.{length}
use mathlib.Core.Bool.{false, false≢true}
use Rattle.text_words.specs.declared.Class.{Class}
use Rattle.text_words.specs.Sorts.{class_is, sort_of}
use Rattle.text_words.specs.declared.Sort.TheVariants.{Other}
use Rattle.text_words.proofs.WordSorts.{sort-empty, first-alnum}
use Rattle.terms.specs.Characters.{alnum}
use Rattle.text_words.proofs.sort_of.Goals as goal

pub returns-in_default : goal.returns-in_default
returns-in_default c = let h = c.in_default.len_below in sort-empty _ (omega arith)

pub returns-in-Bracket : goal.returns-in-Bracket
returns-in-Bracket c =
    let h = c.in-len1-up.len_at_least in
    let n : (length c.args.w.now ≡ 0 → ⊥) = λ e. omega arith in
    let f = first-alnum c.args.w.now n c.requires in
    let no = λ (k : Class) (e : c.class_of.result ≡ k) (o : false ≡ alnum (class_is k)). absurd {A = Other ≡ sort_of c.args.w.now} (false≢true (o ∙ sym (ap (λ k. alnum (class_is k)) e) ∙ ap alnum c.class_of.ensures ∙ f)) in
    ⊎_elim (λ e. no _ e refl) (⊎_elim (λ e. no _ e refl) (λ e. no _ e refl)) c.in-Bracket.is
