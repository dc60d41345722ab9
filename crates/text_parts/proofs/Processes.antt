-- The numbers of a part and of a process, read as the grammar reads them: `part-counts`, `process-counts`.
-- By the grammar's equations, with what each reader gives changed to its numbers along the do-block.
use Prim.Native.Nat.{◌+◌, ◌*◌}
use mathlib.Core.Bool.{Bool, true, false}
use mathlib.Core.List.{List}
use mathlib.Core.Path.{◌≡◌, refl, ap, ◌∙◌}
use lib.ListN.{length}
use Rattle.terms.specs.Names.{Name}
use Rattle.terms.specs.Letters.{is_small}
use Rattle.text.specs.Tokens.{Token, opens, closes, comma, bar}
use Rattle.text.specs.Syntax.{Span, Part, Process}
use Rattle.text.specs.Syntax.Part.{out, inp}
use Rattle.text.specs.Grammar.{Rest, Reader, bind, named, the, a_word, next, list_of, a_timer, a_value, Head, head_of, comm_form, part_form, more_parts, part, process}
use Rattle.text.specs.Grammar.Rest.{ok, bad}
use Rattle.text.specs.Grammar.Head.{stops, goes, sends, receives, calls, nothing}
use Rattle.text.proofs.Unbounded.{Less, part-is, process-is, part-less, process-less}
use Rattle.text_words.specs.Bytes.{mapped}
use Rattle.text_parts.specs.Openings.{comm_open, open_form, an_opening}
use Rattle.text_parts.specs.Counts.{joined, wrapped, part_count, process_count}
use Rattle.text_parts.specs.Counting.{part_counts, process_counts, close_form}
use Rattle.text_parts.proofs.Gathering.{more_of}
use Rattle.text_parts.proofs.Rests.{mapped-bind, mapped-after, mapped-give, mapped-less, over, sign-over}

comm-counts : {A : Type 0} (P : Reader Process) (r : Reader A) (k : Name → Span → A → Process → Process → Part) → ((c : Name) (t : Span) (x : A) (p q : Process) → part_count (k c t x p q) ≡ wrapped (joined (process_count p) (process_count q)))
    → (ts : List Token) → mapped part_count (comm_form r k P ts) ≡ bind (comm_open r ts) (close_form (λ us. mapped process_count (P us)))
comm-counts P r k g ts =
    sign-over part_count (the opens ts) _ _ _ λ o a.
    over part_count (named is_small a) _ _ _ λ m b.
    sign-over part_count (the comma b) _ _ _ λ o c.
    over part_count (a_timer c) _ _ _ λ t d.
    sign-over part_count (the comma d) _ _ _ λ o e.
    over part_count (r e) _ _ _ λ v f.
    sign-over part_count (the comma f) _ _ _ λ o h.
    mapped-bind part_count process_count (P h) _ _ λ p i.
    mapped-after part_count (the comma i) _ _ λ o j.
    mapped-bind part_count process_count (P j) _ _ λ q l.
    rw (← g m t v p q) (mapped-give part_count (the closes l) _)

form-counts : (P : Reader Process) (h : Head) (w : Name) (ts : List Token) → mapped part_count (part_form P h w ts) ≡ bind (open_form h ts) (close_form (λ us. mapped process_count (P us)))
unfolding part_count
form-counts P stops w ts = refl
form-counts P goes w ts =
    sign-over part_count (the opens ts) _ _ _ λ o a.
    over part_count (a_timer a) _ _ _ λ t b.
    sign-over part_count (the comma b) _ _ _ λ o c.
    over part_count (a_value c) _ _ _ λ v d.
    sign-over part_count (the comma d) _ _ _ λ o e.
    mapped-bind part_count process_count (P e) _ _ λ p f.
    mapped-give part_count (the closes f) _
form-counts P sends w ts = comm-counts P a_value out (λ c t v p q. refl) ts
form-counts P receives w ts = comm-counts P (named is_small) inp (λ c t y p q. refl) ts
form-counts P calls w ts = over part_count (list_of a_value ts) _ _ _ λ vs us. refl
form-counts P nothing w ts = refl

pub part-counts : (ts : List Token) → part_counts ts ≡ bind (an_opening ts) (close_form process_counts)
unfolding part_counts process_counts an_opening
part-counts ts = ap (mapped part_count) (part-is ts) ∙ go (a_word ts)
  where
    go : (x : Rest Name) → mapped part_count (bind x (λ w. part_form process (head_of w) w)) ≡ bind (bind x (λ w. open_form (head_of w))) (close_form (λ us. mapped process_count (process us)))
    go (ok w us) = form-counts process (head_of w) w us
    go bad = refl

pub process-counts : (ts : List Token) → process_counts ts ≡ bind (part_counts ts) (λ x us. more_of joined bar process_counts (next bar us) x us)
unfolding part_counts process_counts process_count
process-counts ts = ap (mapped process_count) (process-is ts) ∙ go (part ts)
  where
    go : (x : Rest Part) → mapped process_count (bind x (λ a us. more_parts (next bar us) a process us)) ≡ bind (mapped part_count x) (λ x us. more_of joined bar (λ vs. mapped process_count (process vs)) (next bar us) x us)
    go bad = refl
    go (ok a us) = more (next bar us)
      where
        more : (y : Bool) → mapped process_count (more_parts y a process us) ≡ more_of joined bar (λ vs. mapped process_count (process vs)) y (part_count a) us
        more false = refl
        more true = mapped-after process_count (the bar us) _ _ λ o vs. mapped-bind process_count process_count (process vs) _ _ λ p zs. refl

-- ── they leave less ──
pub part-counts-less : Less part_counts
unfolding part_counts
part-counts-less = mapped-less (λ ts a us e. part-less (2 * length ts + 1) ts a us e) part_count

pub process-counts-less : Less process_counts
unfolding process_counts
process-counts-less = mapped-less (λ ts a us e. process-less (2 * length ts + 2) ts a us e) process_count
