-- What two writes, or two reads, move one after the other is what they move together.
use Rattle.std.proofs.Common.{ℕ, ◌≡◌, ◌+◌, ◌≤◌, List, ◌++◌, length, take, drop, slice_range, sym, ap, ◌∙◌, subst, refl, le_refl, length-append, length-take-le, append_assoc, take-append-drop, arith}
use Rattle.std.proofs.Math.Seq.{take-add}
use Rattle.std.proofs.lemmas.List.{take-append-le, take_at, drop_at, take_rest}
use Rattle.std.proofs.lemmas.Slice.{take-put_mid_below}
use Rattle.std.proofs.KnownBytes.{Appends-trans, Consumes-trans}
use Rattle.std.specs.Io.KnownBytes.{Appends, Consumes}
use Rattle.std.specs.declared.option.Option.{Option}
use borrow.Rule.Slice.PartMut.{put_mid, post_of}

-- Of what was left behind the bytes that were written, k more were.
pub written_more : (a b c : Option (List ℕ)) (out done rest : List ℕ) (k : ℕ) → out ≡ done ++ rest → Appends a b done → Appends b c (take k rest)
    → (x : List ℕ) × (out ≡ x ++ slice_range rest k (length rest)) × Appends a c x
written_more a b c out done rest k e first then' = (
  done ++ take k rest,
  e ∙ ap (λ l. done ++ l) (sym (take-append-drop k rest)) ∙ sym (append_assoc done (take k rest) (drop k rest)) ∙ ap (λ l. (done ++ take k rest) ++ l) (sym (take_rest rest k)),
  Appends-trans a b c _ _ first then',
)

-- What was written before a write that failed is a front of the whole.
pub written_so_far : (a b : Option (List ℕ)) (out done rest : List ℕ) → out ≡ done ++ rest → Appends a b done → (k : ℕ) × (k ≤ length out) × Appends a b (take k out)
written_so_far a b out done rest e h =
    (length done, rw (e, length-append done rest) (omega arith), subst (Appends a b) (sym (ap (take (length done)) e ∙ take_at done rest (length done) refl)) h)

-- The first d bytes were read, and then k more into the part behind them, which is ys now.
pub read_more : (a b c : Option (List ℕ)) (xs ys : List ℕ) (d k room : ℕ) → d ≤ length xs → k ≤ length ys → Consumes a b (take d xs) → Consumes b c (take k ys)
    → Consumes a c (take (d + k) (put_mid d room xs ys))
read_more a b c xs ys d k room within fits first then' =
    let front = take-put_mid_below d room xs ys d (le_refl _) within in
    let part = ap (take k) (drop_at (take d xs) (ys ++ post_of d room xs) d (length-take-le d xs within)) ∙ take-append-le k ys (post_of d room xs) fits in
    subst (Consumes a c) (ap (λ l. l ++ take k ys) (sym front) ∙ ap (λ l. take d (put_mid d room xs ys) ++ l) (sym part) ∙ sym (take-add d k _))
    (Consumes-trans a b c _ _ first then')
