-- Pieces written one after the other, and what was read of a text.
use Rattle.std.proofs.Common.{ℕ, Bool, ◌≡◌, ◌+◌, ◌≤◌, ◌<◌, ◌⊎◌, inl, inr, List, [], ◌∷◌, ◌++◌, None, Some, IfSome, Result, Ok, Err, OnOk, IsErrOf, IsErrAnd, MatchResult, length, take, sym, ap, ◌∙◌, subst, append_assoc, append-nil, take_all, eq-or-lt_of_le, le_of_eq}
use Rattle.std.proofs.Math.Seq.{take-append-add}
use Rattle.std.proofs.lemmas.List.{take-append-le}
use Rattle.std.specs.Io.KnownBytes.{Appends, Consumes, IsAtEnd}
use Rattle.std.specs.declared.option.Option.{Option}
use mathlib.Core.List.{flatten}
use Rattle.run_pieces.specs.declared.Progress.{Progress}
use Rattle.run_pieces.specs.declared.Stage.TheVariants.{Over}
use Rattle.run_pieces.specs.Pieces.{left_at, pieces_left}

-- One piece more was written.
pub piece_more : (all done x : List ℕ) (xs ys : List (List ℕ)) → xs ≡ x ∷ ys → all ≡ done ++ flatten xs → all ≡ (done ++ x) ++ flatten ys
unfolding flatten
piece_more all done x xs ys e h = h ∙ ap (λ l. done ++ flatten l) e ∙ sym (append_assoc done x (flatten ys))

-- Of the next piece, k bytes were written.
pub piece_cut : (all done x : List ℕ) (k : ℕ) (xs ys : List (List ℕ)) → xs ≡ x ∷ ys → all ≡ done ++ flatten xs → k ≤ length x → take (length done + k) all ≡ done ++ take k x
unfolding flatten
piece_cut all done x k xs ys e h few =
    ap (take (length done + k)) (h ∙ ap (λ l. done ++ flatten l) e) ∙ take-append-add done (x ++ flatten ys) k
    ∙ ap (λ l. done ++ l) (take-append-le k x (flatten ys) few)

-- What was read of a text, n bytes at most and fewer only at its end, are its first n bytes.
of_read : (a b : Option (List ℕ)) (bs : List ℕ) (n : ℕ) (P : List ℕ → Type 0) → Consumes a b bs → length bs ≤ n → (length bs < n → IsAtEnd b) → P bs
    → IfSome a (λ s. P (take n s))
of_read None b bs n P moved few end p = tt
of_read (Some xs) None bs n P moved few end p = absurd moved
of_read (Some xs) (Some ys) bs n P moved few end p = subst P (sym (go (eq-or-lt_of_le few))) p
  where
    go : (length bs ≡ n) ⊎ (length bs < n) → take n xs ≡ bs
    go (inl e) = ap (take n) moved ∙ take-append-le n bs ys (le_of_eq (sym e)) ∙ take_all n bs few
    go (inr h) = ap (take n) (moved ∙ ap (λ l. bs ++ l) (end h) ∙ append-nil bs) ∙ take_all n bs few

-- Nothing is left of a printout that is over.
pub nothing_left : (w : List ℕ) (now : Progress) → (read : Bool) × (now.stage ≡ Over read) → flatten (pieces_left w now) ≡ []
unfolding flatten
nothing_left w now (read, e) = ap (λ g. flatten (left_at w g now.state)) e

-- What was written of a text that was read so, whole and up to a failed write; f is what it should come to.
pub wrote_all : (a b o p : Option (List ℕ)) (bs out : List ℕ) (n : ℕ) (f : List ℕ → List ℕ) → Consumes a b bs → length bs ≤ n → (length bs < n → IsAtEnd b) → out ≡ f bs
    → Appends o p out → IfSome a (λ s. Appends o p (f (take n s)))
wrote_all a b o p bs out n f moved few end e h = of_read a b bs n (λ s. Appends o p (f s)) moved few end (subst (Appends o p) e h)

pub wrote_some : (a b o p : Option (List ℕ)) (bs out : List ℕ) (n : ℕ) (f : List ℕ → List ℕ) → Consumes a b bs → length bs ≤ n → (length bs < n → IsAtEnd b) → out ≡ f bs
    → (k : ℕ) × Appends o p (take k out) → IfSome a (λ s. (k : ℕ) × Appends o p (take k (f (take n s))))
wrote_some a b o p bs out n f moved few end e h = of_read a b bs n (λ s. (k : ℕ) × Appends o p (take k (f s))) moved few end (h.0, subst (λ l. Appends o p (take h.0 l)) e h.1)

-- A write's end with the failure of a run in place of its own: what it says of the whole, and of a failed write.
pub told_ok : {T E D : Type 0} (r : Result T E) (s : Result T D) (Q : E → D → Type 0) (P F A : Type 0) → MatchResult r (λ x. s ≡ Ok x) (λ e. IsErrAnd s (Q e))
    → MatchResult r (λ _. P) (λ _. F) → (P → A) → OnOk s A
told_ok (Ok x) s Q P F A h m f = rw h (f m)
told_ok (Err e) (Ok x) Q P F A h m f = absurd h
told_ok (Err e) (Err d) Q P F A h m f = tt

pub told_err : {T E D : Type 0} (r : Result T E) (s : Result T D) (Q : E → D → Type 0) (P F : Type 0) → MatchResult r (λ x. s ≡ Ok x) (λ e. IsErrAnd s (Q e))
    → MatchResult r (λ _. P) (λ _. F) → (d : D) → IsErrOf s d → F
told_err (Ok x) s Q P F h m d k = absurd (cc)
told_err (Err e) s Q P F h m d k = m
