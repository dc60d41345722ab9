-- A name that is looked up or added: its table holds the names as before and then, unless it was among them, the new one (`into`, so that names are
-- numbered by first place), and nothing else changes. By the three ways: it is there, it is entered, or it is one too many, and the word 4 says so.
use Prim.Native.Nat.{ℕ, zero, suc, ◌+◌, ◌*◌, ◌≤◌, ◌<◌}
use native.Mathlib.Omega.{arith}
use mathlib.Core.List.{List, [], ◌∷◌, ◌++◌}
use mathlib.Core.Bool.{Bool, true, false, cond}
use mathlib.Core.Path.{◌≡◌, refl, ap, sym, ◌∙◌}
use borrow.Author.Tests.{ltb-true, ltb-false, lt-ltb, le-ltb}
use lib.Dec.{ltb}
use lib.ListN.{length, set, length-append}
use lib.Seq.{sets, length-sets, get_or-set_same}
use Rattle.terms.specs.Names.{Name, same_name}
use Rattle.terms.proofs.Names.{name-refl}
use Rattle.terms.specs.Letters.{member}
use Rattle.text.specs.Questions.{into}
use Rattle.table.specs.declared.Key.{Key}
use Rattle.table.specs.Words.{locs_at, parts_at, script_words, word, name_at, name_size}
use Rattle.table.specs.Meaning.{list_from}
use Rattle.table.specs.Tests.{key_name, row_name}
use Rattle.table.specs.Valid.{index}
use Rattle.table.proofs.Tests.{length-list_from}
use Rattle.text_build.specs.Tables.{key_words, held_in, number_in, add_key, enlist}
use Rattle.text_build.specs.Growth.{Frame}
use Rattle.text_build.proofs.Numbers.{member-index}
use Rattle.text_build.proofs.Tables.{index-within}
use Rattle.text_build.proofs.Writes.{frame-none, frame_then, frame-names, frame-count}
use Rattle.table.proofs.Stores.{set_out, sets-under, sets-past, sets-in}

-- ── lists of names ──
pub list_same : (f g : ℕ → Name) (k n : ℕ) → ((j : ℕ) → j < k + n → f j ≡ g j) → list_from k n f ≡ list_from k n g
unfolding list_from
list_same f g k zero e = refl
list_same f g k (suc n) e = rw (e k (omega arith), list_same f g (suc k) n (λ j h. e j (omega arith)))

list-last : (f : ℕ → Name) (k n : ℕ) → list_from k (suc n) f ≡ list_from k n f ++ (f (k + n) ∷ [])
unfolding list_from
list-last f k zero = ap (λ m. f m ∷ []) (omega arith)
list-last f k (suc n) = ap (λ l. f k ∷ l) (list-last f (suc k) n ∙ ap (λ m. list_from (suc k) n f ++ (f m ∷ [])) (omega arith))

pub index-before : (xs ys : List Name) (x : Name) → index xs x < length xs → index (xs ++ ys) x ≡ index xs x
unfolding index
index-before [] ys x h = absurd (omega arith)
index-before (z ∷ xs) ys x h = go (same_name z x) h (λ k. index-before xs ys x k)
  where
    go : (b : Bool) → cond b 0 (suc (index xs x)) < length (z ∷ xs) → (index xs x < length xs → index (xs ++ ys) x ≡ index xs x)
        → cond b 0 (suc (index (xs ++ ys) x)) ≡ cond b 0 (suc (index xs x))
    go true k r = refl
    go false k r = ap suc (r (omega arith))

-- a name keeps its number when another comes behind
pub index-into : (xs : List Name) (y x : Name) → index xs x < length xs → index (into xs y) x ≡ index xs x
index-into xs y x h = go (member y xs)
  where
    go : (b : Bool) → index (cond b xs (xs ++ (y ∷ []))) x ≡ index xs x
    go true = refl
    go false = index-before xs (y ∷ []) x h

index-end : (xs : List Name) (x : Name) → length xs ≤ index xs x → index (xs ++ (x ∷ [])) x ≡ length xs
unfolding index
index-end [] x h = rw (name-refl x)
index-end (z ∷ xs) x h = go (same_name z x) h (λ k. index-end xs x k)
  where
    go : (b : Bool) → length (z ∷ xs) ≤ cond b 0 (suc (index xs x)) → (length xs ≤ index xs x → index (xs ++ (x ∷ [])) x ≡ length xs)
        → cond b 0 (suc (index (xs ++ (x ∷ [])) x)) ≡ length (z ∷ xs)
    go true k r = absurd (omega arith)
    go false k r = ap suc (r (omega arith))

-- and a name that comes gets the number that it was looked up with
pub index-came : (xs : List Name) (x : Name) → index (into xs x) x ≡ index xs x
index-came xs x = rw (member-index xs x) (go (ltb (index xs x) (length xs)) refl)
  where
    go : (b : Bool) → ltb (index xs x) (length xs) ≡ b → index (cond b xs (xs ++ (x ∷ []))) x ≡ index xs x
    go true e = refl
    go false e = let h = ltb-false (index xs x) (length xs) e in let k = index-within xs x in index-end xs x h ∙ omega arith

pub came-within : (xs : List Name) (x : Name) → index (into xs x) x < length (into xs x)
came-within xs x = rw (index-came xs x, member-index xs x) (go (ltb (index xs x) (length xs)) refl)
  where
    go : (b : Bool) → ltb (index xs x) (length xs) ≡ b → index xs x < length (cond b xs (xs ++ (x ∷ [])))
    go true e = ltb-true (index xs x) (length xs) e
    go false e = let k = index-within xs x in rw (length-append xs (x ∷ [])) (omega arith)

-- ── a table of names ──
-- the names of the table from o on that the word `at` counts
abbrev pub names : List ℕ → ℕ → ℕ → List Name
names w o at = list_from 0 (word w at) (row_name w o 4)

-- names from o on are the same where their words are
pub names_same : (w v : List ℕ) (o n : ℕ) → ((x : ℕ) → o ≤ x → x < o + n * name_size → word v x ≡ word w x) → list_from 0 n (row_name v o 4) ≡ list_from 0 n (row_name w o 4)
unfolding row_name name_at
names_same w v o n e =
    list_same (row_name v o 4) (row_name w o 4) 0 n
    (λ j h. rw (e (o + j * name_size) (omega arith) (omega arith), e (o + j * name_size + 1) (omega arith) (omega arith), e (o + j * name_size + 2) (omega arith) (omega arith), e (o + j * name_size + 3) (omega arith) (omega arith)))

-- a name just written
pub name-written : (w : List ℕ) (o : ℕ) (k : Key) → o + 4 ≤ length w → name_at (sets w o (key_words k)) o ≡ key_name k
unfolding name_at
name-written w o k h =
    let e : o + 0 ≡ o = omega arith in
    let a : word (sets w o (key_words k)) o ≡ k.a = rw e at (sets-in (key_words k) w o 0 (omega arith) h) in
    rw (a, sets-in (key_words k) w o 1 (omega arith) h, sets-in (key_words k) w o 2 (omega arith) h, sets-in (key_words k) w o 3 (omega arith) h)

-- what the script is after the name x was looked up or added in the table from o on that the word `at` counts
pub record Entered (w v : List ℕ) (o at : ℕ) (x : Name) : Type 0 where
  pub now : names v o at ≡ into (names w o at) x
  pub frame : (low i : ℕ) → Frame w v low i
  pub left : (y : ℕ) → y < o → 8 ≤ y → word v y ≡ word w y
  pub right : (y : ℕ) → o + 256 ≤ y → word v y ≡ word w y
  pub counts : (c : ℕ) → c < 8 → (c ≡ at → ⊥) → (c ≡ 4 → ⊥) → word v c ≡ word w c
  pub few : word v at ≤ 64
  pub flag : word v 4 ≡ word w 4

module _ (w : List ℕ) (o at : ℕ) (k : Key) (low : locs_at ≤ o) (high : o + 256 ≤ parts_at) (one : 1 ≤ at) (two : at ≤ 2) (long : length w ≡ script_words) (few : word w at ≤ 64) where
  held-is : held_in w at ≡ word w at
  unfolding held_in
  held-is = omega arith

  number_is : number_in w o (held_in w at) (key_name k) ≡ index (names w o at) (key_name k)
  unfolding number_in
  number_is = rw held-is

  there : index (names w o at) (key_name k) < word w at → Entered w w o at (key_name k)
  there h = record {
    now = sym (rw (member-index (names w o at) (key_name k), length-list_from (row_name w o 4) 0 (word w at), lt-ltb (index (names w o at) (key_name k)) (word w at) h));
    frame = frame-none w;
    left = λ y a b. refl;
    right = λ y a. refl;
    counts = λ c a b d. refl;
    few = few;
    flag = refl;
  }

  module _ (n : ℕ) (e : word w at ≡ n) (l : n < 64) where
    abbrev with-key : List ℕ
    with-key = sets w (o + n * name_size) (key_words k)

    abbrev with-count : List ℕ
    with-count = set with-key at (n + 1)

    count-is : word with-count at ≡ n + 1
    count-is = get_or-set_same with-key at (n + 1) 0 (rw (length-sets w (o + n * name_size) (key_words k)) (omega arith))

    word_kept : (y : ℕ) → (y ≡ at → ⊥) → y < o + n * name_size → word with-count y ≡ word w y
    word_kept y a b = set_out with-key at y (n + 1) a ∙ sets-under (key_words k) w (o + n * name_size) y b

    word-past : (y : ℕ) → (y ≡ at → ⊥) → o + n * name_size + 4 ≤ y → word with-count y ≡ word w y
    word-past y a b = set_out with-key at y (n + 1) a ∙ sets-past (key_words k) w (o + n * name_size) y b

    count-off : (y : ℕ) → 8 ≤ y → word with-count y ≡ word with-key y
    count-off y h = set_out with-key at y (n + 1) (λ z. omega arith)

    last-name : row_name with-count o 4 n ≡ key_name k
    unfolding row_name name_at
    last-name =
        rw (count-off (o + n * name_size) (omega arith), count-off (o + n * name_size + 1) (omega arith), count-off (o + n * name_size + 2) (omega arith), count-off (o + n * name_size + 3) (omega arith))
        (name-written w (o + n * name_size) k (omega arith))

    new-names : names with-count o at ≡ list_from 0 n (row_name w o 4) ++ (key_name k ∷ [])
    new-names =
        ap (λ m. list_from 0 m (row_name with-count o 4)) (count-is ∙ omega arith)
        ∙ list-last (row_name with-count o 4) 0 n
        ∙ ap (λ m. list_from 0 n (row_name with-count o 4) ++ (row_name with-count o 4 m ∷ [])) (omega arith)
        ∙ ap (λ x. list_from 0 n (row_name with-count o 4) ++ (x ∷ [])) last-name
        ∙ ap (λ l. l ++ (key_name k ∷ [])) (names_same w with-count o n (λ x a b. word_kept x (λ q. omega arith) b))

    fresh : n ≤ index (names w o at) (key_name k) → Entered w with-count o at (key_name k)
    fresh h = record {
      now = new-names ∙ sym (rw (member-index (names w o at) (key_name k), length-list_from (row_name w o 4) 0 (word w at), e, le-ltb (index (list_from 0 n (row_name w o 4)) (key_name k)) n (rw e at h)));
      frame = λ lo i. frame_then lo i (frame-names w (o + n * name_size) (key_words k) lo i (omega arith) (omega arith)) (frame-count with-key at (n + 1) lo i (omega arith) (λ q. omega arith) (λ q. omega arith)) (omega arith) (omega arith) (omega arith) (omega arith);
      left = λ y a b. word_kept y (λ q. omega arith) (omega arith);
      right = λ y a. word-past y (λ q. omega arith) (omega arith);
      counts = λ c a b d. word_kept c b (omega arith);
      few = rw count-is (omega arith);
      flag = word_kept 4 (λ q. omega arith) (omega arith);
    }

  -- the law: unless the word 4 says that the name is one too many
  pub entered : word (enlist w o at k) 4 ≡ 0 → Entered w (enlist w o at k) o at (key_name k)
  unfolding enlist
  entered z = rw (number_is, held-is) (go (ltb (index (names w o at) (key_name k)) (word w at)) refl (rw (number_is, held-is) at z))
    where
      full : 64 ≤ word w at → word (set w 4 1) 4 ≡ 0 → ⊥
      full h q = let g : word (set w 4 1) 4 ≡ 1 = get_or-set_same w 4 1 0 (omega arith) in omega arith

      add : (b : Bool) → ltb (word w at) 64 ≡ b → word w at ≤ index (names w o at) (key_name k)
          → word (cond b (set (sets w (o + word w at * name_size) (key_words k)) at (word w at + 1)) (set w 4 1)) 4 ≡ 0
          → Entered w (cond b (set (sets w (o + word w at * name_size) (key_words k)) at (word w at + 1)) (set w 4 1)) o at (key_name k)
      add true q h z = fresh (word w at) refl (ltb-true (word w at) 64 q) h
      add false q h z = absurd (full (ltb-false (word w at) 64 q) z)

      go : (b : Bool) → ltb (index (names w o at) (key_name k)) (word w at) ≡ b
          → word (cond b w (add_key w o at (word w at) k)) 4 ≡ 0
          → Entered w (cond b w (add_key w o at (word w at) k)) o at (key_name k)
      go true q z = there (ltb-true _ (word w at) q)
      go false q z = unfold add_key in add (ltb (word w at) 64) refl (ltb-false _ (word w at) q) (unfold add_key in z)
