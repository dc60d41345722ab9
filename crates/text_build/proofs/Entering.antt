-- The names of a part are entered, and the numbers that its row gets are those that the names have afterwards.
-- By the law of entering, name by name: a number once given is kept (`Grown`), and a scope's names stand where nothing is written.
use Prim.Native.Nat.{ℕ, suc, ◌+◌, ◌*◌, ◌≤◌}
use native.Mathlib.Omega.{arith}
use mathlib.Core.List.{List, [], ◌∷◌, ◌++◌, map, flat_map}
use mathlib.Core.Bool.{Bool, true}
use mathlib.Core.Path.{◌≡◌, refl, ap, sym, ◌∙◌}
use borrow.Author.Tests.{leb-true, lt-ltb}
use lib.ListN.{length}
use Rattle.terms.specs.Names.{Name}
use Rattle.terms.specs.Terms.{Value}
use Rattle.terms.specs.Terms.Value.{loc, var}
use Rattle.terms.specs.Same.{every}
use Rattle.terms.proofs.Names.{and_in}
use Rattle.terms.specs.Characters.{Class}
use Rattle.terms.specs.Letters.{is_name, is_location, is_small, is_identifier}
use Rattle.terms.proofs.Letters.{name-form}
use Rattle.text.specs.WellFormed.{WellValue, Each}
use Rattle.text.specs.Questions.{into, firsts, loc_of}
use Rattle.table.specs.Words.{row_size, chans_at, locs_at, parts_at, word, name_at}
use Rattle.table.specs.Tests.{key_name}
use Rattle.table.specs.Valid.{index}
use Rattle.text_build.specs.declared.Scope.{Scope}
use Rattle.text_build.specs.Keys.{key_of}
use Rattle.text_build.specs.Rows.{locs_of, chans_of, scope_names, value_word}
use Rattle.text_build.specs.Growth.{value_listed, Grown, Frame, Making}
use Rattle.text_build.specs.Put.{offsets, slot_of, loc_number, enter_loc, chan_number, enter_chan, value_number, enter_value, arg_numbers, enter_values}
use Rattle.text_build.proofs.Letters.{key-letters}
use Rattle.text_build.proofs.Writes.{frame-none}
use Rattle.text_build.proofs.Grows.{Grew, grew_then, grown-none, NameIn, loc_in, chan-in, enlist-back, loc-listed-is}
use Rattle.text_build.proofs.Kept.{value_same}

-- ── a name's four words are its letters ──
pub spelt : (p : Class → Bool) (x : Name) → is_name p x ≡ true → key_name (key_of x) ≡ x
spelt p x e = let a = name-form p x e in key-letters x a.solid (leb-true (length x) 16 a.short)

pub loc-spelt : (x : Name) → is_location x ≡ true → key_name (key_of x) ≡ x
unfolding is_location
loc-spelt x e = spelt _ x e

pub small-spelt : (x : Name) → is_small x ≡ true → key_name (key_of x) ≡ x
unfolding is_small
small-spelt x e = spelt _ x e

pub id-spelt : (x : Name) → is_identifier x ≡ true → key_name (key_of x) ≡ x
unfolding is_identifier
id-spelt x e = spelt _ x e

-- ── where a scope's names stand: with a definition's parameters, or in a row above i ──
pub data Clear (i o : ℕ) : Type 0 where
  param : 8 ≤ o → o + 4 ≤ locs_at → Clear i o
  higher : parts_at + suc i * row_size ≤ o → Clear i o

abbrev pub Settled : ℕ → List ℕ → Type 0
Settled i os = Each (Clear i) os

clear-same : (w v : List ℕ) (low i o : ℕ) → Frame w v low i → Clear i o → name_at v o ≡ name_at w o
unfolding name_at
clear-same w v low i o f (param a b) = rw (f.between o (omega arith) (omega arith), f.between (o + 1) (omega arith) (omega arith), f.between (o + 2) (omega arith) (omega arith), f.between (o + 3) (omega arith) (omega arith))
clear-same w v low i o f (higher a) = rw (f.above o (omega arith), f.above (o + 1) (omega arith), f.above (o + 2) (omega arith), f.above (o + 3) (omega arith))

pub settled_same : (w v : List ℕ) (low i : ℕ) (os : List ℕ) → Frame w v low i → Settled i os → scope_names v os ≡ scope_names w os
settled_same w v low i [] f s = refl
settled_same w v low i (o ∷ os) f s = rw (clear-same w v low i o f s.0, settled_same w v low i os f s.1)

pub settled-lower : (i j : ℕ) (os : List ℕ) → j ≤ i → Settled i os → Settled j os
settled-lower i j [] h s = tt
settled-lower i j (o ∷ os) h s = (go s.0, settled-lower i j os h s.1)
  where
    go : Clear i o → Clear j o
    go (param a b) = param a b
    go (higher a) = higher (omega arith)

-- ── values ──
pub record ValueIn (w v : List ℕ) (x : Value) : Type 0 where
  pub grew : (low i : ℕ) → Grew w v low i
  pub locs : locs_of v ≡ firsts (locs_of w) (loc_of x)
  pub chans : chans_of v ≡ chans_of w
  pub listed : value_listed v x ≡ true
  pub number : (i : ℕ) (sc : Scope) → Settled i (offsets sc) → value_number w sc x ≡ value_word v (scope_names v (offsets sc)) x

pub grew_none : (w : List ℕ) → Making w → (low i : ℕ) → Grew w w low i
grew_none w m low i = record { grown = grown-none w; frame = frame-none w low i; making = m; flag = refl }

module _ (w : List ℕ) (m : Making w) where
  pub value-in : (x : Value) → WellValue x → word (enter_value w x) 4 ≡ 0 → ValueIn w (enter_value w x) x
  unfolding enter_value enter_loc loc_number value_number value_word value_listed firsts loc_of slot_of
  value-in (loc l) e z =
      let n = loc_in w m (key_of l) z in
      let s = loc-spelt l e in
      record {
        grew = n.grew;
        locs = n.now ∙ ap (into (locs_of w)) s;
        chans = n.aside;
        listed = loc-listed-is _ l ∙ lt-ltb _ _ (rw s at n.within);
        number = λ i sc h. n.has ∙ ap (index (locs_of (enter_loc w l))) s;
      }
  value-in (var x) e z = record {
    grew = grew_none w m;
    locs = refl;
    chans = refl;
    listed = refl;
    number = λ i sc h. ap (λ y. 64 + index (scope_names w (offsets sc)) y) (small-spelt x e);
  }

  pub chan-entered : (c : Name) → is_small c ≡ true → word (enter_chan w c) 4 ≡ 0 → NameIn w (enter_chan w c) c (chan_number w c) chans_of locs_of
  unfolding enter_chan chan_number
  chan-entered c e z =
      let n = chan-in w m (key_of c) z in
      let s = small-spelt c e in
      record {
        grew = n.grew;
        now = n.now ∙ ap (into (chans_of w)) s;
        aside = n.aside;
        has = n.has ∙ ap (index (chans_of (enter_chan w c))) s;
        within = rw s at n.within;
      }

-- ── the mark of a name too many ──
pub value-back : (w : List ℕ) (x : Value) → word (enter_value w x) 4 ≡ 0 → word w 4 ≡ 0
unfolding enter_value enter_loc
value-back w (loc l) e = enlist-back w locs_at 1 (key_of l) (omega arith) (omega arith) e
value-back w (var x) e = e

pub values-back : (xs : List Value) (w : List ℕ) → word (enter_values w xs) 4 ≡ 0 → word w 4 ≡ 0
unfolding enter_values
values-back [] w e = e
values-back (x ∷ xs) w e = value-back w x (values-back xs (enter_value w x) e)

pub chan-back : (w : List ℕ) (c : Name) → word (enter_chan w c) 4 ≡ 0 → word w 4 ≡ 0
unfolding enter_chan
chan-back w c e = enlist-back w chans_at 2 (key_of c) (omega arith) (omega arith) e

-- ── the arguments of a call ──
pub firsts-append : (xs ys ws : List Name) → firsts ws (xs ++ ys) ≡ firsts (firsts ws xs) ys
unfolding firsts
firsts-append [] ys ws = refl
firsts-append (x ∷ xs) ys ws = firsts-append xs ys (into ws x)

pub record ValuesIn (w v : List ℕ) (xs : List Value) : Type 0 where
  pub grew : (low i : ℕ) → Grew w v low i
  pub locs : locs_of v ≡ firsts (locs_of w) (flat_map loc_of xs)
  pub chans : chans_of v ≡ chans_of w
  pub listed : every (value_listed v) xs ≡ true
  pub numbers : (i : ℕ) (sc : Scope) → Settled i (offsets sc) → arg_numbers w sc xs ≡ map (value_word v (scope_names v (offsets sc))) xs

pub listed-on : (w v : List ℕ) → Grown w v → (x : Value) → value_listed w x ≡ true → value_listed v x ≡ true
unfolding value_listed
listed-on w v g (loc l) e = g.locs-on l e
listed-on w v g (var x) e = refl

pub values-in : (xs : List Value) (w : List ℕ) → Making w → Each WellValue xs → word (enter_values w xs) 4 ≡ 0 → ValuesIn w (enter_values w xs) xs
unfolding enter_values arg_numbers every flat_map firsts
values-in [] w m e z = record { grew = grew_none w m; locs = refl; chans = refl; listed = refl; numbers = λ i sc h. refl }
values-in (x ∷ xs) w m e z =
    let a = value-in w m x e.0 (values-back xs (enter_value w x) z) in
    let b = values-in xs (enter_value w x) (a.grew 0 0).making e.1 z in
    record {
      grew = λ low i. grew_then low i (a.grew low i) (b.grew low i) (omega arith) (omega arith) (omega arith) (omega arith);
      locs = b.locs ∙ ap (λ l. firsts l (flat_map loc_of xs)) a.locs ∙ sym (firsts-append (loc_of x) (flat_map loc_of xs) (locs_of w));
      chans = b.chans ∙ a.chans;
      listed = and_in _ _ (listed-on _ _ (b.grew 0 0).grown x a.listed) b.listed;
      numbers = λ i sc h.
          let s : scope_names (enter_values (enter_value w x) xs) (offsets sc) ≡ scope_names (enter_value w x) (offsets sc) = settled_same _ _ 0 i (offsets sc) (b.grew 0 i).frame h in
          let n : value_number w sc x ≡ value_word (enter_values (enter_value w x) xs) (scope_names (enter_values (enter_value w x) xs) (offsets sc)) x = a.number i sc h ∙ ap (λ ys. value_word (enter_value w x) ys x) (sym s) ∙ sym (value_same _ _ (b.grew 0 0).grown _ x a.listed) in
          rw (n, b.numbers i sc h);
    }
