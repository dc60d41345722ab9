-- Locations and channels are numbered by first place: document 01, *Reading*. After a process is put, each table holds what it held and then the new names
-- of the process, in text order (`firsts`). By induction on the process, name by name.
use Prim.Native.Nat.{ℕ}
use mathlib.Core.List.{List, [], ◌∷◌, ◌++◌, flat_map, append_assoc}
use mathlib.Core.Path.{◌≡◌, refl, ap, sym, ◌∙◌}
use Rattle.terms.specs.Names.{Name}
use Rattle.terms.specs.Terms.{Part}
use Rattle.terms.specs.Terms.Part.{stop, go, out, inp, call}
use Rattle.text.specs.WellFormed.{WellPart}
use Rattle.text.specs.Questions.{firsts, loc_of, values_of}
use Rattle.table.specs.Words.{word}
use Rattle.text_build.specs.Rows.{locs_of, chans_of}
use Rattle.text_build.specs.Growth.{Making}
use Rattle.text_build.specs.Put.{enter_chan, enter_part}
use Rattle.text_build.proofs.Entering.{firsts-append, value-in, chan-entered, values-in, value-back}

pub flat_append : {A : Type 0} (f : A → List Name) (xs ys : List A) → flat_map f (xs ++ ys) ≡ flat_map f xs ++ flat_map f ys
unfolding flat_map
flat_append f [] ys = refl
flat_append f (x ∷ xs) ys = rw (flat_append f xs ys) (sym (append_assoc (f x) (flat_map f xs) (flat_map f ys)))

-- ── the names of one part ──
abbrev pub channels_of : Part → List Name
channels_of stop = []
channels_of (go t v p) = []
channels_of (out c t v p q) = c ∷ []
channels_of (inp c t y p q) = c ∷ []
channels_of (call d vs) = []

pub record Numbered (w v : List ℕ) (ls cs : List Name) : Type 0 where
  pub locs : locs_of v ≡ firsts (locs_of w) ls
  pub chans : chans_of v ≡ firsts (chans_of w) cs

pub numbered-then : {w v u : List ℕ} {ls cs ls' cs' : List Name} → Numbered w v ls cs → Numbered v u ls' cs' → Numbered w u (ls ++ ls') (cs ++ cs')
numbered-then {w = w} {ls = ls} {cs = cs} {ls' = ls'} {cs' = cs'} a b = record {
  locs = b.locs ∙ ap (λ l. firsts l ls') a.locs ∙ sym (firsts-append ls ls' (locs_of w));
  chans = b.chans ∙ ap (λ l. firsts l cs') a.chans ∙ sym (firsts-append cs cs' (chans_of w));
}

module _ (w : List ℕ) (m : Making w) where
  pub part-numbered : (a : Part) → WellPart a → word (enter_part w a) 4 ≡ 0 → Numbered w (enter_part w a) (flat_map loc_of (values_of a)) (channels_of a)
  unfolding enter_part firsts flat_map
  part-numbered stop e z = record { locs = refl; chans = refl }
  part-numbered (go t v p) e z = let r = value-in w m v e.1 z in record { locs = r.locs ∙ sym (firsts-append (loc_of v) [] (locs_of w)); chans = r.chans }
  part-numbered (out c t v p q) e z =
      let k = chan-entered w m c e.0 (value-back (enter_chan w c) v z) in
      let r = value-in (enter_chan w c) (k.grew 0 0).making v e.2 z in
      record { locs = r.locs ∙ ap (λ l. firsts l (loc_of v)) k.aside ∙ sym (firsts-append (loc_of v) [] (locs_of w)); chans = r.chans ∙ k.now }
  part-numbered (inp c t y p q) e z = let k = chan-entered w m c e.0 z in record { locs = k.aside; chans = k.now }
  part-numbered (call d vs) e z = let r = values-in vs w m e.1 z in record { locs = r.locs; chans = r.chans }
