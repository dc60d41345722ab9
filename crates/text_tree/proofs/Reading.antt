-- The second pass over a whole text leaves definitions, located processes and names as `Whole` says, unless the word 4 says that a table or a scope is full.
-- Heads, then bodies, then located processes; each keeps what those before it left.
use Prim.Native.Nat.{ℕ, ◌+◌, ◌-◌, ◌*◌, ◌≤◌, ◌<◌}
use native.Mathlib.Omega.{arith}
use mathlib.Core.List.{List, [], ◌∷◌, ◌++◌, flat_map}
use mathlib.Core.Path.{◌≡◌, refl, ap, sym, ◌∙◌}
use lib.ListN.{length, set, length-set}
use lib.Seq.{get_or-set_same}
use Rattle.terms.specs.Terms.{Def}
use Rattle.terms.specs.Terms.Def.{define}
use Rattle.text.specs.Tree.{Tree}
use Rattle.text.specs.WellFormed.{WellTree}
use Rattle.text.specs.Questions.{firsts, def_places, located_places, places, located_names, locations_at, channels_at, channels, locations, most, params, part_count, definition_count, parameter_count}
use Rattle.table.specs.Words.{row_size, parts_at, script_words, word, timer_field}
use Rattle.table.specs.Meaning.{list_from}
use Rattle.text_build.specs.Rows.{locs_of, chans_of}
use Rattle.text_build.specs.Growth.{Making}
use Rattle.table.proofs.Stores.{set_out}
use Rattle.text_build.proofs.Grows.{grown-none}
use Rattle.text_build.proofs.Numbering.{flat_append, Numbered, numbered-then}
use Rattle.text_tree.specs.Pass.{Within, Blank, heads, started, top, defined, behind, script_of, spots_of}
use Rattle.text_tree.proofs.Whole.{Whole}
use Rattle.text_tree.proofs.Sizes.{size_defs, parts_are, behind-is}
use Rattle.text_tree.proofs.Heads.{FewParams, HeadsStand, heads-long, heads-under, heads-past, heads-stand}
use Rattle.text_tree.proofs.Timers.{Timely}
use Rattle.text_tree.proofs.Went.{defs-on}
use Rattle.text_tree.proofs.Bodies.{Bodies, bodies-are}
use Rattle.text_tree.proofs.Located.{brackets-back, Brackets, brackets-are, spots_in}

pub few-params : (ds : List Def) → most (λ d. length (params d)) ds ≤ 4 → FewParams ds
unfolding most
few-params [] h = tt
few-params (define x us p ∷ ds) h = (omega arith, few-params ds (omega arith))

-- ── the start ──
module _ (z : List ℕ) (t : Tree) (blank : Blank z (part_count t)) where
  pub started-long : length (started z t) ≡ script_words
  unfolding started
  started-long = length-set (set z 0 (part_count t)) 3 (definition_count t) ∙ length-set z 0 (part_count t) ∙ blank.long

  started-zero : (o : ℕ) → (o ≡ 0 → ⊥) → (o ≡ 3 → ⊥) → o < parts_at + part_count t * row_size → word (started z t) o ≡ 0
  unfolding started
  started-zero o a b h = set_out (set z 0 (part_count t)) 3 o (definition_count t) b ∙ set_out z 0 o (part_count t) a ∙ blank.none o h

  pub started-parts : word (started z t) 0 ≡ part_count t
  unfolding started
  started-parts = set_out (set z 0 (part_count t)) 3 0 (definition_count t) (λ e. omega arith) ∙ get_or-set_same z 0 (part_count t) 0 (rw blank.long (omega arith))

  pub started-defs : word (started z t) 3 ≡ definition_count t
  unfolding started
  started-defs = get_or-set_same (set z 0 (part_count t)) 3 (definition_count t) 0 (rw (length-set z 0 (part_count t), blank.long) (omega arith))

-- ── after the heads ──
module _ (z : List ℕ) (t : Tree) (blank : Blank z (part_count t)) (l : Within t) where
  abbrev pub headed : List ℕ
  headed = heads t.defs 0 (top t) (started z t)

  pub few : FewParams t.defs
  unfolding parameter_count
  few = few-params t.defs l.parameters

  pub headed-few : length t.defs ≤ 32
  unfolding definition_count
  headed-few = l.definitions

  headed-count : (o : ℕ) → o < 8 → word headed o ≡ word (started z t) o
  headed-count o h = heads-under t.defs (started z t) 0 (top t) o (omega arith)

  pub headed-making : Making headed
  headed-making =
      let a = headed-count 1 (omega arith) ∙ started-zero z t blank 1 (λ e. omega arith) (λ e. omega arith) (omega arith) in
      let b = headed-count 2 (omega arith) ∙ started-zero z t blank 2 (λ e. omega arith) (λ e. omega arith) (omega arith) in
      let c = headed-count 3 (omega arith) ∙ started-defs z t blank in
      let d = l.definitions in
      record { long = heads-long t.defs (started z t) 0 (top t) ∙ started-long z t blank; locs = omega arith; chans = omega arith; defs = omega arith }

  pub headed-clear : word headed 4 ≡ 0
  headed-clear = headed-count 4 (omega arith) ∙ started-zero z t blank 4 (λ e. omega arith) (λ e. omega arith) (omega arith)

  headed-timely : Timely (part_count t) headed
  headed-timely j b =
      let d : length t.defs ≤ 32 = headed-few in
      let e = heads-past t.defs (started z t) 0 (top t) (parts_at + j * row_size + timer_field) few (omega arith) in
      let y = started-zero z t blank (parts_at + j * row_size + timer_field) (λ e. omega arith) (λ e. omega arith) (omega arith) in
      rw (e, y) (omega arith)

  pub headed-locs : locs_of headed ≡ []
  unfolding locs_of list_from
  headed-locs = rw (headed-count 1 (omega arith), started-zero z t blank 1 (λ e. omega arith) (λ e. omega arith) (omega arith))

  pub headed-chans : chans_of headed ≡ []
  unfolding chans_of list_from
  headed-chans = rw (headed-count 2 (omega arith), started-zero z t blank 2 (λ e. omega arith) (λ e. omega arith) (omega arith))

  -- the heads of all definitions stand
  pub headed-stand : WellTree t → HeadsStand headed t.defs 0 (top t)
  headed-stand f = let c = headed-few in heads-stand t.defs (started z t) 0 (top t) (started-long z t blank) (omega arith) few f.defs-well

  -- ── after the bodies ──
  pub bodies-after : WellTree t → word (defined z t) 4 ≡ 0 → Bodies headed (defined z t) t.defs 0 (top t) (part_count t)
  unfolding defined
  bodies-after f y =
      let s = parts_are t in
      let c = headed-few in
      let p = l.parts in
      bodies-are t.defs 0 (top t) (part_count t) headed headed-making refl (omega arith) p (omega arith) few f.defs-well (headed-stand f) y

  -- ── after all ──
  module _ (f : WellTree t) (clear : word (script_of z t) 4 ≡ 0) where
    bodies-done : Bodies headed (defined z t) t.defs 0 (top t) (part_count t)
    unfolding script_of
    bodies-done = bodies-after f (brackets-back t.located (behind t) (defined z t) clear)

    located-done : Brackets (defined z t) (script_of z t) t.located (behind t) (part_count t - size_defs t.defs)
    unfolding script_of
    located-done =
        let s = parts_are t in
        let p = l.parts in
        brackets-are t.located (behind t) (part_count t - size_defs t.defs) (defined z t) bodies-done.went.making (behind-is t.defs (top t) (part_count t) refl) (omega arith) (omega arith) f.located-well clear

    numbered : Numbered headed (script_of z t) (flat_map locations_at (flat_map def_places t.defs) ++ flat_map located_names t.located)
        (flat_map channels_at (flat_map def_places t.defs) ++ flat_map channels_at (flat_map located_places t.located))
    numbered = numbered-then bodies-done.numbered located-done.numbered

    -- the law
    pub whole : Whole t (script_of z t)
    unfolding locations channels places definition_count
    whole =
        let s = parts_are t in
        let b = bodies-done in
        let r = located-done in
        let q = headed-few in
        record {
          making = r.went.making;
          parts = r.went.parts ∙ b.went.parts ∙ headed-count 0 (omega arith) ∙ started-parts z t blank;
          few = l.parts;
          defs = r.went.defs ∙ b.went.defs ∙ headed-count 3 (omega arith) ∙ started-defs z t blank;
          bodies = defs-on (defined z t) (script_of z t) (part_count t - size_defs t.defs) r.went t.defs 0 (top t) (part_count t) refl (omega arith) (omega arith) few b.stand;
          located = r.stand;
          locs = numbered.locs ∙ ap (λ x. firsts x (flat_map locations_at (flat_map def_places t.defs) ++ flat_map located_names t.located)) headed-locs;
          chans =
              numbered.chans ∙ ap (λ x. firsts x (flat_map channels_at (flat_map def_places t.defs) ++ flat_map channels_at (flat_map located_places t.located))) headed-chans
              ∙ ap (firsts []) (sym (flat_append channels_at (flat_map def_places t.defs) (flat_map located_places t.located)));
        }

    -- where the components stand
    pub spots-are : spots_of z t ≡ spots_in (script_of z t) t.located (behind t)
    unfolding spots_of
    spots-are = located-done.spots-are (script_of z t) (grown-none (script_of z t))

    pub timers-small : Timely (part_count t) (script_of z t)
    timers-small = located-done.timely (bodies-done.timely headed-timely)
