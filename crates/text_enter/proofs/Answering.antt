-- The answer of `read` from the scan, the script and the questions asked of it.
-- Question by question: the first that is answered by no gives the definition's refusal, and if none is, script and components stand for the network.
use Prim.Native.Nat.{ℕ, ◌+◌, ◌-◌, ◌*◌, ◌≤◌}
use native.Mathlib.Omega.{arith}
use mathlib.Core.Bool.{Bool, true, false, cond, ◌&&◌, false≢true}
use mathlib.Core.List.{List, [], ◌∷◌, map}
use mathlib.Core.Path.{◌≡◌, refl, sym, ap, ◌∙◌}
use borrow.Author.Tests.{leb-true, eqb-true}
use lib.Dec.{leb}
use lib.ListN.{length, take, set, replicate}
use Rattle.std.specs.Prelude.{Result, Ok, Err}
use Rattle.std.specs.Result.{is_err}
use Rattle.terms.specs.declared.refusal.Refusal.{Refusal}
use Rattle.terms.specs.Refusals.{number_of}
use Rattle.terms.proofs.Refusals.{number-some}
use Rattle.terms.specs.Rules.{Answer, ◌>>=◌}
use Rattle.terms.specs.Rules.Answer.{refused, accepted}
use Rattle.terms.specs.Same.{every}
use Rattle.terms.specs.Clock.{is_edition}
use Rattle.terms.proofs.Names.{and-inv}
use Rattle.text.specs.Tokens.{lex}
use Rattle.text.specs.Syntax.{Text}
use Rattle.text.specs.Tree.{Located, Tree, settled, network_of}
use Rattle.text.specs.Tree.Located.{at}
use Rattle.text.specs.Grammar.{Rest, text}
use Rattle.text.specs.Grammar.Rest.{ok, bad}
use Rattle.text.specs.WellFormed.{NonEmpty, WellTree}
use Rattle.text.specs.Questions.{ask, ◌>>◌, places, short, whole, form, shallow, fits, defined_once, calls_met, bound, asked as asked_of, read, read_under, nesting, definition_count, parameter_count, part_count, component_count, channels, locations, scope_size}
use Rattle.text.proofs.Exact.{form-tokens}
use Rattle.text.proofs.Gives.{known-edition, unknown-edition}
use Rattle.text_scan.specs.declared.Scanned.{Scanned}
use Rattle.text_scan.specs.Answers.{unread_scan, scanned, scan_of}
use Rattle.text_scan.specs.Limits.{limits}
use Rattle.text_scan.proofs.Scanning.{capped-within}
use Rattle.table.specs.declared.State.{State}
use Rattle.table.specs.Words.{row_size, parts_at, edition_at, script_words, state_words, word, edition_in}
use Rattle.table.specs.Meaning.{PastKept, comps_of}
use Rattle.waits.specs.Waits.{begun}
use Rattle.table.proofs.InUse.{valid-state}
use Rattle.text_build.specs.Rows.{place_known}
use Rattle.text_build.proofs.Places.{size_p-some}
use Rattle.text_tree.specs.Pass.{Within, Blank, heads, after_bodies, brackets, spots, started, top, defined, behind, script_of, spots_of}
use Rattle.text_tree.specs.Asked.{roomy, apart, calls_held, all_bound, comp_of}
use Rattle.text_asked.specs.Answer.{asked}
use Rattle.text_tree.proofs.Sizes.{size_located, parts_are}
use Rattle.text_tree.proofs.Whole.{Whole}
use Rattle.text_tree.proofs.Heads.{heads-under, heads-stand}
use Rattle.text_tree.proofs.Reading.{few-params, started-long, started-parts, started-defs, whole as stands}
use Rattle.text_tree.proofs.Fitting.{roomy-is}
use Rattle.text_tree.proofs.Network.{network-is, valid-is, count-is}
use Rattle.text_tree.proofs.AskedApart.{apart-is}
use Rattle.text_tree.proofs.AskedCalls.{calls_is}
use Rattle.text_tree.proofs.AskedBound.{bound-is}
use Rattle.text_tree.proofs.AskedKnown.{known}
use Rattle.text_answer.specs.declared.Settings.{Settings}
use Rattle.text_answer.specs.declared.Reading.{Reading}
use Rattle.text_fill.specs.Ready.{Ready, tree_in, bodies_by, Filled, defined as defined_by}
use Rattle.text_fill.specs.Spread.{Spread}
use Rattle.text_answer.specs.Answer.{StateIs, refusal, locations_in, channels_in, under, Took, ReadsAnswer, parts_of}
use Rattle.text_enter.specs.Entered.{Answered, Entered}
use Rattle.text_fill.proofs.Spreading.{spread-all}
use Rattle.text_fill.proofs.Quiet.{Quiet, quiet_then, bodies-quiet, brackets-quiet, bodies-same}
use Rattle.text_fill.proofs.Beyond.{Beyond, filled-beyond}
use Rattle.text_answer.proofs.Kept.{Front, front-blank}
use Rattle.text_answer.proofs.States.{tally-new}
use Rattle.text_answer.proofs.Under.{under-length, under-edition, names-given}

-- ── 1 to 4 by the scan ──
-- the text has the form of a tree and keeps the limits that the scan knows
pub record Passing (s : List ℕ) : Type 0 where
  pub ready : Ready s
  pub short-is : short s ≡ true
  pub form-is : form s ≡ accepted ready.text
  pub shallow-is : shallow (tree_in ready) ≡ true
  pub parts_are : (scan_of s).parts ≡ part_count (tree_in ready)
  pub defs-are : (scan_of s).definitions ≡ definition_count (tree_in ready)

fits_not : (a b c d x y z : Bool) → (a && (b && (c && d))) ≡ false → (a && b && c && x && y && d && z) ≡ false
fits_not false b c d x y z e = refl
fits_not true false c d x y z e = refl
fits_not true true false d x y z e = refl
fits_not true true true true x y z e = absurd (false≢true (sym e))
fits_not true true true false true true z e = refl
fits_not true true true false true false z e = refl
fits_not true true true false false y z e = refl

module _ (t : Tree) where
  counts : Bool
  counts = leb (definition_count t) 32 && (leb (parameter_count t) 4 && (leb (part_count t) 4_096 && leb (component_count t) 256))

  counts-not : counts ≡ false → fits t ≡ false
  unfolding counts fits
  counts-not e = fits_not (leb (definition_count t) 32) (leb (parameter_count t) 4) (leb (part_count t) 4_096) (leb (component_count t) 256) (leb (length (channels t)) 64) (leb (length (locations t)) 64) (leb (scope_size t) 8) e

  counts-within : counts ≡ true → Within t
  unfolding counts
  counts-within e =
      let a = and-inv (leb (definition_count t) 32) _ e in
      let b = and-inv (leb (parameter_count t) 4) _ a.1 in
      let c = and-inv (leb (part_count t) 4_096) _ b.1 in
      record { definitions = leb-true _ _ a.0; parameters = leb-true _ _ b.0; parts = leb-true _ _ c.0; components = leb-true _ _ c.1 }

limits_of : (x : Text) → limits (scanned (accepted x)) ≡ cond (shallow (settled x)) (cond (counts (settled x)) 0 4) 3
unfolding counts shallow
limits_of x =
    let t = settled x in
    rw (capped-within 32 (nesting t), capped-within 32 (definition_count t), capped-within 4 (parameter_count t), capped-within 4_096 (part_count t), capped-within 256 (component_count t))

module _ (s : List ℕ) where
  pub limited : (limits (scan_of s) ≡ 0 → ⊥) → read s ≡ refused (limits (scan_of s))
  unfolding scan_of read asked_of form
  limited n = go₁ (short s) (text (lex s)) n
    where
      tree : (x : Text) → (limits (scanned (accepted x)) ≡ 0 → ⊥) → (a b : Bool) → shallow (settled x) ≡ a → counts (settled x) ≡ b → asked_of (settled x) ≡ refused (limits (scanned (accepted x)))
      tree x n false b e f = rw (limits_of x, e)
      tree x n true false e f = rw (limits_of x, e, f, counts-not (settled x) f)
      tree x n true true e f = absurd (n (rw (limits_of x, e, f)))

      go₁ : (y : Bool) (x : Rest Text) → (limits (cond y (scanned (whole x)) (unread_scan false)) ≡ 0 → ⊥)
          → (ask 1 y >> (whole x >>= λ x. asked_of (settled x))) ≡ refused (limits (cond y (scanned (whole x)) (unread_scan false)))
      go₁ false x n = refl
      go₁ true bad n = refl
      go₁ true (ok x us) n = tree x n (shallow (settled x)) (counts (settled x)) refl refl

  pub passing : limits (scan_of s) ≡ 0 → Passing s
  unfolding scan_of
  passing z = go₁ (short s) (form s) refl refl z
    where
      tree : (x : Text) → short s ≡ true → form s ≡ accepted x → limits (scanned (accepted x)) ≡ 0 → (a b : Bool) → shallow (settled x) ≡ a → counts (settled x) ≡ b → Passing s
      tree x p g z false b e f = let h : ◌≡◌ {A = ℕ} 3 0 = sym (rw e at (limits_of x)) ∙ z in absurd (omega arith)
      tree x p g z true false e f = let h : ◌≡◌ {A = ℕ} 4 0 = sym (rw (e, f) at (limits_of x)) ∙ z in absurd (omega arith)
      tree x p g z true true e f =
          let k = form-tokens s x g in
          let i = counts-within (settled x) f in
          let l = i.parts in
          let m = i.definitions in
          let q : scan_of s ≡ scanned (accepted x) = rw (p, g) in
          record {
            ready = record { text = x; is = k.0; well = k.1; within = i };
            short-is = p;
            form-is = g;
            shallow-is = e;
            parts_are = ap (λ c. c.parts) q ∙ omega arith;
            defs-are = ap (λ c. c.definitions) q ∙ omega arith;
          }

      go₁ : (y : Bool) (x : Answer Text) → short s ≡ y → form s ≡ x → limits (cond y (scanned x) (unread_scan false)) ≡ 0 → Passing s
      go₁ false x e g z = absurd (omega arith)
      go₁ true (refused n) e g z = absurd (omega arith)
      go₁ true (accepted x) e g z = tree x e g z (shallow (settled x)) (counts (settled x)) refl refl

-- ── the script and the places that were written ──
module _ {s : List ℕ} (x : Ready s) {w v : List ℕ} {parts n : ℕ} (blank : Blank w (part_count (tree_in x))) (p : parts ≡ part_count (tree_in x)) (d : n ≡ definition_count (tree_in x)) {out after : List (List ℕ)} {r : ℕ} (f : Filled w v parts n out after r (tree_in x)) where
  started-is : set (set w 0 parts) 3 n ≡ started w (tree_in x)
  unfolding started
  started-is = ap (λ q. set (set w 0 q) 3 n) p ∙ ap (λ q. set (set w 0 (part_count (tree_in x))) 3 q) d

  defined-is : defined_by w parts n (tree_in x) ≡ defined w (tree_in x)
  unfolding defined definition_count parameter_count
  defined-is =
      let t = tree_in x in
      let few = few-params t.defs x.within.parameters in
      let m = x.within.definitions in
      ap (λ q. bodies_by t.defs 0 (parts - 1) (heads t.defs 0 (parts - 1) q)) started-is
      ∙ ap (λ q. bodies_by t.defs 0 (q - 1) (heads t.defs 0 (q - 1) (started w t))) p
      ∙ bodies-same t.defs 0 (top t) (heads t.defs 0 (top t) (started w t)) few (omega arith) (heads-stand t.defs (started w t) 0 (top t) (started-long w t blank) (omega arith) few x.well.defs-well)

  pub script-is : v ≡ script_of w (tree_in x)
  unfolding script_of
  script-is = f.script ∙ ap (λ q. brackets (tree_in x).located (after_bodies (tree_in x).defs (q - 1)) (defined_by w parts n (tree_in x))) p ∙ ap (brackets (tree_in x).located (behind (tree_in x))) defined-is

  spots-are : Spread out after 0 r (spots_of w (tree_in x))
  unfolding spots_of
  spots-are = rw (ap (λ q. spots (tree_in x).located (after_bodies (tree_in x).defs (q - 1)) (defined_by w parts n (tree_in x))) p ∙ ap (spots (tree_in x).located (behind (tree_in x))) defined-is) at f.gathered

  -- all places have space
  module _ (wide : length out ≡ 256) where
    all : (take r after ≡ spots_of w (tree_in x)) × (r ≡ length (spots_of w (tree_in x)))
    all = let k = count-is w (tree_in x) in let m = x.within.components in spread-all (omega arith) spots-are

    pub places-are : take r after ≡ spots_of w (tree_in x)
    places-are = all.0

    pub places-few : r ≤ 256
    places-few = let k = count-is w (tree_in x) in let m = x.within.components in let e = all.1 in omega arith

    pub state-is : (st : State) → StateIs v (take r after) st → (st.n ≡ length (spots_of w (tree_in x))) × (comps_of st ≡ map (comp_of (script_of w (tree_in x))) (spots_of w (tree_in x)))
    state-is st g = (g.count ∙ ap length places-are, g.comps ∙ ap (map (comp_of v)) places-are ∙ ap (λ q. map (comp_of q) (spots_of w (tree_in x))) script-is)

-- the numbers of parts and definitions stay as they are
script-quiet : (z : List ℕ) (t : Tree) → Quiet (heads t.defs 0 (top t) (started z t)) (script_of z t)
unfolding script_of defined
script-quiet z t = quiet_then (bodies-quiet t.defs 0 (top t) _) (brackets-quiet t.located (behind t) _)

pub parts-kept : (z : List ℕ) (t : Tree) → Blank z (part_count t) → word (script_of z t) 0 ≡ part_count t
parts-kept z t b = (script-quiet z t).same 0 (omega arith) (λ e. omega arith) (λ e. omega arith) (λ e. omega arith) ∙ heads-under t.defs (started z t) 0 (top t) 0 (omega arith) ∙ started-parts z t b

pub defs-kept : (z : List ℕ) (t : Tree) → Blank z (part_count t) → word (script_of z t) 3 ≡ definition_count t
defs-kept z t b = (script-quiet z t).same 3 (omega arith) (λ e. omega arith) (λ e. omega arith) (λ e. omega arith) ∙ heads-under t.defs (started z t) 0 (top t) 3 (omega arith) ∙ started-defs z t b

-- ── 4 to 7 by the script ──
module _ {s : List ℕ} (x : Passing s) (base : List ℕ) (blank : Blank base (part_count (tree_in x.ready))) where
  abbrev T : Tree
  T = tree_in x.ready

  abbrev S : List ℕ
  S = script_of base T

  -- what an accepted text leaves: the words of the script w behind the last row, and zeros beside the components
  pub record Around (g : Settings) (w : List ℕ) (st : State) : Type 0 where
    pub before : length w ≡ script_words
    pub size : length S ≡ script_words
    pub behind : (o : ℕ) → parts_at + part_count T * row_size ≤ o → word S o ≡ word (under g w) o
    pub past : PastKept st.n (replicate state_words 0) st.c
    pub edition : edition_in S ≡ g.edition
    pub known-one : is_edition g.edition ≡ true

  read_is : read s ≡ (ask 4 (fits T) >> (ask 5 (defined_once T.defs) >> (ask 6 (calls_met T) >> (ask 7 (bound T) >> accepted (network_of T)))))
  unfolding read asked_of
  read_is = rw (x.short-is, x.form-is, x.shallow-is)

  module _ (e : roomy S ≡ true) where
    flag : word S 4 ≡ 0
    unfolding roomy
    flag = eqb-true _ _ e

    abbrev W : Whole T S
    W = stands base T blank x.ready.within x.ready.well flag

    fits-yes : fits T ≡ true
    fits-yes = roomy-is base T blank x.ready.within x.ready.well ∙ e

    read-4 : read s ≡ (ask 5 (apart S) >> (ask 6 (calls_met T) >> (ask 7 (bound T) >> accepted (network_of T))))
    read-4 = read_is ∙ rw (fits-yes, apart-is T S W)

    module _ (f : apart S ≡ true) where
      distinct-yes : defined_once T.defs ≡ true
      distinct-yes = apart-is T S W ∙ f

      read-5 : read s ≡ (ask 6 (calls_held S) >> (ask 7 (bound T) >> accepted (network_of T)))
      read-5 = read-4 ∙ rw (f, calls_is T S W x.ready.within.parameters distinct-yes)

      module _ (g : calls_held S ≡ true) where
        calls-yes : calls_met T ≡ true
        calls-yes = calls_is T S W x.ready.within.parameters distinct-yes ∙ g

        read-6 : read s ≡ (ask 7 (all_bound S) >> accepted (network_of T))
        read-6 = read-5 ∙ rw (g, bound-is T S W x.ready.within.parameters calls-yes)

        module _ (h : all_bound S ≡ true) where
          bound-yes : bound T ≡ true
          bound-yes = bound-is T S W x.ready.within.parameters calls-yes ∙ h

          read-7 : read s ≡ accepted (network_of T)
          read-7 = read-6 ∙ rw h

          known-yes : every (place_known S) (places T) ≡ true
          known-yes = known T S W x.ready.within.parameters distinct-yes x.ready.well calls-yes bound-yes

          took : (q : Reading) → q.code ≡ 0 → q.state.n ≡ length (spots_of base T) → comps_of q.state ≡ map (comp_of S) (spots_of base T) → (g : Settings) (w : List ℕ) → Around g w q.state → Took s g w S (network_of T) q
          took q z n c g w a =
              let good-now = valid-is base T blank x.ready.within x.ready.well flag distinct-yes known-yes (ap is_edition a.edition ∙ a.known-one) q.state n c a.past in
              let net-now = network-is base T blank x.ready.within x.ready.well flag distinct-yes known-yes (ap is_edition a.edition ∙ a.known-one) q.state n c in
              let locs-now = W.locs ∙ sym (ap locations_in x.form-is) in
              let chans-now = W.chans ∙ sym (ap channels_in x.form-is) in
              record {
                code = z;
                network = net-now;
                edition = a.edition;
                rights = names-given g w a.before S (λ o h. a.behind o (omega (arith, x.ready.within.parts))) q.state good-now locs-now chans-now;
                good = good-now;
                locs = locs-now;
                chans = chans-now;
                parts = parts-kept base T blank ∙ sym (ap parts_of x.form-is);
                size = a.size;
                behind = λ o h. a.behind o (omega (arith, parts-kept base T blank));
                tally = tally-new S S (spots_of base T) q.state c (valid-state S q.state good-now).few a.past ∙ ap (λ n. begun n.comps) net-now;
                past = a.past;
              }

  pub asked-no : (asked S ≡ 0 → ⊥) → read s ≡ refused (asked S)
  asked-no n = go₁ (roomy S) (apart S) (calls_held S) (all_bound S) refl refl refl refl n
    where
      go₁ : (a b c d : Bool) → roomy S ≡ a → apart S ≡ b → calls_held S ≡ c → all_bound S ≡ d → (◌≡◌ {A = ℕ} (cond a (cond b (cond c (cond d 0 7) 6) 5) 4) 0 → ⊥) → read s ≡ refused (cond a (cond b (cond c (cond d 0 7) 6) 5) 4)
      go₁ false b c d e f g h n = read_is ∙ rw (roomy-is base T blank x.ready.within x.ready.well ∙ e)
      go₁ true false c d e f g h n = read-4 e ∙ rw f
      go₁ true true false d e f g h n = read-5 e f ∙ rw g
      go₁ true true true false e f g h n = read-6 e f g ∙ rw h
      go₁ true true true true e f g h n = absurd (n refl)

  pub asked-yes : asked S ≡ 0 → (q : Reading) → q.code ≡ 0 → q.state.n ≡ length (spots_of base T) → comps_of q.state ≡ map (comp_of S) (spots_of base T) → (u : List ℕ) (g : Settings) (w : List ℕ) → Around g w q.state → ReadsAnswer s g (read s) u w S q
  asked-yes z q y n c u k w l = go₁ (roomy S) (apart S) (calls_held S) (all_bound S) refl refl refl refl z
    where
      go₁ : (a b c d : Bool) → roomy S ≡ a → apart S ≡ b → calls_held S ≡ c → all_bound S ≡ d → ◌≡◌ {A = ℕ} (cond a (cond b (cond c (cond d 0 7) 6) 5) 4) 0 → ReadsAnswer s k (read s) u w S q
      go₁ false b c d e f g h z = absurd (omega arith)
      go₁ true false c d e f g h z = absurd (omega arith)
      go₁ true true false d e f g h z = absurd (omega arith)
      go₁ true true true false e f g h z = absurd (omega arith)
      go₁ true true true true e f g h z = rw (read-7 e f g h) (took e f g h q y n c k w l)

-- ── the code's ways to its answer ──
-- a text has a part
located-some : (ls : List Located) → NonEmpty ls → 1 ≤ size_located ls
unfolding size_located
located-some [] n = absurd n
located-some (at l p ∷ ls) n = omega (arith, size_p-some p)

some-parts : (t : Tree) → WellTree t → 1 ≤ part_count t
some-parts t f = omega (arith, parts_are t, located-some t.located f.some-located)

module _ (s : List ℕ) (c : Scanned) (e : c ≡ scan_of s) (q : ℕ) (l : q ≡ limits c) where
  refused-is : (n : ℕ) (h : Settings) (u w v : List ℕ) (r : Reading) → read s ≡ refused n → r ≡ refusal n → v ≡ u → ReadsAnswer s h (read s) u w v r
  refused-is n h u w v r f g k = rw f (g, k)

  limits-is : q ≡ limits (scan_of s)
  limits-is = l ∙ ap limits e

  -- the scan's refusal
  pub way-1 : (d : Refusal) → q ≡ number_of d → (h : Settings) (u w v : List ℕ) (r : Reading) → r ≡ refusal (number_of d) → v ≡ u → ReadsAnswer s h (read s) u w v r
  way-1 d n h u w v r g k = refused-is (limits (scan_of s)) h u w v r (limited s (λ z. number-some d (sym n ∙ limits-is ∙ z))) (g ∙ ap refusal (sym n ∙ limits-is)) k

  module _ (z : q ≡ 0) where
    pub pass : Passing s
    pass = passing s (sym limits-is ∙ z)

    parts-now : c.parts ≡ part_count (tree_in pass.ready)
    parts-now = ap (λ x. x.parts) e ∙ pass.parts_are

    defs-now : c.definitions ≡ definition_count (tree_in pass.ready)
    defs-now = ap (λ x. x.definitions) e ∙ pass.defs-are

    pub may-fill : (c.parts ≤ 4_096) × (c.definitions ≤ 32) × Ready s
    may-fill =
        let a = parts-now in
        let b = defs-now in
        let f = pass.ready.within.parts in
        let g = pass.ready.within.definitions in
        (omega arith, omega arith, pass.ready)

    -- what lies behind the rows stays
    beyond-now : {w₀ v : List ℕ} {out after : List (List ℕ)} {n : ℕ} → ((x : Ready s) → Filled w₀ v c.parts c.definitions out after n (tree_in x)) → Beyond (c.parts - 1) w₀ v
    unfolding parameter_count definition_count
    beyond-now {w₀} h =
        let t = tree_in pass.ready in
        rw (h pass.ready).script (filled-beyond t w₀ c.parts c.definitions (few-params t.defs pass.ready.within.parameters) pass.ready.within.definitions)

    -- into a script w whose first m words are set to zero, as many as the rows need and no more
    module _ {w w₀ : List ℕ} (size : length w ≡ script_words) (m : ℕ) (enough : parts_at + c.parts * row_size ≤ m) (zeros : Front m (λ o. 0) w w₀) {v : List ℕ} {out after : List (List ℕ)} {n : ℕ} (h : (x : Ready s) → Filled w₀ v c.parts c.definitions out after n (tree_in x)) where
      blank : Blank w₀ (part_count (tree_in pass.ready))
      blank = rw parts-now at (front-blank m c.parts w w₀ size enough zeros)

      rest-now : m ≤ parts_at + c.parts * row_size → (o : ℕ) → parts_at + c.parts * row_size ≤ o → word v o ≡ word w o
      rest-now l o b = (beyond-now h).same o (omega (arith, parts-now, some-parts (tree_in pass.ready) pass.ready.well)) ∙ zeros.rest o (omega arith)

      long-now : length v ≡ length w
      long-now = (beyond-now h).size ∙ zeros.size

      now-script : v ≡ script_of w₀ (tree_in pass.ready)
      now-script = script-is pass.ready blank parts-now defs-now (h pass.ready)

      pub may-ask : (word v 0 ≤ 4_096) × (word v 3 ≤ 32)
      may-ask =
          let a = ap (λ x. word x 0) now-script ∙ parts-kept w₀ (tree_in pass.ready) blank in
          let b = ap (λ x. word x 3) now-script ∙ defs-kept w₀ (tree_in pass.ready) blank in
          let f = pass.ready.within.parts in
          let g = pass.ready.within.definitions in
          (omega arith, omega arith)

      module _ (a : ℕ) (f : a ≡ asked v) where
        asked_is : a ≡ asked (script_of w₀ (tree_in pass.ready))
        asked_is = f ∙ ap asked now-script

        module _ (wide : length out ≡ 256) (fewest : m ≤ parts_at + c.parts * row_size) where
          -- the script's refusal
          pub entered-no : (d : Refusal) → a ≡ number_of d → Entered s c.parts w v after (Err d)
          entered-no d k = record {
            answer = record {
              few = λ i y. absurd cc;
              no = λ b y. asked-no pass w₀ blank (λ z. number-some d (sym k ∙ asked_is ∙ z)) ∙ ap refused (sym asked_is ∙ k ∙ ap number_of cc);
              yes = λ i y. absurd cc;
            };
            rest = rest-now fewest;
            size = long-now;
          }

          -- or the network
          pub entered-yes : a ≡ 0 → Entered s c.parts w v after (Ok n)
          entered-yes y = record {
            answer = record {
              few = λ i k. let e : n ≡ i = cc in rw (← e) (places-few pass.ready blank parts-now defs-now (h pass.ready) wide);
              no = λ b k. absurd cc;
              yes = λ b k g w₁ i known-one u q z l.
                  let e : b ≡ n = cc in
                  let p = state-is pass.ready blank parts-now defs-now (h pass.ready) wide q.state (rw e at l) in
                  let behind-now : (o : ℕ) → parts_at + c.parts * row_size ≤ o → word v o ≡ word (under g w₁) o = λ o b. rest-now fewest o b ∙ ap (λ x. word x o) i in
                  let before-now : length w₁ ≡ script_words = sym (ap length i ∙ under-length g w₁) ∙ size in
                  let edition-now : edition_in v ≡ g.edition = behind-now edition_at (omega (arith, may-fill.0)) ∙ under-edition g w₁ before-now in
                  let around : Around pass w₀ blank g w₁ q.state = record { before = before-now; size = rw now-script at (long-now ∙ size); behind = rw (parts-now, now-script) at behind-now; past = l.past; edition = rw now-script at edition-now; known-one = known-one } in
                  rw now-script (asked-yes pass w₀ blank (sym asked_is ∙ y) q z p.0 p.1 u g w₁ around);
            };
            rest = rest-now fewest;
            size = long-now;
          }

-- ── after the questions ──
pub answer-no : {s w v : List ℕ} {after : List (List ℕ)} {q : Result ℕ Refusal} → Answered s w v after q → (d : Refusal) → q ≡ Err d → (h : Settings) (u w₀ x : List ℕ) (r : Reading) → r ≡ refusal (number_of d) → x ≡ u
    → ReadsAnswer s h (read s) u w₀ x r
answer-no a d m h u w₀ x r g k = rw (a.no d m) (g, k)

-- after a refusal the script may be another
pub answer_back : {s w v : List ℕ} {after : List (List ℕ)} (q : Result ℕ Refusal) → Answered s w v after q → is_err q ≡ true → (x : List ℕ) → Answered s w x after q
answer_back (Ok n) a e x = absurd cc
answer_back (Err d) a e x = record { few = a.few; no = a.no; yes = λ n z. absurd cc }

-- ── question 21 ──
pub edition-no : (s : List ℕ) (h : Settings) → is_edition h.edition ≡ false → (u w x : List ℕ) (r : Reading) → r ≡ refusal 21 → x ≡ u → ReadsAnswer s h (read_under h.edition s) u w x r
edition-no s h e u w x r g k = rw (unknown-edition h.edition s e) (g, k)

pub edition-yes : (s : List ℕ) (h : Settings) → is_edition h.edition ≡ true → (u w x : List ℕ) (r : Reading) → ReadsAnswer s h (read s) u w x r → ReadsAnswer s h (read_under h.edition s) u w x r
edition-yes s h e u w x r a = rw (known-edition h.edition s e) a
