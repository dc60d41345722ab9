-- The heads of definitions, written one after the other: each holds its identifier, its parameters and the place of its body, and nothing else changes.
-- By where the words lie, parameter by parameter and definition by definition.
use Prim.Native.Nat.{ℕ, suc, ◌+◌, ◌-◌, ◌*◌, ◌≤◌, ◌<◌}
use native.Mathlib.Omega.{arith}
use mathlib.Core.List.{List, [], ◌∷◌}
use mathlib.Core.Path.{◌≡◌, refl, ap, sym, ◌∙◌}
use lib.ListN.{length}
use lib.Seq.{sets, length-sets}
use Rattle.terms.specs.Names.{Name}
use Rattle.terms.specs.Terms.{Def}
use Rattle.terms.specs.Terms.Def.{define}
use Rattle.terms.specs.Letters.{is_small, is_identifier}
use Rattle.text.specs.WellFormed.{Is, Each, WellDef}
use Rattle.text.specs.Questions.{params}
use Rattle.table.specs.Words.{row_size, locs_at, script_words, word, name_at, arity_of, body_of, def_name, params_of, bodies_at, defs_at, first_param, ids_at, name_size}
use Rattle.table.specs.Meaning.{list_from}
use Rattle.table.specs.Tests.{row_name}
use Rattle.table.specs.Size.{size_p}
use Rattle.table.proofs.ValidDefs.{params-names}
use Rattle.text_build.specs.Keys.{key_of}
use Rattle.text_build.specs.Tables.{key_words}
use Rattle.text_build.proofs.Writes.{sets-append}
use Rattle.table.proofs.Stores.{sets-under, sets-past, sets-in}
use Rattle.text_build.proofs.Enlist.{names_same, name-written}
use Rattle.text_build.proofs.Entering.{small-spelt, id-spelt}
use Rattle.text_tree.specs.Pass.{put_params, put_head, heads}

-- a name is the same where its four words are
pub name-same : (w v : List ℕ) (o : ℕ) → ((x : ℕ) → o ≤ x → x < o + 4 → word v x ≡ word w x) → name_at v o ≡ name_at w o
unfolding name_at
name-same w v o e = rw (e o (omega arith) (omega arith), e (o + 1) (omega arith) (omega arith), e (o + 2) (omega arith) (omega arith), e (o + 3) (omega arith) (omega arith))

-- ── parameters ──
params-long : (us : List Name) (w : List ℕ) (k j : ℕ) → length (put_params w k j us) ≡ length w
unfolding put_params
params-long [] w k j = refl
params-long (u ∷ us) w k j = params-long us _ k (j + 1) ∙ length-sets w (first_param + k * row_size + j * name_size) (key_words (key_of u))

params-under : (us : List Name) (w : List ℕ) (k j x : ℕ) → x < first_param + k * row_size + j * name_size → word (put_params w k j us) x ≡ word w x
unfolding put_params
params-under [] w k j x h = refl
params-under (u ∷ us) w k j x h = params-under us _ k (j + 1) x (omega arith) ∙ sets-under (key_words (key_of u)) w (first_param + k * row_size + j * name_size) x h

params-past : (us : List Name) (w : List ℕ) (k j x : ℕ) → first_param + k * row_size + (j + length us) * name_size ≤ x → word (put_params w k j us) x ≡ word w x
unfolding put_params
params-past [] w k j x h = refl
params-past (u ∷ us) w k j x h = params-past us _ k (j + 1) x (omega arith) ∙ sets-past (key_words (key_of u)) w (first_param + k * row_size + j * name_size) x (omega arith)

params-written : (us : List Name) (w : List ℕ) (k j : ℕ) → first_param + k * row_size + (j + length us) * name_size ≤ length w → Each (Is is_small) us
    → list_from j (length us) (row_name (put_params w k j us) (first_param + k * row_size) 4) ≡ us
unfolding put_params list_from row_name
params-written [] w k j h e = refl
params-written (u ∷ us) w k j h e =
    let s : j + 1 ≡ suc j = omega arith in
    let v : List ℕ = sets w (first_param + k * row_size + j * name_size) (key_words (key_of u)) in
    let a : name_at (put_params v k (j + 1) us) (first_param + k * row_size + j * name_size) ≡ u =
    name-same v _ (first_param + k * row_size + j * name_size) (λ x p q. params-under us v k (j + 1) x (omega arith))
    ∙ name-written w (first_param + k * row_size + j * name_size) (key_of u) (omega arith) ∙ small-spelt u e.0 in
    let r : list_from (j + 1) (length us) (row_name (put_params v k (j + 1) us) (first_param + k * row_size) 4) ≡ us =
    params-written us v k (j + 1) (rw (length-sets w (first_param + k * row_size + j * name_size) (key_words (key_of u))) (omega arith)) e.1 in
    rw (a) (ap (λ l. u ∷ l) (ap (λ n. list_from n (length us) (row_name (put_params v k (j + 1) us) (first_param + k * row_size) 4)) (sym s) ∙ r))

-- ── one head ──
pub record HeadStands (w : List ℕ) (x : Name) (us : List Name) (k i : ℕ) : Type 0 where
  pub name : def_name w k ≡ x
  pub arity : arity_of w k ≡ length us
  pub body : body_of w k ≡ i
  pub params : params_of w k ≡ us

-- the words of the head k are the same
abbrev pub SameHead : List ℕ → List ℕ → ℕ → Type 0
SameHead w v k = (o : ℕ) → defs_at + k * row_size ≤ o → o < 32 + k * row_size → word v o ≡ word w o

pub head-kept : (w v : List ℕ) (x : Name) (us : List Name) (k i : ℕ) → length us ≤ 4 → SameHead w v k → HeadStands w x us k i → HeadStands v x us k i
unfolding def_name arity_of body_of
head-kept w v x us k i few e h =
    let a : word v (defs_at + k * row_size) ≡ word w (defs_at + k * row_size) = e (defs_at + k * row_size) (omega arith) (omega arith) in
    record {
      name = name-same w v (ids_at + k * row_size) (λ y p q. e y (omega arith) (omega arith)) ∙ h.name;
      arity = a ∙ h.arity;
      body = e (bodies_at + k * row_size) (omega arith) (omega arith) ∙ h.body;
      params =
          params-names v k (length us) (sym (a ∙ h.arity)) few
          ∙ names_same w v (first_param + k * row_size) (length us) (λ y p q. e y (omega arith) (omega arith))
          ∙ sym (params-names w k (length us) (sym h.arity) few) ∙ h.params;
    }

module _ (w : List ℕ) (k i : ℕ) (x : Name) (us : List Name) where
  abbrev first-words : List ℕ
  first-words = length us ∷ i ∷ key_words (key_of x)

  head-long : length (put_head w k i x us) ≡ length w
  unfolding put_head
  head-long = params-long us _ k 0 ∙ length-sets w (defs_at + k * row_size) first-words

  head-under : (o : ℕ) → o < defs_at + k * row_size → word (put_head w k i x us) o ≡ word w o
  unfolding put_head
  head-under o h = params-under us _ k 0 o (omega arith) ∙ sets-under first-words w (defs_at + k * row_size) o h

  head-past : length us ≤ 4 → (o : ℕ) → 32 + k * row_size ≤ o → word (put_head w k i x us) o ≡ word w o
  unfolding put_head
  head-past few o h = params-past us _ k 0 o (omega arith) ∙ sets-past first-words w (defs_at + k * row_size) o (omega arith)

  head-stands : length w ≡ script_words → k < 32 → length us ≤ 4 → Is is_identifier x → Each (Is is_small) us → HeadStands (put_head w k i x us) x us k i
  unfolding put_head def_name arity_of body_of
  head-stands long h few e f =
      let v : List ℕ = sets w (defs_at + k * row_size) first-words in
      let under : (o : ℕ) → o < first_param + k * row_size → word (put_params v k 0 us) o ≡ word v o = λ o p. params-under us v k 0 o (omega arith) in
      let c₀ : defs_at + k * row_size + 0 ≡ defs_at + k * row_size = omega arith in
      let c₁ : defs_at + k * row_size + 1 ≡ bodies_at + k * row_size = omega arith in
      let a₀ : word v (defs_at + k * row_size) ≡ length us = rw c₀ at (sets-in first-words w (defs_at + k * row_size) 0 (omega arith) (omega arith)) in
      let a₁ : word v (bodies_at + k * row_size) ≡ i = rw c₁ at (sets-in first-words w (defs_at + k * row_size) 1 (omega arith) (omega arith)) in
      let ar : word (put_params v k 0 us) (defs_at + k * row_size) ≡ length us = under (defs_at + k * row_size) (omega arith) ∙ a₀ in
      let u : List ℕ = sets w (defs_at + k * row_size) (length us ∷ i ∷ []) in
      let two : sets u (ids_at + k * row_size) (key_words (key_of x)) ≡ v = sets-append (length us ∷ i ∷ []) (key_words (key_of x)) w (defs_at + k * row_size) (ids_at + k * row_size) (omega arith) in
      let long₂ : length u ≡ length w = length-sets w (defs_at + k * row_size) (length us ∷ i ∷ []) in
      let spelt : name_at v (ids_at + k * row_size) ≡ x = ap (λ l. name_at l (ids_at + k * row_size)) (sym two) ∙ name-written u (ids_at + k * row_size) (key_of x) (omega arith) ∙ id-spelt x e in
      record {
        name = name-same v (put_params v k 0 us) (ids_at + k * row_size) (λ o p q. under o (omega arith)) ∙ spelt;
        arity = ar;
        body = under (bodies_at + k * row_size) (omega arith) ∙ a₁;
        params = params-names (put_params v k 0 us) k (length us) (sym ar) few ∙ params-written us v k 0 (rw (length-sets w (defs_at + k * row_size) first-words) (omega arith)) f;
      }

-- ── all heads ──
-- at most four parameters each
abbrev pub FewParams : List Def → Type 0
FewParams ds = Each (λ d. length (params d) ≤ 4) ds

-- definitions from number k on, the body of the first at i
abbrev pub HeadsStand : List ℕ → List Def → ℕ → ℕ → Type 0
HeadsStand w [] k i = Unit {0}
HeadsStand w (define x us p ∷ ds) k i = HeadStands w x us k i × HeadsStand w ds (k + 1) (i - size_p p)

-- words 8 to 775 are the same
abbrev pub Between : List ℕ → List ℕ → Type 0
Between w v = (o : ℕ) → 8 ≤ o → o < locs_at → word v o ≡ word w o

pub heads-kept : (ds : List Def) (w v : List ℕ) (k i : ℕ) → FewParams ds → k + length ds ≤ 32 → Between w v → HeadsStand w ds k i → HeadsStand v ds k i
heads-kept [] w v k i few h e s = tt
heads-kept (define x us p ∷ ds) w v k i few h e s =
    (head-kept w v x us k i few.0 (λ o a b. e o (omega arith) (omega arith)) s.0, heads-kept ds w v (k + 1) (i - size_p p) few.1 (omega arith) e s.1)

pub heads-long : (ds : List Def) (w : List ℕ) (k i : ℕ) → length (heads ds k i w) ≡ length w
unfolding heads
heads-long [] w k i = refl
heads-long (define x us p ∷ ds) w k i = heads-long ds _ (k + 1) (i - size_p p) ∙ head-long w k i x us

pub heads-under : (ds : List Def) (w : List ℕ) (k i o : ℕ) → o < defs_at + k * row_size → word (heads ds k i w) o ≡ word w o
unfolding heads
heads-under [] w k i o h = refl
heads-under (define x us p ∷ ds) w k i o h = heads-under ds _ (k + 1) (i - size_p p) o (omega arith) ∙ head-under w k i x us o h

pub heads-past : (ds : List Def) (w : List ℕ) (k i o : ℕ) → FewParams ds → defs_at + (k + length ds) * row_size ≤ o → word (heads ds k i w) o ≡ word w o
unfolding heads
heads-past [] w k i o few h = refl
heads-past (define x us p ∷ ds) w k i o few h = heads-past ds _ (k + 1) (i - size_p p) o few.1 (omega arith) ∙ head-past w k i x us few.0 o (omega arith)

pub heads-stand : (ds : List Def) (w : List ℕ) (k i : ℕ) → length w ≡ script_words → k + length ds ≤ 32 → FewParams ds → Each WellDef ds → HeadsStand (heads ds k i w) ds k i
unfolding heads
heads-stand [] w k i long h few e = tt
heads-stand (define x us p ∷ ds) w k i long h few e =
    let v : List ℕ = put_head w k i x us in (
      head-kept v (heads ds (k + 1) (i - size_p p) v) x us k i few.0 (λ o a b. heads-under ds v (k + 1) (i - size_p p) o (omega arith))
          (head-stands w k i x us long (omega arith) few.0 e.0.0 e.0.1),
      heads-stand ds v (k + 1) (i - size_p p) (head-long w k i x us ∙ long) (omega arith) few.1 e.1,
    )
