-- The bodies of all definitions, put one after the other: each stands at its place in the end, and their names are numbered by first place.
-- By induction on the definitions: a body put at its place (text_build's `puts`) goes on standing while those below it are put.
use Prim.Native.Nat.{ℕ, suc, ◌+◌, ◌-◌, ◌≤◌, ◌<◌}
use native.Mathlib.Omega.{arith}
use mathlib.Core.List.{List, [], ◌∷◌, ◌++◌, flat_map}
use mathlib.Core.Path.{◌≡◌, refl}
use lib.ListN.{length}
use Rattle.terms.specs.Names.{Name}
use Rattle.terms.specs.Terms.{Process, Def}
use Rattle.terms.specs.Terms.Def.{define}
use Rattle.text.specs.WellFormed.{Each, WellDef}
use Rattle.text.specs.Questions.{Place, firsts, def_places, locations_at, channels_at}
use Rattle.table.specs.Words.{word}
use Rattle.table.specs.Size.{size_p}
use Rattle.text_build.specs.Rows.{scope_names}
use Rattle.text_build.specs.Growth.{Making}
use Rattle.text_build.specs.Put.{offsets, put}
use Rattle.text_build.proofs.Places.{size_p-some}
use Rattle.text_build.proofs.Numbering.{flat_append, Numbered, numbered-then}
use Rattle.text_build.proofs.Puts.{put_back, puts}
use Rattle.text_build.proofs.FirstPlaces.{first}
use Rattle.text_tree.specs.Pass.{param_scope, bodies}
use Rattle.text_tree.proofs.Whole.{DefStands, DefsStand}
use Rattle.text_tree.proofs.Sizes.{size_defs}
use Rattle.text_tree.proofs.Heads.{HeadStands, head-kept, FewParams, HeadsStand, heads-kept}
use Rattle.text_tree.proofs.Params.{param-scope, param-eight, param-settled, param-same, among-within}
use Rattle.text_tree.proofs.Timers.{Timely, put-timely}
use Rattle.text_tree.proofs.Went.{Went, went-none, went_then, went-grew, def-on}

-- the names of places, in order
abbrev pub NumberedAt : List ℕ → List ℕ → List Place → Type 0
NumberedAt w v xs = Numbered w v (flat_map locations_at xs) (flat_map channels_at xs)

pub numbered-places : (w v u : List ℕ) (xs ys : List Place) → NumberedAt w v xs → NumberedAt v u ys → NumberedAt w u (xs ++ ys)
numbered-places w v u xs ys a b = rw (flat_append locations_at xs ys, flat_append channels_at xs ys) (numbered-then a b)

pub bodies-back : (ds : List Def) (k i : ℕ) (w : List ℕ) → word (bodies ds k i w) 4 ≡ 0 → word w 4 ≡ 0
unfolding bodies
bodies-back [] k i w e = e
bodies-back (define x us p ∷ ds) k i w e = put_back p i (param_scope w k) w (bodies-back ds (k + 1) (i - size_p p) _ e)

-- ── one body ──
module _ (x : Name) (us : List Name) (p : Process) (k i : ℕ) (w : List ℕ) (m : Making w) (c : k < 32) (few : length us ≤ 4) (f : WellDef (define x us p))
    (n : size_p p ≤ suc i) (t : i < 4_096) (h : HeadStands w x us k i) (z : word (put p i (param_scope w k) w) 4 ≡ 0) where
  abbrev after : List ℕ
  after = put p i (param_scope w k) w

  pub body-went : Went w after (suc i)
  body-went = went-grew (puts p i 1 (param_scope w k) w m (param-eight w x us k i c few h) (param-settled w x us k i c few h) f.2 n t z).grew

  body-stands : DefStands after x us p k i
  body-stands =
      let r = puts p i 1 (param_scope w k) w m (param-eight w x us k i c few h) (param-settled w x us k i c few h) f.2 n t z in
      let hv : HeadStands after x us k i = head-kept w after x us k i few (λ o a b. body-went.between o (omega arith) (omega arith)) h in
      let sv = param-scope after x us k i c few hv in
      let e : param_scope after k ≡ param_scope w k = param-same w x us k i c few h after body-went.between in
      let sn : scope_names after (offsets (param_scope w k)) ≡ firsts [] us = rw e at sv.names in
      record {
        name = hv.name;
        arity = hv.arity;
        body = hv.body;
        params = hv.params;
        scope = sv.names;
        within = among-within (offsets (param_scope after k)) sv.among;
        stands = rw e r.stands;
        listed = rw sn at r.listed;
        room = n;
      }

  pub body-numbered : NumberedAt w after (def_places (define x us p))
  unfolding def_places
  body-numbered = first p i 1 (param_scope w k) w (firsts [] us) m (param-eight w x us k i c few h) (param-settled w x us k i c few h) f.2 n t z

-- ── all bodies, n places being left ──
pub record Bodies (w v : List ℕ) (ds : List Def) (k i n : ℕ) : Type 0 where
  pub went : Went w v n
  pub stand : DefsStand v ds k i
  pub numbered : NumberedAt w v (flat_map def_places ds)
  pub timely : {m : ℕ} → Timely m w → Timely m v

pub bodies-are : (ds : List Def) (k i n : ℕ) (w : List ℕ) → Making w → i ≡ n - 1 → size_defs ds ≤ n → n ≤ 4_096 → k + length ds ≤ 32 → FewParams ds → Each WellDef ds → HeadsStand w ds k i
    → word (bodies ds k i w) 4 ≡ 0
    → Bodies w (bodies ds k i w) ds k i n
unfolding bodies size_defs flat_map firsts
bodies-are [] k i n w m e s t c few f h z = record { went = went-none w n m; stand = tt; numbered = record { locs = refl; chans = refl }; timely = λ a. a }
bodies-are (define x us p ∷ ds) k i n w m e s t c few f h z =
    let r = size_p-some p in
    let b = bodies-back ds (k + 1) (i - size_p p) _ z in
    let g = body-went x us p k i w m (omega arith) few.0 f.0 (omega arith) (omega arith) h.0 b in
    let q = bodies-are ds (k + 1) (i - size_p p) (n - size_p p) _ g.making (omega arith) (omega arith) (omega arith) (omega arith) few.1 f.1
    (heads-kept ds w _ (k + 1) (i - size_p p) few.1 (omega arith) g.between h.1) z in
    record {
      went = went_then n g q.went (omega arith) (omega arith);
      stand = (
        def-on _ _ (n - size_p p) q.went x us p k i (omega arith) (omega arith) few.0 (body-stands x us p k i w m (omega arith) few.0 f.0 (omega arith) (omega arith) h.0 b),
        q.stand,
      );
      numbered = numbered-places w _ _ (def_places (define x us p)) (flat_map def_places ds) (body-numbered x us p k i w m (omega arith) few.0 f.0 (omega arith) (omega arith) h.0 b) q.numbered;
      timely = λ a. q.timely (put-timely p i (param_scope w k) w (param-eight w x us k i (omega arith) few.0 h.0) f.0.2 a);
    }
