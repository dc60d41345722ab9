-- What may stand for the names in scope at a place: a location, or the variable itself if it is bound around what is written. An input hides its name.
-- By going over the names in scope; a value's word is a location's number or the slot of one of these names.
use Prim.Native.Nat.{ℕ, zero, suc, ◌-◌, ◌≤◌, ◌<◌}
use native.Mathlib.Omega.{arith}
use mathlib.Core.List.{List, [], ◌∷◌, ◌++◌, map}
use mathlib.Core.Bool.{Bool, true, false, cond}
use mathlib.Core.Path.{◌≡◌, refl, sym, ◌∙◌}
use lib.Dec.{ltb}
use lib.ListN.{length, get_or}
use borrow.Author.Tests.{ltb-true, lt-ltb}
use Rattle.terms.specs.Names.{Name, same_name}
use Rattle.terms.specs.Same.{every}
use Rattle.terms.specs.Terms.{Value}
use Rattle.terms.specs.Terms.Value.{loc, var}
use Rattle.terms.specs.Substitution.{Held, Env, env, hide, held, sub_v, sub_vs}
use Rattle.terms.specs.Substitution.Held.{unset, is}
use Rattle.terms.proofs.Names.{and-inv, and_in, name-eq, name-refl}
use Rattle.terms.proofs.Substitution.{empty}
use Rattle.terms.specs.Letters.{is_location, is_small, member}
use Rattle.text.specs.WellFormed.{Is, Each, WellValue}
use Rattle.text.specs.Questions.{into, firsts, bound_in}
use Rattle.text.proofs.Gives.{each_append}
use Rattle.table.specs.Words.{locs_in, name_at, loc_name, own_at, bound_at, scope_at, names_at}
use Rattle.table.specs.Meaning.{value_of, values_of}
use Rattle.table.specs.Valid.{index, slot_ok, ref_ok, entered, script_ok}
use Rattle.table.proofs.Tests.{script-fine, every-name}
use Rattle.table.proofs.Fires.{map-append}
use Rattle.text_build.proofs.Numbers.{member-index}
use Rattle.text_build.proofs.Enlist.{index-into, came-within}
use Rattle.text_build.proofs.Grows.{into-longer}

-- ── lists ──
pub each-with : {A : Type 0} {P Q : A → Type 0} → ((x : A) → P x → Q x) → (xs : List A) → Each P xs → Each Q xs
each-with f [] p = tt
each-with f (x ∷ xs) p = (f x p.0, each-with f xs p.1)

pub each_both : {A : Type 0} (P Q : A → Type 0) (xs : List A) → Each P xs → Each Q xs → Each (λ x. P x × Q x) xs
each_both P Q [] p q = tt
each_both P Q (x ∷ xs) p q = ((p.0, q.0), each_both P Q xs p.1 q.1)

each-get_or : {A : Type 0} (P : A → Type 0) (xs : List A) (k : ℕ) (d : A) → Each P xs → k < length xs → P (get_or xs k d)
each-get_or P [] k d p h = absurd (omega arith)
each-get_or P (x ∷ xs) zero d p h = p.0
each-get_or P (x ∷ xs) (suc k) d p h = each-get_or P xs k d p.1 (omega arith)

pub each-every : {A : Type 0} (f : A → Bool) (xs : List A) → every f xs ≡ true → Each (λ x. f x ≡ true) xs
unfolding every
each-every f [] e = tt
each-every f (x ∷ xs) e = let r = and-inv (f x) _ e in (r.0, each-every f xs r.1)

-- ── names that were entered ──
pub member-came : (ws : List Name) (y : Name) → member y (into ws y) ≡ true
member-came ws y = member-index (into ws y) y ∙ lt-ltb _ _ (came-within ws y)

pub member-stays : (ws : List Name) (y x : Name) → member x ws ≡ true → member x (into ws y) ≡ true
member-stays ws y x e =
    let h = ltb-true (index ws x) (length ws) (sym (member-index ws x) ∙ e) in
    member-index (into ws y) x ∙ lt-ltb (index (into ws y) x) (length (into ws y)) (omega (arith, index-into ws y x h, into-longer ws y))

member-firsts : (vs ws : List Name) (x : Name) → member x ws ≡ true → member x (firsts ws vs) ≡ true
unfolding firsts
member-firsts [] ws x e = e
member-firsts (v ∷ vs) ws x e = member-firsts vs (into ws v) x (member-stays ws v x e)

pub all_firsts : (vs ws : List Name) → Each (λ x. member x (firsts ws vs) ≡ true) vs
unfolding firsts
all_firsts [] ws = tt
all_firsts (v ∷ vs) ws = (member-firsts vs (into ws v) v (member-came ws v), all_firsts vs (into ws v))

-- ── what stands for a name ──
-- what is put for x, where the names sc are bound around it
abbrev pub Filled : List Name → Name → Held → Type 0
Filled sc x unset = Is is_small x × (member x sc ≡ true)
Filled sc x (is l) = Is is_location l

abbrev pub Covers : List Name → Env → List Name → Type 0
Covers sc e ys = Each (λ y. Filled sc y (e y)) ys

-- a value that can be written where the names sc are bound
abbrev pub Fit : List Name → Value → Type 0
Fit sc v = WellValue v × (bound_in sc v ≡ true)

filled-fit : (sc : List Name) (x : Name) (h : Held) → Filled sc x h → Fit sc (held h x)
unfolding held
filled-fit sc x unset f = f
filled-fit sc x (is l) f = (f, refl)

filled_more : (sc : List Name) (y x : Name) (h : Held) → Filled sc x h → Filled (into sc y) x h
filled_more sc y x unset f = (f.0, member-stays sc y x f.1)
filled_more sc y x (is l) f = f

-- inside an input that binds y
filled-hide : (sc : List Name) (e : Env) (y : Name) → Is is_small y → (x : Name) → Filled sc x (e x) → Filled (into sc y) x (hide y e x)
unfolding hide
filled-hide sc e y s x f = go (same_name y x) refl
  where
    go : (b : Bool) → same_name y x ≡ b → Filled (into sc y) x (cond b unset (e x))
    go true q = let m : x ≡ y = sym (name-eq y x q) in rw m (s, member-came sc y)
    go false q = filled_more sc y x (e x) f

filled-own : (sc : List Name) (e : Env) (y : Name) → Is is_small y → Filled (into sc y) y (hide y e y)
unfolding hide
filled-own sc e y s = rw (name-refl y) (s, member-came sc y)

-- the scope of the P of the input at i
pub covers-entered : (w : List ℕ) (i k : ℕ) (sc : List Name) (e : Env) → Is is_small (bound_at w i) → Covers sc e (names_at w i)
    → Covers (into sc (bound_at w i)) (hide (bound_at w i) e) (map (name_at w) (entered w i k))
unfolding entered names_at
covers-entered w i k sc e s c = go (ltb k (length (scope_at w i)))
  where
    old : Covers (into sc (bound_at w i)) (hide (bound_at w i) e) (map (name_at w) (scope_at w i))
    old = each-with (filled-hide sc e (bound_at w i) s) (map (name_at w) (scope_at w i)) c

    own : Filled (into sc (bound_at w i)) (name_at w (own_at i)) (hide (bound_at w i) e (name_at w (own_at i)))
    own = unfold bound_at in filled-own sc e (name_at w (own_at i)) s

    go : (b : Bool) → Covers (into sc (bound_at w i)) (hide (bound_at w i) e) (map (name_at w) (cond b (scope_at w i) (scope_at w i ++ (own_at i ∷ []))))
    go true = old
    go false = rw (map-append (name_at w) (scope_at w i) (own_at i ∷ [])) (each_append _ (map (name_at w) (scope_at w i)) (name_at w (own_at i) ∷ []) old (own, tt))

-- ── no values, and a location for each name ──
-- a definition's parameters
pub covers-none : (us : List Name) → every is_small us ≡ true → Covers (firsts [] us) empty us
unfolding empty
covers-none us e = each_both (Is is_small) (λ x. member x (firsts [] us) ≡ true) us (each-every is_small us e) (all_firsts us [])

abbrev Located : Held → Type 0
Located unset = ⊥
Located (is l) = Is is_location l

located-filled : (x : Name) (h : Held) → Located h → Filled [] x h
located-filled x unset f = absurd f
located-filled x (is l) f = f

env-located : (ys ls : List Name) → Each (Is is_location) ls → length ys ≤ length ls → Each (λ x. Located (env ys ls x)) ys
unfolding env
env-located [] ls p h = tt
env-located (y ∷ ys) [] p h = absurd (omega arith)
env-located (y ∷ ys) (l ∷ ls) p h = (rw (name-refl y) p.0, each-with behind ys (env-located ys ls p.1 (omega arith)))
  where
    behind : (x : Name) → Located (env ys ls x) → Located (cond (same_name y x) (is l) (env ys ls x))
    behind x f = go (same_name y x)
      where
        go : (b : Bool) → Located (cond b (is l) (env ys ls x))
        go true = p.0
        go false = f

pub covers-all : (ys ls : List Name) → Each (Is is_location) ls → length ys ≤ length ls → Covers [] (env ys ls) ys
covers-all ys ls p h = each-with (λ x. located-filled x (env ys ls x)) ys (env-located ys ls p h)

-- ── values ──
module _ (w : List ℕ) (good : script_ok w ≡ true) where
  pub loc-form : (l : ℕ) → l < locs_in w → Is is_location (loc_name w l)
  loc-form l h = every-name is_location (loc_name w) (locs_in w) (script-fine w good).loc-names l h

  pub loc-forms : (vs : List ℕ) → every (λ v. ltb v (locs_in w)) vs ≡ true → Each (Is is_location) (map (loc_name w) vs)
  unfolding every
  loc-forms [] e = tt
  loc-forms (v ∷ vs) e = let r = and-inv (ltb v (locs_in w)) _ e in (loc-form v (ltb-true _ _ r.0), loc-forms vs r.1)

  module _ (sc : List Name) (e : Env) (ys : List Name) (c : Covers sc e ys) where
    pub value-fit : (v : ℕ) → ref_ok w ys v ≡ true → Fit sc (sub_v e (value_of w ys v))
    unfolding ref_ok slot_ok value_of sub_v
    value-fit v o = go (ltb v 64) o
      where
        go : (b : Bool) → cond b (ltb v (locs_in w)) (slot_ok ys (v - 64)) ≡ true → Fit sc (sub_v e (cond b (loc (loc_name w v)) (var (get_or ys (v - 64) []))))
        go true o = (loc-form v (ltb-true _ _ o), refl)
        go false o = filled-fit sc _ _ (each-get_or (λ y. Filled sc y (e y)) ys (v - 64) [] c (ltb-true _ _ (and-inv (ltb (v - 64) (length ys)) _ o).0))

    pub values-fit : (vs : List ℕ) → every (ref_ok w ys) vs ≡ true → Each WellValue (sub_vs e (values_of w ys vs)) × (every (bound_in sc) (sub_vs e (values_of w ys vs)) ≡ true)
    unfolding every sub_vs values_of
    values-fit [] o = (tt, refl)
    values-fit (v ∷ vs) o =
        let r = and-inv (ref_ok w ys v) _ o in
        let a = value-fit v r.0 in
        let b = values-fit vs r.1 in
        ((a.0, b.0), and_in _ _ a.1 b.1)
