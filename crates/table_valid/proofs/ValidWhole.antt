-- The tests of a script and of a state, from those of their parts.
-- By the definitions; the names of a sort stand at equal distances.
use Rattle.table.proofs.ValidDefs.{params-names}
use Prim.Native.Nat.{ℕ, ◌+◌, ◌≤◌, ◌<◌}
use native.Mathlib.Omega.{arith}
use mathlib.Core.List.{List, [], ◌∷◌}
use mathlib.Core.Bool.{Bool, true, false, ◌&&◌}
use mathlib.Core.Path.{◌≡◌, refl, ap, sym, ◌∙◌}
use lib.Dec.{eqb, leb, ltb}
use lib.ListN.{length}
use borrow.Author.Tests.{leb-true, le-ltb, eq-eqb, eqb-true}
use Rattle.terms.specs.Same.{every}
use Rattle.terms.proofs.Names.{and-inv, and_in}
use Rattle.terms.specs.Letters.{is_name, is_location, is_small, is_identifier, distinct}
use Rattle.table.specs.declared.Comp.{Comp}
use Rattle.table.specs.declared.State.{State}
use Rattle.table_names.specs.declared.Sort.{Sort}
use Rattle.table_names.specs.declared.Sort.TheVariants.{Location, Small, Identifier}
use Rattle.table.specs.Words.{chans_at, locs_at, parts_in, locs_in, chans_in, defs_in, loc_name, chan_name, def_name, ids_at, name_size, row_size}
use Rattle.table.specs.Meaning.{list_from, comp_in, comps_of, no_comp}
use Rattle.table.specs.Valid.{below, script_ok, def_ok, part_ok, timer_ok, sort_ok, mark_ok, wait_ok, comp_ok}
use Rattle.table.specs.Tests.{row_name}
use Rattle.table_names.specs.Tests.{first_of}
use Rattle.table_valid.specs.declared.Sums.{Sums}
use Rattle.table_valid.specs.Tests.{counts_ok, head_fine, Few, nothing}
use Rattle.table.proofs.Tests.{below_at, every-get_or}
use Rattle.table.proofs.ValidLists.{every-all, every-miss, below_all}
use Rattle.table.proofs.InUse.{comps-length, in_use}

-- ── counts ──
pub record Counts (w : List ℕ) : Type 0 where
  pub parts : parts_in w ≤ 4_096
  pub locs : locs_in w ≤ 64
  pub chans : chans_in w ≤ 64
  pub defs : defs_in w ≤ 32

pub counts-hold : (w : List ℕ) → counts_ok w ≡ true → Counts w
unfolding counts_ok
counts-hold w e =
    let p = and-inv (leb (parts_in w) 4_096) _ e in
    let q = and-inv (leb (locs_in w) 64) _ p.1 in
    let r = and-inv (leb (chans_in w) 64) _ q.1 in
    let s = and-inv (leb (defs_in w) 32) _ r.1 in
    record {
      parts = leb-true (parts_in w) 4_096 p.0;
      locs = leb-true (locs_in w) 64 q.0;
      chans = leb-true (chans_in w) 64 r.0;
      defs = leb-true (defs_in w) 32 s.0;
    }

-- ── names ──
abbrev rows : List ℕ → Sort → ℕ → ℕ → ℕ → Bool
rows w f o s n = every (is_name (first_of f)) (list_from 0 n (row_name w o s)) && distinct (list_from 0 n (row_name w o s))

module _ (w : List ℕ) (n : ℕ) where
  pub locations-are : rows w Location locs_at name_size n ≡ sort_ok is_location (list_from 0 n (loc_name w))
  unfolding sort_ok is_location loc_name row_name
  locations-are = refl

  pub channels-are : rows w Small chans_at name_size n ≡ sort_ok is_small (list_from 0 n (chan_name w))
  unfolding sort_ok is_small chan_name row_name
  channels-are = refl

  pub identifiers-are : rows w Identifier ids_at row_size n ≡ sort_ok is_identifier (list_from 0 n (def_name w))
  unfolding sort_ok is_identifier def_name row_name
  identifiers-are = refl

-- ── components ──
module _ (st : State) (f : Comp → Bool) where
  pub comps-all : ((k : ℕ) → k < st.n → f (comp_in st.c k) ≡ true) → every f (comps_of st) ≡ true
  comps-all e = every-all f no_comp (comps_of st) (λ k b. let c : k < st.n = omega (arith, comps-length st) in ap f (in_use st no_comp k c) ∙ e k c)

  pub comps-miss : (k : ℕ) → k < st.n → f (comp_in st.c k) ≡ false → every f (comps_of st) ≡ false
  comps-miss k b e = every-miss f no_comp (comps_of st) k (omega (arith, comps-length st)) (ap f (in_use st no_comp k b) ∙ e)

same_truth : (p q : Bool) → (p ≡ true → q ≡ true) → (q ≡ true → p ≡ true) → p ≡ q
same_truth true q f g = sym (f refl)
same_truth false true f g = g refl
same_truth false false f g = refl

-- a component's test is that of its head and that of its values
comp-is : (w : List ℕ) (x : Comp) → comp_ok w x ≡ (head_fine w x && (eqb (length x.vals) 8 && every (λ v. ltb v (locs_in w)) x.vals))
unfolding comp_ok head_fine
comp-is w x = go (ltb x.loc (locs_in w)) (mark_ok w x.mark) (ltb x.place (parts_in w)) (timer_ok x.timer) (wait_ok x.wait) _
  where
    go : (a b c d e f : Bool) → (a && (b && (c && (d && (e && f))))) ≡ ((a && (b && (c && (d && e)))) && f)
    go false b c d e f = refl
    go true false c d e f = refl
    go true true false d e f = refl
    go true true true false e f = refl
    go true true true true e f = refl

pub comp-no-head : (w : List ℕ) (x : Comp) → head_fine w x ≡ false → comp_ok w x ≡ false
comp-no-head w x h = comp-is w x ∙ rw h

-- without locations there is none
pub comp-nowhere : (w : List ℕ) (x : Comp) → locs_in w ≡ 0 → comp_ok w x ≡ false
unfolding comp_ok
comp-nowhere w x e = rw (le-ltb x.loc (locs_in w) (omega (arith, e)))

comp-vals : (w c : List ℕ) (k : ℕ) → head_fine w (comp_in c k) ≡ true → comp_ok w (comp_in c k) ≡ every (λ v. ltb v (locs_in w)) (comp_in c k).vals
unfolding comp_in
comp-vals w c k h = comp-is w (comp_in c k) ∙ rw h

pub comps-are : (w : List ℕ) (st : State) → ((k : ℕ) → k < st.n → head_fine w (comp_in st.c k) ≡ true)
    → every (comp_ok w) (comps_of st) ≡ below st.n (λ k. every (λ v. ltb v (locs_in w)) (comp_in st.c k).vals)
comps-are w st h =
    same_truth _ _
    (λ e. below_all (λ k. every (λ v. ltb v (locs_in w)) (comp_in st.c k).vals) st.n
    (λ k b. sym (comp-vals w st.c k (h k b)) ∙ ap (comp_ok w) (sym (in_use st no_comp k b)) ∙ every-get_or (comp_ok w) (comps_of st) no_comp k e (omega (arith, comps-length st))))
    (λ e. comps-all st (comp_ok w) (λ k b. comp-vals w st.c k (h k b) ∙ below_at st.n _ e k b))

-- ── values counted ──
pub few-more : {k h : ℕ} {s : Sums} → Few k s → k ≤ h → Few h s
few-more f b = record { a = omega (arith, f.a); b = omega (arith, f.b); c = omega (arith, f.c); d = omega (arith, f.d) }

pub sum-none : (s p q : ℕ) → eqb (s + p + q) 0 ≡ (eqb s 0 && (eqb p 0 && eqb q 0))
sum-none s p q =
    same_truth _ _
    (λ e. let z = eqb-true (s + p + q) 0 e in and_in _ _ (eq-eqb s 0 (omega (arith, z))) (and_in _ _ (eq-eqb p 0 (omega (arith, z))) (eq-eqb q 0 (omega (arith, z)))))
    (λ e.
    let a = and-inv (eqb s 0) _ e in
    let b = and-inv (eqb p 0) _ a.1 in
    eq-eqb (s + p + q) 0 (omega (arith, eqb-true s 0 a.0, eqb-true p 0 b.0, eqb-true q 0 b.1)))

-- a sum that stayed 0, and both values that it went by
record Stayed (s : ℕ) (x y : Bool) : Type 0 where
  sum : s ≡ 0
  first : x ≡ true
  second : y ≡ true

stayed : (r s : ℕ) (x y : Bool) → eqb r 0 ≡ (eqb s 0 && (x && y)) → r ≡ 0 → Stayed s x y
stayed r s x y e z =
    let a = and-inv (eqb s 0) _ (sym e ∙ eq-eqb r 0 z) in
    let b = and-inv x y a.1 in
    record { sum = eqb-true s 0 a.0; first = b.0; second = b.1 }

stays : (r s : ℕ) (x y : Bool) → eqb r 0 ≡ (eqb s 0 && (x && y)) → s ≡ 0 → x ≡ true → y ≡ true → r ≡ 0
stays r s x y e z f g = eqb-true r 0 (e ∙ and_in _ _ (eq-eqb s 0 z) (and_in _ _ f g))

pub counted : (l : ℕ) (s r : Sums) (v₀ v₁ v₂ v₃ v₄ v₅ v₆ v₇ : ℕ) → eqb r.a 0 ≡ (eqb s.a 0 && (ltb v₀ l && ltb v₄ l))
    → eqb r.b 0 ≡ (eqb s.b 0 && (ltb v₁ l && ltb v₅ l))
    → eqb r.c 0 ≡ (eqb s.c 0 && (ltb v₂ l && ltb v₆ l))
    → eqb r.d 0 ≡ (eqb s.d 0 && (ltb v₃ l && ltb v₇ l))
    → nothing r ≡ (nothing s && every (λ v. ltb v l) (v₀ ∷ v₁ ∷ v₂ ∷ v₃ ∷ v₄ ∷ v₅ ∷ v₆ ∷ v₇ ∷ []))
unfolding every
counted l s r v₀ v₁ v₂ v₃ v₄ v₅ v₆ v₇ e f g h = same_truth _ _ there back
  where
    there : nothing r ≡ true → (nothing s && every (λ v. ltb v l) (v₀ ∷ v₁ ∷ v₂ ∷ v₃ ∷ v₄ ∷ v₅ ∷ v₆ ∷ v₇ ∷ [])) ≡ true
    there t =
        let z = eqb-true (r.a + r.b + r.c + r.d) 0 t in
        let a = stayed r.a s.a (ltb v₀ l) (ltb v₄ l) e (omega (arith, z)) in
        let b = stayed r.b s.b (ltb v₁ l) (ltb v₅ l) f (omega (arith, z)) in
        let c = stayed r.c s.c (ltb v₂ l) (ltb v₆ l) g (omega (arith, z)) in
        let d = stayed r.d s.d (ltb v₃ l) (ltb v₇ l) h (omega (arith, z)) in
        and_in _ _ (eq-eqb (s.a + s.b + s.c + s.d) 0 (omega (arith, a.sum, b.sum, c.sum, d.sum)))
        (rw (a.first, b.first, c.first, d.first, a.second, b.second, c.second, d.second))

    back : (nothing s && every (λ v. ltb v l) (v₀ ∷ v₁ ∷ v₂ ∷ v₃ ∷ v₄ ∷ v₅ ∷ v₆ ∷ v₇ ∷ [])) ≡ true → nothing r ≡ true
    back t =
        let n = and-inv (nothing s) _ t in
        let z = eqb-true (s.a + s.b + s.c + s.d) 0 n.0 in
        let p₀ = and-inv (ltb v₀ l) _ n.1 in
        let p₁ = and-inv (ltb v₁ l) _ p₀.1 in
        let p₂ = and-inv (ltb v₂ l) _ p₁.1 in
        let p₃ = and-inv (ltb v₃ l) _ p₂.1 in
        let p₄ = and-inv (ltb v₄ l) _ p₃.1 in
        let p₅ = and-inv (ltb v₅ l) _ p₄.1 in
        let p₆ = and-inv (ltb v₆ l) _ p₅.1 in
        let p₇ = and-inv (ltb v₇ l) true p₆.1 in
        let a = stays r.a s.a (ltb v₀ l) (ltb v₄ l) e (omega (arith, z)) p₀.0 p₄.0 in
        let b = stays r.b s.b (ltb v₁ l) (ltb v₅ l) f (omega (arith, z)) p₁.0 p₅.0 in
        let c = stays r.c s.c (ltb v₂ l) (ltb v₆ l) g (omega (arith, z)) p₂.0 p₆.0 in
        let d = stays r.d s.d (ltb v₃ l) (ltb v₇ l) h (omega (arith, z)) p₃.0 p₇.0 in
        eq-eqb (r.a + r.b + r.c + r.d) 0 (omega (arith, a, b, c, d))

-- ── for the check to find ──
-- without locations no component passes
pub nowhere : (w : List ℕ) (c : List ℕ) (n : ℕ) → 0 < n → locs_in w ≡ 0 → every (comp_ok w) (comps_of (record { c = c; n = n })) ≡ false
nowhere w c n h e = comps-miss (record { c = c; n = n }) (comp_ok w) 0 h (comp-nowhere w _ e)

pub ruleset state_laws = (nowhere)

pub ruleset def_laws = (params-names)

pub script-is : (w : List ℕ)
    → script_ok w ≡ (counts_ok w && (sort_ok is_location (list_from 0 (locs_in w) (loc_name w))
    && (sort_ok is_small (list_from 0 (chans_in w) (chan_name w))
    && (sort_ok is_identifier (list_from 0 (defs_in w) (def_name w)) && (below (defs_in w) (def_ok w) && below (parts_in w) (part_ok w))))))
unfolding script_ok counts_ok
script-is w = refl

module _ (w : List ℕ) (e : counts_ok w ≡ true) where
  pub few-parts : parts_in w ≤ 4_096
  few-parts = (counts-hold w e).parts

  pub few-locations : locs_in w ≤ 64
  few-locations = (counts-hold w e).locs

  pub few-channels : chans_in w ≤ 64
  few-channels = (counts-hold w e).chans

  pub few-definitions : defs_in w ≤ 32
  few-definitions = (counts-hold w e).defs

pub ruleset script_laws = (script-is, few-parts, few-locations, few-channels, few-definitions, locations-are, channels-are, identifiers-are)
