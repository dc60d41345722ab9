-- The components of one network matched one by one with the unused ones of another.
-- By induction on the marks: the first unused component that is equal is the one that `without` leaves out.
use Prim.Native.Nat.{ℕ, zero, suc, ◌+◌, ◌-◌, ◌≤◌, ◌<◌}
use native.Mathlib.Omega.{arith}
use mathlib.Core.List.{List, [], ◌∷◌, map}
use mathlib.Core.Bool.{Bool, true, false, cond, not, ◌&&◌, false≢true}
use mathlib.Core.Path.{◌≡◌, refl, ap, sym, ◌∙◌}
use lib.ListN.{length, get_or, set, drop, replicate, length-map, length-set, drop_of_length-le}
use lib.Dec.{eqb, ltb}
use lib.Seq.{get_or-set_same, get_or-set_other}
use borrow.Author.Tests.{eqb-true, eqb-false, ltb-true, ltb-false}
use Rattle.terms.specs.Terms.{Component}
use Rattle.terms.specs.Rules.{some}
use Rattle.terms.specs.Same.{equal, without, reordered}
use Rattle.terms.proofs.Mixed.{perm-long}
use Rattle.terms.proofs.Same.{reordered-perm}
use Rattle.table.specs.declared.Comp.{Comp}
use Rattle.table.specs.declared.State.{State}
use Rattle.table.specs.Meaning.{comp_in, means, comps_of, net_of, no_comp}
use Rattle.table.proofs.InUse.{comps-length, in_use, comp-at}
use Rattle.calls_same.specs.Unused.{unused, is_match, raised_to}

-- ── how many ──
reordered-long : (cs es : List Component) → reordered cs es ≡ true → length cs ≡ length es
reordered-long cs es e = perm-long (reordered-perm cs es e)

pub uneven : (cs es : List Component) → (length cs ≡ length es → ⊥) → false ≡ reordered cs es
uneven cs es h = go (reordered cs es) refl
  where
    go : (b : Bool) → reordered cs es ≡ b → false ≡ b
    go true e = absurd (h (reordered-long cs es e))
    go false e = refl

-- ── the unused ones ──
module _ {A : Type 0} where
  pub unused-all : (n : ℕ) (cs : List A) → length cs ≤ n → unused (replicate n false) cs ≡ cs
  unfolding unused
  unused-all zero [] h = refl
  unused-all zero (c ∷ cs) h = absurd (omega arith)
  unused-all (suc n) [] h = refl
  unused-all (suc n) (c ∷ cs) h = ap (◌∷◌ c) (unused-all n cs (omega arith))

  pub unused-fewer : (us : List Bool) (cs : List A) (p : ℕ) → p < length us → p < length cs → get_or us p false ≡ false
      → length (unused us cs) ≡ suc (length (unused (set us p true) cs))
  unfolding unused
  unused-fewer [] cs p h k e = absurd (omega arith)
  unused-fewer (u ∷ us) [] p h k e = absurd (omega arith)
  unused-fewer (true ∷ us) (c ∷ cs) zero h k e = absurd (false≢true (sym e))
  unused-fewer (false ∷ us) (c ∷ cs) zero h k e = refl
  unused-fewer (true ∷ us) (c ∷ cs) (suc p) h k e = unused-fewer us cs p (omega arith) (omega arith) e
  unused-fewer (false ∷ us) (c ∷ cs) (suc p) h k e = ap suc (unused-fewer us cs p (omega arith) (omega arith) e)

module _ {A : Type 0} (f : A → Component) (d : A) (x : Component) where
  -- the unused ones before the position n are not equal to x
  abbrev pub Apart : List Bool → List A → ℕ → Type 0
  Apart us cs n = (m : ℕ) → m < n → get_or us m false ≡ false → equal x (f (get_or cs m d)) ≡ false

  later : (u : Bool) (us : List Bool) (c : A) (cs : List A) (n : ℕ) → Apart (u ∷ us) (c ∷ cs) (suc n) → Apart us cs n
  later u us c cs n h m l e = h (suc m) (omega arith) e

  some-apart : (us : List Bool) (cs : List A) → Apart us cs (length cs) → some (equal x) (map f (unused us cs)) ≡ false
  unfolding unused some
  some-apart [] cs h = refl
  some-apart (u ∷ us) [] h = refl
  some-apart (true ∷ us) (c ∷ cs) h = some-apart us cs (later true us c cs _ h)
  some-apart (false ∷ us) (c ∷ cs) h = rw (h 0 (omega arith) refl) (some-apart us cs (later false us c cs _ h))

  record Found (us : List Bool) (cs : List A) (p : ℕ) : Type 0 where
    there : some (equal x) (map f (unused us cs)) ≡ true
    rest : without x (map f (unused us cs)) ≡ map f (unused (set us p true) cs)

  found : (us : List Bool) (cs : List A) (p : ℕ) → p < length us → p < length cs → get_or us p false ≡ false → equal x (f (get_or cs p d)) ≡ true → Apart us cs p → Found us cs p
  unfolding unused some without
  found [] cs p h k e q a = absurd (omega arith)
  found (u ∷ us) [] p h k e q a = absurd (omega arith)
  found (true ∷ us) (c ∷ cs) zero h k e q a = absurd (false≢true (sym e))
  found (false ∷ us) (c ∷ cs) zero h k e q a = record { there = rw q; rest = rw q }
  found (true ∷ us) (c ∷ cs) (suc p) h k e q a =
      let r = found us cs p (omega arith) (omega arith) e q (later true us c cs p a) in
      record { there = r.there; rest = r.rest }
  found (false ∷ us) (c ∷ cs) (suc p) h k e q a =
      let r = found us cs p (omega arith) (omega arith) e q (later false us c cs p a) in
      record { there = rw (a 0 (omega arith) refl) r.there; rest = rw (a 0 (omega arith) refl) (ap (◌∷◌ (f c)) r.rest) }

  -- a component that is found takes its place out of the unused ones
  pub matched : (xs : List Component) (us : List Bool) (cs : List A) (p : ℕ) → p < length us → p < length cs → get_or us p false ≡ false → equal x (f (get_or cs p d)) ≡ true → Apart us cs p
      → reordered xs (map f (unused (set us p true) cs)) ≡ reordered (x ∷ xs) (map f (unused us cs))
  unfolding reordered
  matched xs us cs p h k e q a = let r = found us cs p h k e q a in rw (r.there, r.rest)

  -- and one that is not found has no equal among them
  pub unmatched : (xs : List Component) (us : List Bool) (cs : List A) → Apart us cs (length cs) → false ≡ reordered (x ∷ xs) (map f (unused us cs))
  unfolding reordered
  unmatched xs us cs a = rw (some-apart us cs a)

pub none_left : {A : Type 0} (f : A → Component) (us : List Bool) (cs : List A) → length (unused us cs) ≡ 0 → true ≡ reordered [] (map f (unused us cs))
unfolding reordered
none_left {A} f us cs = go (unused us cs)
  where
    go : (ds : List A) → length ds ≡ 0 → true ≡ reordered [] (map f ds)
    go [] e = refl
    go (d ∷ ds) e = absurd (omega arith)

-- ── the positions that are all used ──
abbrev pub Used : List Bool → ℕ → Type 0
Used us low = (m : ℕ) → m < low → get_or us m false ≡ true

pub used-more : (us : List Bool) (low p : ℕ) → p < length us → Used us low → Used (set us p true) (raised_to low p)
unfolding raised_to
used-more us low p h u m = by (eqb p low) refl (eqb m p) refl
  where
    by : (a : Bool) → eqb p low ≡ a → (b : Bool) → eqb m p ≡ b → m < cond a (p + 1) low → get_or (set us p true) m false ≡ true
    by a q true e l = ap (λ z. get_or (set us p true) z false) (eqb-true m p e) ∙ get_or-set_same us p true false h
    by true q false e l = get_or-set_other us p m true false (eqb-false m p e) ∙ u m (below m (eqb-false m p e) (eqb-true p low q) l)
      where
        below : (i : ℕ) → (i ≡ p → ⊥) → p ≡ low → i < p + 1 → i < low
        below i d z b = omega (arith, d)
    by false q false e l = get_or-set_other us p m true false (eqb-false m p e) ∙ u m l

pub raised-small : (low p n : ℕ) → low ≤ n → p < n → raised_to low p ≤ n
unfolding raised_to
raised-small low p n h l = by (eqb p low)
  where
    by : (a : Bool) → cond a (p + 1) low ≤ n
    by true = omega arith
    by false = h

-- ── the components of two tables ──
pub net-length : (w : List ℕ) (st : State) → length (net_of w st) ≡ st.n
unfolding net_of
net-length w st = length-map (comps_of st) (means w) ∙ comps-length st

-- the unused ones before the position n are not equal to c
abbrev pub Unequal : List ℕ → Comp → List ℕ → State → List Bool → ℕ → Type 0
Unequal w c v b us n = (m : ℕ) → m < n → get_or us m false ≡ false → equal (means w c) (means v (comp_in b.c m)) ≡ false

-- what is_match says by yes and by no
pub match-yes : (w : List ℕ) (c : Comp) (v : List ℕ) (b : State) (us : List Bool) (p : ℕ) → is_match w c v b.c us p ≡ true → (get_or us p false ≡ false) × (equal (means w c) (means v (comp_in b.c p)) ≡ true)
unfolding is_match
match-yes w c v b us p = go (get_or us p false)
  where
    go : (u : Bool) → (not u && equal (means w c) (means v (comp_in b.c p))) ≡ true → (u ≡ false) × (equal (means w c) (means v (comp_in b.c p)) ≡ true)
    go true e = absurd (false≢true e)
    go false e = (refl, e)

no-match : (w : List ℕ) (c : Comp) (v : List ℕ) (b : State) (us : List Bool) (m : ℕ) → is_match w c v b.c us m ≡ false → get_or us m false ≡ false → equal (means w c) (means v (comp_in b.c m)) ≡ false
unfolding is_match
no-match w c v b us m q e = rw e at q

pub match-no : (w : List ℕ) (c : Comp) (v : List ℕ) (b : State) (us : List Bool) (low n : ℕ) → Used us low → ((m : ℕ) → low ≤ m → m < n → is_match w c v b.c us m ≡ false) → Unequal w c v b us n
match-no w c v b us low n u none m h e = go (ltb m low) refl
  where
    go : (a : Bool) → ltb m low ≡ a → equal (means w c) (means v (comp_in b.c m)) ≡ false
    go true q = absurd (false≢true (sym e ∙ u m (ltb-true m low q)))
    go false q = no-match w c v b us m (none m (ltb-false m low q) h) e

-- what is left of the first from the position k on, and the unused ones of the second, are the same exactly if all are
pub record Left (w v : List ℕ) (a b : State) (us : List Bool) (k : ℕ) : Type 0 where
  pub marks : length us ≡ 256
  pub many : length (unused us (comps_of b)) ≡ a.n - k
  pub same : reordered (map (means w) (drop k (comps_of a))) (map (means v) (unused us (comps_of b))) ≡ reordered (net_of w a) (net_of v b)

module _ (w v : List ℕ) (a b : State) (even : a.n ≡ b.n) (few : b.n ≤ 256) where
  pub begun : Left w v a b (replicate 256 false) 0
  begun =
      let e = unused-all 256 (comps_of b) (omega (arith, comps-length b)) in
      record {
        marks = refl;
        many = ap length e ∙ omega (arith, comps-length b);
        same = unfold net_of in ap (λ z. reordered (map (means w) (comps_of a)) (map (means v) z)) e;
      }

  in_order : (c : Comp) (us : List Bool) (n : ℕ) → n ≤ b.n → Unequal w c v b us n → Apart (means v) no_comp (means w c) us (comps_of b) n
  in_order c us n h u m l e = rw (in_use b no_comp m (omega arith)) (u m l e)

  next-is : (k : ℕ) → k < a.n → map (means w) (drop k (comps_of a)) ≡ means w (comp_in a.c k) ∷ map (means w) (drop (k + 1) (comps_of a))
  next-is k h = ap (map (means w)) (comp-at a k h)

  module _ (us : List Bool) (k : ℕ) (left : Left w v a b us k) where
    pub step : (p : ℕ) → k < a.n → p < a.n → get_or us p false ≡ false → equal (means w (comp_in a.c k)) (means v (comp_in b.c p)) ≡ true
        → Unequal w (comp_in a.c k) v b us p → Left w v a b (set us p true) (k + 1)
    step p h l e q u =
        let long : p < length (comps_of b) = omega (arith, comps-length b) in
        let f = unused-fewer us (comps_of b) p (omega (arith, left.marks)) long e in
        let r = matched (means v) no_comp (means w (comp_in a.c k)) (map (means w) (drop (k + 1) (comps_of a))) us (comps_of b) p (omega (arith, left.marks)) long e
        (rw (in_use b no_comp p (omega arith)) q) (in_order (comp_in a.c k) us p (omega arith) u) in
        record {
          marks = length-set us p true ∙ left.marks;
          many = omega (arith, left.many);
          same = r ∙ ap (λ z. reordered z (map (means v) (unused us (comps_of b)))) (sym (next-is k h)) ∙ left.same;
        }

    pub stuck : k < a.n → Unequal w (comp_in a.c k) v b us a.n → false ≡ reordered (net_of w a) (net_of v b)
    stuck h u =
        let long : length (comps_of b) ≡ a.n = comps-length b ∙ sym even in
        let apart : Apart (means v) no_comp (means w (comp_in a.c k)) us (comps_of b) (length (comps_of b)) = rw long (in_order (comp_in a.c k) us a.n (omega arith) u) in
        unmatched (means v) no_comp (means w (comp_in a.c k)) (map (means w) (drop (k + 1) (comps_of a))) us (comps_of b) apart
        ∙ ap (λ z. reordered z (map (means v) (unused us (comps_of b)))) (sym (next-is k h)) ∙ left.same

    pub ended : a.n ≤ k → true ≡ reordered (net_of w a) (net_of v b)
    ended h =
        none_left (means v) us (comps_of b) (left.many ∙ omega arith)
        ∙ ap (λ z. reordered (map (means w) z) (map (means v) (unused us (comps_of b)))) (sym (drop_of_length-le (comps_of a) {i = k} (omega (arith, comps-length a))))
        ∙ left.same
