-- The first of those who wait on a channel is the partner of the rules, and what happens to them when a component changes.
-- The numbers of those who wait are in the order in which they are served; a component that is no longer ready takes its number out.
use Prim.Native.Nat.{ℕ, zero, suc, ◌+◌, ◌<◌, ◌≤◌}
use native.Mathlib.Omega.{arith}
use mathlib.Core.List.{List, [], ◌∷◌, ◌++◌, map, cons≢nil}
use mathlib.Core.Bool.{Bool, true, false, cond, not, ◌&&◌}
use mathlib.Core.Logic.{inl, inr}
use mathlib.Core.Path.{◌≡◌, refl, sym, ap, subst, ◌∙◌}
use lib.ListN.{length, length-map}
use borrow.Author.Tests.{lt-ltb, ltb-true}
use Rattle.terms.specs.Rules.{at, some}
use Rattle.terms.specs.Rules as R
use Rattle.terms.specs.Rules.Answer.{refused, accepted}
use Rattle.terms.specs.Step.{foremost}
use Rattle.terms.specs.Clock.{rank_of}
use Rattle.terms.proofs.Names.{and-inv}
use Rattle.terms.proofs.Answers.{clash, took}
use Rattle.terms.proofs.Forced.{some-at, some-find}
use Rattle.terms.proofs.Lists.{at-within, seek_is, seek-nothing}
use Rattle.ranks.specs.Ranked.{ranked}
use Rattle.ranks.proofs.Laws.{ranked-out, place-taken, length-ranked}
use Rattle.ranks.proofs.Members.{Has, first-has, first-least}
use Rattle.table.specs.declared.Comp.{Comp}
use Rattle.table.specs.Fire.{ready_at}
use Rattle.calls_wait.specs.Waits.{waits, before_at, partner_at, key_of, spot_of, keys_on, hearers}

-- ── numbers ──
pub spot-key : (k : ℕ) (c : Comp) → k < 256 → spot_of (key_of k c) ≡ k
unfolding spot_of key_of
spot-key k c h = omega arith

-- ── which numbers there are ──
-- a number is that of a component that waits
pub record Waiter (w : List ℕ) (l h k x : ℕ) (cs : List Comp) : Type 0 where
  pub spot : ℕ
  pub comp : Comp
  pub here : at cs spot ≡ accepted comp
  pub waiting : waits w l h comp ≡ true
  pub number : x ≡ key_of (k + spot) comp

key-waits : (w : List ℕ) (l h k x : ℕ) (cs : List Comp) → Has x (keys_on w l h k cs) → Waiter w l h k x cs
unfolding keys_on at
key-waits w l h k x [] e = absurd e
key-waits w l h k x (c ∷ cs) e = go (waits w l h c) refl e (key-waits w l h (suc k) x cs)
  where
    further : Waiter w l h (suc k) x cs → Waiter w l h k x (c ∷ cs)
    further v = record { spot = suc v.spot; comp = v.comp; here = v.here; waiting = v.waiting; number = v.number ∙ ap (λ n. key_of n v.comp) (omega arith) }

    split : waits w l h c ≡ true → Has x (key_of k c ∷ keys_on w l h (suc k) cs) → (Has x (keys_on w l h (suc k) cs) → Waiter w l h (suc k) x cs) → Waiter w l h k x (c ∷ cs)
    split t (inl e) r = record { spot = 0; comp = c; here = refl; waiting = t; number = e ∙ ap (λ n. key_of n c) (omega arith) }
    split t (inr e) r = further (r e)

    go : (b : Bool) → waits w l h c ≡ b → Has x (cond b (key_of k c ∷ keys_on w l h (suc k) cs) (keys_on w l h (suc k) cs)) → (Has x (keys_on w l h (suc k) cs) → Waiter w l h (suc k) x cs) → Waiter w l h k x (c ∷ cs)
    go true t e r = split t e r
    go false t e r = further (r e)

-- and every component that waits has one
waits-key : (w : List ℕ) (l h k : ℕ) (cs : List Comp) (i : ℕ) (c : Comp) → at cs i ≡ accepted c → waits w l h c ≡ true → Has (key_of (k + i) c) (keys_on w l h k cs)
unfolding keys_on at
waits-key w l h k [] i c e t = clash e
waits-key w l h k (x ∷ cs) zero c e t = rw (took e, t) (inl (ap (λ n. key_of n c) (omega arith)))
waits-key w l h k (x ∷ cs) (suc i) c e t =
    let z : k + suc i ≡ suc k + i = omega arith in
    go (waits w l h x) (subst (λ n. Has (key_of n c) (keys_on w l h (suc k) cs)) (sym z) (waits-key w l h (suc k) cs i c e t))
  where
    go : (b : Bool) → Has (key_of (k + suc i) c) (keys_on w l h (suc k) cs) → Has (key_of (k + suc i) c) (cond b (key_of k x ∷ keys_on w l h (suc k) cs) (keys_on w l h (suc k) cs))
    go true r = inr r
    go false r = r

-- the number of a component that waits, and the others, which are left when it is no longer ready
record Out (w : List ℕ) (l h k : ℕ) (cs : List Comp) (i : ℕ) (c b : Comp) : Type 0 where
  before : List ℕ
  behind : List ℕ
  with_it : keys_on w l h k cs ≡ before ++ key_of (k + i) c ∷ behind
  without : keys_on w l h k (R.set cs i b) ≡ before ++ behind

take_out : (w : List ℕ) (l h k : ℕ) (cs : List Comp) (i : ℕ) (c b : Comp) → at cs i ≡ accepted c → waits w l h c ≡ true → ready_at l b ≡ false → Out w l h k cs i c b
unfolding keys_on at R.set
take_out w l h k [] i c b e t g = clash e
take_out w l h k (x ∷ cs) zero c b e t g = record { before = []; behind = keys_on w l h (suc k) cs; with_it = rw (took e, t) (ap (λ n. key_of n c ∷ keys_on w l h (suc k) cs) (omega arith)); without = rw g }
take_out w l h k (x ∷ cs) (suc i) c b e t g = go (waits w l h x) refl (take_out w l h (suc k) cs i c b e t g)
  where
    z : key_of (suc k + i) c ≡ key_of (k + suc i) c
    z = ap (λ n. key_of n c) (omega arith)

    go : (a : Bool) → waits w l h x ≡ a → Out w l h (suc k) cs i c b → Out w l h k (x ∷ cs) (suc i) c b
    go true p o = record {
      before = key_of k x ∷ o.before;
      behind = o.behind;
      with_it = rw p (ap (λ y. key_of k x ∷ y) (o.with_it ∙ ap (λ n. o.before ++ n ∷ o.behind) z));
      without = rw p (ap (λ y. key_of k x ∷ y) o.without);
    }
    go false p o = record { before = o.before; behind = o.behind; with_it = rw p (o.with_it ∙ ap (λ n. o.before ++ n ∷ o.behind) z); without = rw p o.without }

-- ── where the component did not wait on the channel, nobody is missing ──
keys-other : (w : List ℕ) (l h k : ℕ) (cs : List Comp) (i : ℕ) (c b : Comp) → at cs i ≡ accepted c → waits w l h c ≡ false → ready_at l b ≡ false → keys_on w l h k (R.set cs i b) ≡ keys_on w l h k cs
unfolding keys_on at R.set
keys-other w l h k [] i c b e f g = clash e
keys-other w l h k (x ∷ cs) zero c b e f g = rw (g, took e, f)
keys-other w l h k (x ∷ cs) (suc i) c b e f g = ap (λ z. cond (waits w l h x) (key_of k x ∷ z) z) (keys-other w l h (suc k) cs i c b e f g)

pub hearers-other : (w : List ℕ) (l h : ℕ) (cs : List Comp) (i : ℕ) (c b : Comp) → at cs i ≡ accepted c → waits w l h c ≡ false → ready_at l b ≡ false → hearers w l h (R.set cs i b) ≡ hearers w l h cs
unfolding hearers
hearers-other w l h cs i c b e f g = ap (λ xs. map spot_of (ranked xs)) (keys-other w l h 0 cs i c b e f g)

-- ── the first of those who wait ──
module _ (w : List ℕ) (l h : ℕ) (cs : List Comp) (few : length cs ≤ 256) where
  pub record Foremost (q : ℕ) (qs : List ℕ) : Type 0 where
    pub comp : Comp
    pub rest : List ℕ
    pub here : at cs q ≡ accepted comp
    pub waiting : waits w l h comp ≡ true
    pub first : ranked (keys_on w l h 0 cs) ≡ key_of q comp ∷ rest
    pub others : map spot_of rest ≡ qs

  pub foremost-of : (q : ℕ) (qs : List ℕ) → hearers w l h cs ≡ q ∷ qs → Foremost q qs
  unfolding hearers
  foremost-of q qs e = go (ranked (keys_on w l h 0 cs)) refl e
    where
      go : (r : List ℕ) → ranked (keys_on w l h 0 cs) ≡ r → map spot_of r ≡ q ∷ qs → Foremost q qs
      go [] p e = absurd (cons≢nil (sym e))
      go (x ∷ r) p e =
          let v = key-waits w l h 0 x cs (first-has x r (keys_on w l h 0 cs) p) in
          let s : spot_of x ≡ v.spot = ap spot_of v.number ∙ spot-key (0 + v.spot) v.comp (omega (arith, at-within cs v.spot v.comp v.here)) ∙ omega arith in
          let z : spot_of x ≡ q = cc in
          let y : v.spot ≡ q = sym s ∙ z in
          record {
            comp = v.comp;
            rest = r;
            here = ap (at cs) (sym y) ∙ v.here;
            waiting = v.waiting;
            first = p ∙ ap (λ n. n ∷ r) (v.number ∙ ap (λ n. key_of n v.comp) (omega arith));
            others = cc;
          }

  module _ (q : ℕ) (qs : List ℕ) (f : Foremost q qs) where
    -- its number is the least
    least : (i : ℕ) (c : Comp) → at cs i ≡ accepted c → waits w l h c ≡ true → key_of q f.comp ≤ key_of i c
    least i c e t = first-least (key_of q f.comp) (key_of i c) f.rest (keys_on w l h 0 cs) f.first (subst (λ n. Has (key_of n c) (keys_on w l h 0 cs)) (omega arith) (waits-key w l h 0 cs i c e t))

    abbrev leads : Comp → Bool
    leads x = waits w l h x && not (some (λ y. waits w l h y && before_at y x) cs)

    -- nobody who waits comes before it
    first-leads : leads f.comp ≡ true
    unfolding key_of
    first-leads = rw f.waiting (go (some (λ y. waits w l h y && before_at y f.comp) cs) refl)
      where
        go : (b : Bool) → some (λ y. waits w l h y && before_at y f.comp) cs ≡ b → not b ≡ true
        go false e = refl
        go true e =
            let r = some-find (λ y. waits w l h y && before_at y f.comp) cs e in
            let a = and-inv (waits w l h r.1) _ r.3 in
            absurd (omega (arith, least r.0 r.1 r.2 a.0, ltb-true (rank_of r.1.timer) (rank_of f.comp.timer) a.1, at-within cs r.0 r.1 r.2, few))

    -- and it comes before those who stand lower
    lower : (i : ℕ) (c : Comp) → i < q → at cs i ≡ accepted c → leads c ≡ false
    unfolding key_of
    lower i c k e = go (waits w l h c) refl
      where
        go : (b : Bool) → waits w l h c ≡ b → (b && not (some (λ y. waits w l h y && before_at y c) cs)) ≡ false
        go false t = refl
        go true t =
            let s : before_at f.comp c ≡ true = lt-ltb (rank_of f.comp.timer) (rank_of c.timer) (omega (arith, least i c e t, at-within cs q f.comp f.here, few)) in
            rw (some-at (λ y. waits w l h y && before_at y c) cs q f.comp f.here (rw f.waiting s))

    pub first-partner : partner_at w l h cs ≡ accepted q
    unfolding partner_at foremost
    first-partner = seek_is leads cs q f.comp f.here first-leads lower

    -- it is no longer ready: the others are left
    pub first-gone : (b : Comp) → ready_at l b ≡ false → hearers w l h (R.set cs q b) ≡ qs
    unfolding hearers
    first-gone b g =
        let t = take_out w l h 0 cs q f.comp b f.here f.waiting g in
        let z : key_of (0 + q) f.comp ≡ key_of q f.comp = ap (λ n. key_of n f.comp) (omega arith) in
        let r : ranked (t.before ++ t.behind) ≡ f.rest = place-taken (key_of q f.comp) (ranked (t.before ++ t.behind)) f.rest (sym (ranked-out (key_of q f.comp) t.before t.behind) ∙ ap (λ n. ranked (t.before ++ n ∷ t.behind)) (sym z) ∙ ap ranked (sym t.with_it) ∙ f.first) in
        ap (λ xs. map spot_of (ranked xs)) t.without ∙ ap (map spot_of) r ∙ f.others

  pub nobody-waits : hearers w l h cs ≡ [] → partner_at w l h cs ≡ refused 8
  unfolding hearers partner_at foremost
  nobody-waits e = seek-nothing _ cs (λ i c p. go i c p (waits w l h c) refl)
    where
      go : (i : ℕ) (c : Comp) → at cs i ≡ accepted c → (b : Bool) → waits w l h c ≡ b → (b && not (some (λ y. waits w l h y && before_at y c) cs)) ≡ false
      go i c p false t = refl
      go i c p true t = absurd (none (keys_on w l h 0 cs) e (waits-key w l h 0 cs i c p t))
        where
          none : (xs : List ℕ) → map spot_of (ranked xs) ≡ [] → Has (key_of (0 + i) c) xs → ⊥
          none [] e h = h
          none (x ∷ xs) e h = omega (arith, ap length e, length-map (ranked (x ∷ xs)) spot_of, length-ranked (x ∷ xs))
