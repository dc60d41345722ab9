-- The chains are those of who waits: the numbers of all who hear a channel are found from the first position up, and dealt to the channels from the greatest down.
use Prim.Native.Nat.{ℕ, zero, suc, ◌+◌, ◌<◌, ◌≤◌}
use native.Mathlib.Omega.{arith}
use native.Mathlib.Numerals.{add-one}
use mathlib.Core.List.{List, [], ◌∷◌, ◌++◌, map, append-nil}
use mathlib.Core.Bool.{Bool, true, false, cond}
use mathlib.Core.Logic.{◌⊎◌, inl, inr}
use mathlib.Core.Path.{◌≡◌, refl, sym, ap, subst, ◌∙◌}
use lib.Dec.{eqb, ltb}
use lib.ListN.{length, get_or, set, take, drop, length-set, length-append, length-drop, replicate, get_or-replicate}
use lib.Seq.{get_or-set_same, get_or-set_other, drop-cons, length-take-le, take-suc-set, take_at}
use borrow.Author.Tests.{eqb-true, eqb-false}
use Rattle.std.specs.Prelude.{Option, Some, None, is_some}
use Rattle.terms.specs.Rules.{at}
use Rattle.terms.specs.Rules.Answer.{accepted}
use Rattle.terms.proofs.Answers.{clash, took}
use Rattle.terms.proofs.Lists.{at-within}
use Rattle.ranks.specs.Ranked.{place, ranked, keep}
use Rattle.ranks.proofs.Laws.{keep-ranked, length-ranked}
use Rattle.table.specs.declared.Comp.{Comp}
use Rattle.calls_steady.proofs.Staying.{take_more}
use Rattle.calls_must.specs.Heard.{hears_at}
use Rattle.calls_must.proofs.Hearing.{is_own, hears-own}
use Rattle.calls_wait.specs.Waits.{key_of, spot_of, keys_on, hearers, Chain, Queued, keys_all, Gathered, onto, Dealt, Away, Apart}
use Rattle.calls_wait.proofs.Waiting.{spot-key}

pub spot-fits : (x : ℕ) → spot_of x < 256
unfolding spot_of
spot-fits x = omega arith

-- ── a link changed at a position that a chain has not ──
frame : (nexts : List (Option ℕ)) (p : ℕ) (v x : Option ℕ) (qs : List ℕ) → Away p qs → Chain nexts x qs → Chain (set nexts p v) x qs
frame nexts p v x [] a c = c
frame nexts p v x (q ∷ qs) a c = (c.0, frame nexts p v _ qs a.1 (subst (λ z. Chain nexts z qs) (sym (get_or-set_other nexts p q v None (λ e. a.0 (sym e)))) c.1))

away-keep : (f : ℕ → Bool) (p : ℕ) (xs : List ℕ) → Away p (map spot_of xs) → Away p (map spot_of (keep f xs))
unfolding keep
away-keep f p [] a = tt
away-keep f p (x ∷ xs) a = go (f x) (away-keep f p xs a.1)
  where
    go : (b : Bool) → Away p (map spot_of (keep f xs)) → Away p (map spot_of (cond b (x ∷ keep f xs) (keep f xs)))
    go true r = (a.0, r)
    go false r = r

-- ── one more number ──
pub dealt-none : (ears : List ℕ) (nexts : List (Option ℕ)) → length nexts ≡ 256 → Dealt ears [] (replicate 65 None) nexts
unfolding keep
dealt-none ears nexts n = record { chain = λ h b. get_or-replicate {A = Option ℕ} 65 h None None (omega arith); none = refl; size = refl; room = n }

module _ (ears xs : List ℕ) (heads nexts : List (Option ℕ)) (x : ℕ) (low : get_or ears (spot_of x) 0 < 64) (fits : spot_of x < 256) (away : Away (spot_of x) (map spot_of xs)) (d : Dealt ears xs heads nexts) where
  abbrev h : ℕ
  h = get_or ears (spot_of x) 0

  framed : (g : ℕ) → g < 64 → (y : Option ℕ) → y ≡ get_or heads g None → Chain (set nexts (spot_of x) (get_or heads (get_or ears (spot_of x) 0) None)) y (map spot_of (keep (onto ears g) xs))
  framed g k y e = frame nexts (spot_of x) (get_or heads (get_or ears (spot_of x) 0) None) y (map spot_of (keep (onto ears g) xs)) (away-keep (onto ears g) (spot_of x) xs away) (subst (λ z. Chain nexts z (map spot_of (keep (onto ears g) xs))) (sym e) (d.chain g k))

  pub dealt-more : Dealt ears (x ∷ xs) (set heads (get_or ears (spot_of x) 0) (Some (spot_of x))) (set nexts (spot_of x) (get_or heads (get_or ears (spot_of x) 0) None))
  unfolding keep
  dealt-more = record {
    chain = λ g k. go g k (eqb g (get_or ears (spot_of x) 0)) refl;
    none = get_or-set_other heads (get_or ears (spot_of x) 0) 64 (Some (spot_of x)) None (λ e. omega arith) ∙ d.none;
    size = length-set heads (get_or ears (spot_of x) 0) (Some (spot_of x)) ∙ d.size;
    room = length-set nexts (spot_of x) (get_or heads (get_or ears (spot_of x) 0) None) ∙ d.room;
  }
    where
      go : (g : ℕ) → g < 64 → (b : Bool) → eqb g (get_or ears (spot_of x) 0) ≡ b
          → Chain (set nexts (spot_of x) (get_or heads (get_or ears (spot_of x) 0) None)) (get_or (set heads (get_or ears (spot_of x) 0) (Some (spot_of x))) g None) (map spot_of (cond b (x ∷ keep (onto ears g) xs) (keep (onto ears g) xs)))
      go g k false e = framed g k _ (get_or-set_other heads (get_or ears (spot_of x) 0) g _ None (eqb-false g (get_or ears (spot_of x) 0) e))
      go g k true e =
          let z = eqb-true g (get_or ears (spot_of x) 0) e in
          let y : get_or (set heads (get_or ears (spot_of x) 0) (Some (spot_of x))) g None ≡ Some (spot_of x) = ap (λ m. get_or (set heads (get_or ears (spot_of x) 0) (Some (spot_of x))) m None) z ∙ get_or-set_same heads (get_or ears (spot_of x) 0) _ None (omega (arith, d.size)) in
          (y, framed g k _ (get_or-set_same nexts (spot_of x) _ None (omega (arith, d.room)) ∙ ap (λ m. get_or heads m None) (sym z)))

-- those behind a number are apart too
apart-drop : (ears xs : List ℕ) (j : ℕ) → Apart ears xs → Apart ears (drop j xs)
apart-drop ears xs zero a = a
apart-drop ears [] (suc j) a = tt
apart-drop ears (x ∷ xs) (suc j) a = apart-drop ears xs j a.2

-- the turn of the number at i, where those behind it are dealt
pub dealt-turn : (ears keys : List ℕ) (heads nexts : List (Option ℕ)) (i : ℕ) → i < length keys → Apart ears keys → Dealt ears (drop (suc i) keys) heads nexts
    → (get_or ears (spot_of (get_or keys i 0)) 0 < 64) × Dealt ears (drop i keys) (set heads (get_or ears (spot_of (get_or keys i 0)) 0) (Some (spot_of (get_or keys i 0)))) (set nexts (spot_of (get_or keys i 0)) (get_or heads (get_or ears (spot_of (get_or keys i 0)) 0) None))
dealt-turn ears keys heads nexts i h a d =
    let e : drop i keys ≡ get_or keys i 0 ∷ drop (suc i) keys = drop-cons keys i 0 h in
    let b = subst (Apart ears) e (apart-drop ears keys i a) in
    (b.0, subst (λ xs. Dealt ears xs (set heads (get_or ears (spot_of (get_or keys i 0)) 0) (Some (spot_of (get_or keys i 0)))) (set nexts (spot_of (get_or keys i 0)) (get_or heads (get_or ears (spot_of (get_or keys i 0)) 0) None))) (sym e) (dealt-more ears (drop (suc i) keys) heads nexts (get_or keys i 0) b.0 (spot-fits (get_or keys i 0)) b.1 d))

-- ── no two of those who hear a channel stand at one position ──
away-place : (p x : ℕ) (ys : List ℕ) → (p ≡ spot_of x → ⊥) → Away p (map spot_of ys) → Away p (map spot_of (place x ys))
unfolding place
away-place p x [] n a = (n, tt)
away-place p x (y ∷ ys) n a = go (ltb y x) (away-place p x ys n a.1)
  where
    go : (b : Bool) → Away p (map spot_of (place x ys)) → Away p (map spot_of (cond b (y ∷ place x ys) (x ∷ y ∷ ys)))
    go true r = (a.0, r)
    go false r = (n, a)

apart-place : (ears : List ℕ) (x : ℕ) (ys : List ℕ) → Apart ears (x ∷ ys) → Apart ears (place x ys)
unfolding place
apart-place ears x [] a = a
apart-place ears x (y ∷ ys) a = go (ltb y x) (apart-place ears x ys (a.0, a.1.1, a.2.2))
  where
    go : (b : Bool) → Apart ears (place x ys) → Apart ears (cond b (y ∷ place x ys) (x ∷ y ∷ ys))
    go true r = (a.2.0, away-place (spot_of y) x ys (λ e. a.1.0 (sym e)) a.2.1, r)
    go false r = a

pub apart-ranked : (ears xs : List ℕ) → Apart ears xs → Apart ears (ranked xs)
unfolding ranked
apart-ranked ears [] a = tt
apart-ranked ears (x ∷ xs) a = apart-place ears x (ranked xs) (a.0, away-ranked (spot_of x) xs a.1, apart-ranked ears xs a.2)
  where
    away-ranked : (p : ℕ) (ys : List ℕ) → Away p (map spot_of ys) → Away p (map spot_of (ranked ys))
    away-ranked p [] a = tt
    away-ranked p (y ∷ ys) a = away-place p y (ranked ys) a.0 (away-ranked p ys a.1)

-- their positions, from k on
keys-away : (w : List ℕ) (l p k : ℕ) (cs : List Comp) → p < k → k + length cs ≤ 256 → Away p (map spot_of (keys_all w l k cs))
unfolding keys_all
keys-away w l p k [] h n = tt
keys-away w l p k (c ∷ cs) h n = go (is_some (hears_at w l c)) (keys-away w l p (suc k) cs (omega arith) (omega arith))
  where
    go : (b : Bool) → Away p (map spot_of (keys_all w l (suc k) cs)) → Away p (map spot_of (cond b (key_of k c ∷ keys_all w l (suc k) cs) (keys_all w l (suc k) cs)))
    go true r = ((λ e. omega (arith, spot-key k c (omega arith))), r)
    go false r = r

-- what ears has of the components from k on
abbrev Heard : List ℕ → ℕ → List ℕ → ℕ → List Comp → Type 0
Heard w l ears k cs = (j : ℕ) (c : Comp) (h : ℕ) → at cs j ≡ accepted c → hears_at w l c ≡ Some h → (get_or ears (k + j) 0 ≡ h) × (h < 64)

heard-here : (w : List ℕ) (l : ℕ) (ears : List ℕ) (k : ℕ) (c : Comp) (cs : List Comp) → Heard w l ears k (c ∷ cs) → (h : ℕ) → hears_at w l c ≡ Some h → (get_or ears k 0 ≡ h) × (h < 64)
unfolding at
heard-here w l ears k c cs e h o = let r = e 0 c h refl o in (ap (λ n. get_or ears n 0) (omega arith) ∙ r.0, r.1)

heard-rest : (w : List ℕ) (l : ℕ) (ears : List ℕ) (k : ℕ) (c : Comp) (cs : List Comp) → Heard w l ears k (c ∷ cs) → Heard w l ears (suc k) cs
unfolding at
heard-rest w l ears k c cs e j x h a o = let r = e (suc j) x h a o in (ap (λ n. get_or ears n 0) (omega arith) ∙ r.0, r.1)

keys-apart : (w : List ℕ) (l : ℕ) (ears : List ℕ) (k : ℕ) (cs : List Comp) → Heard w l ears k cs → k + length cs ≤ 256 → Apart ears (keys_all w l k cs)
unfolding keys_all
keys-apart w l ears k [] e n = tt
keys-apart w l ears k (c ∷ cs) e n = go (hears_at w l c) refl (keys-apart w l ears (suc k) cs (heard-rest w l ears k c cs e) (omega arith))
  where
    go : (o : Option ℕ) → hears_at w l c ≡ o → Apart ears (keys_all w l (suc k) cs) → Apart ears (cond (is_some o) (key_of k c ∷ keys_all w l (suc k) cs) (keys_all w l (suc k) cs))
    go (Some h) t r =
        let s = spot-key k c (omega arith) in
        let d = heard-here w l ears k c cs e h t in
        (omega (arith, ap (λ p. get_or ears p 0) s, d), rw s (keys-away w l k (suc k) cs (omega arith) (omega arith)), r)
    go None t r = r

-- ── one more component is looked at ──
keys-more : (w : List ℕ) (l k : ℕ) (cs : List Comp) (c : Comp) → keys_all w l k (cs ++ c ∷ []) ≡ keys_all w l k cs ++ cond (is_some (hears_at w l c)) (key_of (k + length cs) c ∷ []) []
unfolding keys_all
keys-more w l k [] c = ap (λ n. cond (is_some (hears_at w l c)) (key_of n c ∷ []) []) (omega arith)
keys-more w l k (x ∷ cs) c = go (is_some (hears_at w l x)) (keys-more w l (suc k) cs c ∙ ap (λ n. keys_all w l (suc k) cs ++ cond (is_some (hears_at w l c)) (key_of n c ∷ []) []) (omega arith))
  where
    go : (b : Bool) → keys_all w l (suc k) (cs ++ c ∷ []) ≡ keys_all w l (suc k) cs ++ cond (is_some (hears_at w l c)) (key_of (k + suc (length cs)) c ∷ []) []
        → cond b (key_of k x ∷ keys_all w l (suc k) (cs ++ c ∷ [])) (keys_all w l (suc k) (cs ++ c ∷ [])) ≡ cond b (key_of k x ∷ keys_all w l (suc k) cs) (keys_all w l (suc k) cs) ++ cond (is_some (hears_at w l c)) (key_of (k + suc (length cs)) c ∷ []) []
    go true r = ap (λ z. key_of k x ∷ z) r
    go false r = r

at_more : (cs : List Comp) (c : Comp) (j : ℕ) (x : Comp) → at (cs ++ c ∷ []) j ≡ accepted x → (at cs j ≡ accepted x) ⊎ ((j ≡ length cs) × (c ≡ x))
unfolding at
at_more [] c zero x e = inr (refl, took e)
at_more [] c (suc j) x e = clash e
at_more (y ∷ cs) c zero x e = inl e
at_more (y ∷ cs) c (suc j) x e = go (at_more cs c j x e)
  where
    go : (at cs j ≡ accepted x) ⊎ ((j ≡ length cs) × (c ≡ x)) → (at cs j ≡ accepted x) ⊎ ((suc j ≡ suc (length cs)) × (c ≡ x))
    go (inl h) = inl h
    go (inr h) = inr (ap suc h.0, h.1)

pub gathered_none : (w : List ℕ) (l : ℕ) (ears keys : List ℕ) → length ears ≡ 256 → length keys ≡ 256 → Gathered w l [] ears keys 0
unfolding at keys_all
gathered_none w l ears keys p q = record { heard = λ j c h e. clash e; numbers = refl; few = omega arith; size = p; room = q }

module _ (w : List ℕ) (l : ℕ) (xs : List Comp) (d : Comp) (ears keys : List ℕ) (i m : ℕ) (b : i < length xs) (n : i < 256) (g : Gathered w l (take i xs) ears keys m) where
  abbrev c : Comp
  c = get_or xs i d

  size_is : length (take i xs) ≡ i
  size_is = length-take-le i xs (omega arith)

  -- one more component: one of those before it, or this one
  module _ (j : ℕ) (x : Comp) (e : at (take (i + 1) xs) j ≡ accepted x) where
    which : (at (take i xs) j ≡ accepted x) ⊎ ((j ≡ length (take i xs)) × (get_or xs i d ≡ x))
    which = at_more (take i xs) (get_or xs i d) j x (ap (λ z. at z j) (sym (take_more xs i d b)) ∙ e)

  keys-now : keys_all w l 0 (take (i + 1) xs) ≡ keys_all w l 0 (take i xs) ++ cond (is_some (hears_at w l (get_or xs i d))) (key_of i (get_or xs i d) ∷ []) []
  keys-now =
      ap (keys_all w l 0) (take_more xs i d b)
      ∙ keys-more w l 0 (take i xs) (get_or xs i d)
      ∙ ap (λ z. keys_all w l 0 (take i xs) ++ cond (is_some (hears_at w l (get_or xs i d))) (key_of z (get_or xs i d) ∷ []) []) (omega (arith, size_is))

  size-next : length (take (i + 1) xs) ≡ i + 1
  size-next = length-take-le (i + 1) xs (omega arith)

  -- it hears a channel
  pub gathered-more : (h : ℕ) → h < 64 → hears_at w l (get_or xs i d) ≡ Some h → Gathered w l (take (i + 1) xs) (set ears i h) (set keys m (key_of i (get_or xs i d))) (m + 1)
  gathered-more h k t = record {
    heard = λ j x y e o. go j x y o (which j x e);
    numbers = ap (λ z. take z (set keys m (key_of i (get_or xs i d)))) (add-one m) ∙ take-suc-set keys m (key_of i (get_or xs i d)) (omega (arith, g.few, g.room, size_is)) ∙ ap (λ z. z ++ (key_of i (get_or xs i d) ∷ [])) g.numbers ∙ sym (keys-now ∙ rw t);
    few = omega (arith, g.few, size_is, size-next);
    size = length-set ears i h ∙ g.size;
    room = length-set keys m (key_of i (get_or xs i d)) ∙ g.room;
  }
    where
      go : (j : ℕ) (x : Comp) (y : ℕ) → hears_at w l x ≡ Some y → (at (take i xs) j ≡ accepted x) ⊎ ((j ≡ length (take i xs)) × (get_or xs i d ≡ x)) → (get_or (set ears i h) j 0 ≡ y) × (y < 64)
      go j x y o (inl a) = let r = g.heard j x y a o in (get_or-set_other ears i j h 0 (λ z. omega (arith, at-within (take i xs) j x a, size_is)) ∙ r.0, r.1)
      go j x y o (inr a) =
          let s : Some h ≡ Some y = sym t ∙ ap (hears_at w l) a.1 ∙ o in
          let z : h ≡ y = cc in
          (ap (λ p. get_or (set ears i h) p 0) (a.0 ∙ size_is) ∙ get_or-set_same ears i h 0 (omega (arith, g.size)) ∙ z, omega arith)

  -- it hears none
  pub gathered-past : hears_at w l (get_or xs i d) ≡ None → Gathered w l (take (i + 1) xs) ears keys m
  gathered-past t = record {
    heard = λ j x y e o. go j x y o (which j x e);
    numbers = g.numbers ∙ sym (keys-now ∙ rw t (append-nil (keys_all w l 0 (take i xs))));
    few = omega (arith, g.few, size_is, size-next);
    size = g.size;
    room = g.room;
  }
    where
      go : (j : ℕ) (x : Comp) (y : ℕ) → hears_at w l x ≡ Some y → (at (take i xs) j ≡ accepted x) ⊎ ((j ≡ length (take i xs)) × (get_or xs i d ≡ x)) → (get_or ears j 0 ≡ y) × (y < 64)
      go j x y o (inl a) = g.heard j x y a o
      go j x y o (inr a) = let s : None ≡ Some y = sym t ∙ ap (hears_at w l) a.1 ∙ o in cc

-- ── those on one channel ──
keep-own : (w : List ℕ) (l : ℕ) (ears : List ℕ) (h k : ℕ) (cs : List Comp) → h < 64 → Heard w l ears k cs → k + length cs ≤ 256 → keep (onto ears h) (keys_all w l k cs) ≡ keys_on w l h k cs
unfolding keep keys_all keys_on
keep-own w l ears h k [] g e n = refl
keep-own w l ears h k (c ∷ cs) g e n = rw (hears-own w l h c) (go (hears_at w l c) refl (keep-own w l ears h (suc k) cs g (heard-rest w l ears k c cs e) (omega arith)))
  where
    go : (o : Option ℕ) → hears_at w l c ≡ o → keep (onto ears h) (keys_all w l (suc k) cs) ≡ keys_on w l h (suc k) cs
        → keep (onto ears h) (cond (is_some o) (key_of k c ∷ keys_all w l (suc k) cs) (keys_all w l (suc k) cs)) ≡ cond (is_own h o) (key_of k c ∷ keys_on w l h (suc k) cs) (keys_on w l h (suc k) cs)
    go (Some d) t r = rw (spot-key k c (omega arith), (heard-here w l ears k c cs e d t).0, r)
    go None t r = r

-- ── what the sort leaves: the first m numbers in ascending order ──
module _ (w : List ℕ) (l : ℕ) (cs : List Comp) (ears keys after : List ℕ) (m : ℕ) (n : length cs ≤ 256) (g : Gathered w l cs ears keys m) (e : after ≡ ranked (take m keys) ++ drop m keys) where
  few : m ≤ length keys
  few = omega (arith, g.few, g.room)

  from-first : Heard w l ears 0 cs
  from-first j c h a o = let r = g.heard j c h a o in (ap (λ z. get_or ears z 0) (omega arith) ∙ r.0, r.1)

  sorted : take m after ≡ ranked (take m keys)
  sorted = ap (take m) e ∙ take_at (ranked (take m keys)) (drop m keys) m (length-ranked (take m keys) ∙ length-take-le m keys few)

  pub sorted_apart : (m ≤ 256) × (length after ≡ 256) × Apart ears (take m after)
  sorted_apart = (
    omega (arith, g.few),
    ap length e ∙ omega (arith, length-append (ranked (take m keys)) (drop m keys), length-ranked (take m keys), length-take-le m keys few, length-drop m keys, g.room, few),
    subst (Apart ears) (sym sorted) (apart-ranked ears (take m keys) (subst (Apart ears) (sym g.numbers) (keys-apart w l ears 0 cs from-first (omega arith)))),
  )

  pub sorted-queued : (heads nexts : List (Option ℕ)) → Dealt ears (take m after) heads nexts → Queued w l cs heads nexts
  unfolding hearers
  sorted-queued heads nexts d = record {
    chain = λ h b. subst (λ xs. Chain nexts (get_or heads h None) (map spot_of xs)) (ap (keep (onto ears h)) sorted ∙ keep-ranked (onto ears h) (take m keys) ∙ ap (λ xs. ranked (keep (onto ears h) xs)) g.numbers ∙ ap ranked (keep-own w l ears h 0 cs b from-first (omega arith))) (d.chain h b);
    none = d.none;
    size = d.size;
    room = d.room;
  }
