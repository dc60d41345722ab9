-- One position of the sweep in code is one position of the sweep on the table, and the chains stay those of who still waits.
-- By cases on the head of the component there: none, a call, a move, or a communication with the first of the chain.
use Prim.Native.Nat.{ℕ, zero, suc, ◌<◌, ◌≤◌}
use native.Mathlib.Omega.{arith}
use mathlib.Core.List.{List, [], ◌∷◌, map}
use mathlib.Core.Bool.{Bool, true, false, cond, ◌&&◌, not, false≢true}
use mathlib.Core.Path.{◌≡◌, refl, sym, ap, subst, ◌∙◌}
use lib.Dec.{eqb, ltb}
use lib.ListN.{length, set, get_or}
use borrow.Author.Tests.{ltb-true, ltb-false, lt-ltb, eqb-true, eq-eqb}
use Rattle.std.specs.Prelude.{Option, Some, None}
use Rattle.terms.specs.Rules.{Kind, ◌>>=◌, at, set_all, positions}
use Rattle.terms.specs.Rules as R
use Rattle.terms.specs.Rules.Answer.{refused, accepted}
use Rattle.terms.specs.Rules.Kind.{calls, moves}
use Rattle.terms.specs.Rules.Action.{single, pair}
use Rattle.terms.proofs.Names.{and-inv}
use Rattle.terms.proofs.Answers.{clash, took}
use Rattle.terms.proofs.Lists.{length-set}
use Rattle.table.specs.declared.Comp.{Comp}
use Rattle.table.specs.declared.Head.{Head}
use Rattle.table.specs.declared.Head.TheVariants.{Stop, Go, Out, In, Call}
use Rattle.waits.specs.Waits.{messages}
use Rattle.table.specs.Words.{locs_in, head_at, body_of}
use Rattle.table.specs.Meaning.{waits_of}
use Rattle.table.specs.Valid.{script_ok}
use Rattle.table.specs.Split.{due_at}
use Rattle.table.specs.Fire.{Left, move_tag, left_at, becomes_at, handed, meet_at, alone_at, together_at, left_by, act_on, ready_at, hears, value_in, loaded, may_leave, may_meet, granted_at, rightly, right_in, would_act, must_act, sent_on, fits_alone, fits_together}
use Rattle.table.proofs.Tests.{CompFine, comp-ok, script-fine}
use Rattle.calls_must.proofs.Hearing.{ear-fits, InEar}
use Rattle.calls_sweep.specs.declared.Act.{Act}
use Rattle.calls_sweep.specs.declared.Act.TheVariants.{Calls, Moves, Sends}
use Rattle.calls_sweep.specs.declared.Visit.{Visit}
use Rattle.calls_sweep.specs.Sweep.{chosen_by, choice_at, visit_at, rec_of}
use Rattle.calls_sweep.specs.Visit.{sends_by, sends_at, act_by, act_here, Performed, rec_by, act_of, sent_by, wait_by}
use Rattle.calls_wait.specs.Waits.{waits, hearers}
use Rattle.calls_wait.proofs.Waiting.{foremost-of, first-partner, first-gone, nobody-waits, hearers-other}

-- ── lists ──
pub put_same : {A : Type 0} (xs : List A) (p : ℕ) (x : A) → at xs p ≡ accepted x → R.set xs p x ≡ xs
unfolding at R.set
put_same [] p x e = refl
put_same (y ∷ xs) zero x e = ap (λ z. z ∷ xs) (sym (took e))
put_same (y ∷ xs) (suc p) x e = ap (λ z. y ∷ z) (put_same xs p x e)

pub put-twice : {A : Type 0} (xs : List A) (p : ℕ) (x y : A) → R.set (R.set xs p x) p y ≡ R.set xs p y
unfolding R.set
put-twice [] p x y = refl
put-twice (z ∷ xs) zero x y = refl
put-twice (z ∷ xs) (suc p) x y = ap (λ r. z ∷ r) (put-twice xs p x y)

at-put-other : {A : Type 0} (xs : List A) (p q : ℕ) (z y : A) → at xs q ≡ accepted y → (p ≡ q → ⊥) → at (R.set xs p z) q ≡ accepted y
unfolding at R.set
at-put-other [] p q z y e n = clash e
at-put-other (x ∷ xs) zero zero z y e n = absurd (n refl)
at-put-other (x ∷ xs) zero (suc q) z y e n = e
at-put-other (x ∷ xs) (suc p) zero z y e n = e
at-put-other (x ∷ xs) (suc p) (suc q) z y e n = at-put-other xs p q z y e (λ h. n (ap suc h))

-- ── what an action leaves is marked ──
left-unready : (w : List ℕ) (l k m i : ℕ) (vs : List ℕ) → script_ok w ≡ true → k < locs_in w → ready_at l (left_at k m i vs) ≡ false
unfolding ready_at left_at
left-unready w l k m i vs e h = rw (lt-ltb k 64 (omega (arith, (script-fine w e).locs)))

abbrev Unready : ℕ → List Comp → Type 0
Unready l [] = Unit {0}
Unready l (c ∷ cs) = (ready_at l c ≡ false) × Unready l cs

becomes-unready : (w : List ℕ) (l : ℕ) (k : Kind) (c : Comp) (h : Head) (f : Left) → script_ok w ≡ true → CompFine w c → becomes_at w k c h ≡ accepted f → Unready l f.after
unfolding becomes_at
becomes-unready w l calls c Stop f g q e = clash e
becomes-unready w l calls c (Go t v p) f g q e = clash e
becomes-unready w l calls c (Out d t v p r) f g q e = clash e
becomes-unready w l calls c (In d t k p r) f g q e = clash e
becomes-unready w l calls c (Call d n) f g q e = subst (λ z. Unready l z.after) (took e) (left-unready w l c.loc c.loc (body_of w d) (loaded w c.place c.vals n) g q.loc, tt)
becomes-unready w l moves c Stop f g q e = clash e
becomes-unready w l moves c (Go t v p) f g q e = subst (λ z. Unready l z.after) (took e) (left-unready w l c.loc (value_in c.vals v) p c.vals g q.loc, tt)
becomes-unready w l moves c (Out d t v p r) f g q e = clash e
becomes-unready w l moves c (In d t k p r) f g q e = clash e
becomes-unready w l moves c (Call d n) f g q e = clash e

-- ── a component that is ready, by its test ──
ready-free : (l : ℕ) (c : Comp) → ready_at l c ≡ true → (ltb c.mark 64 ≡ false) × (c.loc ≡ l)
unfolding ready_at
ready-free l c e = go (ltb c.mark 64) refl e
  where
    go : (b : Bool) → ltb c.mark 64 ≡ b → (not b && eqb c.loc l) ≡ true → (ltb c.mark 64 ≡ false) × (c.loc ≡ l)
    go true q e = absurd (false≢true e)
    go false q e = (q, eqb-true c.loc l e)

-- ── what one position gives: its record, the components, and who still hears ──
abbrev pub recs_of : Option Act → ℕ → ℕ → List (List ℕ)
recs_of None p q = []
recs_of (Some a) p q = rec_by a p q ∷ []

pub record Turned (w : List ℕ) (l p q : ℕ) (k : Option Act) (x : Option ℕ) (cs : List Comp) (c : Comp) (v : Visit) : Type 0 where
  pub actions : map rec_of (visit_at w l p (at cs p) cs).actions ≡ recs_of k p q
  pub comps : (visit_at w l p (at cs p) cs).comps ≡ R.set (R.set cs p v.x) q v.y
  pub sent : messages (visit_at w l p (at cs p) cs).actions ≡ sent_by k
  pub waited : (visit_at w l p (at cs p) cs).sum ≡ wait_by k c.wait
  pub still : x ≡ None → (h : ℕ) → hearers w l h (R.set (R.set cs p v.x) q v.y) ≡ hearers w l h cs
  pub others : (x ≡ None → ⊥) → (h : ℕ) → eqb h (sends_at w l c) ≡ false → hearers w l h (R.set (R.set cs p v.x) q v.y) ≡ hearers w l h cs
  pub first : (x ≡ None → ⊥) → (qs : List ℕ) → hearers w l (sends_at w l c) cs ≡ q ∷ qs → hearers w l (sends_at w l c) (R.set (R.set cs p v.x) q v.y) ≡ qs

-- nothing fires
rests : (w : List ℕ) (l p : ℕ) (cs : List Comp) (c : Comp) (v : Visit) (n : ℕ) → at cs p ≡ accepted c → choice_at w l p c cs ≡ refused n → v.x ≡ c → v.y ≡ c → Turned w l p p None None cs c v
rests w l p cs c v n e a x y = record {
  actions = rw (e, a);
  comps = rw (e, a) (sym same);
  sent = unfold messages in rw (e, a);
  waited = rw (e, a);
  still = λ z h. ap (hearers w l h) same;
  others = λ z. absurd (z refl);
  first = λ z. absurd (z refl);
}
  where
    same : R.set (R.set cs p v.x) p v.y ≡ cs
    same = rw (x, y) (ap (λ z. R.set z p c) (put_same cs p c e) ∙ put_same cs p c e)

-- a move that is due lacks its right: it is chosen and refused
lacks : (w : List ℕ) (l p : ℕ) (cs : List Comp) (c : Comp) (v : Visit) (n : ℕ) → at cs p ≡ accepted c → choice_at w l p c cs ≡ accepted (single moves p) → alone_at w moves c ≡ refused n → v.x ≡ c → v.y ≡ c → Turned w l p p None None cs c v
unfolding act_on left_by
lacks w l p cs c v n e a b x y = record {
  actions = rw (e, a, e, b);
  comps = rw (e, a, e, b) (sym same);
  sent = unfold messages in rw (e, a, e, b);
  waited = rw (e, a, e, b);
  still = λ z h. ap (hearers w l h) same;
  others = λ z. absurd (z refl);
  first = λ z. absurd (z refl);
}
  where
    same : R.set (R.set cs p v.x) p v.y ≡ cs
    same = rw (x, y) (ap (λ z. R.set z p c) (put_same cs p c e) ∙ put_same cs p c e)

abbrev act_like : Kind → Act
act_like calls = Calls
act_like moves = Moves

rec_one : (k : Kind) (p : ℕ) → rec_of (single k p) ∷ [] ≡ recs_of (Some (act_like k)) p p
rec_one calls p = refl
rec_one moves p = refl

none-sent : (k : Kind) → ◌≡◌ {A = ℕ} 0 (sent_by (Some (act_like k)))
none-sent calls = refl
none-sent moves = refl

none-waited : (k : Kind) (n : ℕ) → ◌≡◌ {A = ℕ} 0 (wait_by (Some (act_like k)) n)
none-waited calls n = refl
none-waited moves n = refl

wait-of : (cs : List Comp) (p : ℕ) (c : Comp) → at cs p ≡ accepted c → get_or (waits_of cs) p 0 ≡ c.wait
unfolding at
wait-of [] p c e = clash e
wait-of (x ∷ cs) zero c e = ap (λ z. z.wait) (took e)
wait-of (x ∷ cs) (suc p) c e = wait-of cs p c e

-- a call or a move fires
fires-one : (w : List ℕ) (l p : ℕ) (k : Kind) (cs : List Comp) (c : Comp) (v : Visit) (g : Left) → at cs p ≡ accepted c → choice_at w l p c cs ≡ accepted (single k p) → alone_at w k c ≡ accepted g
    → Unready l g.after → ((h : ℕ) → hears h (head_at w c.place) ≡ false) → (g.after ≡ v.x ∷ []) × (v.y ≡ v.x) → Turned w l p p (Some (act_like k)) None cs c v
unfolding act_on left_by positions set_all
fires-one w l p k cs c v g e a b u n r = record {
  actions = rw (e, a, e, b) (rec_one k p);
  comps = rw (e, a, e, b, r.0) (sym once);
  sent = unfold messages in rw (e, a, e, b) (none-sent k);
  waited = rw (e, a, e, b) (none-waited k c.wait);
  still = λ z h. ap (hearers w l h) once ∙ hearers-other w l h cs p c v.x e (rw (n h) (and_none (ready_at l c))) (subst (Unready l) r.0 u).0;
  others = λ z. absurd (z refl);
  first = λ z. absurd (z refl);
}
  where
    once : R.set (R.set cs p v.x) p v.y ≡ R.set cs p v.x
    once = rw r.1 (put-twice cs p v.x v.x)

    and_none : (b : Bool) → (b && false) ≡ false
    and_none true = refl
    and_none false = refl

-- a communication fires
fires-two : (w : List ℕ) (l p q d : ℕ) (cs : List Comp) (c e : Comp) (v : Visit) (g : Left) → length cs ≤ 256 → at cs p ≡ accepted c → at cs q ≡ accepted e → choice_at w l p c cs ≡ accepted (pair p q) → together_at w c e ≡ accepted g
    → Unready l g.after → sends_at w l c ≡ d → ((h : ℕ) → hears h (head_at w c.place) ≡ false) → ((h : ℕ) → hears h (head_at w e.place) ≡ eqb h d) → g.after ≡ v.x ∷ v.y ∷ [] → Turned w l p q (Some Sends) (Some q) cs c v
unfolding act_on left_by positions set_all
fires-two w l p q d cs c e v g few i j a b u s n r after = record {
  actions = rw (i, a, i, j, b);
  comps = rw (i, a, i, j, b, after);
  sent = unfold messages in rw (i, a, i, j, b);
  waited = rw (i, a, i, j, b) (wait-of cs p c i);
  still = λ z. absurd (linked z);
  others = λ z h k. hearers-other w l h cs₁ q e v.y there (rw (r h, sym (ap (eqb h) s) ∙ k) (and_none (ready_at l e))) marks.1.0 ∙ sender h;
  first = λ z qs k. first-gone w l (sends_at w l c) cs₁ few₁ q qs (foremost-of w l (sends_at w l c) cs₁ few₁ q qs (sender (sends_at w l c) ∙ k)) v.y marks.1.0;
}
  where
    cs₁ : List Comp
    cs₁ = R.set cs p v.x

    few₁ : length (R.set cs p v.x) ≤ 256
    few₁ = omega (arith, length-set cs p v.x)

    linked : Some q ≡ None → ⊥
    linked z = cc

    marks : Unready l (v.x ∷ v.y ∷ [])
    marks = subst (Unready l) after u

    and_none : (b : Bool) → (b && false) ≡ false
    and_none true = refl
    and_none false = refl

    sender : (h : ℕ) → hearers w l h (R.set cs p v.x) ≡ hearers w l h cs
    sender h = hearers-other w l h cs p c v.x i (rw (n h) (and_none (ready_at l c))) marks.0

    -- the input stands somewhere else than the output
    apart : p ≡ q → ⊥
    apart z = let y : c ≡ e = took (sym i ∙ ap (at cs) z ∙ j) in false≢true (sym (n d) ∙ ap (λ k. hears d (head_at w k.place)) y ∙ r d ∙ eq-eqb d d refl)

    there : at (R.set cs p v.x) q ≡ accepted e
    there = at-put-other cs p q v.x e j apart

-- ── by cases on the head ──
pub act-ready : (w : List ℕ) (l : ℕ) (c : Comp) (x : Option ℕ) (h : Head) → ready_at l c ≡ true → head_at w c.place ≡ h → act_here w l c x ≡ act_by w x c h
unfolding act_here
act-ready w l c x h r e = rw (r, e)

pub act-unready : (w : List ℕ) (l : ℕ) (c : Comp) (x : Option ℕ) → ready_at l c ≡ false → act_here w l c x ≡ None
unfolding act_here
act-unready w l c x r = rw r

choice-ready : (w : List ℕ) (l p : ℕ) (c : Comp) (cs : List Comp) (h : Head) → ready_at l c ≡ true → head_at w c.place ≡ h → choice_at w l p c cs ≡ chosen_by w l p c cs h
unfolding choice_at
choice-ready w l p c cs h r e = rw (r, e)

pub sends-ready : (w : List ℕ) (l : ℕ) (c : Comp) (h : Head) → ready_at l c ≡ true → head_at w c.place ≡ h → sends_at w l c ≡ sends_by w c h
unfolding sends_at
sends-ready w l c h r e = rw (r, e)

alone-free : (w : List ℕ) (k : Kind) (l : ℕ) (c : Comp) (h : Head) → ready_at l c ≡ true → head_at w c.place ≡ h → alone_at w k c ≡ (becomes_at w k c h >>= rightly w)
unfolding alone_at fits_alone
alone-free w k l c h r e = rw ((ready-free l c r).0, e)

module _ (w : List ℕ) (good : script_ok w ≡ true) (l p : ℕ) (cs : List Comp) (c : Comp) (v : Visit) (few : length cs ≤ 256) (at_p : at cs p ≡ accepted c) (fine : CompFine w c) where
  -- no link: the component is its own partner
  rest-case : act_here w l c None ≡ None → (n : ℕ) → choice_at w l p c cs ≡ refused n → Performed w (act_here w l c None) c c v → Turned w l p p (act_here w l c None) None cs c v
  rest-case k n a f = subst (λ z. Turned w l p p z None cs c v) (sym k) (rests w l p cs c v n at_p a (f.none k).0 (f.none k).1)

  silent : (h : Head) → head_at w c.place ≡ h → ((g : ℕ) → hears g h ≡ false) → (g : ℕ) → hears g (head_at w c.place) ≡ false
  silent h e k g = rw e (k g)

  call-case : (d n : ℕ) → ready_at l c ≡ true → head_at w c.place ≡ Call d n → Performed w (act_here w l c None) c c v → Turned w l p p (act_here w l c None) None cs c v
  unfolding act_by act_of must_act would_act right_in rightly granted_at chosen_by becomes_at hears
  call-case d n r e f =
      let k : act_here w l c None ≡ Some Calls = act-ready w l c None _ r e in
      let a = alone-free w calls l c _ r e in
      subst (λ z. Turned w l p p z None cs c v) (sym k)
      (fires-one w l p calls cs c v _ at_p (choice-ready w l p c cs _ r e) a (becomes-unready w l calls c (Call d n) _ good fine refl) (silent _ e (λ g. refl)) (f.call k _ a))

  go-case : (t y q : ℕ) → ready_at l c ≡ true → head_at w c.place ≡ Go t y q → Performed w (act_here w l c None) c c v → Turned w l p p (act_here w l c None) None cs c v
  unfolding act_by act_of must_act would_act right_in rightly granted_at chosen_by becomes_at hears
  go-case t y q r e f = by-timer (due_at c) refl (may_leave w c.loc (value_in c.vals y)) refl
    where
      by-timer : (b : Bool) → due_at c ≡ b → (a : Bool) → may_leave w c.loc (value_in c.vals y) ≡ a → Turned w l p p (act_here w l c None) None cs c v
      by-timer true z true m =
          let k : act_here w l c None ≡ Some Moves = act-ready w l c None _ r e ∙ rw (z, m) in
          let a : alone_at w moves c ≡ accepted (record { tag = move_tag (value_in c.vals y) c.loc; after = left_at c.loc (value_in c.vals y) q c.vals ∷ [] }) = alone-free w moves l c _ r e ∙ rw m in
          subst (λ z. Turned w l p p z None cs c v) (sym k)
          (fires-one w l p moves cs c v _ at_p (choice-ready w l p c cs _ r e ∙ rw z) a (becomes-unready w l moves c (Go t y q) _ good fine refl) (silent _ e (λ g. refl)) (f.move k _ a))
      by-timer true z false m =
          let k : act_here w l c None ≡ None = act-ready w l c None _ r e ∙ rw (z, m) in
          subst (λ z. Turned w l p p z None cs c v) (sym k)
          (lacks w l p cs c v 20 at_p (choice-ready w l p c cs _ r e ∙ rw z) (alone-free w moves l c _ r e ∙ rw m) (f.none k).0 (f.none k).1)
      by-timer false z a m = rest-case (act-ready w l c None _ r e ∙ rw z) 0 (choice-ready w l p c cs _ r e ∙ rw z) f

  out-case : (d t y q s : ℕ) → ready_at l c ≡ true → head_at w c.place ≡ Out d t y q s → (sends_at w l c < 64 → hearers w l (sends_at w l c) cs ≡ []) → Performed w (act_here w l c None) c c v → (b : Bool) → ltb d 64 ≡ b → (m : Bool) → may_meet w c.loc d ≡ m → Turned w l p p (act_here w l c None) None cs c v
  unfolding act_by act_of must_act would_act right_in chosen_by sends_by sent_on
  out-case d t y q s r e nobody f true b true m =
      let z : sends_at w l c ≡ d = sends-ready w l c _ r e ∙ rw m in
      let n : hearers w l d cs ≡ [] = subst (λ k. hearers w l k cs ≡ []) z (nobody (rw z (ltb-true d 64 b))) in
      rest-case (act-ready w l c None _ r e) 8 (choice-ready w l p c cs _ r e ∙ rw (m, nobody-waits w l d cs few n)) f
  out-case d t y q s r e nobody f true b false m = rest-case (act-ready w l c None _ r e) 8 (choice-ready w l p c cs _ r e ∙ rw m) f
  out-case d t y q s r e nobody f false b x m = absurd (omega (arith, ltb-false d 64 b, subst (InEar 64) e (ear-fits w c good (comp-ok w c fine))))

  pub turned_none : (sends_at w l c < 64 → hearers w l (sends_at w l c) cs ≡ []) → Performed w (act_here w l c None) c c v → Turned w l p p (act_here w l c None) None cs c v
  turned_none nobody f = by-ready (ready_at l c) refl (head_at w c.place) refl
    where
      by-ready : (b : Bool) → ready_at l c ≡ b → (h : Head) → head_at w c.place ≡ h → Turned w l p p (act_here w l c None) None cs c v
      by-ready false r h e = rest-case (unfold act_here in rw r) 0 (unfold choice_at in rw r) f
      by-ready true r Stop e = rest-case (act-ready w l c None _ r e ∙ (unfold act_by act_of must_act would_act in refl)) 0 (choice-ready w l p c cs _ r e ∙ (unfold chosen_by in refl)) f
      by-ready true r (Go t y q) e = go-case t y q r e f
      by-ready true r (In d t k y q) e = rest-case (act-ready w l c None _ r e ∙ (unfold act_by act_of must_act would_act in refl)) 0 (choice-ready w l p c cs _ r e ∙ (unfold chosen_by in refl)) f
      by-ready true r (Call d n) e = call-case d n r e f
      by-ready true r (Out d t y q s) e = out-case d t y q s r e nobody f (ltb d 64) refl (may_meet w c.loc d) refl

-- a link: the first who hears is the partner
hears-in : (w : List ℕ) (l d : ℕ) (e : Comp) (h : Head) → head_at w e.place ≡ h → (ready_at l e && hears d h) ≡ true → (d₂ t k p q : ℕ) × (h ≡ In d₂ t k p q) × (eqb d d₂ ≡ true)
unfolding hears
hears-in w l d e Stop q z = absurd (false≢true (and-inv (ready_at l e) _ z).1)
hears-in w l d e (Go t y p) q z = absurd (false≢true (and-inv (ready_at l e) _ z).1)
hears-in w l d e (Out d₂ t y p r) q z = absurd (false≢true (and-inv (ready_at l e) _ z).1)
hears-in w l d e (In d₂ t k p r) q z = (d₂, t, k, p, r, refl, (and-inv (ready_at l e) _ z).1)
hears-in w l d e (Call d₂ n) q z = absurd (false≢true (and-inv (ready_at l e) _ z).1)

handed-unready : (w : List ℕ) (l : ℕ) (c e : Comp) (h x p k q : ℕ) → script_ok w ≡ true → CompFine w c → Unready l (handed c e h x p k q).after
unfolding handed
handed-unready w l c e h x p k q g f = (left-unready w l c.loc c.loc p c.vals g f.loc, (left-unready w l c.loc c.loc q (set e.vals k x) g f.loc, tt))

meet-free : (w : List ℕ) (l : ℕ) (c e : Comp) (d t y p q d₂ t₂ k p₂ q₂ : ℕ) → ready_at l c ≡ true → ready_at l e ≡ true → head_at w c.place ≡ Out d t y p q → head_at w e.place ≡ In d₂ t₂ k p₂ q₂ → eqb d d₂ ≡ true → may_meet w c.loc d ≡ true
    → together_at w c e ≡ accepted (handed c e d (value_in c.vals y) p k p₂)
unfolding together_at fits_together meet_at rightly granted_at handed
meet-free w l c e d t y p q d₂ t₂ k p₂ q₂ r s a b z m =
    let f = ready-free l c r in
    let g = ready-free l e s in
    rw (f.0, g.0, a, b, z, eq-eqb c.loc e.loc (f.1 ∙ sym g.1), m)

module _ (w : List ℕ) (good : script_ok w ≡ true) (l p q : ℕ) (cs : List Comp) (c e : Comp) (v : Visit) (few : length cs ≤ 256) (at_p : at cs p ≡ accepted c) (at-q : at cs q ≡ accepted e) (fine : CompFine w c) where
  two-case : (d t y a b : ℕ) (qs : List ℕ) → ready_at l c ≡ true → head_at w c.place ≡ Out d t y a b → may_meet w c.loc d ≡ true → hearers w l d cs ≡ q ∷ qs → Performed w (act_here w l c (Some q)) c e v → Turned w l p q (act_here w l c (Some q)) (Some q) cs c v
  unfolding act_by act_of must_act would_act right_in chosen_by sends_by sent_on hears
  two-case d t y a b qs r h o' k f =
      let s = foremost-of w l d cs few q qs k in
      let u = first-partner w l d cs few q qs s in
      let m : waits w l d e ≡ true = subst (λ x. waits w l d x ≡ true) (took (sym s.here ∙ at-q)) s.waiting in
      let i = hears-in w l d e (head_at w e.place) refl m in
      let o : act_here w l c (Some q) ≡ Some Sends = act-ready w l c (Some q) _ r h ∙ rw o' in
      let j = meet-free w l c e d t y a b i.0 i.1 i.2 i.3 i.4 r (and-inv (ready_at l e) _ m).0 h i.5 i.6 o' in
      subst (λ z. Turned w l p q z (Some q) cs c v) (sym o)
      (fires-two w l p q d cs c e v _ few at_p at-q (choice-ready w l p c cs _ r h ∙ rw (o', u)) j (handed-unready w l c e d (value_in c.vals y) a i.2 i.3 good fine)
      (sends-ready w l c _ r h ∙ rw o') (λ x. rw h) (λ x. rw i.5 (ap (eqb x) (sym (eqb-true d i.0 i.6)))) (f.pair o _ j))

  not-sent : (h : Head) → sends_by w c h ≡ 64 → ready_at l c ≡ true → head_at w c.place ≡ h → (sends_at w l c ≡ 64 → Some q ≡ None) → ⊥
  not-sent h z r e k = let n : Some q ≡ None = k (sends-ready w l c h r e ∙ z) in cc

  pub turned-some : (sends_at w l c ≡ 64 → Some q ≡ None) → (qs : List ℕ) → hearers w l (sends_at w l c) cs ≡ q ∷ qs → Performed w (act_here w l c (Some q)) c e v → Turned w l p q (act_here w l c (Some q)) (Some q) cs c v
  unfolding sends_by right_in sent_on
  turned-some nope qs k f = by-ready (ready_at l c) refl (head_at w c.place) refl
    where
      either : (b : Bool) → ◌≡◌ {A = ℕ} (cond b 64 64) 64
      either true = refl
      either false = refl

      by_right : (d t y a b : ℕ) → ready_at l c ≡ true → head_at w c.place ≡ Out d t y a b → (m : Bool) → may_meet w c.loc d ≡ m → Turned w l p q (act_here w l c (Some q)) (Some q) cs c v
      by_right d t y a b r e true m = two-case d t y a b qs r e m (subst (λ z. hearers w l z cs ≡ q ∷ qs) (sends-ready w l c _ r e ∙ rw m) k) f
      by_right d t y a b r e false m = absurd (not-sent (Out d t y a b) (rw m) r e nope)

      by-ready : (b : Bool) → ready_at l c ≡ b → (h : Head) → head_at w c.place ≡ h → Turned w l p q (act_here w l c (Some q)) (Some q) cs c v
      by-ready false r h e = let n : Some q ≡ None = nope (unfold sends_at in rw r) in cc
      by-ready true r Stop e = absurd (not-sent Stop refl r e nope)
      by-ready true r (Go t y a) e = absurd (not-sent (Go t y a) (either (may_leave w c.loc (value_in c.vals y))) r e nope)
      by-ready true r (In d t y a b) e = absurd (not-sent (In d t y a b) refl r e nope)
      by-ready true r (Call d n) e = absurd (not-sent (Call d n) refl r e nope)
      by-ready true r (Out d t y a b) e = by_right d t y a b r e (may_meet w c.loc d) refl
