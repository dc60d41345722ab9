-- The loop of `sweep`: the records written and the sweep over the positions left are the sweep over all positions.
-- By the law of one position (Sweeping); the chains of who waits follow.
use Prim.Native.Nat.{ℕ, zero, suc, ◌+◌, ◌-◌, ◌*◌, ◌<◌, ◌≤◌}
use native.Mathlib.Omega.{arith}
use native.Mathlib.Numerals.{add-one}
use mathlib.Core.List.{List, [], ◌∷◌, ◌++◌, map, append_assoc, append-nil}
use mathlib.Core.Bool.{Bool, true, false, cond, ◌&&◌}
use mathlib.Core.Path.{◌≡◌, refl, sym, ap, subst, ◌∙◌}
use lib.Dec.{eqb, ltb}
use lib.ListN.{length, get_or, set, take, drop, length-set, length-map, length-take}
use lib.Seq.{sets, length-sets, get_or-set_same, get_or-set_other, take-suc-set, take-set-le, drop-set-lt, drop-drop}
use borrow.Author.Tests.{eqb-true, eqb-false, ltb-true, ltb-false}
use Rattle.std.specs.Prelude.{Option, Some, None, is_some}
use Rattle.std.specs.Option.{option_and}
use Rattle.terms.specs.Same.{every}
use Rattle.terms.specs.Rules.{Answer, Action, at}
use Rattle.terms.specs.Rules as R
use Rattle.terms.specs.Rules.Answer.{refused, accepted}
use Rattle.waits.specs.Waits.{messages}
use Rattle.waits.proofs.Counting.{messages-append}
use Rattle.table.specs.declared.Comp.{Comp}
use Rattle.table.specs.declared.State.{State}
use Rattle.table.specs.declared.Head.{Head}
use Rattle.table.specs.declared.Head.TheVariants.{Stop, Go, Out, In, Call}
use Rattle.table.specs.Words.{comp_size, state_words, head_at}
use Rattle.table.specs.Meaning.{comp_in, words_in, PastKept, comps_of}
use Rattle.table.specs.Valid.{script_ok, comp_ok}
use Rattle.table.specs.Fire.{ActedAt, act_on, ready_at, sent_on, may_leave, may_meet, value_in, right_in, would_act, must_act}
use Rattle.table.proofs.Tests.{comp-fine}
use Rattle.terms.proofs.Lists.{every-at, at-within}
use Rattle.table.proofs.Fires.{map-append}
use Rattle.table.proofs.Kept.{ok_a, in_acted, act-kept}
use Rattle.calls_steady.specs.Steady.{stays_one}
use Rattle.calls_steady.proofs.Staying.{act-steady}
use Rattle.calls_act.proofs.Positions.{at-in-use}
use Rattle.table.proofs.InUse.{comps-length}
use Rattle.table.proofs.Stores.{comps-put, past-put, past-none, past-then}
use Rattle.calls_sweep.specs.declared.Visit.{Visit}
use Rattle.calls_sweep.specs.Sweep.{took_at, taken_at, visit_at, followed_at, choice_at, sweep_at, rec_of}
use Rattle.calls_wait.specs.Waits.{hearers, Chain, Queued}
use Rattle.calls_wait.proofs.Waiting.{foremost-of}
use Rattle.calls_sweep.specs.Visit.{sends_by, sends_at, act_here, act_by, Performed, other_of, rec_by, act_of, sent_by, wait_by}
use Rattle.calls_sweep.specs.declared.Act.{Act}
use Rattle.calls_sweep.specs.declared.Act.TheVariants.{Calls, Moves, Sends}
use Rattle.calls_sweep.proofs.Queues.{sends-fits}
use Rattle.calls_sweep.proofs.Sweeping.{put_same, recs_of, Turned, turned_none, turned-some}

-- what is performed is what is done here
pub as-here : {w : List ℕ} {k : Option Act} {a : Act} {c e : Comp} {v : Visit} → k ≡ Some a → Performed w (Some a) c e v → Performed w k c e v
as-here {w} {k} {a} {c} {e} {v} o f = subst (λ z. Performed w z c e v) (sym o) f

pub record Going (w : List ℕ) (l : ℕ) (st now : State) (heads nexts : List (Option ℕ)) (before acts : List (List ℕ)) (count p : ℕ) : Type 0 where
  pub few-p : p ≤ st.n
  pub few-count : count ≤ p
  pub size : length now.c ≡ state_words
  pub same : now.n ≡ st.n
  pub past : PastKept st.n st.c now.c
  pub enough : st.n ≤ length before
  pub room : length acts ≡ length before
  pub rest : drop count acts ≡ drop count before
  pub fine : every (comp_ok w) (comps_of now) ≡ true
  pub queue : Queued w l (comps_of now) heads nexts
  pub actions : take count acts ++ map rec_of (sweep_at w l p (st.n - p) (comps_of now)).actions ≡ map rec_of (sweep_at w l 0 st.n (comps_of st)).actions
  pub comps : (sweep_at w l p (st.n - p) (comps_of now)).comps ≡ (sweep_at w l 0 st.n (comps_of st)).comps

-- the messages sent so far and the waits of their senders, with those of the positions left, are those of the whole sweep
pub record Adding (w : List ℕ) (l : ℕ) (st now : State) (sent sum p : ℕ) : Type 0 where
  pub few-sent : sent ≤ p
  pub small : sum ≤ 1_000_000 * sent
  pub sent_is : sent + messages (sweep_at w l p (st.n - p) (comps_of now)).actions ≡ messages (sweep_at w l 0 st.n (comps_of st)).actions
  pub sum_is : sum + (sweep_at w l p (st.n - p) (comps_of now)).sum ≡ (sweep_at w l 0 st.n (comps_of st)).sum

-- ── what stays good ──
-- what actions keep of components, a visit keeps
took-keeps : (w : List ℕ) (f : Comp → Bool) (y : Answer Action) (cs : List Comp) → every f cs ≡ true → ((a : Action) → ok_a (in_acted f) (act_on w a cs) ≡ true) → every f (taken_at w y cs).comps ≡ true
took-keeps w f (refused n) cs e k = e
took-keeps w f (accepted a) cs e k = go (act_on w a cs) (k a)
  where
    go : (x : Answer ActedAt) → ok_a (in_acted f) x ≡ true → every f (took_at a x cs).comps ≡ true
    go (refused n) h = e
    go (accepted r) h = h

visit-keeps : (w : List ℕ) (f : Comp → Bool) (l p : ℕ) (x : Answer Comp) (cs : List Comp) → every f cs ≡ true → ((a : Action) → ok_a (in_acted f) (act_on w a cs) ≡ true) → every f (visit_at w l p x cs).comps ≡ true
visit-keeps w f l p (refused n) cs e k = e
visit-keeps w f l p (accepted c) cs e k = took-keeps w f (choice_at w l p c cs) cs e k

visit-fine : (w : List ℕ) → script_ok w ≡ true → (l p : ℕ) (x : Answer Comp) (cs : List Comp) → every (comp_ok w) cs ≡ true → every (comp_ok w) (visit_at w l p x cs).comps ≡ true
visit-fine w g l p x cs e = visit-keeps w (comp_ok w) l p x cs e (act-kept w g cs e)

-- components that stay one still do after a sweep
pub sweep-steady : (w : List ℕ) → script_ok w ≡ true → (l n p : ℕ) (cs : List Comp) → every (comp_ok w) cs ≡ true → every (stays_one w l) cs ≡ true → every (stays_one w l) (sweep_at w l p n cs).comps ≡ true
unfolding sweep_at
sweep-steady w g l zero p cs o e = e
sweep-steady w g l (suc n) p cs o e = sweep-steady w g l n (suc p) _ (visit-fine w g l p (at cs p) cs o) (visit-keeps w (stays_one w l) l p (at cs p) cs e (act-steady w l g cs o e))

-- ── records ──
-- 1 for an action, 0 for none
abbrev some_of : Option Act → ℕ
some_of None = 0
some_of (Some a) = 1

-- the record of an action; of none it is not looked at
abbrev rec_at : Option Act → ℕ → ℕ → List ℕ
rec_at None p q = []
rec_at (Some a) p q = rec_by a p q

take-rec : (acts : List (List ℕ)) (count : ℕ) (k : Option Act) (p q : ℕ) → count < length acts → take (count + some_of k) (set acts count (rec_at k p q)) ≡ take count acts ++ recs_of k p q
take-rec acts count None p q h = let z : count + 0 ≡ count = omega arith in ap (λ n. take n (set acts count [])) z ∙ take-set-le count acts count [] (omega arith) ∙ sym (append-nil (take count acts))
take-rec acts count (Some a) p q h = ap (λ n. take n (set acts count (rec_by a p q))) (add-one count) ∙ take-suc-set acts count (rec_by a p q) h

-- ── the chain of the component's channel ──
chain-none : (nexts : List (Option ℕ)) (x : Option ℕ) (qs : List ℕ) → Chain nexts x qs → x ≡ None → qs ≡ []
chain-none nexts x [] c e = refl
chain-none nexts x (q ∷ qs) c e = let z : Some q ≡ None = sym c.0 ∙ e in cc

chain-some : (nexts : List (Option ℕ)) (q : ℕ) (qs : List ℕ) → Chain nexts (Some q) qs → (rest : List ℕ) × (qs ≡ q ∷ rest) × Chain nexts (get_or nexts q None) rest
chain-some nexts q [] c = absurd (linked c)
  where
    linked : Some q ≡ None → ⊥
    linked z = cc
chain-some nexts q (r ∷ rest) c = let e : Some q ≡ Some r = c.0 in let z : q ≡ r = cc in (rest, ap (λ y. y ∷ rest) (sym z), subst (λ y. Chain nexts (get_or nexts y None) rest) (sym z) c.1)

-- where nothing fires there is no link
head-idle : (w : List ℕ) (x : Option ℕ) (c : Comp) (h : Head) → act_by w x c h ≡ None → (sends_by w c h ≡ 64 → x ≡ None) → x ≡ None
unfolding act_by act_of must_act would_act right_in sends_by sent_on
head-idle w x c Stop e n = n refl
head-idle w x c (Go u y q) e n = n (either (may_leave w c.loc (value_in c.vals y)))
  where
    either : (b : Bool) → ◌≡◌ {A = ℕ} (cond b 64 64) 64
    either true = refl
    either false = refl
head-idle w x c (In d u k q r) e n = n refl
head-idle w x c (Call d m) e n = n refl
head-idle w x c (Out d u y q r) e n = go x (may_meet w c.loc d) e n
  where
    go : (x : Option ℕ) (m : Bool) → cond (is_some x && m) (Some Sends) None ≡ None → (cond m d 64 ≡ 64 → x ≡ None) → x ≡ None
    go None m e n = refl
    go (Some q) true e n = cc
    go (Some q) false e n = n refl

idle-link : (w : List ℕ) (l : ℕ) (c : Comp) (x : Option ℕ) → act_here w l c x ≡ None → (sends_at w l c ≡ 64 → x ≡ None) → x ≡ None
unfolding act_here sends_at
idle-link w l c x = go (ready_at l c)
  where
    go : (b : Bool) → cond b (act_by w x c (head_at w c.place)) None ≡ None → (cond b (sends_by w c (head_at w c.place)) 64 ≡ 64 → x ≡ None) → x ≡ None
    go true e n = head-idle w x c (head_at w c.place) e n
    go false e n = n refl

module _ (w : List ℕ) (good : script_ok w ≡ true) (l : ℕ) (st now : State) (heads nexts : List (Option ℕ)) (before acts : List (List ℕ)) (count p : ℕ) (few : st.n ≤ 256) (i : Going w l st now heads nexts before acts count p) (h : p < st.n) where
  abbrev cs : List Comp
  cs = comps_of now

  abbrev c : Comp
  c = comp_in now.c p

  abbrev s : ℕ
  s = sends_at w l c

  abbrev x : Option ℕ
  x = get_or heads s None

  at_here : (q : ℕ) → q < st.n → at (comps_of now) q ≡ accepted (comp_in now.c q)
  at_here q b = at-in-use now q (omega (arith, i.same))

  pub good-at : (q : ℕ) → q < st.n → comp_ok w (comp_in now.c q) ≡ true
  good-at q b = every-at (comp_ok w) (comps_of now) q _ i.fine (at_here q b)

  all-few : length (comps_of now) ≤ 256
  all-few = omega (arith, comps-length now, i.same)

  pub channel-fits : sends_at w l (comp_in now.c p) ≤ 64
  channel-fits = sends-fits w l (comp_in now.c p) good (good-at p h)

  no-channel : sends_at w l (comp_in now.c p) ≡ 64 → get_or heads (sends_at w l (comp_in now.c p)) None ≡ None
  no-channel e = ap (λ z. get_or heads z None) e ∙ i.queue.none

  -- the spare place has no link
  spare : (q : ℕ) → get_or heads (sends_at w l (comp_in now.c p)) None ≡ Some q → ltb (sends_at w l (comp_in now.c p)) 64 ≡ false → ⊥
  spare q e b = let z : Some q ≡ None = sym e ∙ no-channel (omega (arith, ltb-false (sends_at w l (comp_in now.c p)) 64 b, channel-fits)) in cc

  other-below : (y : Option ℕ) → get_or heads (sends_at w l (comp_in now.c p)) None ≡ y → other_of p y < st.n
  other-below None e = h
  other-below (Some q) e = by (ltb (sends_at w l (comp_in now.c p)) 64) refl
    where
      by : (b : Bool) → ltb (sends_at w l (comp_in now.c p)) 64 ≡ b → q < st.n
      by false b = absurd (spare q e b)
      by true b =
          let k = chain-some nexts q _ (subst (λ z. Chain nexts z (hearers w l (sends_at w l (comp_in now.c p)) (comps_of now))) e (i.queue.chain _ (ltb-true _ 64 b))) in
          let f = foremost-of w l (sends_at w l (comp_in now.c p)) (comps_of now) all-few q k.0 k.1 in
          omega (arith, at-within (comps_of now) q f.comp f.here, comps-length now, i.same)

  pub other_fits : other_of p (get_or heads (sends_at w l (comp_in now.c p)) None) < st.n
  other_fits = other-below _ refl

  module _ (v : Visit) (f : Performed w (act_here w l (comp_in now.c p) (get_or heads (sends_at w l (comp_in now.c p)) None)) (comp_in now.c p) (comp_in now.c (other_of p (get_or heads (sends_at w l (comp_in now.c p)) None))) v) where
    turned : (y : Option ℕ) → get_or heads (sends_at w l (comp_in now.c p)) None ≡ y → Performed w (act_here w l (comp_in now.c p) y) (comp_in now.c p) (comp_in now.c (other_of p y)) v
        → Turned w l p (other_of p y) (act_here w l (comp_in now.c p) y) y (comps_of now) (comp_in now.c p) v
    turned None e g = turned_none w good l p (comps_of now) c v all-few (at_here p h) (comp-fine w c (good-at p h)) (λ b. chain-none nexts x _ (i.queue.chain s b) e) g
    turned (Some q) e g = by (ltb s 64) refl
      where
        by : (b : Bool) → ltb (sends_at w l (comp_in now.c p)) 64 ≡ b → Turned w l p q (act_here w l (comp_in now.c p) (Some q)) (Some q) (comps_of now) (comp_in now.c p) v
        by false b = absurd (spare q e b)
        by true b =
            let k = chain-some nexts q _ (subst (λ z. Chain nexts z (hearers w l s (comps_of now))) e (i.queue.chain s (ltb-true _ 64 b))) in
            turned-some w good l p q (comps_of now) c (comp_in now.c q) v all-few (at_here p h) (at_here q (other-below (Some q) e)) (comp-fine w c (good-at p h)) (λ z. sym e ∙ no-channel z) k.0 k.1 g

    t : Turned w l p (other_of p (get_or heads (sends_at w l (comp_in now.c p)) None)) (act_here w l (comp_in now.c p) (get_or heads (sends_at w l (comp_in now.c p)) None)) (get_or heads (sends_at w l (comp_in now.c p)) None) (comps_of now) (comp_in now.c p) v
    t = turned _ refl f

    abbrev q : ℕ
    q = other_of p x

    abbrev k : Option Act
    k = act_here w l c x

    abbrev next : State
    next = record { c = sets (sets now.c (p * comp_size) (words_in v.x)) (q * comp_size) (words_in v.y); n = now.n }

    comps-next : comps_of next ≡ R.set (R.set (comps_of now) p v.x) q v.y
    comps-next =
        comps-put (record { c = sets now.c (p * comp_size) (words_in v.x); n = now.n }) q v.y (omega (arith, other_fits, i.same)) (omega (arith, i.same, few)) (length-sets now.c (p * comp_size) (words_in v.x) ∙ i.size) f.slots-y
        ∙ ap (λ z. R.set z q v.y) (comps-put now p v.x (omega (arith, i.same)) (omega (arith, i.same, few)) i.size f.slots-x)

    visited : (visit_at w l p (at (comps_of now) p) (comps_of now)).comps ≡ comps_of next
    visited = t.comps ∙ sym comps-next

    -- the chains of who still waits
    heads-same : (y : Option ℕ) → get_or heads s None ≡ y → y ≡ None → (g : ℕ) → get_or (set heads s None) g None ≡ get_or heads g None
    heads-same y e z g = by (eqb g s) refl
      where
        by : (b : Bool) → eqb g (sends_at w l (comp_in now.c p)) ≡ b → get_or (set heads (sends_at w l (comp_in now.c p)) None) g None ≡ get_or heads g None
        by true b = let m = eqb-true g s b in ap (λ n. get_or (set heads s None) n None) m ∙ get_or-set_same heads s None None (omega (arith, i.queue.size, channel-fits)) ∙ sym (ap (λ n. get_or heads n None) m ∙ e ∙ z)
        by false b = get_or-set_other heads s g None None (eqb-false g s b)

    queue-next : (y : Option ℕ) → get_or heads s None ≡ y → Turned w l p (other_of p y) (act_here w l c y) y (comps_of now) c v → comps_of next ≡ R.set (R.set (comps_of now) p v.x) (other_of p y) v.y
        → Queued w l (comps_of next) (set heads s (option_and y (get_or nexts (other_of p y) None))) nexts
    queue-next None e u z = record {
      chain = λ g b. subst (λ xs. Chain nexts (get_or (set heads s None) g None) xs) (sym (ap (hearers w l g) z ∙ u.still refl g)) (subst (λ m. Chain nexts m (hearers w l g (comps_of now))) (sym (heads-same None e refl g)) (i.queue.chain g b));
      none = heads-same None e refl 64 ∙ i.queue.none;
      size = length-set heads s None ∙ i.queue.size;
      room = i.queue.room;
    }
    queue-next (Some r) e u z = record {
      chain = λ g b. link g b (eqb g s) refl;
      none = get_or-set_other heads s 64 (get_or nexts r None) None (λ m. some (sym e ∙ no-channel (sym m))) ∙ i.queue.none;
      size = length-set heads s (get_or nexts r None) ∙ i.queue.size;
      room = i.queue.room;
    }
      where
        some : Some r ≡ None → ⊥
        some m = cc

        link : (g : ℕ) → g < 64 → (b : Bool) → eqb g (sends_at w l (comp_in now.c p)) ≡ b → Chain nexts (get_or (set heads (sends_at w l (comp_in now.c p)) (get_or nexts r None)) g None) (hearers w l g (comps_of next))
        link g b false m = subst (λ xs. Chain nexts (get_or (set heads s (get_or nexts r None)) g None) xs) (sym (ap (hearers w l g) z ∙ u.others some g m)) (subst (λ y. Chain nexts y (hearers w l g (comps_of now))) (sym (get_or-set_other heads s g (get_or nexts r None) None (eqb-false g s m))) (i.queue.chain g b))
        link g b true m =
            let o = eqb-true g s m in
            let d = chain-some nexts r _ (subst (λ y. Chain nexts y (hearers w l s (comps_of now))) e (i.queue.chain s (omega (arith, o, b)))) in
            subst (λ y. Chain nexts (get_or (set heads s (get_or nexts r None)) y None) (hearers w l y (comps_of next))) (sym o)
            (subst (λ xs. Chain nexts (get_or (set heads s (get_or nexts r None)) s None) xs) (sym (ap (hearers w l s) z ∙ u.first some d.0 d.1))
            (subst (λ y. Chain nexts y d.0) (sym (get_or-set_same heads s (get_or nexts r None) None (omega (arith, i.queue.size, channel-fits)))) d.2))

    -- the sweep over the positions left
    left-n : (m : ℕ) → st.n - p ≡ suc m → sweep_at w l p (st.n - p) (comps_of now) ≡ followed_at (visit_at w l p (at (comps_of now) p) (comps_of now)) (sweep_at w l (suc p) m)
    left-n m e = ap (λ z. sweep_at w l p z (comps_of now)) e ∙ (unfold sweep_at in refl)

    rest-is : (m : ℕ) → m ≡ st.n - (p + 1) → sweep_at w l (suc p) m (comps_of next) ≡ sweep_at w l (p + 1) (st.n - (p + 1)) (comps_of next)
    rest-is m e = ap (λ z. sweep_at w l z m (comps_of next)) (sym (add-one p)) ∙ ap (λ z. sweep_at w l (p + 1) z (comps_of next)) e

    stepped : sweep_at w l p (st.n - p) (comps_of now) ≡ record { actions = (visit_at w l p (at (comps_of now) p) (comps_of now)).actions ++ (sweep_at w l (p + 1) (st.n - (p + 1)) (comps_of next)).actions; comps = (sweep_at w l (p + 1) (st.n - (p + 1)) (comps_of next)).comps; sum = (visit_at w l p (at (comps_of now) p) (comps_of now)).sum + (sweep_at w l (p + 1) (st.n - (p + 1)) (comps_of next)).sum }
    stepped =
        left-n (st.n - (p + 1)) (omega arith)
        ∙ ap (λ z. record { actions = (visit_at w l p (at (comps_of now) p) (comps_of now)).actions ++ (sweep_at w l (suc p) (st.n - (p + 1)) z).actions; comps = (sweep_at w l (suc p) (st.n - (p + 1)) z).comps; sum = (visit_at w l p (at (comps_of now) p) (comps_of now)).sum + (sweep_at w l (suc p) (st.n - (p + 1)) z).sum }) visited
        ∙ ap (λ z. record { actions = (visit_at w l p (at (comps_of now) p) (comps_of now)).actions ++ z.actions; comps = z.comps; sum = (visit_at w l p (at (comps_of now) p) (comps_of now)).sum + z.sum }) (rest-is (st.n - (p + 1)) refl)

    turn-actions : take (count + some_of k) (set acts count (rec_at k p q)) ++ map rec_of (sweep_at w l (p + 1) (st.n - (p + 1)) (comps_of next)).actions ≡ map rec_of (sweep_at w l 0 st.n (comps_of st)).actions
    turn-actions =
        ap (λ z. z ++ map rec_of (sweep_at w l (p + 1) (st.n - (p + 1)) (comps_of next)).actions) (take-rec acts count k p q (omega (arith, i.room, i.enough, i.few-count)) ∙ ap (λ z. take count acts ++ z) (sym t.actions))
        ∙ append_assoc (take count acts) _ _
        ∙ ap (λ z. take count acts ++ z) (sym (map-append rec_of (visit_at w l p (at (comps_of now) p) (comps_of now)).actions _))
        ∙ ap (λ z. take count acts ++ map rec_of z.actions) (sym stepped)
        ∙ i.actions

    turn-comps : (sweep_at w l (p + 1) (st.n - (p + 1)) (comps_of next)).comps ≡ (sweep_at w l 0 st.n (comps_of st)).comps
    turn-comps = ap (λ z. z.comps) (sym stepped) ∙ i.comps

    -- what the position sends, and how long its sender had waited
    more-small : (k : Option Act) (n : ℕ) → n ≤ 1_000_000 → wait_by k n ≤ 1_000_000 * sent_by k
    more-small None n b = omega arith
    more-small (Some Calls) n b = omega arith
    more-small (Some Moves) n b = omega arith
    more-small (Some Sends) n b = omega arith

    one-most : (k : Option Act) → sent_by k ≤ 1
    one-most None = omega arith
    one-most (Some Calls) = omega arith
    one-most (Some Moves) = omega arith
    one-most (Some Sends) = omega arith

    adding-turn : (sent sum : ℕ) → Adding w l st now sent sum p
        → Adding w l st (record { c = sets (sets now.c (p * comp_size) (words_in v.x)) (other_of p (get_or heads (sends_at w l (comp_in now.c p)) None) * comp_size) (words_in v.y); n = now.n })
        (sent + sent_by (act_here w l (comp_in now.c p) (get_or heads (sends_at w l (comp_in now.c p)) None))) (sum + wait_by (act_here w l (comp_in now.c p) (get_or heads (sends_at w l (comp_in now.c p)) None)) (comp_in now.c p).wait) (p + 1)
    adding-turn sent sum a =
        let b = more-small k c.wait (comp-fine w c (good-at p h)).wait in
        record {
          few-sent = omega (arith, a.few-sent, one-most k);
          small = omega (arith, a.small, b);
          sent_is = omega (arith, a.sent_is, ap (λ z. messages z.actions) stepped, messages-append (visit_at w l p (at (comps_of now) p) (comps_of now)).actions (sweep_at w l (p + 1) (st.n - (p + 1)) (comps_of next)).actions, t.sent);
          sum_is = omega (arith, a.sum_is, ap (λ z. z.sum) stepped, t.waited);
        }

    pub adding-fires : (a : Act) → act_here w l (comp_in now.c p) (get_or heads (sends_at w l (comp_in now.c p)) None) ≡ Some a → (sent sum : ℕ) → Adding w l st now sent sum p
        → Adding w l st (record { c = sets (sets now.c (p * comp_size) (words_in v.x)) (other_of p (get_or heads (sends_at w l (comp_in now.c p)) None) * comp_size) (words_in v.y); n = now.n })
        (sent + sent_by (Some a)) (sum + wait_by (Some a) (comp_in now.c p).wait) (p + 1)
    adding-fires a d sent sum r = subst (λ z. Adding w l st next (sent + sent_by z) (sum + wait_by z c.wait) (p + 1)) d (adding-turn sent sum r)

    pub going-fires : (a : Act) → act_here w l (comp_in now.c p) (get_or heads (sends_at w l (comp_in now.c p)) None) ≡ Some a → Going w l st (record { c = sets (sets now.c (p * comp_size) (words_in v.x)) (other_of p (get_or heads (sends_at w l (comp_in now.c p)) None) * comp_size) (words_in v.y); n = now.n })
        (set heads (sends_at w l (comp_in now.c p)) (option_and (get_or heads (sends_at w l (comp_in now.c p)) None) (get_or nexts (other_of p (get_or heads (sends_at w l (comp_in now.c p)) None)) None))) nexts
        before (set acts count (rec_by a p (other_of p (get_or heads (sends_at w l (comp_in now.c p)) None))))
        (count + 1) (p + 1)
    going-fires a d = record {
      few-p = omega arith;
      few-count = omega (arith, i.few-count);
      size = length-sets (sets now.c (p * comp_size) (words_in v.x)) (q * comp_size) (words_in v.y) ∙ length-sets now.c (p * comp_size) (words_in v.x) ∙ i.size;
      same = i.same;
      past = past-then (omega arith) i.past (past-then (omega arith) (past-put now.c st.n p v.x h) (past-put (sets now.c (p * comp_size) (words_in v.x)) st.n q v.y other_fits));
      enough = i.enough;
      room = length-set acts count (rec_by a p q) ∙ i.room;
      rest = drop-set-lt (count + 1) acts count (rec_by a p q) (omega arith) ∙ sym (drop-drop 1 count acts) ∙ ap (drop 1) i.rest ∙ drop-drop 1 count before;
      fine = subst (λ z. every (comp_ok w) z ≡ true) visited (visit-fine w good l p (at (comps_of now) p) (comps_of now) i.fine);
      queue = queue-next _ refl t comps-next;
      actions = subst (λ z. take (count + some_of z) (set acts count (rec_at z p q)) ++ map rec_of (sweep_at w l (p + 1) (st.n - (p + 1)) (comps_of next)).actions ≡ map rec_of (sweep_at w l 0 st.n (comps_of st)).actions) d turn-actions;
      comps = turn-comps;
    }

  -- a position where nothing fires is passed, and nothing changes
  module _ (idle : act_here w l (comp_in now.c p) (get_or heads (sends_at w l (comp_in now.c p)) None) ≡ None) where
    -- the visit that leaves both as they were
    stays : Visit
    stays = record { x = comp_in now.c p; y = comp_in now.c (other_of p (get_or heads (sends_at w l (comp_in now.c p)) None)) }

    performed : (k : Option Act) → k ≡ None → Performed w k (comp_in now.c p) (comp_in now.c (other_of p (get_or heads (sends_at w l (comp_in now.c p)) None))) stays
    unfolding stays
    performed k e = record {
      slots-x = (comp-fine w _ (good-at p h)).slots;
      slots-y = (comp-fine w _ (good-at _ other_fits)).slots;
      none = λ z. (refl, refl);
      call = λ z. absurd (idles Calls z);
      move = λ z. absurd (idles Moves z);
      pair = λ z. absurd (idles Sends z);
    }
      where
        idles : (a : Act) → k ≡ Some a → ⊥
        idles a z = let n : Some a ≡ None = sym z ∙ e in cc

    kept : (y : Option ℕ) → get_or heads (sends_at w l (comp_in now.c p)) None ≡ y → y ≡ None → R.set (R.set (comps_of now) p (comp_in now.c p)) (other_of p y) (comp_in now.c (other_of p y)) ≡ comps_of now
    kept None e z = let a = put_same (comps_of now) p (comp_in now.c p) (at_here p h) in ap (λ cs. R.set cs p (comp_in now.c p)) a ∙ a
    kept (Some q) e z = cc

    pub going-idle : Going w l st now heads nexts before acts count (p + 1)
    unfolding stays
    going-idle =
        let z = comps-next stays (performed _ idle) ∙ kept _ refl (idle-link w l c x idle no-channel) in
        record {
          few-p = omega arith;
          few-count = omega (arith, i.few-count);
          size = i.size;
          same = i.same;
          past = i.past;
          enough = i.enough;
          room = i.room;
          rest = i.rest;
          fine = i.fine;
          queue = i.queue;
          actions =
              ap (λ cs. cs ++ map rec_of (sweep_at w l (p + 1) (st.n - (p + 1)) (comps_of now)).actions) (sym (take-rec acts count (act_here w l c x) p (other_of p x) (omega (arith, i.room, i.enough, i.few-count)) ∙ ap (λ k. take count acts ++ recs_of k p (other_of p x)) idle ∙ append-nil (take count acts)))
              ∙ subst (λ cs. take (count + some_of (act_here w l c x)) (set acts count (rec_at (act_here w l c x) p (other_of p x))) ++ map rec_of (sweep_at w l (p + 1) (st.n - (p + 1)) cs).actions ≡ map rec_of (sweep_at w l 0 st.n (comps_of st)).actions) z (turn-actions stays (performed _ idle));
          comps = subst (λ cs. (sweep_at w l (p + 1) (st.n - (p + 1)) cs).comps ≡ (sweep_at w l 0 st.n (comps_of st)).comps) z (turn-comps stays (performed _ idle));
        }

    pub adding-idle : (sent sum : ℕ) → Adding w l st now sent sum p → Adding w l st now sent sum (p + 1)
    unfolding stays
    adding-idle sent sum a =
        let z = comps-next stays (performed _ idle) ∙ kept _ refl (idle-link w l c x idle no-channel) in
        let b = adding-turn stays (performed _ idle) sent sum a in
        let e : sent_by (act_here w l c x) ≡ 0 = ap sent_by idle in
        let f : wait_by (act_here w l c x) c.wait ≡ 0 = ap (λ k. wait_by k c.wait) idle in
        record {
          few-sent = omega (arith, a.few-sent);
          small = a.small;
          sent_is = omega (arith, b.sent_is, ap (λ cs. messages (sweep_at w l (p + 1) (st.n - (p + 1)) cs).actions) z, e);
          sum_is = omega (arith, b.sum_is, ap (λ cs. (sweep_at w l (p + 1) (st.n - (p + 1)) cs).sum) z, f);
        }

pub adding-begin : (w : List ℕ) (l : ℕ) (st : State) → Adding w l st st 0 0 0
adding-begin w l st =
    let z : st.n - 0 ≡ st.n = omega arith in
    record {
      few-sent = omega arith;
      small = omega arith;
      sent_is = omega (arith, ap (λ n. messages (sweep_at w l 0 n (comps_of st)).actions) z);
      sum_is = omega (arith, ap (λ n. (sweep_at w l 0 n (comps_of st)).sum) z);
    }

pub adding-end : (w : List ℕ) (l : ℕ) (st now : State) (sent sum p : ℕ) → Adding w l st now sent sum p → st.n ≤ p
    → (sent ≡ messages (sweep_at w l 0 st.n (comps_of st)).actions) × (sum ≡ (sweep_at w l 0 st.n (comps_of st)).sum)
unfolding sweep_at messages
adding-end w l st now sent sum p a h =
    let none : st.n - p ≡ 0 = omega arith in
    (omega (arith, a.sent_is, ap (λ z. messages (sweep_at w l p z (comps_of now)).actions) none), omega (arith, a.sum_is, ap (λ z. (sweep_at w l p z (comps_of now)).sum) none))

pub going-begin : (w : List ℕ) (l : ℕ) (st : State) (heads nexts : List (Option ℕ)) (acts : List (List ℕ)) → length st.c ≡ state_words → st.n ≤ length acts → every (comp_ok w) (comps_of st) ≡ true → Queued w l (comps_of st) heads nexts → Going w l st st heads nexts acts acts 0 0
going-begin w l st heads nexts acts e r f q =
    let z : st.n - 0 ≡ st.n = omega arith in
    record { few-p = omega arith; few-count = omega arith; size = e; same = refl; past = past-none st.n st.c; enough = r; room = refl; rest = refl; fine = f; queue = q; actions = ap (λ n. map rec_of (sweep_at w l 0 n (comps_of st)).actions) z; comps = ap (λ n. (sweep_at w l 0 n (comps_of st)).comps) z }

pub going_end : (w : List ℕ) (l : ℕ) (st now : State) (heads nexts : List (Option ℕ)) (before acts : List (List ℕ)) (count p : ℕ) → Going w l st now heads nexts before acts count p → st.n ≤ p
    → (take count acts ≡ map rec_of (sweep_at w l 0 st.n (comps_of st)).actions) × (count ≡ length (sweep_at w l 0 st.n (comps_of st)).actions) × (comps_of now ≡ (sweep_at w l 0 st.n (comps_of st)).comps)
unfolding sweep_at
going_end w l st now heads nexts before acts count p i h = (records, number, sym done ∙ i.comps)
  where
    none : st.n - p ≡ 0
    none = omega arith

    done : (sweep_at w l p (st.n - p) (comps_of now)).comps ≡ comps_of now
    done = ap (λ z. (sweep_at w l p z (comps_of now)).comps) none

    records : take count acts ≡ map rec_of (sweep_at w l 0 st.n (comps_of st)).actions
    records = sym (append-nil (take count acts)) ∙ ap (λ z. take count acts ++ map rec_of z) (sym (ap (λ z. (sweep_at w l p z (comps_of now)).actions) none)) ∙ i.actions

    number : count ≡ length (sweep_at w l 0 st.n (comps_of st)).actions
    number = omega (arith, ap length records, length-take count acts, length-map (sweep_at w l 0 st.n (comps_of st)).actions rec_of, i.room, i.enough, i.few-count, i.few-p)
