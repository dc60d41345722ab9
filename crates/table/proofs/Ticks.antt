-- When a tick is allowed on the table, and what it leaves, stand for what the rules say of what the components stand for.
-- Idea: the forced test looks at each component where it stands (Forced of the crate below), and a head that presses is a part that presses.
use Prim.Native.Nat.{ℕ, ◌<◌}
use mathlib.Core.List.{List, [], ◌∷◌, map, flat_map}
use mathlib.Core.Bool.{Bool, true, false, cond, ◌&&◌, ◌||◌, not, false≢true}
use mathlib.Core.Path.{◌≡◌, refl, ap, sym, fun_ext, ◌∙◌}
use lib.Dec.{eqb, ltb}
use borrow.Author.Tests.{eqb-true, eq-eqb}
use Rattle.terms.specs.Names.{Name, same_name}
use Rattle.terms.specs.Terms.{Process, Mark}
use Rattle.terms.specs.Terms.Process.{one}
use Rattle.terms.specs.Terms.Mark.{none}
use Rattle.terms.specs.Terms.Component.{comp}
use Rattle.terms.specs.Same.{every}
use Rattle.terms.specs.Substitution.{Env, sub}
use Rattle.terms.specs.Rules.{Answer, Kind, ◌>>=◌, ok, some, fire, ready, due_go, urgent, forced, pass, tick_with, tick}
use Rattle.terms.specs.Rules.Answer.{refused, accepted}
use Rattle.terms.specs.Rules.Kind.{calls, moves}
use Rattle.terms.specs.Rules.Firing.{alone, together}
use Rattle.terms.specs.Clock.{ticks_of}
use Rattle.terms.proofs.Names.{and-inv}
use Rattle.terms.proofs.Forced.{presses, forced-is}
use Rattle.table.specs.declared.Head.{Head}
use Rattle.table.specs.declared.Head.TheVariants.{Stop, Go, Out, In, Call}
use Rattle.table.specs.declared.Comp.{Comp}
use Rattle.table.specs.Words.{locs_in, loc_name, head_at}
use Rattle.table.specs.Meaning.{part_of, process_at, part_at, context_of, with_timer, env_at, means}
use Rattle.table.specs.Valid.{script_ok, comp_ok}
use Rattle.table.specs.Split.{due_at, passed}
use Rattle.table.specs.Fire.{Left, move_tag, left_at, may_leave, may_meet, granted_at, rightly, becomes_at, handed, meet_at, alone_at, together_at, ready_at, sent_on, hears, right_in, would_act, must_act, heard_at, presses_at, forced_at, passed_all, value_in, fits_alone, fits_together}
use Rattle.table.proofs.Tests.{CompFine, comp-fine}
use Rattle.table.proofs.Splits.{unmarked-is, marked-is, loc-eqb, passed-means}
use Rattle.table.proofs.Fires.{map_a, fired_of, map-append}
use Rattle.table.proofs.Granted.{alone-means, together-means}
use Rattle.table.proofs.ValidBool.{and-true, and-false}

-- ── lists ──
map-flat_map : {A B : Type 0} (f : A → B) (g : A → List A) (h : B → List B) (ok : A → Bool) (xs : List A) → every ok xs ≡ true → ((x : A) → ok x ≡ true → map f (g x) ≡ h (f x)) → map f (flat_map g xs) ≡ flat_map h (map f xs)
unfolding flat_map every
map-flat_map f g h ok [] e k = refl
map-flat_map f g h ok (x ∷ xs) e k =
    let a = and-inv (ok x) (every ok xs) e in
    rw (map-append f (g x) (flat_map g xs), k x a.0, map-flat_map f g h ok xs a.1 k)

pub some-map : {A B : Type 0} (f : B → Bool) (g : A → B) (xs : List A) → some f (map g xs) ≡ some (λ x. f (g x)) xs
unfolding some
some-map f g [] = refl
some-map f g (x ∷ xs) = rw (some-map f g xs)

pub some_same : {A : Type 0} (f g ok : A → Bool) (xs : List A) → every ok xs ≡ true → ((x : A) → ok x ≡ true → f x ≡ g x) → some f xs ≡ some g xs
unfolding some every
some_same f g ok [] e k = refl
some_same f g ok (x ∷ xs) e k = let a = and-inv (ok x) (every ok xs) e in rw (k x a.0, some_same f g ok xs a.1 k)

some-none : {A : Type 0} (f : A → Bool) (xs : List A) → some (λ x. f x && false) xs ≡ false
unfolding some
some-none f [] = refl
some-none f (x ∷ xs) = go (f x) (some-none f xs)
  where
    go : (b : Bool) → some (λ x. f x && false) xs ≡ false → ((b && false) || some (λ x. f x && false) xs) ≡ false
    go true h = h
    go false h = h

ok-map_a : {A B : Type 0} (f : A → B) (x : Answer A) → ok (map_a f x) ≡ ok x
ok-map_a f (refused n) = refl
ok-map_a f (accepted a) = refl

-- ── heads that press ──
-- an output and an input on its channel
unfoldable pub meets : Head → Head → Bool
meets Stop h = false
meets (Go t v p) h = false
meets (Out d t v p q) h = hears d h
meets (In d t k p q) h = false
meets (Call d n) h = false

-- the right of what fits
ok-rightly : (w : List ℕ) (f : Left) → ok (rightly w f) ≡ granted_at w f.tag
unfolding rightly
ok-rightly w f = go (granted_at w f.tag)
  where
    go : (b : Bool) → ok {A = Left} (cond b (accepted f) (refused 20)) ≡ b
    go true = refl
    go false = refl

meets-if : (w : List ℕ) (c e : Comp) (g h : Head) → eqb c.loc e.loc ≡ true → ok (meet_at c e g h >>= rightly w) ≡ (meets g h && right_in w c g)
unfolding meets hears meet_at right_in
meets-if w c e Stop h q = refl
meets-if w c e (Go t v p) h q = refl
meets-if w c e (In d t k p r) h q = refl
meets-if w c e (Call d n) h q = refl
meets-if w c e (Out d t v p r) Stop q = refl
meets-if w c e (Out d t v p r) (Go t₂ v₂ p₂) q = refl
meets-if w c e (Out d t v p r) (Out d₂ t₂ v₂ p₂ q₂) q = refl
meets-if w c e (Out d t v p r) (Call d₂ n) q = refl
meets-if w c e (Out d t v p r) (In d₂ t₂ k p₂ q₂) q = rw q (go (eqb d d₂))
  where
    go : (b : Bool) → ok {A = Left} (cond (b && true) (accepted (handed c e d (value_in c.vals v) p k p₂)) (refused 11) >>= rightly w) ≡ (b && may_meet w c.loc d)
    go true = ok-rightly w (handed c e d (value_in c.vals v) p k p₂) ∙ unfold handed granted_at in refl
    go false = refl

unfoldable pub is_due : Comp → Head → Bool
is_due c Stop = false
is_due c (Go u v p) = due_at c
is_due c (Out d u v p q) = false
is_due c (In d u k p q) = false
is_due c (Call d n) = false

due-means : (w : List ℕ) (l : Name) (m : Mark) (c : Comp) (f : ℕ → Process) (h : Head) (e : Env) → due_go (comp l m (one (with_timer (ticks_of c.timer) (sub (part_of w f c.place h) e)))) ≡ is_due c h
unfolding due_go is_due due_at with_timer sub part_of
due-means w l m c f Stop e = refl
due-means w l m c f (Go u v p) e = refl
due-means w l m c f (Out d u v p q) e = refl
due-means w l m c f (In d u k p q) e = refl
due-means w l m c f (Call d n) e = refl

-- a right that is the same for all
some-and : {A : Type 0} (f g : A → Bool) (b : Bool) (xs : List A) → some (λ x. f x && (g x && b)) xs ≡ (some (λ x. f x && g x) xs && b)
some-and f g true xs = ap (λ k. some k xs) (fun_ext (λ x. ap (◌&&◌ (f x)) (and-true (g x)))) ∙ sym (and-true (some (λ x. f x && g x) xs))
some-and f g false xs = ap (λ k. some k xs) (fun_ext (λ x. ap (◌&&◌ (f x)) (and-false (g x)))) ∙ some-none f xs ∙ sym (and-false (some (λ x. f x && g x) xs))

presses-by : (w : List ℕ) (l : ℕ) (cs : List Comp) (c : Comp) (h : Head)
    → ((ok (becomes_at w calls c h >>= rightly w) || (is_due c h && ok (becomes_at w moves c h >>= rightly w))) || some (λ e. ready_at l e && (meets h (head_at w e.place) && right_in w c h)) cs) ≡ must_act w (heard_at w l cs (sent_on h)) c h
unfolding is_due meets becomes_at must_act would_act right_in heard_at sent_on
presses-by w l cs c Stop = some-none (ready_at l) cs
presses-by w l cs c (Go u v p) = rw (some-none (ready_at l) cs, ok-rightly w (record { tag = move_tag (value_in c.vals v) c.loc; after = left_at c.loc (value_in c.vals v) p c.vals ∷ [] })) (unfold granted_at in go (due_at c) (may_leave w c.loc (value_in c.vals v)))
  where
    go : (a b : Bool) → ((a && b) || false) ≡ (a && b)
    go true true = refl
    go true false = refl
    go false b = refl
presses-by w l cs c (Out d u v p q) = some-and (ready_at l) (λ e. hears d (head_at w e.place)) (may_meet w c.loc d) cs
presses-by w l cs c (In d u k p q) = some-none (ready_at l) cs
presses-by w l cs c (Call d n) = unfold rightly granted_at in refl

module _ (w : List ℕ) (good : script_ok w ≡ true) where
  pub ready-means : (l : ℕ) (c : Comp) → l < locs_in w → CompFine w c → ready (loc_name w l) (means w c) ≡ ready_at l c
  unfolding ready_at
  ready-means l c h f = go (ltb c.mark 64) refl
    where
      go : (b : Bool) → ltb c.mark 64 ≡ b → ready (loc_name w l) (means w c) ≡ (not b && eqb c.loc l)
      go true e = unfold ready in rw (marked-is w c e)
      go false e = unfold ready in rw (unmarked-is w c e) (loc-eqb w good c.loc l f.loc h)

  pub alone-ok : (k : Kind) (c : Comp) → CompFine w c → ok (fire (context_of w) (alone k (means w c))) ≡ ok (alone_at w k c)
  alone-ok k c f = sym (ap ok (alone-means w good k c f)) ∙ ok-map_a (fired_of w) (alone_at w k c)

  pub together-ok : (c e : Comp) → CompFine w c → CompFine w e → ok (fire (context_of w) (together (means w c) (means w e))) ≡ ok (together_at w c e)
  together-ok c e f g = sym (ap ok (together-means w good c e f g)) ∙ ok-map_a (fired_of w) (together_at w c e)

  -- a component ready at l: its mark and its location
  pub record Ready (l : ℕ) (c : Comp) : Type 0 where
    pub free : ltb c.mark 64 ≡ false
    pub here : c.loc ≡ l

  pub is-ready : (l : ℕ) (c : Comp) → ready_at l c ≡ true → Ready l c
  unfolding ready_at
  is-ready l c e = go (ltb c.mark 64) refl e
    where
      go : (b : Bool) → ltb c.mark 64 ≡ b → (not b && eqb c.loc l) ≡ true → Ready l c
      go true q e = absurd (false≢true e)
      go false q e = record { free = q; here = eqb-true c.loc l e }

  -- the partner e of a component c that is ready at l
  pub partner-means : (l : ℕ) (c e : Comp) → l < locs_in w → CompFine w c → CompFine w e → Ready l c
      → (ready (loc_name w l) (means w e) && ok (fire (context_of w) (together (means w c) (means w e)))) ≡ (ready_at l e && (meets (head_at w c.place) (head_at w e.place) && right_in w c (head_at w c.place)))
  partner-means l c e h f g r = rw (ready-means l e h g, together-ok c e f g) (go (ready_at l e) refl)
    where
      go : (b : Bool) → ready_at l e ≡ b → (b && ok (together_at w c e)) ≡ (b && (meets (head_at w c.place) (head_at w e.place) && right_in w c (head_at w c.place)))
      go false q = refl
      go true q =
          let s = is-ready l e q in
          unfold together_at fits_together in rw (r.free, s.free) (meets-if w c e (head_at w c.place) (head_at w e.place) (eq-eqb c.loc e.loc (r.here ∙ sym s.here)))

  pub due-here : (c : Comp) → ltb c.mark 64 ≡ false → due_go (means w c) ≡ is_due c (head_at w c.place)
  unfolding part_at
  due-here c e =
      ap due_go (unmarked-is w c e)
      ∙ due-means w (loc_name w c.loc) none c (process_at w) (head_at w c.place) (env_at w c.place c.vals)

  urgent-here : (c : Comp) → CompFine w c → ltb c.mark 64 ≡ false
      → urgent (context_of w) (means w c) ≡ (ok (becomes_at w calls c (head_at w c.place) >>= rightly w) || (is_due c (head_at w c.place) && ok (becomes_at w moves c (head_at w c.place) >>= rightly w)))
  unfolding urgent alone_at fits_alone
  urgent-here c f e = rw (alone-ok calls c f, alone-ok moves c f, e, due-here c e)

  module _ (l : ℕ) (h : l < locs_in w) (cs : List Comp) (fine : every (comp_ok w) cs ≡ true) where
    press-means : (c : Comp) → CompFine w c → presses (context_of w) (loc_name w l) (map (means w) cs) (means w c) ≡ presses_at w l cs c
    unfolding presses presses_at
    press-means c f = rw (ready-means l c h f) (go (ready_at l c) refl)
      where
        partners : Ready l c → some (λ e. ready (loc_name w l) e && ok (fire (context_of w) (together (means w c) e))) (map (means w) cs) ≡ some (λ e. ready_at l e && (meets (head_at w c.place) (head_at w e.place) && right_in w c (head_at w c.place))) cs
        partners r =
            some-map (λ e. ready (loc_name w l) e && ok (fire (context_of w) (together (means w c) e))) (means w) cs
            ∙ some_same _ _ (comp_ok w) cs fine (λ e g. partner-means l c e h f (comp-fine w e g) r)

        go : (b : Bool) → ready_at l c ≡ b
            → (b && (urgent (context_of w) (means w c) || some (λ e. ready (loc_name w l) e && ok (fire (context_of w) (together (means w c) e))) (map (means w) cs)))
            ≡ (b && must_act w (heard_at w l cs (sent_on (head_at w c.place))) c (head_at w c.place))
        go false q = refl
        go true q = let r = is-ready l c q in rw (urgent-here c f r.free, partners r) (presses-by w l cs c (head_at w c.place))

    pub forced-means : forced (context_of w) (loc_name w l) (map (means w) cs) ≡ forced_at w l cs
    unfolding forced_at
    forced-means =
        forced-is (context_of w) (loc_name w l) (map (means w) cs)
        ∙ some-map (presses (context_of w) (loc_name w l) (map (means w) cs)) (means w) cs
        ∙ some_same _ _ (comp_ok w) cs fine (λ c f. press-means c (comp-fine w c f))

    pub passed-all : map (means w) (passed_all w l cs) ≡ flat_map (pass (context_of w) (λ m. same_name m (loc_name w l)) (loc_name w l)) (map (means w) cs)
    unfolding passed_all
    passed-all = map-flat_map (means w) (passed w l) (pass (context_of w) (λ m. same_name m (loc_name w l)) (loc_name w l)) (comp_ok w) cs fine (λ c f. passed-means w good l c h (comp-fine w c f))

    -- the tick at l on what the components stand for
    pub tick-means : tick (context_of w) (loc_name w l) (map (means w) cs) ≡ cond (forced_at w l cs) (refused 12) (accepted (map (means w) (passed_all w l cs)))
    unfolding tick tick_with
    tick-means = rw (forced-means, passed-all)
