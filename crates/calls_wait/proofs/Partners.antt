-- The partner on a valid table stands for the partner of the rules: the same inputs may meet an output, and they are in the same order.
use Prim.Native.Nat.{ℕ, ◌<◌}
use mathlib.Core.List.{List, [], ◌∷◌, map}
use mathlib.Core.Bool.{Bool, true, false, not, ◌&&◌, false≢true}
use mathlib.Core.Path.{◌≡◌, refl, sym, ap, fun_ext, ◌∙◌}
use Rattle.terms.specs.Names.{Name}
use Rattle.terms.specs.Terms.{Timer, Process, Mark, sooner}
use Rattle.terms.specs.Terms.Mark.{none}
use Rattle.terms.specs.Terms.Process.{one}
use Rattle.terms.specs.Terms.Component.{comp}
use Rattle.terms.specs.Same.{every}
use Rattle.terms.specs.Substitution.{Env, sub}
use Rattle.terms.specs.Rules.{ok, seek, some, fire, ready}
use Rattle.terms.specs.Rules.Answer.{refused}
use Rattle.terms.specs.Rules.Firing.{together}
use Rattle.terms.specs.Step.{timer_in, earlier, foremost, partner}
use Rattle.terms.specs.Clock.{ticks_of}
use Rattle.terms.proofs.Names.{and-inv}
use Rattle.terms.proofs.Lists.{seek-nothing}
use Rattle.terms.proofs.Clock.{rank-sooner}
use Rattle.table.specs.declared.Comp.{Comp}
use Rattle.table.specs.declared.Head.{Head}
use Rattle.table.specs.declared.Head.TheVariants.{Stop, Go, Out, In, Call}
use Rattle.table.specs.Words.{locs_in, loc_name, head_at}
use Rattle.table.specs.Meaning.{part_of, process_at, part_at, context_of, with_timer, env_at, means}
use Rattle.table.specs.Valid.{script_ok, comp_ok}
use Rattle.table.specs.Fire.{ready_at, hears, right_in}
use Rattle.table.proofs.Tests.{CompFine, comp-fine}
use Rattle.table.proofs.Splits.{unmarked-is}
use Rattle.table.proofs.Ticks.{Ready, is-ready, meets, partner-means, some-map, some_same}
use Rattle.calls_wait.specs.Waits.{before_at}

-- ── lists ──
seek-map : {A B : Type 0} (f : B → Bool) (g : A → B) (xs : List A) → seek f (map g xs) ≡ seek (λ x. f (g x)) xs
unfolding seek
seek-map f g [] = refl
seek-map f g (x ∷ xs) = rw (seek-map f g xs)

seek-same : {A : Type 0} (f g ok : A → Bool) (xs : List A) → every ok xs ≡ true → ((x : A) → ok x ≡ true → f x ≡ g x) → seek f xs ≡ seek g xs
unfolding seek every
seek-same f g ok [] e k = refl
seek-same f g ok (x ∷ xs) e k = let a = and-inv (ok x) (every ok xs) e in rw (k x a.0, seek-same f g ok xs a.1 k)

foremost-map : {A B : Type 0} (before : B → B → Bool) (f : B → Bool) (g : A → B) (xs : List A) → foremost before f (map g xs) ≡ foremost (λ x y. before (g x) (g y)) (λ x. f (g x)) xs
unfolding foremost
foremost-map before f g xs =
    seek-map (λ x. f x && not (some (λ y. f y && before y x) (map g xs))) g xs
    ∙ ap (λ k. seek k xs) (fun_ext (λ x. ap (λ b. f (g x) && not b) (some-map (λ y. f y && before y (g x)) g xs)))

-- two orders that are the same for what passes
foremost-same : {A : Type 0} (before after : A → A → Bool) (f g ok : A → Bool) (xs : List A) → every ok xs ≡ true → ((x : A) → ok x ≡ true → f x ≡ g x)
    → ((x y : A) → ok x ≡ true → ok y ≡ true → g x ≡ true → g y ≡ true → before x y ≡ after x y) → foremost before f xs ≡ foremost after g xs
unfolding foremost
foremost-same before after f g ok xs e k o = seek-same _ _ ok xs e (λ x h. rw (k x h) (here x h (g x) refl))
  where
    there : (x : _) → ok x ≡ true → g x ≡ true → (y : _) → ok y ≡ true → (b : Bool) → g y ≡ b → (b && before y x) ≡ (b && after y x)
    there x h t y i true u = o y x i h u t
    there x h t y i false u = refl

    here : (x : _) → ok x ≡ true → (b : Bool) → g x ≡ b → (b && not (some (λ y. f y && before y x) xs)) ≡ (b && not (some (λ y. g y && after y x) xs))
    here x h false t = refl
    here x h true t = ap not (some_same _ _ ok xs e (λ y i. rw (k y i) (there x h t y i (g y) refl)))

pub foremost-nothing : {A : Type 0} (before : A → A → Bool) (f : A → Bool) (xs : List A) → ((x : A) → f x ≡ false) → foremost before f xs ≡ refused 8
unfolding foremost
foremost-nothing before f xs h = seek-nothing _ xs (λ q y e. rw (h y))

-- ── the timer of an input ──
hears-timer : (w : List ℕ) (l : Name) (m : Mark) (t : Timer) (f : ℕ → Process) (i d : ℕ) (h : Head) (e : Env) → hears d h ≡ true → timer_in (comp l m (one (with_timer t (sub (part_of w f i h) e)))) ≡ t
unfolding hears timer_in with_timer sub part_of
hears-timer w l m t f i d Stop e k = absurd (false≢true k)
hears-timer w l m t f i d (Go u v p) e k = absurd (false≢true k)
hears-timer w l m t f i d (Out c u v p q) e k = absurd (false≢true k)
hears-timer w l m t f i d (In c u x p q) e k = refl
hears-timer w l m t f i d (Call c n) e k = absurd (false≢true k)

meets-hears : (g h : Head) → meets g h ≡ true → (d : ℕ) × (hears d h ≡ true)
unfolding meets
meets-hears Stop h e = absurd (false≢true e)
meets-hears (Go t v p) h e = absurd (false≢true e)
meets-hears (Out d t v p q) h e = (d, e)
meets-hears (In d t k p q) h e = absurd (false≢true e)
meets-hears (Call d n) h e = absurd (false≢true e)

module _ (w : List ℕ) (good : script_ok w ≡ true) (l : ℕ) (inl : l < locs_in w) (c : Comp) where
  -- what may meet the component c at l
  abbrev fitting : Comp → Bool
  fitting x = ready_at l x && (meets (head_at w c.place) (head_at w x.place) && right_in w c (head_at w c.place))

  timer-here : (x : Comp) → fitting x ≡ true → timer_in (means w x) ≡ ticks_of x.timer
  unfolding part_at
  timer-here x e =
      let a = and-inv (ready_at l x) _ e in
      let b = and-inv (meets (head_at w c.place) (head_at w x.place)) _ a.1 in
      let d = meets-hears (head_at w c.place) (head_at w x.place) b.0 in
      ap timer_in (unmarked-is w x (is-ready w good l x a.0).free)
      ∙ hears-timer w (loc_name w x.loc) none (ticks_of x.timer) (process_at w) x.place d.0 (head_at w x.place) (env_at w x.place x.vals) d.1

  pub partner-stands : (cs : List Comp) → CompFine w c → every (comp_ok w) cs ≡ true → Ready w good l c
      → partner (context_of w) (loc_name w l) (means w c) (map (means w) cs) ≡ foremost before_at (λ x. ready_at l x && (meets (head_at w c.place) (head_at w x.place) && right_in w c (head_at w c.place))) cs
  unfolding partner
  partner-stands cs f e r =
      foremost-map earlier (λ x. ready (loc_name w l) x && ok (fire (context_of w) (together (means w c) x))) (means w) cs
      ∙ foremost-same _ _ _ fitting (comp_ok w) cs e (λ x g. partner-means w good l c x inl f (comp-fine w x g) r)
      (λ x y g h i j. ap (λ t. sooner t (timer_in (means w y))) (timer-here x i) ∙ ap (sooner (ticks_of x.timer)) (timer-here y j) ∙ sym (rank-sooner x.timer y.timer))
