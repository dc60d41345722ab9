-- Rights: document 02, R-6. With all of them what may fire is what fits, so that every answer is that of the rules without rights; what fits and lacks its
-- right is refused by 20, after the questions of what fits.
use Prim.Native.Nat.{ℕ, zero, suc, ◌<◌}
use mathlib.Core.List.{List, [], ◌∷◌, flat_map}
use mathlib.Core.Bool.{Bool, true, false, cond, not, ◌&&◌, ◌||◌, false≢true}
use mathlib.Core.Path.{◌≡◌, refl, sym, ap, ap₂, ◌∙◌, fun_ext}
use lib.Dec.{eqb}
use lib.ListN.{length}
use borrow.Author.Tests.{eqb-true, eqb-false}
use Rattle.terms.specs.Names.{Name, same_name}
use Rattle.terms.specs.Terms.{Component, Context, Def, Edition, Label, Rights, RightsOf, all_rights}
use Rattle.terms.specs.Terms.Label.{called, moved, sent}
use Rattle.terms.specs.Same.{every}
use Rattle.terms.specs.Rules.{Answer, Firing, Fired, Action, ◌>>=◌, ok, at, seek, some, only, set_all, fits, granted, fire, positions, firing_at, act, ready, due_go, urgent, pressing, forced}
use Rattle.terms.specs.Rules.Answer.{refused, accepted}
use Rattle.terms.specs.Rules.Kind.{calls, moves}
use Rattle.terms.specs.Rules.Firing.{alone, together}
use Rattle.terms.specs.Rules.Action.{single, pair}
use Rattle.terms.specs.Step.{earlier, foremost, partner, choice}
use Rattle.terms.specs.Rights.{number_of, right_by, looked_up, all_given, by_name, Full, SameRights}
use Rattle.terms.specs.Descent.{Closed, closed_in}
use Rattle.terms.proofs.Names.{name-eq, name-refl, and_in}
use Rattle.terms.proofs.Answers.{clash, took}
use Rattle.terms.proofs.Forced.{or_right}
use Rattle.terms.proofs.Lists.{every_in, every-at, at-within, seek-some}
use Rattle.terms.proofs.Alike.{fits-defs}

all-granted : (x : Label) → granted all_rights x ≡ true
unfolding granted
all-granted (called i l) = refl
all-granted (moved v l) = or_right (same_name v l) true refl
all-granted (sent c v l) = refl

-- `may fire` without rights is what document 01 has
pub all-fire : (ds : List Def) (e : Edition) → fire (record { defs = ds; edition = e; rights = all_rights }) ≡ fits (record { defs = ds; edition = e; rights = all_rights })
unfolding fire
all-fire ds e = fun_ext (λ x. go (fits (record { defs = ds; edition = e; rights = all_rights }) x))
  where
    go : (a : Answer Fired) → (a >>= λ f. cond (granted all_rights f.label) (accepted f) (refused 20)) ≡ a
    go (refused n) = refl
    go (accepted f) = rw (all-granted f.label)

-- So is every rule that goes by it: what an action answers, where the tick is not allowed, and what a step does at a position.
module _ (ds : List Def) (e : Edition) where
  abbrev All : Context
  All = record { defs = ds; edition = e; rights = all_rights }

  pub all-act : (a : Action) (net : List Component) → act All a net ≡ (firing_at a net >>= λ x. fits All x >>= λ f. accepted (record { label = f.label; comps = set_all (positions a) f.after net }))
  unfolding act
  all-act a net = ap (λ F. firing_at a net >>= λ x. F x >>= λ f. accepted (record { label = f.label; comps = set_all (positions a) f.after net })) (all-fire ds e)

  pub all-forced : (l : Name) (net : List Component)
      → forced All l net ≡ (let cs = flat_map (only (ready l)) net in some (λ c. (ok (fits All (alone calls c)) || (due_go c && ok (fits All (alone moves c)))) || some (λ b. ok (fits All (together c b))) cs) cs)
  unfolding forced pressing urgent
  all-forced l net =
      let cs = flat_map (only (ready l)) net in
      ap (λ F. some (λ c. (ok (F (alone calls c)) || (due_go c && ok (F (alone moves c)))) || some (λ b. ok (F (together c b))) cs) cs) (all-fire ds e)

  pub all-choice : (l : Name) (p : ℕ) (c : Component) (net : List Component)
      → choice All l p c net ≡ cond (ready l c) (cond (ok (fits All (alone calls c))) (accepted (single calls p)) (cond (due_go c) (accepted (single moves p)) (foremost earlier (λ b. ready l b && ok (fits All (together c b))) net >>= λ q. accepted (pair p q)))) (refused 0)
  unfolding choice partner
  all-choice l p c net =
      ap (λ F. cond (ready l c) (cond (ok (F (alone calls c))) (accepted (single calls p)) (cond (due_go c) (accepted (single moves p)) (foremost earlier (λ b. ready l b && ok (F (together c b))) net >>= λ q. accepted (pair p q)))) (refused 0)) (all-fire ds e)

-- it fits and lacks its right
pub no-right : (d : Context) (x : Firing) (f : Fired) → fits d x ≡ accepted f → granted d.rights f.label ≡ false → fire d x ≡ refused 20
unfolding fire
no-right d x f e h = rw (e, h)

-- it does not fit: the first question answered by no, whatever the rights
pub unfit-first : (d : Context) (x : Firing) (n : ℕ) → fits d x ≡ refused n → fire d x ≡ refused n
unfolding fire
unfit-first d x n e = rw e

-- ── rights of names from rights of numbers ──
-- a name that is there has a number
numbered : (xs : List Name) (k : ℕ) (x : Name) → at xs k ≡ accepted x → ok (number_of xs x) ≡ true
unfolding number_of seek at
numbered [] k x e = clash e
numbered (y ∷ ys) zero x e = rw (ap (λ z. same_name z x) (took e) ∙ name-refl x)
numbered (y ∷ ys) (suc k) x e = go (same_name y x) (number_of ys x) (numbered ys k x e)
  where
    go : (b : Bool) (a : Answer ℕ) → ok a ≡ true → ok (cond b (accepted 0) (a >>= λ p. accepted (suc p))) ≡ true
    go true a h = refl
    go false (refused n) h = absurd (false≢true h)
    go false (accepted p) h = refl

-- its number is a place of its own
record Found (xs : List Name) (x : Name) : Type 0 where
  pub place : ℕ
  pub number : number_of xs x ≡ accepted place
  pub below : place < length xs
  pub here : at xs place ≡ accepted x

number-here : (xs : List Name) (x : Name) (k : ℕ) → number_of xs x ≡ accepted k → at xs k ≡ accepted x
unfolding number_of
number-here xs x k e = let s = seek-some (λ y. same_name y x) xs k e in s.1 ∙ ap accepted (name-eq s.0 x s.2)

found : (xs : List Name) (k : ℕ) (x : Name) → at xs k ≡ accepted x → Found xs x
found xs k x e = go (number_of xs x) refl (numbered xs k x e)
  where
    go : (a : Answer ℕ) → number_of xs x ≡ a → ok a ≡ true → Found xs x
    go (refused n) p h = absurd (false≢true h)
    go (accepted i) p h = record { place = i; number = p; below = at-within xs i x (number-here xs x i p); here = number-here xs x i p }

-- a right looked up by name is one of numbers that the names have
pub looked-alike : (f g : ℕ → ℕ → Bool) (xs ys : List Name) (x y : Name) → ((i j : ℕ) → i < length xs → j < length ys → at xs i ≡ accepted x → at ys j ≡ accepted y → f i j ≡ g i j)
    → right_by f (number_of xs x) (number_of ys y) ≡ right_by g (number_of xs x) (number_of ys y)
unfolding right_by
looked-alike f g xs ys x y h = go (number_of xs x) refl (number_of ys y) refl
  where
    go : (a : Answer ℕ) → number_of xs x ≡ a → (b : Answer ℕ) → number_of ys y ≡ b → right_by f a b ≡ right_by g a b
    go (refused n) p b q = refl
    go (accepted i) p (refused n) q = refl
    go (accepted i) p (accepted j) q =
        let k = number-here xs x i p in
        let m = number-here ys y j q in
        h i j (at-within xs i x k) (at-within ys j y m) k m

-- all rights by number are all rights by name
pub all_named : (ls cs : List Name) (r : RightsOf ℕ ℕ) → Full (length ls) (length cs) r → by_name ls cs r ≡ all_rights
unfolding by_name
all_named ls cs r full = rw given-all
  where
    up : Rights
    up = looked_up ls cs r

    sends : (l c : Name) → Found ls l → Found cs c → (up.send l c && up.receive l c) ≡ true
    sends l c f h = unfold looked_up right_by in rw (f.number, h.number, full.send f.place h.place f.below h.below, full.receive f.place h.place f.below h.below)

    leaves : (l v : Name) → Found ls l → Found ls v → (same_name v l || up.leave l v) ≡ true
    leaves l v f h = go (eqb f.place h.place) refl
      where
        go : (b : Bool) → eqb f.place h.place ≡ b → (same_name v l || up.leave l v) ≡ true
        go true e = let z : l ≡ v = took (sym f.here ∙ ap (at ls) (eqb-true f.place h.place e) ∙ h.here) in rw (ap (same_name v) z ∙ name-refl v)
        go false e = or_right (same_name v l) _ (unfold looked_up right_by in rw (f.number, h.number, full.leave f.place h.place f.below h.below (eqb-false f.place h.place e)))

    at_one : (i : ℕ) (l : Name) → at ls i ≡ accepted l → (every (λ c. up.send l c && up.receive l c) cs && every (λ v. same_name v l || up.leave l v) ls) ≡ true
    at_one i l e =
        and_in _ _
        (every_in (λ c. up.send l c && up.receive l c) cs (λ j c h. sends l c (found ls i l e) (found cs j c h)))
        (every_in (λ v. same_name v l || up.leave l v) ls (λ j v h. leaves l v (found ls i l e) (found ls j v h)))

    given-all : all_given ls cs (looked_up ls cs r) ≡ true
    given-all = unfold all_given in every_in (λ l. every (λ c. up.send l c && up.receive l c) cs && every (λ v. same_name v l || up.leave l v) ls) ls at_one

-- ── what is not looked at ──
-- Rights of numbers that no name has, and those to leave for one's own location, are not looked at: the same may fire without them.
module _ (ls cs : List Name) (r r' : RightsOf ℕ ℕ) (a : SameRights (length ls) (length cs) r r') where
  sends-same : (l c : Name) → (looked_up ls cs r).send l c ≡ (looked_up ls cs r').send l c
  unfolding looked_up
  sends-same l c = looked-alike r.send r'.send ls cs l c (λ i j h k p q. a.send i j h k)

  receives-same : (l c : Name) → (looked_up ls cs r).receive l c ≡ (looked_up ls cs r').receive l c
  unfolding looked_up
  receives-same l c = looked-alike r.receive r'.receive ls cs l c (λ i j h k p q. a.receive i j h k)

  leaves-same : (l v : Name) → (same_name v l || (looked_up ls cs r).leave l v) ≡ (same_name v l || (looked_up ls cs r').leave l v)
  leaves-same l v = go (same_name v l) refl
    where
      other : same_name v l ≡ false → (looked_up ls cs r).leave l v ≡ (looked_up ls cs r').leave l v
      other e = unfold looked_up in looked-alike r.leave r'.leave ls ls l v (λ i j h k p q. a.leave i j h k (λ z. false≢true (sym e ∙ ap (same_name v) (took (sym p ∙ ap (at ls) z ∙ q)) ∙ name-refl v)))

      go : (b : Bool) → same_name v l ≡ b → (b || (looked_up ls cs r).leave l v) ≡ (b || (looked_up ls cs r').leave l v)
      go true e = refl
      go false e = other e

  given-same : all_given ls cs (looked_up ls cs r) ≡ all_given ls cs (looked_up ls cs r')
  unfolding all_given
  given-same =
      ap (λ f. every f ls) (fun_ext (λ l. ap₂ ◌&&◌
      (ap (λ f. every f cs) (fun_ext (λ c. ap₂ ◌&&◌ (sends-same l c) (receives-same l c))))
      (ap (λ f. every f ls) (fun_ext (λ v. leaves-same l v)))))

  looked-up-same : (x : Label) → granted (looked_up ls cs r) x ≡ granted (looked_up ls cs r') x
  unfolding granted
  looked-up-same (called i l) = refl
  looked-up-same (moved v l) = leaves-same l v
  looked-up-same (sent c v l) = ap₂ (λ s t. granted (record { send = λ k h. s; receive = λ k h. t; leave = λ k m. true }) (sent c v l)) (sends-same l c) (receives-same l c)

  granted-same : (x : Label) → granted (by_name ls cs r) x ≡ granted (by_name ls cs r') x
  unfolding by_name
  granted-same x = rw given-same (go (all_given ls cs (looked_up ls cs r')))
    where
      go : (b : Bool) → granted (cond b all_rights (looked_up ls cs r)) x ≡ granted (cond b all_rights (looked_up ls cs r')) x
      go true = refl
      go false = looked-up-same x

  pub fire-same : (ds : List Def) (e : Edition) → fire (record { defs = ds; edition = e; rights = by_name ls cs r }) ≡ fire (record { defs = ds; edition = e; rights = by_name ls cs r' })
  unfolding fire
  fire-same ds e = fun_ext (λ x. after (fits-rights x))
    where
      fits-rights : (x : Firing) → fits (record { defs = ds; edition = e; rights = by_name ls cs r }) x ≡ fits (record { defs = ds; edition = e; rights = by_name ls cs r' }) x
      fits-rights x = fits-defs ds e e (by_name ls cs r) (by_name ls cs r') x

      after : {x y : Answer Fired} → x ≡ y → (x >>= λ f. cond (granted (by_name ls cs r) f.label) (accepted f) (refused 20)) ≡ (y >>= λ f. cond (granted (by_name ls cs r') f.label) (accepted f) (refused 20))
      after {x} {y} z = ap (λ k. k >>= λ f. cond (granted (by_name ls cs r) f.label) (accepted f) (refused 20)) z ∙ ap (λ t. y >>= λ f. cond (t f.label) (accepted f) (refused 20)) (fun_ext granted-same)

-- where not all are given, a test of the names that there are decides whether rights lead out
pub closed-by : (ls cs : List Name) (r : RightsOf ℕ ℕ) (inside : Name → Bool) → all_given ls cs (looked_up ls cs r) ≡ false → closed_in ls (by_name ls cs r) inside ≡ true → Closed (by_name ls cs r) inside
unfolding by_name closed_in right_by
closed-by ls cs r inside some test l v i g = out (number_of ls l) refl (number_of ls v) refl leave
  where
    up : Rights
    up = looked_up ls cs r

    same : cond (all_given ls cs (looked_up ls cs r)) all_rights (looked_up ls cs r) ≡ up
    same = rw some

    leave : right_by r.leave (number_of ls l) (number_of ls v) ≡ true
    leave = unfold looked_up in sym (ap (λ x. x.leave l v) same) ∙ g

    lead : (a b c : Bool) → a ≡ true → b ≡ true → (not (a && b) || c) ≡ true → c ≡ true
    lead true true c h k e = e
    lead true false c h k e = absurd (false≢true k)
    lead false b c h k e = absurd (false≢true h)

    out : (a : Answer ℕ) → number_of ls l ≡ a → (b : Answer ℕ) → number_of ls v ≡ b → right_by r.leave a b ≡ true → inside v ≡ true
    out (refused m) p b q e = absurd (false≢true e)
    out (accepted m) p (refused n) q e = absurd (false≢true e)
    out (accepted m) p (accepted n) q e =
        lead (inside l) ((by_name ls cs r).leave l v) (inside v) i g
        (every-at (λ v. not (inside l && (by_name ls cs r).leave l v) || inside v) ls n v
        (every-at (λ l. every (λ v. not (inside l && (by_name ls cs r).leave l v) || inside v) ls) ls m l test (number-here ls l m p)) (number-here ls v n q))
