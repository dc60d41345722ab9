-- What fits looks at the definitions alone: by cases on the part that fires, of which only a call opens the context. And contexts in which the same may fire:
-- every action, the forced test and the actions of a step are then the same, since they go by `fire` alone.
use Prim.Native.Nat.{ℕ, zero, suc}
use mathlib.Core.List.{List, flat_map}
use mathlib.Core.Bool.{cond, ◌&&◌, ◌||◌}
use mathlib.Core.Path.{◌≡◌, refl, ap, ◌∙◌, fun_ext}
use lib.ListN.{length}
use Rattle.terms.specs.Names.{Name}
use Rattle.terms.specs.Terms.{Part, Component, Def, Edition, Context, Rights}
use Rattle.terms.specs.Terms.Value.{loc, var}
use Rattle.terms.specs.Terms.Part.{stop, go, out, inp, call}
use Rattle.terms.specs.Terms.Process.{one, ◌∥◌}
use Rattle.terms.specs.Terms.Mark.{none, by}
use Rattle.terms.specs.Terms.Component.{comp}
use Rattle.terms.specs.Rules.{Answer, Kind, Firing, Action, ◌>>=◌, ok, at, some, only, set_all, becomes, fits, fire, positions, firing_at, act, ready, due_go, urgent, pressing, forced}
use Rattle.terms.specs.Rules.Answer.{refused, accepted}
use Rattle.terms.specs.Rules.Kind.{calls, moves}
use Rattle.terms.specs.Rules.Firing.{alone, together}
use Rattle.terms.specs.Rules.Action.{single, pair}
use Rattle.terms.specs.Step.{earlier, foremost, partner, choice, took_place, taken, followed, visit, sweep, fires}

module _ (ds : List Def) (e f : Edition) (r q : Rights) where
  abbrev D : Context
  D = record { defs = ds; edition = e; rights = r }

  abbrev E : Context
  E = record { defs = ds; edition = f; rights = q }

  becomes-defs : (k : Kind) (l : Name) (a : Part) → becomes D k l a ≡ becomes E k l a
  unfolding becomes
  becomes-defs calls l stop = refl
  becomes-defs calls l (go t v p) = refl
  becomes-defs calls l (out c t v p q) = refl
  becomes-defs calls l (inp c t y p q) = refl
  becomes-defs calls l (call i vs) = refl
  becomes-defs moves l stop = refl
  becomes-defs moves l (go t (loc v) p) = refl
  becomes-defs moves l (go t (var y) p) = refl
  becomes-defs moves l (out c t v p q) = refl
  becomes-defs moves l (inp c t y p q) = refl
  becomes-defs moves l (call i vs) = refl

  pub fits-defs : (x : Firing) → fits D x ≡ fits E x
  unfolding fits
  fits-defs (alone k (comp l (by m) p)) = refl
  fits-defs (alone k (comp l none (a ∥ p))) = refl
  fits-defs (alone k (comp l none (one a))) = rw (becomes-defs k l a)
  fits-defs (together (comp l (by m) p) c) = refl
  fits-defs (together (comp l none p) (comp k (by m) q)) = refl
  fits-defs (together (comp l none (a ∥ p)) (comp k none q)) = refl
  fits-defs (together (comp l none (one a)) (comp k none (b ∥ q))) = refl
  fits-defs (together (comp l none (one a)) (comp k none (one b))) = refl

module _ (D E : Context) (alike : fire D ≡ fire E) where
  pub act-alike : (a : Action) (net : List Component) → act D a net ≡ act E a net
  unfolding act
  act-alike a net = ap (λ F. firing_at a net >>= λ x. F x >>= λ r. accepted (record { label = r.label; comps = set_all (positions a) r.after net })) alike

  -- the forced test
  pub forced-alike : (l : Name) (net : List Component) → forced D l net ≡ forced E l net
  unfolding forced pressing urgent
  forced-alike l net =
      let cs = flat_map (only (ready l)) net in
      ap (λ F. some (λ c. (ok (F (alone calls c)) || (due_go c && ok (F (alone moves c)))) || some (λ b. ok (F (together c b))) cs) cs) alike

  -- the actions of a step, their labels and what they leave
  choice-alike : (l : Name) (p : ℕ) (c : Component) (net : List Component) → choice D l p c net ≡ choice E l p c net
  unfolding choice partner
  choice-alike l p c net =
      ap (λ F. cond (ready l c) (cond (ok (F (alone calls c))) (accepted (single calls p)) (cond (due_go c) (accepted (single moves p)) (foremost earlier (λ b. ready l b && ok (F (together c b))) net >>= λ q. accepted (pair p q)))) (refused 0)) alike

  taken-alike : (x : Answer Action) (net : List Component) → taken D x net ≡ taken E x net
  unfolding taken
  taken-alike (refused n) net = refl
  taken-alike (accepted a) net = ap (λ r. took_place a r net) (act-alike a net)

  visit-alike : (l : Name) (p : ℕ) (x : Answer Component) (net : List Component) → visit D l p x net ≡ visit E l p x net
  unfolding visit
  visit-alike l p (refused n) net = refl
  visit-alike l p (accepted c) net = ap (λ x. taken D x net) (choice-alike l p c net) ∙ taken-alike (choice E l p c net) net

  sweep-alike : (l : Name) (n p : ℕ) → sweep D l p n ≡ sweep E l p n
  unfolding sweep
  sweep-alike l zero p = refl
  sweep-alike l (suc n) p = fun_ext (λ net. ap (λ r. followed r (sweep D l (suc p) n)) (visit-alike l p (at net p) net) ∙ ap (followed (visit E l p (at net p) net)) (sweep-alike l n (suc p)))

  pub fires-alike : (l : Name) (net : List Component) → fires D l net ≡ fires E l net
  unfolding fires
  fires-alike l net = ap (λ s. s net) (sweep-alike l (length net) 0)
