-- An action on the components of a valid table is the rules' action on what they stand for, refusals 8 to 11 and 20 included.
-- The names of an action's label have the numbers of its tag (Tags), so that the rights of the names are those of the numbers.
use Prim.Native.Nat.{ℕ, suc, ◌<◌}
use native.Mathlib.Omega.{arith}
use mathlib.Core.List.{List, [], ◌∷◌, map}
use mathlib.Core.Bool.{Bool, true, false, cond, ◌&&◌, ◌||◌}
use mathlib.Core.Path.{◌≡◌, refl, ap, sym, subst, ◌∙◌}
use lib.Dec.{eqb, ltb}
use lib.ListN.{length, get_or}
use borrow.Author.Tests.{ltb-true}
use Rattle.terms.specs.Names.{Name, same_name}
use Rattle.terms.specs.Terms.{Rights, RightsOf, all_rights}
use Rattle.terms.specs.Terms.Label.{called, moved, sent}
use Rattle.terms.specs.Letters.{is_location, is_small}
use Rattle.terms.specs.Same.{every}
use Rattle.terms.specs.Rights.{number_of, right_by, looked_up, all_given, by_name}
use Rattle.terms.specs.Rules.{Answer, Kind, Action, ◌>>=◌, at, set_all, positions, granted, fire, firing_at, act, seek}
use Rattle.terms.specs.Rules.Answer.{refused, accepted}
use Rattle.terms.specs.Rules.Firing.{alone, together}
use Rattle.terms.specs.Rules.Action.{single, pair}
use Rattle.terms.proofs.Forced.{or_right}
use Rattle.terms.proofs.Lists.{every-at}
use Rattle.terms.proofs.Names.{and-inv}
use Rattle.table.specs.declared.Comp.{Comp}
use Rattle.table.specs.Words.{locs_in, chans_in, defs_in, loc_name, chan_name, def_name, rights_in}
use Rattle.table.specs.Meaning.{list_from, context_of, rights_of, means}
use Rattle.table.specs.Valid.{index, script_ok, comp_ok}
use Rattle.table.specs.Fire.{Tag, label_of, tag_held, may_leave, may_meet, granted_at, rightly, Left, fits_alone, fits_together, alone_at, together_at, left_by, act_on}
use Rattle.table.proofs.Tests.{script-fine, CompFine, comp-fine, every-get_or}
use Rattle.table.proofs.Splits.{loc-eqb}
use Rattle.table.proofs.Fires.{map_a, fired_of, fits-alone-means, fits-together-means, at_map, set_all-map, acted_of}
use Rattle.table.proofs.ValidLists.{list_from-length, list_from-at}
use Rattle.table.proofs.Tags.{numbered, Tagged, fits-alone-tagged, fits-together-tagged}

-- ── rights by number ──
-- a name that is there has its first place for its number
pub number-index : (xs : List Name) (x : Name) → index xs x < length xs → number_of xs x ≡ accepted (index xs x)
unfolding number_of seek index
number-index [] x h = absurd (omega arith)
number-index (y ∷ ys) x h = go (same_name y x) h (number-index ys x)
  where
    go : (b : Bool) → cond b 0 (suc (index ys x)) < suc (length ys) → (index ys x < length ys → number_of ys x ≡ accepted (index ys x))
        → cond b (accepted 0) (number_of ys x >>= λ p. accepted (suc p)) ≡ accepted (cond b 0 (suc (index ys x)))
    go true h k = refl
    go false h k = rw (k (omega arith))

-- of names in order of number, where ls and cs number them
module _ (ls cs : List Name) (r : RightsOf ℕ ℕ) where
  abbrev up : Rights
  up = looked_up ls cs r

  -- all are given, and so is each of names that are there
  all-send : all_given ls cs up ≡ true → (i j : ℕ) → i < length ls → j < length cs → (up.send (get_or ls i []) (get_or cs j []) && up.receive (get_or ls i []) (get_or cs j [])) ≡ true
  unfolding all_given
  all-send e i j h k =
      let a = and-inv (every (λ c. up.send (get_or ls i []) c && up.receive (get_or ls i []) c) cs) _ (every-get_or (λ l. every (λ c. up.send l c && up.receive l c) cs && every (λ v. same_name v l || up.leave l v) ls) ls [] i e h) in
      every-get_or (λ c. up.send (get_or ls i []) c && up.receive (get_or ls i []) c) cs [] j a.0 k

  all-leave : all_given ls cs up ≡ true → (i j : ℕ) → i < length ls → j < length ls → (same_name (get_or ls j []) (get_or ls i []) || up.leave (get_or ls i []) (get_or ls j [])) ≡ true
  unfolding all_given
  all-leave e i j h k =
      let a = and-inv (every (λ c. up.send (get_or ls i []) c && up.receive (get_or ls i []) c) cs) _ (every-get_or (λ l. every (λ c. up.send l c && up.receive l c) cs && every (λ v. same_name v l || up.leave l v) ls) ls [] i e h) in
      every-get_or (λ v. same_name v (get_or ls i []) || up.leave (get_or ls i []) v) ls [] j a.1 k

  -- whether they are all given or looked up one by one
  named-send : (i j : ℕ) → i < length ls → j < length cs
      → ((by_name ls cs r).send (get_or ls i []) (get_or cs j []) && (by_name ls cs r).receive (get_or ls i []) (get_or cs j [])) ≡ (up.send (get_or ls i []) (get_or cs j []) && up.receive (get_or ls i []) (get_or cs j []))
  unfolding by_name
  named-send i j h k = go (all_given ls cs up) (λ e. all-send e i j h k)
    where
      go : (b : Bool) → (b ≡ true → (up.send (get_or ls i []) (get_or cs j []) && up.receive (get_or ls i []) (get_or cs j [])) ≡ true)
          → ((cond b all_rights up).send (get_or ls i []) (get_or cs j []) && (cond b all_rights up).receive (get_or ls i []) (get_or cs j [])) ≡ (up.send (get_or ls i []) (get_or cs j []) && up.receive (get_or ls i []) (get_or cs j []))
      go true f = sym (f refl)
      go false f = refl

  named-leave : (i j : ℕ) → i < length ls → j < length ls
      → (same_name (get_or ls j []) (get_or ls i []) || (by_name ls cs r).leave (get_or ls i []) (get_or ls j [])) ≡ (same_name (get_or ls j []) (get_or ls i []) || up.leave (get_or ls i []) (get_or ls j []))
  unfolding by_name
  named-leave i j h k = go (all_given ls cs up) (λ e. all-leave e i j h k)
    where
      go : (b : Bool) → (b ≡ true → (same_name (get_or ls j []) (get_or ls i []) || up.leave (get_or ls i []) (get_or ls j [])) ≡ true)
          → (same_name (get_or ls j []) (get_or ls i []) || (cond b all_rights up).leave (get_or ls i []) (get_or ls j [])) ≡ (same_name (get_or ls j []) (get_or ls i []) || up.leave (get_or ls i []) (get_or ls j []))
      go true f = or_right (same_name (get_or ls j []) (get_or ls i [])) true refl ∙ sym (f refl)
      go false f = refl

-- ── the right of a label is that of its tag ──
module _ (w : List ℕ) (good : script_ok w ≡ true) where
  abbrev locs : List Name
  locs = list_from 0 (locs_in w) (loc_name w)

  abbrev chans : List Name
  chans = list_from 0 (chans_in w) (chan_name w)

  loc-at : (l : ℕ) → l < locs_in w → get_or locs l [] ≡ loc_name w l
  loc-at l h = list_from-at 0 (locs_in w) (loc_name w) l [] h ∙ ap (loc_name w) (omega arith)

  chan-at : (c : ℕ) → c < chans_in w → get_or chans c [] ≡ chan_name w c
  chan-at c h = list_from-at 0 (chans_in w) (chan_name w) c [] h ∙ ap (chan_name w) (omega arith)

  loc-numbered : (l : ℕ) → l < locs_in w → number_of locs (loc_name w l) ≡ accepted l
  loc-numbered l h =
      let e = numbered is_location (loc_name w) (locs_in w) l (script-fine w good).loc-names h in
      number-index locs (loc_name w l) (omega (arith, e, list_from-length 0 (locs_in w) (loc_name w))) ∙ ap accepted e

  chan-numbered : (c : ℕ) → c < chans_in w → number_of chans (chan_name w c) ≡ accepted c
  chan-numbered c h =
      let e = numbered is_small (chan_name w) (chans_in w) c (script-fine w good).chan-names h in
      number-index chans (chan_name w c) (omega (arith, e, list_from-length 0 (chans_in w) (chan_name w))) ∙ ap accepted e

  move-right : (l v : ℕ) → l < locs_in w → v < locs_in w → (same_name (loc_name w v) (loc_name w l) || (rights_of w).leave (loc_name w l) (loc_name w v)) ≡ may_leave w l v
  unfolding rights_of may_leave looked_up right_by
  move-right l v h k =
      subst (λ x. (same_name (loc_name w v) x || (by_name locs chans (rights_in w)).leave x (loc_name w v)) ≡ (same_name (loc_name w v) x || (looked_up locs chans (rights_in w)).leave x (loc_name w v))) (loc-at l h)
      (subst (λ y. (same_name y (get_or locs l []) || (by_name locs chans (rights_in w)).leave (get_or locs l []) y) ≡ (same_name y (get_or locs l []) || (looked_up locs chans (rights_in w)).leave (get_or locs l []) y)) (loc-at v k)
      (named-leave locs chans (rights_in w) l v (omega (arith, list_from-length 0 (locs_in w) (loc_name w))) (omega (arith, list_from-length 0 (locs_in w) (loc_name w)))))
      ∙ by_number
    where
      by_number : (same_name (loc_name w v) (loc_name w l) || (looked_up locs chans (rights_in w)).leave (loc_name w l) (loc_name w v)) ≡ (eqb v l || (rights_in w).leave l v)
      by_number = rw (loc-eqb w good v l k h, loc-numbered l h, loc-numbered v k)

  meet_right : (l c : ℕ) → l < locs_in w → c < chans_in w → ((rights_of w).send (loc_name w l) (chan_name w c) && (rights_of w).receive (loc_name w l) (chan_name w c)) ≡ may_meet w l c
  unfolding rights_of may_meet looked_up right_by
  meet_right l c h k =
      subst (λ x. ((by_name locs chans (rights_in w)).send x (chan_name w c) && (by_name locs chans (rights_in w)).receive x (chan_name w c)) ≡ ((looked_up locs chans (rights_in w)).send x (chan_name w c) && (looked_up locs chans (rights_in w)).receive x (chan_name w c))) (loc-at l h)
      (subst (λ y. ((by_name locs chans (rights_in w)).send (get_or locs l []) y && (by_name locs chans (rights_in w)).receive (get_or locs l []) y) ≡ ((looked_up locs chans (rights_in w)).send (get_or locs l []) y && (looked_up locs chans (rights_in w)).receive (get_or locs l []) y)) (chan-at c k)
      (named-send locs chans (rights_in w) l c (omega (arith, list_from-length 0 (locs_in w) (loc_name w))) (omega (arith, list_from-length 0 (chans_in w) (chan_name w)))))
      ∙ by_number
    where
      by_number : ((looked_up locs chans (rights_in w)).send (loc_name w l) (chan_name w c) && (looked_up locs chans (rights_in w)).receive (loc_name w l) (chan_name w c)) ≡ ((rights_in w).send l c && (rights_in w).receive l c)
      by_number = rw (loc-numbered l h, chan-numbered c k)

  granted-means : (t : Tag) → tag_held w t ≡ true → granted (rights_of w) (label_of w t) ≡ granted_at w t
  unfolding tag_held label_of granted_at granted
  granted-means t e =
      let s = and-inv (ltb t.spot (locs_in w)) _ e in
      first (eqb t.kind 1) (ltb-true t.spot (locs_in w) s.0) s.1
    where
      second : (b : Bool) → t.spot < locs_in w → cond b (ltb t.a (locs_in w)) (ltb t.a (chans_in w) && ltb t.b (locs_in w)) ≡ true
          → granted (rights_of w) (cond b (moved (loc_name w t.a) (loc_name w t.spot)) (sent (chan_name w t.a) (loc_name w t.b) (loc_name w t.spot))) ≡ cond b (may_leave w t.spot t.a) (may_meet w t.spot t.a)
      second true l h = move-right t.spot t.a l (ltb-true t.a (locs_in w) h)
      second false l h = meet_right t.spot t.a l (ltb-true t.a (chans_in w) (and-inv (ltb t.a (chans_in w)) _ h).0)

      first : (b : Bool) → t.spot < locs_in w → cond b (ltb t.a (defs_in w)) (cond (eqb t.kind 2) (ltb t.a (locs_in w)) (ltb t.a (chans_in w) && ltb t.b (locs_in w))) ≡ true
          → granted (rights_of w) (cond b (called (def_name w t.a) (loc_name w t.spot)) (cond (eqb t.kind 2) (moved (loc_name w t.a) (loc_name w t.spot)) (sent (chan_name w t.a) (loc_name w t.b) (loc_name w t.spot))))
          ≡ cond b true (cond (eqb t.kind 2) (may_leave w t.spot t.a) (may_meet w t.spot t.a))
      first true l h = refl
      first false l h = second (eqb t.kind 2) l h

  -- ── an action with its components ──
  rightly-means : (x : Answer Left) → Tagged w x → map_a (fired_of w) (x >>= rightly w) ≡ (map_a (fired_of w) x >>= λ f. cond (granted (rights_of w) f.label) (accepted f) (refused 20))
  unfolding rightly fired_of
  rightly-means (refused n) t = refl
  rightly-means (accepted f) t = rw (granted-means f.tag t.held) (go (granted_at w f.tag))
    where
      go : (b : Bool) → map_a (fired_of w) (cond b (accepted f) (refused 20)) ≡ cond b (accepted (fired_of w f)) (refused 20)
      go true = refl
      go false = refl

  pub alone-means : (k : Kind) (c : Comp) → CompFine w c → map_a (fired_of w) (alone_at w k c) ≡ fire (context_of w) (alone k (means w c))
  unfolding alone_at fire context_of
  alone-means k c f = rightly-means (fits_alone w k c) (fits-alone-tagged w good k c f) ∙ ap (λ x. x >>= λ f. cond (granted (rights_of w) f.label) (accepted f) (refused 20)) (fits-alone-means w good k c f)

  pub together-means : (c e : Comp) → CompFine w c → CompFine w e → map_a (fired_of w) (together_at w c e) ≡ fire (context_of w) (together (means w c) (means w e))
  unfolding together_at fire context_of
  together-means c e f g = rightly-means (fits_together w c e) (fits-together-tagged w good c e f) ∙ ap (λ x. x >>= λ f. cond (granted (rights_of w) f.label) (accepted f) (refused 20)) (fits-together-means w good c e f g)

-- ── at positions ──
module _ (w : List ℕ) (good : script_ok w ≡ true) (cs : List Comp) (fine : every (comp_ok w) cs ≡ true) where
  replaced : (ps : List ℕ) (x : Answer Left)
      → map_a (acted_of w) (x >>= λ f. accepted (record { tag = f.tag; comps = set_all ps f.after cs }))
      ≡ (map_a (fired_of w) x >>= λ f. accepted (record { label = f.label; comps = set_all ps f.after (map (means w) cs) }))
  unfolding acted_of fired_of
  replaced ps (refused n) = refl
  replaced ps (accepted f) = rw (set_all-map (means w) ps f.after cs)

  fine-at : (p : ℕ) (c : Comp) → at cs p ≡ accepted c → CompFine w c
  fine-at p c e = comp-fine w c (every-at (comp_ok w) cs p c fine e)

  -- an action on a table is the rules' action on what the table stands for
  pub act-means : (a : Action) → map_a (acted_of w) (act_on w a cs) ≡ act (context_of w) a (map (means w) cs)
  unfolding act_on left_by act firing_at
  act-means (single k p) = rw (at_map (means w) cs p) (go (at cs p) refl)
    where
      go : (x : Answer Comp) → at cs p ≡ x
          → map_a (acted_of w) ((x >>= λ c. alone_at w k c) >>= λ f. accepted (record { tag = f.tag; comps = set_all (positions (single k p)) f.after cs }))
          ≡ ((map_a (means w) x >>= λ c. accepted (alone k c)) >>= λ d. fire (context_of w) d >>= λ f. accepted (record { label = f.label; comps = set_all (positions (single k p)) f.after (map (means w) cs) }))
      go (refused n) e = refl
      go (accepted c) e =
          replaced (positions (single k p)) (alone_at w k c)
          ∙ ap (λ y. y >>= λ f. accepted (record { label = f.label; comps = set_all (positions (single k p)) f.after (map (means w) cs) })) (alone-means w good k c (fine-at p c e))
  act-means (pair p q) = rw (at_map (means w) cs p, at_map (means w) cs q) (go (at cs p) refl (at cs q) refl)
    where
      go : (x : Answer Comp) → at cs p ≡ x → (y : Answer Comp) → at cs q ≡ y
          → map_a (acted_of w) ((x >>= λ c. y >>= λ e. together_at w c e) >>= λ f. accepted (record { tag = f.tag; comps = set_all (positions (pair p q)) f.after cs }))
          ≡ ((map_a (means w) x >>= λ c. map_a (means w) y >>= λ e. accepted (together c e)) >>= λ d. fire (context_of w) d >>= λ f. accepted (record { label = f.label; comps = set_all (positions (pair p q)) f.after (map (means w) cs) }))
      go (refused n) e y h = refl
      go (accepted c) e (refused n) h = refl
      go (accepted c) e (accepted b) h =
          replaced (positions (pair p q)) (together_at w c b)
          ∙ ap (λ y. y >>= λ f. accepted (record { label = f.label; comps = set_all (positions (pair p q)) f.after (map (means w) cs) })) (together-means w good c b (fine-at p c e) (fine-at q b h))
