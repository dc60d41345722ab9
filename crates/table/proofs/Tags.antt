-- The label of an accepted action in numbers: each number is in range, and it is the number of the name that stands there.
-- By cases on what fires; a name is held once in its sort, so that its first place is its number.
use Prim.Native.Nat.{ℕ, ◌<◌}
use native.Mathlib.Omega.{arith}
use mathlib.Core.List.{List, []}
use mathlib.Core.Bool.{Bool, true, false, cond, ◌&&◌, ◌||◌}
use mathlib.Core.Path.{◌≡◌, refl, ap, ◌∙◌}
use lib.Dec.{eqb, ltb}
use lib.ListN.{get_or}
use borrow.Author.Tests.{ltb-true, lt-ltb, eq-eqb, ne_eqb}
use Rattle.terms.specs.Names.{Name, same_name}
use Rattle.terms.specs.Letters.{is_location, is_small, is_identifier}
use Rattle.terms.specs.Same.{every}
use Rattle.terms.specs.Rules.{Answer, Kind, Action, ◌>>=◌, at, set_all, positions}
use Rattle.terms.specs.Rules.Answer.{refused, accepted}
use Rattle.terms.specs.Rules.Kind.{calls, moves}
use Rattle.terms.specs.Rules.Action.{single, pair}
use Rattle.terms.proofs.Lists.{every-at}
use Rattle.terms.proofs.Names.{and-inv, and_in}
use Rattle.table.specs.declared.Head.{Head}
use Rattle.table.specs.declared.Head.TheVariants.{Stop, Go, Out, In, Call}
use Rattle.table.specs.declared.Comp.{Comp}
use Rattle.table.specs.Words.{locs_in, chans_in, defs_in, loc_name, chan_name, def_name, head_at, names_at}
use Rattle.table.specs.Meaning.{list_from}
use Rattle.table.specs.Valid.{index, sort_ok, head_ok, script_ok, comp_ok}
use Rattle.table.specs.Fire.{Tag, call_tag, move_tag, send_tag, label_of, tag_in, tag_held, granted_at, rightly, Left, ActedAt, value_in, becomes_at, handed, meet_at, alone_at, together_at, left_by, act_on, fits_alone, fits_together}
use Rattle.table.proofs.Tests.{part-fine, script-fine, CompFine, comp-fine, held-once}
use Rattle.table.proofs.Places.{go-fine, out-fine}
use Rattle.table.proofs.Kept.{value-in, enough}
use Rattle.table.proofs.ValidLists.{index-hit, list_from-length, list_from-at}

-- the first place of a name that is held once
pub numbered : (form : Name → Bool) (f : ℕ → Name) (n i : ℕ) → sort_ok form (list_from 0 n f) ≡ true → i < n → index (list_from 0 n f) (f i) ≡ i
numbered form f n i e h =
    index-hit (list_from 0 n f) (f i) i (omega (arith, list_from-length 0 n f))
    (λ k b. ap (λ z. same_name z (f i)) (at_place k (omega arith)) ∙ held-once form f n e k i (omega arith) h ∙ ne_eqb k i (λ q. omega arith))
    (ap (λ z. same_name z (f i)) (at_place i h) ∙ held-once form f n e i i h h ∙ eq-eqb i i refl)
  where
    at_place : (k : ℕ) → k < n → get_or (list_from 0 n f) k [] ≡ f k
    at_place k b = list_from-at 0 n f k [] b ∙ ap f (omega arith)

pub record GoodTag (w : List ℕ) (t : Tag) : Type 0 where
  pub held : tag_held w t ≡ true
  pub number : tag_in w (label_of w t) ≡ t

abbrev pub Tagged : List ℕ → Answer Left → Type 0
Tagged w (refused n) = Unit {0}
Tagged w (accepted f) = GoodTag w f.tag

abbrev pub ActedTag : List ℕ → Answer ActedAt → Type 0
ActedTag w (refused n) = Unit {0}
ActedTag w (accepted r) = GoodTag w r.tag

module _ (w : List ℕ) (good : script_ok w ≡ true) where
  loc-number : (l : ℕ) → l < locs_in w → index (list_from 0 (locs_in w) (loc_name w)) (loc_name w l) ≡ l
  loc-number l h = numbered is_location (loc_name w) (locs_in w) l (script-fine w good).loc-names h

  call-tag : (d l : ℕ) → d < defs_in w → l < locs_in w → GoodTag w (call_tag d l)
  unfolding tag_held tag_in label_of
  call-tag d l a b = record {
    held = and_in _ _ (lt-ltb l (locs_in w) b) (lt-ltb d (defs_in w) a);
    number = rw (loc-number l b, numbered is_identifier (def_name w) (defs_in w) d (script-fine w good).def-names a);
  }

  move-tag : (v l : ℕ) → v < locs_in w → l < locs_in w → GoodTag w (move_tag v l)
  unfolding tag_held tag_in label_of
  move-tag v l a b = record { held = and_in _ _ (lt-ltb l (locs_in w) b) (lt-ltb v (locs_in w) a); number = rw (loc-number l b, loc-number v a) }

  send-tag : (c v l : ℕ) → c < chans_in w → v < locs_in w → l < locs_in w → GoodTag w (send_tag c v l)
  unfolding tag_held tag_in label_of
  send-tag c v l a b d = record {
    held = and_in _ _ (lt-ltb l (locs_in w) d) (and_in _ _ (lt-ltb c (chans_in w) a) (lt-ltb v (locs_in w) b));
    number = rw (loc-number l d, loc-number v b, numbered is_small (chan_name w) (chans_in w) c (script-fine w good).chan-names a);
  }

  becomes-tagged : (k : Kind) (c : Comp) (h : Head) → head_ok w c.place h ≡ true → CompFine w c → Tagged w (becomes_at w k c h)
  unfolding becomes_at
  becomes-tagged calls c Stop o f = tt
  becomes-tagged calls c (Go t v p) o f = tt
  becomes-tagged calls c (Out d t v p q) o f = tt
  becomes-tagged calls c (In d t k p q) o f = tt
  becomes-tagged calls c (Call d n) o f = unfold head_ok in call-tag d c.loc (ltb-true d (defs_in w) (and-inv (ltb d (defs_in w)) _ o).0) f.loc
  becomes-tagged moves c Stop o f = tt
  becomes-tagged moves c (Go t v p) o f = move-tag (value_in c.vals v) c.loc (value-in w (names_at w c.place) c.vals v (go-fine w c.place t v p o).value (enough w good c f) f.vals) f.loc
  becomes-tagged moves c (Out d t v p q) o f = tt
  becomes-tagged moves c (In d t k p q) o f = tt
  becomes-tagged moves c (Call d n) o f = tt

  meet-tagged : (c e : Comp) (g h : Head) → head_ok w c.place g ≡ true → CompFine w c → Tagged w (meet_at c e g h)
  unfolding meet_at handed
  meet-tagged c e Stop h o f = tt
  meet-tagged c e (Go t v p) h o f = tt
  meet-tagged c e (In d t k p q) h o f = tt
  meet-tagged c e (Call d n) h o f = tt
  meet-tagged c e (Out d t v p q) Stop o f = tt
  meet-tagged c e (Out d t v p q) (Go t' v' p') o f = tt
  meet-tagged c e (Out d t v p q) (Out d' t' v' p' q') o f = tt
  meet-tagged c e (Out d t v p q) (Call d' n) o f = tt
  meet-tagged c e (Out d t v p q) (In d' t' k p' q') o f = tests (eqb d d' && eqb c.loc e.loc)
    where
      tests : (b : Bool) → Tagged w (cond b (accepted (handed c e d (value_in c.vals v) p k p')) (refused 11))
      tests false = tt
      tests true =
          let r = out-fine w c.place d t v p q o in
          send-tag d (value_in c.vals v) c.loc (ltb-true d (chans_in w) r.channel) (value-in w (names_at w c.place) c.vals v r.value (enough w good c f) f.vals) f.loc

  pub fits-alone-tagged : (k : Kind) (c : Comp) → CompFine w c → Tagged w (fits_alone w k c)
  unfolding fits_alone
  fits-alone-tagged k c f = go (ltb c.mark 64)
    where
      go : (b : Bool) → Tagged w (cond b (refused 9) (becomes_at w k c (head_at w c.place)))
      go true = tt
      go false = becomes-tagged k c (head_at w c.place) (part-fine w good c.place f.place).head f

  pub fits-together-tagged : (c e : Comp) → CompFine w c → Tagged w (fits_together w c e)
  unfolding fits_together
  fits-together-tagged c e f = go (ltb c.mark 64 || ltb e.mark 64)
    where
      go : (b : Bool) → Tagged w (cond b (refused 9) (meet_at c e (head_at w c.place) (head_at w e.place)))
      go true = tt
      go false = meet-tagged c e (head_at w c.place) (head_at w e.place) (part-fine w good c.place f.place).head f

  rightly-tagged : (x : Answer Left) → Tagged w x → Tagged w (x >>= rightly w)
  unfolding rightly
  rightly-tagged (refused n) t = tt
  rightly-tagged (accepted f) t = go (granted_at w f.tag)
    where
      go : (b : Bool) → Tagged w (cond b (accepted f) (refused 20))
      go true = t
      go false = tt

  alone-tagged : (k : Kind) (c : Comp) → CompFine w c → Tagged w (alone_at w k c)
  unfolding alone_at
  alone-tagged k c f = rightly-tagged (fits_alone w k c) (fits-alone-tagged k c f)

  together-tagged : (c e : Comp) → CompFine w c → Tagged w (together_at w c e)
  unfolding together_at
  together-tagged c e f = rightly-tagged (fits_together w c e) (fits-together-tagged c e f)

  -- ── an action at positions ──
  module _ (cs : List Comp) (fine : every (comp_ok w) cs ≡ true) where
    fine-at : (p : ℕ) (c : Comp) → at cs p ≡ accepted c → CompFine w c
    fine-at p c e = comp-fine w c (every-at (comp_ok w) cs p c fine e)

    placed-tagged : (ps : List ℕ) (x : Answer Left) → Tagged w x → ActedTag w (x >>= λ f. accepted (record { tag = f.tag; comps = set_all ps f.after cs }))
    placed-tagged ps (refused n) t = tt
    placed-tagged ps (accepted f) t = t

    pub act-tagged : (a : Action) → ActedTag w (act_on w a cs)
    unfolding act_on left_by
    act-tagged (single k p) = go (at cs p) refl
      where
        go : (x : Answer Comp) → at cs p ≡ x → ActedTag w ((x >>= λ c. alone_at w k c) >>= λ f. accepted (record { tag = f.tag; comps = set_all (positions (single k p)) f.after cs }))
        go (refused n) e = tt
        go (accepted c) e = placed-tagged (positions (single k p)) (alone_at w k c) (alone-tagged k c (fine-at p c e))
    act-tagged (pair p q) = go (at cs p) refl (at cs q)
      where
        go : (x : Answer Comp) → at cs p ≡ x → (y : Answer Comp) → ActedTag w ((x >>= λ c. y >>= λ e. together_at w c e) >>= λ f. accepted (record { tag = f.tag; comps = set_all (positions (pair p q)) f.after cs }))
        go (refused n) e y = tt
        go (accepted c) e (refused n) = tt
        go (accepted c) e (accepted b) = placed-tagged (positions (pair p q)) (together_at w c b) (together-tagged c b (fine-at p c e))
