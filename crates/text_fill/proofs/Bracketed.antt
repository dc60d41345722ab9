-- Located processes, one after the other, with the places of their components.
-- By the tokens of a located process, peeled off one after the other; the loop over them keeps what is left to write and to gather.
use Prim.Native.Nat.{ℕ, ◌+◌, ◌-◌, ◌≤◌, ◌<◌}
use native.Mathlib.Omega.{arith}
use mathlib.Core.Bool.{false≢true}
use mathlib.Core.List.{List, [], ◌∷◌, ◌++◌, map, append_assoc, append-nil}
use mathlib.Core.Path.{◌≡◌, refl, sym, ap, ◌∙◌}
use lib.ListN.{length, drop}
use Rattle.terms.specs.Names.{Name}
use Rattle.text.specs.Tokens.{Token, lex, left, right, bar, dot}
use Rattle.text.specs.Tokens.Token.{word, sign}
use Rattle.text.specs.Syntax.{Process, Located}
use Rattle.text.specs.Syntax.Process.{one, ◌∥◌}
use Rattle.text.specs.Syntax.Located.{at}
use Rattle.text.specs.Tree.{settle, settle_p, settle_at}
use Rattle.text.specs.Grammar.{the, next}
use Rattle.text.specs.Write.{joined_t, process_t, located_t}
use Rattle.text.specs.WellFormed.{Each, WellProcess, WellLocated}
use Rattle.text.proofs.ReadBack.{located-longer}
use Rattle.text.proofs.Unbounded.{the-less}
use Rattle.text.specs.Grammar.Rest.{ok, bad}
use Rattle.text_words.proofs.Positions.{bytes-fall}
use Rattle.table.specs.declared.Key.{Key}
use Rattle.table.specs.Tests.{key_name}
use Rattle.table.specs.Size.{size}
use Rattle.text_build.specs.Keys.{key_of}
use Rattle.text_build.specs.Tables.{held_in, number_in, enlist, Enlisted}
use Rattle.text_build.specs.Put.{loc_number, enter_loc, linked, put}
use Rattle.text_build.proofs.Places.{size-some, size_p-some}
use Rattle.text_build.proofs.Tables.{number-within}
use Rattle.text_put.specs.declared.Named.{Named}
use Rattle.text_put.specs.declared.Placed.{Placed}
use Rattle.text_put.specs.Found.{NameIs}
use Rattle.text_put.specs.Opened.{PartAt, ProcessAt, PartPut}
use Rattle.text_put.proofs.Peeling.{peel-sign, peel-some, sign-next}
use Rattle.text_put.proofs.Putting.{process-last, process-more}
use Rattle.text_tree.specs.Pass.{no_scope, put_located, part_spots, brackets, spots}
use Rattle.text_fill.specs.declared.Spotted.{Spotted}
use Rattle.text_fill.specs.Spread.{Spread}
use Rattle.text_fill.specs.Located.{LocatedAt, NetworkAt, OuterPut, LocatedPut, NetworkPut}
use Rattle.text_fill.proofs.Spreading.{spread-then, spread_none}
use Rattle.table.specs.Words.{locs_at}

-- ── a located process's parts ──
module _ {s : List ℕ} {o : ℕ} (x : ProcessAt s o) {w u : List ℕ} {i l : ℕ} {r : Placed} (h : (y : PartAt s o) → PartPut s w u i no_scope r y.what y.left)
    {out out' : List (List ℕ)} {n m : ℕ} (few : n ≤ length out) (g : Spread out out' n m ((l ∷ i ∷ []) ∷ [])) where
  pub outer-last : bad ≡ the bar (lex (drop r.end s)) → {v : List ℕ} → v ≡ linked u i 0 r.low → OuterPut s w v i l out out' n (record { end = r.end; low = r.low; n = m }) x.what x.left
  unfolding part_spots process_t
  outer-last c {v} e = record { placed = process-last x h c e; gathered = go₁ x.what x.well x.is }
    where
      go₁ : (p : Process) → WellProcess (settle_p p) → lex (drop o s) ≡ process_t p x.left → Spread out out' n m (part_spots l (settle_p p) i)
      go₁ (one a) f k = g
      go₁ (a ∥ p) f k =
          let y = h (record { what = a; left = sign bar ∷ process_t p x.left; is = k; well = f.0; over = refl }) in
          absurd (peel-some bar y.left c)

  pub outer-more : (b : ℕ) → ok tt (lex (drop b s)) ≡ the bar (lex (drop r.end s)) → (j : ℕ) → j ≡ r.low - 1 → {u' : List ℕ} {out'' : List (List ℕ)} {r' : Spotted} → ((y : ProcessAt s b) → OuterPut s u u' j l out' out'' m r' y.what y.left) → {v : List ℕ} → v ≡ linked u' i (j + 1) r'.low
      → OuterPut s w v i l out out'' n r' x.what x.left
  unfolding part_spots process_t
  outer-more b c j q {u'} {out''} {r'} h' {v} e = record { placed = process-more x h b c j q (λ y. (h' y).placed) e; gathered = go₁ x.what x.well x.is }
    where
      go₁ : (p : Process) → WellProcess (settle_p p) → lex (drop o s) ≡ process_t p x.left → Spread out out'' n r'.n (part_spots l (settle_p p) i)
      go₁ (one a) f k =
          let y = h (record { what = a; left = x.left; is = k; well = f; over = x.over }) in
          absurd (false≢true (sym x.last ∙ ap (next bar) (sym y.left) ∙ sign-next s b bar (lex (drop r.end s)) c))
      go₁ (a ∥ p) f k =
          let y = h (record { what = a; left = sign bar ∷ process_t p x.left; is = k; well = f.0; over = refl }) in
          let y' = h' (record { what = p; left = x.left; is = peel-sign s b bar y.left c; well = f.1; over = x.over; last = x.last }) in
          let t = size-some (settle a) in
          let d : j ≡ i - size (settle a) = q ∙ ap (λ n. n - 1) y.low ∙ omega arith in
          spread-then few g (rw d at y'.gathered)

-- ── a located process ──
pub loc-few : {w v : List ℕ} {k : Key} {r : ℕ} → Enlisted w v locs_at 1 k r → r ≤ 64
unfolding held_in
loc-few {w} {k = k} e = omega (arith, e.place, number-within w locs_at (held_in w 1) (key_name k))

module _ {s : List ℕ} {o : ℕ} (x : LocatedAt s o) where
  abbrev pub after_name : List Token
  after_name = sign left ∷ process_t x.body (sign right ∷ x.left)

  pub located-word : lex (drop o s) ≡ word x.name ∷ after_name
  located-word = x.is

  module _ (r : Named) (a : NameIs s r x.name after_name) where
    pub no-left : bad ≡ the left (lex (drop r.end s)) → ⊥
    no-left c = peel-some left a.left c

  module _ (r : Named) (a : NameIs s r x.name after_name) (b : ℕ) (c : ok tt (lex (drop b s)) ≡ the left (lex (drop r.end s))) where
    pub body_at : ProcessAt s b
    body_at = record { what = x.body; left = sign right ∷ x.left; is = peel-sign s b left a.left c; well = x.well.1; over = refl; last = refl }

    module _ {w u v : List ℕ} {l i : ℕ} (d : Enlisted w u locs_at 1 r.key l) {out after : List (List ℕ)} {n : ℕ} (p : Spotted) (h : (y : ProcessAt s b) → OuterPut s u v i l out after n p y.what y.left) where
      pub no-right : bad ≡ the right (lex (drop p.end s)) → ⊥
      unfolding body_at
      no-right f = peel-some right (h body_at).placed.left f

      pub located-put : (e : ℕ) → ok tt (lex (drop e s)) ≡ the right (lex (drop p.end s)) → (q : ℕ) → q ≡ p.low - 1 → LocatedPut s w v i out after n (record { end = e; low = q; n = p.n }) x.name x.body x.left
      unfolding put_located loc_number enter_loc body_at
      located-put e f q g =
          let y = h body_at in
          let t = size_p-some (settle_p x.body) in
          let k : l ≡ number_in w locs_at (held_in w 1) (key_name (key_of x.name)) = d.place ∙ ap (λ z. number_in w locs_at (held_in w 1) (key_name z)) a.key in
          record {
            left_is = peel-sign s e right y.placed.left f;
            script = y.placed.after ∙ ap (put (settle_p x.body) i no_scope) (d.after ∙ ap (enlist w locs_at 1) a.key);
            place = g ∙ ap (λ z. z - 1) y.placed.low ∙ omega arith;
            gathered = rw k at y.gathered;
          }

-- ── all of them ──
pub record Going (s : List ℕ) (o here : ℕ) (w v : List ℕ) (i j : ℕ) (out after : List (List ℕ)) (n : ℕ) (x : NetworkAt s o) : Type 0 where
  pub rest : NetworkAt s here
  pub script : brackets (map settle_at (x.first ∷ x.more)) i w ≡ brackets (map settle_at (rest.first ∷ rest.more)) j v
  pub done : List (List ℕ)
  pub spotted : spots (map settle_at (x.first ∷ x.more)) i w ≡ done ++ spots (map settle_at (rest.first ∷ rest.more)) j v
  pub gathered : Spread out after 0 n done

pub network-first : (s : List ℕ) (o : ℕ) (w : List ℕ) (i : ℕ) (out : List (List ℕ)) (x : NetworkAt s o) → Going s o o w w i i out out 0 x
network-first s o w i out x = record { rest = x; script = refl; done = []; spotted = refl; gathered = spread_none out 0 (omega arith) }

unfoldable pub behind : List Located → List Token
behind [] = sign dot ∷ []
behind (y ∷ ys) = sign bar ∷ joined_t bar located_t y ys (sign dot ∷ [])

behind-is : (y : Located) (ys : List Located) → joined_t bar located_t y ys (sign dot ∷ []) ≡ located_t y (behind ys)
unfolding joined_t behind
behind-is y [] = refl
behind-is y (z ∷ ys) = refl

abbrev name_of : Located → Name
name_of (at l p) = l

abbrev body_of : Located → Process
body_of (at l p) = p

at-is : (y : Located) → y ≡ at (name_of y) (body_of y)
at-is (at l p) = refl

module _ {s : List ℕ} {o here : ℕ} {w v : List ℕ} {i j : ℕ} {out after : List (List ℕ)} {n : ℕ} {x : NetworkAt s o} (g : Going s o here w v i j out after n x) where
  pub going-at : LocatedAt s here
  going-at = record {
    name = name_of g.rest.first;
    body = body_of g.rest.first;
    left = behind g.rest.more;
    is = g.rest.is ∙ behind-is g.rest.first g.rest.more ∙ ap (λ y. located_t y (behind g.rest.more)) (at-is g.rest.first);
    well = rw (at-is g.rest.first) at g.rest.well.0;
  }

  module _ (few : n ≤ length after) {v' : List ℕ} {after' : List (List ℕ)} (r : Spotted) (h : (y : LocatedAt s here) → LocatedPut s v v' j after after' n r y.name y.body y.left) where
    put_first : LocatedPut s v v' j after after' n r (name_of g.rest.first) (body_of g.rest.first) (behind g.rest.more)
    unfolding going-at
    put_first = h going-at

    here-spots : List (List ℕ)
    here-spots = part_spots (loc_number v (name_of g.rest.first)) (settle_p (body_of g.rest.first)) j

    first-script : (ys : List Located) → brackets (map settle_at (g.rest.first ∷ ys)) j v ≡ brackets (map settle_at ys) r.low v'
    unfolding brackets
    first-script ys = ap (λ y. brackets (map settle_at (y ∷ ys)) j v) (at-is g.rest.first) ∙ rw (put_first.script, put_first.place)

    first-spots : (ys : List Located) → spots (map settle_at (g.rest.first ∷ ys)) j v ≡ here-spots ++ spots (map settle_at ys) r.low v'
    unfolding spots here-spots
    first-spots ys = ap (λ y. spots (map settle_at (y ∷ ys)) j v) (at-is g.rest.first) ∙ rw (put_first.script, put_first.place)

    gathered-now : Spread out after' 0 r.n (g.done ++ here-spots)
    unfolding here-spots
    gathered-now = spread-then (omega arith) g.gathered put_first.gathered

    pub place-small : j < 4_096 → r.low < 4_096
    place-small l = let p = put_first.place in omega arith

    pub going_end : bad ≡ the bar (lex (drop r.end s)) → NetworkPut w v' i out after' r.n (x.first ∷ x.more)
    unfolding behind brackets spots
    going_end c = go₁ g.rest.more refl
      where
        go₁ : (ys : List Located) → g.rest.more ≡ ys → NetworkPut w v' i out after' r.n (x.first ∷ x.more)
        go₁ [] q = record {
          script = sym (g.script ∙ ap (λ ys. brackets (map settle_at (g.rest.first ∷ ys)) j v) q ∙ first-script []);
          gathered = rw (g.spotted ∙ ap (λ ys. g.done ++ spots (map settle_at (g.rest.first ∷ ys)) j v) q ∙ ap (λ z. g.done ++ z) (first-spots [] ∙ append-nil here-spots)) gathered-now;
        }
        go₁ (y ∷ ys) q = absurd (peel-some bar (put_first.left_is ∙ ap behind q) c)

    module _ (b : ℕ) (c : ok tt (lex (drop b s)) ≡ the bar (lex (drop r.end s))) where
      pub going_on : Going s o b w v' i r.low out after' r.n x
      unfolding behind
      going_on = go₁ g.rest.more refl g.rest.well.1
        where
          go₁ : (ys : List Located) → g.rest.more ≡ ys → Each WellLocated (map settle_at g.rest.more) → Going s o b w v' i r.low out after' r.n x
          go₁ [] q l = absurd (false≢true (ap (next bar) (sym (put_first.left_is ∙ ap behind q)) ∙ sign-next s b bar (lex (drop r.end s)) c))
          go₁ (y ∷ ys) q l = record {
            rest = record { first = y; more = ys; is = peel-sign s b bar (put_first.left_is ∙ ap behind q) c; well = rw q at l };
            script = g.script ∙ ap (λ ys. brackets (map settle_at (g.rest.first ∷ ys)) j v) q ∙ first-script (y ∷ ys);
            done = g.done ++ here-spots;
            spotted = g.spotted ∙ ap (λ ys. g.done ++ spots (map settle_at (g.rest.first ∷ ys)) j v) q ∙ ap (λ z. g.done ++ z) (first-spots (y ∷ ys)) ∙ sym (append_assoc g.done here-spots (spots (map settle_at (y ∷ ys)) r.low v'));
            gathered = gathered-now;
          }

      pub going-falls : length s - b < length s - here
      going-falls =
          bytes-fall s here b (omega (arith, ap length (g.rest.is ∙ behind-is g.rest.first g.rest.more), located-longer g.rest.first (behind g.rest.more), ap length put_first.left_is, the-less bar (lex (drop r.end s)) tt (lex (drop b s)) (sym c)))
