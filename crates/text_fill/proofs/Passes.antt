-- The network behind the definitions, and the three passes, one after the other.
use Prim.Native.Nat.{ℕ, ◌-◌, ◌<◌}
use native.Mathlib.Omega.{arith}
use mathlib.Core.List.{List, [], ◌∷◌, map}
use mathlib.Core.Path.{◌≡◌, ◌∙◌}
use lib.ListN.{drop, set}
use Rattle.text.specs.Tokens.{lex}
use Rattle.text.specs.Syntax as syntax
use Rattle.text.specs.Tree.{settle_at}
use Rattle.text.specs.Write.{network_t}
use Rattle.text.specs.WellFormed.{Each, NonEmpty, WellLocated}
use Rattle.text_tree.specs.Pass.{heads}
use Rattle.text_fill.specs.declared.Passed.{Passed}
use Rattle.text_fill.specs.Ready.{Ready, tree_in, BodiesPut, AllPut, Filled}
use Rattle.std.specs.Prelude.{Option, Some, None}
use Rattle.std.proofs.Common.{unwrap_or}
use Rattle.text.specs.Tree.{Tree}
use Rattle.text_put.specs.Found.{Gives}
use Rattle.text_fill.specs.Located.{NetworkAt, NetworkPut}
use Rattle.text_fill.proofs.Beyond.{after-low}

-- ── the network behind the definitions ──
pub network-at : {s w v : List ℕ} {i : ℕ} (x : Ready s) (r : Passed) → BodiesPut s w v i r x.text → NetworkAt s r.end
unfolding network_t
network-at {s} x r b = go₁ x.text.located b.left_is x.well.located-well x.well.some-located
  where
    go₁ : (ls : List syntax.Located) → lex (drop r.end s) ≡ network_t ls → Each WellLocated (map settle_at ls) → NonEmpty (map settle_at ls) → NetworkAt s r.end
    go₁ [] e w n = absurd n
    go₁ (l ∷ ls) e w n = record { first = l; more = ls; is = e; well = w }

pub behind-small : {s w v : List ℕ} {i : ℕ} (x : Ready s) (r : Passed) → BodiesPut s w v i r x.text → i < 4_096 → r.place < 4_096
behind-small {i = i} x r b h = let e = b.place in let l = after-low (tree_in x).defs i in omega arith

network-of : {s w v v' : List ℕ} {i : ℕ} (x : Ready s) (r : Passed) → BodiesPut s w v i r x.text → {out after : List (List ℕ)} {n : ℕ} → ((y : NetworkAt s r.end) → NetworkPut v v' r.place out after n (y.first ∷ y.more)) → NetworkPut v v' r.place out after n x.text.located
unfolding network_t
network-of {s} {v = v} {v' = v'} x r b {out} {after} {n} h = go₁ x.text.located b.left_is x.well.located-well x.well.some-located
  where
    go₁ : (ls : List syntax.Located) → lex (drop r.end s) ≡ network_t ls → Each WellLocated (map settle_at ls) → NonEmpty (map settle_at ls) → NetworkPut v v' r.place out after n ls
    go₁ [] e w m = absurd m
    go₁ (l ∷ ls) e w m = h (record { first = l; more = ls; is = e; well = w })

all-put : {s w u v v' : List ℕ} (i : ℕ) (x : Ready s) → u ≡ heads (tree_in x).defs 0 i w → (r : Passed) → BodiesPut s u v i r x.text
    → {out after : List (List ℕ)} {n : ℕ} → NetworkPut v v' r.place out after n x.text.located → AllPut w v' i out after n (tree_in x)
all-put i x g r b p = record {
  script = p.script ∙ rw (b.place, b.after, g);
  gathered = rw (b.place, b.after, g) at p.gathered;
}

pub filled : {w v : List ℕ} (parts defs : ℕ) {out after : List (List ℕ)} (r : Option ℕ) (t : Tree) → Gives (λ n. AllPut (set (set w 0 parts) 3 defs) v (parts - 1) out after n t) r → Filled w v parts defs out after (unwrap_or r 0) t
filled parts defs (Some n) t p = record { script = p.script; gathered = p.gathered }
filled parts defs None t p = absurd p

pub all-by : {s u v : List ℕ} (w v' : List ℕ) (i : ℕ) (x : Ready s) → u ≡ heads (tree_in x).defs 0 i w → (r : Passed) → BodiesPut s u v i r x.text → (out after : List (List ℕ)) (n : Option ℕ)
    → ((y : NetworkAt s r.end) → Gives (λ n. NetworkPut v v' r.place out after n (y.first ∷ y.more)) n) → Gives (λ n. AllPut w v' i out after n (tree_in x)) n
all-by w v' i x g r b out after (Some n) h = all-put i x g r b (network-of x r b h)
all-by w v' i x g r b out after None h = absurd (h (network-at x r b))
