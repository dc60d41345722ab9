-- The partner of an output on the table, the inputs that wait on each channel, and how two tables hold them: what the contract of `wait_all` cites.
-- proofs/Waiting says that the first of those who wait is the partner.
-- Serves inner contracts only.
use Rattle.std.specs.Prelude.{ℕ, suc, ◌+◌, ◌*◌, ◌%◌, ◌<◌, ◌≤◌, List, [], ◌∷◌, map, Bool, cond, ◌&&◌, ◌≡◌, eqb, ltb, Option, Some, None, is_some, length, get_or, take}
use Rattle.terms.specs.Rules.{Answer, at}
use Rattle.terms.specs.Rules.Answer.{accepted}
use Rattle.terms.specs.Step.{foremost}
use Rattle.terms.specs.Clock.{rank_of}
use Rattle.ranks.specs.Ranked.{ranked, keep}
use Rattle.table.specs.declared.Comp.{Comp}
use Rattle.table.specs.Words.{head_at}
use Rattle.table.specs.Fire.{ready_at, hears}
use Rattle.calls_must.specs.Heard.{hears_at}

-- ── the partner of an output: document 02, R-3 ──
-- a component ready at l that hears h
abbrev pub waits : List ℕ → ℕ → ℕ → Comp → Bool
waits w l h c = ready_at l c && hears h (head_at w c.place)

abbrev pub before_at : Comp → Comp → Bool
before_at a b = ltb (rank_of a.timer) (rank_of b.timer)

-- of an output on h at l
unfoldable pub partner_at : List ℕ → ℕ → ℕ → List Comp → Answer ℕ
partner_at w l h cs = foremost before_at (waits w l h) cs

-- ── who waits on a channel ──
-- a number for the component c at the position k, less where it is to be served first: by its timer, then by the position, of which there are 256
unfoldable pub key_of : ℕ → Comp → ℕ
key_of k c = rank_of c.timer * 256 + k

-- the position in such a number
unfoldable pub spot_of : ℕ → ℕ
spot_of x = x % 256

-- of those who wait on h at l, their positions counted from k on
unfoldable pub keys_on : List ℕ → ℕ → ℕ → ℕ → List Comp → List ℕ
keys_on w l h k [] = []
keys_on w l h k (c ∷ cs) = cond (waits w l h c) (key_of k c ∷ keys_on w l h (suc k) cs) (keys_on w l h (suc k) cs)

-- their positions, the one to be served first in front
unfoldable pub hearers : List ℕ → ℕ → ℕ → List Comp → List ℕ
hearers w l h cs = map spot_of (ranked (keys_on w l h 0 cs))

-- ── the tables ──
-- x is the first position, if there is one; the table of next ones leads from each to the one after it
abbrev pub Chain : List (Option ℕ) → Option ℕ → List ℕ → Type 0
Chain nexts x [] = x ≡ None
Chain nexts x (q ∷ qs) = (x ≡ Some q) × Chain nexts (get_or nexts q None) qs

-- for every channel the chain of those who wait on it; 64 is no channel
pub record Queued (w : List ℕ) (l : ℕ) (cs : List Comp) (heads nexts : List (Option ℕ)) : Type 0 where
  pub chain : (h : ℕ) → h < 64 → Chain nexts (get_or heads h None) (hearers w l h cs)
  pub none : get_or heads 64 None ≡ None
  pub size : length heads ≡ 65
  pub room : length nexts ≡ 256

-- ── how the chains are made ──
-- the numbers of all who wait on a channel, whichever it is
unfoldable pub keys_all : List ℕ → ℕ → ℕ → List Comp → List ℕ
keys_all w l k [] = []
keys_all w l k (c ∷ cs) = cond (is_some (hears_at w l c)) (key_of k c ∷ keys_all w l (suc k) cs) (keys_all w l (suc k) cs)

-- ears has the channel of each component that hears one, and the first m of keys are the numbers of these components
pub record Gathered (w : List ℕ) (l : ℕ) (cs : List Comp) (ears keys : List ℕ) (m : ℕ) : Type 0 where
  pub heard : (j : ℕ) (c : Comp) (h : ℕ) → at cs j ≡ accepted c → hears_at w l c ≡ Some h → (get_or ears j 0 ≡ h) × (h < 64)
  pub numbers : take m keys ≡ keys_all w l 0 cs
  pub few : m ≤ length cs
  pub size : length ears ≡ 256
  pub room : length keys ≡ 256

-- the channel of the component with this number is h
abbrev pub onto : List ℕ → ℕ → ℕ → Bool
onto ears h x = eqb h (get_or ears (spot_of x) 0)

-- for every channel the chain of those of xs that are on it
pub record Dealt (ears xs : List ℕ) (heads nexts : List (Option ℕ)) : Type 0 where
  pub chain : (h : ℕ) → h < 64 → Chain nexts (get_or heads h None) (map spot_of (keep (onto ears h) xs))
  pub none : get_or heads 64 None ≡ None
  pub size : length heads ≡ 65
  pub room : length nexts ≡ 256

-- the position p is none of qs
abbrev pub Away : ℕ → List ℕ → Type 0
Away p [] = Unit {0}
Away p (q ∷ qs) = (p ≡ q → ⊥) × Away p qs

-- xs are numbers of components that hear a channel, no two at one position
abbrev pub Apart : List ℕ → List ℕ → Type 0
Apart ears [] = Unit {0}
Apart ears (x ∷ xs) = (get_or ears (spot_of x) 0 < 64) × Away (spot_of x) (map spot_of xs) × Apart ears xs
