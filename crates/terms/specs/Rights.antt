-- Rights as they are given: document 02, R-6, has a row for each location with a right for each channel and each target, by number. Which rights names have
-- follows from the numbers that they have.
use Rattle.std.specs.Prelude.{ℕ, ◌<◌, List, Bool, true, false, cond, ◌&&◌, ◌||◌, ◌≡◌}
use Rattle.terms.specs.Names.{Name, same_name}
use Rattle.terms.specs.Terms.{Rights, RightsOf, all_rights}
use Rattle.terms.specs.Rules.{Answer, seek}
use Rattle.terms.specs.Rules.Answer.{refused, accepted}
use Rattle.terms.specs.Same.{every}

-- the number of a name: its first place among the names in order of number
unfoldable pub number_of : List Name → Name → Answer ℕ
number_of xs x = seek (λ y. same_name y x) xs

-- a right of two numbers; none without them
unfoldable pub right_by : (ℕ → ℕ → Bool) → Answer ℕ → Answer ℕ → Bool
right_by f (refused n) j = false
right_by f (accepted i) (refused n) = false
right_by f (accepted i) (accepted j) = f i j

-- the rights of names, where ls are the locations and cs the channels in order of number
unfoldable pub looked_up : List Name → List Name → RightsOf ℕ ℕ → Rights
looked_up ls cs r = record {
  send = λ l c. right_by r.send (number_of ls l) (number_of cs c);
  receive = λ l c. right_by r.receive (number_of ls l) (number_of cs c);
  leave = λ l v. right_by r.leave (number_of ls l) (number_of ls v);
}

-- are all rights of these names given? That to leave for one's own location is not asked for.
unfoldable pub all_given : List Name → List Name → Rights → Bool
all_given ls cs r = every (λ l. every (λ c. r.send l c && r.receive l c) cs && every (λ v. same_name v l || r.leave l v) ls) ls

-- The rights of a network with these names. If all are given, nothing is withheld, as in document 01; else a name that is not among them has no right, and no
-- action of the network has such a name.
unfoldable pub by_name : List Name → List Name → RightsOf ℕ ℕ → Rights
by_name ls cs r = cond (all_given ls cs (looked_up ls cs r)) all_rights (looked_up ls cs r)

-- ── rights of numbers, compared ──
-- All rights of m locations and n channels are given. That to leave for one's own location is not asked for.
pub record Full (m n : ℕ) (r : RightsOf ℕ ℕ) : Type 0 where
  pub send : (l c : ℕ) → l < m → c < n → r.send l c ≡ true
  pub receive : (l c : ℕ) → l < m → c < n → r.receive l c ≡ true
  pub leave : (l v : ℕ) → l < m → v < m → (l ≡ v → ⊥) → r.leave l v ≡ true

-- The same rights are given of m locations and n channels, but for those to leave for one's own location.
pub record SameRights (m n : ℕ) (r r' : RightsOf ℕ ℕ) : Type 0 where
  pub send : (l c : ℕ) → l < m → c < n → r.send l c ≡ r'.send l c
  pub receive : (l c : ℕ) → l < m → c < n → r.receive l c ≡ r'.receive l c
  pub leave : (l v : ℕ) → l < m → v < m → (l ≡ v → ⊥) → r.leave l v ≡ r'.leave l v
