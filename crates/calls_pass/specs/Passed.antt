-- What the pass of a tick over the components gives: document 01, *The tick at l*.
-- Serves inner contracts only.
use Rattle.std.specs.Prelude.{ℕ, Option, Some, None, ◌<◌, ◌≤◌, List, ◌++◌, ◌≡◌, length, drop}
use Rattle.table.specs.declared.Comp.{Comp}
use Rattle.table.specs.declared.State.{State}
use Rattle.table.specs.Words.{state_words}
use Rattle.table.specs.Meaning.{list_from, comp_in, PastKept, comps_of}
use Rattle.table.specs.Fire.{passed_all}

-- what the tick's pass over all components gives: nothing if there is no room, else how many there are, these components, and no other word was written
abbrev pub PassesAs : List Comp → List ℕ → List ℕ → Option ℕ → Type 0
PassesAs cs before out None = 256 < length cs
PassesAs cs before out (Some k) = (comps_of (record { c = out; n = k }) ≡ cs) × (k ≡ length cs) × (k ≤ 256) × PastKept k before out

-- what out holds up to j, and then what the tick leaves of the components from j on
abbrev pub passed_from : List ℕ → ℕ → State → ℕ → List ℕ → List Comp
passed_from w l st j out = list_from 0 j (comp_in out) ++ passed_all w l (drop j (comps_of st))

-- the first i components have passed in place, one for each, and the others are as they were
pub record PassedHere (w : List ℕ) (l : ℕ) (st : State) (out : List ℕ) (i : ℕ) : Type 0 where
  pub few : i ≤ st.n
  pub size : length out ≡ state_words
  pub front : passed_from w l st i out ≡ passed_all w l (comps_of st)
  pub rest : (m : ℕ) → i ≤ m → comp_in out m ≡ comp_in st.c m
  pub past : PastKept st.n st.c out
