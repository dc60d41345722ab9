-- Terms and networks: document 01, *The term and the network*. Names are letters.
use Rattle.std.specs.Prelude.{ℕ, ◌-◌, List, Bool, true, false, eqb, leb, ltb}
use Rattle.terms.specs.Names.{Name}

-- A timer is a number of ticks or inf. Nothing looks into a timer but the four functions below.
pub data Timer : Type 0 where
  ticks : ℕ → Timer
  inf : Timer
  deriving Discrete as Timer-discrete

-- the timer after a tick: inf less one is inf
unfoldable pub less : Timer → Timer
less (ticks n) = ticks (n - 1)
less inf = inf

-- The edition under which a text was read: document 02, R-8. Under the second a communication's timer counts chances to meet, and 1 is the last.
pub data Edition : Type 0 where
  edition1 edition2 : Edition

-- a ready `in` or `out` with this timer takes its Q at a tick
unfoldable pub expired : Edition → Timer → Bool
expired edition1 (ticks n) = eqb n 0
expired edition2 (ticks n) = leb n 1
expired edition1 inf = false
expired edition2 inf = false

-- a ready `go` with this timer must move before a tick, in either edition
unfoldable pub due : Timer → Bool
due (ticks n) = eqb n 0
due inf = false

-- it runs out before the other one: the lesser number, and any number before inf (document 02, R-3)
unfoldable pub sooner : Timer → Timer → Bool
sooner (ticks m) (ticks n) = ltb m n
sooner (ticks m) inf = true
sooner inf u = false

-- what stands in a value's place: a location or a variable
pub data Value : Type 0 where
  loc : Name → Value
  var : Name → Value
  deriving Discrete as Value-discrete

-- A process is one or more parts. `inp` binds its name in its first process and not in its second.
infixr 5 ◌∥◌
mutual
  pub data Part : Type 0 where
    stop : Part
    go : Timer → Value → Process → Part
    out : Name → Timer → Value → Process → Process → Part
    inp : Name → Timer → Name → Process → Process → Part
    call : Name → List Value → Part
    deriving Discrete as Part-discrete

  pub data Process : Type 0 where
    one : Part → Process
    ◌∥◌ : Part → Process → Process
    deriving Discrete as Process-discrete

-- a mark is absent or names its owner
pub data Mark : Type 0 where
  none : Mark
  by : Name → Mark
  deriving Discrete as Mark-discrete

-- a location, a mark, and parts: one, or several while marked
pub data Component : Type 0 where
  comp : Name → Mark → Process → Component
  deriving Discrete as Component-discrete

-- a definition: its identifier, its parameters, its body
pub data Def : Type 0 where
  define : Name → List Name → Process → Def
  deriving Discrete as Def-discrete

-- a list of components with the definitions; positions count from 0
pub record Network : Type 0 where
  pub defs : List Def
  pub comps : List Component

-- Rights: document 02, R-6. At each location there is one to send and one to receive for each channel, and one to leave for each target. L stands for
-- locations and C for channels: their names in the rules, their numbers in a script.
pub record RightsOf (L C : Type 0) : Type 0 where
  pub send : L → C → Bool
  pub receive : L → C → Bool
  pub leave : L → L → Bool

abbrev pub Rights : Type 0
Rights = RightsOf Name Name

abbrev pub all_rights : {L C : Type 0} → RightsOf L C
all_rights = record { send = λ l c. true; receive = λ l c. true; leave = λ l v. true }

-- what the rules take beside the components: the definitions, and the edition and the rights, which are given at reading and stay with the network
pub record Context : Type 0 where
  pub defs : List Def
  pub edition : Edition
  pub rights : Rights

-- that of a network that was read under an edition and with rights
abbrev pub context_in : Edition → Rights → Network → Context
context_in e r m = record { defs = m.defs; edition = e; rights = r }

-- `id@l`, `v@l`, `c<v>@l`
pub data Label : Type 0 where
  called : Name → Name → Label
  moved : Name → Name → Label
  sent : Name → Name → Name → Label
  deriving Discrete as Label-discrete

-- where an action with this label fires
unfoldable pub fires_at : Label → Name
fires_at (called i l) = l
fires_at (moved v l) = l
fires_at (sent c v l) = l
