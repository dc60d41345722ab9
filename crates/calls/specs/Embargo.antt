-- An example for a publisher: document 02, R-6. Pages are read in a vault and at a scanner. The vault may leave for the desk alone and the desk for the vault, so
-- that no chain of leave rights leads from the vault to the public index, and no page from the vault ever stands there, whatever calls are given. The proof of
-- `Embargoed` is `embargoed` in proofs/Embargo; the other examples are settled by computation.
use Rattle.std.specs.Prelude.{ℕ, List, [], ◌∷◌, ◌++◌, Bool, true, false, ◌||◌, ◌≡◌, refl, replicate}
use Rattle.terms.specs.Names.{Name, same_name, bytes}
use Rattle.terms.specs.Terms.{Component, Network, Context}
use Rattle.terms.specs.Rules.{Answer, ◌>>=◌, act, at}
use Rattle.terms.specs.Rules.Answer.{refused, accepted}
use Rattle.terms.specs.Rules.Kind.{moves}
use Rattle.terms.specs.Rules.Action.{single}
use Rattle.terms.specs.Step.{step}
use Rattle.terms.specs.Runs.{Fed, place_of, rules}
use Rattle.terms.specs.Clock.{edition_of}
use Rattle.terms.specs.Rights.{number_of, right_by, looked_up, all_given, by_name}
use Rattle.table.specs.declared.State.{State}
use Rattle.table.specs.Meaning.{net_of}
use Rattle.text.specs.Questions.{form, read}
use Rattle.text.specs.Questions as Q
use Rattle.text.specs.Tokens as T
use Rattle.text.specs.Grammar as G
use Rattle.text_answer.specs.declared.Row.{Row}
use Rattle.text_answer.specs.declared.Settings.{Settings}
use Rattle.text_answer.specs.Answer.{given, all_row, locations_in}
use Rattle.calls.specs.Demand3.{read_context}
use Rattle.calls.specs.Leaving.{Lived, ancestors_of}

abbrev vault : Name
vault = bytes "Vault"

abbrev public : Name
public = bytes "Public"

abbrev desk : Name
desk = bytes "Desk"

abbrev scanner : Name
scanner = bytes "Scanner"

abbrev pub pages : List ℕ
pages = bytes "Vault[go(0,Public,stop) | go(0,Desk,go(0,Public,stop))] | Scanner[go(0,Public,stop)] ."

-- the locations by number
pages-numbered : locations_in (form pages) ≡ vault ∷ public ∷ desk ∷ scanner ∷ []
unfolding rules Q.questions T.tokenwise G.grammar
pages-numbered = refl

-- to leave for the first four locations as said, for no other; to send and to receive on every channel
abbrev leaving : List Bool → Row
leaving bs = record { send = replicate 64 true; receive = replicate 64 true; leave = bs ++ replicate 60 false }

abbrev pub embargo : Settings
embargo = record { edition = 1; rights = leaving (false ∷ false ∷ true ∷ false ∷ []) ∷ all_row ∷ leaving (true ∷ false ∷ false ∷ false ∷ []) ∷ replicate 61 all_row }

-- all that the examples unfold
unfoldable pub embargoing : Unit {0}
unfolding rules Q.questions T.tokenwise G.grammar edition_of number_of right_by looked_up all_given by_name given
embargoing = tt

-- the answer of a rule to the network just read
abbrev under : {A : Type 0} → (Context → List Component → A) → Answer A
under f = read pages >>= λ m. accepted (f (read_context pages embargo m) m.comps)

-- The page that wants to go to the public index itself lacks its right, and the vault's tick does not wait for it once the other has left for the desk.
page-lacks-right : under (λ d net. act d (single moves 0) net) ≡ accepted (refused 20)
unfolding embargoing
page-lacks-right = refl

vault-steps : under (λ d net. step d vault net >>= λ s. accepted s.actions) ≡ accepted (accepted (single moves 1 ∷ []))
unfolding embargoing
vault-steps = refl

-- the scanner's page goes there
scanner-steps : under (λ d net. step d scanner net >>= λ s. at s.comps 2 >>= λ c. accepted (place_of c)) ≡ accepted (accepted public)
unfolding embargoing place_of
scanner-steps = refl

-- the locations that the vault's pages may stand at
abbrev pub inside : Name → Bool
inside l = same_name l vault || same_name l desk

-- whatever calls were given from what reading these pages returned, and at whatever position: a component whose ancestor was read in the vault is not in the
-- public index
abbrev pub Embargoed : Type 0
Embargoed = (v : List ℕ) (m : Network) (fs : List Fed) (last : State) → Lived pages embargo v m fs last
    → (i : ℕ) (o c : Component) → at (ancestors_of pages embargo m fs) i ≡ accepted o → at (net_of v last) i ≡ accepted c → place_of o ≡ vault → place_of c ≡ public → ⊥
