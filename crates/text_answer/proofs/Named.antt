-- Rights by name from rights by number: no number is looked up that no name has.
use Prim.Native.Nat.{ℕ, ◌<◌}
use mathlib.Core.Bool.{Bool, cond}
use mathlib.Core.List.{List}
use mathlib.Core.Path.{◌≡◌, ap, fun_ext}
use lib.ListN.{length}
use Rattle.terms.specs.Names.{Name}
use Rattle.terms.specs.Terms.{Rights, RightsOf, all_rights}
use Rattle.terms.specs.Rights.{looked_up, all_given, by_name}
use Rattle.terms.proofs.Rights.{looked-alike}

-- rights that agree on m locations and n channels
pub record Agree (m n : ℕ) (r r' : RightsOf ℕ ℕ) : Type 0 where
  pub send : (l c : ℕ) → l < m → c < n → r.send l c ≡ r'.send l c
  pub receive : (l c : ℕ) → l < m → c < n → r.receive l c ≡ r'.receive l c
  pub leave : (l v : ℕ) → l < m → v < m → r.leave l v ≡ r'.leave l v

module _ (ls cs : List Name) (r r' : RightsOf ℕ ℕ) (a : Agree (length ls) (length cs) r r') where
  looked-up-agree : looked_up ls cs r ≡ looked_up ls cs r'
  unfolding looked_up
  looked-up-agree =
      made
      (fun_ext (λ l. fun_ext (λ c. looked-alike r.send r'.send ls cs l c (λ i j h k p q. a.send i j h k))))
      (fun_ext (λ l. fun_ext (λ c. looked-alike r.receive r'.receive ls cs l c (λ i j h k p q. a.receive i j h k))))
      (fun_ext (λ l. fun_ext (λ v. looked-alike r.leave r'.leave ls ls l v (λ i j h k p q. a.leave i j h k))))
    where
      made : {s s' t t' u u' : Name → Name → Bool} → s ≡ s' → t ≡ t' → u ≡ u'
          → ◌≡◌ {A = Rights} (record { send = s; receive = t; leave = u }) (record { send = s'; receive = t'; leave = u' })
      made p q e = λ i. record { send = p i; receive = q i; leave = e i }

  -- then the rights of names are the same
  pub by_name-agree : by_name ls cs r ≡ by_name ls cs r'
  unfolding by_name
  by_name-agree = ap (λ x. cond (all_given ls cs x) all_rights x) looked-up-agree
