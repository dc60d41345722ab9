-- What the write call writes is read back as the same network under the edition that the network has, and not under the other: document 02, R-8.
-- By the round trip of the tables (text_back), and by what reading and comparing promise.
use Prim.Native.Nat.{ℕ}
use native.Mathlib.Omega.{arith}
use mathlib.Core.List.{List}
use mathlib.Core.Bool.{Bool, true, false, ◌&&◌}
use mathlib.Core.Path.{◌≡◌, refl, sym, ap, subst, ◌∙◌}
use lib.Dec.{eqb}
use Rattle.terms.specs.Terms.{Network}
use Rattle.terms.specs.Rules.{Answer}
use Rattle.terms.specs.Rules.Answer.{refused, accepted}
use Rattle.terms.specs.Same.{same}
use Rattle.terms.proofs.Same.{same_self}
use Rattle.text.specs.Tree.{tree_of}
use Rattle.text.specs.Write.{write}
use Rattle.text.specs.Questions.{ask, ◌>>◌, read_under, short, shallow, fits}
use Rattle.text.proofs.RoundTrip.{limited}
use Rattle.text.proofs.Gives.{under-gives, known-edition}
use Rattle.table.specs.declared.State.{State}
use Rattle.table.specs.Words.{edition_in}
use Rattle.table.specs.Meaning.{network_of}
use Rattle.text_answer.specs.declared.Settings.{Settings}
use Rattle.text_answer.specs.declared.Reading.{Reading}
use Rattle.text_answer.specs.Answer.{ReadsAnswer, ReadsAs}
use Rattle.text_read.proofs.Numbers.{AmongAll, among-all}
use Rattle.text_write.specs.Answer.{write_answer}
use Rattle.text_back.proofs.RoundTrip.{written-again, written-valid}
use Rattle.calls_same.specs.Answer.{same_answer}

-- if no limit refuses a network, it is the answer
within-limits : (n m : Network) → limited n ≡ accepted m → n ≡ m
within-limits n m = go (short (write n)) (shallow (tree_of n)) (fits (tree_of n))
  where
    go : (a b c : Bool) → (ask 1 a >> (ask 3 b >> (ask 4 c >> accepted n))) ≡ accepted m → n ≡ m
    go false b c e = let z : ◌≡◌ {A = ℕ} 0 1 = cc in absurd (omega arith)
    go true false c e = let z : ◌≡◌ {A = ℕ} 0 1 = cc in absurd (omega arith)
    go true true false e = let z : ◌≡◌ {A = ℕ} 0 1 = cc in absurd (omega arith)
    go true true true e = cc

-- s was written for the table of w and st, and read with g, whatever was lent: if that was accepted, the networks are the same exactly if g has the table's edition
pub read_back : (w : List ℕ) (st : State) (n : ℕ) (s : List ℕ) → write_answer w st n ≡ accepted s
    → (g : Settings) (u v : List ℕ) (r : Reading) → ReadsAs s g u v r → r.code ≡ 0
    → same_answer w st v r.state ≡ accepted (eqb (edition_in w) g.edition)
unfolding same_answer
read_back w st n s e g u v r a z = go (read_under g.edition s) refl a
  where
    and-true : (b c : Bool) → c ≡ true → (b && c) ≡ b
    and-true true c h = h
    and-true false c h = refl

    go : (x : Answer Network) → read_under g.edition s ≡ x → ReadsAnswer s g x u u v r → same_answer w st v r.state ≡ accepted (eqb (edition_in w) g.edition)
    go (refused k) h t = let b : AmongAll (refused k) = subst AmongAll h (among-all g.edition s) in absurd (omega (arith, b.0, z, ap (λ q. q.code) t.0))
    go (accepted m) h t =
        let own = written-valid w st n s e in
        let read-own = known-edition (edition_in w) s own.1 in
        let k : network_of w st ≡ m = within-limits (network_of w st) m (sym (written-again w st n s e) ∙ read-own ∙ (under-gives g.edition s m h).1) in
        let i : same (network_of w st) (network_of v r.state) ≡ true = rw (t.network, k) (same_self m) in
        rw (own.0, t.good, t.edition) (ap accepted (and-true (eqb (edition_in w) g.edition) _ i))
