-- Demand 3: every list of calls of any content, refused ones included, given one after another from an unmarked network, is equal to its grouped run; and
-- so from every text that reading accepts. By the claim for the rules (Mixed of the crate terms): the accepted calls are a straight run (Straight), and
-- what is read is unmarked (Gives of the crate text).
use Prim.Native.Nat.{ℕ, min}
use native.Mathlib.Omega.{arith}
use mathlib.Core.List.{List}
use mathlib.Core.Bool.{true}
use mathlib.Core.Path.{◌≡◌, refl, ap, subst, ◌∙◌}
use lib.ListN.{length}
use Rattle.terms.specs.Terms.{Component, Network}
use Rattle.terms.specs.Rules.{Answer, unmarked}
use Rattle.terms.specs.Rules.Answer.{refused, accepted}
use Rattle.terms.specs.Same.{every}
use Rattle.terms.specs.Runs.{Fed, straight_run}
use Rattle.terms.specs.Descent.{ancestry, Reached}
use Rattle.terms.proofs.Lists.{every-each}
use Rattle.terms.proofs.Mixed.{mixed-runs}
use Rattle.terms.proofs.Descent.{leave-chain}
use Rattle.table.specs.declared.State.{State}
use Rattle.table.specs.Meaning.{context_of, net_of, network_of}
use Rattle.text.specs.Questions.{read_under}
use Rattle.text.proofs.Gives.{under-gives, read-unmarked}
use Rattle.text_read.proofs.Numbers.{AmongAll, among-all}
use Rattle.text_answer.specs.declared.Settings.{Settings}
use Rattle.text_answer.specs.declared.Reading.{Reading}
use Rattle.text_answer.specs.Answer.{ReadsAnswer, ReadsAs}
use Rattle.text_answer.proofs.Under.{took-context}
use Rattle.calls.specs.Run.{Given, Run, Mixed, RunsAs}
use Rattle.calls.specs.Demand3.{Demand3, read_rights, read_context, TextRuns}
use Rattle.calls.proofs.Straight.{straight-run}

-- from an unmarked network
pub mixed-calls : (w : List ℕ) {st last : State} {gs : List Given} {ks : List ℕ} {fs : List Fed} → Run w st gs ks fs last → every unmarked (net_of w st) ≡ true → Mixed (context_of w) (net_of w st) fs (net_of w last)
mixed-calls w {st} {last} {gs} {ks} {fs} r u =
    let m = mixed-runs (context_of w) fs (net_of w st) (net_of w last) (every-each unmarked (net_of w st) u) (straight-run w r) in
    record { grouped = m.0; runs = m.1; same = m.2 }

-- what is read has no mark
pub record Plain (s : List ℕ) (g : Settings) (v : List ℕ) (r : Reading) (m : Network) : Type 0 where
  pub context : context_of v ≡ read_context s g m
  pub comps : net_of v r.state ≡ m.comps
  pub unmarked-all : every unmarked (net_of v r.state) ≡ true

pub read_plain : (s : List ℕ) (g : Settings) (w v : List ℕ) (r : Reading) (m : Network) → ReadsAs s g w v r → read_under g.edition s ≡ accepted m → Plain s g v r m
unfolding network_of
read_plain s g w v r m a e =
    let t = subst (λ x. ReadsAnswer s g x w w v r) e a in
    let c : net_of v r.state ≡ m.comps = ap (λ n. n.comps) t.network in
    record { context = took-context t; comps = c; unmarked-all = ap (every unmarked) c ∙ read-unmarked s m (under-gives g.edition s m e).1 }

-- the claims from what is read are the claims from the text's network
module _ {s : List ℕ} {g : Settings} {v : List ℕ} {r : Reading} {m : Network} (p : Plain s g v r m) (fs : List Fed) (last : List Component) where
  from-text : Mixed (context_of v) (net_of v r.state) fs last → Mixed (read_context s g m) m.comps fs last
  from-text x = subst (λ d. Mixed d m.comps fs last) p.context (subst (λ cs. Mixed (context_of v) cs fs last) p.comps x)

  pub chain-text : straight_run (context_of v) fs (net_of v r.state) ≡ accepted last → Reached (read_rights s g) (ancestry (read_context s g m) fs m.comps m.comps) last
  chain-text e =
      subst (λ d. Reached d.rights (ancestry d fs m.comps m.comps) last) p.context
      (subst (λ cs. Reached (context_of v).rights (ancestry (context_of v) fs cs cs) last) p.comps (leave-chain (context_of v) fs (net_of v r.state) last e))

-- from a text
pub demand-3 : Demand3
demand-3 s g w v r m a e gs ks fs last x =
    let p = read_plain s g w v r m a e in
    (p.context, from-text p fs (net_of v last) (mixed-calls v x p.unmarked-all))

-- ── reading a text and running a list ──
module _ (s : List ℕ) (g : Settings) (w v : List ℕ) (r : Reading) (a : ReadsAs s g w v r) (cs₀ : List ℕ) (es : List (List ℕ)) (before : List ℕ) where
  pub text-refused : (r.code ≡ 0 → ⊥) → TextRuns s g (read_under g.edition s) w v cs₀ cs₀ es before before (record { code = r.code; done = 0; n = 0 })
  text-refused n = go (read_under g.edition s) a
    where
      go : (x : Answer Network) → ReadsAnswer s g x w w v r → TextRuns s g x w v cs₀ cs₀ es before before (record { code = r.code; done = 0; n = 0 })
      go (refused m) t = (ap (λ z. record { code = z.code; done = 0; n = 0 }) t.0, t.1, refl, refl)
      go (accepted m) t = absurd (n t.code)

  pub text-ran : (cs after : List ℕ) (done n : ℕ) → r.code ≡ 0 → RunsAs v r.state es before after done (record { c = cs; n = n }) → done ≡ min (length es) (length before)
      → TextRuns s g (read_under g.edition s) w v cs₀ cs es before after (record { code = 0; done = done; n = n })
  text-ran cs after done n z x d = go (read_under g.edition s) refl
    where
      go : (y : Answer Network) → read_under g.edition s ≡ y → TextRuns s g y w v cs₀ cs es before after (record { code = 0; done = done; n = n })
      go (refused m) e = let b : AmongAll (refused m) = subst AmongAll e (among-all g.edition s) in let t = subst (λ y. ReadsAnswer s g y w w v r) e a in absurd (omega (arith, b.0, ap (λ q. q.code) t.0))
      go (accepted m) e =
          let p = read_plain s g w v r m a e in
          record { code = refl; done = d; reading = r; took = subst (λ y. ReadsAnswer s g y w w v r) e a; ran = x; mixed = from-text p x.fs _ (x.mixed p.unmarked-all); reached = chain-text p x.fs _ (straight-run v x.runs) }
