-- The lines of document 01's printout, computed from the rules: four rounds of steps on the text of the paragraph on `timorun`.
use Rattle.std.specs.Prelude.{ℕ, zero, suc, List, [], ◌∷◌, ◌++◌, ◌≡◌, refl}
use Rattle.terms.specs.Names.{Name, bytes}
use Rattle.terms.specs.Terms.{Process, Component, Context, all_rights}
use Rattle.terms.specs.Terms.Timer.{ticks}
use Rattle.terms.specs.Terms.Edition.{edition1}
use Rattle.terms.specs.Terms.Value.{loc, var}
use Rattle.terms.specs.Terms.Part.{stop, go, out, inp, call}
use Rattle.terms.specs.Terms.Process.{one}
use Rattle.terms.specs.Terms.Mark.{none}
use Rattle.terms.specs.Terms.Component.{comp}
use Rattle.terms.specs.Terms.Def.{define}
use Rattle.terms.specs.Rules.{Answer, ◌>>=◌}
use Rattle.terms.specs.Rules.Answer.{accepted}
use Rattle.terms.specs.Step.{step}
use Rattle.terms.specs.Runs.{rules}
use Rattle.run_line.specs.Line.{label_text, spaced, line_text}

abbrev A : Name
A = bytes "A"

abbrev B : Name
B = bytes "B"

abbrev c : Name
c = bytes "c"

abbrev x : Name
x = bytes "x"

abbrev y : Name
y = bytes "y"

abbrev halt : Process
halt = one stop

-- Page(x) = go(0,x,out(c,1,x,stop,stop)) .
abbrev pages : Context
pages = record { defs = define (bytes "Page") (x ∷ []) (one (go (ticks 0) (var x) (one (out c (ticks 1) (var x) halt halt)))) ∷ []; edition = edition1; rights = all_rights }

-- A[Page(B)] | B[in(c,2,y,go(0,y,stop),stop)] .
abbrev net0 : List Component
net0 = comp A none (one (call (bytes "Page") (loc B ∷ []))) ∷ comp B none (one (inp c (ticks 2) y (one (go (ticks 0) (var y) halt)) halt)) ∷ []

-- the lines of a round of steps, and of so many rounds
unfoldable rounds : ℕ → List Component → Answer (List ℕ)
rounds zero net = accepted []
rounds (suc n) net =
    step pages A net >>= λ a. step pages B a.comps >>= λ b. rounds n b.comps >>= λ s.
    accepted (line_text A a.labels ++ (line_text B b.labels ++ s))

printed : rounds 4 net0 ≡ accepted (bytes "A Page@A\nB\nA B@A\nB c<B>@B\nA\nB B@B\nA\nB\n")
unfolding rules rounds label_text spaced line_text
printed = refl
