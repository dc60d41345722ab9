-- Texts of document 01, each question's number, and pairs of violated questions: by computation from the definitions.
use Rattle.std.specs.Prelude.{ℕ, zero, suc, List, [], ◌∷◌, ◌++◌, true, false, ◌≡◌, refl, replicate}
use Prim.Native.String.{String}
use Rattle.terms.specs.Names.{Name, bytes}
use Rattle.terms.specs.Terms.{Process, Network}
use Rattle.terms.specs.Terms.Timer.{ticks, inf}
use Rattle.terms.specs.Terms.Value.{loc, var}
use Rattle.terms.specs.Terms.Part.{stop, go, out, inp, call}
use Rattle.terms.specs.Terms.Process.{one}
use Rattle.terms.specs.Terms.Mark.{none}
use Rattle.terms.specs.Terms.Component.{comp}
use Rattle.terms.specs.Terms.Def.{define}
use Rattle.terms.specs.Rules.{Answer, ◌>>=◌, ok}
use Rattle.terms.specs.Rules.Answer.{refused, accepted}
use Rattle.text.specs.Tokens.{tokenwise}
use Rattle.text.specs.Syntax as S
use Rattle.text.specs.Tree.{settle, settled, network_of}
use Rattle.text.specs.Grammar.{grammar}
use Rattle.text.specs.Write.{write, writing}
use Rattle.text.specs.Questions.{read, short, form, locations, questions}

abbrev reads : String → Answer Network
reads s = read (bytes s)

abbrev halt : Process
halt = one stop

abbrev A : Name
A = bytes "A"

abbrev B : Name
B = bytes "B"

abbrev c : Name
c = bytes "c"

abbrev x : Name
x = bytes "x"

abbrev y : Name
y = bytes "y"

-- ── the input and the end of `timorun` ──
abbrev page : Network
page = record {
  defs = define (bytes "Page") (x ∷ []) (one (go (ticks 0) (var x) (one (out c (ticks 1) (var x) halt halt)))) ∷ [];
  comps = comp A none (one (call (bytes "Page") (loc B ∷ []))) ∷ comp B none (one (inp c (ticks 2) y (one (go (ticks 0) (var y) halt)) halt)) ∷ [];
}

abbrev page_text : String
page_text = "Page(x) = go(0,x,out(c,1,x,stop,stop)) .\nA[Page(B)] | B[in(c,2,y,go(0,y,stop),stop)] .\n"

page-read : reads page_text ≡ accepted page
unfolding tokenwise grammar questions
page-read = refl

page-written : write page ≡ bytes page_text
unfolding writing
page-written = refl

end-written : write (record { defs = page.defs; comps = comp B none halt ∷ comp B none halt ∷ [] }) ≡ bytes "Page(x) = go(0,x,out(c,1,x,stop,stop)) .\nB[stop] | B[stop] .\n"
unfolding writing
end-written = refl

page-locations : (form (bytes page_text) >>= λ x. accepted (locations (settled x))) ≡ accepted (A ∷ B ∷ [])
unfolding tokenwise grammar questions
page-locations = refl

-- ── a text's syntax tree, and its term ──
abbrev W : Name
W = bytes "W"

abbrev sending : S.Part
sending = S.out c S.forever (loc B) (S.one (S.call W (loc A ∷ []))) (S.one S.stop)

abbrev receiving : S.Part
receiving = S.inp c (S.exactly 0) y (S.one S.stop) (S.one (S.call W (loc B ∷ [])))

abbrev paired : S.Text
paired = record {
  defs = S.define W (x ∷ []) (S.one (S.go (S.exactly 3) (var x) (S.one S.stop))) ∷ [];
  located = S.at A (S.◌∥◌ sending (S.one receiving)) ∷ [];
}

paired-form : form (bytes "W(x)=go(3,x,stop). A[out(c,inf,B,W(A),stop) | in(c,0,y,stop,W(B))].") ≡ accepted paired
unfolding tokenwise grammar questions
paired-form = refl

sending-term : settle sending ≡ out c inf (loc B) (one (call W (loc A ∷ []))) halt
sending-term = refl

receiving-term : settle receiving ≡ inp c (ticks 0) y halt (one (call W (loc B ∷ [])))
receiving-term = refl

paired-term : network_of (settled paired) ≡ record {
  defs = define W (x ∷ []) (one (go (ticks 3) (var x) halt)) ∷ [];
  comps = comp A none (one (settle sending)) ∷ comp A none (one (settle receiving)) ∷ [];
}
unfolding questions
paired-term = refl

-- ── example 12 ──
empty-text : reads "" ≡ refused 2
unfolding tokenwise grammar questions
empty-text = refl

-- ── 2: the form ──
no-network : reads "X = stop ." ≡ refused 2
unfolding tokenwise grammar questions
no-network = refl

empty-brackets : reads "A[X()] ." ≡ refused 2
unfolding tokenwise grammar questions
empty-brackets = refl

something-after : reads "A[stop] . ." ≡ refused 2
unfolding tokenwise grammar questions
something-after = refl

tab-no-blank : reads "A[stop]\t." ≡ refused 2
unfolding tokenwise grammar questions
tab-no-blank = refl

leading-zero : reads "A[go(00,A,stop)] ." ≡ refused 2
unfolding tokenwise grammar questions
leading-zero = refl

timer-above : reads "A[go(1000001,A,stop)] ." ≡ refused 2
unfolding tokenwise grammar questions
timer-above = refl

timer-beyond-words : reads "A[go(18446744073709551616,A,stop)] ." ≡ refused 2
unfolding tokenwise grammar questions
timer-beyond-words = refl

reserved-location : reads "S[stop] ." ≡ refused 2
unfolding tokenwise grammar questions
reserved-location = refl

reserved-identifier : reads "inf = stop . A[stop] ." ≡ refused 2
unfolding tokenwise grammar questions
reserved-identifier = refl

name-of-17 : reads "A[abcdefghijklmnopq] ." ≡ refused 2
unfolding tokenwise grammar questions
name-of-17 = refl

small-location : reads "a[stop] ." ≡ refused 2
unfolding tokenwise grammar questions
small-location = refl

-- ── 4 to 7 ──
five-parameters : reads "X(a,b,c,d,e) = stop . A[stop] ." ≡ refused 4
unfolding tokenwise grammar questions
five-parameters = refl

nine-in-scope : reads "X(a,b,c,d) = in(c,0,e,in(c,0,f,in(c,0,g,in(c,0,h,in(c,0,i,stop,stop),stop),stop),stop),stop) . A[stop] ." ≡ refused 4
unfolding tokenwise grammar questions
nine-in-scope = refl

defined-twice : reads "X = stop . X(u) = stop . A[stop] ." ≡ refused 5
unfolding tokenwise grammar questions
defined-twice = refl

parameter-twice : reads "X(u,u) = stop . A[stop] ." ≡ refused 5
unfolding tokenwise grammar questions
parameter-twice = refl

undefined : reads "A[Y] ." ≡ refused 6
unfolding tokenwise grammar questions
undefined = refl

few-arguments : reads "X(u) = stop . A[X] ." ≡ refused 6
unfolding tokenwise grammar questions
few-arguments = refl

-- arguments have no limit of their own
many-arguments : reads "X(u) = stop . A[X(A,A,A,A,A)] ." ≡ refused 6
unfolding tokenwise grammar questions
many-arguments = refl

unbound : reads "A[go(0,x,stop)] ." ≡ refused 7
unfolding tokenwise grammar questions
unbound = refl

-- Q does not see the name that `in` binds
unbound-in-q : reads "A[in(c,0,x,stop,go(0,x,stop))] ." ≡ refused 7
unfolding tokenwise grammar questions
unbound-in-q = refl

-- in a definition that nobody calls
unbound-uncalled : reads "X(u) = X(v) . A[stop] ." ≡ refused 7
unfolding tokenwise grammar questions
unbound-uncalled = refl

-- ── pairs of violated questions: the lower number answers, wherever in the text they stand ──
form-before-7 : reads "A[go(0,x,Y)] | B[stop] . ," ≡ refused 2
unfolding tokenwise grammar questions
form-before-7 = refl

four-before-5 : reads "X(a,b,c,d,a) = stop . A[Y] ." ≡ refused 4
unfolding tokenwise grammar questions
four-before-5 = refl

four-before-6 : reads "A[Y] | B[in(c,0,a,in(c,0,b,in(c,0,d,in(c,0,e,in(c,0,f,in(c,0,g,in(c,0,h,in(c,0,i,in(c,0,j,stop,stop),stop),stop),stop),stop),stop),stop),stop),stop)] ." ≡ refused 4
unfolding tokenwise grammar questions
four-before-6 = refl

five-before-6 : reads "X = Y . X(u) = stop . A[stop] ." ≡ refused 5
unfolding tokenwise grammar questions
five-before-6 = refl

five-before-7 : reads "X(u,u) = go(0,x,stop) . A[stop] ." ≡ refused 5
unfolding tokenwise grammar questions
five-before-7 = refl

six-before-7 : reads "A[go(0,x,Y)] ." ≡ refused 6
unfolding tokenwise grammar questions
six-before-7 = refl

-- ── accepted ──
-- a name is what its place makes it
by_place : reads "A=A.A[A]." ≡ accepted (record { defs = define A [] (one (call A [])) ∷ []; comps = comp A none (one (call A [])) ∷ [] })
unfolding tokenwise grammar questions
by_place = refl

-- a channel's place holds a channel even where a variable is spelt alike
channel-place : reads "A[in(c,0,c,out(c,1,c,stop,stop),stop)] ." ≡ accepted (record { defs = []; comps = comp A none (one (inp c (ticks 0) c (one (out c (ticks 1) (var c) halt halt)) halt)) ∷ [] })
unfolding tokenwise grammar questions
channel-place = refl

spread-out : reads " \n inn=stop. A [ go\n( inf , B , stop\n) | inn ] . \n" ≡ accepted (record { defs = define (bytes "inn") [] halt ∷ []; comps = comp A none (one (go inf (loc B) halt)) ∷ comp A none (one (call (bytes "inn") [])) ∷ [] })
unfolding tokenwise grammar questions
spread-out = refl

most-ticks : reads "A[go(1000000,A,stop)] ." ≡ accepted (record { defs = []; comps = comp A none (one (go (ticks 1_000_000) (loc A) halt)) ∷ [] })
unfolding tokenwise grammar questions
most-ticks = refl

most-ticks-written : write (record { defs = []; comps = comp A none (one (go (ticks 1_000_000) (loc A) halt)) ∷ [] }) ≡ bytes "A[go(1000000,A,stop)] .\n"
unfolding writing
most-ticks-written = refl

-- ── nesting, and the number of components and bytes ──
nested : ℕ → List ℕ → List ℕ
nested zero s = bytes "stop" ++ s
nested (suc n) s = bytes "go(0,A," ++ nested n (bytes ")" ++ s)

nesting-32 : ok (read (bytes "A[" ++ nested 31 (bytes "] ."))) ≡ true
unfolding tokenwise grammar questions nested
nesting-32 = refl

nesting-33 : read (bytes "A[" ++ nested 32 (bytes "] .")) ≡ refused 3
unfolding tokenwise grammar questions nested
nesting-33 = refl

three-before-4 : read (bytes "X(a,b,c,d,e) = stop . A[" ++ nested 32 (bytes "] .")) ≡ refused 3
unfolding tokenwise grammar questions nested
three-before-4 = refl

form-before-3 : read (bytes "X(a,b,c,d,e) = stop . A[" ++ nested 32 (bytes "] ")) ≡ refused 2
unfolding tokenwise grammar questions nested
form-before-3 = refl

stops : ℕ → List ℕ
stops zero = bytes "stop] ."
stops (suc n) = bytes "stop|" ++ stops n

components-256 : ok (read (bytes "A[" ++ stops 255)) ≡ true
unfolding tokenwise grammar questions stops
components-256 = refl

components-257 : read (bytes "A[" ++ stops 256) ≡ refused 4
unfolding tokenwise grammar questions stops
components-257 = refl

-- 1 comes before all others
one-first : (s : List ℕ) → short s ≡ false → read s ≡ refused 1
unfolding read
one-first s e = rw e

bytes-65535 : short (replicate 65_535 32) ≡ true
unfolding short
bytes-65535 = refl

bytes-65536 : short (replicate 65_536 32) ≡ false
unfolding short
bytes-65536 = refl
