-- Each limit of question 4, at it and past it, and how names are numbered: by computation from the definitions. (Bytes, nesting and components: Examples.)
use Rattle.std.specs.Prelude.{ℕ, zero, suc, ◌+◌, ◌/◌, ◌%◌, List, [], ◌∷◌, ◌++◌, true, ◌≡◌, refl}
use Prim.Native.String.{String}
use Rattle.terms.specs.Names.{Name, bytes}
use Rattle.terms.specs.Rules.{Answer, ◌>>=◌, ok}
use Rattle.terms.specs.Rules.Answer.{refused, accepted}
use Rattle.text.specs.Tokens.{tokenwise}
use Rattle.text.specs.Tree.{settled}
use Rattle.text.specs.Grammar.{grammar}
use Rattle.text.specs.Questions.{read, form, channels, locations, questions}

-- f of 0 up to n - 1, each before the next
each : ℕ → (ℕ → List ℕ) → List ℕ
each zero f = []
each (suc n) f = each n f ++ f n

-- a letter and two digits
named : String → ℕ → List ℕ
named s k = bytes s ++ ((48 + k / 10) ∷ (48 + k % 10) ∷ [])

-- ── definitions ──
defined : ℕ → List ℕ
defined n = each n (λ k. named "D" k ++ bytes "=stop.") ++ bytes "A[stop]."

definitions-32 : ok (read (defined 32)) ≡ true
unfolding tokenwise grammar questions each named defined
definitions-32 = refl

definitions-33 : read (defined 33) ≡ refused 4
unfolding tokenwise grammar questions each named defined
definitions-33 = refl

-- ── parameters ──
parameters-4 : ok (read (bytes "X(a,b,c,d)=stop.A[stop].")) ≡ true
unfolding tokenwise grammar questions
parameters-4 = refl

parameters-5 : read (bytes "X(a,b,c,d,e)=stop.A[stop].") ≡ refused 4
unfolding tokenwise grammar questions
parameters-5 = refl

-- ── channels ──
heard : ℕ → List ℕ
heard n = bytes "A[" ++ (each n (λ k. bytes "in(" ++ (named "c" k ++ bytes ",0,x,stop,stop)|")) ++ bytes "stop].")

channels-64 : ok (read (heard 64)) ≡ true
unfolding tokenwise grammar questions each named heard
channels-64 = refl

channels-65 : read (heard 65) ≡ refused 4
unfolding tokenwise grammar questions each named heard
channels-65 = refl

-- ── locations ──
located : ℕ → List ℕ
located n = each n (λ k. named "L" k ++ bytes "[stop]|") ++ bytes "L00[stop]."

locations-64 : ok (read (located 64)) ≡ true
unfolding tokenwise grammar questions each named located
locations-64 = refl

locations-65 : read (located 65) ≡ refused 4
unfolding tokenwise grammar questions each named located
locations-65 = refl

-- a location that stands only as a value, in a definition that nobody calls, or among surplus arguments counts
surplus-location : read (bytes "X=go(0,M,stop)." ++ located 64) ≡ refused 4
unfolding tokenwise grammar questions each named located
surplus-location = refl

surplus-argument : read (bytes "X=X(M)." ++ located 64) ≡ refused 4
unfolding tokenwise grammar questions each named located
surplus-argument = refl

-- ── variables in scope ──
bound : ℕ → List ℕ
bound zero = bytes "stop"
bound (suc n) = bytes "in(c,0," ++ (named "x" n ++ (bytes "," ++ (bound n ++ bytes ",stop)")))

variables-8 : ok (read (bytes "A[" ++ (bound 8 ++ bytes "]."))) ≡ true
unfolding tokenwise grammar questions named bound
variables-8 = refl

variables-9 : read (bytes "A[" ++ (bound 9 ++ bytes "].")) ≡ refused 4
unfolding tokenwise grammar questions named bound
variables-9 = refl

-- parameters count, and a name bound again does not
parameters-and-4 : ok (read (bytes "X(a,b,c,d)=" ++ (bound 4 ++ bytes ".A[stop]."))) ≡ true
unfolding tokenwise grammar questions named bound
parameters-and-4 = refl

parameters-and-5 : read (bytes "X(a,b,c,d)=" ++ (bound 5 ++ bytes ".A[stop].")) ≡ refused 4
unfolding tokenwise grammar questions named bound
parameters-and-5 = refl

bound-again : ok (read (bytes "A[in(c,0,x00," ++ (bound 8 ++ bytes ",stop)]."))) ≡ true
unfolding tokenwise grammar questions named bound
bound-again = refl

-- ── parts: those of a definition and of the network together ──
stops : ℕ → List ℕ
stops zero = bytes "stop.A[stop]."
stops (suc n) = bytes "stop|" ++ stops n

parts-4096 : ok (read (bytes "X=" ++ stops 4_094)) ≡ true
unfolding tokenwise grammar questions stops
parts-4096 = refl

parts-4097 : read (bytes "X=" ++ stops 4_095) ≡ refused 4
unfolding tokenwise grammar questions stops
parts-4097 = refl

-- ── numbering ──
abbrev numbers : Answer (List Name) → List Name
numbers (refused n) = []
numbers (accepted xs) = xs

-- by first place in the text, wherever it is: a definition's body, a value, a located process
locations-numbered : numbers (form (bytes "X=go(0,D,stop).Y(u)=out(c,1,B,stop,go(1,A,stop)).C[Y(E)]|A[X]|B[stop].") >>= λ x. accepted (locations (settled x)))
    ≡ bytes "D" ∷ bytes "B" ∷ bytes "A" ∷ bytes "C" ∷ bytes "E" ∷ []
unfolding tokenwise grammar questions
locations-numbered = refl

-- an identifier with a capital is no location
identifiers-unnumbered : numbers (form (bytes "B=stop.A[B].") >>= λ x. accepted (locations (settled x))) ≡ bytes "A" ∷ []
unfolding tokenwise grammar questions
identifiers-unnumbered = refl

-- channels in a count of their own; a variable spelt alike is none
channels-numbered : numbers (form (bytes "X(e)=in(d,1,c,out(b,1,c,stop,stop),stop).A[out(a,0,A,stop,in(d,0,x,stop,stop))].") >>= λ x. accepted (channels (settled x)))
    ≡ bytes "d" ∷ bytes "b" ∷ bytes "a" ∷ []
unfolding tokenwise grammar questions
channels-numbered = refl
