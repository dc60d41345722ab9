-- Document 01's own text and printout, computed, with the line of the mean; means of one half, one and a half, and two and a half; a text without messages; and the empty text.
use Rattle.std.specs.Prelude.{[], ◌≡◌, refl}
use Rattle.terms.specs.Names.{bytes}
use Rattle.terms.specs.Runs.{rules}
use Rattle.waits.specs.Waits.{waiting}
use Rattle.waits.specs.Mean.{mean_of, rounded}
use Rattle.text.specs.Tokens.{tokenwise}
use Rattle.text.specs.Grammar.{grammar}
use Rattle.text.specs.Questions.{questions}
use Rattle.text.specs.Write.{writing}
use Rattle.calls_tick.specs.Ticked.{room}
use Rattle.calls_step.specs.Stepped.{step_counted}
use Rattle.run_line.specs.Line.{label_text, spaced, line_text}
use Rattle.run_turn.specs.Turn.{refused_text, turn_of}
use Rattle.run_print.specs.Print.{shown, mean_text, ending, playing, printout}

unfoldable printing : Unit {0}
unfolding rules waiting mean_of rounded tokenwise grammar questions writing room step_counted label_text spaced line_text refused_text turn_of shown mean_text ending playing printout
printing = tt

own : printout (bytes "Page(x) = go(0,x,out(c,1,x,stop,stop)) .\nA[Page(B)] | B[in(c,2,y,go(0,y,stop),stop)] .\n")
    ≡ bytes "A Page@A\nB\nA B@A\nB c<B>@B\nA\nB B@B\nA\nB\nPage(x) = go(0,x,out(c,1,x,stop,stop)) .\nB[stop] | B[stop] .\n0\n"
unfolding printing
own = refl

empty : printout [] ≡ bytes "refused 2\n"
unfolding printing
empty = refl

-- Two senders wait until their readers have come from A, whose steps are first in every round: for no tick and one, one and two, two and three. Over two
-- messages that is one half, one and a half, two and a half, and is printed as 0, 2 and 2: document 02, R-9.
one-half : printout (bytes "A[go(0,B,in(c,9,x,stop,stop)) | go(1,B,in(d,9,x,stop,stop))] | B[out(c,9,A,stop,stop) | out(d,9,A,stop,stop)] .")
    ≡ bytes "A B@A\nB c<A>@B\nA B@A\nB d<A>@B\nA\nB\nA\nB\nB[stop] | B[stop] | B[stop] | B[stop] .\n0\n"
unfolding printing
one-half = refl

one_and_a_half : printout (bytes "A[go(1,B,in(c,9,x,stop,stop)) | go(2,B,in(d,9,x,stop,stop))] | B[out(c,9,A,stop,stop) | out(d,9,A,stop,stop)] .")
    ≡ bytes "A\nB\nA B@A\nB c<A>@B\nA B@A\nB d<A>@B\nA\nB\nB[stop] | B[stop] | B[stop] | B[stop] .\n2\n"
unfolding printing
one_and_a_half = refl

two-and-a-half : printout (bytes "A[go(2,B,in(c,9,x,stop,stop)) | go(3,B,in(d,9,x,stop,stop))] | B[out(c,9,A,stop,stop) | out(d,9,A,stop,stop)] .")
    ≡ bytes "A\nB\nA\nB\nA B@A\nB c<A>@B\nA B@A\nB d<A>@B\nB[stop] | B[stop] | B[stop] | B[stop] .\n2\n"
unfolding printing
two-and-a-half = refl

quiet : printout (bytes "A[go(inf,A,stop)] .") ≡ bytes "A\nA\nA\nA\nA[go(inf,A,stop)] .\n-\n"
unfolding printing
quiet = refl
