-- The printout of `timorun`: document 01, the paragraph on the program. Four rounds of steps over all locations by number, a line for each step,
-- then the network, then on one more line the mean wait of the senders of all messages: document 02, R-1. A refusal prints its number and ends it. It keeps
-- edition 1 and gives all rights: document 02, R-8 and R-6.
use Rattle.std.specs.Prelude.{ℕ, List, [], ◌∷◌, ◌++◌, leb, length}
use Rattle.terms.specs.Names.{Name, bytes}
use Rattle.terms.specs.Terms.{Component, Context, Network, context_in, all_rights}
use Rattle.terms.specs.Terms.Edition.{edition1}
use Rattle.terms.specs.Rules.{Answer, unmarked}
use Rattle.terms.specs.Rules.Answer.{refused, accepted}
use Rattle.terms.specs.Same.{every}
use Rattle.waits.specs.Waits.{Tally, begun}
use Rattle.waits.specs.Counted.{Counted}
use Rattle.waits.specs.Mean.{Mean, rounded}
use Rattle.waits.specs.Mean.Mean.{none, over}
use Rattle.text.specs.Tokens.{digits}
use Rattle.text.specs.Questions.{form, read}
use Rattle.text.specs.Write.{write}
use Rattle.calls_act.specs.Acted.{asked}
use Rattle.calls_mean.specs.Averaged.{mean_in}
use Rattle.run_turn.specs.Turn.{Turn, refused_text, turn_of}
use Rattle.text_answer.specs.declared.Settings.{Settings}
use Rattle.text_answer.specs.Answer.{locations_in, all_settings}

-- the network, in 65,536 bytes: 14 and 15 as for writing
unfoldable pub shown : Context → List Component → Answer (List ℕ)
shown d cs =
    asked 14 (every unmarked cs)
    (asked 15 (leb (length (write (record { defs = d.defs; comps = cs }))) 65_536) (accepted (write (record { defs = d.defs; comps = cs }))))

-- the line of the mean: rounded to a whole tick, or `-` where there were no messages
unfoldable pub mean_text : Mean → List ℕ
mean_text none = bytes "-\n"
mean_text (over q r n) = digits (rounded q r n) ++ bytes "\n"

abbrev pub mean_line : Tally → List ℕ
mean_line t = mean_text (mean_in t)

-- the network and then the mean, or the refusal to write the network
abbrev pub ended : Answer (List ℕ) → Tally → List ℕ
ended (refused n) t = refused_text n
ended (accepted s) t = s ++ mean_line t

-- the network alone
abbrev pub shown_text : Answer (List ℕ) → List ℕ
shown_text (refused n) = refused_text n
shown_text (accepted s) = s

unfoldable pub ending : Context → Counted → List ℕ
ending d k = ended (shown d k.comps) k.tally

-- after a step: its line and what follows, or the refusal
abbrev pub followed : Answer Turn → (Counted → List ℕ) → List ℕ
followed (refused n) k = refused_text n
followed (accepted t) k = t.line ++ k t.net

-- a step at each of the locations, then the network and the mean
unfoldable pub playing : Context → List Name → Counted → List ℕ
playing d [] k = ending d k
playing d (l ∷ ls) k = followed (turn_of d l k) (playing d ls)

-- what is given with its text, and what the rules take of the text's network
abbrev pub print_settings : Settings
print_settings = all_settings 1

abbrev pub print_context : Network → Context
print_context m = context_in edition1 all_rights m

-- four rounds
abbrev pub four : List Name → List Name
four ls = ls ++ (ls ++ (ls ++ ls))

abbrev pub printed : List Name → Answer Network → List ℕ
printed ls (refused n) = refused_text n
printed ls (accepted m) = playing (print_context m) (four ls) (record { comps = m.comps; tally = begun m.comps })

unfoldable pub printout : List ℕ → List ℕ
printout s = printed (locations_in (form s)) (read s)
