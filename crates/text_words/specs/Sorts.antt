-- What the code's classes, sorts and fields stand for, in the definitions of `text`.
-- Serves inner contracts only.
use Rattle.std.specs.Prelude.{Bool, true, false, cond, ◌||◌}
use Rattle.terms.specs.Names.{Name, bytes, same_name}
use Rattle.terms.specs.Characters.Class.{capital, small, digit, bracket, blank, other}
use Rattle.terms.specs.Characters.{Class}
use Rattle.terms.specs.Letters.{is_small, is_location, is_identifier}
use Rattle.text.specs.Tokens.{is_ticks}
use Rattle.text.specs.Grammar.{Head}
use Rattle.text.specs.Grammar.Head.{stops, goes, sends, receives, calls, nothing}
use Rattle.text_words.specs.declared.Class.TheVariants as class
use Rattle.text_words.specs.declared.Sort.{Sort}
use Rattle.text_words.specs.declared.Sort.TheVariants.{Stop, Go, Out, In, Inf, Small, Location, Ticks, Other}
use Rattle.text_words.specs.declared.Field.{Field}
use Rattle.text_words.specs.declared.Field.TheVariants as field
use Rattle.text_words.specs.declared.Class.{Class as CodeClass}

abbrev pub class_is : CodeClass → Class
class_is class.Capital = capital
class_is class.Small = small
class_is class.Digit = digit
class_is class.Bracket = bracket
class_is class.Blank = blank
class_is class.Other = other

-- a word has one sort: no keyword is a name, and names of different sorts begin differently
unfoldable pub sort_of : Name → Sort
sort_of w =
    cond (same_name w (bytes "stop")) Stop
    (cond (same_name w (bytes "go")) Go
    (cond (same_name w (bytes "out")) Out
    (cond (same_name w (bytes "in")) In
    (cond (same_name w (bytes "inf")) Inf
    (cond (is_small w) Small
    (cond (is_location w) Location
    (cond (is_ticks w) Ticks Other)))))))

unfoldable pub is_timer : Name → Bool
is_timer w = same_name w (bytes "inf") || is_ticks w

-- the words that a field takes
abbrev pub fits : Field → Name → Bool
fits field.Small = is_small
fits field.Value = is_identifier
fits field.Timer = is_timer
fits field.Location = is_location

-- the same by the word's sort
abbrev pub suits_of : Sort → Field → Bool
suits_of Stop f = false
suits_of Go f = false
suits_of Out f = false
suits_of In f = false
suits_of Inf field.Small = false
suits_of Inf field.Value = false
suits_of Inf field.Timer = true
suits_of Inf field.Location = false
suits_of Small field.Small = true
suits_of Small field.Value = true
suits_of Small field.Timer = false
suits_of Small field.Location = false
suits_of Location field.Small = false
suits_of Location field.Value = true
suits_of Location field.Timer = false
suits_of Location field.Location = true
suits_of Ticks field.Small = false
suits_of Ticks field.Value = false
suits_of Ticks field.Timer = true
suits_of Ticks field.Location = false
suits_of Other f = false

-- what a part that begins with a word of the sort is
abbrev pub head_is : Sort → Head
head_is Stop = stops
head_is Go = goes
head_is Out = sends
head_is In = receives
head_is Inf = nothing
head_is Small = calls
head_is Location = calls
head_is Ticks = nothing
head_is Other = nothing
