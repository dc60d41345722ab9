-- The printout by pieces: one for each step, then one for the network and one for the mean; a refusal is the last. Joined they are the printout (proofs/Pieces).
use Rattle.std.specs.Prelude.{ℕ, zero, suc, ◌-◌, ◌≤◌, ◌<◌, List, [], ◌∷◌, true, ◌≡◌, take, drop}
use Rattle.terms.specs.Names.{Name}
use Rattle.terms.specs.Terms.{Context, Network as Net}
use Rattle.terms.specs.Rules.{Answer}
use Rattle.terms.specs.Rules.Answer.{refused, accepted}
use Rattle.waits.specs.Waits.{Tally, begun}
use Rattle.waits.specs.Counted.{Counted}
use Rattle.text.specs.Questions.{form, read}
use Rattle.table.specs.declared.State.{State}
use Rattle.table.specs.Words.{locs_in}
use Rattle.table.specs.Meaning.{context_of, net_of, tally_of, counted_of}
use Rattle.table.specs.Valid.{valid}
use Rattle.text_build.specs.Rows.{locs_of}
use Rattle.text_answer.specs.declared.Reading.{Reading}
use Rattle.text_answer.specs.Answer.{locations_in}
use Rattle.run_pieces.specs.declared.Stage.{Stage}
use Rattle.run_pieces.specs.declared.Stage.TheVariants.{Refused, Step, Network, Mean, Over}
use Rattle.run_pieces.specs.declared.Progress.{Progress}
use Rattle.run_pieces.specs.declared.Piece.{Piece}
use Rattle.run_turn.specs.Turn.{Turn, refused_text, turn_of}
use Rattle.run_print.specs.Print.{shown, mean_line, four, print_context}
use Rattle.run_print.specs.Rounds.{remaining}

-- after a step: its line and the pieces that follow, or the refusal
abbrev pub followed_pieces : Answer Turn → (Counted → List (List ℕ)) → List (List ℕ)
followed_pieces (refused n) k = refused_text n ∷ []
followed_pieces (accepted t) k = t.line ∷ k t.net

-- the network and then the mean, or the refusal to write the network
abbrev pub ended_pieces : Answer (List ℕ) → Tally → List (List ℕ)
ended_pieces (refused n) t = refused_text n ∷ []
ended_pieces (accepted s) t = s ∷ mean_line t ∷ []

-- the pieces of a step at each of the locations, then the network and the mean
unfoldable pub playing_pieces : Context → List Name → Counted → List (List ℕ)
playing_pieces d [] k = ended_pieces (shown d k.comps) k.tally
playing_pieces d (l ∷ ls) k = followed_pieces (turn_of d l k) (playing_pieces d ls)

abbrev pub pieces_of : List Name → Answer Net → List (List ℕ)
pieces_of ls (refused n) = refused_text n ∷ []
pieces_of ls (accepted m) = playing_pieces (print_context m) (four ls) (record { comps = m.comps; tally = begun m.comps })

unfoldable pub pieces : List ℕ → List (List ℕ)
pieces s = pieces_of (locations_in (form s)) (read s)

-- ── where a printout by pieces stands ──
-- the pieces that are left: a refusal; or those of the steps that are left with the network; or the network and the mean; or the mean; or none
abbrev pub left_at : List ℕ → Stage → State → List (List ℕ)
left_at w (Refused n) st = refused_text n ∷ []
left_at w (Step round l) st = playing_pieces (context_of w) (remaining (4 - round) l (locs_of w)) (counted_of w st)
left_at w Network st = ended_pieces (shown (context_of w) (net_of w st)) (tally_of st)
left_at w Mean st = mean_line (tally_of st) ∷ []
left_at w (Over read) st = []

abbrev pub pieces_left : List ℕ → Progress → List (List ℕ)
pieces_left w c = left_at w c.stage c.state

-- the refusal has a question's number, or the next step can be made, or the network passes question 17; it still does when the printout of a text that was read is over
abbrev pub StageOk : List ℕ → Stage → State → Type 0
StageOk w (Refused n) st = n < 16
StageOk w (Step round l) st = (valid w st ≡ true) × (l < locs_in w) × (round < 4)
StageOk w Network st = valid w st ≡ true
StageOk w Mean st = valid w st ≡ true
StageOk w (Over read) st = read ≡ true → valid w st ≡ true

abbrev pub ProgressOk : List ℕ → Progress → Type 0
ProgressOk w c = StageOk w c.stage c.state

-- before the first piece: the refusal to read, or the first step
abbrev pub first_by : ℕ → Stage
first_by zero = Step 0 0
first_by (suc n) = Refused (suc n)

abbrev pub first_of : Reading → Progress
first_of r = record { stage = first_by r.code; state = r.state }

-- the first piece of those that are left at a stage stands at the front of the buffer e, which was d before; the bytes past it are as they were
pub record PieceAt (w : List ℕ) (g : Stage) (st : State) (d e : List ℕ) (r : Piece) : Type 0 where
  pub few : r.len ≤ 65_536
  pub first : left_at w g st ≡ take r.len e ∷ pieces_left w r.next
  pub past : drop r.len e ≡ drop r.len d
  pub ok : ProgressOk w r.next

abbrev pub PieceIs : List ℕ → Progress → List ℕ → List ℕ → Piece → Type 0
PieceIs w c d e r = PieceAt w c.stage c.state d e r
