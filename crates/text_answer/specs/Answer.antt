-- What the call `read` answers: document 01, *Reading* and questions 1 to 7, and document 02, R-8 and question 21, and R-6. A refusal leaves the lent script as
-- it was; what is accepted passes question 17, has the edition and the rights that were given, and leaves the other words behind the script's last row.
use Rattle.std.specs.Prelude.{ℕ, ◌+◌, ◌*◌, ◌≤◌, Bool, true, false, cond, ◌≡◌, length, get_or, set, replicate}
use mathlib.Core.List.{List, [], ◌++◌, map, flat_map}
use Rattle.std.proofs.lemmas.List.Edits.{sets}
use Rattle.terms.specs.Names.{Name}
use Rattle.terms.specs.Terms.{Network, RightsOf}
use Rattle.terms.specs.Rights.{by_name}
use Rattle.terms.specs.Rules.{Answer}
use Rattle.terms.specs.Rules.Answer.{refused, accepted}
use Rattle.text.specs.Syntax.{Text}
use Rattle.text.specs.Tree.{settled}
use Rattle.text.specs.Questions.{form, channels, locations, read_under, part_count}
use Rattle.waits.specs.Waits.{begun}
use Rattle.table.specs.declared.State.{State}
use Rattle.table.specs.Words.{row_size, parts_at, edition_at, rights_at, script_words, state_words, word, parts_in, edition_in}
use Rattle.table.specs.Meaning.{PastKept, list_from, rights_of, comps_of, tally_of, network_of}
use Rattle.table.specs.Valid.{valid}
use Rattle.text_build.specs.Rows.{locs_of, chans_of}
use Rattle.text_tree.specs.Asked.{comp_of}
use Rattle.text_answer.specs.declared.Row.{Row}
use Rattle.text_answer.specs.declared.Settings.{Settings}
use Rattle.text_answer.specs.declared.Reading.{Reading}

-- ── components ──
-- the components at the places xs, and no others; every other word is zero
pub record StateIs (w : List ℕ) (xs : List (List ℕ)) (st : State) : Type 0 where
  pub count : st.n ≡ length xs
  pub comps : comps_of st ≡ map (comp_of w) xs
  pub past : PastKept st.n (replicate state_words 0) st.c

-- ── the answer ──
abbrev pub refusal : ℕ → Reading
refusal n = record { code = n; state = record { c = replicate state_words 0; n = 0 } }

-- the locations and channels of a text that has a form, numbered by first place
abbrev pub locations_in : Answer Text → List Name
locations_in (refused n) = []
locations_in (accepted x) = locations (settled x)

abbrev pub channels_in : Answer Text → List Name
channels_in (refused n) = []
channels_in (accepted x) = channels (settled x)

-- how many parts it has
abbrev pub parts_of : Answer Text → ℕ
parts_of (refused n) = 0
parts_of (accepted x) = part_count (settled x)

-- ── what is given: document 02, R-8 and R-6 ──
-- R-6: a row that gives no right
abbrev pub no_row : Row
no_row = record { send = []; receive = []; leave = [] }

-- R-6: the rights that are given, by the numbers of locations and channels; none where there is no row
unfoldable pub given : Settings → RightsOf ℕ ℕ
given g = record {
  send = λ l c. get_or (get_or g.rights l no_row).send c false;
  receive = λ l c. get_or (get_or g.rights l no_row).receive c false;
  leave = λ l v. get_or (get_or g.rights l no_row).leave v false;
}

-- R-6: an edition with all rights
abbrev pub all_row : Row
all_row = record { send = replicate 64 true; receive = replicate 64 true; leave = replicate 64 true }

abbrev pub all_settings : ℕ → Settings
all_settings e = record { edition = e; rights = replicate 64 all_row }

-- R-6: the word of a right, and those of 64 of a kind
abbrev pub flag : Bool → ℕ
flag b = cond b 1 0

unfoldable pub flags : List Bool → List ℕ
flags bs = list_from 0 64 (λ c. flag (get_or bs c false))

-- R-6: the words of a row, and those of 64 rows
unfoldable pub row_words : Row → List ℕ
row_words r = flags r.send ++ (flags r.receive ++ flags r.leave)

unfoldable pub rights_words : List Row → List ℕ
rights_words rs = flat_map row_words (list_from 0 64 (λ l. get_or rs l no_row))

-- R-8 and R-6: a script with what was given put in its place
abbrev pub under : Settings → List ℕ → List ℕ
under g w = sets (set w edition_at g.edition) rights_at (rights_words g.rights)

-- an accepted text s: the script v and the components stand for the network m, pass question 17, have the edition and the rights that were given, the text's
-- numbers, and as many rows as it has parts. The words of the script behind the row of the last part are those of the script w before the call but for what
-- was given, no component has waited, no message is counted, and the words of the state that are no component's are zero: only the places in use are free.
pub record Took (s : List ℕ) (g : Settings) (w v : List ℕ) (m : Network) (r : Reading) : Type 0 where
  pub code : r.code ≡ 0
  pub network : network_of v r.state ≡ m
  pub edition : edition_in v ≡ g.edition
  pub rights : rights_of v ≡ by_name (locations_in (form s)) (channels_in (form s)) (given g)
  pub good : valid v r.state ≡ true
  pub locs : locs_of v ≡ locations_in (form s)
  pub chans : chans_of v ≡ channels_in (form s)
  pub parts : parts_in v ≡ parts_of (form s)
  pub size : length v ≡ script_words
  pub behind : (o : ℕ) → parts_at + parts_in v * row_size ≤ o → word v o ≡ word (under g w) o
  pub tally : tally_of r.state ≡ begun m.comps
  pub past : PastKept r.state.n (replicate state_words 0) r.state.c

-- the code's answer r for the text s with what was given, g, and the lent script before and after, w and v, stand for the answer of the definition; a refusal
-- leaves the script u
abbrev pub ReadsAnswer : List ℕ → Settings → Answer Network → List ℕ → List ℕ → List ℕ → Reading → Type 0
ReadsAnswer s g (refused n) u w v r = (r ≡ refusal n) × (v ≡ u)
ReadsAnswer s g (accepted m) u w v r = Took s g w v m r

-- document 01, *Reading*: a refusal leaves the script as it was
abbrev pub ReadsAs : List ℕ → Settings → List ℕ → List ℕ → Reading → Type 0
ReadsAs s g w v r = ReadsAnswer s g (read_under g.edition s) w w v r

-- the same, where a refusal leaves zeros
abbrev pub ReadsOver : List ℕ → Settings → List ℕ → List ℕ → Reading → Type 0
ReadsOver s g w v r = ReadsAnswer s g (read_under g.edition s) (replicate script_words 0) w v r
