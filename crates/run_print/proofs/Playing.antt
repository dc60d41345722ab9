-- The ways of the code to the printout: the network, the rounds, a refusal.
use Prim.Native.Nat.{ℕ, zero, suc, ◌+◌, ◌-◌, ◌≤◌, ◌<◌}
use native.Mathlib.Omega.{arith}
use native.Mathlib.Numerals.{add-one}
use Rattle.std.specs.Prelude.{Some, None}
use mathlib.Core.Bool.{Bool, true, false, cond}
use mathlib.Core.List.{List, [], ◌∷◌, ◌++◌, append-nil}
use mathlib.Core.Path.{◌≡◌, refl, sym, ap, ap₂, subst, ◌∙◌}
use borrow.Author.Tests.{leb-true}
use lib.Dec.{leb}
use lib.ListN.{length, take, drop, get_or, drop_of_length-le}
use lib.Seq.{take_at, drop_at, drop-cons}
use Rattle.terms.specs.Names.{Name}
use Rattle.terms.specs.Terms.{Network}
use Rattle.terms.specs.Rules.{Answer}
use Rattle.terms.specs.Rules.Answer.{refused, accepted}
use Rattle.terms.specs.Clock.{edition_of}
use Rattle.text.specs.Questions.{form, read, read_under}
use Rattle.text.proofs.Gives.{first-edition}
use Rattle.table.specs.declared.State.{State}
use Rattle.table.specs.Words.{locs_in, loc_name}
use Rattle.table.specs.Meaning.{comp_in, context_of, net_of, tally_of, counted_of, network_of as table_network}
use Rattle.table.specs.Valid.{valid}
use Rattle.table.proofs.Tests.{length-list_from, get_or-list_from, script-fine, comp-fine}
use Rattle.text_build.specs.Rows.{locs_of}
use Rattle.calls_act.specs.Acted.{asked}
use Rattle.calls_act.proofs.Positions.{valid-parts, comp-good}
use Rattle.text_write.specs.declared.Written.{Written}
use Rattle.text_letters.specs.declared.Page.{Page}
use Rattle.text_letters.specs.Page.{Adds}
use Rattle.text_network.specs.Text.{text_of, no_mark}
use Rattle.text_write.specs.Answer.{write_answer, Answers}
use Rattle.text_letters.proofs.Pages.{LeftOf, begun, last, left_as}
use Rattle.text_answer.proofs.All.{took-all}
use Rattle.text_answer.specs.declared.Settings.{Settings}
use Rattle.text_answer.specs.declared.Reading.{Reading}
use Rattle.text_answer.specs.Answer.{locations_in, refusal, ReadsAnswer}
use Rattle.text_read.proofs.Numbers.{Among, among}
use Rattle.run_turn.specs.Turn.{refused_text, Turn, turn_of}
use Rattle.run_turn.specs.Turned.{TurnIs}
use Rattle.run_print.specs.Print.{shown, mean_line, ended, ending, followed, playing, four, print_settings, print_context, printed, printout}
use Rattle.run_print.specs.Rounds.{copies, remaining}
use Rattle.text_letters.proofs.Pages.{step as put_step}

-- ── a valid network has at least one location, and at most 64 ──
pub locs-few : (w : List ℕ) (st : State) → valid w st ≡ true → locs_in w ≤ 64
locs-few w st g = (script-fine w (valid-parts w st g).0).locs

pub locs-some : (w : List ℕ) (st : State) → valid w st ≡ true → 0 < locs_in w
locs-some w st g =
    let v = valid-parts w st g in
    let c = comp-fine w (comp_in st.c 0) (comp-good w st g 0 v.1.some) in
    let h = c.loc in
    omega arith

-- ── the network ──
module _ (w : List ℕ) (st : State) (good : valid w st ≡ true) {t t' : List ℕ} (long : length t ≡ 65_536) (r : Written) (x : Answers (write_answer w st (length t)) t r t') where
  abbrev Text : List ℕ
  Text = text_of w st

  abbrev Shown : Answer (List ℕ)
  Shown = shown (context_of w) (net_of w st)

  by : (a b : Bool) → no_mark w st ≡ a → leb (length Text) 65_536 ≡ b → write_answer w st (length t) ≡ cond a (cond b (accepted Text) (refused 15)) (refused 14)
  unfolding write_answer
  by a b e f = rw (good, e, long, f)

  shown_by : (a b : Bool) → no_mark w st ≡ a → leb (length Text) 65_536 ≡ b → shown (context_of w) (net_of w st) ≡ asked 14 a (asked 15 b (accepted Text))
  unfolding shown no_mark text_of table_network context_of
  shown_by a b e f = rw (e, f)

  ending-by : ending (context_of w) (counted_of w st) ≡ ended Shown (tally_of st)
  unfolding ending
  ending-by = refl

  -- refused
  record Not : Type 0 where
    shows : Shown ≡ refused r.code
    same_bytes : t' ≡ t

  not_written : (r.code ≡ 0 → ⊥) → Not
  not_written n = go (no_mark w st) (leb (length Text) 65_536) refl refl
    where
      go : (a b : Bool) → no_mark w st ≡ a → leb (length Text) 65_536 ≡ b → Not
      go true true e f = absurd (n (rw (by true true e f) at x.code))
      go true false e f = record { shows = shown_by true false e f ∙ ap refused (sym (rw (by true false e f) at x.code)); same_bytes = rw (by true false e f) at x.bytes }
      go false b e f = record { shows = shown_by false b e f ∙ ap refused (sym (rw (by false b e f) at x.code)); same_bytes = rw (by false b e f) at x.bytes }

  pub shown-refused : (r.code ≡ 0 → ⊥) → shown (context_of w) (net_of w st) ≡ refused r.code
  shown-refused n = (not_written n).shows

  pub ending-refused : (r.code ≡ 0 → ⊥) → refused_text r.code ≡ ending (context_of w) (counted_of w st)
  ending-refused n = sym (ending-by ∙ ap (λ y. ended y (tally_of st)) (shown-refused n))

  pub ending-kept : (r.code ≡ 0 → ⊥) → t' ≡ t
  ending-kept n = (not_written n).same_bytes

  -- or written
  record Whole : Type 0 where
    len : r.len ≡ length Text
    fits : length Text ≤ 65_536
    bytes : t' ≡ Text ++ drop (length Text) t
    shows : Shown ≡ accepted Text

  written : r.code ≡ 0 → Whole
  written z = go (no_mark w st) (leb (length Text) 65_536) refl refl
    where
      go : (a b : Bool) → no_mark w st ≡ a → leb (length Text) 65_536 ≡ b → Whole
      go true true e f = record { len = rw (by true true e f) at x.len; fits = leb-true _ _ f; bytes = rw (by true true e f) at x.bytes; shows = shown_by true true e f }
      go true false e f = let h : r.code ≡ 15 = rw (by true false e f) at x.code in absurd (omega arith)
      go false b e f = let h : r.code ≡ 14 = rw (by false b e f) at x.code in absurd (omega arith)

  pub ending-short : r.code ≡ 0 → r.len ≤ 65_536
  ending-short z = let k = written z in let a = k.len in let b = k.fits in omega arith

  pub ending-past : r.code ≡ 0 → drop r.len t' ≡ drop r.len t
  ending-past z = let k = written z in ap (drop r.len) k.bytes ∙ drop_at Text _ r.len (sym k.len) ∙ ap (λ n. drop n t) (sym k.len)

  shown-front : r.code ≡ 0 → take r.len t' ≡ Text
  shown-front z = let k = written z in ap (take r.len) k.bytes ∙ take_at Text _ r.len (sym k.len)

  pub shown-text : r.code ≡ 0 → shown (context_of w) (net_of w st) ≡ accepted (take r.len t')
  shown-text z = (written z).shows ∙ ap accepted (sym (shown-front z))

  pub ending-text : r.code ≡ 0 → take r.len t' ++ mean_line (tally_of st) ≡ ending (context_of w) (counted_of w st)
  ending-text z = sym (ending-by ∙ ap (λ y. ended y (tally_of st)) (shown-text z))

-- ── the rounds ──
pub remaining-first : (m : ℕ) (ls : List Name) → copies m ls ≡ remaining m 0 ls
unfolding copies remaining
remaining-first zero ls = refl
remaining-first (suc m) ls = refl

pub all-rounds : (ls : List Name) → remaining 4 0 ls ≡ four ls
unfolding copies remaining
all-rounds ls = ap (λ x. ls ++ (ls ++ (ls ++ x))) (append-nil ls)

pub remaining-next : (m l : ℕ) (ls : List Name) → l < length ls → remaining (suc m) l ls ≡ get_or ls l [] ∷ remaining (suc m) (l + 1) ls
unfolding remaining
remaining-next m l ls h = ap (λ x. x ++ copies m ls) (drop-cons ls l [] h ∙ ap (λ n. get_or ls l [] ∷ drop n ls) (sym (add-one l)))

pub remaining-over : (m l : ℕ) (ls : List Name) → length ls ≤ l → remaining (suc m) l ls ≡ remaining m 0 ls
unfolding remaining
remaining-over m l ls h = ap (λ x. x ++ copies m ls) (drop_of_length-le ls h) ∙ remaining-first m ls

module _ (w : List ℕ) where
  pub locs-length : length (locs_of w) ≡ locs_in w
  unfolding locs_of
  locs-length = length-list_from (loc_name w) 0 (locs_in w)

  pub loc-at : (l : ℕ) → l < locs_in w → get_or (locs_of w) l [] ≡ loc_name w l
  unfolding locs_of
  loc-at l h = get_or-list_from (loc_name w) [] 0 (locs_in w) l h ∙ ap (loc_name w) (omega arith)

  -- what is left to put on the page q of the whole that began on p
  abbrev pub Playing : Page → List ℕ → Page → State → ℕ → ℕ → Type 0
  Playing p whole q st round l = LeftOf p whole q (playing (context_of w) (remaining (4 - round) l (locs_of w)) (counted_of w st))

  pub play-first : (p : Page) (st : State) → Playing p (playing (context_of w) (four (locs_of w)) (counted_of w st)) p st 0 0
  play-first p st = left_as (ap (λ ls. playing (context_of w) ls (counted_of w st)) (sym (all-rounds (locs_of w)))) begun

  -- a round is over
  pub play-next : {p q : Page} {whole : List ℕ} (st : State) (round l : ℕ) → round < 4 → locs_in w ≤ l → Playing p whole q st round l → Playing p whole q st (round + 1) 0
  play-next st round l some h p =
      let m : 4 - (round + 1) ≡ 3 - round = omega arith in
      let k : 4 - round ≡ suc (3 - round) = omega arith in
      left_as (ap (λ ls. playing (context_of w) ls (counted_of w st)) (ap (λ m. remaining m l (locs_of w)) k ∙ remaining-over (3 - round) l (locs_of w) (omega (arith, locs-length)) ∙ ap (λ n. remaining n 0 (locs_of w)) (sym m))) p

  module _ {p q : Page} {whole : List ℕ} (st : State) (round l : ℕ) (some : round < 4) (inl : l < locs_in w) (k : Playing p whole q st round l) where
    rounds-left : 4 - round ≡ suc (3 - round)
    rounds-left = omega arith

    now-left : LeftOf p whole q (followed (turn_of (context_of w) (loc_name w l) (counted_of w st)) (playing (context_of w) (remaining (4 - round) (l + 1) (locs_of w))))
    unfolding playing
    now-left =
        left_as (ap (λ ls. playing (context_of w) ls (counted_of w st)) (ap (λ m. remaining m l (locs_of w)) rounds-left ∙ remaining-next (3 - round) l (locs_of w) (omega (arith, locs-length)) ∙ ap (λ x. x ∷ remaining (suc (3 - round)) (l + 1) (locs_of w)) (loc-at l inl) ∙ ap (λ m. loc_name w l ∷ remaining m (l + 1) (locs_of w)) (sym rounds-left))) k

    module _ {q' : Page} where
      -- refused
      pub play-stopped : TurnIs w (turn_of (context_of w) (loc_name w l) (counted_of w st)) q q' None → Adds p whole q'
      play-stopped t = go (turn_of (context_of w) (loc_name w l) (counted_of w st)) now-left t
        where
          go : (x : Answer Turn) → LeftOf p whole q (followed x (playing (context_of w) (remaining (4 - round) (l + 1) (locs_of w)))) → TurnIs w x q q' None → Adds p whole q'
          go (refused m) k s = last k s
          go (accepted u) k s = elim s [ ]

      pub play-on : (st' : State) → TurnIs w (turn_of (context_of w) (loc_name w l) (counted_of w st)) q q' (Some st') → (valid w st' ≡ true) × Playing p whole q' st' round (l + 1)
      play-on st' t = go (turn_of (context_of w) (loc_name w l) (counted_of w st)) now-left t
        where
          go : (x : Answer Turn) → LeftOf p whole q (followed x (playing (context_of w) (remaining (4 - round) (l + 1) (locs_of w)))) → TurnIs w x q q' (Some st') → (valid w st' ≡ true) × Playing p whole q' st' round (l + 1)
          go (refused m) k s = elim s [ ]
          go (accepted u) k s = (s.good, left_as (ap (playing (context_of w) (remaining (4 - round) (l + 1) (locs_of w))) (sym s.net)) (put_step k s.wrote))

  -- all rounds are over
  pub play-end : {p q r : Page} {whole : List ℕ} (st : State) (round l : ℕ) → 4 ≤ round → Playing p whole q st round l → Adds q (ending (context_of w) (counted_of w st)) r → Adds p whole r
  unfolding playing remaining
  play-end st round l h k b = let m : 4 - round ≡ 0 = omega arith in last (left_as (ap (λ n. playing (context_of w) (remaining n l (locs_of w)) (counted_of w st)) m) k) b

-- ── the whole ──
-- what is given is an edition with all rights
pub as-given : (s u w v : List ℕ) {g : Settings} (r : Reading) → g ≡ print_settings → ReadsAnswer s g (read_under g.edition s) u w v r → ReadsAnswer s print_settings (read_under 1 s) u w v r
as-given s u w v r e x = subst (λ g. ReadsAnswer s g (read_under g.edition s) u w v r) e x

module _ (s u w v : List ℕ) (r : Reading) (Under-first : ReadsAnswer s print_settings (read_under 1 s) u w v r) where
  pub first_read : ReadsAnswer s print_settings (read s) u w v r
  first_read = rw (first-edition s) at Under-first

  pub whole-refused : (r.code ≡ 0 → ⊥) → refused_text r.code ≡ printout s
  unfolding printout
  whole-refused n = go (read s) first_read
    where
      go : (y : Answer Network) → ReadsAnswer s print_settings y u w v r → refused_text r.code ≡ printed (locations_in (form s)) y
      go (refused m) k = ap refused_text (ap (λ q. q.code) k.0)
      go (accepted m) k = absurd (n k.code)

  pub whole-number : (r.code ≡ 0 → ⊥) → r.code < 8
  whole-number n = go (read s) (among s) first_read
    where
      go : (y : Answer Network) → Among y → ReadsAnswer s print_settings y u w v r → r.code < 8
      go (refused m) a k = let h : r.code ≡ m = ap (λ q. q.code) k.0 in omega arith
      go (accepted m) a k = absurd (n k.code)

  module _ (z : r.code ≡ 0) where
    pub not-refused : (m : ℕ) → read s ≡ refused m → r ≡ refusal m → ⊥
    not-refused m e k = let h : r.code ≡ m = ap (λ q. q.code) k in let a : Among (refused m) = rw e at (among s) in omega arith

    pub whole-good : valid v r.state ≡ true
    whole-good = go (read s) refl first_read
      where
        go : (y : Answer Network) → read s ≡ y → ReadsAnswer s print_settings y u w v r → valid v r.state ≡ true
        go (refused m) e k = absurd (not-refused m e k.0)
        go (accepted m) e k = k.good

    pub whole-printed : playing (context_of v) (four (locs_of v)) (counted_of v r.state) ≡ printout s
    unfolding printout table_network edition_of
    whole-printed = go (read s) refl first_read
      where
        go : (y : Answer Network) → read s ≡ y → ReadsAnswer s print_settings y u w v r → playing (context_of v) (four (locs_of v)) (counted_of v r.state) ≡ printed (locations_in (form s)) y
        go (refused m) e k = absurd (not-refused m e k.0)
        go (accepted m) e k =
            ap (λ d. playing d (four (locs_of v)) (counted_of v r.state)) (took-all k)
            ∙ ap (λ ls. playing (print_context m) (four ls) (counted_of v r.state)) k.locs
            ∙ ap₂ (λ cs t. playing (print_context m) (four (locations_in (form s))) (record { comps = cs; tally = t })) (ap (λ n. n.comps) k.network) k.tally
