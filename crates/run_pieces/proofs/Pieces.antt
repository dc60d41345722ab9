-- The pieces joined are the printout; and the ways of the code to the pieces.
use Prim.Native.Nat.{ℕ, zero, suc, ◌+◌, ◌-◌, ◌≤◌, ◌<◌}
use native.Mathlib.Omega.{arith}
use Rattle.std.specs.Prelude.{Option, Some, None}
use mathlib.Core.Bool.{Bool, true, false}
use mathlib.Core.List.{List, [], ◌∷◌, ◌++◌, append-nil, flatten}
use mathlib.Core.Path.{◌≡◌, refl, sym, ap, ap₂, subst, ◌∙◌}
use lib.Dec.{leb}
use lib.ListN.{length, take, drop}
use lib.Seq.{take_at, drop_at}
use borrow.Author.Tests.{leb-true, leb-false}
use Rattle.terms.specs.Names.{Name}
use Rattle.terms.specs.Terms.{Component, Context, Network as Net}
use Rattle.terms.specs.Rules.{unmarked}
use Rattle.terms.specs.Same.{every}
use Rattle.terms.specs.Rules.{Answer}
use Rattle.terms.specs.Rules.Answer.{refused, accepted}
use Rattle.terms.specs.Clock.{edition_of}
use Rattle.waits.specs.Waits.{begun}
use Rattle.waits.specs.Counted.{Counted}
use Rattle.waits.specs.Mean.{mean_of}
use Rattle.text.specs.Questions.{form, read, read_under}
use Rattle.text.specs.Write.{write}
use Rattle.text_write.specs.declared.Written.{Written}
use Rattle.text_write.specs.Answer.{write_answer, Answers}
use Rattle.table.specs.declared.State.{State}
use Rattle.table.specs.Words.{locs_in, loc_name}
use Rattle.table.specs.Meaning.{context_of, net_of, total_in, count_in, tally_of, counted_of, network_of as table_network}
use Rattle.table.specs.Valid.{valid}
use Rattle.table.proofs.InUse.{valid-ledger}
use Rattle.calls_act.specs.Acted.{asked}
use Rattle.text_build.specs.Rows.{locs_of}
use Rattle.text_answer.proofs.All.{took-all}
use Rattle.text_answer.specs.declared.Reading.{Reading}
use Rattle.text_answer.specs.Answer.{locations_in, ReadsAnswer}
use Rattle.text_letters.specs.declared.Page.{Page}
use Rattle.text_letters.specs.Put.{Wrote}
use Rattle.text_letters.proofs.Pages.{from_start}
use Rattle.text_letters.proofs.Puts.{after-room, after-full, over-whole}
use Rattle.run_turn.specs.Turn.{refused_text, Turn, turn_of}
use Rattle.run_turn.specs.Turned.{TurnIs}
use Rattle.run_turn.proofs.Fits.{ends, refused-ends, turn-ends}
use Rattle.run_print.specs.Print.{shown, mean_text, mean_line, ended, ending, followed, playing, four, print_settings, print_context, printed, printout}
use Rattle.run_print.specs.Rounds.{remaining}
use Rattle.run_print.proofs.Playing.{locs-some, all-rounds, remaining-next, remaining-over, locs-length, loc-at, first_read, whole-number, whole-good, not-refused, shown-refused, shown-text, ending-kept, ending-short, ending-past}
use Rattle.run_print.proofs.Means.{mean-short}
use Rattle.run_pieces.specs.Pieces.{followed_pieces, ended_pieces, playing_pieces, pieces_of, pieces, left_at, pieces_left, first_by, first_of, StageOk, ProgressOk, PieceAt}
use Rattle.run_pieces.specs.declared.Stage.TheVariants.{Refused, Step, Network, Mean, Over}
use Rattle.run_pieces.specs.declared.Progress.{Progress}

-- ── joined, the pieces are the printout ──
playing-joined : (d : Context) (ls : List Name) (k : Counted) → playing d ls k ≡ flatten (playing_pieces d ls k)
unfolding playing playing_pieces ending flatten
playing-joined d [] k = go (shown d k.comps)
  where
    go : (x : Answer (List ℕ)) → ended x k.tally ≡ flatten (ended_pieces x k.tally)
    go (refused n) = sym (append-nil (refused_text n))
    go (accepted s) = ap (λ z. s ++ z) (sym (append-nil (mean_line k.tally)))
playing-joined d (l ∷ ls) k = go (turn_of d l k) (λ n. playing-joined d ls n)
  where
    go : (x : Answer Turn) → ((n : Counted) → playing d ls n ≡ flatten (playing_pieces d ls n)) → followed x (playing d ls) ≡ flatten (followed_pieces x (playing_pieces d ls))
    go (refused n) k = sym (append-nil (refused_text n))
    go (accepted t) k = ap (λ z. t.line ++ z) (k t.net)

pub joined : (s : List ℕ) → printout s ≡ flatten (pieces s)
unfolding printout pieces flatten
joined s = go (read s)
  where
    go : (x : Answer Net) → printed (locations_in (form s)) x ≡ flatten (pieces_of (locations_in (form s)) x)
    go (refused n) = sym (append-nil (refused_text n))
    go (accepted m) = playing-joined (print_context m) (four (locations_in (form s))) (record { comps = m.comps; tally = begun m.comps })

-- ── a text that fits stands at the front of the buffer, and the bytes past it are as they were ──
pub fronted : {d s e : List ℕ} {r : ℕ} → Wrote d 0 s e r → r ≤ 65_536 → length d ≡ 65_536 → (take r e ≡ s) × (drop r e ≡ drop r d)
fronted {d} {s} {e} {r} x h k = go (leb (length s) 9_223_372_036_854_775_808) refl
  where
    go : (y : Bool) → leb (length s) 9_223_372_036_854_775_808 ≡ y → (take r e ≡ s) × (drop r e ≡ drop r d)
    go true f =
        let n : r ≡ length s = x.place ∙ after-room 0 s (omega (arith, leb-true (length s) 9_223_372_036_854_775_808 f)) ∙ omega arith in
        let b : e ≡ s ++ drop (length s) d = x.bytes ∙ over-whole d s (omega arith) (omega arith) in
        (ap (take r) b ∙ take_at s _ r (sym n), ap (drop r) b ∙ drop_at s _ r (sym n) ∙ ap (λ m. drop m d) (sym n))
    go false f = absurd (omega (arith, x.place, after-full 0 s (omega (arith, leb-false (length s) 9_223_372_036_854_775_808 f))))

-- the refusals of the network have the numbers of questions
abbrev Low : Answer (List ℕ) → Type 0
Low (refused n) = n < 27
Low (accepted s) = Unit {0}

shown-low : (d : Context) (cs : List Component) → Low (shown d cs)
unfolding shown
shown-low d cs = go (every unmarked cs) (leb (length (write (record { defs = d.defs; comps = cs }))) 65_536)
  where
    go : (a b : Bool) → Low (asked 14 a (asked 15 b (accepted (write (record { defs = d.defs; comps = cs })))))
    go true true = tt
    go true false = omega arith
    go false b = omega arith

-- ── a piece of each kind: its text stands at the front of the buffer, and the bytes past it are as they were ──
module _ (w : List ℕ) where
  -- a refusal
  pub piece-refused : {d e : List ℕ} {a : ℕ} (n : ℕ) (st : State) → n < 16 → length d ≡ 65_536 → Wrote d 0 (refused_text n) e a → PieceAt w (Refused n) st d e (record { len = a; next = record { stage = Over false; state = st } })
  piece-refused {d} {e} {a} n st m k b =
      let h : a ≤ 65_536 = omega (arith, refused-ends n (omega arith) b) in
      let f = fronted b h k in
      record { few = h; first = ap (λ y. y ∷ []) (sym f.0); past = f.1; ok = λ z. absurd cc }

  module _ (st : State) (good : valid w st ≡ true) where
    -- the mean
    pub piece-mean : {d e : List ℕ} {a : ℕ} → length d ≡ 65_536 → Wrote d 0 (mean_text (mean_of (total_in st.c) (count_in st.c))) e a → PieceAt w Mean st d e (record { len = a; next = record { stage = Over true; state = st } })
    unfolding tally_of
    piece-mean {d} {e} {a} k b =
        let h : a ≤ 65_536 = omega (arith, ends 8 b (mean-short (total_in st.c) (count_in st.c) (valid-ledger w st good).within)) in
        let f = fronted b h k in
        record { few = h; first = ap (λ y. y ∷ []) (sym f.0); past = f.1; ok = λ z. good }

    -- the network
    module _ {t t' : List ℕ} (long : length t ≡ 65_536) (r : Written) (x : Answers (write_answer w st (length t)) t r t') where
      -- refused
      pub piece-unwritten : {e : List ℕ} {a : ℕ} → (r.code ≡ 0 → ⊥) → length t' ≡ 65_536 → Wrote t' 0 (refused_text r.code) e a → PieceAt w Network st t e (record { len = a; next = record { stage = Over true; state = st } })
      piece-unwritten {e} {a} n k b =
          let m : r.code < 27 = subst Low (shown-refused w st good long r x n) (shown-low (context_of w) (net_of w st)) in
          let h : a ≤ 65_536 = omega (arith, refused-ends r.code m b) in
          let f = fronted b h k in
          record {
            few = h;
            first = ap (λ y. ended_pieces y (tally_of st)) (shown-refused w st good long r x n) ∙ ap (λ y. y ∷ []) (sym f.0);
            past = f.1 ∙ ap (drop a) (ending-kept w st good long r x n);
            ok = λ z. good;
          }

      -- written: the mean is left
      pub piece-written : r.code ≡ 0 → PieceAt w Network st t t' (record { len = r.len; next = record { stage = Mean; state = st } })
      piece-written z = record {
        few = ending-short w st good long r x z;
        first = ap (λ y. ended_pieces y (tally_of st)) (shown-text w st good long r x z);
        past = ending-past w st good long r x z;
        ok = good;
      }

    -- a step at the location l in a round
    module _ (round l : ℕ) (inl : l < locs_in w) (some : round < 4) where
      rounds-left : 4 - round ≡ suc (3 - round)
      rounds-left = omega arith

      abbrev On : Counted → List (List ℕ)
      On = playing_pieces (context_of w) (remaining (4 - round) (l + 1) (locs_of w))

      abbrev Now : Answer Turn
      Now = turn_of (context_of w) (loc_name w l) (counted_of w st)

      step-now : left_at w (Step round l) st ≡ followed_pieces Now On
      unfolding playing_pieces
      step-now =
          ap (λ ls. playing_pieces (context_of w) ls (counted_of w st)) (ap (λ m. remaining m l (locs_of w)) rounds-left ∙ remaining-next (3 - round) l (locs_of w) (omega (arith, locs-length w, inl)) ∙ ap (λ x. x ∷ remaining (suc (3 - round)) (l + 1) (locs_of w)) (loc-at w l inl) ∙ ap (λ m. loc_name w l ∷ remaining m (l + 1) (locs_of w)) (sym rounds-left))

      module _ {d : List ℕ} (p q : Page) (start : (p.buf.now ≡ d) × (p.at ≡ 0)) (k : length d ≡ 65_536) where
        few : (r : Option State) → TurnIs w Now p q r → q.at ≤ 65_536
        few r t = omega (arith, start.1, turn-ends w st l good p q r t)

        -- refused
        pub piece-stopped : TurnIs w Now p q None → PieceAt w (Step round l) st d q.buf.now (record { len = q.at; next = record { stage = Over true; state = st } })
        piece-stopped t = go Now step-now t (few None t)
          where
            go : (y : Answer Turn) → left_at w (Step round l) st ≡ followed_pieces y On → TurnIs w y p q None → q.at ≤ 65_536 → PieceAt w (Step round l) st d q.buf.now (record { len = q.at; next = record { stage = Over true; state = st } })
            go (refused m) e s h = let f = fronted (from_start start s) h k in record { few = h; first = e ∙ ap (λ y. y ∷ []) (sym f.0); past = f.1; ok = λ z. good }
            go (accepted u) e s h = elim s [ ]

        -- done
        pub piece-on : (st' : State) → TurnIs w Now p q (Some st') → (x : Progress) → ProgressOk w x → pieces_left w x ≡ On (counted_of w st') → PieceAt w (Step round l) st d q.buf.now (record { len = q.at; next = x })
        piece-on st' t x ok left = go Now step-now t (few (Some st') t)
          where
            go : (y : Answer Turn) → left_at w (Step round l) st ≡ followed_pieces y On → TurnIs w y p q (Some st') → q.at ≤ 65_536 → PieceAt w (Step round l) st d q.buf.now (record { len = q.at; next = x })
            go (refused m) e s h = elim s [ ]
            go (accepted u) e s h =
                let f = fronted (from_start start s.wrote) h k in
                record {
                  few = h;
                  first = e ∙ ap (λ y. y ∷ On u.net) (sym f.0) ∙ ap (λ y. take q.at q.buf.now ∷ On y) (sym s.net) ∙ ap (λ y. take q.at q.buf.now ∷ y) (sym left);
                  past = f.1;
                  ok = ok;
                }

        pub stepped-good : (st' : State) → TurnIs w Now p q (Some st') → valid w st' ≡ true
        stepped-good st' t = go Now t
          where
            go : (y : Answer Turn) → TurnIs w y p q (Some st') → valid w st' ≡ true
            go (refused m) s = elim s [ ]
            go (accepted u) s = s.good

  -- the round is over: the next round's first step, or the network
  pub next-round : (round l : ℕ) → round < 4 → locs_in w ≤ l → remaining (4 - round) l (locs_of w) ≡ remaining (4 - (round + 1)) 0 (locs_of w)
  next-round round l some h =
      let m : 4 - round ≡ suc (4 - (round + 1)) = omega arith in
      ap (λ n. remaining n l (locs_of w)) m ∙ remaining-over (4 - (round + 1)) l (locs_of w) (omega (arith, locs-length w))

  pub steps-over : (round l : ℕ) (st : State) → round ≡ 3 → locs_in w ≤ l → left_at w Network st ≡ playing_pieces (context_of w) (remaining (4 - round) l (locs_of w)) (counted_of w st)
  unfolding playing_pieces remaining
  steps-over round l st e h =
      let m : 4 - (round + 1) ≡ 0 = omega arith in
      sym (ap (λ ls. playing_pieces (context_of w) ls (counted_of w st)) (next-round round l (omega arith) h ∙ ap (λ n. remaining n 0 (locs_of w)) m))

-- ── the whole ──
module _ (s u w v : List ℕ) (r : Reading) (x : ReadsAnswer s print_settings (read_under 1 s) u w v r) where
  whole-stopped : (r.code ≡ 0 → ⊥) → refused_text r.code ∷ [] ≡ pieces s
  unfolding pieces
  whole-stopped n = go (read s) (first_read s u w v r x)
    where
      go : (y : Answer Net) → ReadsAnswer s print_settings y u w v r → refused_text r.code ∷ [] ≡ pieces_of (locations_in (form s)) y
      go (refused m) k = ap (λ n. refused_text n ∷ []) (ap (λ q. q.code) k.0)
      go (accepted m) k = absurd (n k.code)

  whole-playing_pieces : r.code ≡ 0 → playing_pieces (context_of v) (four (locs_of v)) (counted_of v r.state) ≡ pieces s
  unfolding pieces table_network edition_of
  whole-playing_pieces z = go (read s) refl (first_read s u w v r x)
    where
      go : (y : Answer Net) → read s ≡ y → ReadsAnswer s print_settings y u w v r → playing_pieces (context_of v) (four (locs_of v)) (counted_of v r.state) ≡ pieces_of (locations_in (form s)) y
      go (refused m) e k = absurd (not-refused s u w v r x z m e k.0)
      go (accepted m) e k =
          ap (λ d. playing_pieces d (four (locs_of v)) (counted_of v r.state)) (took-all k)
          ∙ ap (λ ls. playing_pieces (print_context m) (four ls) (counted_of v r.state)) k.locs
          ∙ ap₂ (λ cs t. playing_pieces (print_context m) (four (locations_in (form s))) (record { comps = cs; tally = t })) (ap (λ n. n.comps) k.network) k.tally

  -- the first piece is that of a first step, or the refusal
  pub first-step : r.code ≡ 0 → StageOk v (Step 0 0) r.state × (left_at v (Step 0 0) r.state ≡ pieces s) × (◌≡◌ {A = Progress} (record { stage = Step 0 0; state = r.state }) (first_of r))
  first-step z = (
    (whole-good s u w v r x z, locs-some v r.state (whole-good s u w v r x z), omega arith),
    ap (λ ls. playing_pieces (context_of v) ls (counted_of v r.state)) (all-rounds (locs_of v)) ∙ whole-playing_pieces z,
    ap (λ n. record { stage = first_by n; state = r.state }) (sym z),
  )

  pub first-refused : (r.code ≡ 0 → ⊥) → StageOk v (Refused r.code) r.state × (left_at v (Refused r.code) r.state ≡ pieces s) × (◌≡◌ {A = Progress} (record { stage = Refused r.code; state = r.state }) (first_of r))
  first-refused n = (omega (arith, whole-number s u w v r x n), whole-stopped n, ap (λ g. record { stage = g; state = r.state }) (go r.code n))
    where
      go : (m : ℕ) → (m ≡ 0 → ⊥) → Refused m ≡ first_by m
      go zero n = absurd (n refl)
      go (suc m) n = refl
