-- So many bytes hold every name, label and line: 16, 51 and 13,329. With these question 15 is always answered by yes.
-- By the laws of run_line on their lengths.
use Prim.Native.Nat.{ℕ, ◌≤◌}
use native.Mathlib.Omega.{arith}
use mathlib.Core.List.{List}
use mathlib.Core.Bool.{Bool, true, false}
use mathlib.Core.Path.{◌≡◌, refl, sym}
use lib.Dec.{ltb}
use lib.ListN.{length}
use borrow.Author.Tests.{le-leb}
use Rattle.terms.specs.Rules.{Answer, Action, Acted, ◌>>=◌, act}
use Rattle.terms.specs.Rules.Answer.{refused, accepted}
use Rattle.table.specs.declared.State.{State}
use Rattle.table.specs.Words.{locs_in, chans_in, loc_name, chan_name}
use Rattle.table.specs.Meaning.{context_of, comps_of, net_of, counted_of}
use Rattle.table.specs.Valid.{valid}
use Rattle.table.specs.Fire.{Left, label_of, left_by}
use Rattle.calls_act.specs.Acted.{asked, action_of, action_allowed}
use Rattle.calls_step.specs.Stepped.{step_counted}
use Rattle.run_line.specs.Line.{label_text, line_text, step_labels}
use Rattle.run_line.proofs.Fits.{name-short, label-short, line-short}
use Rattle.host.specs.Shown.{holding, name_answer, label_answer, line_answer}
use Rattle.calls_act.specs.Labelled.{labelled}
use Rattle.calls_act.proofs.Labelling.{tagged, on-table}

held : (s : List ℕ) (n k : ℕ) → length s ≤ n → n ≤ k → holding s k ≡ accepted s
unfolding holding
held s n k h m = rw (le-leb (length s) k (omega arith))

pub location-held : (w : List ℕ) (st : State) (l n : ℕ) → 16 ≤ n → name_answer w st (locs_in w) (loc_name w) l n ≡ asked 17 (valid w st) (asked 8 (ltb l (locs_in w)) (accepted (loc_name w l)))
unfolding name_answer
location-held w st l n h = rw (held (loc_name w l) 16 n (unfold loc_name in name-short w _) h)

pub channel-held : (w : List ℕ) (st : State) (c n : ℕ) → 16 ≤ n → name_answer w st (chans_in w) (chan_name w) c n ≡ asked 17 (valid w st) (asked 8 (ltb c (chans_in w)) (accepted (chan_name w c)))
unfolding name_answer
channel-held w st c n h = rw (held (chan_name w c) 16 n (unfold chan_name in name-short w _) h)

-- ── labels ──
module _ (w : List ℕ) (st : State) (n : ℕ) (h : 51 ≤ n) where
  abbrev each : Answer Acted → Type 0
  each x = (x >>= λ a. holding (label_text a.label) n) ≡ (x >>= λ a. accepted (label_text a.label))

  by-label : (x : Answer Acted) → (labelled x >>= λ y. holding (label_text y) n) ≡ (labelled x >>= λ y. accepted (label_text y)) → each x
  by-label (refused m) e = refl
  by-label (accepted a) e = e

  by-action : valid w st ≡ true → (x : Answer Action) → each (x >>= λ a. act (context_of w) a (net_of w st))
  by-action v (refused m) = refl
  by-action v (accepted a) = by-label (act (context_of w) a (net_of w st)) (rw (sym (on-table w st v a)) (go (left_by w a (comps_of st))))
    where
      go : (x : Answer Left) → (tagged w x >>= λ y. holding (label_text y) n) ≡ (tagged w x >>= λ y. accepted (label_text y))
      go (refused m) = refl
      go (accepted f) = held (label_text (label_of w f.tag)) 51 n (label-short w f.tag) h

  pub label-held : (k p q : ℕ) → label_answer w st k p q n ≡ asked 17 (valid w st) (action_allowed w st k p q >>= λ a. accepted (label_text a.label))
  unfolding label_answer action_allowed
  label-held k p q = go (valid w st) refl
    where
      go : (b : Bool) → valid w st ≡ b
          → asked 17 b ((action_of k p q >>= λ a. act (context_of w) a (net_of w st)) >>= λ a. holding (label_text a.label) n)
          ≡ asked 17 b ((action_of k p q >>= λ a. act (context_of w) a (net_of w st)) >>= λ a. accepted (label_text a.label))
      go true v = by-action v (action_of k p q)
      go false v = refl

-- ── lines ──
module _ (w : List ℕ) (st : State) (l n : ℕ) (h : 13_329 ≤ n) where
  abbrev Line : List ℕ
  Line = line_text (loc_name w l) (step_labels w st l)

  pub line-held : line_answer w st l n ≡ asked 17 (valid w st) (asked 8 (ltb l (locs_in w)) (step_counted (context_of w) (loc_name w l) (counted_of w st) >>= λ s. accepted Line))
  unfolding line_answer
  line-held = go (valid w st) refl
    where
      go : (b : Bool) → valid w st ≡ b
          → asked 17 b (asked 8 (ltb l (locs_in w)) (step_counted (context_of w) (loc_name w l) (counted_of w st) >>= λ s. holding Line n))
          ≡ asked 17 b (asked 8 (ltb l (locs_in w)) (step_counted (context_of w) (loc_name w l) (counted_of w st) >>= λ s. accepted Line))
      go true v = rw (held Line 13_329 n (line-short w st v l) h)
      go false v = refl
