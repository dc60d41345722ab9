-- All rights: document 02, R-6. What they are by number, and that they are all rights by name of every accepted text.
use Prim.Native.Nat.{ℕ, ◌<◌, ◌≤◌}
use native.Mathlib.Omega.{arith}
use mathlib.Core.List.{List}
use mathlib.Core.Bool.{true, false}
use mathlib.Core.Path.{◌≡◌, ap, ◌∙◌}
use lib.ListN.{length, get_or, replicate, get_or-replicate}
use Rattle.terms.specs.Terms.{Network, context_in, all_rights}
use Rattle.terms.specs.Clock.{edition_of}
use Rattle.terms.specs.Rights.{Full}
use Rattle.terms.proofs.Rights.{all_named}
use Rattle.table.specs.Words.{locs_in, chans_in, loc_name, chan_name}
use Rattle.table.specs.Meaning.{context_of}
use Rattle.table.proofs.Tests.{script-fine}
use Rattle.table.proofs.InUse.{valid-script}
use Rattle.table.proofs.ValidLists.{list_from-length}
use Rattle.text.specs.Questions.{form}
use Rattle.text_build.specs.Rows.{locs_of, chans_of}
use Rattle.text_answer.specs.declared.Settings.{Settings}
use Rattle.text_answer.specs.declared.Reading.{Reading}
use Rattle.text_answer.specs.Answer.{no_row, given, all_row, all_settings, locations_in, channels_in, Took}
use Rattle.text_answer.proofs.Under.{took-context}

row_at : (l : ℕ) → l < 64 → get_or (replicate 64 all_row) l no_row ≡ all_row
row_at l h = get_or-replicate 64 l all_row no_row h

right-at : (c : ℕ) → c < 64 → get_or (replicate 64 true) c false ≡ true
right-at c h = get_or-replicate 64 c true false h

all-given : (e : ℕ) → Full 64 64 (given (all_settings e))
unfolding given
all-given e = record {
  send = λ l c h k. ap (λ r. get_or r.send c false) (row_at l h) ∙ right-at c k;
  receive = λ l c h k. ap (λ r. get_or r.receive c false) (row_at l h) ∙ right-at c k;
  leave = λ l v h k n. ap (λ r. get_or r.leave v false) (row_at l h) ∙ right-at v k;
}

-- what the rules take of a text that is read with all rights of its names
pub took-full : {s w v : List ℕ} {g : Settings} {m : Network} {r : Reading} → Took s g w v m r → Full (length (locations_in (form s))) (length (channels_in (form s))) (given g)
    → context_of v ≡ context_in (edition_of g.edition) all_rights m
took-full {s} {w} {v} {g} {m} t all = took-context t ∙ ap (λ z. context_in (edition_of g.edition) z m) (all_named (locations_in (form s)) (channels_in (form s)) (given g) all)

-- and with all that can be given: a text has at most 64 locations and 64 channels
pub took-all : {s w v : List ℕ} {e : ℕ} {m : Network} {r : Reading} → Took s (all_settings e) w v m r → context_of v ≡ context_in (edition_of e) all_rights m
unfolding locs_of chans_of
took-all {s} {w} {v} {e} {m} {r} t =
    let f = script-fine v (valid-script v r.state t.good) in
    let i : length (locations_in (form s)) ≤ 64 = omega (arith, f.locs, ap length t.locs, list_from-length 0 (locs_in v) (loc_name v)) in
    let j : length (channels_in (form s)) ≤ 64 = omega (arith, f.chans, ap length t.chans, list_from-length 0 (chans_in v) (chan_name v)) in
    let all = all-given e in
    took-full t (record {
      send = λ l c h k. all.send l c (omega arith) (omega arith);
      receive = λ l c h k. all.receive l c (omega arith) (omega arith);
      leave = λ l k h n d. all.leave l k (omega arith) (omega arith) d;
    })
