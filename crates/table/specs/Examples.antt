-- Small tables, computed: what they stand for, and what question 17 says of them.
use Rattle.std.specs.Prelude.{ℕ, ◌-◌, true, false, ◌≡◌, refl, replicate, length}
use mathlib.Core.List.{List, [], ◌∷◌, ◌++◌, flat_map}
use Rattle.terms.specs.Names.{bytes}
use Rattle.terms.specs.Terms.Timer.{ticks}
use Rattle.terms.specs.Terms.Edition.{edition2}
use Rattle.terms.specs.Terms.Value.{loc, var}
use Rattle.terms.specs.Terms.Part.{stop, go, call}
use Rattle.terms.specs.Terms.Process.{one, ◌∥◌}
use Rattle.terms.specs.Terms.Mark.{none, by}
use Rattle.terms.specs.Terms.Component.{comp}
use Rattle.terms.specs.Terms.Def.{define}
use Rattle.terms.specs.Clock.{ticks_of, is_edition, edition_of}
use Rattle.terms.specs.Runs.{rules}
use Rattle.terms.specs.Characters.{class_of}
use Rattle.terms.specs.Letters.{member, is_name, is_location, is_small, is_identifier, distinct}
use Rattle.terms.specs.Rules.{some}
use Rattle.table.specs.declared.Comp.{Comp}
use Rattle.table.specs.declared.State.{State}
use Rattle.table.specs.Words.{strip, letters, name_at, loc_name, chan_name, arity_of, body_of, def_name, params_at, params_of, head_at, next_at, low_at, own_at, bound_at, scope_at, names_at}
use Rattle.table.specs.Meaning.{value_of, values_of, part_of, joined, deep, process_at, part_at, list_from, def_of, defs_of, context_of, with_timer, env_at, mark_of, process_of, means, comp_in, words_in, comps_of, net_of, total_in, tally_of, network_of}
use Rattle.table.specs.Valid.{below, alike, index, timer_ok, slot_ok, ref_ok, inner_ok, entered, head_ok, next_ok, scope_ok, stacked, floor, low_ok, tree_ok, part_ok, def_ok, sort_ok, script_ok, mark_ok, wait_ok, comp_ok, state_ok, ledger_ok, valid}

unfoldable pub words : Unit {0}
unfolding strip letters name_at loc_name chan_name arity_of body_of def_name params_at params_of head_at next_at low_at own_at bound_at scope_at names_at
words = tt

unfoldable pub meaning : Unit {0}
unfolding rules ticks_of value_of values_of part_of joined deep process_at part_at list_from def_of defs_of with_timer env_at mark_of process_of means comp_in flat_map comps_of net_of network_of
meaning = tt

unfoldable pub tables : Unit {0}
unfolding words meaning class_of member some is_name is_location is_small is_identifier below alike distinct index timer_ok slot_ok ref_ok inner_ok entered head_ok next_ok scope_ok is_edition stacked floor low_ok tree_ok part_ok def_ok sort_ok script_ok mark_ok wait_ok comp_ok state_ok total_in ledger_ok tally_of valid
tables = tt

abbrev zeros : ℕ → List ℕ
zeros n = replicate n 0

-- a one-letter name in four words
abbrev letter : ℕ → List ℕ
letter b = b ∷ 0 ∷ 0 ∷ 0 ∷ []

-- a part: kind, name, timer, value, P, Q, next, low; the scope's names; arguments or a bound name
abbrev row : List ℕ → List ℕ → List ℕ → List ℕ
row h sc last4 = h ++ (length sc ∷ (sc ++ (zeros (8 - length sc) ++ (last4 ++ zeros 3))))

abbrev four : ℕ → ℕ → ℕ → ℕ → List ℕ
four a b c d = a ∷ b ∷ c ∷ d ∷ []

-- Page(x) = go(0,x,stop) . with A and B, one channel c; its components stand at the parts 2 and 0:
--   3  go(0,x,stop)   2  stop      the body
--   1  Page(B)        0  stop      a located process, Page(B) | stop
-- behind the rows the edition
abbrev script_under : ℕ → List ℕ
script_under e =
    (4 ∷ 2 ∷ 1 ∷ 1 ∷ zeros 4)
    ++ (((1 ∷ 3 ∷ []) ++ (four 1_701_273_936 0 0 0 ++ (letter 120 ++ zeros 14))) ++ (zeros 744
    ++ (letter 65 ++ (letter 66 ++ (zeros 248
    ++ (letter 99 ++ (zeros 252
    ++ (row (0 ∷ 0 ∷ 0 ∷ 0 ∷ 0 ∷ 0 ∷ 0 ∷ 0 ∷ []) [] (zeros 4)
    ++ (row (4 ∷ 0 ∷ 0 ∷ 1 ∷ 0 ∷ 0 ∷ 1 ∷ 0 ∷ []) [] (four 1 0 0 0)
    ++ (row (0 ∷ 0 ∷ 0 ∷ 0 ∷ 0 ∷ 0 ∷ 0 ∷ 2 ∷ []) (14 ∷ []) (zeros 4)
    ++ (row (1 ∷ 0 ∷ 0 ∷ 64 ∷ 2 ∷ 0 ∷ 0 ∷ 2 ∷ []) (14 ∷ []) (zeros 4)
    ++ (zeros 98_208 ++ (e ∷ [])))))))))))))

abbrev script : List ℕ
script = script_under 1

abbrev at : ℕ → ℕ → ℕ → ℕ → Comp
at l m i t = record { loc = l; mark = m; place = i; timer = t; vals = zeros 8; wait = 0 }

abbrev state : List Comp → State
state cs = record { c = flat_map (λ x. words_in x ++ zeros 3) cs; n = length cs }

stands-for : network_of script (state (at 0 64 1 0 ∷ at 1 0 1 0 ∷ at 0 64 3 7 ∷ []))
    ≡ record {
      defs = define (bytes "Page") (bytes "x" ∷ []) (one (go (ticks 0) (var (bytes "x")) (one stop))) ∷ [];
      comps =
          comp (bytes "A") none (one (call (bytes "Page") (loc (bytes "B") ∷ [])))
          ∷ comp (bytes "B") (by (bytes "A")) (call (bytes "Page") (loc (bytes "B") ∷ []) ∥ one stop)
          ∷ comp (bytes "A") none (one (go (ticks 7) (loc (bytes "A")) (one stop)))
          ∷ [];
    }
unfolding tables
stands-for = refl

good : valid script (state (at 0 64 1 0 ∷ at 1 0 1 0 ∷ at 0 64 3 7 ∷ [])) ≡ true
unfolding tables
good = refl

-- a location, a mark, a place and a timer out of range, and no component
location-out : valid script (state (at 2 64 1 0 ∷ [])) ≡ false
unfolding tables
location-out = refl

mark-out : valid script (state (at 0 2 1 0 ∷ [])) ≡ false
unfolding tables
mark-out = refl

place_out : valid script (state (at 0 64 4 0 ∷ [])) ≡ false
unfolding tables
place_out = refl

timer-out : valid script (state (at 0 64 1 1_000_002 ∷ [])) ≡ false
unfolding tables
timer-out = refl

no-component : valid script (state []) ≡ false
unfolding tables
no-component = refl

-- edition 2 passes and is what the rules take; 0 and 3 do not pass
edition-second : (valid (script_under 2) (state (at 0 64 1 0 ∷ [])) ≡ true) × ((context_of (script_under 2)).edition ≡ edition2)
unfolding tables edition_of context_of
edition-second = (refl, refl)

edition-out : (valid (script_under 0) (state (at 0 64 1 0 ∷ [])) ≡ false) × (valid (script_under 3) (state (at 0 64 1 0 ∷ [])) ≡ false)
unfolding tables
edition-out = (refl, refl)

-- ── waits, total and count: document 02, R-1 ──
-- two components that have waited m and n ticks, 254 positions that are not in use, and the words behind them
abbrev waited : ℕ → ℕ → List ℕ → State
waited m n ledger = record {
  c =
      (words_in (record { loc = 0; mark = 64; place = 3; timer = 7; vals = zeros 8; wait = m }) ++ zeros 3)
      ++ ((words_in (record { loc = 1; mark = 64; place = 0; timer = 0; vals = zeros 8; wait = n }) ++ zeros 3) ++ (zeros 4_064 ++ ledger));
  n = 2;
}

tally-read : tally_of (waited 5 1_000_000 (7 ∷ 1 ∷ 9 ∷ [])) ≡ record { waits = 5 ∷ 1_000_000 ∷ []; total = 4_294_967_303; count = 9 }
unfolding tables
tally-read = refl

-- the longest wait, the greatest count and the greatest total are in range, and nothing above them
ledger-good : valid script (waited 0 1_000_000 (3_567_587_328 ∷ 232 ∷ 1_000_000 ∷ [])) ≡ true
unfolding tables
ledger-good = refl

wait-bad : valid script (waited 0 1_000_001 []) ≡ false
unfolding tables
wait-bad = refl

total-bad : valid script (waited 0 0 (1 ∷ [])) ≡ false
unfolding tables
total-bad = refl

total-high-bad : valid script (waited 0 0 (3_567_587_329 ∷ 232 ∷ 1_000_000 ∷ [])) ≡ false
unfolding tables
total-high-bad = refl

count-bad : valid script (waited 0 0 (0 ∷ 0 ∷ 1_000_001 ∷ [])) ≡ false
unfolding tables
count-bad = refl
