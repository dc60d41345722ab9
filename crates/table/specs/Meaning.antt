-- What a table stands for: a network in letters, values put in. Document 01, *The term and the network*.
use Rattle.std.specs.Prelude.{ℕ, zero, suc, ◌+◌, ◌-◌, ◌*◌, ◌≤◌, ◌<◌, List, [], ◌∷◌, map, cond, ◌≡◌, ltb, get_or}
use Rattle.terms.specs.Names.{Name}
use Rattle.terms.specs.Terms.{Timer, Value, Part, Process, Mark, Component, Def, Network, Context, Rights}
use Rattle.terms.specs.Terms.Value.{loc, var}
use Rattle.terms.specs.Terms.Part.{stop, go, out, inp, call}
use Rattle.terms.specs.Terms.Process.{one, ◌∥◌}
use Rattle.terms.specs.Terms.Mark.{none, by}
use Rattle.terms.specs.Terms.Component.{comp}
use Rattle.terms.specs.Terms.Def.{define}
use Rattle.terms.specs.Rights.{by_name}
use Rattle.terms.specs.Substitution.{Env, env, sub, sub_p}
use Rattle.terms.specs.Clock.{ticks_of, edition_of}
use Rattle.waits.specs.Waits.{Tally}
use Rattle.waits.specs.Counted.{Counted}
use Rattle.table.specs.declared.Head.{Head}
use Rattle.table.specs.declared.Head.TheVariants.{Stop, Go, Out, In, Call}
use Rattle.table.specs.declared.Comp.{Comp}
use Rattle.table.specs.declared.State.{State}
use Rattle.table.specs.Words.{comp_size, comp_used, total_at, count_at, ledger_end, word, locs_in, chans_in, defs_in, edition_in, rights_in, loc_name, chan_name, def_name, body_of, params_of, head_at, next_at, bound_at, names_at, args_at}

-- ── terms ──
-- what a value's word stands for where the names ys are in scope
unfoldable pub value_of : List ℕ → List Name → ℕ → Value
value_of w ys v = cond (ltb v 64) (loc (loc_name w v)) (var (get_or ys (v - 64) []))

unfoldable pub values_of : List ℕ → List Name → List ℕ → List Value
values_of w ys vs = map (value_of w ys) vs

-- the part at the place i with the head h, where f gives the process at a place
unfoldable pub part_of : List ℕ → (ℕ → Process) → ℕ → Head → Part
part_of w f i Stop = stop
part_of w f i (Go t v p) = go (ticks_of t) (value_of w (names_at w i) v) (f p)
part_of w f i (Out c t v p q) = out (chan_name w c) (ticks_of t) (value_of w (names_at w i) v) (f p) (f q)
part_of w f i (In c t k p q) = inp (chan_name w c) (ticks_of t) (bound_at w i) (f p) (f q)
part_of w f i (Call d n) = call (def_name w d) (values_of w (names_at w i) (args_at w i n))

unfoldable pub joined : (ℕ → Process) → Part → ℕ → Process
joined f a zero = one a
joined f a (suc j) = a ∥ f j

-- at most n links deep
unfoldable pub deep : List ℕ → ℕ → ℕ → Process
deep w zero i = one stop
deep w (suc n) i = joined (deep w n) (part_of w (deep w n) i (head_at w i)) (next_at w i)

-- the process at a place: every link goes to a lesser place, so no more than its number are followed
unfoldable pub process_at : List ℕ → ℕ → Process
process_at w i = deep w (suc i) i

-- the one part at a place
unfoldable pub part_at : List ℕ → ℕ → Part
part_at w i = part_of w (process_at w) i (head_at w i)

-- ── definitions, in table order ──
-- f of k, of k and one, ..., n of them
unfoldable pub list_from : {A : Type 0} → ℕ → ℕ → (ℕ → A) → List A
list_from k zero f = []
list_from k (suc n) f = f k ∷ list_from (suc k) n f

unfoldable pub def_of : List ℕ → ℕ → Def
def_of w d = define (def_name w d) (params_of w d) (process_at w (body_of w d))

unfoldable pub defs_of : List ℕ → List Def
defs_of w = list_from 0 (defs_in w) (def_of w)

unfoldable pub rights_of : List ℕ → Rights
rights_of w = by_name (list_from 0 (locs_in w) (loc_name w)) (list_from 0 (chans_in w) (chan_name w)) (rights_in w)

-- what the rules take of a script
unfoldable pub context_of : List ℕ → Context
context_of w = record { defs = defs_of w; edition = edition_of (edition_in w); rights = rights_of w }

-- ── components ──
-- A component has a location, a mark (64 for none), a place, its own timer, a location for each slot, and its wait, which the network does not show.
-- Unmarked it is the one part at its place with its own timer, marked the process from its place on.
unfoldable pub with_timer : Timer → Part → Part
with_timer u stop = stop
with_timer u (go t v p) = go u v p
with_timer u (out c t v p q) = out c u v p q
with_timer u (inp c t y p q) = inp c u y p q
with_timer u (call i vs) = call i vs

-- the values of the slots for the names in scope at a place
unfoldable pub env_at : List ℕ → ℕ → List ℕ → Env
env_at w i vs = env (names_at w i) (map (loc_name w) vs)

unfoldable pub mark_of : List ℕ → ℕ → Mark
mark_of w m = cond (ltb m 64) (by (loc_name w m)) none

unfoldable pub process_of : List ℕ → Comp → Process
process_of w c =
    cond (ltb c.mark 64)
    (sub_p (process_at w c.place) (env_at w c.place c.vals))
    (one (with_timer (ticks_of c.timer) (sub (part_at w c.place) (env_at w c.place c.vals))))

unfoldable pub means : List ℕ → Comp → Component
means w c = comp (loc_name w c.loc) (mark_of w c.mark) (process_of w c)

-- what a list of components gives past its end: no call reads there
abbrev pub no_comp : Comp
no_comp = record { loc = 0; mark = 0; place = 0; timer = 0; vals = []; wait = 0 }

-- the component at position i of a state's words, and the words of a component
unfoldable pub comp_in : List ℕ → ℕ → Comp
comp_in c i = record {
  loc = word c (i * comp_size);
  mark = word c (i * comp_size + 1);
  place = word c (i * comp_size + 2);
  timer = word c (i * comp_size + 3);
  vals =
      word c (i * comp_size + 4) ∷ word c (i * comp_size + 5) ∷ word c (i * comp_size + 6) ∷ word c (i * comp_size + 7) ∷ word c (i * comp_size + 8) ∷ word c (i * comp_size + 9)
      ∷ word c (i * comp_size + 10) ∷ word c (i * comp_size + 11) ∷ [];
  wait = word c (i * comp_size + 12);
}

abbrev pub words_in : Comp → List ℕ
words_in x =
    x.loc ∷ x.mark ∷ x.place ∷ x.timer ∷ word x.vals 0 ∷ word x.vals 1 ∷ word x.vals 2 ∷ word x.vals 3 ∷ word x.vals 4 ∷ word x.vals 5
    ∷ word x.vals 6 ∷ word x.vals 7 ∷ x.wait ∷ []

-- every word of b that is none of the first k components' own is that of a: those past them, and the spare words of every position
pub record PastKept (k : ℕ) (a b : List ℕ) : Type 0 where
  pub words : (o : ℕ) → k * comp_size ≤ o → word b o ≡ word a o
  pub spare : (i j : ℕ) → comp_used ≤ j → j < comp_size → word b (i * comp_size + j) ≡ word a (i * comp_size + j)

-- the same but for the words of the total and of the count
pub record OthersKept (k : ℕ) (a b : List ℕ) : Type 0 where
  pub words : (o : ℕ) → k * comp_size ≤ o → o < total_at → word b o ≡ word a o
  pub behind : (o : ℕ) → ledger_end ≤ o → word b o ≡ word a o
  pub spare : (i j : ℕ) → i < 256 → comp_used ≤ j → j < comp_size → word b (i * comp_size + j) ≡ word a (i * comp_size + j)

-- the components in use
unfoldable pub comps_of : State → List Comp
comps_of st = list_from 0 st.n (comp_in st.c)

unfoldable pub net_of : List ℕ → State → List Component
net_of w st = map (means w) (comps_of st)

-- ── waits, total and count: document 02, R-1 ──
unfoldable pub total_in : List ℕ → ℕ
total_in c = word c total_at + word c (total_at + 1) * 4_294_967_296

abbrev pub count_in : List ℕ → ℕ
count_in c = word c count_at

abbrev pub waits_of : List Comp → List ℕ
waits_of cs = map (λ x. x.wait) cs

unfoldable pub tally_of : State → Tally
tally_of st = record { waits = waits_of (comps_of st); total = total_in st.c; count = count_in st.c }

-- the components in use with what is kept beside them
abbrev pub counted_of : List ℕ → State → Counted
counted_of w st = record { comps = net_of w st; tally = tally_of st }

-- the network that a script and a state stand for
unfoldable pub network_of : List ℕ → State → Network
network_of w st = record { defs = defs_of w; comps = net_of w st }
