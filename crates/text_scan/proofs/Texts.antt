-- Definitions, located processes and texts as the code goes through them, over the bytes of a text s.
-- The grammar's do-blocks with what each reader gives changed to its numbers, and each way of the code through them as an equation.
use Prim.Native.Nat.{ℕ, ◌-◌, ◌≤◌, ◌<◌}
use native.Mathlib.Omega.{arith}
use mathlib.Core.Bool.{Bool, true, false, cond}
use mathlib.Core.List.{List, [], ◌∷◌}
use mathlib.Core.Path.{◌≡◌, refl, sym, ap, ◌∙◌}
use lib.ListN.{length, drop}
use Rattle.terms.specs.Names.{Name}
use Rattle.terms.specs.Letters.{is_small, is_location, is_identifier}
use Rattle.text.specs.Tokens.{Token, lex, left, right, dot, bar, equals}
use Rattle.text.specs.Tokens.Token.{word, sign}
use Rattle.text.specs.Syntax.{Process, Def, Located, Text}
use Rattle.text.specs.Syntax.Def.{define}
use Rattle.text.specs.Syntax.Located.{at as located-at}
use Rattle.text.specs.Grammar.{Rest, bind, the, end, a_word, named, next, more, sep_by, list_of, process, a_def, a_located, a_network, net_next, add_def, text_form, text, ◌>>◌}
use Rattle.text.specs.Grammar.Rest.{ok, bad}
use Rattle.text.proofs.Unbounded.{Less, def-less, located-less, sep_by-is, text-is}
use Rattle.std.specs.Prelude.{Option, Some, None, is_some}
use Rattle.text_words.specs.Bytes.{ended, mapped, skim, after_blanks}
use Rattle.text_words.proofs.Positions.{bytes-fall, end_more, end-over}
use Rattle.text_parts.specs.Counts.{Count, process_count, capped}
use Rattle.text_parts.specs.Counting.{process_counts, list_count, names_count}
use Rattle.text.proofs.Exact.{clash}
use Rattle.text_parts.proofs.Rests.{mapped-mapped, mapped-same, mapped-bind, mapped-after, mapped-give, mapped-less, next-yes, next-no}
use Rattle.text_parts.proofs.Stops.{sum-on, max-on, max_assoc}
use Rattle.text_parts.proofs.Gathering as gathering
use Rattle.text_parts.proofs.Gathering.{more_of}
use Rattle.text_scan.specs.Totals.{Totals, no_totals, plus, of_body, of_def, of_bracket, of_located, sum, tree_totals, capped_t}
use Rattle.text_scan.specs.Counting.{body_counts, def_counts, located_counts, many_counts, network_counts, text_counts}
use Rattle.text_scan.specs.Answers.{totals_of, totaled, plus_up_to, plus_totals}
use Rattle.text_scan.proofs.Places.{totals-same}
use Rattle.text_scan.specs.declared.Totals.{Totals as CodeTotals}

-- ── numbers that stop ──
plus_none : (x : Totals) → plus x no_totals ≡ x
plus_none x = totals-same (omega arith) (omega arith) (omega arith) (omega arith) (omega arith)

none-plus : (x : Totals) → plus no_totals x ≡ x
none-plus x = totals-same (omega arith) (omega arith) (omega arith) (omega arith) (omega arith)

plus_assoc : (x y z : Totals) → plus (plus x y) z ≡ plus x (plus y z)
plus_assoc x y z = totals-same (max_assoc x.nesting y.nesting z.nesting) (omega arith) (omega arith) (omega arith) (max_assoc x.parameters y.parameters z.parameters)

pub plus-on : (a x y : Totals) → plus_up_to (plus_up_to a (capped_t x)) (capped_t y) ≡ plus_up_to a (capped_t (plus x y))
plus-on a x y = totals-same (max-on 33 a.nesting x.nesting y.nesting) (sum-on 4097 a.parts x.parts y.parts) (sum-on 257 a.components x.components y.components) (sum-on 33 a.definitions x.definitions y.definitions) (max-on 5 a.parameters x.parameters y.parameters)

-- nothing gathered yet
plus-first : (a y : Totals) → a ≡ no_totals → plus_up_to a (capped_t y) ≡ capped_t y
plus-first a y e = ap (λ a. plus_up_to a (capped_t y)) e ∙ totals-same (omega arith) (omega arith) (omega arith) (omega arith) (omega arith)

-- ── a definition, a located process ──
-- the end of both: a process and a sign, with numbers f of the process's
body-ends : {B : Type 0} (c : ℕ) (ts : List Token) (K : Process → B) (F : B → Totals) (f : Count → Totals) → ((p : Process) → F (K p) ≡ f (capped (process_count p)))
    → mapped F (bind (process ts) (λ p us. bind (the c us) (λ u zs. ok (K p) zs))) ≡ bind (mapped capped (body_counts c ts)) (λ x us. ok (f x) us)
unfolding process_counts
body-ends c ts K F f h = go (process ts)
  where
    inner : (p : Process) (x : Rest (Unit {0})) → mapped F (bind x (λ u zs. ok (K p) zs)) ≡ bind (mapped capped (bind x (λ u zs. ok (process_count p) zs))) (λ x us. ok (f x) us)
    inner p (ok u us) = ap (λ n. ok n us) (h p)
    inner p bad = refl

    go : (x : Rest Process) → mapped F (bind x (λ p us. bind (the c us) (λ u zs. ok (K p) zs))) ≡ bind (mapped capped (bind (mapped process_count x) (λ n us. bind (the c us) (λ u zs. ok n zs)))) (λ x us. ok (f x) us)
    go (ok p us) = inner p (the c us)
    go bad = refl

module _ (ts : List Token) where
  def-counts : mapped capped_t (def_counts ts) ≡ bind (skim (named is_identifier) ts) (λ u a. bind (list_count is_small a) (λ n b. bind (the equals b) (λ u d. bind (mapped capped (body_counts dot d)) (λ x us. ok (of_body n x) us))))
  unfolding def_counts a_def
  def-counts =
      mapped-mapped capped_t of_def (a_def ts)
      ∙ mapped-bind _ (λ i. tt) (named is_identifier ts) _ _ λ i a.
      mapped-bind _ names_count (list_of (named is_small) a) _ _ λ us b.
      mapped-after _ (the equals b) _ _ λ u d.
      body-ends dot d (define i us) _ (of_body (names_count us)) λ p. refl

  pub def-1 : bad ≡ skim (named is_identifier) ts → bad ≡ mapped capped_t (def_counts ts)
  def-1 e = sym (def-counts ∙ rw (← e))

  module _ (a : List Token) (e : ok tt a ≡ skim (named is_identifier) ts) where
    pub def-2 : bad ≡ list_count is_small a → bad ≡ mapped capped_t (def_counts ts)
    def-2 g = sym (def-counts ∙ rw (← e, ← g))

    module _ (n : ℕ) (b : List Token) (g : ok n b ≡ list_count is_small a) where
      pub def-3 : bad ≡ the equals b → bad ≡ mapped capped_t (def_counts ts)
      def-3 h = sym (def-counts ∙ rw (← e, ← g, ← h))

      pub def-4 : (d : List Token) → ok tt d ≡ the equals b → (x : Rest Count) → x ≡ mapped capped (body_counts dot d) → bind x (λ x us. ok (of_body n x) us) ≡ mapped capped_t (def_counts ts)
      def-4 d h x k = ap (λ x. bind x (λ x us. ok (of_body n x) us)) k ∙ sym (def-counts ∙ rw (← e, ← g, ← h))

  located-counts : mapped capped_t (located_counts ts) ≡ bind (skim (named is_location) ts) (λ u a. bind (the left a) (λ u b. bind (mapped capped (body_counts right b)) (λ x us. ok (of_bracket x) us)))
  unfolding located_counts a_located
  located-counts =
      mapped-mapped capped_t of_located (a_located ts)
      ∙ mapped-bind _ (λ l. tt) (named is_location ts) _ _ λ l a.
      mapped-after _ (the left a) _ _ λ u b.
      body-ends right b (located-at l) _ of_bracket λ p. refl

  pub located-1 : bad ≡ skim (named is_location) ts → bad ≡ mapped capped_t (located_counts ts)
  located-1 e = sym (located-counts ∙ rw (← e))

  module _ (a : List Token) (e : ok tt a ≡ skim (named is_location) ts) where
    pub located-2 : bad ≡ the left a → bad ≡ mapped capped_t (located_counts ts)
    located-2 g = sym (located-counts ∙ rw (← e, ← g))

    pub located-3 : (b : List Token) → ok tt b ≡ the left a → (x : Rest Count) → x ≡ mapped capped (body_counts right b) → bind x (λ x us. ok (of_bracket x) us) ≡ mapped capped_t (located_counts ts)
    located-3 b g x k = ap (λ x. bind x (λ x us. ok (of_bracket x) us)) k ∙ sym (located-counts ∙ rw (← e, ← g))

-- ── located processes joined by `|` ──
pub located-counts-less : Less located_counts
unfolding located_counts
located-counts-less = mapped-less located-less of_located

pub many-counts : (ts : List Token) → many_counts ts ≡ bind (located_counts ts) (λ x us. more_of plus bar many_counts (next bar us) x us)
unfolding many_counts located_counts sum
many-counts ts = ap (mapped (sum of_located)) (sep_by-is bar a_located located-less ts) ∙ go (a_located ts)
  where
    turn : (l : Located) (us : List Token) (y : Bool) → mapped (sum of_located) (more y l (the bar >> sep_by bar a_located) us) ≡ more_of plus bar (λ ts. mapped (sum of_located) (sep_by bar a_located ts)) y (of_located l) us
    turn l us false = ap (λ n. ok n us) (plus_none (of_located l))
    turn l us true = sign-then (the bar us)
      where
        inner : (x : Rest (List Located)) → mapped (sum of_located) (bind x (λ xs zs. ok (l ∷ xs) zs)) ≡ bind (mapped (sum of_located) x) (λ y us. ok (plus (of_located l) y) us)
        inner (ok xs us) = refl
        inner bad = refl

        sign-then : (x : Rest (Unit {0})) → mapped (sum of_located) (bind (bind x (λ u. sep_by bar a_located)) (λ xs zs. ok (l ∷ xs) zs)) ≡ bind x (λ u ts. bind (mapped (sum of_located) (sep_by bar a_located ts)) (λ y vs. ok (plus (of_located l) y) vs))
        sign-then (ok u vs) = inner (sep_by bar a_located vs)
        sign-then bad = refl

    go : (x : Rest Located) → mapped (sum of_located) (bind x (λ a us. more (next bar us) a (the bar >> sep_by bar a_located) us)) ≡ bind (mapped of_located x) (λ x us. more_of plus bar (λ ts. mapped (sum of_located) (sep_by bar a_located ts)) (next bar us) x us)
    go (ok l us) = turn l us (next bar us)
    go bad = refl

abbrev pub locateds : gathering.Adding Totals
locateds = record { cap = capped_t; join = plus; up_to = plus_up_to; on = plus-on; c = bar; A = located_counts; M = many_counts; less = located-counts-less; M-is = many-counts }

module _ (s : List ℕ) where
  abbrev pub Gathered : ℕ → ℕ → CodeTotals → Type 0
  Gathered at here t = gathering.Gathered locateds s at here (totals_of t)

  pub gathered-first : (at : ℕ) (t : CodeTotals) → totals_of t ≡ no_totals → Gathered at at t
  gathered-first at t e = gathering.gathered-first locateds s at (totals_of t) λ y. plus-first (totals_of t) y e

  module _ (at here : ℕ) (t : CodeTotals) (i : Gathered at here t) where
    pub gathered-bad : bad ≡ mapped capped_t (located_counts (lex (drop here s))) → bad ≡ mapped capped_t (many_counts (lex (drop at s)))
    gathered-bad = gathering.gathered-bad locateds s at here (totals_of t) i

    module _ (r : CodeTotals) (p : totaled s (Some r) ≡ mapped capped_t (located_counts (lex (drop here s)))) where
      pub gathered-end : bad ≡ the bar (lex (drop r.end s)) → totaled s (Some (plus_totals t r)) ≡ mapped capped_t (many_counts (lex (drop at s)))
      gathered-end = gathering.gathered-end locateds s at here (totals_of t) i (totals_of r) r.end p

      module _ (q : ℕ) (c : ok tt (lex (drop q s)) ≡ the bar (lex (drop r.end s))) where
        pub turn-falls : length s - q < length s - here
        turn-falls = gathering.turn-falls locateds s at here (totals_of t) i (totals_of r) r.end p q c

        pub gathered-on : Gathered at q (plus_totals t r)
        gathered-on = gathering.gathered-on locateds s at here (totals_of t) i (totals_of r) r.end p q c

-- ── a network ──
network-counts : (ts : List Token) → network_counts ts ≡ bind (many_counts ts) (λ x us. bind (the dot us) (λ u vs. bind (end vs) (λ u zs. ok x zs)))
unfolding network_counts many_counts a_network
network-counts ts =
    mapped-bind (sum of_located) (sum of_located) (sep_by bar a_located ts) _ _ λ ls us.
    mapped-after (sum of_located) (the dot us) _ _ λ u vs.
    mapped-give (sum of_located) (end vs) ls

module _ (s : List ℕ) (at : ℕ) where
  abbrev Ns : List Token
  Ns = lex (drop at s)

  net-is : mapped capped_t (network_counts Ns) ≡ bind (mapped capped_t (many_counts Ns)) (λ x us. bind (the dot us) (λ u vs. bind (end vs) (λ u zs. ok x zs)))
  net-is = ap (mapped capped_t) (network-counts Ns) ∙ go (many_counts Ns)
    where
      go : (x : Rest Totals) → mapped capped_t (bind x (λ x us. bind (the dot us) (λ u vs. bind (end vs) (λ u zs. ok x zs)))) ≡ bind (mapped capped_t x) (λ x us. bind (the dot us) (λ u vs. bind (end vs) (λ u zs. ok x zs)))
      go (ok x us) = mapped-after capped_t (the dot us) _ _ λ u vs. mapped-give capped_t (end vs) x
      go bad = refl

  net_at : (x : Rest Totals) → x ≡ mapped capped_t (many_counts Ns) → mapped capped_t (network_counts Ns) ≡ bind x (λ x us. bind (the dot us) (λ u vs. bind (end vs) (λ u zs. ok x zs)))
  net_at x p = net-is ∙ ap (λ x. bind x (λ x us. bind (the dot us) (λ u vs. bind (end vs) (λ u zs. ok x zs)))) (sym p)

  pub network-bad : bad ≡ mapped capped_t (many_counts Ns) → bad ≡ mapped capped_t (network_counts Ns)
  network-bad p = sym (net_at bad p)

  module _ (t : CodeTotals) (p : totaled s (Some t) ≡ mapped capped_t (many_counts Ns)) where
    pub network-no-dot : bad ≡ the dot (lex (drop t.end s)) → bad ≡ mapped capped_t (network_counts Ns)
    network-no-dot c = sym (net_at _ p ∙ ap (λ x. bind x (λ u vs. bind (end vs) (λ u zs. ok (totals_of t) zs))) (sym c))

    module _ (d : ℕ) (c : ok tt (lex (drop d s)) ≡ the dot (lex (drop t.end s))) (e : ℕ) (k : drop e s ≡ after_blanks (drop d s)) where
      behind : mapped capped_t (network_counts Ns) ≡ bind (end (lex (drop d s))) (λ u zs. ok (totals_of t) zs)
      behind = net_at _ p ∙ ap (λ x. bind x (λ u vs. bind (end vs) (λ u zs. ok (totals_of t) zs))) (sym c)

      pub network-more : e < length s → bad ≡ mapped capped_t (network_counts Ns)
      network-more h = sym (behind ∙ ap (λ x. bind x (λ u zs. ok (totals_of t) zs)) (sym (end_more s d e k h)))

      pub network-end : length s ≤ e → ok (totals_of t) (lex (drop d s)) ≡ mapped capped_t (network_counts Ns)
      network-end l = ap (ok (totals_of t)) (end-over s d e k l) ∙ sym (behind ∙ ap (λ ts. bind (end ts) (λ u zs. ok (totals_of t) zs)) (end-over s d e k l))

-- ── does a network come next? ──
module _ (ts : List Token) where
  pub net-none : a_word ts ≡ bad → false ≡ net_next ts
  net-none e = go ts e
    where
      go : (ts : List Token) → a_word ts ≡ bad → false ≡ net_next ts
      go [] e = refl
      go (word w ∷ ts) e = clash (sym e)
      go (sign d ∷ ts) e = refl

  module _ (w : Name) (us : List Token) (e : a_word ts ≡ ok w us) where
    net-word : net_next ts ≡ next left us
    net-word = go ts e
      where
        go : (ts : List Token) → a_word ts ≡ ok w us → net_next ts ≡ next left us
        go [] e = clash e
        go (word v ∷ ts) e = let j : ts ≡ us = cc in ap (next left) j
        go (sign d ∷ ts) e = clash e

    -- by whether `[` follows
    pub net-by : (s : List ℕ) (r : Option ℕ) → ended s r ≡ the left us → is_some r ≡ net_next ts
    net-by s (Some r) g = sym (net-word ∙ next-yes left us (sym g))
    net-by s None g = sym (net-word ∙ next-no left us (sym g))

-- ── a text: a network, or a definition and a text ──
text-counts : (ts : List Token) → text_counts ts ≡ cond (net_next ts) (network_counts ts) (bind (def_counts ts) (λ x us. mapped (plus x) (text_counts us)))
unfolding text_counts network_counts def_counts tree_totals sum
text-counts ts = ap (mapped tree_totals) (text-is ts) ∙ go (net_next ts)
  where
    net : (x : Rest (List Located)) → mapped tree_totals (bind x (λ ls zs. ok (record { defs = []; located = ls }) zs)) ≡ mapped (sum of_located) x
    net (ok ls zs) = ap (λ n. ok n zs) (none-plus (sum of_located ls))
    net bad = refl

    add : (d : Def) (x : Rest Text) → mapped tree_totals (bind x (λ t zs. ok (add_def d t) zs)) ≡ mapped (plus (of_def d)) (mapped tree_totals x)
    add d (ok t zs) = ap (λ n. ok n zs) (plus_assoc (of_def d) (sum of_def t.defs) (sum of_located t.located))
    add d bad = refl

    go : (y : Bool) → mapped tree_totals (text_form y text ts) ≡ cond y (mapped (sum of_located) (a_network ts)) (bind (mapped of_def (a_def ts)) (λ x us. mapped (plus x) (mapped tree_totals (text us))))
    go true = net (a_network ts)
    go false = mapped-bind tree_totals of_def (a_def ts) _ _ λ d us. add d (text us)

def-counts-less : Less def_counts
unfolding def_counts
def-counts-less = mapped-less def-less of_def

module _ (s : List ℕ) where
  -- t is gathered before `here`
  abbrev pub Before : ℕ → ℕ → CodeTotals → Type 0
  Before at here t = mapped (λ y. plus_up_to (totals_of t) (capped_t y)) (text_counts (lex (drop here s))) ≡ mapped capped_t (text_counts (lex (drop at s)))

  pub before-first : (at : ℕ) (t : CodeTotals) → totals_of t ≡ no_totals → Before at at t
  before-first at t e = mapped-same _ _ (text_counts (lex (drop at s))) λ y. plus-first (totals_of t) y e

  module _ (at here : ℕ) (t : CodeTotals) (i : Before at here t) where
    abbrev Hs : List Token
    Hs = lex (drop here s)

    -- the network
    pub before-network : true ≡ net_next Hs → (x : Rest Totals) → x ≡ mapped capped_t (network_counts Hs) → mapped (plus_up_to (totals_of t)) x ≡ mapped capped_t (text_counts (lex (drop at s)))
    before-network n x p =
        ap (mapped (plus_up_to (totals_of t))) p ∙ mapped-mapped (plus_up_to (totals_of t)) capped_t (network_counts Hs)
        ∙ sym (ap (mapped (λ y. plus_up_to (totals_of t) (capped_t y))) (text-counts Hs ∙ ap (λ y. cond y (network_counts Hs) (bind (def_counts Hs) (λ x us. mapped (plus x) (text_counts us)))) (sym n)))
        ∙ i

    -- a definition
    module _ (n : false ≡ net_next Hs) where
      text_at : (x : Rest Totals) → def_counts Hs ≡ x → text_counts Hs ≡ bind x (λ x us. mapped (plus x) (text_counts us))
      text_at x h = text-counts Hs ∙ ap (λ y. cond y (network_counts Hs) (bind (def_counts Hs) (λ x us. mapped (plus x) (text_counts us)))) (sym n) ∙ ap (λ x. bind x (λ x us. mapped (plus x) (text_counts us))) h

      pub before-none : bad ≡ mapped capped_t (def_counts Hs) → bad ≡ mapped capped_t (text_counts (lex (drop at s)))
      before-none p = go (def_counts Hs) refl p ∙ i
        where
          go : (x : Rest Totals) → def_counts Hs ≡ x → bad ≡ mapped capped_t x → bad ≡ mapped (λ y. plus_up_to (totals_of t) (capped_t y)) (text_counts Hs)
          go (ok x us) h p = clash p
          go bad h p = sym (ap (mapped (λ y. plus_up_to (totals_of t) (capped_t y))) (text_at bad h))

      module _ (r : CodeTotals) (p : totaled s (Some r) ≡ mapped capped_t (def_counts Hs)) where
        record Read : Type 0 where
          count : Totals
          was : def_counts Hs ≡ ok count (lex (drop r.end s))
          is : totals_of r ≡ capped_t count

        read : Read
        read = go (def_counts Hs) refl p
          where
            go : (x : Rest Totals) → def_counts Hs ≡ x → ok (totals_of r) (lex (drop r.end s)) ≡ mapped capped_t x → Read
            go (ok x us) h p = let j : us ≡ lex (drop r.end s) = cc in record { count = x; was = h ∙ ap (ok x) j; is = cc }
            go bad h p = clash (sym p)

        pub def-falls : length s - r.end < length s - here
        def-falls = let g = read in bytes-fall s here r.end (def-counts-less Hs g.count (lex (drop r.end s)) g.was)

        pub before_on : Before at r.end (plus_totals t r)
        before_on =
            let g = read in
            sym (ap (mapped (λ y. plus_up_to (totals_of t) (capped_t y))) (text_at _ g.was) ∙ go g.count g.is (text_counts (lex (drop r.end s)))) ∙ i
          where
            go : (x : Totals) → totals_of r ≡ capped_t x → (w : Rest Totals) → mapped (λ y. plus_up_to (totals_of t) (capped_t y)) (mapped (plus x) w) ≡ mapped (λ y. plus_up_to (totals_of (plus_totals t r)) (capped_t y)) w
            go x h (ok y us) = ap (λ n. ok n us) (sym (plus-on (totals_of t) x y) ∙ ap (λ b. plus_up_to (plus_up_to (totals_of t) b) (capped_t y)) (sym h))
            go x h bad = refl
