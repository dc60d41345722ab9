-- Whatever the grammar reads are the tokens of what it gives, so that the form of a text is its tree's tokens and nothing else: `form-is`.
-- By the inverse of each reader, one after the other along the do-block; what was read is a variable from there on.
use Prim.Native.Nat.{ℕ, zero, suc, ◌+◌, ◌*◌}
use native.Mathlib.Omega.{arith}
use mathlib.Core.List.{List, [], ◌∷◌, map}
use mathlib.Core.Bool.{Bool, true, false, cond, false≢true}
use mathlib.Core.Logic.{◌↔◌}
use mathlib.Core.Path.{◌≡◌, refl, ap, ◌∙◌, subst}
use lib.Dec.{eqb}
use lib.ListN.{length}
use borrow.Author.Tests.{eqb-true}
use Rattle.terms.specs.Names.{Name, bytes, same_name}
use Rattle.terms.specs.Terms.Value.{loc, var}
use Rattle.terms.specs.Rules.Answer.{accepted}
use Rattle.text.specs.Tokens.{Token, lex, number, is_ticks, opens, closes, left, right, comma, bar, dot, equals}
use Rattle.text.specs.Tokens.Token.{word, sign}
use Rattle.text.specs.Syntax.{Span, Part, Process, Def, Located, Text}
use Rattle.text.specs.Syntax.Span.{exactly, forever}
use Rattle.text.specs.Syntax.Part.{stop, go, out, inp, call}
use Rattle.text.specs.Syntax.Process.{one, ◌∥◌}
use Rattle.text.specs.Syntax.Def.{define}
use Rattle.text.specs.Syntax.Located.{at}
use Rattle.text.specs.Tree.{timer_of, settle, settle_p, settle_def, settle_at}
use Rattle.text.specs.Grammar.{Rest, Reader, bind, when, named, the, a_word, next, end, more, joined, bracketed, list_of, a_timer, a_value, Head, head_of, comm_form, part_form, a_part, more_parts, a_process, part_of, process_of, a_def, a_located, a_network, net_next, add_def, text_form, text_of, text, ◌>>◌}
use Rattle.text.specs.Grammar.Rest.{ok, bad}
use Rattle.text.specs.Grammar.Head.{stops, goes, sends, receives, calls, nothing}
use Rattle.text.specs.Write.{Printer, name_t, timer_t, value_t, joined_t, list_t, part_t, process_t, def_t, located_t, network_t, text_t, tokens}
use Rattle.text.specs.WellFormed.{Is, WellTimer, WellValue, Each, WellPart, WellProcess, WellDef, WellLocated, NonEmpty, WellText}
use Rattle.text.specs.Questions.{form, whole}
use Rattle.terms.proofs.Names.{and-inv}
use Rattle.terms.specs.Letters.{is_location, is_small, is_identifier}
use Rattle.text.proofs.Digits.{ticks-exact}
use Rattle.text.proofs.ReadBack.{tokens-back}

-- ── readers: what a reader read, and that it is well ──
pub record Took {A : Type 0} (W : A → Type 0) (pr : Printer A) (ts : List Token) (a : A) (us : List Token) : Type 0 where
  pub was : ts ≡ pr a us
  pub well : W a

abbrev pub Exact : {A : Type 0} → (A → Type 0) → Reader A → Printer A → Type 0
Exact {A} W r pr = (ts : List Token) (a : A) (us : List Token) → r ts ≡ ok a us → Took W pr ts a us

pub clash : {A : Type 0} {B : Type 0} {a : A} {us : List Token} → bad ≡ ok a us → B
clash e = let z : ◌≡◌ {A = ℕ} 0 1 = cc in absurd (omega arith)

-- a reader, then another: what was read is a variable from there on, and no `let` grows
then : {A B G : Type 0} {W : A → Type 0} {r : Reader A} {pr : Printer A} → Exact W r pr → (ts : List Token) (k : A → Reader B) {b : B} {us : List Token} → bind (r ts) k ≡ ok b us
    → ((a : A) (vs : List Token) → ts ≡ pr a vs → W a → k a vs ≡ ok b us → G) → G
then {A} {B} {G} {W} {r} {pr} x ts k {b} {us} e g = go (r ts) refl e
  where
    go : (y : Rest A) → r ts ≡ y → bind y k ≡ ok b us → G
    go (ok a vs) h e = let t = x ts a vs h in g a vs t.was t.well e
    go bad h e = clash e

when-inv : {A : Type 0} (y : Bool) (a : A) (ts : List Token) {b : A} {us : List Token} → when y a ts ≡ ok b us → (y ≡ true) × (a ≡ b) × (ts ≡ us)
when-inv true a ts e = (refl, cc, cc)
when-inv false a ts e = clash e

unfoldable pub sign_t : (c : ℕ) → Printer (Unit {0})
sign_t c u ts = sign c ∷ ts

pub the-exact : (c : ℕ) → Exact (λ u. Unit {0}) (the c) (sign_t c)
unfolding sign_t
the-exact c [] a us e = clash e
the-exact c (word w ∷ ts) a us e = clash e
the-exact c (sign d ∷ ts) a us e = let h = when-inv (eqb d c) tt ts e in record { was = cc (eqb-true d c h.0, h.2); well = tt }

pub word-exact : Exact (λ w. Unit {0}) a_word name_t
word-exact [] a us e = clash e
word-exact (word w ∷ ts) a us e = record { was = cc; well = tt }
word-exact (sign d ∷ ts) a us e = clash e

pub name-exact : (p : Name → Bool) → Exact (Is p) (named p) name_t
name-exact p ts a us e =
    then word-exact ts _ e λ w vs g o e.
    let h = when-inv (p w) w vs e in
    record { was = g ∙ cc (h.1, h.2); well = rw (← h.1) h.0 }

pub same-eq : (w v : Name) → same_name w v ≡ true → w ≡ v
unfolding same_name
same-eq [] [] e = refl
same-eq [] (b ∷ v) e = absurd (false≢true e)
same-eq (a ∷ w) [] e = absurd (false≢true e)
same-eq (a ∷ w) (b ∷ v) e = let h = and-inv (eqb a b) _ e in cc (eqb-true a b h.0, same-eq w v h.1)

pub timer-exact : Exact (λ t. WellTimer (timer_of t)) a_timer timer_t
unfolding a_timer
timer-exact ts a us e = then word-exact ts _ e λ w vs g o e. go w vs (same_name w (bytes "inf")) refl g e
  where
    go : (w : Name) (vs : List Token) (y : Bool) → same_name w (bytes "inf") ≡ y → ts ≡ word w ∷ vs → cond y (λ ts. ok forever ts) (when (is_ticks w) (exactly (number w))) vs ≡ ok a us → Took (λ t. WellTimer (timer_of t)) timer_t ts a us
    go w vs true h g e = let i : forever ≡ a = cc in let j : vs ≡ us = cc in rw (← i, ← j) (record { was = g ∙ cc (same-eq w (bytes "inf") h); well = tt })
    go w vs false h g e = let k = when-inv (is_ticks w) _ vs e in let m = ticks-exact w k.0 in rw (← k.1, ← k.2) (record { was = g ∙ ap (λ x. word x ∷ vs) m.0; well = m.1 })

pub value-exact : Exact WellValue a_value value_t
unfolding a_value
value-exact ts a us e = then word-exact ts _ e λ w vs g o e. go w vs (is_location w) refl g e
  where
    go : (w : Name) (vs : List Token) (y : Bool) → is_location w ≡ y → ts ≡ word w ∷ vs → cond y (λ ts. ok (loc w) ts) (when (is_small w) (var w)) vs ≡ ok a us → Took WellValue value_t ts a us
    go w vs true h g e = let i : loc w ≡ a = cc in let j : vs ≡ us = cc in rw (← i, ← j) (record { was = g; well = h })
    go w vs false h g e = let k = when-inv (is_small w) _ vs e in rw (← k.1, ← k.2) (record { was = g; well = k.0 })

-- ── lists ──
pub each_map : {A B : Type 0} (W : B → Type 0) (f : A → B) (xs : List A) → Each (λ x. W (f x)) xs → Each W (map f xs)
each_map W f [] w = tt
each_map W f (x ∷ xs) w = (w.0, each_map W f xs w.1)

pub some-map : {A B : Type 0} (f : A → B) (xs : List A) → NonEmpty xs → NonEmpty (map f xs)
some-map f [] s = s
some-map f (x ∷ xs) s = tt

many_t : {A : Type 0} → ℕ → Printer A → Printer (List A)
many_t c pr [] ts = ts
many_t c pr (a ∷ xs) ts = joined_t c pr a xs ts

abbrev Many : {A : Type 0} → (A → Type 0) → List A → Type 0
Many W xs = Each W xs × NonEmpty xs

module _ {A : Type 0} {W : A → Type 0} {r : Reader A} {pr : Printer A} (x : Exact W r pr) (c : ℕ) where
  joined-exact : (f : ℕ) → Exact (Many W) (joined f c r) (many_t c pr)
  unfolding joined joined_t many_t sign_t
  joined-exact zero ts xs us e = clash e
  joined-exact (suc f) ts xs us e = then x ts _ e λ a vs g w e. go a vs g w (next c vs) e (joined-exact f)
    where
      last : (a : A) (bs xs : List A) (vs : List Token) → ts ≡ pr a (sign c ∷ vs) → W a → (a ∷ bs) ≡ xs → Took (Many W) (many_t c pr) vs bs us → Took (Many W) (many_t c pr) ts xs us
      last a [] xs vs g w e k = absurd k.well.1
      last a (b ∷ bs) xs vs g w e k = rw (← e) (record { was = g ∙ ap (λ z. pr a (sign c ∷ z)) k.was; well = ((w, k.well.0), tt) })

      go : (a : A) (vs : List Token) → ts ≡ pr a vs → W a → (y : Bool) → more y a (the c >> joined f c r) vs ≡ ok xs us → Exact (Many W) (joined f c r) (many_t c pr) → Took (Many W) (many_t c pr) ts xs us
      go a vs g w false e k = let i : (a ∷ []) ≡ xs = cc in let j : vs ≡ us = cc in rw (← i, ← j) (record { was = g; well = ((w, tt), tt) })
      go a vs g w true e k = inner (the c vs) refl e
        where
          inner : (y : Rest (Unit {0})) → the c vs ≡ y → bind (bind y (λ u. joined f c r)) (λ bs zs. ok (a ∷ bs) zs) ≡ ok xs us → Took (Many W) (many_t c pr) ts xs us
          inner bad h e = clash e
          inner (ok u zs) h e =
              then k zs _ e λ bs ys o m e.
              let i : (a ∷ bs) ≡ xs = cc in
              let j : ys ≡ us = cc in
              last a bs xs zs (g ∙ ap (pr a) (the-exact c vs u zs h).was) w i (record { was = o ∙ ap (many_t c pr bs) j; well = m })

took : {A : Type 0} {W : A → Type 0} {pr : Printer A} {ts : List Token} (b : A) (vs : List Token) {a : A} {us : List Token} → ok b vs ≡ ok a us → ts ≡ pr b vs → W b → Took W pr ts a us
took {W = W} {pr = pr} {ts = ts} b vs {a} {us} e g w =
    let i : b ≡ a = cc in
    let j : vs ≡ us = cc in
    record { was = g ∙ cc; well = subst W i w }

pub list-exact : {A : Type 0} {W : A → Type 0} {r : Reader A} {pr : Printer A} → Exact W r pr → Exact (Each W) (list_of r) (list_t pr)
unfolding many_t sign_t
list-exact {A} {W} {r} {pr} x ts xs us e = go (next opens ts) e
  where
    shape : (bs : List A) (vs : List Token) → Many W bs → sign opens ∷ many_t comma pr bs (sign closes ∷ vs) ≡ list_t pr bs vs
    shape [] vs w = absurd w.1
    shape (b ∷ bs) vs w = refl

    go : (y : Bool) → bracketed y r ts ≡ ok xs us → Took (Each W) (list_t pr) ts xs us
    go false e = let i : [] ≡ xs = cc in let j : ts ≡ us = cc in rw (← i, ← j) (record { was = refl; well = tt })
    go true e =
        then (the-exact opens) ts _ e λ u ys g o e.
        then (joined-exact x comma (length ys)) ys _ e λ bs vs h w e.
        then (the-exact closes) vs _ e λ u zs k o e.
        took bs zs e (g ∙ ap (λ z. sign opens ∷ z) (h ∙ ap (many_t comma pr bs) k) ∙ shape bs zs w) w.0

-- ── the word that a part begins with ──
data View (w : Name) : Head → Type 0 where
  is_stop : w ≡ bytes "stop" → View w stops
  is-go : w ≡ bytes "go" → View w goes
  is-out : w ≡ bytes "out" → View w sends
  is-in : w ≡ bytes "in" → View w receives
  is_call : is_identifier w ≡ true → View w calls
  is_none : View w nothing

view : (w : Name) → View w (head_of w)
unfolding head_of
view w = go (same_name w (bytes "stop")) (same_name w (bytes "go")) (same_name w (bytes "out")) (same_name w (bytes "in")) (is_identifier w) refl refl refl refl refl
  where
    go : (a b c d f : Bool) → same_name w (bytes "stop") ≡ a → same_name w (bytes "go") ≡ b → same_name w (bytes "out") ≡ c → same_name w (bytes "in") ≡ d → is_identifier w ≡ f
        → View w (cond a stops (cond b goes (cond c sends (cond d receives (cond f calls nothing)))))
    go true b c d f h i j k l = is_stop (same-eq w _ h)
    go false true c d f h i j k l = is-go (same-eq w _ i)
    go false false true d f h i j k l = is-out (same-eq w _ j)
    go false false false true f h i j k l = is-in (same-eq w _ k)
    go false false false false true h i j k l = is_call l
    go false false false false false h i j k l = is_none

-- ── parts and processes ──
module _ {P : Reader Process} (x : Exact (λ p. WellProcess (settle_p p)) P process_t) where
  -- `(c,t,x,P,Q)` behind the word w: out and in alike
  comm-exact : {A : Type 0} {W : A → Type 0} {r : Reader A} {pr : Printer A} → Exact W r pr → (k : Name → Span → A → Process → Process → Part) (w : Name)
      → ((c : Name) (t : Span) (b : A) (p q : Process) (us : List Token) → word w ∷ sign opens ∷ word c ∷ sign comma ∷ timer_t t (sign comma ∷ pr b (sign comma ∷ process_t p (sign comma ∷ process_t q (sign closes ∷ us)))) ≡ part_t (k c t b p q) us)
      → ((c : Name) (t : Span) (b : A) (p q : Process) → Is is_small c × WellTimer (timer_of t) × W b × WellProcess (settle_p p) × WellProcess (settle_p q) → WellPart (settle (k c t b p q)))
      → (ts : List Token) (a : Part) (us : List Token) → comm_form r k P ts ≡ ok a us → Took (λ a. WellPart (settle a)) part_t (word w ∷ ts) a us
  unfolding sign_t
  comm-exact y k w g h ts a us e =
      then (the-exact opens) ts _ e λ o b e1 _ e.
      then (name-exact is_small) b _ e λ m c e2 wm e.
      then (the-exact comma) c _ e λ o d e3 _ e.
      then timer-exact d _ e λ t f e4 wt e.
      then (the-exact comma) f _ e λ o i e5 _ e.
      then y i _ e λ v j e6 wv e.
      then (the-exact comma) j _ e λ o l e7 _ e.
      then x l _ e λ p n e8 wp e.
      then (the-exact comma) n _ e λ o s e9 _ e.
      then x s _ e λ q u e10 wq e.
      then (the-exact closes) u _ e λ o z e11 _ e.
      took (k m t v p q) z e (cc (g m t v p q z)) (h m t v p q (wm, wt, wv, wp, wq))

  form-exact : (w : Name) (h : Head) → View w h → (ts : List Token) (a : Part) (us : List Token) → part_form P h w ts ≡ ok a us → Took (λ a. WellPart (settle a)) part_t (word w ∷ ts) a us
  unfolding part_t sign_t
  form-exact w stops (is_stop i) ts a us e = took stop ts e (cc) tt
  form-exact w goes (is-go i) ts a us e =
      then (the-exact opens) ts _ e λ o b eb _ e.
      then timer-exact b _ e λ t c et wt e.
      then (the-exact comma) c _ e λ o d ec _ e.
      then value-exact d _ e λ v f ev wv e.
      then (the-exact comma) f _ e λ o g ed _ e.
      then x g _ e λ p h ep wp e.
      then (the-exact closes) h _ e λ o k ef _ e.
      took (go t v p) k e (cc) (wt, wv, wp)
  form-exact w sends (is-out i) ts a us e = rw i (comm-exact value-exact out (bytes "out") (λ c t v p q zs. refl) (λ c t v p q w. w) ts a us e)
  form-exact w receives (is-in i) ts a us e = rw i (comm-exact (name-exact is_small) inp (bytes "in") (λ c t y p q zs. refl) (λ c t y p q w. w) ts a us e)
  form-exact w calls (is_call i) ts a us e =
      then (list-exact value-exact) ts _ e λ vs z g h e.
      took (call w vs) z e (cc) (i, h)
  form-exact w nothing is_none ts a us e = clash e

part_step : {P : Reader Process} → Exact (λ p. WellProcess (settle_p p)) P process_t → Exact (λ a. WellPart (settle a)) (a_part P) part_t
part_step x ts a us e =
    then word-exact ts _ e λ w vs g o e.
    let t = form-exact x w (head_of w) (view w) vs a us e in
    record { was = g ∙ t.was; well = t.well }

process-step : {A : Reader Part} {P : Reader Process} → Exact (λ a. WellPart (settle a)) A part_t → Exact (λ p. WellProcess (settle_p p)) P process_t → Exact (λ p. WellProcess (settle_p p)) (a_process A P) process_t
unfolding part_t sign_t
process-step {P = P} y x ts p us e = then y ts _ e λ a vs g w e. go a vs g w (next bar vs) e
  where
    go : (a : Part) (vs : List Token) → ts ≡ part_t a vs → WellPart (settle a) → (y : Bool) → more_parts y a P vs ≡ ok p us → Took (λ p. WellProcess (settle_p p)) process_t ts p us
    go a vs g w false e = took (one a) vs e g w
    go a vs g w true e =
        then (the-exact bar) vs _ e λ o xs h _ e.
        then x xs _ e λ q ys i wq e.
        took (a ∥ q) ys e (cc) (w, wq)

mutual
  unfolding part_of

  pub part-exact : (f : ℕ) → Exact (λ a. WellPart (settle a)) (part_of f) part_t
  part-exact zero = λ ts a us e. clash e
  part-exact (suc f) = part_step (process-exact f)

  pub process-exact : (f : ℕ) → Exact (λ p. WellProcess (settle_p p)) (process_of f) process_t
  process-exact zero = λ ts a us e. clash e
  process-exact (suc f) = process-step (part-exact f) (process-exact f)

-- ── definitions, located processes, texts ──
pub def-exact : Exact (λ d. WellDef (settle_def d)) a_def def_t
unfolding a_def sign_t
def-exact ts a us e =
    then (name-exact is_identifier) ts _ e λ i b e1 wi e.
    then (list-exact (name-exact is_small)) b _ e λ xs c e2 wx e.
    then (the-exact equals) c _ e λ o d e3 _ e.
    then (process-exact (2 * length d + 2)) d _ e λ p f e4 wp e.
    then (the-exact dot) f _ e λ o g e5 _ e.
    took (define i xs p) g e (cc) (wi, wx, wp)

pub located-exact : Exact (λ l. WellLocated (settle_at l)) a_located located_t
unfolding a_located sign_t
located-exact ts a us e =
    then (name-exact is_location) ts _ e λ l b e1 wl e.
    then (the-exact left) b _ e λ o d e3 _ e.
    then (process-exact (2 * length d + 2)) d _ e λ p f e4 wp e.
    then (the-exact right) f _ e λ o g e5 _ e.
    took (at l p) g e (cc) (wl, wp)

end-inv : (ts : List Token) {B : Type 0} (b : B) {c : B} {us : List Token} → bind (end ts) (λ u vs. ok b vs) ≡ ok c us → (ts ≡ []) × (b ≡ c)
end-inv [] b e = (refl, cc)
end-inv (t ∷ ts) b e = clash e

network-exact : (ts : List Token) (ls : List Located) (us : List Token) → a_network ts ≡ ok ls us → (ts ≡ network_t ls) × Each WellLocated (map settle_at ls) × NonEmpty (map settle_at ls)
unfolding a_network sign_t
network-exact ts ls us e =
    then (joined-exact located-exact bar (length ts)) ts _ e λ ms a e1 w e.
    then (the-exact dot) a _ e λ o b e2 _ e.
    let h = end-inv b ms e in
    let g : ts ≡ many_t bar located_t ms (sign dot ∷ []) = e1 ∙ ap (many_t bar located_t ms) (e2 ∙ ap (λ z. sign dot ∷ z) h.0) in
    subst (λ x. (ts ≡ network_t x) × Each WellLocated (map settle_at x) × NonEmpty (map settle_at x)) h.1 (g ∙ shape ms w, each_map WellLocated settle_at ms w.0, some-map settle_at ms w.1)
  where
    shape : (ms : List Located) → Many (λ l. WellLocated (settle_at l)) ms → many_t bar located_t ms (sign dot ∷ []) ≡ network_t ms
    shape [] w = absurd w.1
    shape (m ∷ ms) w = unfold many_t network_t in refl

text-exact : (f : ℕ) (ts : List Token) (t : Text) (us : List Token) → text_of f ts ≡ ok t us → (ts ≡ tokens t) × WellText t
unfolding text_of text_t
text-exact zero ts t us e = clash e
text-exact (suc f) ts t us e = go (net_next ts) e (text-exact f)
  where
    net : (x : Rest (List Located)) → a_network ts ≡ x → bind x (λ ls vs. ok (record { defs = []; located = ls }) vs) ≡ ok t us → (ts ≡ tokens t) × WellText t
    net bad h e = clash e
    net (ok ls vs) h e =
        let k = network-exact ts ls vs h in
        let i : record { defs = []; located = ls } ≡ t = cc in
        subst (λ x. (ts ≡ tokens x) × WellText x) i (k.0, record { defs-well = tt; located-well = k.1; some-located = k.2 })

    add : (d : Def) (vs : List Token) → ts ≡ def_t d vs → WellDef (settle_def d) → (x : Rest Text) → text_of f vs ≡ x → bind x (λ r zs. ok (add_def d r) zs) ≡ ok t us → ((ts : List Token) (t : Text) (us : List Token) → text_of f ts ≡ ok t us → (ts ≡ tokens t) × WellText t) → (ts ≡ tokens t) × WellText t
    add d vs g w bad h e k = clash e
    add d vs g w (ok r zs) h e k =
        let m = k vs r zs h in
        let i : add_def d r ≡ t = cc in
        subst (λ x. (ts ≡ tokens x) × WellText x) i (g ∙ ap (def_t d) m.0, record { defs-well = (w, m.1.defs-well); located-well = m.1.located-well; some-located = m.1.some-located })

    go : (y : Bool) → text_form y (text_of f) ts ≡ ok t us → ((ts : List Token) (t : Text) (us : List Token) → text_of f ts ≡ ok t us → (ts ≡ tokens t) × WellText t) → (ts ≡ tokens t) × WellText t
    go true e k = net (a_network ts) refl e
    go false e k = then def-exact ts _ e λ d vs g w e. add d vs g w (text_of f vs) refl e k

-- whatever has a form is the tokens of a well-formed tree
pub form-tokens : (s : List ℕ) (t : Text) → form s ≡ accepted t → (lex s ≡ tokens t) × WellText t
unfolding form
form-tokens s t e = go (text (lex s)) refl e
  where
    go : (x : Rest Text) → text (lex s) ≡ x → whole x ≡ accepted t → (lex s ≡ tokens t) × WellText t
    go (ok r us) h e = let i : r ≡ t = cc in subst (λ x. (lex s ≡ tokens x) × WellText x) i (text-exact (length (lex s)) (lex s) r us h)
    go bad h e = let z : ◌≡◌ {A = ℕ} 0 1 = cc in absurd (omega arith)

-- question 2 in one line: the text has the form of t exactly if its tokens are those of t, well-formed
pub form-is : (s : List ℕ) (t : Text) → (form s ≡ accepted t) ↔ ((lex s ≡ tokens t) × WellText t)
unfolding form
form-is s t = (form-tokens s t, λ h. rw (h.0, tokens-back t h.1))
