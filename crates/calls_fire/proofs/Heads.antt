-- What question 17 gives the functions of `fire`: places and called definitions are in range. What an action makes of its components by its questions in turn.
-- By taking the tests apart.
use Prim.Native.Nat.{ℕ, ◌<◌, ◌≤◌}
use native.Mathlib.Omega.{arith}
use mathlib.Core.List.{List}
use mathlib.Core.Bool.{true, false}
use mathlib.Core.Logic.{◌⊎◌, inl, inr}
use mathlib.Core.Path.{◌≡◌, refl, sym, ap}
use lib.Dec.{ltb}
use borrow.Author.Tests.{ltb-true, lt-ltb, le-ltb, eq-eqb, ne_eqb}
use Rattle.terms.proofs.Names.{and-inv}
use Rattle.table.specs.declared.Comp.{Comp}
use Rattle.table.specs.declared.Head.{Head}
use Rattle.table.specs.declared.Head.TheVariants.{Stop, Go, Out, In, Call}
use Rattle.table.specs.Words.{defs_in, head_at}
use Rattle.table.specs.Valid.{head_ok, script_ok, comp_ok}
use Rattle.terms.specs.Rules.{Answer, Kind, ◌>>=◌}
use Rattle.terms.specs.Rules.Answer.{refused, accepted}
use Rattle.terms.specs.Rules.Kind.{calls, moves}
use Rattle.table.specs.Fire.{Left, value_in, handed, becomes_at, meet_at, granted_at, right_in, rightly, alone_at, together_at, fits_alone, fits_together}
use Rattle.table.proofs.Tests.{script-fine, part-fine, comp-fine}
use Rattle.calls_fire.specs.Fired.{callee, righted}

pub place-fits : (w : List ℕ) (c : Comp) → script_ok w ≡ true → comp_ok w c ≡ true → c.place < 4_096
place-fits w c e f = omega (arith, (script-fine w e).parts, (comp-fine w c f).place)

callee_small : (w : List ℕ) (i : ℕ) (h : Head) → defs_in w ≤ 32 → head_ok w i h ≡ true → callee h < 32
unfolding callee head_ok
callee_small w i Stop n e = omega arith
callee_small w i (Go t v p) n e = omega arith
callee_small w i (Out c t v p q) n e = omega arith
callee_small w i (In c t k p q) n e = omega arith
callee_small w i (Call d m) n e = omega (arith, ltb-true d (defs_in w) (and-inv (ltb d (defs_in w)) _ e).0)

pub callee-fits : (w : List ℕ) (c : Comp) → script_ok w ≡ true → comp_ok w c ≡ true → callee (head_at w c.place) < 32
callee-fits w c e f = callee_small w c.place (head_at w c.place) (script-fine w e).defs (part-fine w e c.place (comp-fine w c f).place).head

-- a call needs no right
pub call-free : (w : List ℕ) (c : Comp) (h : Head) → righted w (becomes_at w calls c h) ≡ becomes_at w calls c h
unfolding becomes_at rightly granted_at
call-free w c Stop = refl
call-free w c (Go t v p) = refl
call-free w c (Out d t v p q) = refl
call-free w c (In d t k p q) = refl
call-free w c (Call d n) = refl

-- nor do a `stop` and an input
pub needs-none : (w : List ℕ) (c : Comp) (h : Head) → (h ≡ Stop) ⊎ (((d : ℕ) × (t : ℕ) × (k : ℕ) × (p : ℕ) × (q : ℕ) × (h ≡ In d t k p q)) ⊎ ((d : ℕ) × (n : ℕ) × (h ≡ Call d n))) → true ≡ right_in w c h
unfolding right_in
needs-none w c h (inl e) = sym (ap (right_in w c) e)
needs-none w c h (inr (inl e)) = sym (ap (right_in w c) e.5)
needs-none w c h (inr (inr e)) = sym (ap (right_in w c) e.2)

-- ── heads of another form ──
pub no-call : (w : List ℕ) (c : Comp) (h : Head) → ((d n : ℕ) → h ≡ Call d n → ⊥) → refused 10 ≡ becomes_at w calls c h
unfolding becomes_at
no-call w c Stop n = refl
no-call w c (Go t v p) n = refl
no-call w c (Out d t v p q) n = refl
no-call w c (In d t k p q) n = refl
no-call w c (Call d m) n = absurd (n d m refl)

pub no-go : (w : List ℕ) (c : Comp) (h : Head) → ((t v p : ℕ) → h ≡ Go t v p → ⊥) → refused 10 ≡ becomes_at w moves c h
unfolding becomes_at
no-go w c Stop n = refl
no-go w c (Go t v p) n = absurd (n t v p refl)
no-go w c (Out d t v p q) n = refl
no-go w c (In d t k p q) n = refl
no-go w c (Call d m) n = refl

pub no-out : (c e : Comp) (h g : Head) → ((d t v p q : ℕ) → h ≡ Out d t v p q → ⊥) → refused 10 ≡ meet_at c e h g
unfolding meet_at
no-out c e Stop g n = refl
no-out c e (Go t v p) g n = refl
no-out c e (Out d t v p q) g n = absurd (n d t v p q refl)
no-out c e (In d t k p q) g n = refl
no-out c e (Call d m) g n = refl

pub no-in : (c e : Comp) (d t v p q : ℕ) (g : Head) → ((d' t' k p' q' : ℕ) → g ≡ In d' t' k p' q' → ⊥) → refused 10 ≡ meet_at c e (Out d t v p q) g
unfolding meet_at
no-in c e d t v p q Stop n = refl
no-in c e d t v p q (Go t' v' p') n = refl
no-in c e d t v p q (Out d' t' v' p' q') n = refl
no-in c e d t v p q (In d' t' k p' q') n = absurd (n d' t' k p' q' refl)
no-in c e d t v p q (Call d' m) n = refl

-- an output and an input: on one channel at one location they meet
pub meet-apart : (c e : Comp) (d t v p q d' t' k p' q' : ℕ) → (d ≡ d' → ⊥) ⊎ ((d ≡ d') × (c.loc ≡ e.loc → ⊥)) → refused 11 ≡ meet_at c e (Out d t v p q) (In d' t' k p' q')
unfolding meet_at
meet-apart c e d t v p q d' t' k p' q' (inl n) = rw (ne_eqb d d' n)
meet-apart c e d t v p q d' t' k p' q' (inr n) = rw (eq-eqb d d' n.0, ne_eqb c.loc e.loc n.1)

pub meet-here : (c e : Comp) (d t v p q d' t' k p' q' : ℕ) → d ≡ d' → c.loc ≡ e.loc → accepted (handed c e d (value_in c.vals v) p k p') ≡ meet_at c e (Out d t v p q) (In d' t' k p' q')
unfolding meet_at
meet-here c e d t v p q d' t' k p' q' s l = rw (eq-eqb d d' s, eq-eqb c.loc e.loc l)

-- ── the questions in turn ──
pub alone-marked : (w : List ℕ) (k : Kind) (c : Comp) → c.mark < 64 → refused 9 ≡ alone_at w k c
unfolding alone_at fits_alone
alone-marked w k c m = rw (lt-ltb c.mark 64 m)

pub alone-free : (w : List ℕ) (k : Kind) (c : Comp) (x : Answer Left) → 64 ≤ c.mark → x ≡ becomes_at w k c (head_at w c.place) → (x >>= rightly w) ≡ alone_at w k c
unfolding alone_at fits_alone
alone-free w k c x m e = rw (le-ltb c.mark 64 m) (ap (λ y. y >>= rightly w) e)

pub together-marked : (w : List ℕ) (c e : Comp) → (c.mark < 64) ⊎ ((64 ≤ c.mark) × (e.mark < 64)) → refused 9 ≡ together_at w c e
unfolding together_at fits_together
together-marked w c e (inl m) = rw (lt-ltb c.mark 64 m)
together-marked w c e (inr m) = rw (le-ltb c.mark 64 m.0, lt-ltb e.mark 64 m.1)

pub together-free : (w : List ℕ) (c e : Comp) (x : Answer Left) → 64 ≤ c.mark → 64 ≤ e.mark → x ≡ meet_at c e (head_at w c.place) (head_at w e.place) → (x >>= rightly w) ≡ together_at w c e
unfolding together_at fits_together
together-free w c e x m n s = rw (le-ltb c.mark 64 m, le-ltb e.mark 64 n) (ap (λ y. y >>= rightly w) s)

pub with-right : (w : List ℕ) (f : Left) → granted_at w f.tag ≡ true → rightly w f ≡ accepted f
unfolding rightly
with-right w f g = rw g

pub without-right : (w : List ℕ) (f : Left) → granted_at w f.tag ≡ false → rightly w f ≡ refused 20
unfolding rightly
without-right w f g = rw g
