-- The bytes of each form are the spelling of its tokens, in front of what is spelled after them.
-- By induction on the form.
use Prim.Native.Nat.{ℕ}
use mathlib.Core.List.{List, [], ◌∷◌, ◌++◌, map, append_assoc, append-nil}
use mathlib.Core.Path.{◌≡◌, refl, ap, sym, ◌∙◌}
use Rattle.terms.specs.Names.{Name, bytes}
use Rattle.terms.specs.Terms.{Timer, Value, Part, Process, Component, Def}
use Rattle.terms.specs.Terms.Timer.{ticks, inf}
use Rattle.terms.specs.Terms.Value.{loc, var}
use Rattle.terms.specs.Terms.Part.{stop, go, out, inp, call}
use Rattle.terms.specs.Terms.Process.{one, ◌∥◌}
use Rattle.terms.specs.Terms.Component.{comp}
use Rattle.terms.specs.Terms.Def.{define}
use Rattle.text.specs.Tokens.{Token, opens, closes, comma, bar, dot}
use Rattle.text.specs.Tokens.Token.{sign}
use Rattle.text.specs.Syntax.{Located}
use Rattle.text.specs.Write.{Printer, name_t, timer_t, value_t, joined_t, list_t, part_t, process_t, def_t, located_t, network_t, text_t, spell, spelled, spell_timer, spell_part, spell_process, spell_def, spell_component}
use Rattle.text_letters.specs.Forms.{timer_text, chain, listed, fields_text}
use Rattle.text_process.specs.Forms.{value_text, open_text, close_text, process_text}
use Rattle.text_network.specs.Forms.{def_text, defs_text, comp_text, barred, net_text}

timer-spelled : (t : Timer) (ts : List Token) → spelled (timer_t (spell_timer t) ts) ≡ timer_text t ++ spelled ts
unfolding spelled spell timer_text
timer-spelled (ticks n) ts = refl
timer-spelled inf ts = refl

value-spelled : (v : Value) (ts : List Token) → spelled (value_t v ts) ≡ value_text v ++ spelled ts
unfolding spelled spell value_text
value-spelled (loc x) ts = refl
value-spelled (var x) ts = refl

name-spelled : (x : Name) (ts : List Token) → spelled (name_t x ts) ≡ x ++ spelled ts
unfolding spelled spell
name-spelled x ts = refl

-- ── lists ──
module _ {A : Type 0} (pr : Printer A) (text : A → List ℕ) (h : (a : A) (ts : List Token) → spelled (pr a ts) ≡ text a ++ spelled ts) where
  chain-spelled : (a : A) (xs : List A) (ts : List Token) → spelled (joined_t comma pr a xs (sign closes ∷ ts)) ≡ text a ++ (chain 44 (map text xs) ++ spelled ts)
  unfolding joined_t chain
  chain-spelled a [] ts = h a (sign closes ∷ ts) ∙ (unfold spelled spell in refl)
  chain-spelled a (b ∷ bs) ts =
      h a (sign comma ∷ joined_t comma pr b bs (sign closes ∷ ts))
      ∙ ap (λ z. text a ++ z) (comma-spelled (joined_t comma pr b bs (sign closes ∷ ts)) ∙ ap (λ z. 44 ∷ z) (chain-spelled b bs ts ∙ sym (append_assoc (text b) (chain 44 (map text bs)) (spelled ts))))
    where
      comma-spelled : (us : List Token) → spelled (sign comma ∷ us) ≡ 44 ∷ spelled us
      comma-spelled us = unfold spelled spell in refl

  list-spelled : (xs : List A) (ts : List Token) → spelled (list_t pr xs ts) ≡ listed (map text xs) ++ spelled ts
  unfolding listed chain
  list-spelled [] ts = refl
  list-spelled (a ∷ xs) ts =
      open-spelled (joined_t comma pr a xs (sign closes ∷ ts))
      ∙ ap (λ z. 40 ∷ z) (chain-spelled a xs ts ∙ sym (append_assoc (text a) (chain 44 (map text xs)) (spelled ts)))
    where
      open-spelled : (us : List Token) → spelled (sign opens ∷ us) ≡ 40 ∷ spelled us
      open-spelled us = unfold spelled spell in refl

-- ── parts and processes ──
mutual
  unfolding part_t process_t spelled spell open_text close_text process_text fields_text

  part-spelled : (a : Part) (ts : List Token) → spelled (part_t (spell_part a) ts) ≡ (open_text a ++ close_text a) ++ spelled ts
  part-spelled stop ts = refl
  part-spelled (go t v p) ts =
      rw (timer-spelled t, value-spelled v, process-spelled p (sign closes ∷ ts)) (simp append_assoc)
  part-spelled (out c t v p q) ts =
      rw (timer-spelled t, value-spelled v, process-spelled p (sign comma ∷ process_t (spell_process q) (sign closes ∷ ts)), process-spelled q (sign closes ∷ ts)) (simp append_assoc)
  part-spelled (inp c t y p q) ts =
      rw (timer-spelled t, process-spelled p (sign comma ∷ process_t (spell_process q) (sign closes ∷ ts)), process-spelled q (sign closes ∷ ts)) (simp append_assoc)
  part-spelled (call i vs) ts =
      rw (list-spelled value_t value_text value-spelled vs ts) (simp (append_assoc, append-nil))

  pub process-spelled : (p : Process) (ts : List Token) → spelled (process_t (spell_process p) ts) ≡ process_text p ++ spelled ts
  process-spelled (one a) ts = part-spelled a ts
  process-spelled (a ∥ p) ts = rw (part-spelled a (sign bar ∷ process_t (spell_process p) ts), process-spelled p ts) (simp append_assoc)

-- ── definitions ──
names-are : (us : List Name) → map (λ x. x) us ≡ us
names-are [] = refl
names-are (u ∷ us) = rw (names-are us)

def-spelled : (d : Def) (ts : List Token) → spelled (def_t (spell_def d) ts) ≡ def_text d ++ spelled ts
unfolding def_text spelled spell
def-spelled (define i us p) ts =
    rw (list-spelled name_t (λ x. x) name-spelled us, names-are us, process-spelled p) (simp append_assoc)

pub text-spelled : (ds : List Def) (ls : List Located) → spelled (text_t (map spell_def ds) ls) ≡ defs_text ds ++ spelled (network_t ls)
unfolding text_t defs_text
text-spelled [] ls = refl
text-spelled (d ∷ ds) ls = rw (def-spelled d, text-spelled ds ls) (simp append_assoc)

-- ── components ──
comp-spelled : (c : Component) (ts : List Token) → spelled (located_t (spell_component c) ts) ≡ comp_text c ++ spelled ts
unfolding comp_text spelled spell
comp-spelled (comp l m p) ts = rw (process-spelled p) (simp append_assoc)

bars-spelled : (c : Component) (cs : List Component) → spelled (joined_t bar located_t (spell_component c) (map spell_component cs) (sign dot ∷ [])) ≡ comp_text c ++ barred (map comp_text cs)
unfolding joined_t barred
bars-spelled c [] = comp-spelled c (sign dot ∷ []) ∙ (unfold spelled spell in refl)
bars-spelled c (d ∷ cs) = comp-spelled c _ ∙ ap (λ z. comp_text c ++ z) (bar-spelled (joined_t bar located_t (spell_component d) (map spell_component cs) (sign dot ∷ [])) ∙ ap (λ z. bytes " | " ++ z) (bars-spelled d cs))
  where
    bar-spelled : (us : List Token) → spelled (sign bar ∷ us) ≡ bytes " | " ++ spelled us
    bar-spelled us = unfold spelled spell in refl

pub network-spelled : (cs : List Component) → spelled (network_t (map spell_component cs)) ≡ net_text (map comp_text cs)
unfolding network_t net_text
network-spelled [] = unfold spelled spell in refl
network-spelled (c ∷ cs) = bars-spelled c cs
