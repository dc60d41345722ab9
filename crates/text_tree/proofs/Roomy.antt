-- Processes within the limits leave the word 4 unset, one put after the other. By induction on the process: what is written before leaves room for the rest.
use Prim.Native.Nat.{ℕ, suc, ◌+◌, ◌-◌, ◌≤◌, ◌<◌}
use native.Mathlib.Omega.{arith}
use mathlib.Core.List.{List, [], ◌∷◌, ◌++◌}
use mathlib.Core.Path.{◌≡◌}
use Rattle.terms.specs.Names.{Name}
use Rattle.terms.specs.Terms.{Part, Process}
use Rattle.terms.specs.Terms.Part.{stop, go, out, inp, call}
use Rattle.terms.specs.Terms.Process.{one, ◌∥◌}
use Rattle.text.specs.WellFormed.{WellPart, WellProcess}
use Rattle.text.specs.Questions.{Place, into, part_places, process_places}
use Rattle.table.specs.Words.{word}
use Rattle.table.specs.Size.{size, size_p}
use Rattle.text_build.specs.declared.Scope.{Scope}
use Rattle.text_build.specs.Rows.{first_place, second_place}
use Rattle.text_build.specs.Put.{opened, inner_scope, put_part, put}
use Rattle.text_build.proofs.Places.{PartFit, Fit, size-some, size_p-some, fit-go, fit-out, fit-in, fit-par}
use Rattle.text_build.proofs.Grows.{Grew, grew_then}
use Rattle.text_build.proofs.Puts.{open-grew, mark-none, puts, puts-part}
use Rattle.text_build.proofs.FirstPlaces.{opened-names, part-first, first}
use Rattle.text_tree.proofs.Room.{FitsAt, at_front, at_rest, few8, process-scope, Ready, ready_on, mark-room, opened-room, second-room, linked-room, inner-ready}

-- what a process put leaves to a later one
module _ (p : Process) (i d : ℕ) (sc : Scope) (w : List ℕ) (ys : List Name) (r : Ready w i sc ys) (f : WellProcess p) (n : size_p p ≤ suc i) (h : i < 4_096) (z : word (put p i sc w) 4 ≡ 0) where
  put-grew : Grew w (put p i sc w) (suc i - size_p p) i
  put-grew = (puts p i d sc w r.making r.eight r.settled f n h z).grew

  put_rest : (xs : List Place) → FitsAt w (process_places p d ys ++ xs) → FitsAt (put p i sc w) xs
  put_rest xs k = at_rest w (put p i sc w) (process_places p d ys) xs (first p i d sc w ys r.making r.eight r.settled f n h z) k

-- and a part opened
module _ (a : Part) (w : List ℕ) (i d : ℕ) (sc : Scope) (ys : List Name) (xs : List Place) (r : Ready w i sc ys) (f : WellPart a) (h : i < 4_096) (k : FitsAt w (record { depth = d; scope = ys; part = a } ∷ xs)) where
  open-clear : word (opened w i sc a) 4 ≡ 0
  open-clear = opened-room a w i d sc ys xs r f k

  open_step : Grew w (opened w i sc a) i i
  open_step = open-grew a w i sc r.making r.eight f h open-clear

  open-rest : FitsAt (opened w i sc a) xs
  open-rest = at_rest w (opened w i sc a) (record { depth = d; scope = ys; part = a } ∷ []) xs (opened-names a w i d sc ys r.making r.eight f open-clear) k

  open-ready : (j : ℕ) → j ≤ i → Ready (opened w i sc a) j sc ys
  open-ready j b = ready_on w (opened w i sc a) i sc ys i i j r open_step open-clear (omega arith) b

mutual
  unfolding put_part put size size_p part_places process_places

  part-roomy : (a : Part) (i d : ℕ) (sc : Scope) (w : List ℕ) (ys : List Name) → Ready w i sc ys → WellPart a → size a ≤ suc i → i < 4_096 → PartFit few8 a d ys → FitsAt w (part_places a d ys)
      → word (put_part a i sc w) 4 ≡ 0
  part-roomy stop i d sc w ys r f n h s k = open-clear stop w i d sc ys [] r f h k
  part-roomy (go t v p) i d sc w ys r f n h s k =
      let a = go t v p in
      let b = size_p-some p in
      let xs = process_places p (suc d) ys in
      put-roomy p (first_place i) (suc d) sc _ ys (open-ready a w i d sc ys xs r f h k (first_place i) (omega arith)) f.2 (omega arith) (omega arith) (fit-go few8 t v p d ys s) (open-rest a w i d sc ys xs r f h k)
  part-roomy (out c t v p q) i d sc w ys r f n h s k =
      let a = out c t v p q in
      let b = size_p-some p in
      let b' = size_p-some q in
      let xs = process_places p (suc d) ys ++ process_places q (suc d) ys in
      let u = fit-out few8 c t v p q d ys s in
      let ro = open-ready a w i d sc ys xs r f h k (first_place i) (omega arith) in
      let ko = open-rest a w i d sc ys xs r f h k in
      let zp = put-roomy p (first_place i) (suc d) sc _ ys ro f.3 (omega arith) (omega arith) u.0 (at_front _ (process_places p (suc d) ys) (process_places q (suc d) ys) ko) in
      let g = put-grew p (first_place i) (suc d) sc _ ys ro f.3 (omega arith) (omega arith) zp in
      second-room _ i (second_place i p)
      (put-roomy q (second_place i p) (suc d) sc _ ys (ready_on _ _ (first_place i) sc ys _ (first_place i) (second_place i p) ro g zp (omega arith) (omega arith)) f.4 (omega arith) (omega arith) u.1
      (put_rest p (first_place i) (suc d) sc _ ys ro f.3 (omega arith) (omega arith) zp (process_places q (suc d) ys) ko))
  part-roomy (inp c t y p q) i d sc w ys r f n h s k =
      let a = inp c t y p q in
      let b = size_p-some p in
      let b' = size_p-some q in
      let xs = process_places p (suc d) (into ys y) ++ process_places q (suc d) ys in
      let u = fit-in few8 c t y p q d ys s in
      let zs = mark-room w i sc ys y r f.2 (process-scope p (suc d) (into ys y) u.0) in
      let mk = mark-none w r.making i sc r.eight y f.2 zs in
      let inner = inner_scope w i sc y in
      let ri = inner-ready c t y p q w i sc ys r f h (omega arith) zs (open-clear a w i d sc ys xs r f h k) in
      let ro = open-ready a w i d sc ys xs r f h k (first_place i) (omega arith) in
      let ko = open-rest a w i d sc ys xs r f h k in
      let zp = put-roomy p (first_place i) (suc d) inner _ (into ys y) ri f.3 (omega arith) (omega arith) u.0 (at_front _ (process_places p (suc d) (into ys y)) (process_places q (suc d) ys) ko) in
      let g = put-grew p (first_place i) (suc d) inner _ (into ys y) ri f.3 (omega arith) (omega arith) zp in
      rw mk
      (second-room _ i (second_place i p)
      (put-roomy q (second_place i p) (suc d) sc _ ys (ready_on _ _ (first_place i) sc ys _ (first_place i) (second_place i p) ro g zp (omega arith) (omega arith)) f.4 (omega arith) (omega arith) u.1
      (put_rest p (first_place i) (suc d) inner _ (into ys y) ri f.3 (omega arith) (omega arith) zp (process_places q (suc d) ys) ko)))
  part-roomy (call x vs) i d sc w ys r f n h s k = open-clear (call x vs) w i d sc ys [] r f h k

  pub put-roomy : (p : Process) (i d : ℕ) (sc : Scope) (w : List ℕ) (ys : List Name) → Ready w i sc ys → WellProcess p → size_p p ≤ suc i → i < 4_096 → Fit few8 p d ys → FitsAt w (process_places p d ys)
      → word (put p i sc w) 4 ≡ 0
  put-roomy (one a) i d sc w ys r f n h s k = linked-room _ i 0 (suc i - size a) (part-roomy a i d sc w ys r f n h s k)
  put-roomy (a ∥ p) i d sc w ys r f n h s k =
      let x = size-some a in
      let b = size_p-some p in
      let u = fit-par few8 a p d ys s in
      let za = part-roomy a i d sc w ys r f.0 (omega arith) h u.0 (at_front w (part_places a d ys) (process_places p d ys) k) in
      let l = puts-part a i d sc w r.making r.eight r.settled f.0 (omega arith) h za in
      let g = grew_then 0 i (open-grew a w i sc r.making r.eight f.0 h l.unmarked) l.later (omega arith) (omega arith) (omega arith) (omega arith) in
      linked-room _ i (suc (i - size a)) (suc i - (size a + size_p p))
      (put-roomy p (i - size a) d sc _ ys (ready_on w _ i sc ys 0 i (i - size a) r g za (omega arith) (omega arith)) f.1 (omega arith) (omega arith) u.1
      (at_rest w _ (part_places a d ys) (process_places p d ys) (part-first a i d sc w ys r.making r.eight r.settled f.0 (omega arith) h za) k))
