-- A call whose steps nobody else's come between ends within so many of them.
use Rattle.std.proofs.Common.{◌≡◌, ℕ, zero, suc, ◌<◌, ◌≤◌, ◌-◌, Bool, true, false, List, [], ◌∷◌, length, take, refl, sym, ◌∙◌, subst, inl, inr, arith}
use Rattle.std.specs.Prelude.{Option, None, Some, slice_get}
use Rattle.std.proofs.Math.ListN.{set}
use Rattle.std.proofs.lemmas.Bool.{false≢true}
use Rattle.congee.specs.declared.forms.base_node.NodeType.{NodeType}
use Rattle.congee.specs.declared.protocol.store.Refusal.{Refusal}
use Rattle.congee.specs.declared.protocol.op.Op.{Op}
use Rattle.congee.specs.declared.protocol.op.Op.TheVariants as op
use Rattle.congee.specs.declared.protocol.phase.Kind.{Kind}
use Rattle.congee.specs.declared.protocol.phase.Phase.{Phase}
use Rattle.congee.specs.declared.protocol.phase.Phase.TheVariants.{AskOld, AskNew, Scan, Ended}
use Rattle.congee.specs.declared.protocol.machine.Outcome.{Outcome}
use Rattle.congee.specs.declared.protocol.machine.Machine.{Machine}
use Rattle.congee.specs.declared.protocol.machine.Move.{Move}
use Rattle.congee.specs.declared.protocol.run.Step.{Step}
use Rattle.congee.specs.Heap.{Node}
use Rattle.congee.specs.protocol.Alone.{NoOtherLocks, IsUndisturbed, IsAnswer, HasAnswer, IsPast, steps_left, steps_whole}
use Rattle.congee.specs.protocol.Opening.{FreshRoot}
use Rattle.congee.specs.protocol.Play.{parts, first_phase, begun, Settled, Begins, NextAt}
use Rattle.congee.specs.protocol.Steps.{Stepped}
use Rattle.congee.specs.protocol.Trace.{Traced, AreTraced, goes_on, is_asked, IsNext, AreNext, AllGoOn, steps_alone, EndsAlone, AllEndAlone}
use Rattle.congee.proofs.lemmas.protocol.Alone.{near_on, begins_on, whole_left}
use Rattle.congee.proofs.lemmas.protocol.AlonePoints.{Nearer, Tells}
use Rattle.congee.proofs.lemmas.protocol.Owners.{get_set, set_here}
use Rattle.congee.proofs.lemmas.protocol.Steps.{stepped_keeps}
use Rattle.congee.proofs.lemmas.protocol.ManyCalls.{step_leaves, plays_none}

module _ {C V : Type 0} where
  -- a call waits for its closure's answer only where it was asked
  abbrev Shows : Phase C V → Bool → Type 0
  Shows (AskOld s v) b = b ≡ true
  Shows (AskNew plan) b = b ≡ true
  Shows _ b = Unit {0}

  shows : (x : Phase C V) (o : Outcome V) → Tells x o → Shows x (is_asked o)
  shows (AskOld s v) o t = t
  shows (AskNew plan) o t = t
  shows _ o t = tt

  answered : (kind : Kind V) (x : Phase C V) (b : Bool) (answer : Option (Option V)) → Shows x b → (b ≡ true → IsAnswer kind answer) → HasAnswer kind x answer
  answered kind (AskOld s v) b answer e f = f e
  answered kind (AskNew plan) b answer e f = f e
  answered kind _ b answer e f = tt

  -- one that goes on has not ended
  not_past : (x : Phase C V) (o : Outcome V) → Tells x o → goes_on o ≡ true → IsPast x → ⊥
  not_past (Scan s) o t g p = false≢true (sym (t p) ∙ g)
  not_past Ended o t g p = false≢true (sym t ∙ g)
  not_past _ o t g p = p

  -- and so it is as it begins
  first_shows : (root : C) (o : Op V) → Shows (first_phase root o) false
  first_shows root (op.Range start end size) = tt
  first_shows root (op.RangeInclusive start last size) = tt
  first_shows root _ = tt

  first_not_past : (root : C) (o : Op V) → IsPast (first_phase root o) → ⊥
  first_not_past root (op.Range start end size) p = cc p
  first_not_past root (op.RangeInclusive start last size) p = cc p
  first_not_past root _ p = p

module _ {C V : Type 0} (number : C → ℕ) (same : V → V → Bool) (always : Bool) (most : ℕ) (why : (ℕ → Node V) → NodeType → Refusal → Type 0) (law : (p q : V) → same p q ≡ true → p ≡ q) where
  abbrev Sound : (ℕ → Node V) → List (Machine C V) → Type 0
  Sound h ms = Settled number same always h ms

  -- what a step leaves settled
  pub settled_next : (h : ℕ → Node V) (ms : List (Machine C V)) (s : Step C V) (d : Move V) (h' : ℕ → Node V) (ms' : List (Machine C V)) (o : Option (Machine C V)) → slice_get ms s.who ≡ o → Sound h ms → NextAt number same always most (why h) h ms o s d h' ms' → Sound h' ms'
  settled_next h ms s d h' ms' None e x n =
      let P : (ℕ → Node V) → Type 0 = λ y. Sound y ms' in
      let Q : List (Machine C V) → Type 0 = λ y. Sound h y in subst P (sym n.1) (subst Q (sym n.2) x)
  settled_next h ms s d h' ms' (Some m) e x n =
      let z = step_leaves number same always most (why h) h ms s.who s.noise.fail s.noise.answer m n.0 h' d x.0 x.1 e n.1 (stepped_keeps number same always most (why h) law m h s.noise.fail s.noise.answer n.0 h' d n.1) in
      let Q : List (Machine C V) → Type 0 = λ y. Sound h' y in subst Q (sym n.3) (z.0, z.1, (z.2 x.2).0)

  -- a call in flight, which nobody has disturbed, with n steps left at most
  record Alone (h : ℕ → Node V) (ms : List (Machine C V)) (who : ℕ) (kind : Kind V) (asked : Bool) (n : ℕ) : Type 0 where
    pub machine : Machine C V
    pub here : slice_get ms who ≡ Some machine
    pub kind_is : machine.kind ≡ kind
    pub unlocked : NoOtherLocks number who ms
    pub undisturbed : IsUndisturbed number h machine.phase
    pub shown : Shows machine.phase asked
    pub goes : IsPast machine.phase → ⊥
    pub left : steps_left number h machine.phase ≤ n

  -- the locks of the others stay theirs
  unlocked_set : (who : ℕ) (ms : List (Machine C V)) (m : Machine C V) → NoOtherLocks number who ms → NoOtherLocks number who (set ms who m)
  unlocked_set who ms m free j n k ne at locked = elim (get_set ms who j m k at) [
    | inl x ↦ absurd (ne x.0)
    | inr x ↦ free j n k ne x.1 locked
  ]

  -- its own step
  own_step : (h : ℕ → Node V) (ms : List (Machine C V)) (s : Step C V) (d : Move V) (h' : ℕ → Node V) (ms' : List (Machine C V)) (kind : Kind V) (asked : Bool) (n : ℕ) → Sound h ms → (x : Alone h ms s.who kind asked n) → NextAt number same always most (why h) h ms (Some x.machine) s d h' ms'
      → s.noise.fail ≡ false → (asked ≡ true → IsAnswer kind s.noise.answer) → goes_on d.outcome ≡ true → Alone h' ms' s.who kind (is_asked d.outcome) (n - 1) × (0 < n)
  own_step h ms s d h' ms' kind asked n z x e unfailed answers on =
      let m : Machine C V = x.machine in
      let m' : Machine C V = e.0 in
      let F : Bool → Type 0 = λ y. Stepped number same always most (why h) m h y s.noise.answer m' h' d in
      let K : Kind V → Type 0 = λ y. HasAnswer y m.phase s.noise.answer in
      let ask : HasAnswer m.kind m.phase s.noise.answer = subst K (sym x.kind_is) (answered kind m.phase asked s.noise.answer x.shown answers) in
      let near : Nearer number h' (steps_left number h m.phase) (record { phase = m'.phase; report = d })
      = near_on number same always z.0 h ms z.1 z.2 s.who m x.here x.unlocked most (why h) h' m' d s.noise.answer x.undisturbed ask x.goes (subst F unfailed e.1) in
      let l = x.left in
      let q = near.1 in
      let M : List (Machine C V) → Type 0 = λ y. Alone h' y s.who kind (is_asked d.outcome) (n - 1) in (
        subst M (sym e.3) (record {
          machine = m';
          here = set_here ms s.who m' m x.here;
          kind_is = e.1.kind ∙ x.kind_is;
          unlocked = unlocked_set s.who ms m' x.unlocked;
          undisturbed = near.0;
          shown = shows m'.phase d.outcome near.2;
          goes = not_past m'.phase d.outcome near.2 on;
          left = omega (arith, l, q);
        }),
        omega (arith, l, q),
      )

  next_own : (h : ℕ → Node V) (ms : List (Machine C V)) (t : Traced C V) (who : ℕ) (kind : Kind V) (asked : Bool) (n : ℕ) → Sound h ms → Alone h ms who kind asked n → NextAt number same always most (why h) h ms (slice_get ms t.step.who) t.step t.move t.nodes t.calls
      → IsNext who kind asked t → goes_on t.move.outcome ≡ true → Alone t.nodes t.calls who kind (is_asked t.move.outcome) (n - 1) × (0 < n)
  next_own h ms t who kind asked n z x e next on =
      let W : ℕ → Type 0 = λ y. Alone h ms y kind asked n in
      let R : ℕ → Type 0 = λ y. Alone t.nodes t.calls y kind (is_asked t.move.outcome) (n - 1) × (0 < n) in
      let y : Alone h ms t.step.who kind asked n = subst W (sym next.own) x in
      let P : Option (Machine C V) → Type 0 = λ o. NextAt number same always most (why h) h ms o t.step t.move t.nodes t.calls in
      subst R next.own (own_step h ms t.step t.move t.nodes t.calls kind asked n z y (subst P y.here e) next.unfailed next.answered on)

  -- as many as are left at most
  steps_end : (h : ℕ → Node V) (ms : List (Machine C V)) (ts : List (Traced C V)) (who : ℕ) (kind : Kind V) (asked : Bool) (n : ℕ) → Sound h ms → Alone h ms who kind asked n → AreTraced number same always most why h ms ts → AreNext who kind asked ts → AllGoOn ts → length ts ≤ n
  steps_end h ms [] who kind asked n z x e next on = omega arith
  steps_end h ms (t ∷ ts) who kind asked n z x e next on =
      let y = next_own h ms t who kind asked n z x e.0 next.0 on.0 in
      let r = steps_end t.nodes t.calls ts who kind (is_asked t.move.outcome) (n - 1) (settled_next h ms t.step t.move t.nodes t.calls (slice_get ms t.step.who) refl z e.0) y.0 e.1 next.1 on.1 in
      let l = y.1 in omega (arith, r, l)

  traced_front : (h : ℕ → Node V) (ms : List (Machine C V)) (n : ℕ) (ts : List (Traced C V)) → AreTraced number same always most why h ms ts → AreTraced number same always most why h ms (take n ts)
  traced_front h ms zero [] x = tt
  traced_front h ms zero (t ∷ ts) x = tt
  traced_front h ms (suc n) [] x = tt
  traced_front h ms (suc n) (t ∷ ts) x = (x.0, traced_front t.nodes t.calls n ts x.1)

  -- a number of steps, and fewer than those in which a call ends
  within : (h : ℕ → Node V) (o : Op V) (n k : ℕ) → n ≤ k → k ≤ steps_whole h o → n < steps_alone h o
  within h (op.Range start end size) n k l m = omega (arith, l, m)
  within h _ n k l m = omega (arith, l, m)

  ends_alone : (h : ℕ → Node V) (ms : List (Machine C V)) (ts : List (Traced C V)) → Sound h ms → AreTraced number same always most why h ms ts → EndsAlone number h ms ts
  ends_alone h ms ts z e who n root o at free next on =
      let x : Alone h ms who (parts o).1 false (steps_left number h (first_phase root o)) = record {
        machine = begun root o;
        here = at;
        kind_is = refl;
        unlocked = free;
        undisturbed = begins_on number h root o;
        shown = first_shows root o;
        goes = first_not_past root o;
        left = omega arith;
      } in
      let l = steps_end h ms (take n ts) who (parts o).1 false (steps_left number h (first_phase root o)) z x (traced_front h ms n ts e) next on in
      within h o (length (take n ts)) (steps_left number h (first_phase root o)) l (whole_left number z.0 h root o z.1.tree)

  -- at each step of a trace a call that begins and is left alone ends within so many steps
  pub all_end_alone : (h : ℕ → Node V) (ms : List (Machine C V)) (ts : List (Traced C V)) → Sound h ms → AreTraced number same always most why h ms ts → AllEndAlone number h ms ts
  all_end_alone h ms [] z e = tt
  all_end_alone h ms (t ∷ ts) z e = (ends_alone h ms (t ∷ ts) z e, all_end_alone t.nodes t.calls ts (settled_next h ms t.step t.move t.nodes t.calls (slice_get ms t.step.who) refl z e.0) e.1)

  -- so it does at each step of a trace from a new index
  pub fresh_end_alone : (h : ℕ → Node V) (ms : List (Machine C V)) (ts : List (Traced C V)) → Begins number h ms → FreshRoot h → AreTraced number same always most why h ms ts → AllEndAlone number h ms ts
  fresh_end_alone h ms ts b f e = all_end_alone h ms ts ((plays_none number same always most why h ms b).settled_fresh f) e
