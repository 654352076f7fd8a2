-- A step of a call that is taken alone brings it nearer to its end.
use Rattle.std.proofs.Common.{◌≤◌, arith, ◌≡◌, ℕ, Bool, true, false, List, refl, sym, ◌∙◌, subst, inl, inr}
use Rattle.std.specs.Prelude.{Option, Some, slice_get}
use Rattle.std.proofs.lemmas.Bool.{cases_eq}
use Rattle.congee.specs.declared.forms.base_node.NodeType.{NodeType}
use Rattle.congee.specs.declared.protocol.store.Refusal.{Refusal}
use Rattle.congee.specs.declared.protocol.op.Op.{Op}
use Rattle.congee.specs.declared.protocol.op.Op.TheVariants as op
use Rattle.congee.specs.declared.protocol.phase.Kind.{Kind}
use Rattle.congee.specs.declared.protocol.phase.Phase.{Phase}
use Rattle.congee.specs.declared.protocol.phase.Phase.TheVariants.{Scan, Ended}
use Rattle.congee.specs.declared.protocol.next_phase.NextPhase.{NextPhase}
use Rattle.congee.specs.declared.protocol.machine.Machine.{Machine}
use Rattle.congee.specs.declared.protocol.machine.Move.{Move}
use Rattle.congee.specs.Heap.{Node, is_free}
use Rattle.congee.specs.Notes.{Note, Linked, Tree}
use Rattle.congee.specs.protocol.Holdings.{LockedBy, Holdings}
use Rattle.congee.specs.Keys.{key_bytes}
use Rattle.congee.specs.protocol.Play.{first_phase, EachKnown, ProtocolAt}
use Rattle.congee.specs.protocol.Protocol.{Known}
use Rattle.congee.specs.protocol.Steps.{after_scan, PhaseStepped, Stepped}
use Rattle.congee.specs.protocol.Alone.{NoOtherLocks, IsUndisturbed, HasAnswer, IsPast, StepsOn, steps_left, steps_whole}
use Rattle.congee.proofs.lemmas.Graft.{on_test}
use Rattle.congee.proofs.lemmas.protocol.AlonePoints.{Nearer, near_to, points_on}
use Rattle.congee.proofs.lemmas.protocol.AloneScans.{scans_on, under_counts}

module _ {C V : Type 0} (number : C → ℕ) (same : V → V → Bool) (always : Bool) (a : ℕ → Note) (h : ℕ → Node V) (ms : List (Machine C V)) (p : ProtocolAt number same always a h ms) (o : Holdings number a h ms)
    (i : ℕ) (m : Machine C V) (here : slice_get ms i ≡ Some m) (others : NoOtherLocks number i ms) where
  free_if : (n : ℕ) → (h n).locked ≡ false → (h n).obsolete ≡ false → is_free (h n) ≡ true
  free_if n l b = rw (l, b) refl

  -- a node of the tree is free, where the call holds no lock
  pub free_now : ((n : ℕ) → LockedBy number m.phase n → ⊥) → (n : ℕ) → (a n).status ≡ Linked → is_free (h n) ≡ true
  free_now none n l = free_if n (on_test (h n).locked (λ e. absurd (held (o.locked n l e))) (λ e. e)) ((p.words.each n).live l)
    where
      held : (j : ℕ) × ((a n).owner ≡ Some j) → ⊥
      held x =
          let y : (k : Machine C V) × (slice_get ms x.0 ≡ Some k) × LockedBy number k.phase n = o.owned n x.0 x.1 in
          elim (cases_eq x.0 i) [
            | inl e ↦ (
                let q : slice_get ms i ≡ Some y.0 = subst (λ j. slice_get ms j ≡ Some y.0) e y.1 in
                let r : Some y.0 ≡ Some m = sym q ∙ here in
                let s : y.0 ≡ m = cc in
                none n (subst (λ (k : Machine C V). LockedBy number k.phase n) s y.2))
            | inr e ↦ others x.0 n y.0 e y.1 y.2
          ]

  -- the step of a phase
  phase_on : (most : ℕ) (why : NodeType → Refusal → Type 0) (root : C) (z : number root ≡ 0) (k : ℕ) (kind : Kind V) (new : Option V) (s : Phase C V) (h' : ℕ → Node V) (new' : Option V) (t : NextPhase C V) (answer : Option (Option V))
      → Known number same always i a h k (key_bytes k) kind new s → IsUndisturbed number h s → (((n : ℕ) → LockedBy number s n → ⊥) → (n : ℕ) → (a n).status ≡ Linked → is_free (h n) ≡ true) → HasAnswer kind s answer → (IsPast s → ⊥)
      → PhaseStepped number same always most why root (key_bytes k) kind false answer new s h new' t h' → Nearer number h' (steps_left number h s) t
  phase_on most why root z k kind new (Scan x) h' new' t answer known u free ask ne g =
      let e = scans_on number always a h p.tree p.words root z (free (λ n y. y)) x x.stage (g.2.0, g.2.1) known u.0 u.1 ne g.2.2 in
      let P : (ℕ → Node V) → Type 0 = λ y. Nearer number y (steps_left number h (Scan x)) t in
      subst P (sym g.0) (near_to number h (steps_left number h (Scan x)) (after_scan g.2.0 g.2.1) t g.2.3 e)
  phase_on most why root z k kind new Ended h' new' t answer known u free ask ne g = absurd (ne tt)
  phase_on most why root z k kind new s h' new' t answer known u free ask ne g = points_on number same always most why i a h h' p.tree p.words k root z kind new s answer new' t known u free ask tt g

  -- where no other call holds a lock, an undisturbed call has fewer steps left after a step, and tells its end
  pub near_on : (most : ℕ) (why : NodeType → Refusal → Type 0) (h' : ℕ → Node V) (m' : Machine C V) (d : Move V) (answer : Option (Option V)) → IsUndisturbed number h m.phase → HasAnswer m.kind m.phase answer → (IsPast m.phase → ⊥)
      → Stepped number same always most why m h false answer m' h' d → Nearer number h' (steps_left number h m.phase) (record { phase = m'.phase; report = d })
  near_on most why h' m' d answer u ask ne g =
      let k : EachKnown number same always a h i m = p.each i m here in
      phase_on most why m.root k.root m.key m.kind m.given m.phase h' m'.given (record { phase = m'.phase; report = d }) answer k.known u free_now ask ne g.step

  -- where no other call holds a lock, an undisturbed call is so after a step, with fewer steps left
  pub step_on : (most : ℕ) (why : NodeType → Refusal → Type 0) (h' : ℕ → Node V) (m' : Machine C V) (d : Move V) (answer : Option (Option V)) → IsUndisturbed number h m.phase → HasAnswer m.kind m.phase answer → (IsPast m.phase → ⊥)
      → Stepped number same always most why m h false answer m' h' d → StepsOn number h m.phase h' m'.phase
  step_on most why h' m' d answer u ask ne g = let x = near_on most why h' m' d answer u ask ne g in record { undisturbed = x.0; nearer = x.1 }

-- how many steps a call has after its begin
pub whole_left : {C V : Type 0} (number : C → ℕ) (a : ℕ → Note) (h : ℕ → Node V) (root : C) (o : Op V) → Tree a h → steps_left number h (first_phase root o) ≤ steps_whole h o
whole_left number a h root (op.Range start end size) tr = let e = under_counts a h tr 8 0 tr.root (omega arith) in omega (arith, e)
whole_left number a h root (op.RangeInclusive start last size) tr = let e = under_counts a h tr 8 0 tr.root (omega arith) in omega (arith, e)
whole_left number a h root _ tr = omega arith

-- nothing is relied on before the first step
pub begins_on : {C V : Type 0} (number : C → ℕ) (h : ℕ → Node V) (root : C) (o : Op V) → IsUndisturbed number h (first_phase root o)
begins_on number h root (op.Get k) = (tt, tt)
begins_on number h root _ = (tt, tt)
