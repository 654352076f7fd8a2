-- What the collector has in reach is in the tree, and wasn't put off.
use Rattle.std.proofs.Common.{◌≡◌, ℕ, Bool, true, false, List, refl}
use Rattle.std.specs.Prelude.{Option}
use Rattle.crossbeam_epoch.specs.declared.names.Name.{Name}
use Rattle.crossbeam_epoch.specs.world.Machine.{State}
use Rattle.crossbeam_epoch.specs.world.History.{WasDeferred}
use Rattle.crossbeam_epoch.specs.world.Reach.{Moment, marks_of}
use Rattle.congee.specs.declared.protocol.machine.Machine.{Machine}
use Rattle.congee.specs.Heap.{Node, Stands}
use Rattle.congee.specs.protocol.Handing.{InTree}
use Rattle.congee.specs.Notes.{Linked}
use Rattle.joint.specs.Names.{number}
use Rattle.joint.specs.nodes.Heap.{IsView, heap_of}
use Rattle.joint.specs.engine.Laws.{CallLaws}
use Rattle.joint.specs.engine.Sound.{Sound}
use Rattle.joint.proofs.lemmas.nodes.Views.{heap_ties}
use Rattle.joint.proofs.lemmas.nodes.Paths.{in_tree}
use Rattle.joint.proofs.lemmas.engine.ReachMoments.{Reaches}

module _ {T J C V : Type 0} (tnames : T → List Name) (view : Bool → Option T → Node V) (ok : IsView tnames view) (num : C → ℕ) (same : V → V → Bool) (always : Bool) (calls : CallLaws {C = C} num same always) (top : Name)
    (past : List Moment) (s : State T J) (ms : List (Machine C V)) (sound : Sound tnames view num same always top past s ms) where
  -- what is in reach is in the tree
  pub in_it : (n : Name) → Reaches tnames s n → (sound.settled.0 (number n)).status ≡ Linked
  in_it n r =
      let i : InTree (heap_of view s.store) (number n) = in_tree tnames s.store (heap_of view s.store) s.roots top (heap_ties tnames view ok s.store) sound.rooted r in
      calls.leads sound.settled.0 (heap_of view s.store) sound.settled.1.tree i.0 0 (number n) sound.settled.1.tree.root i.1

  -- what was put off isn't
  pub never : (t : ℕ) (n : Name) → WasDeferred (marks_of past) t n → Reaches tnames s n → ⊥
  never t n d r =
      let l : (sound.settled.0 (number n)).status ≡ Linked = in_it n r in
      let u : (heap_of view s.store (number n)).retired ≡ false = (sound.settled.1.words.each (number n)).unretired l in
      let st : Stands (heap_of view s.store (number n)) = (sound.settled.1.words.each (number n)).stands (rw l refl) in
      let y : (heap_of view s.store (number n)).retired ≡ true = sound.deferred t n d ((heap_ties tnames view ok s.store).live n st) in
      cc
