-- Another call that has no names and has made nothing comes into a worker's place: tree, calls and history stay sound.
use Rattle.std.proofs.Common.{◌≡◌, ◌≢◌, ◌⊎◌, ◌<◌, arith, ℕ, Bool, List, [], sym, subst, inl, inr}
use Rattle.std.proofs.Math.ListN.{set}
use Rattle.std.specs.Prelude.{Option, Some, slice_get}
use Rattle.std.specs.List.{Contains}
use Rattle.crossbeam_epoch.specs.declared.names.Name.{Name}
use Rattle.crossbeam_epoch.specs.world.Machine.{State, place}
use Rattle.crossbeam_epoch.specs.world.Reach.{Moment}
use Rattle.congee.specs.declared.protocol.machine.Machine.{Machine}
use Rattle.congee.specs.Heap.{Node}
use Rattle.congee.specs.protocol.Holdings.{MadeBy}
use Rattle.congee.specs.protocol.Names.{names}
use Rattle.congee.specs.protocol.Play.{Settled}
use Rattle.joint.specs.Names.{number}
use Rattle.joint.specs.nodes.Heap.{heap_of}
use Rattle.joint.specs.engine.Sound.{Guards, Sound}

module _ {T J C V : Type 0} (tnames : T → List Name) (view : Bool → Option T → Node V) (num : C → ℕ) (same : V → V → Bool) (always : Bool) (either : (ms : List (Machine C V)) (i j : ℕ) (x y : Machine C V) → slice_get (set ms i x) j ≡ Some y → ((j ≡ i) × (x ≡ y)) ⊎ ((j ≢ i) × (slice_get ms j ≡ Some y))) (top : Name)
    (past : List Moment) (s : State T J) (ms : List (Machine C V)) (sound : Sound tnames view num same always top past s ms)
    (i : ℕ) (m : Machine C V) (now : Settled num same always (heap_of view s.store) (set ms i m)) (names_none : names num m.phase ≡ []) (no_made : (k : ℕ) → MadeBy num m.phase k → ⊥) (guards : Guards (place s i) m) where
  no_names : (k : ℕ) → Contains (names num m.phase) k → ⊥
  no_names k c =
      let P : List ℕ → Type 0 = λ ns. Contains ns k in
      let z : Contains [] k = subst P names_none c in
      let bad : z.0 < 0 = z.1 in omega (arith, bad)

  at_new : (x : Machine C V) (L : Machine C V → Type 0) → m ≡ x → (L m → ⊥) → L x → ⊥
  at_new x L e none l = none (subst L (sym e) l)

  -- tree, calls and history are sound with that call in the worker's place
  pub begun : Sound tnames view num same always top past s (set ms i m)
  begun = record {
    orderly = sound.orderly;
    rooted = sound.rooted;
    settled = now;
    tells = sound.tells;
    careful = sound.careful;
    deferred = sound.deferred;
    left = sound.left;
    named = sound.named;
    once = sound.once;
    unseen = λ j x n got made w. elim (either ms i j m x got) [
      | inl e ↦ at_new x (λ y. MadeBy num y.phase (number n)) e.1 (no_made (number n)) made
      | inr apart ↦ sound.unseen j x n apart.1 made w
    ];
    seen = λ j x n got c. elim (either ms i j m x got) [
      | inl e ↦ absurd (at_new x (λ y. Contains (names num y.phase) (number n)) e.1 (no_names (number n)) c)
      | inr apart ↦ sound.seen j x n apart.1 c
    ];
    guarded = λ j x got. elim (either ms i j m x got) [
      | inl e ↦ (
          let P : Machine C V → Type 0 = λ y. Guards (place s i) y in
          let Q : ℕ → Type 0 = λ k. Guards (place s k) x in
          subst Q (sym e.0) (subst P e.1 guards))
      | inr apart ↦ sound.guarded j x apart.1
    ];
  }
