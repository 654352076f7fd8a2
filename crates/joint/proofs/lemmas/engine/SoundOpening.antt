-- All is sound in the beginning.
use Rattle.std.proofs.Common.{◌≡◌, ◌<◌, arith, ℕ, Bool, true, List, [], ◌∷◌, refl, subst, inl, inr}
use Rattle.std.specs.Prelude.{Option, Some, is_some, slice_get}
use Rattle.crossbeam_epoch.specs.declared.names.Name.{Name}
use Rattle.crossbeam_epoch.specs.world.Machine.{State, place}
use Rattle.crossbeam_epoch.specs.world.Store.{value_at}
use Rattle.crossbeam_epoch.specs.world.Fits.{Fits, IsTable}
use Rattle.crossbeam_epoch.specs.world.Progress.{Orderly}
use Rattle.crossbeam_epoch.specs.world.Reach.{Act, Quiet, Marked, GivenBack, Moment, IsIn, moment}
use Rattle.congee.specs.declared.protocol.phase.Phase.{Phase}
use Rattle.congee.specs.declared.protocol.phase.Phase.TheVariants.{Ended}
use Rattle.congee.specs.declared.protocol.machine.Machine.{Machine}
use Rattle.congee.specs.Heap.{Node}
use Rattle.congee.specs.protocol.Handing.{InTree}
use Rattle.congee.specs.Notes.{Linked}
use Rattle.congee.specs.protocol.Holdings.{MadeBy}
use Rattle.congee.specs.protocol.Play.{Settled}
use Rattle.joint.specs.Names.{number}
use Rattle.joint.specs.nodes.Heap.{IsView, heap_of}
use Rattle.joint.specs.nodes.Ties.{Rooted}
use Rattle.joint.specs.engine.Laws.{CellLaws, CallLaws}
use Rattle.joint.specs.engine.Sound.{Sound}
use Rattle.joint.proofs.lemmas.nodes.Views.{heap_ties}
use Rattle.joint.proofs.lemmas.nodes.Paths.{in_tree}
use Rattle.joint.proofs.lemmas.engine.NamesInStretch.{ended_guards, no_names}

abbrev is_quiet : Act → Type 0
is_quiet Quiet = Unit {0}
is_quiet (Marked k) = Unit {0}
is_quiet (GivenBack n) = ⊥

module _ {T J C V : Type 0} (tnames : T → List Name) (view : Bool → Option T → Node V) (ok : IsView tnames view) (num : C → ℕ) (same : V → V → Bool) (always : Bool) (cells : CellLaws J tnames) (calls : CallLaws {C = C} num same always) (top : Name)
    (s : State T J) (ms : List (Machine C V)) (orderly : Orderly s) (rooted : Rooted s.roots top) (settled : Settled num same always (heap_of view s.store) ms)
    (fits : Fits [] s) (table : IsTable s.limits.participants s.table) (next : s.next ≡ 0) (over : (i : ℕ) (m : Machine C V) → slice_get ms i ≡ Some m → m.phase ≡ Ended) where
  abbrev now : Moment
  now = moment tnames Quiet s

  in_live : (n : Name) → IsIn now n → is_some (value_at s.store n) ≡ true
  in_live n r =
      let p : InTree (heap_of view s.store) (number n) = in_tree tnames s.store (heap_of view s.store) s.roots top (heap_ties tnames view ok s.store) rooted r in
      let l : (settled.0 (number n)).status ≡ Linked = calls.leads settled.0 (heap_of view s.store) settled.1.tree p.0 0 (number n) settled.1.tree.root p.1 in
      (heap_ties tnames view ok s.store).live n ((settled.1.words.each (number n)).stands (rw l refl))

  -- with no call under way and nothing deferred, tree, calls and history are sound
  pub opened : Sound tnames view num same always top (now ∷ []) s ms
  opened = record {
    orderly = orderly;
    rooted = rooted;
    settled = settled;
    tells = record {
      fits = fits;
      now = (refl, λ n. refl, λ n. refl);
      ends = tt;
      table = table;
      given = λ n w. elim w [ inl l ↦ cells.live_given s.store n l | inr x ↦ absurd x ];
    };
    careful = record {
      leaves = (λ t n w i. w, tt);
      enters = in_live;
      gives = (λ n e w. subst is_quiet e tt, tt);
    };
    deferred = λ t n w l. absurd w;
    left = λ t n w. absurd w;
    named = λ t l. absurd (let bad : t < s.next = l in omega (arith, next, bad));
    once = λ t u n w x. absurd w;
    unseen = λ i m n at made w. (let P : Phase C V → Type 0 = λ ph. MadeBy num ph (number n) in subst P (over i m at) made);
    seen = λ i m n at c. absurd (no_names num m (number n) (over i m at) c);
    guarded = λ i m at. ended_guards (place s i) m (orderly.bags i) (over i m at);
  }
