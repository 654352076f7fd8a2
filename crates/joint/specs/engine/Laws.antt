-- What the laws of the collector and of the calls on a tree say, as far as the machine of both rests on them.
use Rattle.std.specs.Prelude.{◌≡◌, ◌≢◌, ℕ, ◌<◌, ◌≤◌, length, ◌⊎◌, Bool, true, false, List, ◌∷◌, Option, None, Some, is_some, slice_get}
use Rattle.std.specs.List.{Contains}
use Rattle.std.proofs.Math.ListN.{set}
use Rattle.crossbeam_epoch.specs.Limits.{bag_places}
use Rattle.crossbeam_epoch.specs.declared.bag.Deferral.{Deferral}
use Rattle.crossbeam_epoch.specs.declared.bag.Work.{Work}
use Rattle.crossbeam_epoch.specs.declared.limits.Limits.{Limits}
use Rattle.crossbeam_epoch.specs.declared.names.Name.{Name}
use Rattle.crossbeam_epoch.specs.declared.names.Ptr.{Ptr}
use Rattle.crossbeam_epoch.specs.declared.world.report.Event.{Event}
use Rattle.crossbeam_epoch.specs.declared.world.report.Event.TheVariants as collector_event
use Rattle.crossbeam_epoch.specs.declared.world.participant.Phase.TheVariants as collector_phase
use Rattle.crossbeam_epoch.specs.declared.world.report.Op.{Op}
use Rattle.crossbeam_epoch.specs.declared.world.report.Report.{Report}
use Rattle.crossbeam_epoch.specs.world.Fits.{Fits, weight}
use Rattle.crossbeam_epoch.specs.world.History.{Mark, AreCalledLater, WasDeferred, began}
use Rattle.crossbeam_epoch.specs.world.Machine.{State, place, deferred, opened, registered, with_roots, with_store}
use Rattle.crossbeam_epoch.specs.world.Progress.{Orderly, Moves, Begins, GoesOn, IsOn, KeepsCalls as Holds}
use Rattle.crossbeam_epoch.specs.world.Sealing.{IsSealing}
use Rattle.crossbeam_epoch.specs.world.Reach.{Act, Moment, with_act, marks_of, step_act, changes_pin, IsBy, IsDestruction, InReach, IsIn, WasIn, WasLive, Visible, EntersLive, DestructionsTold, IsCareful, IsNow, HasMoments, links_of}
use Rattle.crossbeam_epoch.specs.world.Steps.{IsReport, after}
use Rattle.crossbeam_epoch.specs.world.Store.{Store, Sets, value_at, was_given, emptied}
use Rattle.congee.specs.declared.forms.base_node.NodeType.{NodeType}
use Rattle.congee.specs.declared.protocol.machine.Machine.{Machine}
use Rattle.congee.specs.declared.protocol.machine.Move.{Move}
use Rattle.congee.specs.declared.protocol.op.Op.{Op as Point}
use Rattle.congee.specs.declared.protocol.phase.Kind.{Kind}
use Rattle.congee.specs.declared.protocol.phase.Phase.{Phase}
use Rattle.congee.specs.declared.protocol.phase.Phase.TheVariants.{Ended}
use Rattle.congee.specs.declared.protocol.store.Refusal.{Refusal}
use Rattle.congee.specs.declared.protocol.store.Refusal.TheVariants.{Exhausted}
use Rattle.congee.specs.declared.protocol.store.Seen.{Seen}
use Rattle.congee.specs.protocol.Alike.{Ordered, HeapAlike, CallAlike, IsUnrefused, Longer, MovedAlike, SparedAlike}
use Rattle.congee.specs.protocol.Alone.{NoOtherLocks, IsUndisturbed, HasAnswer, IsPast, StepsOn, steps_left, steps_whole}
use Rattle.congee.specs.protocol.Answers.{Keeps}
use Rattle.congee.specs.protocol.Bounds.{Within}
use Rattle.congee.specs.protocol.Destroys.{Destroys, Spares}
use Rattle.congee.specs.protocol.Filled.{KeepsFilled}
use Rattle.congee.specs.protocol.Handing.{Leads, InTree}
use Rattle.congee.specs.Heap.{Node}
use Rattle.congee.specs.protocol.Holdings.{Holdings, MadeBy}
use Rattle.congee.specs.Keys.{key_bytes}
use Rattle.congee.specs.protocol.Leaving.{StepLeaves}
use Rattle.congee.specs.Notes.{Note, Held, Linked, Tree}
use Rattle.congee.specs.protocol.Opening.{FreshRoot}
use Rattle.congee.specs.protocol.Play.{first_phase, IsNew, IsIdle, ProtocolAt, Settled, begun}
use Rattle.congee.specs.protocol.PlainSteps.{Mark as Unnamed, plain_step}
use Rattle.congee.specs.protocol.Protocol.{Known}
use Rattle.congee.specs.protocol.Steps.{Stepped}

-- of a collector whose cells hold these names
pub record CellLaws {T : Type 0} (J : Type 0) (names : T → List Name) : Type 0 where
  -- what a stretch saw in reach stands
  pub stands : (h : List Moment) (s : State T J) (p : ℕ) (n : Name) → HasMoments names h s → IsCareful h → is_some (began (marks_of h) p) ≡ true → Visible h p n → is_some (value_at s.store n) ≡ true
  -- what a step marks
  pub step_by : (s : State T J) (who : ℕ) (event : Event) (r : Report) → IsBy who (step_act s who event r)
  pub turns_apart : (who p : ℕ) (act : Act) → IsBy who act → p ≢ who → changes_pin act p ≡ false
  pub began_same : (h : List Mark) (p : ℕ) (act : Act) → changes_pin act p ≡ false → began (with_act act h) p ≡ began h p
  pub deferred_before : (h : List Mark) (who t : ℕ) (n : Name) (act : Act) → IsBy who act → WasDeferred (with_act act h) t n → WasDeferred h t n
  pub called_one : (h : List Mark) (who : ℕ) (n : Name) (act : Act) → IsBy who act → IsDestruction act n → AreCalledLater (with_act act h) → (t : ℕ) × WasDeferred h t n
  -- what is left where the cells change
  pub fits_stored : (h : List Mark) (s : State T J) (st : Store T) → Fits h s → Fits h (with_store s st)
  pub emptied_sets : (st : Store T) (n : Name) → is_some (value_at st n) ≡ true → Sets st n None (emptied st n.cell)
  pub live_given : (st : Store T) (n : Name) → is_some (value_at st n) ≡ true → was_given st n ≡ true
  -- what is in reach now, and what was
  pub seen_now : (h : List Moment) (s : State T J) (p : ℕ) (n : Name) → IsNow names h s → InReach s.roots (links_of names s.store) n → Visible h p n
  pub newest_in : (m : Moment) (h : List Moment) (s : State T J) (n : Name) → IsNow names (m ∷ h) s → InReach s.roots (links_of names s.store) n → IsIn m n
  pub visible_was : (h : List Moment) (p : ℕ) (n : Name) → Visible h p n → WasIn h n
  pub fewer_reach : (roots : List Ptr) (links less : Name → List Name) (n : Name) → ((c m : Name) → Contains (less c) m → Contains (links c) m) → InReach roots less n → InReach roots links n
  pub enters_next : (m : Moment) (h : List Moment) (s : State T J) → IsNow names h s → ((n : Name) → IsIn m n → (m.live n ≡ true) ⊎ InReach s.roots (links_of names s.store) n) → EntersLive h → EntersLive (m ∷ h)
  pub ended_by : (m : Moment) (h : List Moment) (s : State T J) (n : Name) → IsNow names h s → DestructionsTold (m ∷ h) → is_some (value_at s.store n) ≡ true → m.live n ≡ false → IsDestruction m.act n
  pub was_live : (h : List Moment) (s : State T J) (n : Name) → IsNow names h s → is_some (value_at s.store n) ≡ true → WasLive h n
  -- what a step keeps
  pub deferred_orderly : (s : State T J) (who : ℕ) (work : Work J) → who < length s.table → length (place s who).bag < bag_places → Orderly s → Holds s (deferred s who work) (λ f. f (record { ticket = s.next; work = work }))
  pub registered_orderly : (s : State T J) (n : ℕ) → n < length s.table → Orderly s → Orderly (registered s n)
  pub moves : (s : State T J) (who : ℕ) (event : Event) (r : Report) → Orderly s → IsReport s who event r → Moves s who r.called (after s who event r.outcome)
  pub opened_jobs : (limits : Limits) (roots : ℕ) (f : Deferral J → ℕ) → weight f (opened {T = T} limits roots) ≡ 0
  pub registered_jobs : (s : State T J) (n : ℕ) → n < length s.table → Orderly s → Holds s (registered s n) (λ f. 0)
  -- no empty bag is queued, and no seal is past the epoch
  pub seals_opened : (limits : Limits) (roots : ℕ) → IsSealing {T = T} {J = J} (opened limits roots)
  pub seals_step : (h : List Mark) (s : State T J) (who : ℕ) (event : Event) (r : Report) → Fits h s → IsReport s who event r → IsSealing s → IsSealing (after s who event r.outcome)
  pub seals_registered : (s : State T J) (n : ℕ) → n < length s.table → IsSealing s → IsSealing (registered s n)
  pub seals_stored : (s : State T J) (st : Store T) (roots : List Ptr) → IsSealing s → IsSealing (with_roots (with_store s st) roots)

-- of calls on a tree whose nodes have these numbers
pub record CallLaws {C V : Type 0} (number : C → ℕ) (same : V → V → Bool) (always : Bool) : Type 0 where
  pub opens : (h : ℕ → Node V) (ms : List (Machine C V)) → FreshRoot h → ((i : ℕ) (m : Machine C V) → slice_get ms i ≡ Some m → IsIdle number m) → Settled number same always h ms
  pub begins : (h : ℕ → Node V) (ms : List (Machine C V)) (i : ℕ) (old new : Machine C V) → Settled number same always h ms → slice_get ms i ≡ Some old → old.phase ≡ Ended → IsNew new → number new.root ≡ 0 → Settled number same always h (set ms i new)
  pub spares : (h : ℕ → Node V) (ms : List (Machine C V)) → Spares number same always h ms
  pub within : (most : ℕ) (h : ℕ → Node V) (ms : List (Machine C V)) (h' : ℕ → Node V) → Destroys number h ms h' → Within most h → Within most h'
  pub held : (i : ℕ) (a : ℕ → Note) (h : ℕ → Node V) (k : ℕ) (kind : Kind V) (given : Option V) (n : ℕ) (s : Phase C V) → Known number same always i a h k (key_bytes k) kind given s → MadeBy number s n → (a n).status ≡ Held i
  pub linked : (a : ℕ → Note) (h : ℕ → Node V) (n : ℕ) → Tree a h → (a n).status ≡ Linked → InTree h n
  pub leads : (a : ℕ → Note) (h : ℕ → Node V) → Tree a h → (path : List ℕ) (n c : ℕ) → (a n).status ≡ Linked → Leads h n path c → (a c).status ≡ Linked
  pub either : (ms : List (Machine C V)) (i j : ℕ) (x y : Machine C V) → slice_get (set ms i x) j ≡ Some y → ((j ≡ i) × (x ≡ y)) ⊎ ((j ≢ i) × (slice_get ms j ≡ Some y))

-- of one step, over a store with this limit of versions and these causes of refusals
abbrev pub LeavesLaw : {C V : Type 0} → (C → ℕ) → (V → V → Bool) → Bool → ℕ → (NodeType → Refusal → Type 0) → Type 0
LeavesLaw {C} {V} number same always most why = (i : ℕ) (a : ℕ → Note) (h h' : ℕ → Node V) (ms : List (Machine C V)) (m m' : Machine C V) (d : Move V) (fail : Bool) (answer : Option (Option V))
    → ProtocolAt number same always a h ms → Holdings number a h ms → slice_get ms i ≡ Some m → (k : Keeps number same always i a m h m' h' d) → Stepped number same always most why m h fail answer m' h' d
    → StepLeaves number i a k.notes h h' m m'

-- of one step of a call that is taken alone
abbrev pub AloneLaw : {C V : Type 0} → (C → ℕ) → (V → V → Bool) → Bool → ℕ → (NodeType → Refusal → Type 0) → Type 0
AloneLaw {C} {V} number same always most why = (i : ℕ) (a : ℕ → Note) (h h' : ℕ → Node V) (ms : List (Machine C V)) (m m' : Machine C V) (d : Move V) (answer : Option (Option V))
    → ProtocolAt number same always a h ms → Holdings number a h ms → slice_get ms i ≡ Some m → NoOtherLocks number i ms → IsUndisturbed number h m.phase → HasAnswer m.kind m.phase answer → (IsPast m.phase → ⊥)
    → Stepped number same always most why m h false answer m' h' d → StepsOn number h m.phase h' m'.phase

-- and of a whole one after its begin
abbrev pub WholeLaw : {C : Type 0} → (V : Type 0) → (C → ℕ) → Type 0
WholeLaw {C} V number = (a : ℕ → Note) (h : ℕ → Node V) (root : C) (o : Point V) → Tree a h → steps_left number h (first_phase root o) ≤ steps_whole h o

-- of nodes that are filled
pub record FilledLaws {C V : Type 0} (number : C → ℕ) (same : V → V → Bool) (always : Bool) : Type 0 where
  pub opens : (h : ℕ → Node V) (ms : List (Machine C V)) → FreshRoot h → ((i : ℕ) (m : Machine C V) → slice_get ms i ≡ Some m → IsIdle number m) → KeepsFilled true number h ms
  pub spared : (a : ℕ → Note) (h h' : ℕ → Node V) (ms : List (Machine C V)) → ProtocolAt number same always a h ms → Holdings number a h ms → Destroys number h ms h' → KeepsFilled true number h ms → KeepsFilled true number h' ms

-- and of one step, which has the nodes that it wants
abbrev pub FillingLaw : {C V : Type 0} → (C → ℕ) → (V → V → Bool) → Bool → ℕ → (NodeType → Refusal → Type 0) → Type 0
FillingLaw {C} {V} number same always most why = (i : ℕ) (a : ℕ → Note) (h h' : ℕ → Node V) (ms : List (Machine C V)) (m m' : Machine C V) (d : Move V) (fail : Bool) (answer : Option (Option V))
    → ProtocolAt number same always a h ms → slice_get ms i ≡ Some m → Keeps number same always i a m h m' h' d → Stepped number same always most why m h fail answer m' h' d → d.skipped ≡ false
    → KeepsFilled true number h ms → KeepsFilled true number h' (set ms i m')

-- of a collector's calls, from their begin to their end
pub record ProgressLaws (T J : Type 0) : Type 0 where
  pub begins : (s : State T J) (who : ℕ) (op : Op) (r : Report) → (place s who).phase ≡ collector_phase.Idle → IsReport s who (collector_event.Begin op) r → Begins s who op r.outcome (after s who (collector_event.Begin op) r.outcome)
  pub goes_on : (s : State T J) (who : ℕ) (op : Op) (r : Report) → Orderly s → IsOn op (place s who) → IsReport s who collector_event.Go r → GoesOn s who op r.outcome (after s who collector_event.Go r.outcome)

-- of calls on a tree, and of the same calls by numbers, over a store with this limit of versions and these causes of refusals
pub record NumberLaws {C V : Type 0} (number : C → ℕ) (same : V → V → Bool) (always : Bool) (most : ℕ) (why : NodeType → Refusal → Type 0) : Type 0 where
  pub steps : (seen : Option (Seen Unnamed V)) (i : ℕ) (a : ℕ → Note) (h g h' : ℕ → Node V) (ms : List (Machine C V)) (m m' : Machine C V) (d : Move V) (fail : Bool) (answer : Option (Option V)) (order : List ℕ) (q : Machine ℕ V) (k : ℕ)
      → ((form : NodeType) → why form Exhausted → ⊥) → ProtocolAt number same always a h ms → slice_get ms i ≡ Some m → Stepped number same always most why m h fail answer m' h' d → IsUnrefused d.outcome → d.skipped ≡ false → Ordered order h → HeapAlike order h g → k ≡ length order → CallAlike order number h m q
      → MovedAlike order number h' m' d q (plain_step same most q (record { fail = fail; seen = seen; answer = answer }) g k)
  pub others : (i j : ℕ) (a : ℕ → Note) (h h' : ℕ → Node V) (ms : List (Machine C V)) (m m' other : Machine C V) (d : Move V) (order order' : List ℕ) (q : Machine ℕ V)
      → ProtocolAt number same always a h ms → slice_get ms j ≡ Some other → j ≢ i → Keeps number same always i a m h m' h' d → Longer order order' → CallAlike order number h other q → CallAlike order' number h' other q
  pub spared : (order : List ℕ) (h h' : ℕ → Node V) (ms : List (Machine C V)) → Destroys number h ms h' → SparedAlike order number h ms h'
  pub begins : (order : List ℕ) (h : ℕ → Node V) (root : C) (n : ℕ) (op : Point V) → slice_get order n ≡ Some (number root) → CallAlike order number h (begun root op) (begun n op)
