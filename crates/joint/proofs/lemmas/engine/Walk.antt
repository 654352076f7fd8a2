-- A whole step of a call on the tree, with the deferral of the node that it marks.
use Rattle.std.proofs.Common.{◌≡◌, ℕ, Bool, List, [], ◌++◌, append-nil, sym, ◌∙◌, ap, subst, arith}
use Rattle.std.specs.Prelude.{Option, None, Some, length, take, drop, slice_get}
use Rattle.std.proofs.lemmas.List.{take_all, drop_all}
use Rattle.crossbeam_epoch.specs.declared.bag.Work.TheVariants.{Remove}
use Rattle.crossbeam_epoch.specs.world.Machine.{deferred, with_store}
use Rattle.crossbeam_epoch.specs.world.Store.{Store}
use Rattle.congee.specs.declared.protocol.run.Step.{Step}
use Rattle.congee.specs.declared.protocol.machine.Machine.{Machine}
use Rattle.congee.specs.declared.protocol.machine.Move.{Move}
use Rattle.congee.specs.protocol.Play.{StepPlays}
use Rattle.joint.specs.declared.id.Id.{Id}
use Rattle.joint.specs.declared.nodes.slot.Slot.{Slot}
use Rattle.joint.specs.nodes.Nodes.{Nodes, nodes, frame, Refuses, IsBeside, with_collector}
use Rattle.joint.specs.engine.Laws.{CellLaws}
use Rattle.joint.specs.engine.Safety.{IsSafe, Owes, IsSafeOrOwes, retiring_at, after_walk, Walked}
use Rattle.joint.specs.nodes.Slots.{slot_names}
use Rattle.joint.specs.nodes.View.{heap, id_number}
use Rattle.joint.proofs.lemmas.engine.Filing.{filed_walked, filed_handed}

-- a list of as many is written back whole
pub written : {A : Type 0} (n : ℕ) (old new : List A) → length old ≡ n → length new ≡ length old → take n (new ++ drop (length new) old) ≡ new
written n old new l e =
    let none : drop (length new) old ≡ [] = drop_all (length new) old (omega (arith, e)) in
    ap (λ xs. take n (new ++ xs)) none ∙ ap (take n) (append-nil new) ∙ take_all n new (omega (arith, l, e))

module _ {V : Type 0} (same : V → V → Bool) (always : Bool) (cells : CellLaws {T = Slot V} (Unit {0}) slot_names) (s s' : Nodes V) (ms ms' : List (Machine Id V)) (step : Step Id V) (d : Move V)
    (plays : StepPlays id_number same always s.version_max (Refuses s) (nodes s) ms step d (nodes s') ms') (fr : frame s' ≡ frame s) where
  beside : IsBeside s s'
  beside = record { base = ap (λ x. x.base) fr; limit = ap (λ x. x.limit) fr; versions = ap (λ x. x.version_max) fr }

  collector_is : s'.collector ≡ with_store s.collector s'.collector.store
  collector_is = ap (λ x. with_store x.collector s'.collector.store) fr

  -- no node is marked
  walked_none : retiring_at (slice_get ms step.who) ≡ None → IsSafeOrOwes same always (retiring_at (slice_get ms step.who)) s' ms' step.who → Walked same always s ms step d s' ms'
  walked_none e safe =
      let P : Option Id → Type 0 = λ x. IsSafeOrOwes same always x s' ms' step.who in
      let Q : Option Id → Type 0 = λ x. s'.collector ≡ after_walk x (with_store s.collector s'.collector.store) step.who in
      record { safe = subst P e safe; plays = plays; beside = beside; collector_is = subst Q (sym e) collector_is; filed = filed_walked cells same always s s' ms ms' step d plays collector_is e }

  owes_some : (n : Id) → retiring_at (slice_get ms step.who) ≡ Some n → IsSafeOrOwes same always (retiring_at (slice_get ms step.who)) s' ms' step.who → Owes same always s' ms' step.who n
  owes_some n e safe = let P : Option Id → Type 0 = λ x. IsSafeOrOwes same always x s' ms' step.who in subst P e safe

  -- one is, and is handed over
  walked_some : (n : Id) → retiring_at (slice_get ms step.who) ≡ Some n → (s2 : Nodes V) → s2 ≡ with_collector s' (deferred s'.collector step.who (Remove n.name)) → IsSafe same always s ms → Owes same always s' ms' step.who n → IsSafe same always s2 ms' → Walked same always s ms step d s2 ms'
  walked_some n e s2 is before owes safe =
      let store : s2.collector.store ≡ s'.collector.store = ap (λ x. x.collector.store) is in
      let P : Store (Slot V) → Type 0 = λ st. StepPlays id_number same always s.version_max (Refuses s) (nodes s) ms step d (heap st) ms' in
      let Q : Option Id → Type 0 = λ x. s2.collector ≡ after_walk x (with_store s.collector s2.collector.store) step.who in
      let here : s2.collector ≡ deferred (with_store s.collector s2.collector.store) step.who (Remove n.name) =
      ap (λ x. x.collector) is ∙ ap (λ c. deferred c step.who (Remove n.name)) collector_is ∙ ap (λ st. deferred (with_store s.collector st) step.who (Remove n.name)) (sym store) in
      record {
        safe = safe;
        plays = subst P (sym store) plays;
        beside = record { base = ap (λ x. x.base) is ∙ beside.base; limit = ap (λ x. x.limit) is ∙ beside.limit; versions = ap (λ x. x.version_max) is ∙ beside.versions };
        collector_is = subst Q (sym e) here;
        filed = filed_handed cells same always s s' ms ms' step d plays n e collector_is before owes s2 is;
      }

-- the same over the vector of the calls, as it is lent out and written back
module _ {V : Type 0} (same : V → V → Bool) (always : Bool) (cells : CellLaws {T = Slot V} (Unit {0}) slot_names) (s s' : Nodes V) (items lent read new : List (Machine Id V)) (n : ℕ) (step : Step Id V) (d : Move V)
    (value : lent ≡ items) (seen : read ≡ items) (len : length lent ≡ n) (long : length new ≡ length lent)
    (plays : StepPlays id_number same always s.version_max (Refuses s) (nodes s) lent step d (nodes s') new) (fr : frame s' ≡ frame s)
    (safe : IsSafeOrOwes same always (retiring_at (slice_get lent step.who)) s' new step.who) where
  abbrev back : List (Machine Id V)
  back = take n (new ++ drop (length new) items)

  whole : back ≡ new
  whole = written n items new (ap length (sym value) ∙ len) (long ∙ ap length value)

  played : StepPlays id_number same always s.version_max (Refuses s) (nodes s) items step d (nodes s') new
  played = let P : List (Machine Id V) → Type 0 = λ xs. StepPlays id_number same always s.version_max (Refuses s) (nodes s) xs step d (nodes s') new in subst P value plays

  safe_or : IsSafeOrOwes same always (retiring_at (slice_get items step.who)) s' new step.who
  safe_or = let P : List (Machine Id V) → Type 0 = λ xs. IsSafeOrOwes same always (retiring_at (slice_get xs step.who)) s' new step.who in subst P value safe

  at_items : (o : Option Id) → o ≡ retiring_at (slice_get read step.who) → retiring_at (slice_get items step.who) ≡ o
  at_items o e = sym (e ∙ ap (λ xs. retiring_at (slice_get xs step.who)) seen)

  -- where a node was marked, all is safe but for its deferral
  pub owed : (o : Id) → Some o ≡ retiring_at (slice_get read step.who) → Owes same always s' back step.who o
  owed o e = let P : List (Machine Id V) → Type 0 = λ xs. Owes same always s' xs step.who o in subst P (sym whole) (owes_some same always cells s s' items new step d played fr o (at_items (Some o) e) safe_or)

  -- where no node was marked, the call on the tree has taken its step
  pub walked : None ≡ retiring_at (slice_get read step.who) → Walked same always s items step d s' back
  walked e = let P : List (Machine Id V) → Type 0 = λ xs. Walked same always s items step d s' xs in subst P (sym whole) (walked_none same always cells s s' items new step d played fr (at_items None e) safe_or)

  -- where one was, it has taken it once that node's removal is deferred and all is safe
  pub walked_over : (o : Id) → Some o ≡ retiring_at (slice_get read step.who) → (s2 : Nodes V) (ms2 : List (Machine Id V)) → ms2 ≡ back → s2 ≡ with_collector s' (deferred s'.collector step.who (Remove o.name)) → IsSafe same always s items → IsSafe same always s2 ms2
      → Walked same always s items step d s2 ms2
  walked_over o e s2 ms2 same2 is before ok =
      let q : ms2 ≡ new = same2 ∙ whole in
      let P : List (Machine Id V) → Type 0 = λ xs. Walked same always s items step d s2 xs in
      let Q : List (Machine Id V) → Type 0 = λ xs. IsSafe same always s2 xs in
      subst P (sym q) (walked_some same always cells s s' items new step d played fr o (at_items (Some o) e) s2 is before (owes_some same always cells s s' items new step d played fr o (at_items (Some o) e) safe_or) (subst Q q ok))
