-- The removals that wait in the collector's bags, after each kind of step.
use Rattle.std.proofs.Common.{◌≡◌, ◌≢◌, ◌⊎◌, ◌+◌, ◌<◌, ◌≤◌, ◌&&◌, ℕ, arith, Bool, true, false, List, [], ◌∷◌, ◌++◌, length, refl, sym, ◌∙◌, ap, subst, inl, inr, get_or-set_same, get_or-set_other}
use Rattle.std.specs.Prelude.{Option, None, Some, is_some, not, slice_get, slice_set}
use Rattle.std.specs.List.{Contains}
use Rattle.std.proofs.lemmas.Bool.{cases_eq}
use Rattle.std.proofs.lemmas.Bool.Decides.{nat_tests}
use Rattle.crossbeam_epoch.specs.declared.bag.Deferral.{Deferral}
use Rattle.crossbeam_epoch.specs.declared.bag.Work.{Work}
use Rattle.crossbeam_epoch.specs.declared.bag.Work.TheVariants.{Blank, Remove, Run}
use Rattle.crossbeam_epoch.specs.declared.names.Name.{Name}
use Rattle.crossbeam_epoch.specs.declared.world.participant.Phase.TheVariants as collector_phase
use Rattle.crossbeam_epoch.specs.declared.world.report.Event.{Event}
use Rattle.crossbeam_epoch.specs.declared.world.report.Report.{Report}
use Rattle.crossbeam_epoch.specs.world.Fits.{Fits, weight}
use Rattle.crossbeam_epoch.specs.world.History.{Mark}
use Rattle.crossbeam_epoch.specs.world.Machine.{State, blank, place, name_of, after_work, deferred, opened, registered, with_store}
use Rattle.crossbeam_epoch.specs.world.Progress.{Orderly, JobsAfter, Moves}
use Rattle.crossbeam_epoch.specs.world.Sealing.{IsSealing, bit, is_name, counts_name}
use Rattle.crossbeam_epoch.specs.world.Steps.{IsReport, after}
use Rattle.crossbeam_epoch.specs.world.Store.{Store, value_at, was_given, emptied}
use Rattle.congee.specs.declared.protocol.machine.Machine.{Machine}
use Rattle.congee.specs.declared.protocol.machine.Move.{Move}
use Rattle.congee.specs.declared.protocol.phase.Phase.{Phase}
use Rattle.congee.specs.declared.protocol.phase.Phase.TheVariants.{Obsolete, Retire}
use Rattle.congee.specs.declared.protocol.run.Step.{Step}
use Rattle.congee.specs.Heap.{Node, Stands}
use Rattle.congee.specs.Keys.{key_bytes}
use Rattle.congee.specs.protocol.Events.{ObsoleteGives, RetireGives}
use Rattle.congee.specs.protocol.Handing.{is_handed_over, HandsNode}
use Rattle.congee.specs.protocol.Holdings.{TakenBy}
use Rattle.congee.specs.protocol.Play.{StepPlays, IsMoved}
use Rattle.congee.specs.protocol.Steps.{PhaseStepped}
use Rattle.congee.specs.protocol.State.{retiring}
use Rattle.congee.proofs.Laws.{taken_known}
use Rattle.joint.specs.declared.id.Id.{Id}
use Rattle.joint.specs.declared.limits.Limits.{Limits}
use Rattle.joint.specs.declared.nodes.slot.Slot.{Slot}
use Rattle.joint.specs.engine.Filed.{IsFiled, others, removes}
use Rattle.joint.specs.nodes.Nodes.{Nodes, nodes, Refuses, with_collector}
use Rattle.joint.specs.engine.Laws.{CellLaws}
use Rattle.joint.specs.engine.Safety.{IsSafe, Owes, retiring_at}
use Rattle.joint.specs.nodes.Slots.{slot_names}
use Rattle.joint.specs.NameLemmas.{same_name}
use Rattle.joint.specs.Names.{number}
use Rattle.joint.specs.nodes.Opening.{IsOpened, top_roots}
use Rattle.joint.specs.nodes.View.{view, heap, id_number}
use Rattle.joint.proofs.lemmas.engine.HandOver.{held_place}
use Rattle.joint.proofs.lemmas.engine.Retiring.{retiring_some}
use Rattle.joint.proofs.lemmas.nodes.SlotViews.{slot_view}
use Rattle.joint.proofs.lemmas.nodes.Views.{heap_of_number, heap_ties}

-- what waits for its destruction stands
waits_stands : {V : Type 0} (x : Node V) → is_handed_over x ≡ true → Stands x
waits_stands x e = by x.retired x.made x.destroyed refl refl e
  where
    by : (r m d : Bool) → x.made ≡ m → x.destroyed ≡ d → r && (m && not d) ≡ true → Stands x
    by true true false m d e = record { made = m; kept = d }
    by true true true m d e = absurd (cc e)
    by true false d' m d e = absurd (cc e)
    by false m' d' m d e = absurd (cc e)

unretired_waits_not : {V : Type 0} (x : Node V) → x.retired ≡ false → is_handed_over x ≡ true → ⊥
unretired_waits_not x r e = let q : false && (x.made && not x.destroyed) ≡ true = ap (λ b. b && (x.made && not x.destroyed)) (sym r) ∙ e in absurd (cc q)

-- two names that pass the test are the same
pub is_name_same : (m n : Name) → is_name m n ≡ true → m ≡ n
is_name_same m n e =
    let a : m.cell ≡ n.cell = grind (arith, nat_tests) in
    let b : m.turn ≡ n.turn = grind (arith, nat_tests) in
    let c : m ≡ record { cell = n.cell; turn = m.turn } = ap (λ (c : ℕ). record { cell = c; turn = m.turn }) a in
    c ∙ ap (λ (t : ℕ). record { cell = n.cell; turn = t }) b

-- a name passes the test for itself
pub is_name_itself : (n : Name) → is_name n n ≡ true
is_name_itself n = grind (arith, nat_tests)

bits : (b : Bool) (n : ℕ) → n ≡ bit b → 1 ≤ n → b ≡ true
bits true n e le = refl
bits false n e le = absurd (omega (arith, e, le))

by_both : (b c : Bool) → (b ≡ true → c ≡ true) → (c ≡ true → b ≡ true) → b ≡ c
by_both true true f g = refl
by_both true false f g = sym (f refl)
by_both false true f g = g refl
by_both false false f g = refl

not_true : (b : Bool) → (b ≡ true → ⊥) → b ≡ false
not_true true f = absurd (f refl)
not_true false f = refl

-- a node is read off its name's value
same_node : {V : Type 0} (st st' : Store (Slot V)) (n : Name) → value_at st' n ≡ value_at st n → was_given st' n ≡ was_given st n → heap st' (number n) ≡ heap st (number n)
same_node {V} st st' n v g =
    heap_of_number slot_names view slot_view st' n ∙ ap (λ (x : Option (Slot V)). view (was_given st' n) x) v ∙ ap (λ (b : Bool). view b (value_at st n)) g ∙ sym (heap_of_number slot_names view slot_view st n)

gone_node : {V : Type 0} (st : Store (Slot V)) (n : Name) → value_at st n ≡ None → is_handed_over (heap st (number n)) ≡ false
gone_node {V} st n v = ap is_handed_over (heap_of_number slot_names view slot_view st n ∙ ap (λ (x : Option (Slot V)). view (was_given st n) x) v)

module _ {V : Type 0} (cells : CellLaws {T = Slot V} (Unit {0}) slot_names) where
  live_of : (st : Store (Slot V)) (n : Name) → is_handed_over (heap st (number n)) ≡ true → is_some (value_at st n) ≡ true
  live_of st n e = (heap_ties slot_names view slot_view st).live n (waits_stands (heap st (number n)) e)

  -- a called job that is this name's removal leaves no such node, and every other leaves the node
  by_work : (n : Name) (before : ℕ) (st st' : Store (Slot V)) (w : Work (Unit {0})) → st' ≡ after_work st w → before ≡ bit (is_handed_over (heap st (number n)))
      → (after : ℕ) → after + counts_name (name_of w) n ≡ before → after ≡ bit (is_handed_over (heap st' (number n)))
  by_work n before st st' Blank e is after more = (let q : after ≡ before = omega (arith, more) in q) ∙ is ∙ ap (λ (x : Store (Slot V)). bit (is_handed_over (heap x (number n)))) (sym e)
  by_work n before st st' (Run job) e is after more = (let q : after ≡ before = omega (arith, more) in q) ∙ is ∙ ap (λ (x : Store (Slot V)). bit (is_handed_over (heap x (number n)))) (sym e)
  by_work n before st st' (Remove m) e is after more = by_name (is_name m n) refl
    where
      other_node : (m ≢ n) → (b : Bool) → is_some (value_at st m) ≡ b → heap st' (number n) ≡ heap st (number n)
      other_node ne false gone = let q : st' ≡ st = rw gone at e in ap (λ (x : Store (Slot V)). heap x (number n)) q
      other_node ne true live =
          let q : st' ≡ emptied st m.cell = rw live at e in
          let sets = cells.emptied_sets st m live in
          let apart : n ≢ m = λ x. ne (sym x) in
          same_node st st' n (ap (λ (x : Store (Slot V)). value_at x n) q ∙ sets.others n apart) (ap (λ (x : Store (Slot V)). was_given x n) q ∙ sets.given n apart)

      by_name : (b : Bool) → is_name m n ≡ b → after ≡ bit (is_handed_over (heap st' (number n)))
      by_name false apart =
          let none : counts_name (Some m) n ≡ 0 = rw apart refl in
          let same : after ≡ before = omega (arith, more, none) in
          let node = other_node (λ q. absurd (let x = subst (λ (y : Name). is_name m y ≡ true) q (is_name_itself m) in cc)) (is_some (value_at st m)) refl in
          same ∙ is ∙ ap (λ x. bit (is_handed_over x)) (sym node)
      by_name true same =
          let q : m ≡ n = is_name_same m n same in
          let one : counts_name (Some m) n ≡ 1 = rw same refl in
          let waits = bits (is_handed_over (heap st (number n))) before is (omega (arith, more, one)) in
          let live = live_of st n waits in
          let e1 : st' ≡ after_work {J = Unit {0}} st (Remove n) = subst (λ (x : Name). st' ≡ after_work {J = Unit {0}} st (Remove x)) q e in
          let e2 : st' ≡ emptied st n.cell = rw live at e1 in
          let none : value_at st' n ≡ None = ap (λ (x : Store (Slot V)). value_at x n) e2 ∙ (cells.emptied_sets st n live).value in
          let past : is_handed_over (heap st' (number n)) ≡ false = gone_node st' n none in
          let was : before ≡ 1 = is ∙ ap bit waits in
          (let z : after ≡ 0 = omega (arith, more, one, was) in z) ∙ ap bit (sym past)

  by_called : (s s' : State (Slot V) (Unit {0})) (c : Option (ℕ × Option Name)) (n : Name) → JobsAfter s c s' → weight (removes n) s ≡ bit (is_handed_over (heap s.store (number n))) → weight (removes n) s' ≡ bit (is_handed_over (heap s'.store (number n)))
  by_called s s' None n j is = j.2 (removes n) ∙ is ∙ ap (λ (x : Store (Slot V)). bit (is_handed_over (heap x (number n)))) (sym j.0)
  by_called s s' (Some c) n j is = by_work n (weight (removes n) s) s.store s'.store j.0.work j.2 is (weight (removes n) s') (j.4 (removes n))

  fewer : (s s' : State (Slot V) (Unit {0})) (c : Option (ℕ × Option Name)) (f : Deferral (Unit {0}) → ℕ) → JobsAfter s c s' → weight f s ≡ 0 → weight f s' ≡ 0
  fewer s s' None f j none = j.2 f ∙ none
  fewer s s' (Some c) f j none = let e = j.4 f in omega (arith, e, none)

  -- after a step of the collector the bags have just the removals of the nodes that wait
  pub filed_collected : (s s' : Nodes V) (who : ℕ) (event : Event) (r : Report) (h : List Mark) → Fits h s.collector → IsReport s.collector who event r → s'.collector ≡ after s.collector who event r.outcome
      → Moves s.collector who r.called s'.collector → IsFiled s → IsFiled s'
  filed_collected s s' who event r h fits report e m f = record {
    expiry = ap (λ l. l.expiry) m.limits ∙ f.expiry;
    sealing = subst (λ (x : State (Slot V) (Unit {0})). IsSealing x) (sym e) (cells.seals_step h s.collector who event r fits report f.sealing);
    filed = λ n. by_called s.collector s'.collector r.called n m.jobs (f.filed n);
    only = fewer s.collector s'.collector r.called others m.jobs f.only;
  }

  -- a node that a step of a call makes wait
  module _ (same : V → V → Bool) (always : Bool) (s s' : Nodes V) (ms ms' : List (Machine Id V)) (step : Step Id V) (d : Move V) (plays : StepPlays id_number same always s.version_max (Refuses s) (nodes s) ms step d (nodes s') ms') where
    handed : (k : ℕ) (m : Machine Id V) (by : ℕ → List ℕ) → slice_get ms step.who ≡ Some m → HandsNode (λ (i : ℕ). []) (nodes s) step.who k by (nodes s') → (x : Phase Id V) → m.phase ≡ x → TakenBy id_number x k
        → (node : Id) × (retiring_at (slice_get ms step.who) ≡ Some node) × (k ≡ id_number node)
    handed k m by at hands (Retire node next p r) is (inl e) = (node, ap retiring_at at ∙ ap retiring is, e)
    handed k m by at hands (Retire node next p r) is (inr e) =
        let moved : IsMoved id_number same always s.version_max (Refuses s) (nodes s) ms m step d (nodes s') ms' = plays.moved m at in
        let P : Phase Id V → Type 0 = λ y. PhaseStepped id_number same always s.version_max (Refuses s) m.root (key_bytes m.key) m.kind step.noise.fail step.noise.answer m.given y (nodes s) moved.now.given (record { phase = moved.now.phase; report = d }) (nodes s') in
        let gives : RetireGives (nodes s) (id_number node) (nodes s') = (subst P is moved.step.step).1 in
        elim (cases_eq k (id_number node)) [
          | inl q ↦ (node, ap retiring_at at ∙ ap retiring is, q)
          | inr ne ↦ absurd (let b = hands.before in let a = hands.after in let q : is_handed_over (nodes s' k) ≡ is_handed_over (nodes s k) = ap is_handed_over (gives.others k ne) in cc (b, a, q))
        ]
    handed k m by at hands (Obsolete node next p r) is e =
        let moved : IsMoved id_number same always s.version_max (Refuses s) (nodes s) ms m step d (nodes s') ms' = plays.moved m at in
        let P : Phase Id V → Type 0 = λ y. PhaseStepped id_number same always s.version_max (Refuses s) m.root (key_bytes m.key) m.kind step.noise.fail step.noise.answer m.given y (nodes s) moved.now.given (record { phase = moved.now.phase; report = d }) (nodes s') in
        let gives : ObsoleteGives (nodes s) (id_number node) (nodes s') = (subst P is moved.step.step).1 in
        let before : is_handed_over (nodes s k) ≡ false = hands.before in
        let after : is_handed_over (nodes s' k) ≡ true = hands.after in
        let q : is_handed_over (nodes s' k) ≡ is_handed_over (nodes s k) = elim (cases_eq k (id_number node)) [
          | inl is_node ↦ ap (λ (j : ℕ). is_handed_over (nodes s' j)) is_node ∙ ap is_handed_over gives.after ∙ ap (λ (j : ℕ). is_handed_over (nodes s j)) (sym is_node)
          | inr ne ↦ ap is_handed_over (gives.others k ne)
        ] in
        absurd (cc (before, after, q))
    handed k m by at hands _ is e = absurd e

    waits_before : (k : ℕ) → is_handed_over (nodes s' k) ≡ true → (is_handed_over (nodes s k) ≡ true) ⊎ ((node : Id) × (retiring_at (slice_get ms step.who) ≡ Some node) × (k ≡ id_number node))
    waits_before k w =
        let x = plays.hands (λ (i : ℕ). []) (λ i ne. absurd (ne refl)) in
        elim x.1 [
          | inl none ↦ inl (sym (none.nodes k) ∙ w)
          | inr one ↦ elim (cases_eq k one.0) [
            | inr ne ↦ inl (sym (one.1.nodes k ne) ∙ w)
            | inl is ↦ elim (x.3 step.who one.0 (subst (λ (ns : List ℕ). Contains ns one.0) (sym one.1.now) (0, (let l : 0 < 1 = omega arith in l), refl))) [
              | inl never ↦ absurd (let bad : never.0 < 0 = never.1 in omega (arith, bad))
              | inr t ↦ (let h = handed one.0 t.0 x.0 t.1 one.1 t.0.phase refl t.2 in inr (h.0, h.1, is ∙ h.2))
            ]
          ]
        ]

    -- a node that it doesn't waits as before
    as_before : (k : ℕ) → ((node : Id) → retiring_at (slice_get ms step.who) ≡ Some node → k ≡ id_number node → ⊥) → is_handed_over (nodes s' k) ≡ is_handed_over (nodes s k)
    as_before k apart = by_both (is_handed_over (nodes s' k)) (is_handed_over (nodes s k)) (λ w. elim (waits_before k w) [ inl was ↦ was | inr new ↦ absurd (apart new.0 new.1 new.2) ]) (λ w. ap is_handed_over (plays.untouched k w) ∙ w)

    -- so they have after a step on the tree that hands no node over
    pub filed_walked : s'.collector ≡ with_store s.collector s'.collector.store → retiring_at (slice_get ms step.who) ≡ None → IsFiled s → IsFiled s'
    filed_walked collector_is none f = record {
      expiry = ap (λ c. c.limits.expiry) collector_is ∙ f.expiry;
      sealing = subst (λ (x : State (Slot V) (Unit {0})). IsSealing x) (sym collector_is) (cells.seals_stored s.collector s'.collector.store s.collector.roots f.sealing);
      filed = λ n. ap (weight (removes n)) collector_is ∙ f.filed n ∙ ap bit (sym (as_before (number n) (λ node some is. absurd (cc (none, some)))));
      only = ap (weight others) collector_is ∙ f.only;
    }

    -- and after one whose node is handed over, with its removal deferred
    pub filed_handed : (node : Id) → retiring_at (slice_get ms step.who) ≡ Some node → s'.collector ≡ with_store s.collector s'.collector.store → IsSafe same always s ms → Owes same always s' ms' step.who node → (s2 : Nodes V)
        → s2 ≡ with_collector s' (deferred s'.collector step.who (Remove node.name)) → IsFiled s → IsFiled s2
    filed_handed node some collector_is safe owes s2 is f =
        let c' = s'.collector in
        let entry : Deferral (Unit {0}) = record { ticket = c'.next; work = Remove node.name } in
        let inside = held_place c'.table step.who owes.registered in
        let keeps = cells.deferred_orderly c' step.who (Remove node.name) inside owes.room owes.safe.sound.sound.orderly in
        let between : IsSealing c' = subst (λ (x : State (Slot V) (Unit {0})). IsSealing x) (sym collector_is) (cells.seals_stored s.collector c'.store s.collector.roots f.sealing) in
        let P : Nodes V → Type 0 = λ x. IsFiled x in
        subst P (sym is) (record {
          expiry = ap (λ c. c.limits.expiry) collector_is ∙ f.expiry;
          sealing = sealing_more c' step.who entry inside owes.idle between;
          filed = λ n.
              let more = keeps.jobs (removes n) in
              let old : weight (removes n) c' ≡ bit (is_handed_over (nodes s (number n))) = ap (weight (removes n)) collector_is ∙ f.filed n in
              by_node n (is_name node.name n) refl (weight (removes n) c') (weight (removes n) (deferred c' step.who (Remove node.name))) more old;
          only = (let more = keeps.jobs others in let old : weight others c' ≡ 0 = ap (weight others) collector_is ∙ f.only in omega (arith, more, old));
        })
      where
        sealing_more : (c : State (Slot V) (Unit {0})) (who : ℕ) (entry : Deferral (Unit {0})) → who < length c.table → (place c who).phase ≡ collector_phase.Idle → IsSealing c
            → IsSealing (record c { table = slice_set c.table who (record (place c who) { bag = (place c who).bag ++ entry ∷ [] }); next = c.next + 1; waiting = c.waiting + 1 })
        sealing_more c who entry inside idle i =
            let p = record (place c who) { bag = (place c who).bag ++ entry ∷ [] } in
            record {
              filled = i.filled;
              past = i.past;
              places = λ q. elim (cases_eq q who) [
                | inl is ↦ rw (is, get_or-set_same c.table who p blank inside, idle) tt
                | inr ne ↦ rw (get_or-set_other c.table who q p blank ne) (i.places q)
              ];
            }

        now_waits : is_handed_over (nodes s' (id_number node)) ≡ true
        now_waits =
            let st : Stands (nodes s' (id_number node)) = (heap_ties slot_names view slot_view s'.collector.store).stands node.name owes.stands in
            let r : (nodes s' (id_number node)).retired ≡ true = owes.marked in
            let m : (nodes s' (id_number node)).made ≡ true = st.made in
            let k : (nodes s' (id_number node)).destroyed ≡ false = st.kept in
            rw (r, m, k) refl

        waited_not : is_handed_over (nodes s (id_number node)) ≡ false
        waited_not = not_true (is_handed_over (nodes s (id_number node))) (λ w. unretired_waits_not (nodes s (id_number node)) unretired w)
          where
            unretired : (nodes s (id_number node)).retired ≡ false
            unretired = by_machine (slice_get ms step.who) refl some
              where
                by_machine : (o : Option (Machine Id V)) → slice_get ms step.who ≡ o → retiring_at o ≡ Some node → (nodes s (id_number node)).retired ≡ false
                by_machine None at e = absurd (cc e)
                by_machine (Some m) at e =
                    let k = retiring_some m.phase node e in
                    let settled = safe.sound.sound.settled in
                    let known = settled.1.each step.who m at in
                    let Q : Phase Id V → Type 0 = λ y. TakenBy id_number y (id_number node) in
                    (taken_known id_number same always step.who settled.0 (nodes s) m.key (key_bytes m.key) m.kind m.given (id_number node) m.phase known.known (subst Q (sym k.3) (inl refl))).unretired

        by_node : (n : Name) (b : Bool) → is_name node.name n ≡ b → (before after : ℕ) → after ≡ before + removes {J = Unit {0}} n (record { ticket = s'.collector.next; work = Remove node.name }) → before ≡ bit (is_handed_over (nodes s (number n))) → after ≡ bit (is_handed_over (nodes s' (number n)))
        by_node n true itself before later more old =
            let q : node.name ≡ n = is_name_same node.name n itself in
            let one : counts_name (Some node.name) n ≡ 1 = rw itself refl in
            let none : before ≡ 0 = old ∙ ap bit (subst (λ (x : Name). is_handed_over (nodes s (number x)) ≡ false) q waited_not) in
            (let z : later ≡ 1 = omega (arith, more, one, none) in z) ∙ ap bit (sym (subst (λ (x : Name). is_handed_over (nodes s' (number x)) ≡ true) q now_waits))
        by_node n false apart before later more old =
            let zero : counts_name (Some node.name) n ≡ 0 = rw apart refl in
            let stays = as_before (number n) (λ other yet is.
            let q : other ≡ node = cc (some, yet) in
            let q2 : number n ≡ number node.name = is ∙ ap id_number q in
            let x = subst (λ (y : Name). is_name node.name y ≡ true) (sym (same_name n node.name q2)) (is_name_itself node.name) in
            absurd cc) in
            (let z : later ≡ before = omega (arith, more, zero) in z) ∙ old ∙ ap bit (sym stays)

  -- and after a registration
  pub filed_registered : (s : Nodes V) (n : ℕ) → n < length s.collector.table → Orderly s.collector → IsFiled s → IsFiled (with_collector s (registered s.collector n))
  filed_registered s n inside orderly f =
      let keeps = cells.registered_jobs s.collector n inside orderly in
      record {
        expiry = f.expiry;
        sealing = cells.seals_registered s.collector n inside f.sealing;
        filed = λ k. (let more = keeps.jobs (removes k) in let z : weight (removes k) (registered s.collector n) ≡ weight (removes k) s.collector = omega (arith, more) in z) ∙ f.filed k;
        only = (let more = keeps.jobs others in let old = f.only in omega (arith, more, old));
      }

  -- and in a root alone, where none waits
  pub filed_opened : (limits : Limits) (charge limit : ℕ) (s : Nodes V) → IsOpened limits charge limit s → IsFiled s
  filed_opened limits charge limit s begin = record {
    expiry = ap (λ c. c.limits.expiry) begin.collector_is ∙ begin.allowed.expiry;
    sealing = subst (λ (x : State (Slot V) (Unit {0})). IsSealing x) (sym begin.collector_is) (cells.seals_stored (opened limits.epoch 1) s.collector.store top_roots (cells.seals_opened limits.epoch 1));
    filed = λ n. ap (weight (removes n)) begin.collector_is ∙ cells.opened_jobs limits.epoch 1 (removes n) ∙ ap bit (sym (not_true (is_handed_over (nodes s (number n))) (none_waits (number n))));
    only = ap (weight others) begin.collector_is ∙ cells.opened_jobs limits.epoch 1 others;
  }
    where
      none_waits : (k : ℕ) → is_handed_over (nodes s k) ≡ true → ⊥
      none_waits k w = elim (cases_eq k 0) [
        | inl is ↦ unretired_waits_not (nodes s k) (ap (λ (j : ℕ). (nodes s j).retired) is ∙ begin.fresh.alone.unretired) w
        | inr ne ↦ (let x = waits_stands (nodes s k) w in let m : (nodes s k).made ≡ true = x.made in let u : (nodes s k).made ≡ false = begin.fresh.others k ne in absurd cc)
      ]
