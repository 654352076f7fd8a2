-- How each step of the machine leaves the nodes of the tree, those that calls have taken out, and those that were handed over.
use Rattle.std.proofs.Common.{◌≡◌, ◌≢◌, ◌==◌, ◌<◌, ℕ, Bool, true, false, List, length, refl, sym, ◌∙◌, ap, subst, inl, inr, ◌⊎◌}
use Rattle.std.proofs.Math.ListN.{set}
use Rattle.std.specs.Prelude.{Option, None, Some, slice_get}
use Rattle.std.proofs.lemmas.Bool.{cases_Bool, eqb-true, eqb-false, false≢true}
use Rattle.std.proofs.lemmas.Option.{slice_get_within}
use Rattle.judge.specs.declared.journal.Reply.{Reply}
use Rattle.crossbeam_epoch.specs.world.Machine.{with_store}
use Rattle.crossbeam_epoch.specs.declared.fault.Fault.{Fault}
use Rattle.crossbeam_epoch.specs.declared.world.participant.Participant.{Participant}
use Rattle.congee.specs.declared.forms.base_node.NodeType.{NodeType}
use Rattle.congee.specs.declared.protocol.machine.Machine.{Machine}
use Rattle.congee.specs.declared.protocol.machine.Noise.{Noise}
use Rattle.congee.specs.declared.protocol.op.Op.{Op as Point}
use Rattle.congee.specs.declared.protocol.op.Op.TheVariants as point
use Rattle.congee.specs.declared.protocol.phase.Kind.{Kind}
use Rattle.congee.specs.declared.protocol.phase.Phase.{Phase}
use Rattle.congee.specs.declared.protocol.phase.Phase.TheVariants.{Obsolete, Retire, UnlockBelow, Unlock}
use Rattle.congee.specs.declared.protocol.run.Step.{Step as TreeStep}
use Rattle.congee.specs.declared.protocol.store.Refusal.{Refusal as Cause}
use Rattle.congee.specs.declared.protocol.next_phase.NextPhase.{NextPhase}
use Rattle.congee.specs.Heap.{Node}
use Rattle.congee.specs.Keys.{key_bytes}
use Rattle.congee.specs.Notes.{Linked}
use Rattle.congee.specs.protocol.Destroys.{Destroys}
use Rattle.congee.specs.protocol.Handing.{InTree, is_handed_over}
use Rattle.congee.specs.protocol.Holdings.{TakenBy}
use Rattle.congee.specs.protocol.Leaving.{StepLeaves}
use Rattle.congee.specs.protocol.Play.{Decided, IsMoved, Settled, flight_in}
use Rattle.congee.specs.protocol.Steps.{PhaseStepped}
use Rattle.congee.specs.protocol.State.{retiring}
use Rattle.congee.proofs.Laws.{taken_known}
use Rattle.joint.specs.declared.engine.in_flight.InFlight.{InFlight}
use Rattle.joint.specs.declared.engine.in_flight.InFlight.TheVariants.{Idle, Collecting, Reserving, Securing, Walking}
use Rattle.joint.specs.declared.id.Id.{Id}
use Rattle.joint.specs.declared.steps.Event.{Event}
use Rattle.joint.specs.declared.steps.Event.TheVariants.{Register, Begin, Go}
use Rattle.joint.specs.declared.steps.Report.{Report}
use Rattle.joint.specs.declared.steps.Target.{Target}
use Rattle.joint.specs.declared.steps.Target.TheVariants as target
use Rattle.joint.specs.nodes.Nodes.{Nodes, nodes, Refuses}
use Rattle.joint.specs.engine.Intact.{IsAt, rested}
use Rattle.joint.specs.engine.Laws.{CallLaws, LeavesLaw}
use Rattle.joint.specs.calls.Leaving.{TakesOut, HandsOver}
use Rattle.joint.specs.engine.Safety.{after_walk, retiring_at}
use Rattle.joint.specs.Reports.{target}
use Rattle.joint.specs.nodes.View.{id_number}
use Rattle.joint.specs.world.Whereabouts.{IsTakenBy}
use Rattle.joint.specs.engine.Engine.{World, EngineHolds, BeginsAt, BeginsOnTree, Does, EntersUnless, GoesAt, Walks, finds_none, is_busy, misuse, place_of}
use Rattle.joint.proofs.lemmas.engine.OneCallChanges.{Apart, one_set, step_apart}
use Rattle.joint.proofs.lemmas.engine.Collecting.{get_inside}
use Rattle.joint.proofs.lemmas.engine.Entering.{begin_idle}
use Rattle.joint.proofs.lemmas.world.Flights.{set_at}
use Rattle.joint.proofs.lemmas.calls.Leaves as leaves
use Rattle.joint.proofs.lemmas.calls.Leaves.{Owes, Marks, Hands, Waits, leads_same, taken_stays}
use Rattle.joint.proofs.lemmas.calls.HeldNodes.{waits_is}
use Rattle.joint.proofs.lemmas.engine.Reserving.{same_nodes}
use Rattle.joint.proofs.lemmas.engine.ScanEnds.{cleared_is}

-- what a step leaves of a node that left the tree
pub record SameLeft {V : Type 0} (p q : Node V) : Type 0 where
  pub locked : q.locked ≡ p.locked
  pub marked : p.obsolete ≡ true → q.obsolete ≡ true
  pub children : (b : ℕ) → q.children b ≡ p.children b
  pub made : q.made ≡ p.made
  pub kept : q.destroyed ≡ p.destroyed

-- a node that stays the same is left so
pub same_left : {V : Type 0} (p q : Node V) → q ≡ p → SameLeft p q
same_left p q e = record { locked = ap (λ y. y.locked) e; marked = λ o. ap (λ y. y.obsolete) e ∙ o; children = λ b. ap (λ y. y.children b) e; made = ap (λ y. y.made) e; kept = ap (λ y. y.destroyed) e }

-- the step of the call that takes a node out
pub record IsTaking {V : Type 0} (s : World V) (w : ℕ) (event : Event V) : Type 0 where
  pub noise : Noise Id V
  pub goes : event ≡ Go noise
  pub walking : slice_get s.calls w ≡ Some Walking
  pub old : Machine Id V
  pub at : slice_get s.machines w ≡ Some old
  -- it hadn't taken effect
  pub pending : (reply : Reply V) → flight_in old.key old.kind old.given old.phase ≡ Decided reply → ⊥

-- a node that was made is destroyed
pub record IsLost {V : Type 0} (n : Node V) : Type 0 where
  pub made : n.made ≡ true
  pub destroyed : n.destroyed ≡ true

-- what a step leaves of the nodes in the tree, of those that calls have taken out, and of those that wait
pub record Parts {V : Type 0} (s s' : World V) (w : ℕ) (event : Event V) : Type 0 where
  pub leaves : (n : ℕ) → InTree (nodes s.forest) n → InTree (nodes s'.forest) n ⊎ (TakesOut s s' w n × IsTaking s w event)
  pub owed : (i n : ℕ) → IsTakenBy s i n → IsTakenBy s' i n ⊎ ((w ≡ i) × HandsOver s.forest s'.forest i n)
  pub handed : (n : ℕ) → is_handed_over (nodes s.forest n) ≡ false → is_handed_over (nodes s'.forest n) ≡ true → IsTakenBy s w n × HandsOver s.forest s'.forest w n
  pub waits : (n : ℕ) → is_handed_over (nodes s.forest n) ≡ true → (nodes s'.forest n ≡ nodes s.forest n) ⊎ IsLost (nodes s'.forest n)
  pub lost : (n : ℕ) → IsLost (nodes s.forest n) → IsLost (nodes s'.forest n)
  pub taken : (i n : ℕ) → IsTakenBy s i n → SameLeft (nodes s.forest n) (nodes s'.forest n) ⊎ IsLost (nodes s'.forest n)
  pub defers : (s'.forest.collector.next ≡ s.forest.collector.next) ⊎ ((n : ℕ) × IsTakenBy s w n × HandsOver s.forest s'.forest w n)

module _ {V : Type 0} (same : V → V → Bool) (always : Bool) where
  taken_walks : (k : InFlight V) (p : Participant (Unit {0})) (m : Machine Id V) (n : ℕ) → IsAt k p m → TakenBy id_number m.phase n → k ≡ Walking
  taken_walks Walking p m n a x = refl
  taken_walks Idle p m n a x = absurd (let P : Phase Id V → Type 0 = λ y. TakenBy id_number y n in subst P a.1 x)
  taken_walks (Collecting op) p m n a x = absurd (let P : Phase Id V → Type 0 = λ y. TakenBy id_number y n in subst P a.1 x)
  taken_walks (Reserving op) p m n a x = absurd (let P : Phase Id V → Type 0 = λ y. TakenBy id_number y n in subst P a.3 x)
  taken_walks (Securing op) p m n a x = absurd (let P : Phase Id V → Type 0 = λ y. TakenBy id_number y n in subst P a.2 x)

  module _ (s : World V) (holds : EngineHolds same always s) where
    -- a worker whose call has taken a node out has its call on the tree
    pub walking_of : (i n : ℕ) → IsTakenBy s i n → slice_get s.calls i ≡ Some Walking
    walking_of i n x =
        let l : i < length s.calls = subst (λ k. i < k) holds.0.machines (slice_get_within s.machines i x.0 x.1) in
        let k = get_inside s.calls i l in
        k.1 ∙ ap Some (taken_walks k.0 (place_of s i) x.0 n (holds.0.each i k.0 x.0 k.1 x.1) x.2)

  -- a call that has taken effect takes no node out any more
  reply_taken : (most : ℕ) (why : NodeType → Cause → Type 0) (root : Id) (k : ℕ) (kind : Kind V) (fail : Bool) (answer : Option (Option V)) (given given' : Option V) (p : Phase Id V) (h h' : ℕ → Node V) (t : NextPhase Id V) (r : Reply V) (n : ℕ)
      → flight_in k kind given p ≡ Decided r → PhaseStepped id_number same always most why root (key_bytes k) kind fail answer given p h given' t h' → TakenBy id_number t.phase n → (c : ℕ) × TakenBy id_number p c
  reply_taken most why root k kind fail answer given given' (Obsolete c next q u) h h' t r n e x y = (id_number c, inl refl)
  reply_taken most why root k kind fail answer given given' (Retire c next q u) h h' t r n e x y = (id_number c, inl refl)
  reply_taken most why root k kind fail answer given given' (UnlockBelow c q u) h h' t r n e x y = absurd (let P : NextPhase Id V → Type 0 = λ z. TakenBy id_number z.phase n in subst P x.2 y)
  reply_taken most why root k kind fail answer given given' (Unlock c u) h h' t r n e x y = absurd (let P : NextPhase Id V → Type 0 = λ z. TakenBy id_number z.phase n in subst P x.2 y)
  reply_taken most why root k kind fail answer given given' _ h h' t r n e x y = absurd (cc e)

module _ {V : Type 0} (same : V → V → Bool) (always : Bool) (laws : CallLaws {C = Id} {V = V} id_number same always) (leaves_law : (f : Nodes V) → LeavesLaw {C = Id} {V = V} id_number same always f.version_max (Refuses f)) where
  module _ (s s' : World V) (w : ℕ) (holds : EngineHolds same always s) (event : Event V) (r : Report V) where
    abbrev settled : Settled id_number same always (nodes s.forest) s.machines
    settled = holds.0.safe.sound.sound.settled

    abbrev KeepsTaken : Type 0
    KeepsTaken = (i n : ℕ) → IsTakenBy s i n → IsTakenBy s' i n

    -- no node changes
    calm : nodes s'.forest ≡ nodes s.forest → s'.forest.collector.next ≡ s.forest.collector.next → KeepsTaken → Parts s s' w event
    calm e d k = record {
      leaves = λ n x. inl (let P : (ℕ → Node V) → Type 0 = λ h. InTree h n in subst P (sym e) x);
      owed = λ i n x. inl (k i n x);
      handed = λ n b a. absurd (false≢true (sym b ∙ sym (ap (λ h. is_handed_over (h n)) e) ∙ a));
      waits = λ n b. inl (ap (λ h. h n) e);
      lost = λ n l. subst (λ (y : Node V). IsLost y) (sym (ap (λ h. h n) e)) l;
      taken = λ i n x. inl (same_left (nodes s.forest n) (nodes s'.forest n) (ap (λ h. h n) e));
      defers = inl d;
    }

    -- nodes that were handed over are destroyed
    destroyed : Destroys id_number (nodes s.forest) s.machines (nodes s'.forest) → s'.forest.collector.next ≡ s.forest.collector.next → KeepsTaken → Parts s s' w event
    destroyed d e k = record {
      leaves = λ n x. inl (x.0, leads_same (nodes s.forest) (nodes s'.forest) settled.0 (λ a b c l e. (settled.1.tree.down a b c l e).linked) linked_stays x.0 0 n settled.1.tree.root x.1);
      owed = λ i n x. inl (k i n x);
      handed = λ n b a. elim (d.each n) [
        | inl e ↦ absurd (false≢true (sym b ∙ sym (ap is_handed_over e) ∙ a))
        | inr l ↦ absurd (let y = waits_is (nodes s'.forest n) a in false≢true (sym y.1.kept ∙ l.destroyed))
      ];
      waits = λ n b. elim (d.each n) [ inl e ↦ inl e | inr l ↦ inr (record { made = l.made; destroyed = l.destroyed }) ];
      lost = λ n b. elim (d.each n) [ inl e ↦ subst (λ (y : Node V). IsLost y) (sym e) b | inr l ↦ record { made = l.made; destroyed = l.destroyed } ];
      taken = λ i n x. elim (d.each n) [ inl e ↦ inl (same_left (nodes s.forest n) (nodes s'.forest n) e) | inr l ↦ inr (record { made = l.made; destroyed = l.destroyed }) ];
      defers = inl e;
    }
      where
        linked_stays : (n : ℕ) → (settled.0 n).status ≡ Linked → nodes s'.forest n ≡ nodes s.forest n
        linked_stays n e = elim (d.each n) [
          | inl q ↦ q
          | inr l ↦ absurd (false≢true (sym ((settled.1.words.each n).unretired e) ∙ l.handed))
        ]

    -- the calls of others keep what they have taken out, and the worker's own has nothing where it doesn't walk
    apart_keeps : Apart s s' w → (slice_get s.calls w ≡ Some Walking → ⊥) → KeepsTaken
    apart_keeps a never i n x = elim (cases_Bool (i == w)) [
      | inl b ↦ absurd (never (let e : i ≡ w = eqb-true i w b in subst (λ j. slice_get s.calls j ≡ Some Walking) e (walking_of same always s holds i n x)))
      | inr b ↦ (x.0, a.machines.other i (eqb-false i w b) ∙ x.1, x.2)
    ]

    unchanged : s' ≡ s → Parts s s' w event
    unchanged e = calm (ap (λ y. nodes y.forest) e) (ap (λ y. y.forest.collector.next) e) (λ i n x. (x.0, ap (λ y. slice_get y.machines i) e ∙ x.1, x.2))

    -- a call on the tree takes a step
    module _ (noise : Noise Id V) (is : event ≡ Go noise) (on : slice_get s.calls w ≡ Some Walking) (k : Walks same always s w noise r s') where
      abbrev collector_report : TreeStep Id V
      collector_report = record { who = w; noise = noise }

      old : (m : Machine Id V) × (slice_get s.machines w ≡ Some m)
      old = get_inside s.machines w (subst (λ n. w < n) (sym holds.0.machines) (slice_get_within s.calls w Walking on))

      abbrev f : Nodes V
      f = s.forest

      abbrev moved : IsMoved id_number same always s.forest.version_max (Refuses s.forest) (nodes s.forest) s.machines old.0 collector_report k.move (nodes s'.forest) k.step.between
      moved = k.step.walked.plays.moved old.0 old.1

      now : slice_get s'.machines w ≡ Some (rested moved.now)
      now = ap (λ xs. slice_get xs w) (k.step.machines ∙ cleared_is s.machines k.step.between w old.0 moved.now old.1 moved.calls)
          ∙ set_at s.machines w (rested moved.now) (slice_get_within s.machines w old.0 old.1)

      others : (i : ℕ) → i ≢ w → slice_get s'.machines i ≡ slice_get s.machines i
      others i n = ap (λ xs. slice_get xs i) (k.step.machines ∙ cleared_is s.machines k.step.between w old.0 moved.now old.1 moved.calls) ∙ (one_set s.machines (set s.machines w (rested moved.now)) w (rested moved.now) refl).other i n

      old_is : (i n : ℕ) → i ≡ w → IsTakenBy s i n → TakenBy id_number old.0.phase n
      old_is i n e x =
          let q : Some x.0 ≡ Some old.0 = sym x.1 ∙ ap (λ j. slice_get s.machines j) e ∙ old.1 in
          let is : x.0 ≡ old.0 = cc in
          let P : Machine Id V → Type 0 = λ y. TakenBy id_number y.phase n in subst P is x.2

      abbrev owes : (n : ℕ) → TakenBy id_number old.0.phase n → Owes (nodes s.forest) (nodes s'.forest) old.0.phase moved.now.phase n
      owes = leaves.owes same always laws s.forest s'.forest s.machines k.step.between collector_report k.move holds.0.safe k.step.walked old.0 old.1

      owed_on : (n : ℕ) → TakenBy id_number old.0.phase n → IsTakenBy s' w n ⊎ ((w ≡ w) × HandsOver s.forest s'.forest w n)
      owed_on n x = by (owes n x) where
        by : Owes (nodes s.forest) (nodes s'.forest) old.0.phase moved.now.phase n → IsTakenBy s' w n ⊎ ((w ≡ w) × HandsOver s.forest s'.forest w n)
        by (Marks y b) = inl (rested moved.now, now, taken_stays moved.now n y)
        by (Hands c next q u e is b) = inr (refl, leaves.hands_over same always laws s.forest s'.forest s.machines k.step.between collector_report k.move holds.0.safe k.step.walked old.0 old.1 n c next q u x e is b)
        by (Waits y b) = inl (rested moved.now, now, taken_stays moved.now n y)

      walks_owed : (i n : ℕ) → IsTakenBy s i n → IsTakenBy s' i n ⊎ ((w ≡ i) × HandsOver s.forest s'.forest i n)
      walks_owed i n x = elim (cases_Bool (i == w)) [
        | inl b ↦ (
            let e : i ≡ w = eqb-true i w b in
            let P : ℕ → Type 0 = λ j. IsTakenBy s' j n ⊎ ((w ≡ j) × HandsOver s.forest s'.forest j n) in
            subst P (sym e) (owed_on n (old_is i n e x)))
        | inr b ↦ inl (x.0, others i (eqb-false i w b) ∙ x.1, x.2)
      ]

      -- the node that it hands over was taken out before, and isn't any more
      walks_handed : (n : ℕ) → is_handed_over (nodes s.forest n) ≡ false → is_handed_over (nodes s'.forest n) ≡ true → IsTakenBy s w n × HandsOver s.forest s'.forest w n
      walks_handed n b a =
          let x : TakenBy id_number old.0.phase n = leaves.newly_waits same always laws s.forest s'.forest s.machines k.step.between collector_report k.move holds.0.safe k.step.walked old.0 old.1 n b a in
          ((old.0, old.1, x), by x (owes n x))
        where
          by : TakenBy id_number old.0.phase n → Owes (nodes s.forest) (nodes s'.forest) old.0.phase moved.now.phase n → HandsOver s.forest s'.forest w n
          by x (Hands c next q u e is y) = leaves.hands_over same always laws s.forest s'.forest s.machines k.step.between collector_report k.move holds.0.safe k.step.walked old.0 old.1 n c next q u x e is y
          by x (Waits y z) = absurd (false≢true (sym b ∙ sym (ap is_handed_over z) ∙ a))
          by x (Marks y z) =
              let o = leaves.owed same always laws s.forest s'.forest s.machines k.step.between collector_report k.move holds.0.safe k.step.walked old.0 old.1 n x in
              absurd (false≢true (sym (ap (λ v. v.retired) z.after ∙ o.unretired) ∙ (waits_is (nodes s'.forest n) a).0))

      walks_left : (i n : ℕ) → IsTakenBy s i n → SameLeft (nodes s.forest n) (nodes s'.forest n)
      walks_left i n x = elim (cases_Bool (i == w)) [
        | inl b ↦ by (owes n (old_is i n (eqb-true i w b) x))
        | inr b ↦ (
            let m = settled.1.each i x.0 x.1 in
            let o = taken_known id_number same always i settled.0 (nodes s.forest) x.0.key (key_bytes x.0.key) x.0.kind x.0.given n x.0.phase m.known x.2 in
            let keeps = leaves.keeps same always laws s.forest s'.forest s.machines k.step.between collector_report k.move holds.0.safe k.step.walked old.0 old.1 in
            same_left (nodes s.forest n) (nodes s'.forest n) ((keeps.effect.others i (eqb-false i w b)).mine n o.owner).0)
      ]
        where
          by : Owes (nodes s.forest) (nodes s'.forest) old.0.phase moved.now.phase n → SameLeft (nodes s.forest n) (nodes s'.forest n)
          by (Marks y z) = record { locked = ap (λ v. v.locked) z.after; marked = λ o. ap (λ v. v.obsolete) z.after; children = λ b. ap (λ v. v.children b) z.after; made = ap (λ v. v.made) z.after; kept = ap (λ v. v.destroyed) z.after }
          by (Waits y z) = same_left (nodes s.forest n) (nodes s'.forest n) z
          by (Hands c next q u e is z) = record { locked = ap (λ v. v.locked) z.after; marked = λ o. ap (λ v. v.obsolete) z.after ∙ o; children = λ b. ap (λ v. v.children b) z.after; made = ap (λ v. v.made) z.after; kept = ap (λ v. v.destroyed) z.after }

      walks_leaves : (n : ℕ) → InTree (nodes s.forest) n → InTree (nodes s'.forest) n ⊎ (TakesOut s s' w n × IsTaking s w event)
      walks_leaves n i = elim (leaves.tree same always laws s.forest s'.forest s.machines k.step.between collector_report k.move holds.0.safe k.step.walked old.0 old.1 n i) [
        | inl x ↦ inl x
        | inr x ↦ inr (
          record {
            was = i;
            out = x.out;
            none = λ m y. x.none m (old_is w m refl y);
            taken = (rested moved.now, now, taken_stays moved.now n x.taken);
            with_it = x.with_it;
            others = x.others;
          },
          record {
            noise = noise;
            goes = is;
            walking = on;
            old = old.0;
            at = old.1;
            pending = λ u e. (
                let c = reply_taken same always s.forest.version_max (Refuses s.forest) old.0.root old.0.key old.0.kind noise.fail noise.answer old.0.given moved.now.given old.0.phase (nodes s.forest) (nodes s'.forest) (record { phase = moved.now.phase; report = k.move }) u n e moved.step.step x.taken in
                x.none c.0 c.1);
          },
        )
      ]

      -- it defers a destruction where it hands a node over alone
      walks_defers : (q : Phase Id V) → old.0.phase ≡ q → (s'.forest.collector.next ≡ s.forest.collector.next) ⊎ ((n : ℕ) × IsTakenBy s w n × HandsOver s.forest s'.forest w n)
      walks_defers (Retire c next q u) e =
          let P : Phase Id V → Type 0 = λ y. TakenBy id_number y (id_number c) in
          inr (id_number c, (old.0, old.1, subst P (sym e) (inl refl)), leaves.retires same always laws s.forest s'.forest s.machines k.step.between collector_report k.move holds.0.safe k.step.walked old.0 old.1 c next q u e)
      walks_defers _ e = inl (ap (λ c. c.next) (k.step.walked.collector_is ∙ ap (λ o. after_walk o (with_store s.forest.collector s'.forest.collector.store) w) (ap retiring_at old.1 ∙ ap retiring e)))

      left : StepLeaves id_number w settled.0 (leaves.keeps same always laws s.forest s'.forest s.machines k.step.between collector_report k.move holds.0.safe k.step.walked old.0 old.1).notes (nodes s.forest) (nodes s'.forest) old.0 moved.now
      left = leaves_law s.forest w settled.0 (nodes s.forest) (nodes s'.forest) s.machines old.0 moved.now k.move noise.fail noise.answer settled.1 settled.2 old.1
          (leaves.keeps same always laws s.forest s'.forest s.machines k.step.between collector_report k.move holds.0.safe k.step.walked old.0 old.1) moved.step

      walks : Parts s s' w event
      walks = record {
        leaves = walks_leaves;
        owed = walks_owed;
        handed = walks_handed;
        waits = λ n b. inl (k.step.walked.plays.untouched n b);
        lost = λ n b. subst (λ (y : Node V). IsLost y) (sym (left.dead n b.made b.destroyed)) b;
        taken = λ i n x. inl (walks_left i n x);
        defers = walks_defers old.0.phase refl;
      }

    scan_begins : (op : Point V) (none : Bool) → KeepsTaken → EntersUnless none s w op r s' → Parts s s' w event
    scan_begins op true t x = calm (ap (λ y. nodes y.forest) x.state) (ap (λ y. y.forest.collector.next) x.state) t
    scan_begins op false t x = calm (ap (λ y. nodes y.forest) x.state) (ap (λ y. y.forest.collector.next) x.state) t

    begins_tree : (op : Point V) → KeepsTaken → BeginsOnTree same always s w op r s' → Parts s s' w event
    begins_tree (point.Get k) t x = calm (ap (λ y. nodes y.forest) x.state) (ap (λ y. y.forest.collector.next) x.state) t
    begins_tree (point.Range start end size) t x = scan_begins (point.Range start end size) (finds_none {V = V} (point.Range start end size)) t x
    begins_tree (point.RangeInclusive start last size) t x = scan_begins (point.RangeInclusive start last size) (finds_none {V = V} (point.RangeInclusive start last size)) t x
    begins_tree (point.Insert k v) t x = calm (ap (λ y. nodes y.forest) x.state) (ap (λ y. y.forest.collector.next) x.state) t
    begins_tree (point.Remove k) t x = calm (ap (λ y. nodes y.forest) x.state) (ap (λ y. y.forest.collector.next) x.state) t
    begins_tree (point.ComputePresent k) t x = calm (ap (λ y. nodes y.forest) x.state) (ap (λ y. y.forest.collector.next) x.state) t
    begins_tree (point.ComputeInsert k) t x = calm (ap (λ y. nodes y.forest) x.state) (ap (λ y. y.forest.collector.next) x.state) t
    begins_tree (point.Exchange k a b) t x = calm (ap (λ y. nodes y.forest) x.state) (ap (λ y. y.forest.collector.next) x.state) t

    begins : (t : Target V) → KeepsTaken → BeginsAt same always s w t r s' → Parts s s' w event
    begins (target.Collector op) t x = destroyed x.step.destroys x.step.moves.next t
    begins (target.Tree op) t x = begins_tree op t x
    begins (target.Survey k) t x = unchanged x.state

    goes : (k : Option (InFlight V)) (noise : Noise Id V) → event ≡ Go noise → slice_get s.calls w ≡ k → Apart s s' w → GoesAt same always s w k noise r s' → Parts s s' w event
    goes None noise is e a x = absurd x
    goes (Some Idle) noise is e a x = absurd x
    goes (Some (Collecting op)) noise is e a x = destroyed x.step.destroys x.step.moves.next (apart_keeps a (λ q. let z : Some (Collecting op) ≡ Some Walking = sym e ∙ q in cc))
    goes (Some (Reserving op)) noise is e a x =
        let P : (ℕ → Node V) → Type 0 = λ h. Destroys id_number h x.between.machines (nodes s'.forest) in
        let Q : List (Machine Id V) → Type 0 = λ ms. Destroys id_number (nodes s.forest) ms (nodes s'.forest) in
        destroyed (subst Q x.begins.machine (subst P (same_nodes same always s.forest s.machines s.calls w x.between.forest x.between.machines x.between.calls x.begins) x.goes.step.collected.destroys))
        (x.goes.step.collected.moves.next ∙ x.begins.collected.moves.next)
        (apart_keeps a (λ q. let z : Some (Reserving op) ≡ Some Walking = sym e ∙ q in cc))
    goes (Some (Securing op)) noise is e a x = destroyed x.step.collected.destroys x.step.collected.moves.next (apart_keeps a (λ q. let z : Some (Securing op) ≡ Some Walking = sym e ∙ q in cc))
    goes (Some Walking) noise is e a x = walks noise is e x

  -- a node in the tree stays or is taken out, one taken out stays so or is handed over, and one handed over may go
  pub step_parts : (s s' : World V) (w : ℕ) (holds : EngineHolds same always s) (event : Event V) (o : Option Fault) (r : Report V) → misuse s w event ≡ o → Does same always s w event o r s' → Parts s s' w event
  step_parts s s' w holds event (Some f) r e x = unchanged s s' w holds event r x.1
  step_parts s s' w holds Register None r e (inl x) = calm s s' w holds Register r (ap (λ y. nodes y.forest) x.1.state) (ap (λ y. y.forest.collector.next) x.1.state) (λ i n y. (y.0, ap (λ z. slice_get z.machines i) x.1.state ∙ y.1, y.2))
  step_parts s s' w holds Register None r e (inr x) = unchanged s s' w holds Register r x.state
  step_parts s s' w holds (Begin op) None r e x =
      let idle : is_busy (slice_get s.calls w) ≡ false = begin_idle same always s s' w holds op e in
      begins s s' w holds (Begin op) r (target op) (apart_keeps s s' w holds (Begin op) r (step_apart same always s s' w holds (Begin op) None r x) (λ q. false≢true (sym idle ∙ ap is_busy q))) x
  step_parts s s' w holds (Go noise) None r e x = goes s s' w holds (Go noise) r (slice_get s.calls w) noise refl refl (step_apart same always s s' w holds (Go noise) None r x) x
