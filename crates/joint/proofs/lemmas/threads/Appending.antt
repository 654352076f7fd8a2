-- The entry that a step of a call in flight appends to the journal.
use Rattle.std.proofs.Common.{◌≡◌, ℕ, Bool, true, false, List, [], ◌∷◌, ◌++◌, length, refl, sym, ◌∙◌, ap, subst}
use Rattle.std.specs.Prelude.{Option, None, Some, not, nat_eq, slice_get}
use Rattle.std.proofs.lemmas.Bool.{false≢true}
use Rattle.std.proofs.lemmas.List.{append-nil}
use Rattle.judge.specs.declared.journal.Call.{Call as Entered}
use Rattle.judge.specs.declared.journal.Entry.{Entry}
use Rattle.judge.specs.declared.journal.Reply.{Reply}
use Rattle.judge.specs.declared.journal.Reply.TheVariants as reply
use Rattle.congee.specs.declared.protocol.machine.Noise.{Noise}
use Rattle.joint.specs.declared.id.Id.{Id}
use Rattle.joint.specs.declared.engine.request.Request.{Request}
use Rattle.joint.specs.declared.steps.Event.{Event}
use Rattle.joint.specs.declared.steps.Event.TheVariants.{Register, Begin, Go}
use Rattle.joint.specs.declared.steps.Op.{Op}
use Rattle.joint.specs.declared.steps.Op.TheVariants as op
use Rattle.joint.specs.declared.steps.Report.{Report}
use Rattle.joint.specs.declared.steps.Step.{Step}
use Rattle.joint.specs.Changes.{changes}
use Rattle.joint.specs.engine.Journaling.{HasAnswer, asks_at, call_of, entry_of, has_place, in_list, kept_if, on_insert, on_present, reply_by, with_call}
use Rattle.joint.specs.engine.Log.{has_room, answered_if, with_answer}
use Rattle.joint.specs.Reports.{target}
use Rattle.joint.specs.world.MapSteps.{looks_up}
use Rattle.joint.specs.world.World.{FindsJournalFull, Holds, IsStep, StepsUnless, TakesStep, entry_at, finds_journal_full, answered_request, kept_at}
use Rattle.joint.specs.engine.Engine.{World}
use Rattle.joint.specs.threads.Writing.{Appended, IsEntryOf, IsInFlight, MayStep}
use Rattle.joint.proofs.lemmas.world.Effects.{begin_undecided, decided_effect}
use Rattle.joint.proofs.lemmas.nodes.NodesInvariant.{some_injective}
use Rattle.joint.proofs.lemmas.world.Logged.{event_maps}

-- what is kept is the entry of a step that decides
kept_decides : (d room : Bool) (o : Option (Entry ℕ)) (e : Entry ℕ) → kept_if d room o ≡ Some e → (d ≡ true) × (o ≡ Some e)
kept_decides true true o e q = (refl, q)
kept_decides true false o e q = absurd (cc q)
kept_decides false room o e q = absurd (cc q)

-- an entry has its worker, and the call as it was asked for
called_by : (who : ℕ) (q : Request ℕ) (r : Reply ℕ) (o : Option (Entered ℕ)) (e : Entry ℕ) → o ≡ call_of q.op q.answer r → with_call who r o ≡ Some e → HasAnswer q.op q.answer e.reply → IsEntryOf who q.op q.answer e
called_by who q r None e c x a = absurd (cc x)
called_by who q r (Some k) e c x a =
    let same : record { worker = who; call = k; reply = r } ≡ e = some_injective _ _ x in
    record { worker = sym (ap (λ (y : Entry ℕ). y.worker) same); call = ap (call_of q.op q.answer) (sym (ap (λ (y : Entry ℕ). y.reply) same)) ∙ (sym c ∙ ap (λ (y : Entry ℕ). Some y.call) same); answered = a }

entry_called : (who : ℕ) (q : Request ℕ) (o : Option (Reply ℕ)) (e : Entry ℕ) → entry_of who (Some q) o ≡ Some e → HasAnswer q.op q.answer e.reply → IsEntryOf who q.op q.answer e
entry_called who q None e x a = absurd (cc x)
entry_called who q (Some r) e x a = called_by who q r (call_of q.op q.answer r) e refl x a

-- a call takes the answer that is wanted
answered_wanted : (asks : Bool) (answer : Option (Option ℕ)) (q : Request ℕ) → ((a : Option ℕ) → answer ≡ Some a → asks ≡ true) → answered_if asks answer (Some q) ≡ Some (with_answer answer q)
answered_wanted true answer q w = refl
answered_wanted false None q w = refl
answered_wanted false (Some a) q w = absurd (false≢true (w a refl))

answer_keeps_op : (answer : Option (Option ℕ)) (q : Request ℕ) → (with_answer answer q).op ≡ q.op
answer_keeps_op None q = refl
answer_keeps_op (Some None) q = refl
answer_keeps_op (Some (Some a)) q = refl

-- only a look-up has an entry that doesn't write
insert_writes : (k : ℕ) (o : Option ℕ) (c : Entered ℕ) → on_insert k o ≡ Some c → looks_up c ≡ false
insert_writes k None c q = absurd (cc q)
insert_writes k (Some v) c q = ap looks_up (sym (some_injective _ _ q))

present_writes : (k : ℕ) (a : Option (Option ℕ)) (r : Reply ℕ) (c : Entered ℕ) → on_present k a r ≡ Some c → looks_up c ≡ false
present_writes k a (reply.ComputePresent None) c q = ap looks_up (sym (some_injective _ _ q))
present_writes k a (reply.ComputePresent (Some x)) c q = ap looks_up (sym (some_injective _ _ q))
present_writes k a (reply.Get x) c q = ap looks_up (sym (some_injective _ _ q))
present_writes k a (reply.Insert x) c q = ap looks_up (sym (some_injective _ _ q))
present_writes k a (reply.Remove x) c q = ap looks_up (sym (some_injective _ _ q))
present_writes k a (reply.ComputeInsert x) c q = ap looks_up (sym (some_injective _ _ q))
present_writes k a (reply.Exchange x) c q = ap looks_up (sym (some_injective _ _ q))

-- an entry is a look-up's just where its call can't change what stands at its key
pub entry_changes : (o : Op ℕ) (a : Option (Option ℕ)) (r : Reply ℕ) (c : Entered ℕ) → call_of o a r ≡ Some c → looks_up c ≡ not (changes o)
entry_changes (op.Get k) a r c q = ap looks_up (sym (some_injective _ _ q))
entry_changes (op.Insert k v) a r c q = ap looks_up (sym (some_injective _ _ q))
entry_changes (op.Remove k) a r c q = ap looks_up (sym (some_injective _ _ q))
entry_changes (op.ComputePresent k) a r c q = present_writes k a r c q
entry_changes (op.ComputeInsert k) a r c q = insert_writes k _ c q
entry_changes (op.Exchange k old new) a r c q = ap looks_up (sym (some_injective _ _ q))
entry_changes op.Pin a r c q = absurd (cc q)
entry_changes op.Unpin a r c q = absurd (cc q)
entry_changes op.Repin a r c q = absurd (cc q)
entry_changes op.Flush a r c q = absurd (cc q)
entry_changes op.Release a r c q = absurd (cc q)
entry_changes (op.Range start end size) a r c q = absurd (cc q)
entry_changes (op.RangeInclusive start last size) a r c q = absurd (cc q)
entry_changes op.Keys a r c q = absurd (cc q)
entry_changes op.IsEmpty a r c q = absurd (cc q)
entry_changes op.Stats a r c q = absurd (cc q)

-- a step that appends nothing
record Still (s s' : World ℕ) : Type 0 where
  pub entries : s'.log.entries ≡ s.log.entries
  pub places : s'.log.places ≡ s.log.places

module _ (s s' : World ℕ) (who : ℕ) (h : Holds nat_eq true s) where
  -- a step that is no step of a call in flight
  module _ (event : Event ℕ) (r : Report ℕ) where
    abbrev step : Step ℕ
    step = record { worker = who; event = event }

    undecided_still : (x : TakesStep nat_eq true s step r s') → x.told.decided ≡ false → Still s s'
    undecided_still x d =
        let none : kept_at s who event x.told s' ≡ None = ap (λ b. kept_if b (has_room (record s.log { reserved = s'.log.reserved })) (entry_at s who event x.told s')) d in
        record { entries = x.entries ∙ ap (λ o. s.log.entries ++ in_list o) none ∙ append-nil s.log.entries; places = x.places }

  begin_still : (o : Op ℕ) (r : Report ℕ) → IsStep nat_eq true s (record { worker = who; event = Begin o }) r s' → Still s s'
  begin_still o r x =
      let step : Step ℕ = record { worker = who; event = Begin o } in
      let t : TakesStep nat_eq true s step r s' = x.does in
      let on = event_maps nat_eq true s s' step t.told h t.engine h.2.flights h.2.pairs h.2.stand h.2.in_flight h.2.asked in
      undecided_still (Begin o) r t (
      begin_undecided nat_eq true s s' who (h.0, h.1) t.engine.holds h.2.flights on.flights h.2.pairs (record { each = h.2.in_flight.each; beyond = h.2.in_flight.beyond }) on.in_flight h.2.long
      (record { step = step; report = t.told; entry = on.entry; pairs = on.pairs }) refl (target o) t.told.outcome refl on.step)

  -- a step of a call in flight
  module _ (noise : Noise Id ℕ) (o : Op ℕ) (given : Option (Option ℕ)) (r : Report ℕ) (own : IsInFlight s who o given) (wanted : (a : Option ℕ) → noise.answer ≡ Some a → asks_at (slice_get s.machines who) ≡ true) where
    abbrev go : Step ℕ
    go = record { worker = who; event = Go noise }

    abbrev asked : Request ℕ
    asked = record { op = o; answer = given }

    abbrev Appends : Type 0
    Appends = (kept : Option (Entry ℕ)) × Appended s s' who o given (Go noise) kept

    abbrev answering : Request ℕ
    answering = with_answer noise.answer asked

    answering_is : answered_request s who (Go noise) ≡ Some answering
    answering_is = ap (answered_if (asks_at (slice_get s.machines who)) noise.answer) own ∙ answered_wanted _ noise.answer asked wanted

    -- the entry that is kept has its closure's answer, and its place where it writes
    record Keeps (e : Entry ℕ) : Type 0 where
      pub answered : HasAnswer answering.op answering.answer e.reply
      pub had : has_place (slice_get s.calls who) (slice_get s.machines who) ≡ not (looks_up e.call)

    keeps : (t : TakesStep nat_eq true s go r s') (e : Entry ℕ) → kept_at s who (Go noise) t.told s' ≡ Some e → Keeps e
    keeps t e q =
        let k = kept_decides _ _ _ e q in
        let on = event_maps nat_eq true s s' go t.told h t.engine h.2.flights h.2.pairs h.2.stand h.2.in_flight h.2.asked in
        let x = decided_effect nat_eq true s s' who (h.0, h.1) t.engine.holds h.2.flights on.flights h.2.pairs (record { each = h.2.in_flight.each; beyond = h.2.in_flight.beyond }) on.in_flight h.2.long
        (record { step = go; report = t.told; entry = on.entry; pairs = on.pairs }) refl (Go noise) k.0 t.engine.does on.step in
        let same : x.entry ≡ e = some_injective _ _ (sym (x.noted (h.2.asked refl)) ∙ k.1) in
        subst Keeps same (record { answered = x.answered (h.2.asked refl) answering answering_is; had = x.had })

    taken : TakesStep nat_eq true s go r s' → Appends
    taken t = (
      kept_at s who (Go noise) t.told s',
      record {
        entries = t.entries;
        places = t.places;
        of = λ e q.
            let x : entry_at s who (Go noise) t.told s' ≡ Some e = (kept_decides _ _ _ e q).1 in
            let told : Option (Reply ℕ) = reply_by t.told.outcome (slice_get s'.machines who) in
            let is : IsEntryOf who answering.op answering.answer e = entry_called who answering told e (ap (λ y. entry_of who y told) (sym answering_is) ∙ x) (keeps t e q).answered in
            subst (λ c. IsEntryOf who c answering.answer e) (answer_keeps_op noise.answer asked) is;
        had = λ e q. (keeps t e q).had;
      },
    )

    finds_full : FindsJournalFull s who r s' → Appends
    finds_full t = (
      None,
      record {
        entries = ap (λ (y : World ℕ). y.log.entries) t.state ∙ sym (append-nil s.log.entries);
        places = ap (λ (y : World ℕ). y.log.places) t.state;
        of = λ e q. absurd (cc q);
        had = λ e q. absurd (cc q);
      },
    )

    either : (b : Bool) → StepsUnless nat_eq true b s go r s' → Appends
    either true x = finds_full x
    either false x = taken x

    went : IsStep nat_eq true s go r s' → Appends
    went x = either (finds_journal_full s who (Go noise)) x.does

-- a step of a call that may be taken appends nothing, or the entry of that call
pub steps_on : (s s' : World ℕ) (step : Step ℕ) (o : Op ℕ) (given : Option (Option ℕ)) (r : Report ℕ) → Holds nat_eq true s → IsStep nat_eq true s step r s' → MayStep s step.worker o given step.event
    → (kept : Option (Entry ℕ)) × Appended s s' step.worker o given step.event kept
steps_on s s' step o given r h x may = by step.event x may where
  by : (event : Event ℕ) → IsStep nat_eq true s (record { worker = step.worker; event = event }) r s' → MayStep s step.worker o given event → (kept : Option (Entry ℕ)) × Appended s s' step.worker o given event kept
  by Register x m = absurd m
  by (Begin b) x m =
      let still = begin_still s s' step.worker h b r x in
      (None, record { entries = still.entries ∙ sym (append-nil s.log.entries); places = still.places; of = λ e q. absurd (cc q); had = λ e q. absurd (cc q) })
  by (Go noise) x m = went s s' step.worker h noise o given r m.0 m.1 x

-- the entry is the one past those before
pub appended_at : {A : Type 0} (xs ys : List A) (o : Option A) → ys ≡ xs ++ in_list o → slice_get ys (length xs) ≡ o
appended_at xs ys o q = ap (λ l. slice_get l (length xs)) q ∙ at xs o where
  at : {A : Type 0} (xs : List A) (o : Option A) → slice_get (xs ++ in_list o) (length xs) ≡ o
  at [] None = refl
  at [] (Some a) = refl
  at (x ∷ xs) o = at xs o
