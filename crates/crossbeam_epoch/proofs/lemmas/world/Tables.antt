-- A place that nobody holds is blank, whatever steps were taken.
use Rattle.std.proofs.Common.{◌≡◌, ℕ, ◌+◌, ◌-◌, Bool, true, false, List, [], ◌∷◌, ◌++◌, ◌==◌, Option, Some, None, refl, ap, inl, inr, length, replicate, set, get_or-set_same, get_or-set_other, length-set}
use Rattle.std.specs.Prelude.{if◌then◌else◌, is_none, nat_le, nat_lt, ◌&&◌, remove, slice_index_or}
use Rattle.std.proofs.lemmas.Bool.{cases_eq, cases_lt}
use Rattle.std.proofs.lemmas.List.{get_or_past, set_past, length-replicate, get_or-replicate}
use Rattle.crossbeam_epoch.specs.declared.bag.Work.{Work}
use Rattle.crossbeam_epoch.specs.declared.fault.Fault.{Fault}
use Rattle.crossbeam_epoch.specs.declared.fault.Fault.TheVariants as F
use Rattle.crossbeam_epoch.specs.declared.world.participant.Participant.{Participant}
use Rattle.crossbeam_epoch.specs.declared.world.participant.Phase.{Phase}
use Rattle.crossbeam_epoch.specs.declared.world.participant.Phase.TheVariants.{Idle, Look, Publish, RepinLook, RepinPublish, Seal, Queue, ReleaseSeal, ReleaseQueue, Secure, SecureSeal, SecureQueue, Load, Inspect, Advance, Take, Call}
use Rattle.crossbeam_epoch.specs.declared.world.report.Event.{Event}
use Rattle.crossbeam_epoch.specs.declared.world.report.Event.TheVariants.{Begin, Go}
use Rattle.crossbeam_epoch.specs.declared.world.report.Op.{Op}
use Rattle.crossbeam_epoch.specs.declared.world.report.Op.TheVariants as O
use Rattle.crossbeam_epoch.specs.declared.world.report.Outcome.{Outcome}
use Rattle.crossbeam_epoch.specs.declared.world.report.Outcome.TheVariants.{Running, Done, Refused}
use Rattle.crossbeam_epoch.specs.declared.world.report.Report.{Report}
use Rattle.crossbeam_epoch.specs.world.Fits.{IsTable}
use Rattle.crossbeam_epoch.specs.world.Machine.{State, place, blank, no_bag, after_call, published, relooked, repinned, secured, inspection, in_phase, registered, is_due, taken, called_one, deferred, deferred_anew, after_deferral}
use Rattle.crossbeam_epoch.specs.world.Steps.{after, gone, moved, begun_at, needs_memory, fault, event_fault, defer_fault, or_count, quiet_fault, IsOutcome, IsReport}
use Rattle.crossbeam_epoch.proofs.lemmas.world.Runs.{known_if_faultless}

module _ {J : Type 0} where
  -- nobody's place is blank
  abbrev IsSpare : Participant J → Type 0
  IsSpare p = p.registered ≡ false → p ≡ blank

  held : (p p' : Participant J) → p'.registered ≡ p.registered → p.registered ≡ true → IsSpare p'
  held p p' same is = λ no. absurd (cc (same, is, no))

  table_put : (places : ℕ) (table : List (Participant J)) (who : ℕ) (p : Participant J) → IsSpare p → IsTable places table → IsTable places (set table who p)
  table_put places table who p spare t = record {
    long = rw length-set t.long;
    free = λ q. elim (cases_eq q who) [
      | inl is ↦ elim (cases_lt who (length table)) [
        | inl lt ↦ rw (is, get_or-set_same table who p blank lt) spare
        | inr ge ↦ rw (set_past table who p ge) (t.free q)
      ]
      | inr ne ↦ rw (get_or-set_other table who q p blank ne) (t.free q)
    ];
  }

  -- a new table has its places, all blank
  pub table_new : (places : ℕ) → IsTable places (replicate places (blank {J = J}))
  table_new places = record {
    long = length-replicate places blank;
    free = λ q no. elim (cases_lt q places) [ inl lt ↦ get_or-replicate places q blank blank lt | inr ge ↦ get_or_past (replicate places blank) q blank (rw length-replicate ge) ];
  }

  begun_pin : (p : Participant J) (b : Bool) → p.registered ≡ true → IsSpare (if b then record p { phase = Look } else record p { guards = p.guards + 1 })
  begun_pin p true is = held p (record p { phase = Look }) refl is
  begun_pin p false is = held p (record p { guards = p.guards + 1 }) refl is

  begun_unpin : (p : Participant J) (b : Bool) → p.registered ≡ true → IsSpare (if b then record p { word = None; guards = 0 } else record p { guards = p.guards - 1 })
  begun_unpin p true is = held p (record p { word = None; guards = 0 }) refl is
  begun_unpin p false is = held p (record p { guards = p.guards - 1 }) refl is

  begun_release : (p : Participant J) (b : Bool) → p.registered ≡ true → IsSpare (if b then blank else record p { phase = ReleaseSeal })
  begun_release p true is = λ no. refl
  begun_release p false is = held p (record p { phase = ReleaseSeal }) refl is

  begun_spare : (op : Op) (p : Participant J) → p.registered ≡ true → IsSpare (begun_at op p)
  begun_spare O.Pin p is = begun_pin p (is_none p.word) is
  begun_spare O.Unpin p is = begun_unpin p (nat_le p.guards 1) is
  begun_spare O.Repin p is = held p (begun_at O.Repin p) refl is
  begun_spare O.Flush p is = held p (begun_at O.Flush p) refl is
  begun_spare O.Release p is = begun_release p (length p.bag == 0) is
  begun_spare (O.Secure n) p is = held p (begun_at (O.Secure n) p) refl is

module _ {T J : Type 0} where
  -- the table of a state has its places
  abbrev HasTable : State T J → Type 0
  HasTable s = IsTable s.limits.participants s.table

  acted : (s : State T J) (who : ℕ) (p : Participant J) → p.registered ≡ (place s who).registered → (place s who).registered ≡ true → HasTable s → IsTable s.limits.participants (set s.table who p)
  acted s who p same is t = table_put s.limits.participants s.table who p (held (place s who) p same is) t

  by_room : (s : State T J) (who seen : ℕ) (b : Bool) → (place s who).registered ≡ true → HasTable s → HasTable (if b then record (in_phase s who (Take (seen + 1) 0)) { epoch = seen + 1 } else in_phase s who (Take seen 0))
  by_room s who seen true is t = acted s who (record (place s who) { phase = Take (seen + 1) 0 }) refl is t
  by_room s who seen false is t = acted s who (record (place s who) { phase = Take seen 0 }) refl is t

  by_due : (s : State T J) (who answered bags : ℕ) (b : Bool) → (place s who).registered ≡ true → HasTable s → HasTable (if b then taken s who answered bags else in_phase s who Idle)
  by_due s who answered bags true is t =
      let b = slice_index_or s.queue 0 no_bag in
      acted s who (record (place s who) { hand = b.jobs; phase = Call answered (bags + 1) b.seal }) refl is t
  by_due s who answered bags false is t = acted s who (record (place s who) { phase = Idle }) refl is t

  by_empty : (s : State T J) (who answered bags seal : ℕ) (b : Bool) → (place s who).registered ≡ true → HasTable s → HasTable (if b then in_phase s who Idle else called_one s who answered bags seal)
  by_empty s who answered bags seal true is t = acted s who (record (place s who) { phase = Idle }) refl is t
  by_empty s who answered bags seal false is t =
      let rest = remove (place s who).hand 0 in
      acted s who (record (place s who) { hand = rest; phase = after_call (length rest) answered bags seal }) refl is t

  gone_table : (s : State T J) (who : ℕ) (phase : Phase) → (place s who).registered ≡ true → HasTable s → HasTable (gone s who phase)
  gone_table s who Idle is t = t
  gone_table s who Look is t = acted s who (record (place s who) { phase = Publish s.epoch }) refl is t
  gone_table s who (Publish seen) is t = acted s who (published seen (place s who)) refl is t
  gone_table s who RepinLook is t = acted s who (relooked s.epoch (place s who)) refl is t
  gone_table s who (RepinPublish seen) is t = acted s who (repinned seen (place s who)) refl is t
  gone_table s who Seal is t = acted s who (record (place s who) { phase = Queue s.epoch }) refl is t
  gone_table s who (Queue seal) is t = acted s who (record (place s who) { bag = []; phase = Load }) refl is t
  gone_table s who ReleaseSeal is t = acted s who (record (place s who) { phase = ReleaseQueue s.epoch }) refl is t
  gone_table s who (ReleaseQueue seal) is t = table_put s.limits.participants s.table who blank (λ no. refl) t
  gone_table s who (Secure n) is t = acted s who (secured n (place s who)) refl is t
  gone_table s who SecureSeal is t = acted s who (record (place s who) { phase = SecureQueue s.epoch }) refl is t
  gone_table s who (SecureQueue seal) is t = acted s who (record (place s who) { bag = []; phase = Idle }) refl is t
  gone_table s who Load is t = acted s who (record (place s who) { phase = Inspect s.epoch 0 }) refl is t
  gone_table s who (Inspect seen at) is t = acted s who (record (place s who) { phase = inspection s seen at }) refl is t
  gone_table s who (Advance seen) is t = by_room s who seen (nat_lt seen s.limits.epoch_max) is t
  gone_table s who (Take answered bags) is t = by_due s who answered bags (is_due s answered && nat_lt bags 8) is t
  gone_table s who (Call answered bags seal) is t = by_empty s who answered bags seal (length (place s who).hand == 0) is t

  -- a call that found no memory
  by_needs : (s : State T J) (who : ℕ) (b : Bool) → HasTable s → HasTable (if b then in_phase s who Idle else s)
  by_needs s who true t =
      let spare = t.free who in
      table_put s.limits.participants s.table who (record (place s who) { phase = Idle }) (λ no. ap (λ (p : Participant J). record p { phase = Idle }) (spare no)) t
  by_needs s who false t = t

  refused_table : (s : State T J) (who : ℕ) (event : Event) (f : Fault) → HasTable s → HasTable (after s who event (Refused f))
  refused_table s who event F.TableFull t = t
  refused_table s who event F.CellsFull t = t
  refused_table s who event F.Memory t = by_needs s who (needs_memory event (place s who).phase) t
  refused_table s who event F.Unpinned t = t
  refused_table s who event F.Busy t = t
  refused_table s who event F.Count t = t
  refused_table s who event F.GuardOut t = t
  refused_table s who event (F.Registered n) t = t
  refused_table s who event F.Unknown t = t
  refused_table s who event F.Foreign t = t
  refused_table s who event F.Idle t = t
  refused_table s who event F.Limits t = t
  refused_table s who event F.InCall t = t

  moved_table : (s : State T J) (who : ℕ) (event : Event) → fault s who event ≡ None → HasTable s → HasTable (moved s who event)
  moved_table s who (Begin op) e t =
      let k = known_if_faultless (place s who).registered (event_fault (Begin op) (place s who).phase (place s who)) e in
      table_put s.limits.participants s.table who (begun_at op (place s who)) (begun_spare op (place s who) k.0) t
  moved_table s who Go e t =
      let k = known_if_faultless (place s who).registered (event_fault Go (place s who).phase (place s who)) e in
      gone_table s who (place s who).phase k.0 t

  by_outcome : (s : State T J) (who : ℕ) (event : Event) (e : Option Fault) (o : Outcome) → fault s who event ≡ e → IsOutcome s who event e o → HasTable s → HasTable (after s who event o)
  by_outcome s who event e (Refused f) is o t = refused_table s who event f t
  by_outcome s who event (Some f) Running is o t = absurd (cc o)
  by_outcome s who event (Some f) Done is o t = absurd (cc o)
  by_outcome s who event None Running is o t = moved_table s who event is t
  by_outcome s who event None Done is o t = moved_table s who event is t

  -- one step
  pub table_after : (s : State T J) (who : ℕ) (event : Event) (r : Report) → IsReport s who event r → HasTable s → HasTable (after s who event r.outcome)
  table_after s who event r is t = by_outcome s who event (fault s who event) r.outcome refl is.outcome t

  -- a place that is given out
  pub table_registered : (s : State T J) (n : ℕ) → HasTable s → HasTable (registered s n)
  table_registered s n t = table_put s.limits.participants s.table n (record (place s n) { registered = true; pins = 0 }) (λ no. absurd (cc no)) t

  by_full : (s : State T J) (who : ℕ) (work : Work J) (b : Bool) → (place s who).registered ≡ true → HasTable s → HasTable (if b then deferred_anew s who work else deferred s who work)
  by_full s who work true is t = acted s who (record (place s who) { bag = record { ticket = s.next; work = work } ∷ [] }) refl is t
  by_full s who work false is t = acted s who (record (place s who) { bag = (place s who).bag ++ record { ticket = s.next; work = work } ∷ [] }) refl is t

  -- who may defer a job is registered
  pub table_deferral : (s : State T J) (who : ℕ) (work : Work J) → defer_fault s who ≡ None → HasTable s → HasTable (after_deferral s who work)
  table_deferral s who work e t =
      let k = known_if_faultless (place s who).registered (or_count s.next (quiet_fault (place s who).phase (place s who))) e in
      by_full s who work (length (place s who).bag == 64) k.0 t

  -- a state has what its like has
  pub table_is : (s' s : State T J) → s' ≡ s → HasTable s → HasTable s'
  table_is s' s is t = rw is t
