-- What a flush that nobody steps beside leaves of the queue.
use Rattle.std.proofs.Common.{◌≡◌, ℕ, ◌+◌, ◌<◌, Bool, true, false, List, [], ◌∷◌, ◌++◌, ◌==◌, ◌&&◌, refl, sym, ◌∙◌, ap, subst, inl, length, arith, get_or-set_same}
use Rattle.std.specs.Prelude.{slice_index_or, if◌then◌else◌, nat_lt, remove, slice_set}
use Rattle.std.specs.List.{Contains}
use Rattle.std.proofs.lemmas.Bool.Decides.{nat_tests}
use Rattle.std.proofs.lemmas.List.{append-nil}
use Rattle.std.proofs.lemmas.List.Elements.{Contains-get_or}
use Rattle.crossbeam_epoch.specs.declared.bag.Deferral.{Deferral}
use Rattle.crossbeam_epoch.specs.declared.bag.Sealed.{Sealed}
use Rattle.crossbeam_epoch.specs.declared.world.participant.Participant.{Participant}
use Rattle.crossbeam_epoch.specs.declared.world.participant.Phase.{Phase}
use Rattle.crossbeam_epoch.specs.declared.world.participant.Phase.TheVariants.{Idle, Look, Publish, RepinLook, RepinPublish, Seal, Queue, ReleaseSeal, ReleaseQueue, Secure, SecureSeal, SecureQueue, Load, Inspect, Advance, Take, Call}
use Rattle.crossbeam_epoch.specs.declared.world.report.Event.TheVariants.{Begin, Go}
use Rattle.crossbeam_epoch.specs.declared.world.report.Op.TheVariants as O
use Rattle.crossbeam_epoch.specs.declared.world.report.Report.{Report}
use Rattle.crossbeam_epoch.specs.world.Fits.{Fits}
use Rattle.crossbeam_epoch.specs.world.History.{Mark}
use Rattle.crossbeam_epoch.specs.world.Machine.{State, place, blank, with_place, in_phase, queued, ends_advance, inspection, is_due, no_bag, taken, after_call, called_one}
use Rattle.crossbeam_epoch.specs.world.Progress.{Orderly}
use Rattle.crossbeam_epoch.specs.world.Sealing.{IsSealing}
use Rattle.crossbeam_epoch.specs.world.Steps.{event_fault, gone, after, IsReport}
use Rattle.crossbeam_epoch.specs.world.Rounds.{Finishes, TakesOff, IsSealedBag}
use Rattle.crossbeam_epoch.proofs.lemmas.world.Collecting.{IsTaking, due_front, no_more, none_taken, not_due, one_more}
use Rattle.crossbeam_epoch.proofs.lemmas.world.Jobs.{no_items}
use Rattle.crossbeam_epoch.proofs.lemmas.world.Rounds.{IsKept, busy, kept_from, kept_step, sealed_none, sealed_own, some_jobs}
use Rattle.crossbeam_epoch.proofs.lemmas.world.Runs.{in_table, known_if_faultless}
use Rattle.crossbeam_epoch.proofs.lemmas.world.Wholes.{Unrefused, fault_unrefused, as_moved, finishing}

-- the queue as a flush of this bag found it, with the bag once it is sealed
abbrev IsFound : {J : Type 0} → List (Sealed J) → List (Deferral J) → (List (Sealed J) → Type 0) → Type 0
IsFound {J} queue bag P = (sealed : List (Sealed J)) × IsSealedBag bag sealed × P (queue ++ sealed)

-- where a flush stands
abbrev TakesAt : {J : Type 0} → (expiry : ℕ) → List (Sealed J) → List (Deferral J) → ℕ → List (Sealed J) → Participant J → Phase → Type 0
TakesAt expiry found bag epoch queue p Seal = (queue ≡ found) × (p.bag ≡ bag) × (bag ≡ [] → ⊥)
TakesAt expiry found bag epoch queue p (Queue seal) = (queue ≡ found) × (p.bag ≡ bag) × (bag ≡ [] → ⊥)
TakesAt expiry found bag epoch queue p Load = IsFound found bag (λ all. queue ≡ all)
TakesAt expiry found bag epoch queue p (Inspect seen at) = IsFound found bag (λ all. (queue ≡ all) × (seen ≡ epoch))
TakesAt expiry found bag epoch queue p (Advance seen) = IsFound found bag (λ all. (queue ≡ all) × (seen ≡ epoch))
TakesAt expiry found bag epoch queue p (Take answered bags) = IsFound found bag (λ all. (answered ≡ epoch) × IsTaking expiry epoch bags all queue)
TakesAt expiry found bag epoch queue p (Call answered bags seal) = IsFound found bag (λ all. (answered ≡ epoch) × IsTaking expiry epoch bags all queue × (0 < length p.hand))
TakesAt expiry found bag epoch queue p Idle = IsFound found bag (λ all. TakesOff expiry epoch all queue)
TakesAt expiry found bag epoch queue p _ = ⊥

module _ {T J : Type 0} (who expiry : ℕ) (found : List (Sealed J)) (bag : List (Deferral J)) where
  abbrev Takings : State T J → Type 0
  Takings now = TakesAt expiry found bag now.epoch now.queue (place now who) (place now who).phase

  put : (now' : State T J) (table : List (Participant J)) (p : Participant J) → now'.table ≡ slice_set table who p → who < length table → TakesAt expiry found bag now'.epoch now'.queue p p.phase → Takings now'
  put now' table p is lt c = rw (is, get_or-set_same table who p blank lt) c

  inspects : (now : State T J) (seen at : ℕ) (ends more : Bool) → TakesAt expiry found bag now.epoch now.queue (place now who) (Inspect seen at)
      → TakesAt expiry found bag now.epoch now.queue (record (place now who) { phase = if ends then Take seen 0 else if more then Inspect seen (at + 1) else Advance seen }) (if ends then Take seen 0 else if more then Inspect seen (at + 1) else Advance seen)
  inspects now seen at true more c = (c.0, c.1, (c.2.1, none_taken expiry now.epoch (found ++ c.0) now.queue c.2.0))
  inspects now seen at false true c = c
  inspects now seen at false false c = c

  advances : (now : State T J) (seen : ℕ) (b : Bool) → who < length now.table → TakesAt expiry found bag now.epoch now.queue (place now who) (Advance seen)
      → Takings (if b then record (in_phase now who (Take (seen + 1) 0)) { epoch = seen + 1 } else in_phase now who (Take seen 0))
  advances now seen true lt c =
      put (record (in_phase now who (Take (seen + 1) 0)) { epoch = seen + 1 }) now.table (record (place now who) { phase = Take (seen + 1) 0 }) refl lt
      (c.0, c.1, (refl, none_taken expiry (seen + 1) (found ++ c.0) now.queue c.2.0))
  advances now seen false lt c =
      put (in_phase now who (Take seen 0)) now.table (record (place now who) { phase = Take seen 0 }) refl lt
      (c.0, c.1, (c.2.1, none_taken expiry now.epoch (found ++ c.0) now.queue c.2.0))

  takes : (now : State T J) (answered bags : ℕ) (b : Bool) → who < length now.table → now.limits.expiry ≡ expiry → ((c : Sealed J) → Contains now.queue c → 0 < length c.jobs)
      → (is_due now answered && nat_lt bags 8) ≡ b → TakesAt expiry found bag now.epoch now.queue (place now who) (Take answered bags)
      → Takings (if b then taken now who answered bags else in_phase now who Idle)
  takes now answered bags true lt same filled e c =
      let front = slice_index_or now.queue 0 no_bag in
      let d = due_front 0 0 who expiry found bag now answered bags e in
      put (taken now who answered bags) now.table (record (place now who) { hand = front.jobs; phase = Call answered (bags + 1) front.seal }) refl lt
      (c.0, c.1, (c.2.0, one_more expiry now.epoch bags (found ++ c.0) now.queue c.2.1 d.0 (let due = d.1 in let at = c.2.0 in omega arith) d.2, filled front (Contains-get_or now.queue 0 no_bag d.0)))
  takes now answered bags false lt same filled e c =
      put (in_phase now who Idle) now.table (record (place now who) { phase = Idle }) refl lt
      (c.0, c.1, no_more expiry now.epoch bags (found ++ c.0) now.queue c.2.1 (not_due expiry now.epoch bags now.queue c.2.1.few (rw (same, c.2.0) at e)))

  calls_one : (now : State T J) (answered bags seal : ℕ) (none : Bool) → who < length now.table → (length (place now who).hand == 0) ≡ none
      → TakesAt expiry found bag now.epoch now.queue (place now who) (Call answered bags seal)
      → Takings (if none then in_phase now who Idle else called_one now who answered bags seal)
  calls_one now answered bags seal true lt e c = absurd (let some = c.2.2 in grind (arith, nat_tests))
  calls_one now answered bags seal false lt e c =
      let rest = remove (place now who).hand 0 in
      put (called_one now who answered bags seal) now.table (record (place now who) { hand = rest; phase = after_call (length rest) answered bags seal }) refl lt
      (after_one rest (nat_lt 0 (length rest)) (nat_lt bags 8) refl refl)
    where
      after_one : (rest : List (Deferral J)) (more room : Bool) → nat_lt 0 (length rest) ≡ more → nat_lt bags 8 ≡ room
          → TakesAt expiry found bag now.epoch now.queue (record (place now who) { hand = rest; phase = if more then Call answered bags seal else if room then Take answered bags else Idle }) (if more then Call answered bags seal else if room then Take answered bags else Idle)
      after_one rest true room m r = (c.0, c.1, (c.2.0, c.2.1, grind (arith, nat_tests)))
      after_one rest false true m r = (c.0, c.1, (c.2.0, c.2.1))
      after_one rest false false m r = (c.0, c.1, no_more expiry now.epoch bags (found ++ c.0) now.queue c.2.1 (inl (let few = c.2.1.few in grind (arith, nat_tests))))

  goes : (now : State T J) (phase : Phase) → who < length now.table → now.limits.expiry ≡ expiry → ((c : Sealed J) → Contains now.queue c → 0 < length c.jobs) → (phase ≡ Idle → ⊥)
      → TakesAt expiry found bag now.epoch now.queue (place now who) phase → Takings (gone now who phase)
  goes now Seal lt same filled busy c = put (in_phase now who (Queue now.epoch)) now.table (record (place now who) { phase = Queue now.epoch }) refl lt c
  goes now (Queue seal) lt same filled busy c =
      let b : Sealed J = record { seal = seal; jobs = (place now who).bag } in
      put (queued now who seal Load) now.table (record (place now who) { bag = []; phase = Load }) refl lt
      (b ∷ [], sealed_own bag (place now who).bag seal c.1 c.2, ap (λ (q : List (Sealed J)). q ++ b ∷ []) c.0)
  goes now Load lt same filled busy c = put (in_phase now who (Inspect now.epoch 0)) now.table (record (place now who) { phase = Inspect now.epoch 0 }) refl lt (c.0, c.1, (c.2, refl))
  goes now (Inspect seen at) lt same filled busy c =
      put (in_phase now who (inspection now seen at)) now.table (record (place now who) { phase = inspection now seen at }) refl lt (inspects now seen at (ends_advance (place now at).word seen) (nat_lt (at + 1) (length now.table)) c)
  goes now (Advance seen) lt same filled busy c = advances now seen (nat_lt seen now.limits.epoch_max) lt c
  goes now (Take answered bags) lt same filled busy c = takes now answered bags (is_due now answered && nat_lt bags 8) lt same filled refl c
  goes now (Call answered bags seal) lt same filled busy c = calls_one now answered bags seal (length (place now who).hand == 0) lt refl c
  goes now Idle lt same filled busy c = absurd (busy refl)
  goes now Look lt same filled busy c = absurd c
  goes now (Publish seen) lt same filled busy c = absurd c
  goes now RepinLook lt same filled busy c = absurd c
  goes now (RepinPublish seen) lt same filled busy c = absurd c
  goes now ReleaseSeal lt same filled busy c = absurd c
  goes now (ReleaseQueue seal) lt same filled busy c = absurd c
  goes now (Secure n) lt same filled busy c = absurd c
  goes now SecureSeal lt same filled busy c = absurd c
  goes now (SecureQueue seal) lt same filled busy c = absurd c

  begins : (s : State T J) (none : Bool) → who < length s.table → (length (place s who).bag == 0) ≡ none → s.queue ≡ found → (place s who).bag ≡ bag → Takings (with_place s who (record (place s who) { phase = if none then Load else Seal }))
  begins s true lt is q b =
      put (with_place s who (record (place s who) { phase = Load })) s.table (record (place s who) { phase = Load }) refl lt ([], sealed_none bag (sym b ∙ no_items (place s who).bag is), q ∙ sym (append-nil found))
  begins s false lt is q b = put (with_place s who (record (place s who) { phase = Seal })) s.table (record (place s who) { phase = Seal }) refl lt (q, b, λ none. some_jobs (place s who).bag is (b ∙ none))

-- a flush takes what is due by the epoch that it leaves
pub flush_takes : {T J : Type 0} (s s' : State T J) (who : ℕ) (h : List Mark) → Fits h s → Orderly s → IsSealing s → Finishes s who O.Flush s'
    → (sealed : List (Sealed J)) × IsSealedBag (place s who).bag sealed × TakesOff s.limits.expiry s'.epoch (s.queue ++ sealed) s'.queue
flush_takes {T} {J} s s' who h f o i fin =
    let x = finishing (λ now. IsKept s who now × Takings {T = T} {J = J} who s.limits.expiry s.queue (place s who).bag now) s who O.Flush s' first next fin in
    rw x.1 at x.0.1
  where
    first : (r : Report) → IsReport s who (Begin O.Flush) r → Unrefused r.outcome → IsKept s who (after s who (Begin O.Flush) r.outcome) × Takings {T = T} {J = J} who s.limits.expiry s.queue (place s who).bag (after s who (Begin O.Flush) r.outcome)
    first r report u =
        let k = known_if_faultless (place s who).registered (event_fault (Begin O.Flush) (place s who).phase (place s who)) (fault_unrefused s who (Begin O.Flush) r report u) in (
          kept_step s who s (Begin O.Flush) r (kept_from s who h f o i) report,
          subst (Takings {T = T} {J = J} who s.limits.expiry s.queue (place s who).bag) (sym (as_moved s who (Begin O.Flush) r.outcome u)) (begins who s.limits.expiry s.queue (place s who).bag s (length (place s who).bag == 0) (in_table s who k.0) refl refl refl),
        )

    next : (now : State T J) (r : Report) → IsKept s who now × Takings {T = T} {J = J} who s.limits.expiry s.queue (place s who).bag now → IsReport now who Go r → Unrefused r.outcome → IsKept s who (after now who Go r.outcome) × Takings {T = T} {J = J} who s.limits.expiry s.queue (place s who).bag (after now who Go r.outcome)
    next now r inv report u =
        let k = known_if_faultless (place now who).registered (event_fault Go (place now who).phase (place now who)) (fault_unrefused now who Go r report u) in (
          kept_step s who now Go r inv.0 report,
          subst (Takings {T = T} {J = J} who s.limits.expiry s.queue (place s who).bag) (sym (as_moved now who Go r.outcome u))
              (goes who s.limits.expiry s.queue (place s who).bag now (place now who).phase (in_table now who k.0) (ap (λ l. l.expiry) inv.0.limits) inv.0.sealing.filled (busy (place now who).phase (place now who) k.1) inv.1),
        )
