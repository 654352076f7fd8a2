-- What rounds make of the epoch and of the queue.
use Rattle.std.proofs.Common.{◌≡◌, ◌≢◌, ◌⊎◌, ℕ, zero, suc, ◌+◌, ◌-◌, ◌*◌, ◌<◌, ◌≤◌, Bool, true, false, List, [], ◌∷◌, ◌++◌, ◌==◌, Option, Some, None, refl, sym, ◌∙◌, ap, subst, inl, inr, length, arith, get_or-set_same, append_assoc}
use Rattle.std.specs.Prelude.{if◌then◌else◌, nat_lt, nat_le, is_none, slice_set}
use Rattle.std.specs.Int.{div_ceil}
use Rattle.std.specs.List.{Contains, sum_by}
use Rattle.std.proofs.lemmas.Bool.{cases_eq}
use Rattle.std.proofs.lemmas.Bool.Decides.{nat_tests}
use Rattle.std.proofs.lemmas.List.{append-nil, length-append}
use Rattle.std.proofs.lemmas.List.Elements.{Contains-append_right}
use Rattle.std.proofs.lemmas.List.Sums.{sum_by-cons}
use Rattle.std.proofs.lemmas.Grind.{div_ceil_times}
use Rattle.crossbeam_epoch.specs.declared.bag.Deferral.{Deferral}
use Rattle.crossbeam_epoch.specs.declared.bag.Sealed.{Sealed}
use Rattle.crossbeam_epoch.specs.declared.names.Name.{Name}
use Rattle.crossbeam_epoch.specs.declared.world.participant.Participant.{Participant}
use Rattle.crossbeam_epoch.specs.declared.world.participant.Phase.{Phase}
use Rattle.crossbeam_epoch.specs.declared.world.participant.Phase.TheVariants.{Idle, Look, Publish, RepinLook, RepinPublish, Seal, Queue, ReleaseSeal, ReleaseQueue, Secure, SecureSeal, SecureQueue, Load, Inspect, Advance, Take, Call}
use Rattle.crossbeam_epoch.specs.declared.world.report.Event.{Event}
use Rattle.crossbeam_epoch.specs.declared.world.report.Event.TheVariants.{Begin, Go}
use Rattle.crossbeam_epoch.specs.declared.world.report.Op.TheVariants as O
use Rattle.crossbeam_epoch.specs.declared.world.report.Report.{Report}
use Rattle.crossbeam_epoch.specs.world.Fits.{Fits, IsTable, in_bag, job_count, one, weight}
use Rattle.crossbeam_epoch.specs.world.History.{Mark}
use Rattle.crossbeam_epoch.specs.world.Machine.{State, place, blank, with_place, in_phase, published, queued}
use Rattle.crossbeam_epoch.specs.world.Progress.{Orderly, JobsAfter}
use Rattle.crossbeam_epoch.specs.world.Steps.{event_fault, gone, after, marks, IsReport}
use Rattle.crossbeam_epoch.specs.world.Sealing.{IsSealing}
use Rattle.crossbeam_epoch.specs.world.Rounds.{Finishes, IsRound, AreRounds, IsQuiet, IsNotDue, TakesOff, IsSealedBag, IsEmptied}
use Rattle.crossbeam_epoch.proofs.lemmas.world.Collecting.{IsNear, next_epoch, IsHeld, CollectAt, IsAlone, collect_goes}
use Rattle.crossbeam_epoch.proofs.lemmas.world.Endings.{all_one}
use Rattle.crossbeam_epoch.proofs.lemmas.world.Jobs.{no_items}
use Rattle.crossbeam_epoch.proofs.lemmas.world.Moves.{contains_tail}
use Rattle.crossbeam_epoch.proofs.lemmas.world.Progress.{moves_reported}
use Rattle.crossbeam_epoch.proofs.lemmas.world.Runs.{in_table, known_if_faultless, begin_idle, fits_after}
use Rattle.crossbeam_epoch.proofs.lemmas.world.Sealing.{sealing_after}
use Rattle.crossbeam_epoch.proofs.lemmas.world.Wholes.{Unrefused, fault_unrefused, as_moved, finishing}

-- some bags at the front are gone
abbrev pub Sheds : {J : Type 0} → List (Sealed J) → List (Sealed J) → Type 0
Sheds {J} queue queue' = (gone : List (Sealed J)) × (queue ≡ gone ++ queue')

-- where a pin stands
abbrev PinAt : {J : Type 0} → (old new who expiry : ℕ) → List (Sealed J) → List (Deferral J) → ℕ → List (Sealed J) → Participant J → Phase → Type 0
PinAt old new who expiry found bag epoch queue p Look = (epoch ≡ old) × (queue ≡ found) × (p.bag ≡ bag)
PinAt old new who expiry found bag epoch queue p (Publish seen) = (epoch ≡ old) × (queue ≡ found) × (p.bag ≡ bag) × (seen ≡ old)
PinAt old new who expiry found bag epoch queue p Idle = IsHeld old bag p × IsNear old new epoch × Sheds found queue
PinAt old new who expiry found bag epoch queue p phase = CollectAt old new who expiry found bag epoch queue p phase

-- where a flush stands
abbrev FlushAt : {J : Type 0} → (old new who expiry : ℕ) → List (Sealed J) → List (Deferral J) → ℕ → List (Sealed J) → Participant J → Phase → Type 0
FlushAt old new who expiry found bag epoch queue p Seal = IsHeld old bag p × IsNear old new epoch × (queue ≡ found) × (bag ≡ [] → ⊥)
FlushAt old new who expiry found bag epoch queue p (Queue seal) = IsHeld old bag p × IsNear old new epoch × (queue ≡ found) × (bag ≡ [] → ⊥)
FlushAt {J} old new who expiry found bag epoch queue p phase = (sealed : List (Sealed J)) × IsSealedBag bag sealed × CollectAt old new who expiry (found ++ sealed) [] epoch queue p phase

module _ {J : Type 0} where
  pin_collects : (old new who expiry : ℕ) (found : List (Sealed J)) (bag : List (Deferral J)) (epoch : ℕ) (queue : List (Sealed J)) (p : Participant J) (phase : Phase)
      → CollectAt old new who expiry found bag epoch queue p phase → PinAt old new who expiry found bag epoch queue p phase
  pin_collects old new who expiry found bag epoch queue p Idle c = (c.0, inr c.1, (c.2.taken, c.2.front))
  pin_collects old new who expiry found bag epoch queue p Look c = absurd c
  pin_collects old new who expiry found bag epoch queue p (Publish seen) c = absurd c
  pin_collects old new who expiry found bag epoch queue p RepinLook c = c
  pin_collects old new who expiry found bag epoch queue p (RepinPublish seen) c = c
  pin_collects old new who expiry found bag epoch queue p Seal c = c
  pin_collects old new who expiry found bag epoch queue p (Queue seal) c = c
  pin_collects old new who expiry found bag epoch queue p ReleaseSeal c = c
  pin_collects old new who expiry found bag epoch queue p (ReleaseQueue seal) c = c
  pin_collects old new who expiry found bag epoch queue p (Secure n) c = c
  pin_collects old new who expiry found bag epoch queue p SecureSeal c = c
  pin_collects old new who expiry found bag epoch queue p (SecureQueue seal) c = c
  pin_collects old new who expiry found bag epoch queue p Load c = c
  pin_collects old new who expiry found bag epoch queue p (Inspect seen at) c = c
  pin_collects old new who expiry found bag epoch queue p (Advance seen) c = c
  pin_collects old new who expiry found bag epoch queue p (Take answered bags) c = c
  pin_collects old new who expiry found bag epoch queue p (Call answered bags seal) c = c

  flush_collects : (old new who expiry : ℕ) (found : List (Sealed J)) (bag : List (Deferral J)) (epoch : ℕ) (queue : List (Sealed J)) (p : Participant J) (phase : Phase) (sealed : List (Sealed J)) → IsSealedBag bag sealed
      → CollectAt old new who expiry (found ++ sealed) [] epoch queue p phase → FlushAt old new who expiry found bag epoch queue p phase
  flush_collects old new who expiry found bag epoch queue p Seal sealed own c = absurd c
  flush_collects old new who expiry found bag epoch queue p (Queue seal) sealed own c = absurd c
  flush_collects old new who expiry found bag epoch queue p Idle sealed own c = (sealed, own, c)
  flush_collects old new who expiry found bag epoch queue p Look sealed own c = (sealed, own, c)
  flush_collects old new who expiry found bag epoch queue p (Publish seen) sealed own c = (sealed, own, c)
  flush_collects old new who expiry found bag epoch queue p RepinLook sealed own c = (sealed, own, c)
  flush_collects old new who expiry found bag epoch queue p (RepinPublish seen) sealed own c = (sealed, own, c)
  flush_collects old new who expiry found bag epoch queue p ReleaseSeal sealed own c = (sealed, own, c)
  flush_collects old new who expiry found bag epoch queue p (ReleaseQueue seal) sealed own c = (sealed, own, c)
  flush_collects old new who expiry found bag epoch queue p (Secure n) sealed own c = (sealed, own, c)
  flush_collects old new who expiry found bag epoch queue p SecureSeal sealed own c = (sealed, own, c)
  flush_collects old new who expiry found bag epoch queue p (SecureQueue seal) sealed own c = (sealed, own, c)
  flush_collects old new who expiry found bag epoch queue p Load sealed own c = (sealed, own, c)
  flush_collects old new who expiry found bag epoch queue p (Inspect seen at) sealed own c = (sealed, own, c)
  flush_collects old new who expiry found bag epoch queue p (Advance seen) sealed own c = (sealed, own, c)
  flush_collects old new who expiry found bag epoch queue p (Take answered bags) sealed own c = (sealed, own, c)
  flush_collects old new who expiry found bag epoch queue p (Call answered bags seal) sealed own c = (sealed, own, c)

  -- a bag that isn't empty is sealed as one bag with its jobs
  pub sealed_own : (bag jobs : List (Deferral J)) (seal : ℕ) → jobs ≡ bag → (bag ≡ [] → ⊥) → IsSealedBag bag ((record { seal = seal; jobs = jobs }) ∷ [])
  sealed_own [] jobs seal is some = absurd (some refl)
  sealed_own (e ∷ bag) jobs seal is some = (seal, ap (λ (x : List (Deferral J)). (record { seal = seal; jobs = x }) ∷ []) is)

  -- an empty bag isn't sealed
  pub sealed_none : (bag : List (Deferral J)) → bag ≡ [] → IsSealedBag bag []
  sealed_none [] e = refl
  sealed_none (x ∷ bag) e = absurd (cc e)

  -- a bag whose count of jobs isn't zero isn't empty
  pub some_jobs : (bag : List (Deferral J)) → (length bag == 0) ≡ false → bag ≡ [] → ⊥
  some_jobs [] e is = absurd (cc e)
  some_jobs (x ∷ bag) e is = absurd (cc is)

  -- a participant whose call may go on isn't between calls
  pub busy : (phase : Phase) (p : Participant J) → event_fault Go phase p ≡ None → phase ≡ Idle → ⊥
  busy phase p e is = let x = rw is at e in absurd (cc x)

-- what stays of a state while one participant steps, and what holds of each that follows
pub record IsKept {T J : Type 0} (s : State T J) (who : ℕ) (now : State T J) : Type 0 where
  pub past : List Mark
  pub fits : Fits past now
  pub orderly : Orderly now
  pub sealing : IsSealing now
  pub limits : now.limits ≡ s.limits
  pub long : length now.table ≡ length s.table
  pub others : (q : ℕ) → q ≢ who → place now q ≡ place s q
  pub fewer : (f : Deferral J → ℕ) → weight f now ≤ weight f s

module _ {T J : Type 0} where
  fewer_jobs : (s s' : State T J) (c : Option (ℕ × Option Name)) (f : Deferral J → ℕ) → JobsAfter s c s' → weight f s' ≤ weight f s
  fewer_jobs s s' None f j = let e = j.2 f in omega (arith, e)
  fewer_jobs s s' (Some c) f j = let e = j.4 f in omega (arith, e)

  -- what stays of a state while one participant steps stays over one step more
  pub kept_step : (s : State T J) (who : ℕ) (now : State T J) (event : Event) (r : Report) → IsKept s who now → IsReport now who event r → IsKept s who (after now who event r.outcome)
  kept_step s who now event r k is =
      let m = moves_reported now who event r k.orderly is in
      record {
        past = marks now who event r k.past;
        fits = fits_after k.past now who event r is k.fits;
        orderly = m.orderly;
        sealing = sealing_after k.past now who event r is k.fits k.sealing;
        limits = m.limits ∙ k.limits;
        long = m.table ∙ k.long;
        others = λ q ne. m.others q ne ∙ k.others q ne;
        fewer = λ f. (let a = fewer_jobs now (after now who event r.outcome) r.called f m.jobs in let b = k.fewer f in omega (arith, a, b));
      }

  -- what is to stay of a state holds of the state itself
  pub kept_from : (s : State T J) (who : ℕ) (h : List Mark) → Fits h s → Orderly s → IsSealing s → IsKept s who s
  kept_from s who h f o i = record { past = h; fits = f; orderly = o; sealing = i; limits = refl; long = refl; others = λ q ne. refl; fewer = λ w. omega arith }

  -- what stays of a state to a second one, and of that to a third, stays to the third
  pub kept_on : (s now later : State T J) (who : ℕ) → IsKept s who now → IsKept now who later → IsKept s who later
  kept_on s now later who a b = record { past = b.past; fits = b.fits; orderly = b.orderly; sealing = b.sealing; limits = b.limits ∙ a.limits; long = b.long ∙ a.long; others = λ q ne. b.others q ne ∙ a.others q ne; fewer = λ f. (let x = a.fewer f in let y = b.fewer f in omega (arith, x, y)) }

module _ {T J : Type 0} (old new who expiry : ℕ) (found : List (Sealed J)) (bag : List (Deferral J)) where
  abbrev Pins : State T J → Type 0
  Pins now = PinAt old new who expiry found bag now.epoch now.queue (place now who) (place now who).phase

  abbrev Flushes : State T J → Type 0
  Flushes now = FlushAt old new who expiry found bag now.epoch now.queue (place now who) (place now who).phase

  put_pin : (now' : State T J) (table : List (Participant J)) (p : Participant J) → now'.table ≡ slice_set table who p → who < length table → PinAt old new who expiry found bag now'.epoch now'.queue p p.phase → Pins now'
  put_pin now' table p is lt c = rw (is, get_or-set_same table who p blank lt) c

  put_flush : (now' : State T J) (table : List (Participant J)) (p : Participant J) → now'.table ≡ slice_set table who p → who < length table → FlushAt old new who expiry found bag now'.epoch now'.queue p p.phase → Flushes now'
  put_flush now' table p is lt c = rw (is, get_or-set_same table who p blank lt) c

  -- a pin
  pin_collecting : (now : State T J) (phase : Phase) → who < length now.table → IsAlone {T = T} {J = J} old new who expiry found bag now → (place now who).phase ≡ phase → (phase ≡ Idle → ⊥)
      → CollectAt old new who expiry found bag now.epoch now.queue (place now who) phase → Pins (gone now who phase)
  pin_collecting now phase lt alone is busy c =
      let next = gone now who phase in
      pin_collects old new who expiry found bag next.epoch next.queue (place next who) (place next who).phase (collect_goes old new who expiry found bag now phase lt alone is busy c)

  pin_published : (now : State T J) (seen : ℕ) (first : Bool) → who < length now.table → PinAt old new who expiry found bag now.epoch now.queue (place now who) (Publish seen)
      → PinAt old new who expiry found bag now.epoch now.queue (record (published seen (place now who)) { phase = if first then Load else Idle }) (if first then Load else Idle)
  pin_published now seen true lt c = (record { word = ap (λ (x : ℕ). Some x) c.3; one = refl; jobs = c.2 }, inl c.0, c.1)
  pin_published now seen false lt c = (record { word = ap (λ (x : ℕ). Some x) c.3; one = refl; jobs = c.2 }, inl c.0, ([], sym c.1))

  pin_goes : (now : State T J) (phase : Phase) → who < length now.table → IsAlone {T = T} {J = J} old new who expiry found bag now → (place now who).phase ≡ phase → (phase ≡ Idle → ⊥)
      → PinAt old new who expiry found bag now.epoch now.queue (place now who) phase → Pins (gone now who phase)
  pin_goes now Look lt alone is busy c = put_pin (in_phase now who (Publish now.epoch)) now.table (record (place now who) { phase = Publish now.epoch }) refl lt (c.0, c.1, c.2, c.0)
  pin_goes now (Publish seen) lt alone is busy c = put_pin (with_place now who (published seen (place now who))) now.table (published seen (place now who)) refl lt (pin_published now seen ((place now who).pins == 0) lt c)
  pin_goes now Idle lt alone is busy c = absurd (busy refl)
  pin_goes now RepinLook lt alone is busy c = absurd c
  pin_goes now (RepinPublish seen) lt alone is busy c = absurd c
  pin_goes now Seal lt alone is busy c = absurd c
  pin_goes now (Queue seal) lt alone is busy c = absurd c
  pin_goes now ReleaseSeal lt alone is busy c = absurd c
  pin_goes now (ReleaseQueue seal) lt alone is busy c = absurd c
  pin_goes now (Secure n) lt alone is busy c = absurd c
  pin_goes now SecureSeal lt alone is busy c = absurd c
  pin_goes now (SecureQueue seal) lt alone is busy c = absurd c
  pin_goes now Load lt alone is busy c = pin_collecting now Load lt alone is busy c
  pin_goes now (Inspect seen at) lt alone is busy c = pin_collecting now (Inspect seen at) lt alone is busy c
  pin_goes now (Advance seen) lt alone is busy c = pin_collecting now (Advance seen) lt alone is busy c
  pin_goes now (Take answered bags) lt alone is busy c = pin_collecting now (Take answered bags) lt alone is busy c
  pin_goes now (Call answered bags seal) lt alone is busy c = pin_collecting now (Call answered bags seal) lt alone is busy c

  -- a flush
  flush_collecting : (now : State T J) (phase : Phase) → who < length now.table → ((sealed : List (Sealed J)) → IsAlone {T = T} {J = J} old new who expiry (found ++ sealed) [] now) → (place now who).phase ≡ phase → (phase ≡ Idle → ⊥)
      → ((sealed : List (Sealed J)) × IsSealedBag bag sealed × CollectAt old new who expiry (found ++ sealed) [] now.epoch now.queue (place now who) phase) → Flushes (gone now who phase)
  flush_collecting now phase lt alone is busy c =
      let next = gone now who phase in
      flush_collects old new who expiry found bag next.epoch next.queue (place next who) (place next who).phase c.0 c.1 (collect_goes old new who expiry (found ++ c.0) [] now phase lt (alone c.0) is busy c.2)

  flush_goes : (now : State T J) (phase : Phase) → who < length now.table → ((sealed : List (Sealed J)) → IsAlone {T = T} {J = J} old new who expiry (found ++ sealed) [] now) → (place now who).phase ≡ phase → (phase ≡ Idle → ⊥)
      → FlushAt old new who expiry found bag now.epoch now.queue (place now who) phase → Flushes (gone now who phase)
  flush_goes now Seal lt alone is busy c = put_flush (in_phase now who (Queue now.epoch)) now.table (record (place now who) { phase = Queue now.epoch }) refl lt (record { word = c.0.word; one = c.0.one; jobs = c.0.jobs }, c.1, c.2, c.3)
  flush_goes now (Queue seal) lt alone is busy c =
      let b : Sealed J = record { seal = seal; jobs = (place now who).bag } in
      put_flush (queued now who seal Load) now.table (record (place now who) { bag = []; phase = Load }) refl lt
      (b ∷ [], sealed_own bag (place now who).bag seal c.0.jobs c.3, (record { word = c.0.word; one = c.0.one; jobs = refl }, c.1, ap (λ (q : List (Sealed J)). q ++ b ∷ []) c.2))
  flush_goes now Idle lt alone is busy c = absurd (busy refl)
  flush_goes now Look lt alone is busy c = absurd c.2
  flush_goes now (Publish seen) lt alone is busy c = absurd c.2
  flush_goes now RepinLook lt alone is busy c = absurd c.2
  flush_goes now (RepinPublish seen) lt alone is busy c = absurd c.2
  flush_goes now ReleaseSeal lt alone is busy c = absurd c.2
  flush_goes now (ReleaseQueue seal) lt alone is busy c = absurd c.2
  flush_goes now (Secure n) lt alone is busy c = absurd c.2
  flush_goes now SecureSeal lt alone is busy c = absurd c.2
  flush_goes now (SecureQueue seal) lt alone is busy c = absurd c.2
  flush_goes now Load lt alone is busy c = flush_collecting now Load lt alone is busy c
  flush_goes now (Inspect seen at) lt alone is busy c = flush_collecting now (Inspect seen at) lt alone is busy c
  flush_goes now (Advance seen) lt alone is busy c = flush_collecting now (Advance seen) lt alone is busy c
  flush_goes now (Take answered bags) lt alone is busy c = flush_collecting now (Take answered bags) lt alone is busy c
  flush_goes now (Call answered bags seal) lt alone is busy c = flush_collecting now (Call answered bags seal) lt alone is busy c

  -- an unpin
  abbrev Unpins : State T J → Type 0
  Unpins now = (now.epoch ≡ new) × (now.queue ≡ found) × ((place now who).word ≡ None) × ((place now who).bag ≡ bag) × ((place now who).phase ≡ Idle)

  alone_of : (s now : State T J) → ((q : ℕ) → q ≢ who → (place s q).word ≡ None) → new ≡ next_epoch old s.limits.epoch_max → s.limits.expiry ≡ expiry → IsKept s who now → (queue : List (Sealed J)) (jobs : List (Deferral J))
      → IsAlone {T = T} {J = J} old new who expiry queue jobs now
  alone_of s now un is same k queue jobs = record {
    others = λ q ne. ap (λ (p : Participant J). p.word) (k.others q ne) ∙ un q ne;
    expiry_is = rw k.limits same;
    next_is = rw k.limits is;
    filled = k.sealing.filled;
  }

  begins_pin : (s : State T J) (none : Bool) → who < length s.table → is_none (place s who).word ≡ none → (place s who).word ≡ None → s.epoch ≡ old → s.queue ≡ found → (place s who).bag ≡ bag
      → Pins (with_place s who (if none then record (place s who) { phase = Look } else record (place s who) { guards = (place s who).guards + 1 }))
  begins_pin s true lt is un e q b = put_pin (with_place s who (record (place s who) { phase = Look })) s.table (record (place s who) { phase = Look }) refl lt (e, q, b)
  begins_pin s false lt is un e q b = let x = rw un at is in absurd (cc x)

  begins_flush : (s : State T J) (none : Bool) → who < length s.table → (length (place s who).bag == 0) ≡ none → IsHeld old bag (place s who) → IsNear old new s.epoch → s.queue ≡ found
      → Flushes (with_place s who (record (place s who) { phase = if none then Load else Seal }))
  begins_flush s true lt is h near q =
      let none : bag ≡ [] = sym h.jobs ∙ no_items (place s who).bag is in
      put_flush (with_place s who (record (place s who) { phase = Load })) s.table (record (place s who) { phase = Load }) refl lt
      ([], sealed_none bag none, (record { word = h.word; one = h.one; jobs = h.jobs ∙ none }, near, q ∙ sym (append-nil found)))
  begins_flush s false lt is h near q =
      put_flush (with_place s who (record (place s who) { phase = Seal })) s.table (record (place s who) { phase = Seal }) refl lt
      (record { word = h.word; one = h.one; jobs = h.jobs }, near, q, λ none. some_jobs (place s who).bag is (h.jobs ∙ none))

  begins_unpin : (s : State T J) (last : Bool) → who < length s.table → nat_le (place s who).guards 1 ≡ last → (place s who).guards ≡ 1 → (place s who).phase ≡ Idle → s.epoch ≡ new → s.queue ≡ found → (place s who).bag ≡ bag
      → Unpins (with_place s who (if last then record (place s who) { word = None; guards = 0 } else record (place s who) { guards = (place s who).guards - 1 }))
  begins_unpin s true lt is one idle e q b =
      let p = record (place s who) { word = None; guards = 0 } in
      let at = get_or-set_same s.table who p blank lt in
      (e, q, ap (λ (x : Participant J). x.word) at, ap (λ (x : Participant J). x.bag) at ∙ b, ap (λ (x : Participant J). x.phase) at ∙ idle)
  begins_unpin s false lt is one idle e q b = let x = rw one at is in absurd (cc x)

  -- whole calls
  pin_call : (s s' : State T J) (h : List Mark) → Fits h s → Orderly s → IsSealing s → ((q : ℕ) → (place s q).word ≡ None) → s.epoch ≡ old → new ≡ next_epoch old s.limits.epoch_max → s.limits.expiry ≡ expiry → s.queue ≡ found → (place s who).bag ≡ bag
      → Finishes s who O.Pin s' → IsKept s who s' × (IsHeld old bag (place s' who) × IsNear old new s'.epoch × Sheds found s'.queue) × ((place s' who).phase ≡ Idle)
  pin_call s s' h f o i un e is same q b fin =
      let x = finishing (λ now. IsKept s who now × Pins now) s who O.Pin s' first next fin in
      (x.0.0, rw x.1 at x.0.1, x.1)
    where
      first : (r : Report) → IsReport s who (Begin O.Pin) r → Unrefused r.outcome → IsKept s who (after s who (Begin O.Pin) r.outcome) × Pins (after s who (Begin O.Pin) r.outcome)
      first r report u =
          let k = known_if_faultless (place s who).registered (event_fault (Begin O.Pin) (place s who).phase (place s who)) (fault_unrefused s who (Begin O.Pin) r report u) in (
            kept_step s who s (Begin O.Pin) r (kept_from s who h f o i) report,
            subst Pins (sym (as_moved s who (Begin O.Pin) r.outcome u)) (begins_pin s (is_none (place s who).word) (in_table s who k.0) refl (un who) e q b),
          )

      next : (now : State T J) (r : Report) → IsKept s who now × Pins now → IsReport now who Go r → Unrefused r.outcome → IsKept s who (after now who Go r.outcome) × Pins (after now who Go r.outcome)
      next now r inv report u =
          let k = known_if_faultless (place now who).registered (event_fault Go (place now who).phase (place now who)) (fault_unrefused now who Go r report u) in (
            kept_step s who now Go r inv.0 report,
            subst Pins (sym (as_moved now who Go r.outcome u))
                (pin_goes now (place now who).phase (in_table now who k.0) (alone_of s now (λ p ne. un p) is same inv.0 found bag) refl (busy (place now who).phase (place now who) k.1) inv.1),
          )

  flush_call : (s s' : State T J) (h : List Mark) → Fits h s → Orderly s → IsSealing s → ((q : ℕ) → q ≢ who → (place s q).word ≡ None) → new ≡ next_epoch old s.limits.epoch_max → s.limits.expiry ≡ expiry → s.queue ≡ found → IsHeld old bag (place s who) → IsNear old new s.epoch
      → Finishes s who O.Flush s' → IsKept s who s' × ((sealed : List (Sealed J)) × IsSealedBag bag sealed × (IsHeld old [] (place s' who) × (s'.epoch ≡ new) × TakesOff expiry new (found ++ sealed) s'.queue)) × ((place s' who).phase ≡ Idle)
  flush_call s s' h f o i un is same q held near fin =
      let x = finishing (λ now. IsKept s who now × Flushes now) s who O.Flush s' first next fin in
      (x.0.0, rw x.1 at x.0.1, x.1)
    where
      first : (r : Report) → IsReport s who (Begin O.Flush) r → Unrefused r.outcome → IsKept s who (after s who (Begin O.Flush) r.outcome) × Flushes (after s who (Begin O.Flush) r.outcome)
      first r report u =
          let k = known_if_faultless (place s who).registered (event_fault (Begin O.Flush) (place s who).phase (place s who)) (fault_unrefused s who (Begin O.Flush) r report u) in (
            kept_step s who s (Begin O.Flush) r (kept_from s who h f o i) report,
            subst Flushes (sym (as_moved s who (Begin O.Flush) r.outcome u)) (begins_flush s (length (place s who).bag == 0) (in_table s who k.0) refl held near q),
          )

      next : (now : State T J) (r : Report) → IsKept s who now × Flushes now → IsReport now who Go r → Unrefused r.outcome → IsKept s who (after now who Go r.outcome) × Flushes (after now who Go r.outcome)
      next now r inv report u =
          let k = known_if_faultless (place now who).registered (event_fault Go (place now who).phase (place now who)) (fault_unrefused now who Go r report u) in (
            kept_step s who now Go r inv.0 report,
            subst Flushes (sym (as_moved now who Go r.outcome u))
                (flush_goes now (place now who).phase (in_table now who k.0) (λ sealed. alone_of s now un is same inv.0 (found ++ sealed) []) refl (busy (place now who).phase (place now who) k.1) inv.1),
          )

  unpin_call : (s s' : State T J) (h : List Mark) → Fits h s → Orderly s → IsSealing s → (place s who).guards ≡ 1 → s.epoch ≡ new → s.queue ≡ found → (place s who).bag ≡ bag
      → Finishes s who O.Unpin s' → IsKept s who s' × Unpins s'
  unpin_call s s' h f o i one e q b fin = (finishing (λ now. IsKept s who now × Unpins now) s who O.Unpin s' first next fin).0
    where
      first : (r : Report) → IsReport s who (Begin O.Unpin) r → Unrefused r.outcome → IsKept s who (after s who (Begin O.Unpin) r.outcome) × Unpins (after s who (Begin O.Unpin) r.outcome)
      first r report u =
          let k = known_if_faultless (place s who).registered (event_fault (Begin O.Unpin) (place s who).phase (place s who)) (fault_unrefused s who (Begin O.Unpin) r report u) in (
            kept_step s who s (Begin O.Unpin) r (kept_from s who h f o i) report,
            subst Unpins (sym (as_moved s who (Begin O.Unpin) r.outcome u))
                (begins_unpin s (nat_le (place s who).guards 1) (in_table s who k.0) refl one (begin_idle O.Unpin (place s who).phase (place s who) k.1) e q b),
          )

      next : (now : State T J) (r : Report) → IsKept s who now × Unpins now → IsReport now who Go r → Unrefused r.outcome → IsKept s who (after now who Go r.outcome) × Unpins (after now who Go r.outcome)
      next now r inv report u =
          let k = known_if_faultless (place now who).registered (event_fault Go (place now who).phase (place now who)) (fault_unrefused now who Go r report u) in
          absurd (busy (place now who).phase (place now who) k.1 inv.1.4)

-- what a round makes of a state in which nobody is pinned
pub record IsRounded {T J : Type 0} (s : State T J) (who : ℕ) (s' : State T J) (r : IsRound s who s') : Type 0 where
  pub kept : IsKept s who s'
  pub flushed : IsKept s who r.flushed
  pub epoch : s'.epoch ≡ next_epoch s.epoch s.limits.epoch_max
  pub flushed_at : r.flushed.epoch ≡ next_epoch s.epoch s.limits.epoch_max
  pub sheds : Sheds s.queue r.pinned.queue
  pub same_bag : (place r.pinned who).bag ≡ (place s who).bag
  pub sealed : List (Sealed J)
  pub own : IsSealedBag (place s who).bag sealed
  pub takes : TakesOff s.limits.expiry (next_epoch s.epoch s.limits.epoch_max) (r.pinned.queue ++ sealed) r.flushed.queue
  pub queue : s'.queue ≡ r.flushed.queue
  pub bag : (place s' who).bag ≡ []
  pub unpinned : (place s' who).word ≡ None
  pub idle : (place s' who).phase ≡ Idle

module _ {J : Type 0} where
  sealed_nothing : (bag : List (Deferral J)) (sealed : List (Sealed J)) → bag ≡ [] → IsSealedBag bag sealed → sealed ≡ []
  sealed_nothing [] sealed e own = own
  sealed_nothing (x ∷ bag) sealed e own = absurd (cc e)

  shed : (queue queue' : List (Sealed J)) → Sheds queue queue' → length queue' ≤ length queue
  shed queue queue' s = let e = ap length s.1 in omega (arith, e, length-append s.0 queue')

  shed_in : (queue queue' : List (Sealed J)) → Sheds queue queue' → (b : Sealed J) → Contains queue' b → Contains queue b
  shed_in queue queue' s b m = rw s.1 (Contains-append_right s.0 queue' b m)

  filled_bags : (queue : List (Sealed J)) → ((b : Sealed J) → Contains queue b → 0 < length b.jobs) → length queue ≤ sum_by (in_bag one) queue
  filled_bags [] all = omega arith
  filled_bags (b ∷ queue) all =
      let rest = filled_bags queue (λ c m. all c (contains_tail b queue c m)) in
      let here = all b (0, omega arith, refl) in
      omega (arith, rest, here, all_one b.jobs, sum_by-cons (in_bag one) b queue)

  -- a collection to which every bag is due leaves none, or eight fewer
  takes_due : (expiry answered : ℕ) (queue queue' : List (Sealed J)) → TakesOff expiry answered queue queue' → ((b : Sealed J) → Contains queue b → b.seal + expiry ≤ answered)
      → (length queue' ≡ 0) ⊎ (length queue' + 8 ≤ length queue)
  takes_due expiry answered queue queue' t due = elim t.stops [
    | inl all ↦ inr (let e = ap length t.front in omega (arith, all, e, length-append t.taken queue'))
    | inr none ↦ inl (none_left queue' none (λ b m. due b (rw t.front (Contains-append_right t.taken queue' b m))))
  ]
    where
      none_left : (rest : List (Sealed J)) → IsNotDue expiry answered rest → ((b : Sealed J) → Contains rest b → b.seal + expiry ≤ answered) → length rest ≡ 0
      none_left [] none all = refl
      none_left (b ∷ rest) none all = absurd (let le = all b (0, omega arith, refl) in omega arith)

module _ {T J : Type 0} where
  -- a round while nobody is pinned moves the epoch on, seals the bag, and takes what is due
  pub round : (s s' : State T J) (who : ℕ) (h : List Mark) → Fits h s → Orderly s → IsSealing s → ((q : ℕ) → (place s q).word ≡ None) → (r : IsRound s who s') → IsRounded s who s' r
  round s s' who h f o i un r =
      let new = next_epoch s.epoch s.limits.epoch_max in
      let bag = (place s who).bag in
      let x = pin_call s.epoch new who s.limits.expiry s.queue bag s r.pinned h f o i un refl refl refl refl refl r.pins in
      let k = x.0 in
      let un' = λ (q : ℕ) (ne : q ≢ who). ap (λ (p : Participant J). p.word) (k.others q ne) ∙ un q in
      let y = flush_call s.epoch new who s.limits.expiry r.pinned.queue bag r.pinned r.flushed k.past k.fits k.orderly k.sealing un' (ap (λ l. next_epoch s.epoch l.epoch_max) (sym k.limits)) (ap (λ l. l.expiry) k.limits) refl x.1.0 x.1.1 r.flushes in
      let l = kept_on s r.pinned r.flushed who k y.0 in
      let c = y.1.2 in
      let z = unpin_call s.epoch new who s.limits.expiry r.flushed.queue [] r.flushed s' l.past l.fits l.orderly l.sealing c.0.one c.1 refl c.0.jobs r.unpins in
      record {
        kept = kept_on s r.flushed s' who l z.0;
        flushed = l;
        epoch = z.1.0;
        flushed_at = c.1;
        sheds = x.1.2;
        same_bag = x.1.0.jobs;
        sealed = y.1.0;
        own = y.1.1;
        takes = c.2;
        queue = z.1.1;
        bag = z.1.3;
        unpinned = z.1.2;
        idle = z.1.4;
      }

  -- in a round with an empty bag nothing new is queued
  shed_all : (s s' : State T J) (who : ℕ) (r : IsRound s who s') → IsRounded s who s' r → (place s who).bag ≡ [] → Sheds s.queue s'.queue
  shed_all s s' who r d none =
      let t = d.takes in
      let e = sealed_nothing (place s who).bag d.sealed none d.own in (
        d.sheds.0 ++ t.taken,
        d.sheds.1 ∙ ap (λ (q : List (Sealed J)). d.sheds.0 ++ q) (sym (append-nil r.pinned.queue) ∙ ap (λ (q : List (Sealed J)). r.pinned.queue ++ q) (sym e) ∙ t.front ∙ ap (λ (q : List (Sealed J)). t.taken ++ q) (sym d.queue))
            ∙ sym (append_assoc d.sheds.0 t.taken s'.queue),
      )

  takes_eight : (s s' : State T J) (who : ℕ) (r : IsRound s who s') → IsRounded s who s' r → (place s who).bag ≡ [] → ((b : Sealed J) → Contains s.queue b → b.seal + s.limits.expiry ≤ next_epoch s.epoch s.limits.epoch_max)
      → (length s'.queue ≡ 0) ⊎ (length s'.queue + 8 ≤ length s.queue)
  takes_eight s s' who r d none due =
      let e = sealed_nothing (place s who).bag d.sealed none d.own in
      let found : r.pinned.queue ++ d.sealed ≡ r.pinned.queue = ap (λ (q : List (Sealed J)). r.pinned.queue ++ q) e ∙ append-nil r.pinned.queue in
      let less = shed s.queue r.pinned.queue d.sheds in
      let same = ap length d.queue in
      elim (takes_due s.limits.expiry (next_epoch s.epoch s.limits.epoch_max) (r.pinned.queue ++ d.sealed) r.flushed.queue d.takes (λ b m. due b (shed_in s.queue r.pinned.queue d.sheds b (subst (λ (q : List (Sealed J)). Contains q b) found m)))) [
        | inl none ↦ inl (same ∙ none)
        | inr fewer ↦ inr (let long = ap length found in omega (arith, same, long, less, fewer))
      ]

  unpinned_all : (s s' : State T J) (who : ℕ) → ((q : ℕ) → (place s q).word ≡ None) → (place s' who).word ≡ None → IsKept s who s' → (q : ℕ) → (place s' q).word ≡ None
  unpinned_all s s' who un own k q = elim (cases_eq q who) [ inl is ↦ rw is own | inr ne ↦ ap (λ (p : Participant J). p.word) (k.others q ne) ∙ un q ]

-- the epoch never falls
next_grows : (epoch most : ℕ) → epoch ≤ next_epoch epoch most
next_grows epoch most = by (nat_lt epoch most) refl
  where
    by : (b : Bool) → nat_lt epoch most ≡ b → epoch ≤ (if b then epoch + 1 else epoch)
    by true e = omega arith
    by false e = omega arith

next_below : (epoch most : ℕ) → epoch < most → next_epoch epoch most ≡ epoch + 1
next_below epoch most lt = let e : nat_lt epoch most ≡ true = grind (arith, nat_tests) in rw e refl

-- what is left by rounds in which every bag is due
pub record IsSettled {T J : Type 0} (s : State T J) (who n : ℕ) (s' : State T J) : Type 0 where
  pub kept : IsKept s who s'
  pub bag : (place s' who).bag ≡ []
  pub unpinned : (place s' who).word ≡ None
  pub idle : (place s' who).phase ≡ Idle
  pub left : (length s'.queue ≡ 0) ⊎ (length s'.queue + 8 * n ≤ length s.queue)

module _ {T J : Type 0} where
  settles : (n : ℕ) (s s' : State T J) (who : ℕ) (h : List Mark) → Fits h s → Orderly s → IsSealing s → ((q : ℕ) → (place s q).word ≡ None) → (place s who).bag ≡ [] → (place s who).phase ≡ Idle
      → ((b : Sealed J) → Contains s.queue b → b.seal + s.limits.expiry ≤ next_epoch s.epoch s.limits.epoch_max) → AreRounds s who n s' → IsSettled s who n s'
  settles zero s s' who h f o i un none idle due rounds =
      rw rounds (record { kept = kept_from s who h f o i; bag = none; unpinned = un who; idle = idle; left = inr (omega arith) })
  settles (suc n) s s' who h f o i un none idle due rounds =
      let now = rounds.0 in
      let d = round s now who h f o i un rounds.1 in
      let k = d.kept in
      let sheds = shed_all s now who rounds.1 d none in
      let due' = λ (b : Sealed J) (m : Contains now.queue b).
      let was = due b (shed_in s.queue now.queue sheds b m) in
      let grows = next_grows now.epoch s.limits.epoch_max in
      let at = d.epoch in
      let le : b.seal + s.limits.expiry ≤ next_epoch now.epoch s.limits.epoch_max = omega (arith, was, grows, at) in
      le in
      let x = settles n now s' who k.past k.fits k.orderly k.sealing (unpinned_all s now who un d.unpinned k) d.bag d.idle (rw k.limits due') rounds.2 in
      record {
        kept = kept_on s now s' who k x.kept;
        bag = x.bag;
        unpinned = x.unpinned;
        idle = x.idle;
        left = elim x.left [
          | inl done ↦ inl done
          | inr more ↦ elim (takes_eight s now who rounds.1 d none due) [
            | inl none ↦ inl (omega (arith, none, more))
            | inr fewer ↦ inr (omega (arith, fewer, more))
          ]
        ];
      }

  -- a place that nobody holds is blank, so every place rests
  all_idle : (s : State T J) → IsTable s.limits.participants s.table → IsQuiet s → (q : ℕ) → ((place s q).phase ≡ Idle) × ((place s q).word ≡ None)
  all_idle s table quiet q = by (place s q).registered refl
    where
      by : (b : Bool) → (place s q).registered ≡ b → ((place s q).phase ≡ Idle) × ((place s q).word ≡ None)
      by true e = (quiet.idle q e, quiet.unpinned q e)
      by false e = let is = table.free q e in (ap (λ (p : Participant J). p.phase) is, ap (λ (p : Participant J). p.word) is)

  quiet_round : (s s' : State T J) (who : ℕ) (h : List Mark) → Fits h s → IsTable s.limits.participants s.table → Orderly s → IsSealing s → IsQuiet s → (r : IsRound s who s') → IsRounded s who s' r
  quiet_round s s' who h f table o i quiet r = round s s' who h f o i (λ q. (all_idle s table quiet q).1) r

  -- a quiet round moves the epoch on by one
  pub quiet_advances : (s s' : State T J) (who : ℕ) (h : List Mark) → Fits h s → IsTable s.limits.participants s.table → Orderly s → IsSealing s → IsQuiet s → IsRound s who s' → s'.epoch ≡ s.epoch + 1
  quiet_advances s s' who h f table o i quiet r = let far = quiet.far in (quiet_round s s' who h f table o i quiet r).epoch ∙ next_below s.epoch s.limits.epoch_max (omega arith)

  -- after the flush of a quiet round each seal is at most the next epoch
  pub quiet_seals : (s s' : State T J) (who : ℕ) (h : List Mark) → Fits h s → IsTable s.limits.participants s.table → Orderly s → IsSealing s → IsQuiet s → (r : IsRound s who s') → (b : Sealed J) → Contains r.flushed.queue b → b.seal ≤ s.epoch + 1
  quiet_seals s s' who h f table o i quiet r b m =
      let far = quiet.far in
      let d = quiet_round s s' who h f table o i quiet r in
      let past = d.flushed.sealing.past b m in
      let at = d.flushed_at in
      let on = next_below s.epoch s.limits.epoch_max (omega arith) in
      omega (arith, past, at, on)

  -- no bag is empty, and no job comes in a round
  pub quiet_bags : (s s' : State T J) (who : ℕ) (h : List Mark) → Fits h s → IsTable s.limits.participants s.table → Orderly s → IsSealing s → IsQuiet s → (r : IsRound s who s') → length r.flushed.queue ≤ job_count s
  quiet_bags s s' who h f table o i quiet r =
      let d = quiet_round s s' who h f table o i quiet r in
      let less = d.flushed.fewer one in
      let some = filled_bags r.flushed.queue d.flushed.sealing.filled in
      omega (arith, less, some)

  -- after the first round, one more lets every bag fall due
  pub quiet_empties : (s s1 s' : State T J) (who n : ℕ) (h : List Mark) → Fits h s → IsTable s.limits.participants s.table → Orderly s → IsSealing s → s.limits.expiry ≡ 2 → IsQuiet s → (r : IsRound s who s1) → AreRounds s1 who n s'
      → 1 + div_ceil (length r.flushed.queue) 8 ≤ n → IsEmptied s who s'
  quiet_empties s s1 s' who zero h f table o i two quiet r rounds enough = absurd (omega (arith, enough))
  quiet_empties s s1 s' who (suc n) h f table o i two quiet r rounds enough =
      let far = quiet.far in
      let most = s.limits.epoch_max in
      let rest = all_idle s table quiet in
      let un = λ (q : ℕ). (rest q).1 in
      let d = round s s1 who h f o i un r in
      let k = d.kept in
      let e1 : s1.epoch ≡ s.epoch + 1 = d.epoch ∙ next_below s.epoch most (omega arith) in
      let un1 = unpinned_all s s1 who un d.unpinned k in
      let now = rounds.0 in
      let d2 = round s1 now who k.past k.fits k.orderly k.sealing un1 rounds.1 in
      let k2 = d2.kept in
      let most1 : s1.limits.epoch_max ≡ most = ap (λ l. l.epoch_max) k.limits in
      let e2 : now.epoch ≡ s1.epoch + 1 = d2.epoch ∙ next_below s1.epoch s1.limits.epoch_max (omega (arith, e1, most1)) in
      let most2 : now.limits.epoch_max ≡ most = ap (λ l. l.epoch_max) (k2.limits ∙ k.limits) in
      let e3 : next_epoch now.epoch now.limits.epoch_max ≡ now.epoch + 1 = next_below now.epoch now.limits.epoch_max (omega (arith, e1, e2, most2)) in
      let wait : now.limits.expiry ≡ 2 = ap (λ l. l.expiry) (k2.limits ∙ k.limits) ∙ two in
      let sheds = shed_all s1 now who rounds.1 d2 d.bag in
      let due = λ (b : Sealed J) (m : Contains now.queue b).
      let past = k.sealing.past b (shed_in s1.queue now.queue sheds b m) in
      let le : b.seal + now.limits.expiry ≤ next_epoch now.epoch now.limits.epoch_max = omega (arith, past, wait, e1, e2, e3) in
      le in
      let x = settles n now s' who k2.past k2.fits k2.orderly k2.sealing (unpinned_all s1 now who un1 d2.unpinned k2) d2.bag d2.idle due rounds.2 in
      let all = kept_on s s1 s' who k (kept_on s1 now s' who k2 x.kept) in
      let first = shed s1.queue now.queue sheds in
      let same = ap length d.queue in
      let none : length s'.queue ≡ 0 = elim x.left [
        | inl done ↦ done
        | inr more ↦ (let up = (div_ceil_times (length r.flushed.queue) 8 (omega arith)).0 in omega (arith, up, more, first, same, enough))
      ] in
      record {
        queue = no_bags s'.queue none;
        bag = x.bag;
        hands = λ q. elim (cases_eq q who) [
          | inl is ↦ rw is (rw x.idle at (all.orderly.hands who))
          | inr ne ↦ rw (ap (λ (p : Participant J). p.phase) (all.others q ne) ∙ (rest q).0) at (all.orderly.hands q)
        ];
        others = all.others;
      }
    where
      no_bags : (queue : List (Sealed J)) → length queue ≡ 0 → queue ≡ []
      no_bags [] e = refl
      no_bags (b ∷ queue) e = absurd (omega arith)
