-- How a history and a state belong together.
use Rattle.std.specs.Prelude.{◌≡◌, ℕ, ◌+◌, ◌==◌, ◌≤◌, ◌<◌, nat_lt, true, false, List, [], length, Option, Some, None, if◌then◌else◌, slice_index_or}
use Rattle.std.specs.List.{Contains, sum_by}
use Rattle.crossbeam_epoch.specs.declared.bag.Deferral.{Deferral}
use Rattle.crossbeam_epoch.specs.declared.bag.Work.TheVariants.{Remove}
use Rattle.crossbeam_epoch.specs.declared.names.Name.{Name}
use Rattle.crossbeam_epoch.specs.declared.world.participant.Participant.{Participant}
use Rattle.crossbeam_epoch.specs.declared.bag.Sealed.{Sealed}
use Rattle.crossbeam_epoch.specs.declared.world.participant.Phase.{Phase}
use Rattle.crossbeam_epoch.specs.declared.world.participant.Phase.TheVariants.{Idle, Look, Publish, RepinLook, RepinPublish, Seal, Queue, ReleaseSeal, ReleaseQueue, Secure, SecureSeal, SecureQueue, Load, Inspect, Advance, Take, Call}
use Rattle.crossbeam_epoch.specs.world.History.{Mark, began, blocks, times_called, deferrals, IsGraceful, WasDeferred, AreCalledLater}
use Rattle.crossbeam_epoch.specs.world.Machine.{State, place, blank}

-- the table has its places, and those that nobody holds are blank
pub record IsTable {J : Type 0} (places : ℕ) (table : List (Participant J)) : Type 0 where
  pub long : length table ≡ places
  pub free : (q : ℕ) → (slice_index_or table q blank).registered ≡ false → slice_index_or table q blank ≡ blank

-- the word is no newer than the stretch, and the epoch is at most one past its beginning
abbrev pub Bounds : Option ℕ → Option ℕ → ℕ → Type 0
Bounds None None epoch = Unit {0}
Bounds (Some began) (Some word) epoch = (word ≤ began) × (began ≤ epoch) × (epoch ≤ began + 1)
Bounds None (Some word) epoch = ⊥
Bounds (Some began) None epoch = ⊥

-- a stretch
abbrev pub Began : Option ℕ → Type 0
Began b = (e : ℕ) × (b ≡ Some e)

-- the jobs of a bag were accepted under their tickets
pub record AreAccepted {J : Type 0} (h : List Mark) (next : ℕ) (jobs : List (Deferral J)) : Type 0 where
  pub below : (e : Deferral J) → Contains jobs e → e.ticket < next
  pub named : (e : Deferral J) (n : Name) → Contains jobs e → e.work ≡ Remove n → WasDeferred h e.ticket n

-- whoever blocks a job of the bag began when the epoch was at most the seal
pub record IsSealed {J : Type 0} (h : List Mark) (next : ℕ) (jobs : List (Deferral J)) (seal : ℕ) : Type 0 where
  pub accepted : AreAccepted h next jobs
  pub late : (e : Deferral J) (q b : ℕ) → Contains jobs e → blocks h q e.ticket ≡ true → began h q ≡ Some b → b ≤ seal

-- a collection that read this epoch has passed the places below `passed`
pub record IsCollecting (h : List Mark) (epoch who seen passed : ℕ) : Type 0 where
  pub past : seen ≤ epoch
  pub own : (e : ℕ) × (began h who ≡ Some e) × (e ≤ seen)
  pub others : (q e : ℕ) → q < passed → began h q ≡ Some e → seen ≤ e

-- what is true of a call in flight
abbrev pub InPhase : {J : Type 0} → List Mark → ℕ → ℕ → ℕ → ℕ → List (Deferral J) → List (Deferral J) → Phase → Type 0
InPhase h epoch next places who bag hand Idle = Unit {0}
InPhase h epoch next places who bag hand Look = began h who ≡ None
InPhase h epoch next places who bag hand (Publish seen) = (began h who ≡ None) × (seen ≤ epoch)
InPhase h epoch next places who bag hand RepinLook = Unit {0}
InPhase h epoch next places who bag hand (RepinPublish seen) = seen ≤ epoch
InPhase h epoch next places who bag hand Seal = Began (began h who)
InPhase h epoch next places who bag hand (Queue seal) = Began (began h who) × IsSealed h next bag seal
InPhase h epoch next places who bag hand ReleaseSeal = began h who ≡ None
InPhase h epoch next places who bag hand (ReleaseQueue seal) = (began h who ≡ None) × IsSealed h next bag seal
InPhase h epoch next places who bag hand (Secure n) = Unit {0}
InPhase h epoch next places who bag hand SecureSeal = Unit {0}
InPhase h epoch next places who bag hand (SecureQueue seal) = IsSealed h next bag seal
InPhase h epoch next places who bag hand Load = Began (began h who)
InPhase h epoch next places who bag hand (Inspect seen passed) = IsCollecting h epoch who seen passed
InPhase h epoch next places who bag hand (Advance seen) = IsCollecting h epoch who seen places
InPhase h epoch next places who bag hand (Take answered bags) = answered ≤ epoch
InPhase h epoch next places who bag hand (Call answered bags seal) = (answered ≤ epoch) × (seal + 2 ≤ answered) × IsSealed h next hand seal

-- only a collection that calls has jobs in hand
abbrev pub HandFits : {J : Type 0} → Phase → List (Deferral J) → Type 0
HandFits (Call answered bags seal) hand = Unit {0}
HandFits _ hand = hand ≡ []

-- what is true of a place
pub record FitsAt {J : Type 0} (h : List Mark) (epoch next places who : ℕ) (p : Participant J) : Type 0 where
  pub bounds : Bounds (began h who) p.word epoch
  pub phase : InPhase h epoch next places who p.bag p.hand p.phase
  pub accepted : AreAccepted h next p.bag
  pub spare : HandFits p.phase p.hand

-- the sum of a weight over the jobs of a place
abbrev pub at_place : {J : Type 0} → (Deferral J → ℕ) → Participant J → ℕ
at_place f p = sum_by f p.bag + sum_by f p.hand

-- the same sum over the jobs of a sealed bag
abbrev pub in_bag : {J : Type 0} → (Deferral J → ℕ) → Sealed J → ℕ
in_bag f b = sum_by f b.jobs

-- the same sum over all jobs of the collector: in places, and in queued bags
abbrev pub weight : {T J : Type 0} → (Deferral J → ℕ) → State T J → ℕ
weight f s = sum_by (at_place f) s.table + sum_by (in_bag f) s.queue

-- a job counts one where it has this ticket
abbrev pub has_ticket : {J : Type 0} → ℕ → Deferral J → ℕ
has_ticket t e = if e.ticket == t then 1 else 0

-- in how many places of bags a job stands
abbrev pub times_held : {T J : Type 0} → State T J → ℕ → ℕ
times_held s t = weight (has_ticket t) s

-- each job counts one
abbrev pub one : {J : Type 0} → Deferral J → ℕ
one e = 1

-- how many jobs stand in bags
abbrev pub job_count : {T J : Type 0} → State T J → ℕ
job_count s = weight one s

-- each accepted job is in one place or was called once
pub record Once {T J : Type 0} (h : List Mark) (s : State T J) : Type 0 where
  pub each : (t : ℕ) → times_held s t + times_called h t ≡ deferrals h t
  -- a ticket below the next one was given once, and no other
  pub tickets : (t : ℕ) → deferrals h t ≡ (if nat_lt t s.next then 1 else 0)
  pub count : job_count s ≡ s.waiting

-- the history led to this state
pub record Fits {T J : Type 0} (h : List Mark) (s : State T J) : Type 0 where
  pub graceful : IsGraceful h
  pub later : AreCalledLater h
  pub wait : 2 ≤ s.limits.expiry
  pub places : (q : ℕ) → FitsAt h s.epoch s.next (length s.table) q (place s q)
  pub queued : (b : Sealed J) → Contains s.queue b → IsSealed h s.next b.jobs b.seal
  pub once : Once h s
