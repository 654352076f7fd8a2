-- Whose a guard is, the bag that a handle keeps, and what putting off changes of it.
use Rattle.std.specs.Prelude.{ℕ, ◌≡◌, ◌+◌, ◌≤◌, Bool, true, ◌&&◌, nat_lt, nat_le, nat_eq, List, [], ◌∷◌, ◌++◌, length, if◌then◌else◌, Option, IsSomeAnd}
use Rattle.std.specs.Bool.{MatchBool}
use Rattle.crossbeam_epoch.specs.declared.bag.Deferral.{Deferral}
use Rattle.crossbeam_epoch.specs.declared.bag.Work.{Work}
use Rattle.crossbeam_epoch.specs.declared.face.guard.Row.{Row}
use Rattle.crossbeam_epoch.specs.declared.face.queue.Queued.{Queued}
use Rattle.crossbeam_epoch.specs.declared.fault.Fault.{Fault}
use Rattle.crossbeam_epoch.specs.declared.fault.Fault.TheVariants.{Foreign, Memory}
use Rattle.crossbeam_epoch.specs.face.Participant.{Handle}
use Rattle.crossbeam_epoch.specs.Bags.{jobs_in}
use Rattle.crossbeam_epoch.specs.Limits.{bag_places}

-- so many guards of a handle's row are out, and a guard of this row is one of them
abbrev pub owns : ℕ → Row → Row → Bool
owns guards handle guard = nat_lt 0 guards && nat_eq guard.collector handle.collector && nat_eq guard.place handle.place

-- a bag that has a free place: this one, or a new one where this one is full
abbrev pub with_room : {J : Type 0} → List (Deferral J) → List (Deferral J)
with_room bag = if nat_lt (length bag) bag_places then bag else []

-- what a handle tells of the last bag that it queued after a call: where the call sealed a bag under a guard of this epoch, that
-- so many jobs were queued, with that epoch or one more for a seal; else what it told before
abbrev pub SealsUnder : Bool → ℕ → ℕ → Option Queued → Option Queued → Type 0
SealsUnder seals q jobs before after = MatchBool seals (IsSomeAnd after (λ b. (q ≤ b.seal) × (b.seal ≤ q + 1) × (b.jobs ≡ jobs))) (after ≡ before)

-- its bag, the seal of the last one that it queued and what it knows may be others; the rest is as before
abbrev pub ChangesBag : {T J : Type 0} → Handle T J → Handle T J → Type 0
ChangesBag old new = new ≡ record old { bag = new.bag; seals = record old.seals { queued = new.seals.queued }; knows = new.knows }

-- the same under a guard of this row, which is one of its own
abbrev pub ChangesBagUnder : {T J : Type 0} → Row → Handle T J → Handle T J → Type 0
ChangesBagUnder row old new = (owns old.guards old.row row ≡ true) × ChangesBag old new

-- a full bag was queued with all its jobs, under a guard that has the handle's epoch, and no other one
abbrev pub SealsFull : {T J : Type 0} → Handle T J → Handle T J → Type 0
SealsFull old new = SealsUnder (nat_le bag_places (length old.bag)) old.epoch (jobs_in old.bag) old.seals.queued new.seals.queued

-- this work, which has no ticket, comes behind the others in the bag, or into a new one where it was full
abbrev pub PutsOff : {T J : Type 0} → Work J → Handle T J → Handle T J → Type 0
PutsOff work old new = new.bag ≡ with_room old.bag ++ record { ticket = 0; work = work } ∷ []

-- there was no memory to queue a full bag
abbrev pub LacksRoom : {T J : Type 0} → Handle T J → Fault → Type 0
LacksRoom old fault = (fault ≡ Memory) × (bag_places ≤ length old.bag)

-- a call is refused as Foreign where the guard of this row is another handle's, and else for this cause; what the handle knows
-- may be more, and the rest is as before
abbrev pub IsRefusedUnder : {T J : Type 0} → Row → Type 0 → Fault → Handle T J → Handle T J → Type 0
IsRefusedUnder row cause fault old new = (new ≡ record old { knows = new.knows }) × MatchBool (owns old.guards old.row row) cause (fault ≡ Foreign)
