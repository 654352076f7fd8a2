-- The collector's state as contracts see it, and what each atomic step makes of it.
use Rattle.std.specs.Prelude.{ℕ, ◌+◌, ◌==◌, nat_lt, nat_le, Bool, true, false, List, [], ◌∷◌, ◌++◌, length, Option, Some, None, is_some, if◌then◌else◌, slice_set, slice_index_or, remove, not, ◌-◌, ◌&&◌, drop, replicate}
use Rattle.crossbeam_epoch.specs.declared.bag.Deferral.{Deferral}
use Rattle.crossbeam_epoch.specs.declared.bag.Work.{Work}
use Rattle.crossbeam_epoch.specs.declared.bag.Work.TheVariants.{Blank, Remove, Run}
use Rattle.crossbeam_epoch.specs.declared.limits.Limits.{Limits}
use Rattle.crossbeam_epoch.specs.declared.names.Name.{Name}
use Rattle.crossbeam_epoch.specs.declared.names.Ptr.{Ptr}
use Rattle.crossbeam_epoch.specs.declared.world.participant.Participant.{Participant}
use Rattle.crossbeam_epoch.specs.declared.bag.Sealed.{Sealed}
use Rattle.crossbeam_epoch.specs.declared.world.participant.Phase.{Phase}
use Rattle.crossbeam_epoch.specs.declared.world.participant.Phase.TheVariants.{Idle, RepinPublish, Load, Inspect, Advance, Take, Call, SecureSeal}
use Rattle.crossbeam_epoch.specs.world.Store.{Store, value_at, emptied, opened_store}
use Rattle.crossbeam_epoch.specs.Chain.{room_behind, room_left}
use Rattle.crossbeam_epoch.specs.Limits.{bag_places, most_bags}

-- the collector's state
pub record State (T J : Type 0) : Type 0 where
  pub limits : Limits
  pub epoch : ℕ
  pub table : List (Participant J)
  -- sealed bags, the oldest first
  pub queue : List (Sealed J)
  -- how many more bags can be queued before memory is asked for
  pub room : ℕ
  -- the next job's ticket
  pub next : ℕ
  -- how many jobs are deferred and not yet called
  pub waiting : ℕ
  pub store : Store T
  pub roots : List Ptr

-- a place that nobody holds
abbrev pub blank : {J : Type 0} → Participant J
blank = record { registered = false; word = None; guards = 0; pins = 0; bag = []; hand = []; phase = Idle }

-- a place of the table; past its end it is blank
abbrev pub place : {T J : Type 0} → State T J → ℕ → Participant J
place s who = slice_index_or s.table who blank

-- a place of the table is another one, and all else is as it was
abbrev pub with_place : {T J : Type 0} → State T J → ℕ → Participant J → State T J
with_place s who p = record s { table = slice_set s.table who p }

-- its phase is another one, and all else is as it was
abbrev pub in_phase : {T J : Type 0} → State T J → ℕ → Phase → State T J
in_phase s who phase = with_place s who (record (place s who) { phase = phase })

-- the cells change, and nothing else
abbrev pub with_store : {T J : Type 0} → State T J → Store T → State T J
with_store s st = record s { store = st }

-- the roots change, and nothing else
abbrev pub with_roots : {T J : Type 0} → State T J → List Ptr → State T J
with_roots s roots = record s { roots = roots }

-- whether what a pointer names stands, where it names something
abbrev pub standing_name : {T : Type 0} → Store T → Option Name → Bool
standing_name st None = true
standing_name st (Some name) = is_some (value_at st name)

-- a pointer is null, or its name isn't destroyed
abbrev pub stands : {T : Type 0} → Store T → Ptr → Bool
stands st ptr = standing_name st ptr.name

-- a first-level pin publishes
abbrev pub published : {J : Type 0} → ℕ → Participant J → Participant J
published seen p = record p {
  word = Some seen;
  guards = 1;
  pins = if nat_lt p.pins 127 then p.pins + 1 else 0;
  phase = if p.pins == 0 then Load else Idle;
}

-- whether a word is of this epoch
abbrev pub is_at : Option ℕ → ℕ → Bool
is_at None epoch = false
is_at (Some word) epoch = word == epoch

-- a repin reads the epoch
abbrev pub relooked : {J : Type 0} → ℕ → Participant J → Participant J
relooked epoch p = record p { phase = if is_at p.word epoch then Idle else RepinPublish epoch }

-- a repin publishes
abbrev pub repinned : {J : Type 0} → ℕ → Participant J → Participant J
repinned seen p = record p { word = Some seen; phase = Idle }

-- whether so many places of a bag are free
abbrev pub has_free : {J : Type 0} → List (Deferral J) → ℕ → Bool
has_free bag n = nat_le (length bag + n) bag_places

-- a securing looks at the bag
abbrev pub secured : {J : Type 0} → ℕ → Participant J → Participant J
secured n p = record p { phase = if has_free p.bag n then Idle else SecureSeal }

-- the bag joins the queue under its seal, and the call goes on so
abbrev pub queued : {T J : Type 0} → State T J → ℕ → ℕ → Phase → State T J
queued s who seal phase =
    let p = place s who in
    record s {
      table = slice_set s.table who (record p { bag = []; phase = phase });
      queue = s.queue ++ record { seal = seal; jobs = p.bag } ∷ [];
      room = room_behind s.room;
    }

-- a participant's bag joins the queue, and it leaves the table
abbrev pub released : {T J : Type 0} → State T J → ℕ → ℕ → State T J
released s who seal = record s { table = slice_set s.table who blank; queue = s.queue ++ record { seal = seal; jobs = (place s who).bag } ∷ []; room = room_behind s.room }

-- a collection looks at the place `at`
abbrev pub ends_advance : Option ℕ → ℕ → Bool
ends_advance None seen = false
ends_advance (Some word) seen = not (word == seen)

-- where it goes on: to take bags, to look at the next place, or to advance the epoch
abbrev pub inspection : {T J : Type 0} → State T J → ℕ → ℕ → Phase
inspection s seen at =
    if ends_advance (place s at).word seen then Take seen 0
    else if nat_lt (at + 1) (length s.table) then Inspect seen (at + 1)
    else Advance seen

-- the state after it has looked
abbrev pub inspected : {T J : Type 0} → State T J → ℕ → ℕ → ℕ → State T J
inspected s who seen at = in_phase s who (inspection s seen at)

-- a collection that passed every place sets the epoch
abbrev pub advanced : {T J : Type 0} → State T J → ℕ → ℕ → State T J
advanced s who seen =
    if nat_lt seen s.limits.epoch_max
    then record (in_phase s who (Take (seen + 1) 0)) { epoch = seen + 1 }
    else in_phase s who (Take seen 0)

-- no bag
abbrev pub no_bag : {J : Type 0} → Sealed J
no_bag = record { seal = 0; jobs = [] }

-- whether there is a front bag that is old enough
abbrev pub is_due : {T J : Type 0} → State T J → ℕ → Bool
is_due s answered = nat_lt 0 (length s.queue) && nat_le ((slice_index_or s.queue 0 no_bag).seal + s.limits.expiry) answered

-- the front bag is taken, and with the last bag of a block the block is given up
abbrev pub taken : {T J : Type 0} → State T J → ℕ → ℕ → ℕ → State T J
taken s who answered bags =
    let b = slice_index_or s.queue 0 no_bag in
    record s {
      table = slice_set s.table who (record (place s who) { hand = b.jobs; phase = Call answered (bags + 1) b.seal });
      queue = drop 1 s.queue;
      room = room_left (length (drop 1 s.queue)) s.room;
    }

-- a collection takes the front bag, where that is due and it has not taken the most; else it ends
abbrev pub took : {T J : Type 0} → State T J → ℕ → ℕ → ℕ → State T J
took s who answered bags = if is_due s answered && nat_lt bags most_bags then taken s who answered bags else in_phase s who Idle

-- where a collection goes on after a call that leaves so many jobs in hand
abbrev pub after_call : ℕ → ℕ → ℕ → ℕ → Phase
after_call rest answered bags seal = if nat_lt 0 rest then Call answered bags seal else if nat_lt bags most_bags then Take answered bags else Idle

-- no job
abbrev pub no_entry : {J : Type 0} → Deferral J
no_entry = record { ticket = 0; work = Blank }

-- the cell whose removal a job is
abbrev pub name_of : {J : Type 0} → Work J → Option Name
name_of Blank = None
name_of (Run job) = None
name_of (Remove name) = Some name

-- the cell that a job destroys: a removal's, where its name isn't destroyed
abbrev pub destroys : {T J : Type 0} → Store T → Work J → Option Name
destroys st Blank = None
destroys st (Run job) = None
destroys st (Remove name) = if is_some (value_at st name) then Some name else None

-- the store after a job was called
abbrev pub after_work : {T J : Type 0} → Store T → Work J → Store T
after_work st Blank = st
after_work st (Run job) = st
after_work st (Remove name) = if is_some (value_at st name) then emptied st name.cell else st

-- the first job in hand is called
abbrev pub called_one : {T J : Type 0} → State T J → ℕ → ℕ → ℕ → ℕ → State T J
called_one s who answered bags seal =
    let p = place s who in
    let rest = remove p.hand 0 in
    record s {
      table = slice_set s.table who (record p { hand = rest; phase = after_call (length rest) answered bags seal });
      waiting = s.waiting - 1;
      store = after_work s.store (slice_index_or p.hand 0 no_entry).work;
    }

-- the same, where there is one; else the collection ends
abbrev pub called : {T J : Type 0} → State T J → ℕ → ℕ → ℕ → ℕ → State T J
called s who answered bags seal = if length (place s who).hand == 0 then in_phase s who Idle else called_one s who answered bags seal

-- a job goes into a bag that has a place
abbrev pub deferred : {T J : Type 0} → State T J → ℕ → Work J → State T J
deferred s who work =
    let p = place s who in
    record s {
      table = slice_set s.table who (record p { bag = p.bag ++ record { ticket = s.next; work = work } ∷ [] });
      next = s.next + 1;
      waiting = s.waiting + 1;
    }

-- a full bag is sealed and queued, and the job goes into an empty one
abbrev pub deferred_anew : {T J : Type 0} → State T J → ℕ → Work J → State T J
deferred_anew s who work =
    let p = place s who in
    record s {
      table = slice_set s.table who (record p { bag = record { ticket = s.next; work = work } ∷ [] });
      queue = s.queue ++ record { seal = s.epoch; jobs = p.bag } ∷ [];
      room = room_behind s.room;
      next = s.next + 1;
      waiting = s.waiting + 1;
    }

-- a job is deferred: into the bag, or into an empty one where that is full
abbrev pub after_deferral : {T J : Type 0} → State T J → ℕ → Work J → State T J
after_deferral s who work = if length (place s who).bag == bag_places then deferred_anew s who work else deferred s who work

-- a root that holds null
abbrev pub null : Ptr
null = record { name = None; tag = 0 }

-- a new collector
abbrev pub opened : {T J : Type 0} → Limits → ℕ → State T J
opened limits roots = record {
  limits = limits;
  epoch = 0;
  table = replicate limits.participants blank;
  queue = [];
  room = 0;
  next = 0;
  waiting = 0;
  store = opened_store limits.cells limits.turn_max;
  roots = replicate roots null;
}

-- a place is given out
abbrev pub registered : {T J : Type 0} → State T J → ℕ → State T J
registered s n = with_place s n (record (place s n) { registered = true; pins = 0 })
