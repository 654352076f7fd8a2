-- What a call's entry is, when it comes into the journal, and who has a place there reserved.
use Rattle.std.specs.Prelude.{ℕ, ◌+◌, Bool, true, false, ◌&&◌, List, [], ◌∷◌, Option, None, Some, IsSome}
use Rattle.judge.specs.declared.journal.Call.{Call as Entered}
use Rattle.judge.specs.declared.journal.Call.TheVariants as call
use Rattle.judge.specs.declared.journal.Entry.{Entry}
use Rattle.judge.specs.declared.journal.Reply.{Reply}
use Rattle.judge.specs.declared.journal.Reply.TheVariants as reply
use Rattle.congee.specs.declared.protocol.machine.Machine.{Machine}
use Rattle.congee.specs.protocol.Answers.{reply_in}
use Rattle.congee.specs.protocol.State.{is_asking, is_pending, may_write}
use Rattle.joint.specs.declared.engine.in_flight.InFlight.{InFlight}
use Rattle.joint.specs.declared.engine.in_flight.InFlight.TheVariants.{Idle, Collecting, Reserving, Securing, Walking}
use Rattle.joint.specs.declared.id.Id.{Id}
use Rattle.joint.specs.declared.engine.request.Request.{Request}
use Rattle.joint.specs.declared.steps.Done.TheVariants as done
use Rattle.joint.specs.declared.steps.Op.{Op}
use Rattle.joint.specs.declared.steps.Op.TheVariants.{Get, Insert, Remove, ComputePresent, ComputeInsert, Exchange}
use Rattle.joint.specs.declared.steps.Outcome.{Outcome}
use Rattle.joint.specs.declared.steps.Outcome.TheVariants.{Running, Done}

-- whether a call's next step takes its closure's answer
abbrev pub asks_at : {V : Type 0} → Option (Machine Id V) → Bool
asks_at None = false
asks_at (Some m) = is_asking m.phase

-- whether a call is a writing one that has yet to take effect
abbrev pub is_writing : {V : Type 0} → Option (Machine Id V) → Bool
is_writing None = false
is_writing (Some m) = is_pending m.phase && may_write m.kind

-- a place of the journal is reserved for a writing call from its first step on, until it takes effect or is refused
abbrev pub has_place : {V : Type 0} → Option (InFlight V) → Option (Machine Id V) → Bool
has_place None m = false
has_place (Some Idle) m = false
has_place (Some (Collecting op)) m = false
has_place (Some (Reserving op)) m = false
has_place (Some (Securing op)) m = true
has_place (Some Walking) m = is_writing m

-- one where a test holds, and none where it doesn't
abbrev pub one_where : Bool → ℕ
one_where true = 1
one_where false = 0

-- how many calls have a place reserved
abbrev pub places_of : {V : Type 0} → List (InFlight V) → List (Machine Id V) → ℕ
places_of [] ms = 0
places_of (k ∷ ks) [] = 0
places_of (k ∷ ks) (m ∷ ms) = one_where (has_place (Some k) (Some m)) + places_of ks ms

-- the reply that a call tells in the end, from the step on in which it took effect
abbrev pub reply_at : {V : Type 0} → Option (Machine Id V) → Option (Reply V)
reply_at None = None
reply_at (Some m) = reply_in m.phase

-- the same after a step: the one that it told, or will tell
abbrev pub reply_by : {V : Type 0} → Outcome V → Option (Machine Id V) → Option (Reply V)
reply_by Running m = reply_at m
reply_by (Done (done.Reply r)) m = Some r
reply_by _ m = None

-- the closure's answer where a key is present
abbrev pub given_by : {V : Type 0} → Option (Option V) → Option V
given_by None = None
given_by (Some a) = a

-- a call with its closure's last answer, as a journal has it; for a key that was absent a call on a present key alone has
-- none
abbrev pub on_present : {V : Type 0} → ℕ → Option (Option V) → Reply V → Option (Entered V)
on_present k answer (reply.ComputePresent None) = Some (call.ComputePresent k None)
on_present k answer _ = Some (call.ComputePresent k (given_by answer))

-- one on a computed value has none where its closure gave no value
abbrev pub on_insert : {V : Type 0} → ℕ → Option V → Option (Entered V)
on_insert k None = None
on_insert k (Some v) = Some (call.ComputeInsert k v)

-- the call of an operation, with its closure's last answer and its reply
abbrev pub call_of : {V : Type 0} → Op V → Option (Option V) → Reply V → Option (Entered V)
call_of (Get k) answer r = Some (call.Get k)
call_of (Insert k v) answer r = Some (call.Insert k v)
call_of (Remove k) answer r = Some (call.Remove k)
call_of (ComputePresent k) answer r = on_present k answer r
call_of (ComputeInsert k) answer r = on_insert k (given_by answer)
call_of (Exchange k old new) answer r = Some (call.Exchange k old new)
call_of _ answer r = None

-- a call on a computed value has an answer of its closure; one on a present key alone needs none where the key was absent
abbrev pub HasAnswer : {V : Type 0} → Op V → Option (Option V) → Reply V → Type 0
HasAnswer (ComputePresent k) answer (reply.ComputePresent None) = Unit {0}
HasAnswer (ComputePresent k) answer r = IsSome answer
HasAnswer (ComputeInsert k) answer r = IsSome answer
HasAnswer _ answer r = Unit {0}

-- its entry, where there is one
abbrev pub with_call : {V : Type 0} → ℕ → Reply V → Option (Entered V) → Option (Entry V)
with_call who r None = None
with_call who r (Some c) = Some (record { worker = who; call = c; reply = r })

-- its entry
abbrev pub entry_of : {V : Type 0} → ℕ → Option (Request V) → Option (Reply V) → Option (Entry V)
entry_of who (Some q) (Some r) = with_call who r (call_of q.op q.answer r)
entry_of who (Some q) None = None
entry_of who None r = None

-- which is written down where the call took effect and a place is free
abbrev pub kept_if : {V : Type 0} → Bool → Bool → Option (Entry V) → Option (Entry V)
kept_if true true e = e
kept_if true false e = None
kept_if false room e = None

-- an option as a list
abbrev pub in_list : {A : Type 0} → Option A → List A
in_list None = []
in_list (Some x) = x ∷ []
