-- What the machine writes down: the entries of its journal, the places kept for entries to come, and each worker's call in
-- flight as it was asked for.
use Rattle.std.specs.Prelude.{ℕ, zero, suc, ◌+◌, ◌-◌, ltb, not, ◌&&◌, Bool, true, false, List, [], length, Option, None, Some, slice_index_or, slice_set, replicate}
use Rattle.judge.specs.declared.journal.Entry.{Entry}
use Rattle.joint.specs.declared.engine.request.Request.{Request}
use Rattle.joint.specs.declared.steps.Op.{Op}
use Rattle.joint.specs.declared.steps.Op.TheVariants.{ComputeInsert}

-- what is written down
pub record Log (V : Type 0) : Type 0 where
  -- in the order in which the calls took effect
  pub entries : List (Entry V)
  -- the most entries that there can be, none where no journal is kept
  pub places : ℕ
  -- the places that writing calls in flight have reserved
  pub reserved : ℕ
  -- by the worker's place
  pub requests : List (Option (Request V))

-- nothing is written down, and no journal is kept
abbrev pub no_log : {V : Type 0} → Log V
no_log = record { entries = []; places = 0; reserved = 0; requests = [] }

-- with nothing written down
abbrev pub opened_log : {V : Type 0} → ℕ → ℕ → Log V
opened_log workers places = record { entries = []; places = places; reserved = 0; requests = replicate workers None }

-- a place is free that nobody has reserved
abbrev pub has_room : {V : Type 0} → Log V → Bool
has_room l = ltb (length l.entries + l.reserved) l.places

-- a journal is kept, and no such place is free
abbrev pub is_full : {V : Type 0} → Log V → Bool
is_full l = ltb 0 l.places && not (has_room l)

-- the places reserved after a step, by whether its call had one before it and has one after it
abbrev pub counted : Bool → Bool → ℕ → ℕ
counted false true n = n + 1
counted true false n = n - 1
counted true true n = n
counted false false n = n

-- the same where a journal is kept; else they stay
abbrev pub recounted : ℕ → Bool → Bool → ℕ → ℕ
recounted zero before after n = n
recounted (suc places) before after n = counted before after n

-- a worker's call in flight, as it was asked for
abbrev pub request_at : {V : Type 0} → List (Option (Request V)) → ℕ → Option (Request V)
request_at requests who = slice_index_or requests who None

-- a call as it is asked for, with no answer yet
abbrev pub asked : {V : Type 0} → Op V → Option (Request V)
asked op = Some (record { op = op; answer = None })

-- with another request in a worker's place, where one is to be noted
abbrev pub with_request : {V : Type 0} → Log V → ℕ → Bool → Option (Request V) → Log V
with_request l who true q = record l { requests = slice_set l.requests who q }
with_request l who false q = l

-- to take the key out is no answer where a value is wanted
abbrev pub with_none : {V : Type 0} → Op V → Option (Option V) → Option (Option V)
with_none (ComputeInsert k) answer = answer
with_none _ answer = Some None

-- a call that asks takes an answer, or none comes
abbrev pub with_answer : {V : Type 0} → Option (Option V) → Request V → Request V
with_answer None q = q
with_answer (Some None) q = record { op = q.op; answer = with_none q.op q.answer }
with_answer (Some (Some x)) q = record { op = q.op; answer = Some (Some x) }

-- it does where its next step takes one
abbrev pub answered_if : {V : Type 0} → Bool → Option (Option V) → Option (Request V) → Option (Request V)
answered_if true answer (Some q) = Some (with_answer answer q)
answered_if true answer None = None
answered_if false answer q = q
