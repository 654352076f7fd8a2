-- What a call answers on a finite map, and the map after it.
use Rattle.std.specs.Prelude.{ℕ, Bool, cond, Option, None, Some, Ok, Err}
use Rattle.std.specs.Ordering.{nat_cmp}
use Rattle.std.specs.FinMap.{FinMap, get, insert, remove}
use Rattle.judge.specs.declared.journal.Call.{Call}
use Rattle.judge.specs.declared.journal.Call.TheVariants.{Get, Insert, Remove, ComputePresent, ComputeInsert, Exchange}
use Rattle.judge.specs.declared.journal.Reply.{Reply}
use Rattle.judge.specs.declared.journal.Reply.TheVariants as reply

-- the key of a call
abbrev pub key_of : {P : Type 0} → Call P → ℕ
key_of (Get k) = k
key_of (Insert k v) = k
key_of (Remove k) = k
key_of (ComputePresent k a) = k
key_of (ComputeInsert k a) = k
key_of (Exchange k old new) = k

-- what an exchange leaves there
abbrev pub exchange_leaves : {P : Type 0} → (P → P → Bool) → P → Option P → Option P → Option P
exchange_leaves same old new None = None
exchange_leaves same old new (Some v) = cond (same v old) new (Some v)

-- what a call on a present key alone leaves there
abbrev pub present_leaves : {P : Type 0} → Option P → Option P → Option P
present_leaves a None = None
present_leaves a (Some v) = a

-- what stands at the call's key after it, from what stood there before
abbrev pub leaves : {P : Type 0} → (P → P → Bool) → Call P → Option P → Option P
leaves same (Get k) found = found
leaves same (Insert k v) found = Some v
leaves same (Remove k) found = None
leaves same (ComputePresent k a) found = present_leaves a found
leaves same (ComputeInsert k a) found = Some a
leaves same (Exchange k old new) found = exchange_leaves same old new found

-- the reply of an exchange
abbrev pub exchange_reply : {P : Type 0} → (P → P → Bool) → P → Option P → Option P → Reply P
exchange_reply same old new None = reply.Exchange (Err None)
exchange_reply same old new (Some v) = cond (same v old) (reply.Exchange (Ok new)) (reply.Exchange (Err (Some v)))

-- the reply of a call on a present key alone
abbrev pub present_reply : {P : Type 0} → Option P → Option P → Reply P
present_reply a None = reply.ComputePresent None
present_reply a (Some v) = reply.ComputePresent (Some (v, a))

-- the reply of a call, from what stood at its key
abbrev pub reply_on : {P : Type 0} → (P → P → Bool) → Call P → Option P → Reply P
reply_on same (Get k) found = reply.Get found
reply_on same (Insert k v) found = reply.Insert found
reply_on same (Remove k) found = reply.Remove found
reply_on same (ComputePresent k a) found = present_reply a found
reply_on same (ComputeInsert k a) found = reply.ComputeInsert found
reply_on same (Exchange k old new) found = exchange_reply same old new found

-- a finite map from keys to values
abbrev pub Pairs : Type 0 → Type 0
Pairs P = FinMap nat_cmp P

-- the map with the value at the key, or without the key
abbrev pub set_at : {P : Type 0} → Pairs P → ℕ → Option P → Pairs P
set_at m k None = remove m k
set_at m k (Some v) = insert m k v

-- the reply of a call, and the next map: a call reads and sets its own key alone; `same` says which values an exchange
-- takes for the old one
abbrev pub answer : {P : Type 0} → (P → P → Bool) → Pairs P → Call P → Reply P × Pairs P
answer same m c = (reply_on same c (get m (key_of c)), set_at m (key_of c) (leaves same c (get m (key_of c))))
