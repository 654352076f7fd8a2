-- The writes of a worker, and their answers.
use Rattle.std.specs.Prelude.{◌≡◌, ◌≢◌, ℕ, Option, None, Some, Result, Ok, Err}
use Rattle.optimistic.specs.declared.face.refusal.Refusal.{Refusal}
use Rattle.optimistic.specs.declared.face.refusal.Refusal.TheVariants as refusal
use Rattle.optimistic.specs.declared.face.writes.Written.{Written}
use Rattle.optimistic.specs.declared.face.writes.Written.TheVariants.{Made, Differs}
use Rattle.optimistic.specs.declared.tree.set.Set.{Set}
use Rattle.optimistic.specs.declared.tree.set.Set.TheVariants as set
use Rattle.optimistic.specs.declared.tree.write.Condition.TheVariants.{Always, Has}
use Rattle.optimistic.specs.declared.tree.write.Write.{Write}
use Rattle.optimistic.specs.declared.words.nodes.Uncarved.{Uncarved}
use Rattle.optimistic.specs.declared.words.nodes.Uncarved.TheVariants as uncarved
use Rattle.optimistic.specs.face.Calls.{Known, Wrote, Found}
use Rattle.optimistic.specs.face.Refusals.{IsRefused, IsRefusedInPlace}

abbrev pub insertion : ℕ → ℕ → Write
insertion key value = record { key = key; value = Some value; only = Always }

abbrev pub removal : ℕ → Write
removal key = record { key = key; value = None; only = Always }

abbrev pub exchange : ℕ → Option ℕ → Option ℕ → Write
exchange key old new = record { key = key; value = new; only = Has old }

-- what came of an attempt, which may have wanted a node
abbrev pub came_of : Set → Result Written Refusal
came_of (set.Done old) = Ok (Made old)
came_of (set.Differs x) = Ok (Differs x)
came_of set.Again = Err refusal.Again
came_of set.Full = Err refusal.Again
came_of set.Taken = Err refusal.Again
came_of set.Exhausted = Err refusal.Exhausted

abbrev pub outcome_of : Result Set Uncarved → Result Written Refusal
outcome_of (Ok s) = came_of s
outcome_of (Err uncarved.Full) = Err refusal.Full
outcome_of (Err uncarved.Again) = Err refusal.Again

-- what a key had before it was written, or has where it isn't to be
abbrev pub before : Result Written Refusal → Result (Option ℕ) Refusal
before (Ok (Made old)) = Ok old
before (Ok (Differs x)) = Ok x
before (Err e) = Err e

-- the new value, or what the key has in place of the old one
abbrev pub exchanged : Option ℕ → Result Written Refusal → Result (Result (Option ℕ) (Option ℕ)) Refusal
exchanged new (Ok (Made old)) = Ok (Ok new)
exchanged new (Ok (Differs x)) = Ok (Err x)
exchanged new (Err e) = Err e

-- another writer may come between no more
abbrev pub IsFinal : Refusal → Type 0
IsFinal e = e ≢ refusal.Again

-- a value was put at a key, which had this before, or nothing was done
abbrev pub IsInserted : ℕ → ℕ → Known → Known → Result (Option ℕ) Refusal → Type 0
IsInserted key value v w (Ok old) = Wrote key (Some value) old v w
IsInserted key value v w (Err e) = IsRefused e v w

-- a key's value was taken out, or the key had none, or nothing was done
abbrev pub IsRemoved : ℕ → Known → Known → Result (Option ℕ) Refusal → Type 0
IsRemoved key v w (Ok (Some x)) = Wrote key None (Some x) v w
IsRemoved key v w (Ok None) = Found key None v w
IsRemoved key v w (Err e) = IsRefusedInPlace e v w

-- the new value came in the old one's place, or the key has something else, or nothing was done
abbrev pub IsExchanged : ℕ → ℕ → Option ℕ → Known → Known → Result (Result (Option ℕ) (Option ℕ)) Refusal → Type 0
IsExchanged key old new v w (Ok (Ok x)) = (x ≡ new) × Wrote key new (Some old) v w
IsExchanged key old new v w (Ok (Err x)) = Found key x v w × (x ≢ Some old)
IsExchanged key old new v w (Err e) = IsRefusedInPlace e v w
