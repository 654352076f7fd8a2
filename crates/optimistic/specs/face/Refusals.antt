-- Why a write was not made, and why an index was not opened.
use Rattle.std.specs.Prelude.{◌≢◌, ℕ, ◌^◌, ◌<◌, ◌≤◌}
use Rattle.optimistic.specs.declared.face.refusal.Refusal.{Refusal}
use Rattle.optimistic.specs.declared.face.refusal.Refusal.TheVariants.{Again, Full, Exhausted}
use Rattle.optimistic.specs.declared.face.refusal.Unopened.{Unopened}
use Rattle.optimistic.specs.declared.face.refusal.Unopened.TheVariants.{Words, Memory}
use Rattle.optimistic.specs.words.Room.{HasNoRoom}
use Rattle.optimistic.specs.tree.Locks.{HasEnded}
use Rattle.optimistic.specs.face.Calls.{Known, Looked}

-- What a refusal tells of the index, as the worker has then seen it: there are fewer words left than a node of some form has, or some
-- node has had all its lockings
abbrev pub HasCause : Refusal → Known → Type 0
HasCause Again w = Unit {0}
HasCause Full w = HasNoRoom w.index.words w.moment
HasCause Exhausted w = HasEnded w.moment

-- nothing was done, for this cause
abbrev pub IsRefused : Refusal → Known → Known → Type 0
IsRefused e v w = Looked v w × HasCause e w

-- the same, and it isn't that there is no room
abbrev pub IsRefusedInPlace : Refusal → Known → Known → Type 0
IsRefusedInPlace e v w = IsRefused e v w × (e ≢ Full)

-- so many words an index may have
abbrev pub IsSize : ℕ → Type 0
IsSize words = (536 ≤ words) × (words < 2 ^ 48)

-- an index has no such number of words, or there is no memory for them
abbrev pub IsUnopened : ℕ → Unopened → Type 0
IsUnopened words Words = IsSize words → ⊥
IsUnopened words (Memory e) = IsSize words
