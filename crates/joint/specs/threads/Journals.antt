-- What the lock of an index with a journal keeps: the journal, and how many of its writing calls are watched.
use Rattle.std.specs.Prelude.{◌≡◌, ℕ, ◌+◌, ◌≤◌, ◌&&◌, Bool, not, nat_eq, true, List, [], ◌∷◌, length}
use Rattle.std.specs.FinMap.{empty, entries}
use Rattle.judge.specs.Answer.{Pairs}
use Rattle.judge.specs.Journal.{IsLegal, Legal}
use Rattle.judge.specs.declared.journal.Entry.{Entry}
use Rattle.congee.specs.Keys.{IsMapOf}
use Rattle.joint.specs.nodes.Draining.{Drained}
use Rattle.joint.specs.nodes.Nodes.{nodes}
use Rattle.joint.specs.engine.Closing.{IsClosed}
use Rattle.joint.specs.engine.Journaling.{one_where}
use Rattle.joint.specs.nodes.Opening.{HasPlaces}
use Rattle.joint.specs.world.MapSteps.{looks_up}
use Rattle.joint.specs.world.World.{Holds}
use Rattle.joint.specs.engine.Engine.{World}

-- whether an entry is one of a writing call, and watched
abbrev pub is_watched : (Entry ℕ → Bool) → Entry ℕ → Bool
is_watched watched e = not (looks_up e.call) && watched e

-- how many of these entries are
abbrev pub count_watched : (Entry ℕ → Bool) → List (Entry ℕ) → ℕ
count_watched watched [] = 0
count_watched watched (e ∷ es) = one_where (is_watched watched e) + count_watched watched es

-- a journal is kept, which is legal and replays to the pairs that stand
pub record IsJournaled (s : World ℕ) : Type 0 where
  pub places : HasPlaces s.log.places
  pub long : length s.log.entries ≤ s.log.places
  pub legal : IsLegal nat_eq s.log.entries
  pub replays : (m : Pairs ℕ) → IsMapOf (nodes s.forest) m → Legal nat_eq empty s.log.entries m

-- these are the entries of such a journal
abbrev pub IsJournal : List (Entry ℕ) → Type 0
IsJournal entries = (s : World ℕ) × IsJournaled s × (entries ≡ s.log.entries)

-- so many entries of such a journal are of writing calls and watched
abbrev pub IsCounted : (Entry ℕ → Bool) → ℕ → Type 0
IsCounted watched n = (entries : List (Entry ℕ)) × IsJournal entries × (n ≡ count_watched watched entries)

-- a closed index with its journal: of the one machine that the lock kept the pairs were drained, and these are the entries,
-- which replay to those pairs
pub record ClosesJournal {D : Type 0} (drains : D → ℕ → ℕ → D → Type 0) (before : D) (charge limit : ℕ) (after : D) (journal : List (Entry ℕ)) : Type 0 where
  pub state : World ℕ
  pub holds : Holds nat_eq true state
  pub closed : IsClosed drains state before charge limit after
  pub journaled : IsJournaled state
  pub journal_is : journal ≡ state.log.entries
  pub pairs : Pairs ℕ
  pub replays : Legal nat_eq empty journal pairs
  pub drained : Drained drains before (entries pairs) after
