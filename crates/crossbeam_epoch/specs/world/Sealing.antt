-- What holds of sealed bags and of destructions, whatever steps led there.
use Rattle.std.specs.Prelude.{ℕ, ◌+◌, ◌==◌, ◌&&◌, ◌<◌, ◌≤◌, Bool, List, [], ◌∷◌, length, Option, Some, None, is_some, if◌then◌else◌}
use Rattle.std.specs.List.{Contains}
use Rattle.crossbeam_epoch.specs.declared.names.Name.{Name}
use Rattle.crossbeam_epoch.specs.declared.world.participant.Phase.{Phase}
use Rattle.crossbeam_epoch.specs.declared.world.participant.Phase.TheVariants as P
use Rattle.crossbeam_epoch.specs.declared.bag.Sealed.{Sealed}
use Rattle.crossbeam_epoch.specs.world.History.{Mark, Pinned, Repinned, Unpinned, Deferred, Called}
use Rattle.crossbeam_epoch.specs.world.Machine.{State, place}
use Rattle.crossbeam_epoch.specs.world.Store.{Store, value_at, was_given}
use Rattle.crossbeam_epoch.specs.Limits.{bag_places}

-- a call seals only a bag that has a job, under an epoch that was
abbrev pub SealsAt : ℕ → ℕ → Phase → Type 0
SealsAt epoch bag P.Seal = 0 < bag
SealsAt epoch bag (P.Queue seal) = (0 < bag) × (seal ≤ epoch)
SealsAt epoch bag P.ReleaseSeal = 0 < bag
SealsAt epoch bag (P.ReleaseQueue seal) = (0 < bag) × (seal ≤ epoch)
SealsAt epoch bag (P.Secure n) = n ≤ bag_places
SealsAt epoch bag P.SecureSeal = 0 < bag
SealsAt epoch bag (P.SecureQueue seal) = (0 < bag) × (seal ≤ epoch)
SealsAt epoch bag _ = Unit {0}

-- no empty bag is queued, and no seal is past the epoch
pub record IsSealing {T J : Type 0} (s : State T J) : Type 0 where
  pub filled : (b : Sealed J) → Contains s.queue b → 0 < length b.jobs
  pub past : (b : Sealed J) → Contains s.queue b → b.seal ≤ s.epoch
  pub places : (q : ℕ) → SealsAt s.epoch (length (place s q).bag) (place s q).phase

-- whether two names are the same
abbrev pub is_name : Name → Name → Bool
is_name m n = (m.cell == n.cell) && (m.turn == n.turn)

-- whether this is the name that is told
abbrev pub counts_name : Option Name → Name → ℕ
counts_name None n = 0
counts_name (Some m) n = if is_name m n then 1 else 0

-- how often the destruction of a cell is told
abbrev pub destructions : List Mark → Name → ℕ
destructions [] n = 0
destructions (Pinned who epoch ∷ h) n = destructions h n
destructions (Repinned who epoch ∷ h) n = destructions h n
destructions (Unpinned who ∷ h) n = destructions h n
destructions (Deferred ticket name ∷ h) n = destructions h n
destructions (Called ticket name ∷ h) n = counts_name name n + destructions h n

-- a test as a number
abbrev pub bit : Bool → ℕ
bit b = if b then 1 else 0

-- a name's destruction is told once at most: not while it stands, and not before it was given
abbrev pub DestroyedOnce : {T : Type 0} → List Mark → Store T → Type 0
DestroyedOnce h st = (n : Name) → destructions h n + bit (is_some (value_at st n)) ≤ bit (was_given st n)
