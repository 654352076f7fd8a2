-- Rounds of one participant while nobody else steps, and what they make of the queue.
use Rattle.std.specs.Prelude.{◌≡◌, ◌≢◌, ℕ, zero, suc, ◌+◌, ◌<◌, ◌≤◌, ◌⊎◌, true, List, [], ◌∷◌, ◌++◌, length, Some, None}
use Rattle.std.specs.List.{Contains}
use Rattle.crossbeam_epoch.specs.declared.bag.Deferral.{Deferral}
use Rattle.crossbeam_epoch.specs.declared.bag.Sealed.{Sealed}
use Rattle.crossbeam_epoch.specs.declared.world.participant.Phase.TheVariants.{Idle}
use Rattle.crossbeam_epoch.specs.declared.world.report.Op.{Op}
use Rattle.crossbeam_epoch.specs.declared.world.report.Op.TheVariants.{Pin, Unpin, Flush}
use Rattle.crossbeam_epoch.specs.declared.world.report.Outcome.TheVariants.{Done}
use Rattle.crossbeam_epoch.specs.declared.world.report.Report.{Report}
use Rattle.crossbeam_epoch.specs.world.Calls.{IsCall}
use Rattle.crossbeam_epoch.specs.world.Machine.{State, place}
use Rattle.crossbeam_epoch.specs.Limits.{most_bags}

-- every participant is between calls and unpinned, and the epoch is at least three below its greatest
pub record IsQuiet {T J : Type 0} (s : State T J) : Type 0 where
  pub idle : (q : ℕ) → (place s q).registered ≡ true → (place s q).phase ≡ Idle
  pub unpinned : (q : ℕ) → (place s q).registered ≡ true → (place s q).word ≡ None
  pub far : s.epoch + 3 ≤ s.limits.epoch_max

-- a whole call that is done, with no step of another between
pub record Finishes {T J : Type 0} (s : State T J) (who : ℕ) (op : Op) (s' : State T J) : Type 0 where
  pub most : ℕ
  pub reports : List Report
  pub newest : Report
  pub call : IsCall s who op most reports (Some newest) s'
  pub done : newest.outcome ≡ Done

-- a round: a pin, a flush, an unpin
pub record IsRound {T J : Type 0} (s : State T J) (who : ℕ) (s' : State T J) : Type 0 where
  pub pinned : State T J
  pub flushed : State T J
  pub pins : Finishes s who Pin pinned
  pub flushes : Finishes pinned who Flush flushed
  pub unpins : Finishes flushed who Unpin s'

-- so many rounds, one after another
abbrev pub AreRounds : {T J : Type 0} → State T J → ℕ → ℕ → State T J → Type 0
AreRounds s who zero s' = s' ≡ s
AreRounds {T} {J} s who (suc n) s' = (now : State T J) × IsRound s who now × AreRounds now who n s'

-- the oldest bag is not `expiry` behind the epoch that the advance answered, or there is none
abbrev pub IsNotDue : {J : Type 0} → ℕ → ℕ → List (Sealed J) → Type 0
IsNotDue expiry answered [] = Unit {0}
IsNotDue expiry answered (b ∷ queue) = answered < b.seal + expiry

-- a collection takes bags off the queue's front, until the front one isn't due, none is left or eight are taken
pub record TakesOff {J : Type 0} (expiry answered : ℕ) (queue queue' : List (Sealed J)) : Type 0 where
  pub taken : List (Sealed J)
  pub front : queue ≡ taken ++ queue'
  pub few : length taken ≤ most_bags
  pub due : (b : Sealed J) → Contains taken b → b.seal + expiry ≤ answered
  pub stops : (length taken ≡ most_bags) ⊎ IsNotDue expiry answered queue'

-- a bag that a flush seals: none if it is empty
abbrev pub IsSealedBag : {J : Type 0} → List (Deferral J) → List (Sealed J) → Type 0
IsSealedBag [] sealed = sealed ≡ []
IsSealedBag (e ∷ bag) sealed = (seal : ℕ) × (sealed ≡ record { seal = seal; jobs = e ∷ bag } ∷ [])

-- the queue is empty, and so is the participant's bag; nothing is in hand, nobody is pinned, and the others' places are as
-- they were
pub record IsEmptied {T J : Type 0} (s : State T J) (who : ℕ) (s' : State T J) : Type 0 where
  pub queue : s'.queue ≡ []
  pub bag : (place s' who).bag ≡ []
  pub hands : (q : ℕ) → (place s' q).hand ≡ []
  pub others : (q : ℕ) → q ≢ who → place s' q ≡ place s q
