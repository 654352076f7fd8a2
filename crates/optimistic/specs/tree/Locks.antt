-- What came of an attempt to lock a node.
use Rattle.std.specs.Prelude.{◌≡◌, ℕ, ◌+◌, ◌^◌, ◌<◌}
use Rattle.optimistic.specs.declared.tree.lock.Locking.{Locking}
use Rattle.optimistic.specs.declared.tree.lock.Locking.TheVariants.{Had, Busy, Exhausted}
use Rattle.optimistic.specs.declared.words.rule.Moment.{Moment}
use Rattle.optimistic.specs.declared.words.rule.View.{View}
use Rattle.optimistic.specs.words.Kept.{size, version_at}
use Rattle.optimistic.specs.words.Told.{Looks, Locks}
use Rattle.optimistic.specs.tree.Trees.{IsTree}

-- The thread saw a later moment, and then took node n, which it has at this version, and can let go
pub record HasLocked (n version : ℕ) (v w : View) : Type 0 where
  pub u : View
  pub ver : ℕ
  pub looks : Looks IsTree v u
  pub locks : Locks IsTree n ver u w
  pub is : version ≡ ver + 1
  pub bounded : version + 1 < 2 ^ 64

-- node n has the last version that can be had, at which nobody can lock it
abbrev pub IsAtEnd : ℕ → Moment → Type 0
IsAtEnd n m = (0 < size m.plots n) × (version_at m.words n + 2 ≡ 2 ^ 64)

-- some node has
abbrev pub HasEnded : Moment → Type 0
HasEnded m = (n : ℕ) × IsAtEnd n m

-- a thread has node n, or has seen a later moment, and nothing else changed
abbrev pub IsLocking : ℕ → Locking → View → View → Type 0
IsLocking n (Had version) v w = HasLocked n version v w
IsLocking n Busy v w = Looks IsTree v w
IsLocking n Exhausted v w = Looks IsTree v w × IsAtEnd n w.seen
