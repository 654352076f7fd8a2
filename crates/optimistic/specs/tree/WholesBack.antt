-- The pairs of a range as they are at one moment, from the greatest key down.
use Rattle.std.specs.Prelude.{◌≡◌, ◌⊎◌, ℕ, ◌≤◌, List, length}
use Rattle.optimistic.specs.declared.drain.nexts.Pair.{Pair}
use Rattle.optimistic.specs.declared.tree.whole.Mark.{Mark}
use Rattle.optimistic.specs.declared.words.rule.Entry.{Entry}
use Rattle.optimistic.specs.declared.words.rule.Moment.{Moment}
use Rattle.optimistic.specs.declared.words.rule.View.{View}
use Rattle.optimistic.specs.words.Kept.{Since, Sound}
use Rattle.optimistic.specs.tree.RunsBack.{IsDrainedBack}
use Rattle.optimistic.specs.tree.Trees.{IsTree}
use Rattle.optimistic.specs.tree.Wholes.{AreSeen, IsSteadfast}

-- while each of these nodes has the version at which it was seen, these are the pairs from one key on and below another
pub record IsCollectedBack (marks : List Mark) (low to : ℕ) (pairs : List Pair) (v : View) : Type 0 where
  pub order : low ≤ to
  pub seen : AreSeen marks v
  pub holds : (b : Moment) → Since v.seen b → Sound IsTree b → IsSteadfast marks b → IsDrainedBack b.log low to pairs

-- These are the pairs that a log makes of the keys from one on and below another, in descending order, or as many as there are places, the
-- greatest
pub record IsRangeBack (log : List Entry) (from to places : ℕ) (pairs : List Pair) : Type 0 where
  pub low : ℕ
  pub told : IsDrainedBack log low to pairs
  pub few : length pairs ≤ places
  pub end : (low ≡ from) ⊎ ((from ≤ low) × (length pairs ≡ places))
