-- The pairs of a range as they are at one moment, which the versions of all nodes that told of it show.
use Rattle.std.specs.Prelude.{◌≡◌, ◌≢◌, ◌⊎◌, ℕ, ◌<◌, ◌≤◌, List, length, Result, Ok, Err}
use Rattle.std.specs.List.{Contains}
use Rattle.optimistic.specs.Layout.{width}
use Rattle.optimistic.specs.declared.drain.nexts.Pair.{Pair}
use Rattle.optimistic.specs.declared.tree.run.Run.{Run}
use Rattle.optimistic.specs.declared.tree.whole.Mark.{Mark}
use Rattle.optimistic.specs.declared.tree.whole.Unscanned.{Unscanned}
use Rattle.optimistic.specs.declared.tree.whole.Unscanned.TheVariants.{Again, Memory}
use Rattle.optimistic.specs.declared.words.rule.Entry.{Entry}
use Rattle.optimistic.specs.declared.words.rule.Moment.{Moment}
use Rattle.optimistic.specs.declared.words.rule.View.{View}
use Rattle.optimistic.specs.words.Calls.{Later}
use Rattle.optimistic.specs.words.Kept.{word_at, calls_by, Since, Sound}
use Rattle.optimistic.specs.words.Told.{HasForm}
use Rattle.optimistic.specs.tree.Alone.{IsDated}
use Rattle.optimistic.specs.tree.Drained.{IsDrained}
use Rattle.optimistic.specs.tree.Trees.{IsTree}

-- each of these nodes is known, and was seen at its version
abbrev pub AreSeen : List Mark → View → Type 0
AreSeen marks v = (m : Mark) → Contains marks m → HasForm m.node m.form v × (0 < width m.form) × (m.version ≤ word_at v.seen.words m.node 0)

-- each has its version
abbrev pub IsSteadfast : List Mark → Moment → Type 0
IsSteadfast marks b = (m : Mark) → Contains marks m → word_at b.words m.node 0 ≡ m.version

-- each had it at a moment between two views
abbrev pub AreDated : List Mark → View → View → Type 0
AreDated marks v w = (m : Mark) → Contains marks m → IsDated m.node m.version v.seen w.seen

-- one of them has another version
abbrev pub HasMoved : List Mark → View → Type 0
HasMoved marks w = (m : Mark) × Contains marks m × (word_at w.seen.words m.node 0 ≢ m.version)

-- this holds where a writer came between
abbrev pub IfAgain : {A : Type 0} → Result A Unscanned → Type 0 → Type 0
IfAgain (Ok x) P = Unit {0}
IfAgain (Err Again) P = P
IfAgain (Err Memory) P = Unit {0}

-- what is kept in mind of what a node told
abbrev pub mark_of : Run → Mark
mark_of s = record { node = s.at.node; form = s.at.form; version = s.version }

-- these marks are those, and perhaps one more, which is among them
pub record HasMore (old : List Mark) (mark : Mark) (new : List Mark) : Type 0 where
  pub kept : (m : Mark) → Contains old m → Contains new m
  pub there : Contains new mark
  pub only : (m : Mark) → Contains new m → Contains old m ⊎ (mark ≡ m)

-- while each has it, these are the pairs from one key on and below another
pub record IsCollected (marks : List Mark) (from next : ℕ) (pairs : List Pair) (v : View) : Type 0 where
  pub order : from ≤ next
  pub seen : AreSeen marks v
  pub holds : (b : Moment) → Since v.seen b → Sound IsTree b → IsSteadfast marks b → IsDrained b.log from next pairs

-- These are the pairs that a log makes of the keys from one on and below another, in ascending order, or as many as there are places, the
-- lowest
pub record IsRange (log : List Entry) (from to places : ℕ) (pairs : List Pair) : Type 0 where
  pub next : ℕ
  pub told : IsDrained log from next pairs
  pub few : length pairs ≤ places
  pub end : (next ≡ to) ⊎ ((next ≤ to) × (length pairs ≡ places))

-- the thread went on, and changed nothing
pub record Went (v w : View) : Type 0 where
  pub later : Later v w
  pub since : Since v.seen w.seen
  pub mine : w.mine ≡ v.mine
  pub own : calls_by v.by v.seen.log ≡ v.made → calls_by w.by w.seen.log ≡ w.made
