-- How many words are in use, and why there is no new node.
use Rattle.std.specs.Prelude.{ℕ, ◌+◌, ◌<◌, slice_index}
use Rattle.optimistic.specs.Layout.{width}
use Rattle.optimistic.specs.declared.words.nodes.Uncarved.{Uncarved}
use Rattle.optimistic.specs.declared.words.nodes.Uncarved.TheVariants.{Again, Full}
use Rattle.optimistic.specs.declared.words.rule.Moment.{Moment}

-- how many words are in use: behind them no node was carved yet
abbrev pub used : Moment → ℕ
used m = slice_index m.words 0

-- why no node of a form was carved: of so many words in all fewer are left, from the end on, than it has
abbrev pub IsUncarved : ℕ → ℕ → Uncarved → Moment → Type 0
IsUncarved words form Full m = words < used m + width form
IsUncarved words form Again m = Unit {0}

-- the same of some form
abbrev pub IsUnmade : ℕ → Uncarved → Moment → Type 0
IsUnmade words e m = (form : ℕ) × (0 < form) × (form < 9) × IsUncarved words form e m

-- fewer words are left than a node of some form has
abbrev pub HasNoRoom : ℕ → Moment → Type 0
HasNoRoom words m = IsUnmade words Full m
