-- The nodes that a scan passed.
use Rattle.std.specs.Prelude.{◌≡◌, ℕ, ◌<◌, [], length, Some, slice_get}
use Rattle.optimistic.specs.declared.tree.ahead.Ahead.{Ahead}
use Rattle.optimistic.specs.declared.tree.place.Place.{Place}
use Rattle.optimistic.specs.declared.tree.trail.Trail.{Trail}
use Rattle.optimistic.specs.declared.tree.trail.Turn.{Turn}
use Rattle.optimistic.specs.declared.tree.trail.Turn.TheVariants.{Here, Up, Down}
use Rattle.optimistic.specs.declared.words.rule.Moment.{Moment}
use Rattle.optimistic.specs.declared.words.rule.View.{View}
use Rattle.optimistic.specs.words.Kept.{view_of}
use Rattle.optimistic.specs.tree.Reads.{IsPlace}

-- a node is known at a moment
abbrev pub IsKnown : Place → Moment → Type 0
IsKnown p m = IsPlace p (view_of m [] [] 0)

-- the node below is known
abbrev pub IsTurn : Turn → View → Type 0
IsTurn Here v = Unit {0}
IsTurn Up v = Unit {0}
IsTurn (Down p) v = IsPlace p v

-- the nodes of a trail are known
pub record IsTrail (t : Trail) (m : Moment) : Type 0 where
  pub deep : t.depth < 8
  pub long : length t.places ≡ 8
  pub known : (i : ℕ) (p : Place) → slice_get t.places i ≡ Some p → IsKnown p m

-- the nodes to which the ways to some keys led are known
pub record AreKnown (a : Ahead) (m : Moment) : Type 0 where
  pub long : length a.places ≡ 8
  pub known : (i : ℕ) (p : Place) → slice_get a.places i ≡ Some p → IsKnown p m
