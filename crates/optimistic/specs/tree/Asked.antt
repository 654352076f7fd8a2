-- What a node, that at the moment a was settled as one that covers the key, tells of the pairs beside the key.
use Rattle.std.specs.Prelude.{◌≡◌, ℕ, ◌<◌, ◌⊎◌, Option, None, Some}
use Rattle.optimistic.specs.Layout.{where_of}
use Rattle.optimistic.specs.declared.drain.nexts.Next.{Next}
use Rattle.optimistic.specs.declared.drain.nexts.Next.TheVariants.{Here, Down, After}
use Rattle.optimistic.specs.declared.tree.last.BackSight.{BackSight}
use Rattle.optimistic.specs.declared.tree.next.Sight.{Sight}
use Rattle.optimistic.specs.declared.tree.place.Place.{Place}
use Rattle.optimistic.specs.declared.words.rule.Moment.{Moment}
use Rattle.optimistic.specs.declared.words.rule.View.{View}
use Rattle.optimistic.specs.words.Kept.{Since, Sound}
use Rattle.optimistic.specs.tree.Alone.{IsDated, IsDisturbed, IsDisturbedFrom}
use Rattle.optimistic.specs.tree.Trees.{IsTree, where_at}

-- a node below, if it sends to one, is deeper and was settled as one that covers the key
abbrev pub IsLedNext : Moment → ℕ → ℕ → Next → Type 0
IsLedNext a key level (Here x) = Unit {0}
IsLedNext a key level (Down p) = (level < p.level) × (where_at a.calm p.node ≡ where_of p.form p.level key)
IsLedNext a key level (After last) = Unit {0}

-- a node told something, at the version that it had at a moment from a on
abbrev pub IsShown : Moment → ℕ → ℕ → Option Sight → View → Type 0
IsShown a key level None w = ⊥
IsShown a key level (Some s) w = IsDated s.at.node s.version a w.seen × IsLedNext a key level s.next

-- A node was asked from a moment on; and whatever moment that isn't later had it settled as one that covers the key, it told something, or some
-- node moved since
pub record IsAsked (key : ℕ) (at : Place) (o : Option Sight) (v w : View) : Type 0 where
  pub begin : Moment
  pub after : Since v.seen begin
  pub before : Since begin w.seen
  pub sound : Sound IsTree begin
  pub tells : (a : Moment) → Sound IsTree a → Since a begin → where_at a.calm at.node ≡ where_of at.form at.level key → IsDisturbed a w.seen ⊎ IsShown a key at.level o w

-- where a way is after d nodes
abbrev pub IsNextWay : Moment → ℕ → ℕ → Next → Type 0
IsNextWay a key d (Here x) = d < 9
IsNextWay a key d (Down p) = (d < p.level) × (where_at a.calm p.node ≡ where_of p.form p.level key)
IsNextWay a key d (After last) = d < 9

abbrev pub IsOnWay : Moment → ℕ → ℕ → Option Sight → View → Type 0
IsOnWay a key d None w = ⊥
IsOnWay a key d (Some s) w = IsDated s.at.node s.version a w.seen × IsNextWay a key d s.next

-- a way that began at the root is there, or some node moved since it began
pub record IsTraced (key d : ℕ) (o : Option Sight) (v w : View) : Type 0 where
  pub begin : Moment
  pub after : Since v.seen begin
  pub before : Since begin w.seen
  pub sound : Sound IsTree begin
  pub way : IsDisturbed begin w.seen ⊎ IsOnWay begin key d o w

-- it sends to no other node
abbrev pub IsEnd : Next → Type 0
IsEnd (Here x) = Unit {0}
IsEnd (Down p) = ⊥
IsEnd (After last) = Unit {0}

abbrev pub IsEndSight : Option Sight → View → View → Type 0
IsEndSight None v w = ⊥
IsEndSight (Some s) v w = IsDated s.at.node s.version v.seen w.seen × IsEnd s.next

-- a way led to a node that told something, or some node moved meanwhile
abbrev pub IsSought : Option Sight → View → View → Type 0
IsSought o v w = IsDisturbedFrom v w ⊎ IsEndSight o v w

-- what a node told of the keys from one on
abbrev pub sight_in : Option BackSight → Option Sight
sight_in None = None
sight_in (Some b) = Some b.sight
