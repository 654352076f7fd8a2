-- Why an attempt comes to nothing: another thread was at the nodes meanwhile.
use Rattle.std.specs.Prelude.{◌≡◌, ◌≢◌, ℕ, ◌%◌, ◌<◌, ◌⊎◌}
use Rattle.optimistic.specs.Layout.{where_of}
use Rattle.optimistic.specs.declared.tree.place.Place.{Place}
use Rattle.optimistic.specs.declared.tree.place.Look.{Look}
use Rattle.optimistic.specs.declared.tree.place.Look.TheVariants.{Answer, Down, Again}
use Rattle.optimistic.specs.declared.words.rule.Moment.{Moment}
use Rattle.optimistic.specs.declared.words.rule.View.{View}
use Rattle.optimistic.specs.words.Kept.{word_at, version_at, size, Since, Sound}
use Rattle.optimistic.specs.tree.Trees.{IsTree, where_at}

-- some node that there was at a moment was locked then, or has another version later
pub record IsDisturbed (a b : Moment) : Type 0 where
  pub node : ℕ
  pub some : 0 < size a.plots node
  pub moved : (version_at a.words node % 2 ≡ 1) ⊎ (version_at b.words node ≢ version_at a.words node)

-- so it was from a moment between two others until the later one
pub record IsDisturbedIn (a b : Moment) : Type 0 where
  pub begin : Moment
  pub after : Since a begin
  pub before : Since begin b
  pub moved : IsDisturbed begin b

abbrev pub IsDisturbedFrom : View → View → Type 0
IsDisturbedFrom v w = IsDisturbedIn v.seen w.seen

-- each node of the later of two moments was one at the earlier, unlocked, and has the same version
abbrev pub IsQuiet : Moment → Moment → Type 0
IsQuiet a b = (n : ℕ) → 0 < size b.plots n → (0 < size a.plots n) × (version_at a.words n % 2 ≡ 0) × (version_at b.words n ≡ version_at a.words n)

-- a node had this version at a moment between two others
pub record IsDated (node version : ℕ) (a b : Moment) : Type 0 where
  pub when : Moment
  pub after : Since a when
  pub before : Since when b
  pub some : 0 < size when.plots node
  pub version_is : word_at when.words node 0 ≡ version

-- where a look at a node that, at the moment a, was settled as one that covers the key comes to: the key's value, or a deeper node that was
-- settled as one that covers the key
abbrev pub IsLed : Moment → ℕ → Place → Look → Type 0
IsLed a key at (Answer x) = Unit {0}
IsLed a key at (Down p) = (at.level < p.level) × (where_at a.calm p.node ≡ where_of p.form p.level key)
IsLed a key at Again = ⊥

-- A look at a node begins at a moment; and whatever moment that isn't later had the node settled as one that covers the key, the look came to
-- something, or some node moved since
pub record IsSeen (key : ℕ) (at : Place) (look : Look) (v w : View) : Type 0 where
  pub begin : Moment
  pub after : Since v.seen begin
  pub before : Since begin w.seen
  pub sound : Sound IsTree begin
  pub tells : (a : Moment) → Sound IsTree a → Since a begin → where_at a.calm at.node ≡ where_of at.form at.level key → IsDisturbed a w.seen ⊎ IsLed a key at look

-- where a way is after d nodes: at the key's value, or at a node deeper than that
abbrev pub IsWay : Moment → ℕ → ℕ → Look → Type 0
IsWay a key d (Answer x) = d < 9
IsWay a key d (Down p) = (d < p.level) × (where_at a.calm p.node ≡ where_of p.form p.level key)
IsWay a key d Again = ⊥

-- an attempt that began at the root is there, or some node moved since it began
pub record IsFollowed (key d : ℕ) (look : Look) (v w : View) : Type 0 where
  pub begin : Moment
  pub after : Since v.seen begin
  pub before : Since begin w.seen
  pub sound : Sound IsTree begin
  pub way : IsDisturbed begin w.seen ⊎ IsWay begin key d look
