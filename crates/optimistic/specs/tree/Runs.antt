-- What a node tells of the keys from one on, as many as it has.
use Rattle.std.specs.Prelude.{◌≡◌, ◌≢◌, ℕ, ◌+◌, ◌<◌, ◌≤◌, leb, false, List, [], ◌∷◌, Option, None, Some, IfSome, unwrap_or, if◌then◌else◌}
use Rattle.optimistic.specs.Layout.{byte_at, room}
use Rattle.optimistic.specs.declared.drain.nexts.Pair.{Pair}
use Rattle.optimistic.specs.declared.tree.place.Place.{Place}
use Rattle.optimistic.specs.declared.tree.run.Bit.{Bit}
use Rattle.optimistic.specs.declared.tree.run.Bit.TheVariants.{Told, Down}
use Rattle.optimistic.specs.declared.tree.run.Run.{Run}
use Rattle.optimistic.specs.declared.words.rule.Entry.{Entry}
use Rattle.optimistic.specs.declared.words.rule.Moment.{Moment}
use Rattle.optimistic.specs.declared.words.rule.View.{View}
use Rattle.optimistic.specs.forms.Children.{byte_in, taken_in, first_of, second_of, put_first, IsForm}
use Rattle.optimistic.specs.words.Kept.{word_at, value_of, Since, Sound}
use Rattle.optimistic.specs.tree.Drained.{IsDrained}
use Rattle.optimistic.specs.tree.Levels.{goes_on, pair_value}
use Rattle.optimistic.specs.tree.Nexts.{IsNear, UpTo}
use Rattle.optimistic.specs.tree.Reads.{Agrees, IsPlace}
use Rattle.optimistic.specs.tree.Sights.{Only, Places, Stood}
use Rattle.optimistic.specs.tree.Trails.{IsTurn}
use Rattle.optimistic.specs.tree.Trees.{IsTree}

-- the key from which on is still to be told, of those up to a last one
abbrev pub behind : ℕ → Option ℕ → ℕ
behind last next = unwrap_or next (last + 1)

-- a pair that isn't behind the last key
abbrev pub within : ℕ → Option Pair → List Pair
within last None = []
within last (Some p) = if leb p.key last then p ∷ [] else []

-- of the keys from one on up to another that pair alone has a value, or none has
abbrev pub Gives : List Entry → (from last : ℕ) → Option Pair → Type 0
Gives log from last None = UpTo from last (λ k. value_of k log ≡ None)
Gives log from last (Some p) = (from ≤ p.key) × (p.key ≤ last) × (value_of p.key log ≡ Some p.value) × ((k : ℕ) → from ≤ k → k ≤ last → k ≢ p.key → value_of k log ≡ None)

-- what a child tells is what a log makes of the keys
abbrev pub BitHolds : List Entry → ℕ → Bit → Type 0
BitHolds log from (Told pair last) = Gives log from last pair
BitHolds log from (Down p) = Unit {0}

-- the keys that are told aren't before the one that was asked for, and the node that is next on the way is known
abbrev pub KnowsBit : ℕ → Bit → View → Type 0
KnowsBit from (Told pair last) v = from ≤ last
KnowsBit from (Down p) v = IsPlace p v

-- a log makes of the keys that have as many first bytes in common with one what the children F, S say of them
abbrev pub Makes : ℕ → (F S : ℕ → ℕ) → ℕ → List Entry → Type 0
Makes level F S from log = (k : ℕ) → IsNear level from k → goes_on (F k) (S k) k ≡ false → pair_value (F k) (S k) k ≡ value_of k log

-- the same of a child at a key's byte
abbrev pub ChildMakes : (form level first second : ℕ) → ℕ → List Entry → Type 0
ChildMakes form level first second from log = Makes (level + 1) (λ k. put_first form first k) (λ k. second) from log

-- and of a node's children
abbrev pub NodeMakes : Place → (ℕ → ℕ) → ℕ → List Entry → Type 0
NodeMakes at f from log = Makes at.level (λ k. first_of at.form f k (byte_at k at.level)) (λ k. second_of at.form f k (byte_at k at.level)) from log

-- a node that was looked at meanwhile has children at these bytes alone, at these places, or has a word for each byte
abbrev pub HasBytes : Place → (bytes places : List ℕ) → View → View → Type 0
HasBytes at bytes places v w = at.form ≢ 4 → Only at.node at.form bytes v w × (room at.form ≢ 256 → Places at.node at.form bytes places v w)

-- a place of a node that was looked at meanwhile has this child, if it is taken
abbrev pub HasEntry : Place → (place first second : ℕ) → View → View → Type 0
HasEntry at place first second v w = (f : ℕ → ℕ) → Agrees at.node at.form v w f → IsForm at.form f → taken_in at.form f place ≡ 1 → (k : ℕ)
    → (first_of at.form f k (byte_in at.form f place) ≡ put_first at.form first k) × (second_of at.form f k (byte_in at.form f place) ≡ second)

-- its children tell this of the keys from one on
abbrev pub ShowsBit : Place → ℕ → Bit → View → View → Type 0
ShowsBit at from bit v w = (f : ℕ → ℕ) → Agrees at.node at.form v w f → IsForm at.form f → (log : List Entry) → NodeMakes at f from log → BitHolds log from bit

-- the pairs of the keys from one on and below another are these
abbrev pub ShowsRun : Place → (from next : ℕ) → List Pair → View → View → Type 0
ShowsRun at from next pairs v w = (f : ℕ → ℕ) → Agrees at.node at.form v w f → IsForm at.form f → (log : List Entry) → NodeMakes at f from log → IsDrained log from next pairs

-- What a node told of the keys from one on holds whenever the node has the version at which it was told
pub record IsRun (r : Run) (from last places : ℕ) (pairs : List Pair) (v : View) : Type 0 where
  pub place : IsPlace r.at v
  pub turn : IsTurn r.turn v
  pub least : r.version ≤ word_at v.seen.words r.at.node 0
  pub few : r.count ≤ places
  pub order : from ≤ behind last r.next
  pub inside : IfSome r.next (λ k. k ≤ last)
  pub holds : (m : Moment) → Since v.seen m → Sound IsTree m → word_at m.words r.at.node 0 ≡ r.version → IsDrained m.log from (behind last r.next) pairs

-- it held at one moment, and of one key at least
pub record WasTold (r : Run) (from last places : ℕ) (pairs : List Pair) (v w : View) : Type 0 where
  pub few : r.count ≤ places
  pub later : from < behind last r.next
  pub inside : IfSome r.next (λ k. k ≤ last)
  pub stood : Stood (λ log. IsDrained log from (behind last r.next) pairs) v w
