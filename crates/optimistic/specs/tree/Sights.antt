-- What a thread learns of the next pair from a key on as it reads a node word by word.
use Rattle.std.specs.Prelude.{◌≡◌, ℕ, ◌<◌, ◌≤◌, List, get_or, None, Some}
use Rattle.optimistic.specs.Layout.{byte_at, room}
use Rattle.optimistic.specs.declared.drain.nexts.Next.{Next}
use Rattle.optimistic.specs.declared.drain.nexts.Next.TheVariants.{Here, Down, After}
use Rattle.optimistic.specs.declared.tree.place.Place.{Place}
use Rattle.optimistic.specs.declared.tree.last.BackSight.{BackSight}
use Rattle.optimistic.specs.declared.tree.next.Sight.{Sight}
use Rattle.optimistic.specs.declared.words.rule.Entry.{Entry}
use Rattle.optimistic.specs.declared.words.rule.Moment.{Moment}
use Rattle.optimistic.specs.declared.words.rule.View.{View}
use Rattle.optimistic.specs.forms.Children.{byte_in, taken_in, first_of, second_of, IsForm}
use Rattle.optimistic.specs.forms.Gaps.{IsGap, HasOnly}
use Rattle.optimistic.specs.forms.Wide.{bit_in, HasPlaces}
use Rattle.optimistic.specs.words.Kept.{word_at, value_of, Since, Sound}
use Rattle.optimistic.specs.tree.Nexts.{IsNext, UpTo}
use Rattle.optimistic.specs.tree.Reads.{Agrees, IsPlace}
use Rattle.optimistic.specs.tree.Trees.{IsTree}

-- the node, which was looked at meanwhile, has no child from one byte on and below another
abbrev pub Lacks : ℕ → ℕ → ℕ → ℕ → View → View → Type 0
Lacks node form from to v w = (f : ℕ → ℕ) → Agrees node form v w f → IsForm form f → IsGap form f from to

-- each of its children is at a byte whose bit is set
abbrev pub Only : ℕ → ℕ → List ℕ → View → View → Type 0
Only node form masks v w = (f : ℕ → ℕ) → Agrees node form v w f → IsForm form f → HasOnly form f masks

-- of each of these bytes the place is known
abbrev pub Places : (node form : ℕ) → (masks places : List ℕ) → View → View → Type 0
Places node form masks places v w = (f : ℕ → ℕ) → Agrees node form v w f → IsForm form f → HasPlaces (byte_in form f) (taken_in form f) masks places

abbrev pub IsWithin : ℕ → (masks places : List ℕ) → Type 0
IsWithin form masks places = (b : ℕ) → b < 256 → bit_in masks b ≡ 1 → get_or places b 0 < room form

-- its children tell this of the next pair from a key on
abbrev pub Shows : Place → ℕ → Next → View → View → Type 0
Shows at from next v w = (f : ℕ → ℕ) → Agrees at.node at.form v w f → IsForm at.form f
    → IsNext at.level (λ k. first_of at.form f k (byte_at k at.level)) (λ k. second_of at.form f k (byte_at k at.level)) from next

-- the node that is next on the way is known, and a key that is told isn't before the one that was asked for
abbrev pub Knows : ℕ → Next → View → Type 0
Knows from (Here x) v = Unit {0}
Knows from (Down p) v = IsPlace p v
Knows from (After last) v = from ≤ last

-- what is told of keys is what a log makes of them
abbrev pub Holds : List Entry → ℕ → Next → Type 0
Holds log from (Here x) = value_of from log ≡ Some x
Holds log from (Down p) = Unit {0}
Holds log from (After last) = UpTo from last (λ k. value_of k log ≡ None)

-- What a node told holds whenever the node has the version at which it was told
pub record IsSight (s : Sight) (from : ℕ) (v : View) : Type 0 where
  pub place : IsPlace s.at v
  pub below : Knows from s.next v
  pub least : s.version ≤ word_at v.seen.words s.at.node 0
  pub holds : (m : Moment) → Since v.seen m → Sound IsTree m → word_at m.words s.at.node 0 ≡ s.version → Holds m.log from s.next

-- what is told of the keys from one on goes up to another: it is of that key, or that none up to it has a value
abbrev pub Reaches : ℕ → ℕ → Next → Type 0
Reaches to from (Here x) = from ≡ to
Reaches to from (Down p) = from ≡ to
Reaches to from (After last) = to ≤ last

abbrev pub IsBack : ℕ → ℕ → Next → Type 0
IsBack to from next = (from ≤ to) × Reaches to from next

abbrev pub IsBackSight : ℕ → BackSight → View → Type 0
IsBackSight to b v = IsBack to b.from b.sight.next × IsSight b.sight b.from v

-- at a moment from v to w this holds of the log
pub record Stood (P : List Entry → Type 0) (v w : View) : Type 0 where
  pub moment : Moment
  pub after : Since v.seen moment
  pub before : Since moment w.seen
  pub sound : Sound IsTree moment
  pub holds : P moment.log
