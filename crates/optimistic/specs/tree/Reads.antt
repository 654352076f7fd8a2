-- What a thread knows of a node that it reads word by word.
use Rattle.std.specs.Prelude.{◌≡◌, ◌≢◌, ℕ, ◌%◌, ◌<◌}
use Rattle.optimistic.specs.Layout.{width}
use Rattle.optimistic.specs.declared.tree.place.Place.{Place}
use Rattle.optimistic.specs.declared.tree.place.Look.{Look}
use Rattle.optimistic.specs.declared.tree.place.Look.TheVariants.{Answer, Down, Again}
use Rattle.optimistic.specs.declared.words.rule.Moment.{Moment}
use Rattle.optimistic.specs.declared.words.rule.View.{View}
use Rattle.optimistic.specs.words.Kept.{word_at, form_at, value_of, Since}
use Rattle.optimistic.specs.words.Told.{HasForm, Looks}
use Rattle.optimistic.specs.forms.Children.{first_of, second_of, IsForm}
use Rattle.optimistic.specs.tree.Trees.{IsTree}

-- the node of this form has one even version at a moment that is no later than v and at one that is no earlier than w
pub record Still (node form : ℕ) (v w : View) (a b : Moment) : Type 0 where
  pub before : Since a v.seen
  pub after : Since w.seen b
  pub is : form_at a.plots node ≡ form
  pub even : word_at a.words node 0 % 2 ≡ 0
  pub same : word_at b.words node 0 ≡ word_at a.words node 0

-- the node's words are those of f whenever the thread looks, from v to w
pub record Agrees (node form : ℕ) (v w : View) (f : ℕ → ℕ) : Type 0 where
  pub words : (u : View) → Looks IsTree v u → Since u.seen w.seen → (j : ℕ) → 0 < j → j < width form → word_at u.seen.words node j ≡ f j

-- word j of the node, which was looked at meanwhile, is x
abbrev pub Steady : ℕ → ℕ → ℕ → ℕ → View → View → Type 0
Steady node form j x v w = (f : ℕ → ℕ) → Agrees node form v w f → f j ≡ x

-- these are the two words of the node's child at a byte; where there is no child, the first is 0
abbrev pub Found : ℕ → ℕ → ℕ → ℕ → ℕ → ℕ → View → View → Type 0
Found node form first second key byte v w = (f : ℕ → ℕ) → Agrees node form v w f → IsForm form f
    → (first_of form f key byte ≡ first) × (first ≢ 0 → second_of form f key byte ≡ second)

-- a node that the thread knows, of a form, at a level
pub record IsPlace (p : Place) (v : View) : Type 0 where
  pub at : HasForm p.node p.form v
  pub some : 0 < p.form
  pub form : p.form < 9
  pub level : p.level < 8

-- what a look at a node told: the key's value, after all that the thread has seen, or where to look next
abbrev pub IsLook : ℕ → Look → View → Type 0
IsLook key (Answer x) v = x ≡ value_of key v.seen.log
IsLook key (Down p) v = IsPlace p v
IsLook key Again v = Unit {0}
