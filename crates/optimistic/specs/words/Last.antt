-- The words at the end, and what they are to a hand that was given back.
use Rattle.std.specs.Prelude.{◌≡◌, ℕ, List}
use Rattle.std.specs.Slots.{slots_items}
use Rattle.optimistic.specs.declared.words.last.Words.{Words}
use Rattle.optimistic.specs.declared.words.rule.Moment.{Moment}
use Rattle.optimistic.specs.declared.words.rule.View.{View}
use Rattle.optimistic.specs.words.Kept.{word_at, calls_by, Since, Sound}
use Rattle.optimistic.specs.words.Told.{Good}

abbrev pub words_in : Words → List ℕ
words_in w = slots_items w.closed.words

-- the words of node n
abbrev pub node_in : Words → ℕ → ℕ → ℕ
node_in w n j = word_at (words_in w) n j

-- A moment is the last: it comes after all that a hand has seen, and its log has the hand's calls, and no others of it
pub record IsLast (good : Good) (v : View) (m : Moment) : Type 0 where
  pub sound : Sound good m
  pub since : Since v.seen m
  pub calls : calls_by v.by m.log ≡ v.made
