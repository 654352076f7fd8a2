use Rattle.std.proofs.Common.{◌≡◌, ◌<◌, ℕ}
use Rattle.optimistic.specs.forms.Children.{first_word}
use Rattle.optimistic.specs.words.Told.{IsOf, HasForm}
use Rattle.optimistic.specs.Moves.{words_of, Stays}
use Rattle.optimistic.proofs.moves.clear_children.Given as goal

abbrev pub invariant-loop-place : goal.invariant-loop-place
invariant-loop-place g l =
    IsOf l.fn.nodes.table.shared.table_id l.hand × HasForm l.fn.node l.fn.form l.hand.me.0 × Stays l.fn.node l.initial.hand.me.0 l.hand.me.0
    × ((q : ℕ) → q < l.place → words_of l.hand.me.0 l.fn.node (first_word l.fn.form q) ≡ 0)
