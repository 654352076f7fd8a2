use Rattle.optimistic.specs.forms.Children.{IsForm}
use Rattle.optimistic.specs.forms.Parts.{HasPart}
use Rattle.optimistic.specs.words.Told.{IsOf, HasForm}
use Rattle.optimistic.specs.Moves.{words_of, Stays}
use Rattle.optimistic.proofs.fill.fill.Given as goal

abbrev pub invariant-loop-place : goal.invariant-loop-place
invariant-loop-place g l =
    IsOf l.fn.nodes.table.shared.table_id l.hand × HasForm l.fn.node l.fn.form l.hand.me.0 × HasForm l.fn.to l.fn.new l.hand.me.0 × Stays l.fn.to l.fn.hand.me.0 l.hand.me.0 × IsForm l.fn.new (words_of l.hand.me.0 l.fn.to)
    × HasPart l.fn.form (words_of l.fn.hand.me.0 l.fn.node) l.place l.fn.new (words_of l.hand.me.0 l.fn.to)
