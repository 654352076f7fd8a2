use Rattle.std.proofs.Common.{◌≡◌, ◌<◌, true}
use Rattle.std.specs.Prelude.{IfSome}
use Rattle.optimistic.specs.forms.Children.{is_inner}
use Rattle.optimistic.specs.words.Told.{IsOf, HasForm, Tells, Looks}
use Rattle.optimistic.specs.Moves.{words_of}
use Rattle.optimistic.specs.tree.Trees.{IsTree}
use Rattle.optimistic.proofs.lemmas.CopyLemmas.{IsSoFar}
use Rattle.optimistic.proofs.tree.get.Tree.only_other.Given as goal

abbrev pub invariant-loop-place : goal.invariant-loop-place
invariant-loop-place l =
    IsOf l.fn.self.nodes.table.shared.table_id l.hand × HasForm l.fn.at.at.node l.fn.at.at.form l.hand.me.0 × (l.place ≡ 0 → l.hand.me.0 ≡ l.fn.hand.me.0) × (0 < l.place → Looks IsTree l.fn.hand.me.0 l.hand.me.0)
    × IsSoFar l.fn.at.at.form (words_of l.fn.hand.me.0 l.fn.at.at.node) l.fn.byte l.place l.found × IfSome l.found (λ e. is_inner l.fn.at.at.form ≡ true → Tells e.first l.hand.me.0)
