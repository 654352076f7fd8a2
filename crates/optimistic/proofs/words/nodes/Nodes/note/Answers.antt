use Rattle.std.proofs.Common.{◌+◌, ◌≤◌, arith, length}
use Rattle.optimistic.specs.Layout.{width}
use Rattle.optimistic.proofs.lemmas.words.Steps.{notes}
use Rattle.optimistic.proofs.words.nodes.Nodes.note.Goals as goal

pub split_seat-requires : goal.split_seat-requires
split_seat-requires g c = (
  c.requires.of.0,
  (let a : 16 + width 4 ≤ length c.args.hand.now.me.0.seen.words = c.requires.of.3.ends in let b = c.requires.of.2 in omega arith),
  notes _ _ _ _ c.requires.of.4,
)
