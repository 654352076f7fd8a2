use Rattle.std.proofs.Common.{◌+◌, ◌≤◌, ◌<◌, ◌∙◌, ap, sym, subst, arith, length}
use Rattle.atomic_table.specs.Table.{Me}
use Rattle.optimistic.specs.Layout.{width}
use Rattle.optimistic.specs.declared.words.rule.Note.{Note}
use Rattle.optimistic.specs.declared.words.rule.View.{View}
use Rattle.optimistic.proofs.lemmas.words.Steps.{joins, heeds}
use Rattle.optimistic.proofs.words.nodes.Nodes.heed.Goals as goal

pub join_seat-requires : goal.join_seat-requires
join_seat-requires g c = (
  c.requires.of.0,
  c.requires.note.0,
  ap (λ (m : Me Note View). m.1) c.requires.note.1,
  (let a : 16 + width 4 ≤ length c.args.hand.now.me.0.seen.words = c.requires.of.3.ends in let b = c.requires.of.2 in omega arith),
  joins _ _ _ _ _ _ c.requires.of.4,
)

pub load-requires : goal.load-requires
load-requires g c = (
  c.join_seat.ensures.0 ∙ c.requires.of.0,
  (let a : 16 + width 4 ≤ length c.args.hand.now.me.0.seen.words = c.requires.of.3.ends in let b = c.requires.of.2 in omega arith),
  heeds _ _ _ _ _ _ (subst (λ (m : Me Note View). 0 < m.0.by) (sym c.join_seat.ensures.2) c.requires.of.4),
)
