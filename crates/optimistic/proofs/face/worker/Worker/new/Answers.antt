use Rattle.std.proofs.Common.{rules, ap, ◌∙◌, List}
use Rattle.optimistic.specs.declared.words.rule.Tenure.{Tenure}
use Rattle.optimistic.specs.declared.words.rule.View.{View}
use Rattle.optimistic.specs.words.Kept.{has}
use Rattle.optimistic.proofs.lemmas.face.Knowing.{has_names}
use Rattle.optimistic.proofs.face.worker.Worker.new.Goals as goal

pub invariant_of-result : goal.invariant_of-result
invariant_of-result c = (
  c.note-names.ensures.of,
  λ n. ap (λ (v : View). has v.mine n) c.note-names.ensures.same ∙ ap (λ (l : List Tenure). has l n) c.hand-hand.ensures.fresh.1,
  has_names c.args.tree.now.nodes.table.shared.table_id c.hand-hand.result.me.0.seen c.in_ok-free.free c.note-names.result c.note-names.ensures.note c.hand-hand.ensures.of.2 (c.in_ok-free.ensures _),
  search rules,
)
