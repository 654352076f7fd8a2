use Rattle.std.proofs.Common.{◌≡◌, length, ap, ◌∙◌, subst}
use Rattle.optimistic.specs.declared.words.rule.View.{View}
use Rattle.optimistic.specs.words.Kept.{has}
use Rattle.optimistic.proofs.lemmas.face.Knowing.{has_names}
use Rattle.optimistic.proofs.face.worker.Worker.resume.Goals as goal

pub invariant_of-result : goal.invariant_of-result
invariant_of-result c = let id = c.args.tree.now.nodes.table.shared.table_id in (
  c.note-names.ensures.of,
  λ n. ap (λ (v : View). has v.mine n) c.note-names.ensures.same ∙ c.last.invariant.1 n,
  has_names id c.last.inside.hand.me.0.seen c.in_ok-free.free c.note-names.result c.note-names.ensures.note (subst (λ (v : View). length v.seen.words ≡ id.words) c.note-names.ensures.same c.note-names.ensures.of.2) (c.in_ok-free.ensures _),
  c.requires.pool,
)
