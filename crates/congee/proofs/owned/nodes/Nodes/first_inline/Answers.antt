use Rattle.congee.proofs.lemmas.owned.Stored.{lone_first, lone_last}
use Rattle.congee.specs.owned.Entries.{lone_seen}
use Rattle.congee.proofs.owned.nodes.Nodes.first_inline.Goals as goal

pub returns-then-from-last-clause-first : goal.returns-then-from-last-clause-first
returns-then-from-last-clause-first g c = λ x e. lone_first c.args.self.now _ (lone_seen c.lone-lone.result) c.lone-lone.ensures x e c.args.from c.if-from-last.true

pub returns-else-from-last-clause-first : goal.returns-else-from-last-clause-first
returns-else-from-last-clause-first g c = λ x e. lone_last c.args.self.now _ (lone_seen c.lone-lone.result) c.lone-lone.ensures x e c.args.from c.if-from-last.false
