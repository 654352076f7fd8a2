use Rattle.congee.proofs.lemmas.owned.Stored.{lone_holds, lone_misses}
use Rattle.congee.specs.owned.Entries.{lone_seen}
use Rattle.congee.proofs.owned.nodes.Nodes.look_inline.Goals as goal

pub returns-then-lone-key : goal.returns-then-lone-key
returns-then-lone-key g c = lone_holds c.args.self.now _ (lone_seen c.lone-lone.result) c.args.key.now c.lone-lone.ensures c.if-lone-key.true

pub returns-else-lone-key : goal.returns-else-lone-key
returns-else-lone-key g c = lone_misses c.args.self.now _ (lone_seen c.lone-lone.result) c.args.key.now c.lone-lone.ensures c.if-lone-key.false
