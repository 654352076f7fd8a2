use Rattle.std.proofs.Common.{length, sym, ap, ◌∙◌}
use Rattle.congee.specs.forms.Forms.{prefix_of}
use Rattle.congee.proofs.lemmas.owned.Entering.{no_first, prefix_at}
use Rattle.congee.proofs.owned.inner.Inner.first_byte.Goals as goal

pub returns-then-prefix-eq0 : goal.returns-then-prefix-eq0
returns-then-prefix-eq0 g c = no_first (prefix_of c.args.self.now) c.args.byte (ap length (prefix_at c.self.inside.prefix c.self.inside.places c.args.self.now c.self.view_is ∙ sym c.as_slice-prefix.ensures.bytes) ∙ c.if-prefix-eq0.true)
