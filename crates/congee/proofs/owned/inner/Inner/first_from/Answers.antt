use Rattle.std.proofs.Common.{sym, ap, subst, ◌∙◌}
use Rattle.congee.specs.forms.Bytes.{IsFirst}
use Rattle.congee.specs.forms.Forms.{children_of}
use Rattle.congee.specs.owned.Entries.{first_byte}
use Rattle.congee.proofs.lemmas.owned.Entering.{first_at, none_at, prefix_at}
use Rattle.congee.proofs.owned.inner.Inner.first_from.Goals as goal

pub returns-in-None : goal.returns-in-None
returns-in-None g c = λ b l. none_at c.self.inside.prefix c.self.inside.places c.args.self.now c.self.view_is b (c.in-None.ensures b l)

pub returns-in-Some : goal.returns-in-Some
returns-in-Some g c =
    subst (IsFirst (children_of c.args.self.now) c.args.from c.in-Some.byte) (sym (c.hung_of.ensures c.self.inside.prefix c.in-Some.byte (sym (c.first_byte.ensures ∙ ap (λ q. first_byte q c.in-Some.byte) (prefix_at c.self.inside.prefix c.self.inside.places c.args.self.now c.self.view_is)))))
    (first_at c.self.inside.prefix c.self.inside.places c.args.self.now c.self.view_is c.args.from c.in-Some.byte c.in-Some.entry.now c.in-Some.ensures)
