use Rattle.std.proofs.Common.{sym, ap, subst, ◌∙◌}
use Rattle.std.specs.Prelude.{Some}
use Rattle.std.specs.Option.{option_copied}
use Rattle.congee.specs.forms.Forms.{prefix_of}
use Rattle.congee.specs.owned.Entries.{Begins, child_by, first_byte}
use Rattle.congee.proofs.lemmas.owned.Entering.{begins_by, none_at, prefix_at, some_at}
use Rattle.congee.proofs.owned.inner.Inner.get_child.Goals as goal

pub returns-in-None-clause-child : goal.returns-in-None-clause-child
returns-in-None-clause-child g c = sym (none_at c.self.inside.prefix c.self.inside.places c.args.self.now c.self.view_is c.args.byte (sym c.get_child.ensures ∙ ap option_copied c.in-None.is))

pub returns-in-Some-clause-child : goal.returns-in-Some-clause-child
returns-in-Some-clause-child g c =
    ap Some (c.hung_of.ensures c.self.inside.prefix c.args.byte (sym (c.first_byte.ensures ∙ ap (λ q. first_byte q c.args.byte) (prefix_at c.self.inside.prefix c.self.inside.places c.args.self.now c.self.view_is))))
    ∙ sym (some_at c.self.inside.prefix c.self.inside.places c.args.self.now c.self.view_is c.args.byte c.in-Some.entry.now (sym c.get_child.ensures ∙ ap option_copied c.in-Some.is))

pub returns-in-Some-clause-begins : goal.returns-in-Some-clause-begins
returns-in-Some-clause-begins g c =
    subst (Begins (first_byte (prefix_of c.args.self.now) c.args.byte)) (sym (c.hung_of.ensures c.self.inside.prefix c.args.byte (sym (c.first_byte.ensures ∙ ap (λ q. first_byte q c.args.byte) (prefix_at c.self.inside.prefix c.self.inside.places c.args.self.now c.self.view_is)))))
    (subst (λ q. Begins (first_byte q c.args.byte) (child_by c.self.inside.prefix c.args.byte c.in-Some.entry.now)) (sym (prefix_at c.self.inside.prefix c.self.inside.places c.args.self.now c.self.view_is)) (begins_by c.self.inside.prefix c.args.byte c.in-Some.entry.now))
