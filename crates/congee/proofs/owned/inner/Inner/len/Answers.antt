use Rattle.std.proofs.Common.{◌≤◌, sym, subst, ◌∙◌}
use Rattle.congee.specs.forms.Forms.{capacity_of}
use Rattle.congee.proofs.lemmas.owned.Entering.{form_at, len_at, present_at}
use Rattle.congee.proofs.owned.inner.Inner.len.Goals as goal

pub returns-clause-count : goal.returns-clause-count
returns-clause-count g c = c.len.ensures.count ∙ len_at c.self.inside.prefix c.self.inside.places c.args.self.now c.self.view_is

pub returns-clause-fits : goal.returns-clause-fits
returns-clause-fits g c = subst (λ f. c.len.result ≤ capacity_of f) (sym (form_at c.self.inside.prefix c.self.inside.places c.args.self.now c.self.view_is)) c.len.ensures.fits

pub returns-clause-bytes : goal.returns-clause-bytes
returns-clause-bytes g c = λ b h. c.len.ensures.bytes b (present_at c.self.inside.prefix c.self.inside.places c.args.self.now c.self.view_is b h)
