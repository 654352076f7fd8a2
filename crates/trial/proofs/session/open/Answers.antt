use Rattle.std.proofs.Common.{◌≡◌, ◌∙◌, refl, sym, subst, Option, Some, Ok}
use Rattle.joint.specs.declared.limits.Limits.{Limits}
use Rattle.trial.specs.declared.reply.Reply.TheVariants as reply
use Rattle.trial.specs.Session.{OpensWith, limits_of, budget_of}
use Rattle.trial.proofs.session.open.Goals as goal

pub returns-in_ok-index-in-Ok-clause-ok : goal.returns-in_ok-index-in-Ok-clause-ok
returns-in_ok-index-in-Ok-clause-ok c =
    let is : limits_of c.args.opening ≡ Some c.in-Some.limits = sym c.limits.ensures ∙ c.in-Some.is in
    let P : Option Limits → Type 0 = λ o. OpensWith o c.args.opening.journal (budget_of c.args.opening) (Some c.in_ok-index-in-Ok.index) reply.Ok in
    subst P (sym is) (Ok c.in-Ok.world, c.in-Ok.ensures, (c.in_ok-index-in-Ok.index, c.in_ok-index-in-Ok.ensures, refl, refl))
