use Rattle.std.proofs.Common.{◌≡◌, ◌∙◌, ap, sym, subst, Some, inl}
use Rattle.std.specs.FinMap.{entries}
use Rattle.trial.specs.Session.{Session, Answers, Closed}
use Rattle.trial.specs.declared.command.Command.TheVariants as command
use Rattle.trial.specs.declared.reply.Reply.TheVariants as reply
use Rattle.trial.proofs.Closings.{all_taken}
use Rattle.trial.proofs.session.close.Goals as goal

pub returns-in_ok-pairs-in-Ok-clause-ok : goal.returns-in_ok-pairs-in-Ok-clause-ok
returns-in_ok-pairs-in-Ok-clause-ok c =
    let old = c.in-Some.index in
    let is : c.args.session.now ≡ Some old = sym c.take.ensures.value ∙ c.in-Some.is in
    let pairs = c.in_ok-pairs-in-Ok.field-0 in
    let ok = c.in_ok-pairs-in-Ok.ensures.ok in
    let told = reply.Closed (record { pairs = pairs; charge = c.charged.result }) in
    let closed : Closed old c.take.new.self told = record {
      none = c.take.ensures.after;
      no_worker = c.in-Ok.ensures.no_worker;
      pairs = pairs;
      all = λ m st. ok.1 ∙ all_taken c.new.result c.in-Ok.drained (entries m) c.new.ensures.pairs (c.in-Ok.ensures.drained m st) ok.0;
      reply = ap (λ b. reply.Closed (record { pairs = pairs; charge = b })) (c.charged.ensures ∙ c.in-Ok.ensures.charge_is);
    } in
    let P : Session → Type 0 = λ s. Answers s command.Close c.take.new.self told in
    subst P (sym is) (inl closed)
