use Rattle.joint.proofs.lemmas.calls.Promises.{keeps, alike}
use Rattle.joint.proofs.calls.promises.keeps_promises.Goals as goal

pub returns-clause-keeps : goal.returns-clause-keeps
returns-clause-keeps g c limits s s' steps reports opening h run = keeps g.P.Payload.same_as g.P.Payload.always_copies limits s s' steps reports opening h run
    c.comes_back.ensures.bags
    c.comes_back.ensures.nodes
    (c.runs_spare.ensures s run.taken h run.each)
    (c.runs_alone.ensures.runs s run.taken h run.each)
    (λ u. (c.runs_plain.ensures.follows s s' steps reports _ _ h run u (c.runs_plain.ensures.opens limits _ _ s opening.opened.2 opening.fresh)).told)

pub returns-clause-alike : goal.returns-clause-alike
returns-clause-alike g c limits others s q a b told again same_versions first second = alike g.P.Payload.same_as g.P.Payload.always_copies limits others s q a b told again c.runs_plain.ensures.alike same_versions first second
