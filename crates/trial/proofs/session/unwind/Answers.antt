use Rattle.std.proofs.Common.{rules, ◌≡◌}
use Rattle.trial.specs.Session.{first_of_two, refusal_of}
use Rattle.trial.proofs.session.unwind.Goals as goal

pub returns-clause-ok : goal.returns-clause-ok
returns-clause-ok c =
    let first : c.or.result ≡ first_of_two (refusal_of c.in_ok-flush.flush) (refusal_of c.in_ok-unpin.unpin) = search rules in
    (c.call.new.self, c.in_ok-flush.flush, c.in_ok-unpin.unpin, c.in_ok-flush.ensures.ok, c.in_ok-unpin.ensures.ok, first)
