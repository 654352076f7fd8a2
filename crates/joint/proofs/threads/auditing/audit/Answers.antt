use Rattle.std.proofs.Common.{rules}
use Rattle.joint.proofs.threads.auditing.audit.Goals as goal

pub returns-then-have_lists : goal.returns-then-have_lists
returns-then-have_lists c =
    (λ is. record { lists = c.are_own.ensures.0 is; named = c.have_lists.ensures.0 (search rules) }, λ audited. c.are_own.ensures.1 audited.lists)
