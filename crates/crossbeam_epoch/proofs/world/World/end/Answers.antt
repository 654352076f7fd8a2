use Rattle.std.proofs.Common.{◌≡◌, ℕ, ◌-◌, ◌≤◌, ap, ◌∙◌, length, arith}
use Rattle.std.specs.Prelude.{min}
use Rattle.crossbeam_epoch.specs.world.Ending.{registered_in, jobs_of}
use Rattle.crossbeam_epoch.proofs.lemmas.world.Endings.{ended_count, tells_ended}
use Rattle.crossbeam_epoch.proofs.world.World.end.Goals as goal

fewer : (a b n k : ℕ) → a ≡ n → b ≡ n - k → b ≤ a
fewer a b n k is left = omega (arith, is, left)

called_of : (a b n k : ℕ) → a ≡ n → b ≡ n - k → a - b ≡ min n k
called_of a b n k is left = omega (arith, is, left)

pub returns-clause-called : goal.returns-clause-called
returns-clause-called g c = λ h t.
    let none : registered_in c.args.self ≡ 0 = omega (arith, c.registered-registered.ensures, c.if-registered-gt0.false) in
    (ended_count g.T.Links.names h c.args.self none t, tells_ended g.T.Links.names h c.args.self none t)

pub overflow_sub-result : goal.overflow_sub-result
overflow_sub-result g c = fewer c.waiting-waiting.result c.waiting.result c.self.inside.tickets.waiting (length (jobs_of c.self.inside.queue.items)) c.waiting-waiting.ensures (c.waiting.ensures ∙ ap (λ t. t.waiting) c.call_bags.ensures.count)

pub returns-clause-count : goal.returns-clause-count
returns-clause-count g c =
    called_of c.waiting-waiting.result c.waiting.result c.self.inside.tickets.waiting (length (jobs_of c.self.inside.queue.items)) c.waiting-waiting.ensures (c.waiting.ensures ∙ ap (λ t. t.waiting) c.call_bags.ensures.count)
    ∙ ap (λ s. min s.waiting (length (jobs_of s.queue))) c.self.view_is
