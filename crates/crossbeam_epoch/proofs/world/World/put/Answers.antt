use Rattle.std.proofs.Common.{ap, ◌∙◌}
use Rattle.crossbeam_epoch.proofs.lemmas.world.Held.{deferred_at}
use Rattle.crossbeam_epoch.proofs.lemmas.world.Within.{ticket_left, worker_within}
use Rattle.crossbeam_epoch.proofs.world.World.put.Goals as goal

pub returns : goal.returns
returns g c = record {
  ticket = c.give-ticket.ensures.ticket ∙ ap (λ s. s.next) c.self.view_is;
  state = deferred_at c.args.self.now _ c.args.who _ c.index_mut.result.now c.args.work c.give-ticket.result c.give-ticket.new.self c.self.view_is c.requires.in_table c.index_mut.ensures.value c.give-ticket.ensures.ticket c.give-ticket.ensures.count (ap (λ b. record c.index_mut.result.now { bag = b }) c.push.ensures);
}

pub give-ticket-requires : goal.give-ticket-requires
give-ticket-requires g c = ticket_left c.args.self.now _ c.self.view_is c.requires.few

pub index_mut-requires : goal.index_mut-requires
index_mut-requires g c = worker_within c.args.self.now _ c.args.who _ c.self.view_is c.self.inside.participants.ok.0 c.requires.in_table
