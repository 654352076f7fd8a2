use Rattle.std.proofs.Common.{refl, sym, ap, ◌-◌, ◌∙◌, ◌++◌, ◌∷◌, []}
use Rattle.crossbeam_epoch.proofs.lemmas.world.Held.{anew_at}
use Rattle.crossbeam_epoch.proofs.lemmas.world.Within.{room_made, when_ok, when_err, same_queue, ticket_left, worker_within}
use Rattle.crossbeam_epoch.proofs.world.World.put_anew.Goals as goal

pub returns : goal.returns
returns g c = record {
  ok = (
    c.give-ticket.ensures.ticket ∙ ap (λ s. s.next) c.self.view_is,
    anew_at c.args.self.now _ c.args.who c.start_bag-jobs.new.self c.index_mut.result.now c.args.work c.give-ticket.result c.give-ticket.new.self c.push_back_reserved.new.self.items c.push_back_reserved.new.self.room c.self.view_is c.requires.in_table c.index_mut.ensures.value c.give-ticket.ensures.ticket c.give-ticket.ensures.count c.start_bag-jobs.ensures.place
        (c.push_back_reserved.ensures.items ∙ ap (λ q. q ++ record { seal = c.self.inside.epoch; jobs = c.start_bag-jobs.result } ∷ []) c.reserve.ensures.items ∙ ap (λ b. c.self.inside.queue.items ++ record { seal = c.self.inside.epoch; jobs = b } ∷ []) c.start_bag-jobs.ensures.bag)
        (c.push_back_reserved.ensures.room ∙ ap (λ n. n - 1) (when_ok c.reserve.result c.is_err.result c.is_err.ensures.value c.if-is_err.false c.reserve.ensures.ok)),
  );
  err = tt;
}

pub give-ticket-requires : goal.give-ticket-requires
give-ticket-requires g c = ticket_left c.args.self.now _ c.self.view_is c.requires.few

pub index_mut-requires : goal.index_mut-requires
index_mut-requires g c = worker_within c.args.self.now _ c.args.who _ c.self.view_is c.self.inside.participants.ok.0 c.requires.in_table

pub push_back_reserved-requires : goal.push_back_reserved-requires
push_back_reserved-requires g c = (g.met.J.Task.fits_sealed, room_made c.reserve.result c.is_err.result _ _ c.is_err.ensures.value c.if-is_err.false c.reserve.ensures.ok)

pub returns-then-is_err : goal.returns-then-is_err
returns-then-is_err g c =
    let full = when_err c.reserve.result c.is_err.result c.is_err.ensures.value c.if-is_err.true c.reserve.ensures.err in
    record {
      ok = tt;
      err = (
        refl,
        same_queue c.args.self.now _ c.reserve.new.self.items c.reserve.new.self.room c.self.view_is c.reserve.ensures.items (full.1 ∙ sym full.0),
        sym (ap (λ s. s.room) c.self.view_is) ∙ full.0,
      );
    }
