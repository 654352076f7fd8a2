use Rattle.std.proofs.Common.{refl, sym, ap, ◌-◌, ◌∙◌, inl, inr, ◌++◌, ◌∷◌, []}
use Rattle.crossbeam_epoch.specs.declared.fault.Fault.TheVariants.{Memory}
use Rattle.crossbeam_epoch.specs.declared.world.participant.Phase.TheVariants as P
use Rattle.crossbeam_epoch.proofs.lemmas.world.Goes.{no_refusal}
use Rattle.crossbeam_epoch.proofs.lemmas.world.Held.{placed_beside, queued_at}
use Rattle.crossbeam_epoch.proofs.lemmas.world.Within.{room_made, when_ok, when_err, worker_within}
use Rattle.crossbeam_epoch.proofs.world.World.queue.Goals as goal

pub returns-then-is_err : goal.returns-then-is_err
returns-then-is_err g c = let full = when_err c.reserve.result c.is_err.result c.is_err.ensures.value c.if-is_err.true c.reserve.ensures.err in record {
  outcome = inr refl;
  done = λ e. absurd (no_refusal c.args.next Memory e);
  refused = λ e. (sym (ap (λ s. s.room) c.self.view_is) ∙ full.0, placed_beside c.args.self.now _ c.args.who _ c.index_mut.result.now (λ p. record p { phase = P.Idle }) c.reserve.new.self.items c.reserve.new.self.room c.self.view_is c.requires.in_table c.index_mut.ensures.value refl c.reserve.ensures.items (full.1 ∙ sym full.0));
}

pub returns : goal.returns
returns g c = record {
  outcome = inl c.outcome_at.ensures;
  done = λ e. queued_at c.args.self.now _ c.args.who c.args.seal c.give_bag-jobs.new.self c.index_mut-2.result.now (λ p. record p { bag = []; phase = c.args.next }) c.push_back_reserved.new.self.items c.push_back_reserved.new.self.room c.self.view_is c.requires.in_table c.index_mut-2.ensures.value c.give_bag-jobs.ensures.place
      (c.push_back_reserved.ensures.items ∙ ap (λ q. q ++ record { seal = c.args.seal; jobs = c.give_bag-jobs.result } ∷ []) c.reserve.ensures.items ∙ ap (λ b. c.self.inside.queue.items ++ record { seal = c.args.seal; jobs = b } ∷ []) c.give_bag-jobs.ensures.bag)
      (c.push_back_reserved.ensures.room ∙ ap (λ n. n - 1) (when_ok c.reserve.result c.is_err.result c.is_err.ensures.value c.if-is_err.false c.reserve.ensures.ok));
  refused = λ e. absurd (no_refusal c.args.next Memory (sym e ∙ c.outcome_at.ensures));
}

pub index_mut-requires : goal.index_mut-requires
index_mut-requires g c = worker_within c.args.self.now _ c.args.who _ c.self.view_is c.self.inside.participants.ok.0 c.requires.in_table

pub index_mut-requires-2 : goal.index_mut-requires-2
index_mut-requires-2 g c = worker_within c.args.self.now _ c.args.who _ c.self.view_is c.self.inside.participants.ok.0 c.requires.in_table

pub push_back_reserved-requires : goal.push_back_reserved-requires
push_back_reserved-requires g c = (g.met.J.Task.fits_sealed, room_made c.reserve.result c.is_err.result _ _ c.is_err.ensures.value c.if-is_err.false c.reserve.ensures.ok)
