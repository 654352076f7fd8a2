use Rattle.std.proofs.Common.{refl, sym, ap, ◌-◌, ◌∙◌, inl, inr, ◌++◌, ◌∷◌, []}
use Rattle.crossbeam_epoch.specs.world.Machine.{blank}
use Rattle.crossbeam_epoch.specs.declared.world.participant.Phase.TheVariants as P
use Rattle.crossbeam_epoch.proofs.lemmas.world.Held.{placed_beside, queued_at}
use Rattle.crossbeam_epoch.proofs.lemmas.world.Within.{room_made, when_ok, when_err, worker_within}
use Rattle.crossbeam_epoch.proofs.world.World.leave.Goals as goal

pub returns-then-is_err : goal.returns-then-is_err
returns-then-is_err g c = let full = when_err c.reserve.result c.is_err.result c.is_err.ensures.value c.if-is_err.true c.reserve.ensures.err in record {
  outcome = inr refl;
  done = λ e. absurd (cc e);
  refused = λ e. (sym (ap (λ s. s.room) c.self.view_is) ∙ full.0, placed_beside c.args.self.now _ c.args.who _ c.index_mut.result.now (λ p. record p { phase = P.Idle }) c.reserve.new.self.items c.reserve.new.self.room c.self.view_is c.requires.in_table c.index_mut.ensures.value refl c.reserve.ensures.items (full.1 ∙ sym full.0));
}

pub returns : goal.returns
returns g c = record {
  outcome = inl refl;
  done = λ e. queued_at c.args.self.now _ c.args.who c.args.seal c.replace-bag.new.dest c.index_mut-place.result.now (λ p. blank) c.push_back_reserved.new.self.items c.push_back_reserved.new.self.room c.self.view_is c.requires.in_table c.index_mut-place.ensures.value (c.replace-bag.ensures.after ∙ c.blank.ensures)
      (c.push_back_reserved.ensures.items ∙ ap (λ q. q ++ record { seal = c.args.seal; jobs = c.replace-bag.result.bag } ∷ []) c.reserve.ensures.items ∙ ap (λ p. c.self.inside.queue.items ++ record { seal = c.args.seal; jobs = p.bag } ∷ []) c.replace-bag.ensures.value)
      (c.push_back_reserved.ensures.room ∙ ap (λ n. n - 1) (when_ok c.reserve.result c.is_err.result c.is_err.ensures.value c.if-is_err.false c.reserve.ensures.ok));
  refused = λ e. absurd (cc e);
}

pub index_mut-requires : goal.index_mut-requires
index_mut-requires g c = worker_within c.args.self.now _ c.args.who _ c.self.view_is c.self.inside.participants.ok.0 c.requires.in_table

pub index_mut-place-requires : goal.index_mut-place-requires
index_mut-place-requires g c = worker_within c.args.self.now _ c.args.who _ c.self.view_is c.self.inside.participants.ok.0 c.requires.in_table

pub push_back_reserved-requires : goal.push_back_reserved-requires
push_back_reserved-requires g c = (g.met.J.Task.fits_sealed, room_made c.reserve.result c.is_err.result _ _ c.is_err.ensures.value c.if-is_err.false c.reserve.ensures.ok)
