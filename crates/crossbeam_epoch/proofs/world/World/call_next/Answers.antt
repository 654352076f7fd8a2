use Rattle.std.proofs.Common.{sym, ap, ◌∙◌}
use Rattle.crossbeam_epoch.specs.world.Machine.{after_call}
use Rattle.crossbeam_epoch.specs.world.Steps.{outcome_at}
use Rattle.crossbeam_epoch.specs.declared.world.participant.Phase.TheVariants as P
use Rattle.crossbeam_epoch.proofs.lemmas.world.Held.{called_none, called_first, written_at}
use Rattle.crossbeam_epoch.proofs.lemmas.world.Within.{worker_within}
use Rattle.crossbeam_epoch.proofs.world.World.call_next.Goals as goal

pub returns-then-is_empty : goal.returns-then-is_empty
returns-then-is_empty g c =
    let old = c.index_mut-place.result.now in
    let none = called_none c.args.self.now _ c.args.who c.args.answered c.args.bags c.args.seal old c.self.view_is c.requires.in_table c.index_mut-place.ensures.value (sym c.is_empty.ensures ∙ c.if-is_empty.true) in
    record {
      state = none.0;
      outcome = sym (ap (λ p. outcome_at p.phase) (written_at c.args.self.now _ c.args.who (record old { phase = P.Idle }) c.self.view_is c.requires.in_table));
      job = none.1;
    }

pub returns : goal.returns
returns g c =
    let old = c.index_mut-place.result.now in
    let rest = c.take_first-ticket.new.self in
    let phase = c.after_call-phase.result in
    let first = called_first c.args.self.now _ c.args.who c.args.answered c.args.bags c.args.seal old rest c.take_first-ticket.result phase c.settle.new.self c.perform-destroyed.new.cells c.perform-destroyed.result
    c.self.view_is c.requires.in_table c.index_mut-place.ensures.value (sym c.is_empty.ensures ∙ c.if-is_empty.false) c.take_first-ticket.ensures.first c.take_first-ticket.ensures.rest
    (c.after_call-phase.ensures ∙ ap (λ n. after_call n c.args.answered c.args.bags c.args.seal) c.len.ensures.value) c.settle.ensures c.perform-destroyed.ensures.cells c.perform-destroyed.ensures.destroyed in
    record {
      state = first.0;
      outcome = c.outcome_at.ensures ∙ sym (ap (λ p. outcome_at p.phase) (written_at c.args.self.now _ c.args.who (record old { hand = rest; phase = phase }) c.self.view_is c.requires.in_table));
      job = first.1;
    }

pub index_mut-place-requires : goal.index_mut-place-requires
index_mut-place-requires g c = worker_within c.args.self.now _ c.args.who _ c.self.view_is c.self.inside.participants.ok.0 c.requires.in_table
