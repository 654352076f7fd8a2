use Rattle.std.proofs.Common.{sym, subst, Result}
use Rattle.atomic_table.specs.declared.shared.Seat.{Seat}
use Rattle.optimistic.specs.declared.face.refusal.Refusal.{Refusal}
use Rattle.optimistic.specs.declared.face.writes.Written.{Written}
use Rattle.optimistic.specs.declared.words.rule.Note.{Note}
use Rattle.optimistic.specs.declared.words.rule.View.{View}
use Rattle.optimistic.specs.face.Calls.{Known, Saw}
use Rattle.optimistic.specs.face.Workers.{known, HasNames, IsWritten}
use Rattle.optimistic.specs.face.Writes.{outcome_of}
use Rattle.optimistic.specs.tree.Trees.{IsTree}
use Rattle.optimistic.proofs.lemmas.words.Chains.{looks_keeps}
use Rattle.optimistic.proofs.lemmas.face.Knowing.{keeps_looked, names_at, outcome_written, saw_written}
use Rattle.optimistic.proofs.face.worker.Worker.reshape.Goals as goal

pub try_reshape-outcome-requires-clause-names : goal.try_reshape-outcome-requires-clause-names
try_reshape-outcome-requires-clause-names c = let id = c.self.inside.tree.now.nodes.table.shared.table_id in
    names_at id c.self.inside.free c.replace-names.result c.heed.new.hand.me.0 (subst (λ (h : Seat Note View). HasNames id c.self.inside.free h) (sym c.replace-names.ensures.value) c.self.invariant.2) c.heed.ensures.heeds c.heed.ensures.of.2

pub returns : goal.returns
returns c = let id = c.self.inside.tree.now.nodes.table.shared.table_id in let v = c.self.inside.hand.me.0 in let n = c.note-now.new.hand.me.0 in let u = c.heed.new.hand.me.0 in let w = c.try_reshape-outcome.new.hand.me.0 in
    let r : Result Written Refusal = outcome_of c.try_reshape-outcome.result in
    let saw : Saw (known id v) (known id u) = subst (λ (z : View). Saw (known id z) (known id u)) c.note-now.ensures.same (keeps_looked id n u (looks_keeps IsTree n u c.heed.ensures.looks)).0 in
    let all : IsWritten c.args.write (known id v) (known id w) r = saw_written c.args.write (known id v) (known id u) (known id w) r saw (outcome_written c.args.write id u w c.try_reshape-outcome.result c.try_reshape-outcome.ensures.set c.try_reshape-outcome.ensures.minds c.try_reshape-outcome.ensures.cause) in
    let from : IsWritten c.args.write c.args.self.now (known id w) r = subst (λ (z : Known). IsWritten c.args.write z (known id w) r) c.self.view_is all in
    let to : IsWritten c.args.write c.args.self.now (known id c.note.new.hand.me.0) r = subst (λ (z : View). IsWritten c.args.write c.args.self.now (known id z) r) (sym c.note.ensures.same) from in
    subst (λ (z : Result Written Refusal). IsWritten c.args.write c.args.self.now (known id c.note.new.hand.me.0) z) (sym c.outcome_of.ensures) to
