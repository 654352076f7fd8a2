use Rattle.std.proofs.Common.{◌≡◌, ap, ◌∙◌, sym, subst}
use Rattle.congee.specs.declared.protocol.machine.Machine.{Machine}
use Rattle.congee.specs.protocol.Play.{IsOfRange, begun, flight, range_of}
use Rattle.congee.proofs.lemmas.protocol.Opening.{opening_one, opening_more}
use Rattle.congee.proofs.lemmas.protocol.ScanRanges.{of_range}
use Rattle.congee.proofs.protocol.machine.Machine.new.Goals as goal

pub returns-clause-scan : goal.returns-clause-scan
returns-clause-scan g c =
    let is : record { root = c.args.root; key = c.parts-key.result.0; kind = c.parts-key.result.1; given = c.parts-key.result.2; phase = c.first_phase-phase.result } ≡ begun c.args.root c.args.op =
    ap (λ p. record { root = c.args.root; key = p.0; kind = p.1; given = p.2; phase = c.first_phase-phase.result }) c.parts-key.ensures.parts ∙ ap (λ x. record (begun c.args.root c.args.op) { phase = x }) c.first_phase-phase.ensures.phase in
    let P : Machine g.row.C.Denot g.row.P.Denot → Type 0 = λ m. IsOfRange (range_of c.args.op) (flight m) in
    subst P (sym is) (of_range c.args.root c.args.op)

pub returns-clause-begins : goal.returns-clause-begins
returns-clause-begins g c = λ h r z. opening_one g.C.NodeName.number h _ r z (record { begins = c.first_phase-phase.ensures.begins _ _ c.parts-key.ensures.gift; key = c.parts-key.ensures.key })

pub returns-clause-joins : goal.returns-clause-joins
returns-clause-joins g c = λ h ms b z. opening_more g.C.NodeName.number h ms _ b z (record { begins = c.first_phase-phase.ensures.begins _ _ c.parts-key.ensures.gift; key = c.parts-key.ensures.key })
