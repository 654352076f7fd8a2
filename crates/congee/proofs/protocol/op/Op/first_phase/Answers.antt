use Rattle.std.proofs.Common.{rules, ap, ◌∙◌, ◌-◌}
use Rattle.congee.specs.protocol.ScanSteps.{new_scan}
use Rattle.congee.proofs.lemmas.protocol.ScanRanges.{range_before, range_through}
use Rattle.congee.proofs.protocol.op.Op.first_phase.Goals as goal

pub returns-in-Range-clause-begins : goal.returns-in-Range-clause-begins
returns-in-Range-clause-begins g c = λ kind given gift. (
  ap (λ s. s.stage) c.new.ensures,
  range_before _ c.args.root c.in-Range.start c.in-Range.end c.in-Range.size
      (c.new.ensures ∙ ap (λ n. new_scan c.args.root c.in-Range.start n c.places_where.result) c.saturating_sub.ensures ∙ ap (new_scan c.args.root c.in-Range.start (c.in-Range.end - 1)) c.places_where.ensures)
      (search rules),
)

pub returns-in-RangeInclusive-clause-begins : goal.returns-in-RangeInclusive-clause-begins
returns-in-RangeInclusive-clause-begins g c = λ kind given gift. (
  ap (λ s. s.stage) c.new-in-RangeInclusive.ensures,
  range_through _ c.args.root c.in-RangeInclusive.start c.in-RangeInclusive.last c.in-RangeInclusive.size
      (c.new-in-RangeInclusive.ensures ∙ ap (new_scan c.args.root c.in-RangeInclusive.start c.in-RangeInclusive.last) c.places_where-in-RangeInclusive.ensures)
      (search rules),
)
