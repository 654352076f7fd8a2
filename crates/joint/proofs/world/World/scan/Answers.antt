use Rattle.std.proofs.Common.{IsSome, suc, length, sym, subst, refl}
use Rattle.joint.specs.nodes.Nodes.{nodes}
use Rattle.joint.specs.calls.Scanned.{ScansAs}
use Rattle.joint.specs.engine.Standing.{pairs_of}
use Rattle.joint.proofs.lemmas.calls.Replied.{map_stands, one_stands}
use Rattle.joint.proofs.lemmas.calls.Scanned.{scan_finds, scan_keeps, scan_stands}
use Rattle.joint.proofs.world.World.scan.Goals as goal

pub returns-clause-finds : goal.returns-clause-finds
returns-clause-finds g c =
    let s = c.args.self.now in
    let holds = c.sound.ensures.holds in
    let fills = c.call.ensures.scan holds.2.flights (pairs_of s) (map_stands (nodes s.forest)) holds.2.in_flight in
    subst (λ r. ScansAs c.args.start (suc c.args.last) (pairs_of s) r c.call.new.found) (sym c.scanned.ensures)
    (scan_finds g.P.Payload.same_as g.P.Payload.always_copies _ _ _ _ _ _ (pairs_of s) _ _ _ _ c.call.ensures.called refl fills)

pub returns-clause-pairs : goal.returns-clause-pairs
returns-clause-pairs g c =
    let s = c.args.self.now in
    let s' = c.call.new.self in
    let holds = c.sound.ensures.holds in
    let plays = c.call.ensures.map holds.2.flights (pairs_of s) (map_stands (nodes s.forest)) holds.2.in_flight in
    sym (one_stands (nodes s'.forest) (pairs_of s) (scan_stands g.P.Payload.same_as holds.2.flights (pairs_of s) s' c.args.who c.args.start c.args.last (length c.args.places.now) c.call.result plays))

pub returns-clause-called : goal.returns-clause-called
returns-clause-called g c = (c.call.result, c.call.ensures.called, c.scanned.ensures)

pub returns-clause-flights : goal.returns-clause-flights
returns-clause-flights g c fs fl some =
    let s = c.args.self.now in
    scan_keeps g.P.Payload.same_as fs (pairs_of s) c.call.new.self c.args.who c.args.start c.args.last (length c.args.places.now) c.call.result (subst IsSome c.scanned.ensures some) (c.call.ensures.map fs (pairs_of s) (map_stands (nodes s.forest)) fl)
