use Rattle.std.proofs.Common.{◌≡◌, ◌+◌, ap, arith}
use Rattle.congee.proofs.lemmas.owned.Reserving.{reserved_room}
use Rattle.congee.proofs.lemmas.owned.SlotComes.{wider_same, wider_stored}
use Rattle.congee.proofs.owned.nodes.Nodes.reserve.Goals as goal

pub invariant_of-self : goal.invariant_of-self
invariant_of-self g c = wider_stored c.self.inside.slab c.reserve.new.self c.self.inside.inline c.self.invariant (ap (λ s. s.slots) c.reserve.ensures.rest_kept) c.reserve.ensures.capacity

pub returns-in-Some-clause-same : goal.returns-in-Some-clause-same
returns-in-Some-clause-same g c = wider_same c.self.inside.slab c.reserve.new.self c.args.self.now c.self.view_is (ap (λ s. s.slots) c.reserve.ensures.rest_kept)

pub returns-in-Some-clause-room : goal.returns-in-Some-clause-room
returns-in-Some-clause-room g c =
    let sum : c.in-Some.wanted ≡ c.self.inside.inline + c.args.additional = (let h = c.in-Some.ensures in omega (arith, h)) in
    reserved_room c.self.inside.slab c.reserve.new.self c.self.inside.inline c.self.invariant (ap (λ s. s.slots) c.reserve.ensures.rest_kept) c.reserve.ensures.capacity c.args.additional c.in-Some.wanted sum c.reserve.result c.reserve.ensures.room
