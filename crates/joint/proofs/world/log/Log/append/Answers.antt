use Rattle.std.proofs.Common.{rules, arith, ◌≡◌, ◌<◌, ◌≤◌, ◌+◌, true, length, sym, subst}
use Rattle.std.specs.Vec.{vec_capacity, vec_len}
use Rattle.joint.specs.engine.Log.{Log, has_room}
use Rattle.joint.proofs.lemmas.engine.Recounting.{has_room_is, pushed_room}
use Rattle.joint.proofs.world.log.Log.append.Goals as goal

pub push_reserved-requires : goal.push_reserved-requires
push_reserved-requires g c =
    let P : Log g.row.P.Denot → Type 0 = λ l. has_room l ≡ true in
    let room : length c.self.inside.entries.items + c.self.inside.reserved < c.self.inside.places = has_room_is (record { entries = c.self.inside.entries.items; places = c.self.inside.places; reserved = c.self.inside.reserved; requests = c.self.inside.requests.items }) (subst P (sym c.self.view_is) c.requires) in
    let most : c.self.inside.places ≤ vec_capacity c.self.inside.entries = c.self.invariant.0 in
    let long : vec_len c.self.inside.entries ≡ length c.self.inside.entries.items = search rules in
    omega (arith, room, most, long)

pub invariant_of-self : goal.invariant_of-self
invariant_of-self g c =
    let P : Log g.row.P.Denot → Type 0 = λ l. has_room l ≡ true in
    let room : length c.self.inside.entries.items + c.self.inside.reserved < c.self.inside.places = has_room_is (record { entries = c.self.inside.entries.items; places = c.self.inside.places; reserved = c.self.inside.reserved; requests = c.self.inside.requests.items }) (subst P (sym c.self.view_is) c.requires) in
    (rw c.push_reserved.ensures.capacity c.self.invariant.0, pushed_room _ _ _ _ _ room c.push_reserved.ensures.items)
