use Rattle.std.proofs.Common.{rules, ◌≡◌, ◌<◌, ◌∙◌, true, sym, length, get_or}
use Rattle.std.specs.Prelude.{is_some}
use Rattle.crossbeam_epoch.specs.world.Store.{fresh, value_at}
use Rattle.crossbeam_epoch.proofs.lemmas.world.FreeCells.{some_of, fits_spent, fits_emptied, room_for}
use Rattle.crossbeam_epoch.proofs.world.cells.Cells.take.Goals as goal

pub invariant_of-self : goal.invariant_of-self
invariant_of-self g c =
    let lt : c.args.name.cell < length c.self.inside.cells.items = search rules in
    let some : is_some (value_at c.args.self.now c.args.name) ≡ true = sym c.if-not-stands.ensures.value in
    let is : (get_or c.self.inside.cells.items c.args.name.cell fresh).value ≡ value_at c.args.self.now c.args.name = search rules in
    let v = some_of (value_at c.args.self.now c.args.name) some in
    let spent = fits_spent c.self.inside.cells.items c.self.inside.free.items c.args.name.cell c.self.inside.most c.self.inside.turn_max c.index_mut-cell.result.now.turns v.0 lt c.self.invariant.0 (is ∙ v.1) c.if-cell-self.true in
    (rw c.replace.ensures.after spent, c.self.invariant.1, c.self.invariant.2)

pub push_reserved-requires : goal.push_reserved-requires
push_reserved-requires g c =
    let lt : c.args.name.cell < length c.self.inside.cells.items = search rules in
    let some : is_some (value_at c.args.self.now c.args.name) ≡ true = sym c.if-not-stands.ensures.value in
    let is : (get_or c.self.inside.cells.items c.args.name.cell fresh).value ≡ value_at c.args.self.now c.args.name = search rules in
    let v = some_of (value_at c.args.self.now c.args.name) some in
    let room = room_for c.self.inside.cells.items c.self.inside.free.items c.args.name.cell c.self.inside.most c.self.inside.turn_max v.0 lt c.self.invariant.0 (is ∙ v.1) in
    let cap = c.self.invariant.2 in
    search (rules, room, cap)

pub invariant_of-self-2 : goal.invariant_of-self-2
invariant_of-self-2 g c =
    let lt : c.args.name.cell < length c.self.inside.cells.items = search rules in
    let some : is_some (value_at c.args.self.now c.args.name) ≡ true = sym c.if-not-stands.ensures.value in
    let is : (get_or c.self.inside.cells.items c.args.name.cell fresh).value ≡ value_at c.args.self.now c.args.name = search rules in
    let v = some_of (value_at c.args.self.now c.args.name) some in
    let left = fits_emptied c.self.inside.cells.items c.self.inside.free.items c.args.name.cell c.self.inside.most c.self.inside.turn_max c.index_mut-cell.result.now.turns v.0 lt c.self.invariant.0 (is ∙ v.1) c.if-cell-self.false in
    (rw (c.replace-value.ensures.after, c.push_reserved.ensures.items) left, c.self.invariant.1, rw c.push_reserved.ensures.capacity c.self.invariant.2)
