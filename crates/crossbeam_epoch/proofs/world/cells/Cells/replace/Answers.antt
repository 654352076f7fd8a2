use Rattle.std.proofs.Common.{rules, ◌≡◌, ◌<◌, ◌∙◌, true, length, get_or}
use Rattle.std.specs.Prelude.{is_some}
use Rattle.crossbeam_epoch.specs.world.Store.{fresh, value_at}
use Rattle.crossbeam_epoch.proofs.lemmas.world.FreeCells.{some_of, fits_replaced}
use Rattle.crossbeam_epoch.proofs.world.cells.Cells.replace.Goals as goal

pub invariant_of-self : goal.invariant_of-self
invariant_of-self g c =
    let lt : c.args.name.cell < length c.self.inside.cells.items = search rules in
    let some : is_some (value_at c.args.self.now c.args.name) ≡ true = search rules in
    let is : (get_or c.self.inside.cells.items c.args.name.cell fresh).value ≡ value_at c.args.self.now c.args.name = search rules in
    let v = some_of (value_at c.args.self.now c.args.name) some in
    let kept = fits_replaced c.self.inside.cells.items c.self.inside.free.items c.args.name.cell c.self.inside.most c.self.inside.turn_max c.index_mut-cell.result.now.turns v.0 c.args.value lt c.self.invariant.0 (is ∙ v.1) in
    (rw c.replace.ensures.after kept, c.self.invariant.1, c.self.invariant.2)
