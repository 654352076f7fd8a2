use Rattle.std.proofs.Common.{rules, ◌≡◌, ◌+◌, ◌<◌, ◌++◌, ◌∷◌, [], sym, length, arith, get_or}
use Rattle.std.proofs.lemmas.List.{get_or_read}
use Rattle.crossbeam_epoch.specs.world.Store.{fresh}
use Rattle.crossbeam_epoch.proofs.lemmas.world.FreeCells.{opens, fits_used, fits_pushed, placed_next}
use Rattle.crossbeam_epoch.proofs.world.cells.Cells.place.Goals as goal

pub index_mut-cell-requires : goal.index_mut-cell-requires
index_mut-cell-requires g c =
    let popped : c.self.inside.free.items ≡ c.pop.new.self.items ++ c.in-Some.at ∷ [] = c.in-Some.ensures.items in
    let o = opens c.self.inside.cells.items c.pop.new.self.items c.in-Some.at c.self.inside.most c.self.inside.turn_max (rw popped at c.self.invariant.0) in
    let lt = o.inside in
    search (rules, lt)

pub overflow_cast-turn : goal.overflow_cast-turn
overflow_cast-turn g c =
    let popped : c.self.inside.free.items ≡ c.pop.new.self.items ++ c.in-Some.at ∷ [] = c.in-Some.ensures.items in
    let o = opens c.self.inside.cells.items c.pop.new.self.items c.in-Some.at c.self.inside.most c.self.inside.turn_max (rw popped at c.self.invariant.0) in
    let same = get_or_read c.self.inside.cells.items c.in-Some.at c.index_mut-cell.result.now o.inside c.index_mut-cell.ensures.value fresh in
    let turn : c.index_mut-cell.result.now.turns ≡ (get_or c.self.inside.cells.items c.in-Some.at fresh).turns = λ k. (same k).turns in
    let few = o.turns in
    let most : c.self.inside.turn_max < 4294967296 = search rules in
    let lt : c.index_mut-cell.result.now.turns < 4294967296 = omega (arith, turn, few, most) in
    search (rules, lt)

pub overflow_add-cell : goal.overflow_add-cell
overflow_add-cell g c =
    let popped : c.self.inside.free.items ≡ c.pop.new.self.items ++ c.in-Some.at ∷ [] = c.in-Some.ensures.items in
    let o = opens c.self.inside.cells.items c.pop.new.self.items c.in-Some.at c.self.inside.most c.self.inside.turn_max (rw popped at c.self.invariant.0) in
    let same = get_or_read c.self.inside.cells.items c.in-Some.at c.index_mut-cell.result.now o.inside c.index_mut-cell.ensures.value fresh in
    let turn : c.index_mut-cell.result.now.turns ≡ (get_or c.self.inside.cells.items c.in-Some.at fresh).turns = λ k. (same k).turns in
    let few = o.turns in
    let most : c.self.inside.turn_max < 4294967296 = search rules in
    let lt : c.index_mut-cell.result.now.turns + 1 < 18446744073709551616 = omega (arith, turn, few, most) in
    search (rules, lt)

pub invariant_of-self : goal.invariant_of-self
invariant_of-self g c =
    let popped : c.self.inside.free.items ≡ c.pop.new.self.items ++ c.in-Some.at ∷ [] = c.in-Some.ensures.items in (
      fits_used c.self.inside.cells.items c.pop.new.self.items c.in-Some.at c.self.inside.most c.self.inside.turn_max (c.index_mut-cell.result.now.turns + 1) c.args.value (rw popped at c.self.invariant.0),
      c.self.invariant.1,
      rw c.pop.ensures.capacity c.self.invariant.2,
    )

pub returns-in-Some-clause-ok : goal.returns-in-Some-clause-ok
returns-in-Some-clause-ok g c =
    let popped : c.self.inside.free.items ≡ c.pop.new.self.items ++ c.in-Some.at ∷ [] = c.in-Some.ensures.items in
    let o = opens c.self.inside.cells.items c.pop.new.self.items c.in-Some.at c.self.inside.most c.self.inside.turn_max (rw popped at c.self.invariant.0) in
    let same = get_or_read c.self.inside.cells.items c.in-Some.at c.index_mut-cell.result.now o.inside c.index_mut-cell.ensures.value fresh in
    placed_next c.args.self.now c.self.inside.cells.items c.in-Some.at c.self.inside.most c.self.inside.turn_max c.index_mut-cell.result.now.turns c.args.value (sym c.self.view_is) o (λ k. (same k).turns)

pub invariant_of-self-2 : goal.invariant_of-self-2
invariant_of-self-2 g c =
    let none : c.self.inside.free.items ≡ [] = search rules in
    let still : c.pop.new.self.items ≡ [] = search rules in
    let room : length c.self.inside.cells.items < c.self.inside.most = search rules in (
      rw (still, c.push_reserved.ensures.items) (fits_pushed c.self.inside.cells.items c.self.inside.most c.self.inside.turn_max 1 c.args.value (rw none at c.self.invariant.0) room),
      rw c.push_reserved.ensures.capacity c.self.invariant.1,
      rw c.pop.ensures.capacity c.self.invariant.2,
    )
