use Rattle.std.proofs.Common.{◌≡◌, length, rules, arith}
use Rattle.congee.proofs.lemmas.owned.Folds.{fold_first, fold_folds, fold_inner, fold_left, fold_present, fold_room, fold_seven, fold_stands, fold_value, fold_whole, not_bare}
use Rattle.congee.proofs.lemmas.owned.Unfolds.{fits_room}
use Rattle.congee.proofs.owned.nodes.Nodes.fold.Goals as goal

pub unreachable-requires : goal.unreachable-requires
unreachable-requires g c = not_bare c.args.self.now c.args.at c.args.leaf c.requires.stands c.requires.inner c.requires.below c.requires.lone c.in-None.ensures.first

pub prefix-requires-clause-stands : goal.prefix-requires-clause-stands
prefix-requires-clause-stands g c = c.requires.below

pub key_from-key-requires : goal.key_from-key-requires
key_from-key-requires g c = fold_whole c.args.self.now c.args.at c.args.leaf c.requires.stands c.requires.inner c.requires.below c.requires.lone c.prefix.result.now c.prefix.ensures.bytes

pub take_value-value-requires-clause-present : goal.take_value-value-requires-clause-present
take_value-value-requires-clause-present g c = fold_value c.args.self.now c.args.at c.args.leaf c.requires.stands c.requires.inner c.requires.below c.requires.lone c.in-Some.last _ c.in-Some.ensures.first

pub remove-requires-clause-stands : goal.remove-requires-clause-stands
remove-requires-clause-stands g c = fold_left c.args.self.now c.args.at c.args.leaf c.requires.stands c.requires.inner c.requires.below c.requires.lone c.in-Some.last _ c.in-Some.ensures.first c.take_value-value.new.self c.take_value-value.ensures.takes

pub remove-requires-clause-leaf : goal.remove-requires-clause-leaf
remove-requires-clause-leaf g c = fold_seven c.args.self.now c.args.at c.args.leaf c.requires.stands c.requires.inner c.requires.below c.requires.lone c.in-Some.last _ c.in-Some.ensures.first c.take_value-value.new.self c.take_value-value.ensures.takes

pub swap_leaf-requires-clause-inner : goal.swap_leaf-requires-clause-inner
swap_leaf-requires-clause-inner g c = fold_inner c.args.self.now c.args.at c.args.leaf c.requires.stands c.requires.inner c.requires.below c.requires.lone c.in-Some.last _ c.in-Some.ensures.first c.take_value-value.new.self c.take_value-value.ensures.takes c.remove.new.self c.remove.ensures.gone

pub swap_leaf-requires-clause-stands : goal.swap_leaf-requires-clause-stands
swap_leaf-requires-clause-stands g c = fold_stands c.args.self.now c.args.at c.args.leaf c.requires.stands c.requires.inner c.requires.below c.requires.lone c.in-Some.last _ c.in-Some.ensures.first c.take_value-value.new.self c.take_value-value.ensures.takes c.remove.new.self c.remove.ensures.gone

pub swap_leaf-requires-clause-present : goal.swap_leaf-requires-clause-present
swap_leaf-requires-clause-present g c = fold_present c.args.self.now c.args.at c.args.leaf c.requires.stands c.requires.inner c.requires.below c.requires.lone c.in-Some.last _ c.in-Some.ensures.first c.take_value-value.new.self c.take_value-value.ensures.takes c.remove.new.self c.remove.ensures.gone c.args.byte c.requires.present c.requires.own

pub swap_leaf-requires-clause-spare : goal.swap_leaf-requires-clause-spare
swap_leaf-requires-clause-spare g c =
    let room = fits_room c.self.inside.slab c.args.self.now c.self.view_is c.self.inside.inline c.self.invariant in
    fold_room c.args.self.now c.args.at c.args.leaf c.requires.stands c.requires.inner c.requires.below c.requires.lone c.in-Some.last _ c.in-Some.ensures.first c.take_value-value.new.self c.take_value-value.ensures.takes c.remove.new.self c.remove.ensures.gone room c.take_value-value.ensures.capacity c.remove.ensures.capacity

pub swap_leaf-requires-clause-begins : goal.swap_leaf-requires-clause-begins
swap_leaf-requires-clause-begins g c =
    fold_first c.args.self.now c.args.at c.args.leaf c.requires.stands c.requires.inner c.requires.below c.requires.lone c.in-Some.last _ c.in-Some.ensures.first c.take_value-value.new.self c.take_value-value.ensures.takes c.remove.new.self c.remove.ensures.gone c.args.byte c.requires.begins c.key_from-key.result c.prefix.result.now c.prefix.ensures.bytes (c.key_from-key.ensures.bytes 0 (omega arith))

pub returns-clause-folds : goal.returns-clause-folds
returns-clause-folds g c =
    let whole : length c.key_from-key.result ≡ 8 = search rules in
    fold_folds c.args.self.now c.args.at c.args.leaf c.requires.stands c.requires.inner c.requires.below c.requires.lone c.in-Some.last _ c.in-Some.ensures.first c.take_value-value.new.self c.take_value-value.ensures.takes c.remove.new.self c.remove.ensures.gone c.args.byte c.requires.present c.requires.own c.swap_leaf.new.self c.key_from-key.result c.prefix.result.now c.take_value-value.result c.prefix.ensures.bytes whole c.key_from-key.ensures.bytes c.key_from-key.ensures.last c.take_value-value.ensures.was c.swap_leaf.ensures.hangs
