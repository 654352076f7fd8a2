use Rattle.std.proofs.Common.{◌≡◌, ◌∙◌}
use Rattle.congee.proofs.lemmas.owned.Alone.{root_left_done, root_left_stored, root_slot}
use Rattle.congee.proofs.owned.nodes.Nodes.clear.Goals as goal

pub remove-root-requires : goal.remove-root-requires
remove-root-requires g c = root_slot c.self.inside.slab c.args.self.now c.self.view_is c.self.inside.inline c.self.invariant c.requires.root c.requires.inner

pub invariant_of-self : goal.invariant_of-self
invariant_of-self g c =
    let first : c.insert_reserved.result ≡ 0 = c.insert_reserved.ensures.key ∙ c.clear.ensures.first_key in
    root_left_stored c.self.inside.slab c.args.self.now c.self.view_is c.self.inside.inline c.self.invariant c.requires.root c.requires.inner c.remove-root.result c.clear-2.new.self c.remove-root.ensures.value c.clear-2.ensures c.clear.new.self c.insert_reserved.new.self c.clear.ensures.empty c.insert_reserved.result first c.insert_reserved.ensures.updates c.insert_reserved.ensures.key_in_range

pub returns : goal.returns
returns g c =
    let first : c.insert_reserved.result ≡ 0 = c.insert_reserved.ensures.key ∙ c.clear.ensures.first_key in
    root_left_done c.self.inside.slab c.args.self.now c.self.view_is c.self.inside.inline c.self.invariant c.requires.root c.requires.inner c.remove-root.result c.clear-2.new.self c.remove-root.ensures.value c.clear-2.ensures c.clear.new.self c.insert_reserved.new.self c.clear.ensures.empty c.insert_reserved.result first c.insert_reserved.ensures.updates
