use Rattle.std.proofs.Common.{◌≡◌, ◌∙◌}
use Rattle.congee.proofs.lemmas.owned.Alone.{alone, alone_stored}
use Rattle.congee.specs.owned.EntryRoom.{entries16_fits, entries48_fits, places256_fits}
use Rattle.congee.proofs.owned.nodes.Nodes.new.Goals as goal

pub invariant_of-result : goal.invariant_of-result
invariant_of-result g c =
    let first : c.in-Ok.field-0 ≡ 0 = c.in-Ok.ensures.key ∙ c.new-slab.ensures.first_key in
    alone_stored c.new-slab.result c.insert.new.self c.new-slab.ensures.empty c.in-Ok.field-0 first c.args.root c.in-Ok.ensures.updates c.requires.empty c.requires.inner c.in-Ok.ensures.key_in_range

pub returns-in-Ok : goal.returns-in-Ok
returns-in-Ok g c =
    let first : c.in-Ok.field-0 ≡ 0 = c.in-Ok.ensures.key ∙ c.new-slab.ensures.first_key in
    record { root = alone c.new-slab.result c.insert.new.self c.new-slab.ensures.empty c.in-Ok.field-0 first c.args.root c.in-Ok.ensures.updates c.requires.empty }

pub drop-requires-room-T-Destruct : goal.drop-requires-room-T-Destruct
drop-requires-room-T-Destruct g c κs within = entries16_fits g.row.P g.met.P.Small.small

pub drop-requires-in-Err-2-room-T-Destruct : goal.drop-requires-in-Err-2-room-T-Destruct
drop-requires-in-Err-2-room-T-Destruct g c κs within = entries48_fits g.row.P g.met.P.Small.small

pub drop-requires-in-Err-3-room-T-Destruct : goal.drop-requires-in-Err-3-room-T-Destruct
drop-requires-in-Err-3-room-T-Destruct g c κs within = places256_fits g.row.P g.met.P.Small.small
