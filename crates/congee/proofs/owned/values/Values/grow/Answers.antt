use Rattle.congee.specs.owned.ValueRoom.{values16_fits, values48_fits, values256_fits}
use Rattle.congee.proofs.owned.values.Values.grow.Goals as goal

pub drop-requires-room-T-Destruct :
    goal.drop-requires-room-T-Destruct
drop-requires-room-T-Destruct g c κs within = values16_fits g.row.X g.met.X.Small.small

pub drop-requires-in_ok-greater-2-room-T-Destruct :
    goal.drop-requires-in_ok-greater-2-room-T-Destruct
drop-requires-in_ok-greater-2-room-T-Destruct g c κs within = values48_fits g.row.X g.met.X.Small.small

pub drop-requires-in_ok-greater-3-room-T-Destruct :
    goal.drop-requires-in_ok-greater-3-room-T-Destruct
drop-requires-in_ok-greater-3-room-T-Destruct g c κs within = values256_fits g.row.X g.met.X.Small.small
