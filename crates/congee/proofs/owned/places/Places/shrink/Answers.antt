use Rattle.congee.specs.owned.EntryRoom.{entries16_fits, entries48_fits, places256_fits}
use Rattle.congee.proofs.owned.places.Places.shrink.Goals as goal

pub drop-requires-room-T-Destruct :
    goal.drop-requires-room-T-Destruct
drop-requires-room-T-Destruct g c κs within = entries16_fits g.row.P g.met.P.Small.small

pub drop-requires-in_ok-lesser-2-room-T-Destruct :
    goal.drop-requires-in_ok-lesser-2-room-T-Destruct
drop-requires-in_ok-lesser-2-room-T-Destruct g c κs within = entries48_fits g.row.P g.met.P.Small.small

pub drop-requires-in_ok-lesser-3-room-T-Destruct :
    goal.drop-requires-in_ok-lesser-3-room-T-Destruct
drop-requires-in_ok-lesser-3-room-T-Destruct g c κs within = places256_fits g.row.P g.met.P.Small.small
