use Rattle.congee.specs.forms.RoomLemmas.{node16_fits, node48_fits, node256_fits}
use Rattle.joint.proofs.«congee++forms++base_node++Node+Destruct».drop.Goals as goal

pub drop-requires-2-room-T-Destruct : goal.drop-requires-2-room-T-Destruct
drop-requires-2-room-T-Destruct g c κs within = node16_fits g.row.C g.row.P g.met.C.Small.small g.met.P.Small.small

pub drop-requires-3-room-T-Destruct : goal.drop-requires-3-room-T-Destruct
drop-requires-3-room-T-Destruct g c κs within = node48_fits g.row.C g.row.P g.met.C.Small.small g.met.P.Small.small

pub drop-requires-4-room-T-Destruct : goal.drop-requires-4-room-T-Destruct
drop-requires-4-room-T-Destruct g c κs within = node256_fits g.row.C g.row.P g.met.C.Small.small g.met.P.Small.small
