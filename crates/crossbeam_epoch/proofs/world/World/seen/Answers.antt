use Rattle.crossbeam_epoch.proofs.lemmas.world.Reaches.{reach_seen, reach_now, visible_was, less_reach, enters_next, ended_by, live_was}
use Rattle.crossbeam_epoch.proofs.world.World.seen.Goals as goal

pub returns : goal.returns
returns g c = record {
  now = λ h s p n now is. reach_seen g.T.Links.names h s p n now is;
  newest = λ m h s n now is. reach_now g.T.Links.names m h s n now is;
  before = λ h p n seen. visible_was h p n seen;
  fewer = λ roots links less n all is. less_reach roots links less all is;
  enters = λ m h s now each e. enters_next g.T.Links.names m h s now each e;
  ended = λ m h s n now ends live gone. ended_by g.T.Links.names m h s n now ends live gone;
  lived = λ h s n now live. live_was g.T.Links.names h s n now live;
}
