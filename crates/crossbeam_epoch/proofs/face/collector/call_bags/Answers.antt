use Rattle.crossbeam_epoch.proofs.lemmas.world.Endings.{fewer_bags}
use Rattle.crossbeam_epoch.proofs.face.collector.call_bags.Goals as goal

pub loop-bag-smaller : goal.loop-bag-smaller
loop-bag-smaller g c = fewer_bags c.in-Some.bag c.loop-bag.queue.bags.items c.pop.new.self.bags.items c.in-Some.ensures.bags
