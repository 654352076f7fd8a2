use Rattle.joint.proofs.lemmas.calls.Beside.{run_beside}
use Rattle.joint.proofs.lemmas.calls.Rounds.{in_run}
use Rattle.joint.proofs.lemmas.calls.Running.{run_map, run_fresh, run_journal, fresh_journal}
use Rattle.joint.proofs.lemmas.calls.Scans.{scans_hold, empty_scans_hold}
use Rattle.joint.proofs.world.World.run.Goals as goal

pub returns-clause-map : goal.returns-clause-map
returns-clause-map g c fs m st fl = run_map g.P.Payload.same_as g.P.Payload.always_copies _ _ _ _ fs m c.sound.ensures.holds c.take_all.ensures.run st fl

pub returns-clause-spares : goal.returns-clause-spares
returns-clause-spares g c r = c.runs_spare.ensures _ r.taken c.sound.ensures.holds r.each

pub returns-clause-fresh : goal.returns-clause-fresh
returns-clause-fresh g c fresh = run_fresh g.P.Payload.same_as g.P.Payload.always_copies _ _ _ _ fresh c.sound.ensures.holds c.take_all.ensures.run

pub returns-clause-scans : goal.returns-clause-scans
returns-clause-scans g c fs m r = (scans_hold g.P.Payload.same_as fs m r.lines r.flights r.run, empty_scans_hold g.P.Payload.same_as fs m r.lines r.flights r.run)

pub returns-clause-beside : goal.returns-clause-beside
returns-clause-beside g c = run_beside g.P.Payload.same_as g.P.Payload.always_copies _ _ _ _ c.take_all.ensures.run

pub returns-clause-journal : goal.returns-clause-journal
returns-clause-journal g c fs m st fl = run_journal g.P.Payload.same_as g.P.Payload.always_copies _ _ _ _ fs m c.sound.ensures.holds c.take_all.ensures.run st fl

pub returns-clause-fresh_journal : goal.returns-clause-fresh_journal
returns-clause-fresh_journal g c fresh = fresh_journal g.P.Payload.same_as g.P.Payload.always_copies _ _ _ _ fresh c.sound.ensures.holds c.take_all.ensures.run

pub returns-clause-comes_back : goal.returns-clause-comes_back
returns-clause-comes_back g c run who rounds quiet are is enough = in_run g.P.Payload.same_as g.P.Payload.always_copies _ _ _ _ who rounds (λ taken. c.comes_back.ensures.bags _ who rounds c.sound.ensures.holds quiet are taken enough) run is

pub returns-clause-all_come_back : goal.returns-clause-all_come_back
returns-clause-all_come_back g c run who rounds quiet are is enough = in_run g.P.Payload.same_as g.P.Payload.always_copies _ _ _ _ who rounds (λ taken. c.comes_back.ensures.nodes _ who rounds c.sound.ensures.holds quiet are taken enough) run is

pub returns-clause-alone : goal.returns-clause-alone
returns-clause-alone g c r = c.runs_alone.ensures.runs _ r.taken c.sound.ensures.holds r.each

pub returns-clause-plain : goal.returns-clause-plain
returns-clause-plain g c order p un a = c.runs_plain.ensures.follows _ _ _ _ order p c.sound.ensures.holds c.take_all.ensures.run un a

pub returns-clause-promises : goal.returns-clause-promises
returns-clause-promises g c limits opening = c.keeps_promises.ensures.keeps limits _ _ _ _ opening c.sound.ensures.holds c.take_all.ensures.run
