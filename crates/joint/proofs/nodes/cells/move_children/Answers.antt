use Rattle.std.proofs.Common.{ap}
use Rattle.joint.specs.nodes.View.{out}
use Rattle.joint.proofs.lemmas.nodes.Altering.{was_second, still_there, both_back}
use Rattle.joint.proofs.nodes.cells.move_children.Goals as goal

pub move_to-requires-clause-room : goal.move_to-requires-clause-room
move_to-requires-clause-room g c =
    c.requires.room c.take_out-from.result c.take_out-to.result c.take_out-from.ensures.was
    (was_second c.cells.ensures.replaced c.args.collector.now.store c.take_out-from.new.collector.store c.args.old c.args.node c.take_out-from.result c.take_out-to.result out c.requires.apart (ap (λ s. s.store) c.take_out-from.ensures.state) c.take_out-from.ensures.was c.take_out-to.ensures.was)

pub move_to-requires-clause-whole_other : goal.move_to-requires-clause-whole_other
move_to-requires-clause-whole_other g c =
    c.requires.whole c.args.node c.take_out-to.result
    (was_second c.cells.ensures.replaced c.args.collector.now.store c.take_out-from.new.collector.store c.args.old c.args.node c.take_out-from.result c.take_out-to.result out c.requires.apart (ap (λ s. s.store) c.take_out-from.ensures.state) c.take_out-from.ensures.was c.take_out-to.ensures.was)

pub put_back-requires-2 : goal.put_back-requires-2
put_back-requires-2 g c =
    still_there c.cells.ensures.replaced c.args.collector.now.store c.take_out-from.new.collector.store c.args.old c.args.node c.take_out-from.result c.take_out-to.result out c.requires.apart (ap (λ s. s.store) c.take_out-from.ensures.state) c.take_out-from.ensures.was c.take_out-to.ensures.was
    c.take_out-to.new.collector.store c.put_back.new.collector.store c.move_to.new.self c.move_to.new.other (ap (λ s. s.store) c.take_out-to.ensures.state) (ap (λ s. s.store) c.put_back.ensures)

pub returns-clause-slots : goal.returns-clause-slots
returns-clause-slots g c = (
  c.take_out-from.result,
  (
    c.take_out-to.result,
    (
      c.move_to.new.self,
      (
        c.move_to.new.other,
        (
          both_back c.cells.ensures.replaced c.args.collector.now.store c.take_out-from.new.collector.store c.args.old c.args.node c.take_out-from.result c.take_out-to.result out c.requires.apart (ap (λ s. s.store) c.take_out-from.ensures.state) c.take_out-from.ensures.was c.take_out-to.ensures.was
              c.take_out-to.new.collector.store c.put_back.new.collector.store c.move_to.new.self c.move_to.new.other (ap (λ s. s.store) c.take_out-to.ensures.state) (ap (λ s. s.store) c.put_back.ensures)
              c.put_back-2.new.collector.store (ap (λ s. s.store) c.put_back-2.ensures),
          c.move_to.ensures,
        ),
      ),
    ),
  ),
)
