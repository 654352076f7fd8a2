use Rattle.std.proofs.Common.{rules, length, ◌≡◌, [], ap, arith}
use Rattle.congee.specs.forms.Forms.{children_of}
use Rattle.congee.specs.forms.Scan.{rest}
use Rattle.congee.proofs.lemmas.forms.BetweenLemmas.{between_none, between_first}
use Rattle.congee.specs.forms.RoomLemmas.{any_node_fits}
use Rattle.congee.proofs.forms.base_node.NodeIterIterator.next.Goals as goal
use Rattle.congee.proofs.forms.base_node.NodeIterIterator.next.Goals.{in_default-via-in-Some+else-byte-self, in_default-via-in_default}

pub first_from-requires : goal.first_from-requires
first_from-requires g c = any_node_fits g.row.C g.row.P g.met.C.Small.small g.met.P.Small.small

pub returns-in-Some-clause-steps : goal.returns-in-Some-clause-steps
returns-in-Some-clause-steps g c = between_first (children_of c.args.self.now.node.now) c.args.self.now.from c.args.self.now.end c.in-Some.byte c.in-Some.child.now c.in-Some.ensures (omega (arith, c.if-byte-self.true))

pub returns-in-Some-clause-goes : goal.returns-in-Some-clause-goes
returns-in-Some-clause-goes g c =
    let e = between_first (children_of c.args.self.now.node.now) c.args.self.now.from c.args.self.now.end c.in-Some.byte c.in-Some.child.now c.in-Some.ensures (omega (arith, c.if-byte-self.true)) in
    record { on = λ f. (search rules, search rules, omega (arith, ap length e)); keeps = search rules; rests = λ f. search rules }

pub returns-in_default-clause-steps : goal.returns-in_default-clause-steps
returns-in_default-clause-steps g c =
    let e : rest c.args.self.now ≡ [] = elim c.in_default.branch [
      | in_default-via-in-Some+else-byte-self w ↦ between_none (children_of c.args.self.now.node.now) c.args.self.now.from c.args.self.now.end (λ q l m. w.in-Some.ensures.before q l (omega (arith, m, w.if-byte-self.false)))
      | in_default-via-in_default w ↦ between_none (children_of c.args.self.now.node.now) c.args.self.now.from c.args.self.now.end (λ q l m. w.in_default.ensures q l)
    ] in
    (e, e)
