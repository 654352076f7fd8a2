use Rattle.std.proofs.Common.{◌<◌, List, sym, ◌∙◌, ap, subst}
use Rattle.std.specs.FinMap.{empty}
use Rattle.judge.specs.declared.journal.Entry.{Entry}
use Rattle.judge.specs.Answer.{Pairs}
use Rattle.judge.specs.Journal.{IsLegal, Legal}
use Rattle.congee.specs.Keys.{IsMapOf}
use Rattle.joint.specs.engine.Standing.{pairs_of}
use Rattle.joint.specs.nodes.Nodes.{nodes}
use Rattle.joint.specs.engine.Engine.{World}
use Rattle.joint.proofs.lemmas.calls.Replied.{map_stands}
use Rattle.joint.proofs.lemmas.calls.WorldSteps.{journal_legal, journal_replays}
use Rattle.joint.proofs.world.World.journal.Goals as goal

pub returns-clause-legal : goal.returns-clause-legal
returns-clause-legal g c =
    let P : List (Entry g.row.P.Denot) → Type 0 = λ es. IsLegal g.P.Payload.same_as es in
    subst P (sym c.entries.ensures) (journal_legal g.P.Payload.same_as g.P.Payload.always_copies (record { forest = c.self.inside.engine.nodes; machines = c.self.inside.engine.machines.items; calls = c.self.inside.engine.calls.items; log = c.self.inside.log }) c.self.invariant.0)

pub returns-clause-replays : goal.returns-clause-replays
returns-clause-replays g c m p st =
    let P : World g.row.P.Denot → Type 0 = λ s. (n : Pairs g.row.P.Denot) → 0 < s.log.places → IsMapOf (nodes s.forest) n → Legal g.P.Payload.same_as empty s.log.entries n in
    let Q : List (Entry g.row.P.Denot) → Type 0 = λ es. Legal g.P.Payload.same_as empty es m in
    subst Q (sym (c.entries.ensures ∙ ap (λ (y : World g.row.P.Denot). y.log.entries) c.self.view_is)) (subst P c.self.view_is (journal_replays g.P.Payload.same_as g.P.Payload.always_copies (record { forest = c.self.inside.engine.nodes; machines = c.self.inside.engine.machines.items; calls = c.self.inside.engine.calls.items; log = c.self.inside.log }) c.self.invariant.0) m p st)

pub returns-clause-pairs : goal.returns-clause-pairs
returns-clause-pairs g c p = returns-clause-replays g c (pairs_of c.args.self.now) p (map_stands (nodes c.args.self.now.forest))
