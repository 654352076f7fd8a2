use Rattle.std.proofs.Common.{true}
use Rattle.joint.proofs.lemmas.calls.Filling.{all_filled, opens_filled}
use Rattle.joint.proofs.calls.run_laws.nodes_filled.Goals as goal

pub returns-clause-run : goal.returns-clause-run
returns-clause-run g c = all_filled g.P.Payload.same_as g.P.Payload.always_copies c.call_laws.ensures (record { opens = c.filled.ensures.opens true; spared = c.filled.ensures.spared true }) (λ f i a h h' ms m m' d fail answer p e k st none. c.filled.ensures.steps true f i a h h' ms m m' d fail answer p e k st (λ _. none))

pub returns-clause-opened : goal.returns-clause-opened
returns-clause-opened g c = opens_filled g.P.Payload.same_as g.P.Payload.always_copies c.call_laws.ensures (record { opens = c.filled.ensures.opens true; spared = c.filled.ensures.spared true }) (λ f i a h h' ms m m' d fail answer p e k st none. c.filled.ensures.steps true f i a h h' ms m m' d fail answer p e k st (λ _. none))

pub returns-clause-filled : goal.returns-clause-filled
returns-clause-filled g c = λ s f. f.tree
