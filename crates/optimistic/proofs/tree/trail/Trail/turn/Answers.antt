use Rattle.optimistic.proofs.tree.trail.Trail.turn.Goals as goal

pub returns-in-Up : goal.returns-in-Up
returns-in-Up c w trail turn = c.go_up.ensures w.seen trail
