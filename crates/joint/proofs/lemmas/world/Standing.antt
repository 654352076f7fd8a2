-- The tree stands between any two steps.
use Rattle.std.proofs.Common.{ℕ, Bool, List, ap}
use Rattle.congee.specs.declared.protocol.machine.Machine.{Machine}
use Rattle.congee.specs.Heap.{Node}
use Rattle.congee.specs.Notes.{is_published}
use Rattle.congee.specs.protocol.Play.{Settled}
use Rattle.joint.specs.declared.engine.in_flight.InFlight.{InFlight}
use Rattle.joint.specs.declared.id.Id.{Id}
use Rattle.joint.specs.nodes.Nodes.{Nodes, nodes}
use Rattle.joint.specs.engine.Intact.{IsIntact}
use Rattle.joint.specs.engine.Safety.{IsSafe}
use Rattle.joint.specs.nodes.Survey.{IsTree}

-- the nodes are a tree that stands, where locks and nodes are held by calls alone that are between their steps
settled_tree : {C V : Type 0} (num : C → ℕ) (same : V → V → Bool) (always : Bool) (h : ℕ → Node V) (ms : List (Machine C V)) → Settled num same always h ms → IsTree h
settled_tree num same always h ms s = record { notes = s.0; tree = s.1.tree; stands = λ n e. (s.1.words.each n).stands (ap is_published e) }

module _ {V : Type 0} (same : V → V → Bool) (always : Bool) where
  safe_tree : (s : Nodes V) (ms : List (Machine Id V)) → IsSafe same always s ms → IsTree (nodes s)
  safe_tree s ms safe = settled_tree _ same always (nodes s) ms safe.sound.sound.settled

  -- where what always holds of nodes and calls holds, the nodes are a tree that stands
  pub intact_tree : (s : Nodes V) (ms : List (Machine Id V)) (ks : List (InFlight V)) → IsIntact same always s ms ks → IsTree (nodes s)
  intact_tree s ms ks i = safe_tree s ms i.safe
