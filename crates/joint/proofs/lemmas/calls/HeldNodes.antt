-- What holds in each state of nodes that calls have locked, made or taken out.
use Rattle.std.proofs.Common.{◌≡◌, ℕ, Bool, true, false, refl, sym, ◌∙◌, ap, inl, inr}
use Rattle.std.specs.Prelude.{None, Some, slice_get, ◌&&◌, not}
use Rattle.std.proofs.lemmas.Bool.{cases_Bool, false≢true}
use Rattle.congee.specs.declared.protocol.machine.Machine.{Machine}
use Rattle.congee.specs.Heap.{Node, Stands}
use Rattle.congee.specs.Keys.{key_bytes}
use Rattle.congee.specs.Notes.{Note, Linked, is_published}
use Rattle.congee.specs.protocol.Handing.{InTree, is_handed_over}
use Rattle.congee.specs.protocol.Play.{EachKnown, Settled}
use Rattle.congee.proofs.Laws.{locks_owned, made_known, IsTaken, taken_known, taken_locked}
use Rattle.joint.specs.declared.id.Id.{Id}
use Rattle.joint.specs.calls.Ends.{HoldsLock}
use Rattle.joint.specs.nodes.Nodes.{nodes}
use Rattle.joint.specs.engine.Laws.{CallLaws}
use Rattle.joint.specs.calls.Leaving.{LocksApart, LocksHeld, MarkedLeft}
use Rattle.joint.specs.nodes.View.{id_number}
use Rattle.joint.specs.world.Whereabouts.{IsWaiting, IsSomewhere, IsTakenBy}
use Rattle.joint.specs.world.World.{Holds}
use Rattle.joint.specs.engine.Engine.{World, IsHeldBy}
use Rattle.joint.proofs.lemmas.world.Whereabouts.{gone_waits, node_somewhere}

-- a node that a call has made is neither marked nor handed over
pub record IsBlank {V : Type 0} (n : Node V) : Type 0 where
  pub live : n.obsolete ≡ false
  pub unretired : n.retired ≡ false

-- a node that waits was handed over, and stands
pub waits_is : {V : Type 0} (n : Node V) → is_handed_over n ≡ true → (n.retired ≡ true) × Stands n
waits_is n e = by n.retired n.made n.destroyed refl refl refl e where
  by : (r m d : Bool) → n.retired ≡ r → n.made ≡ m → n.destroyed ≡ d → (r && (m && not d)) ≡ true → (n.retired ≡ true) × Stands n
  by true true false x y z q = (x, record { made = y; kept = z })
  by true true true x y z q = absurd (false≢true q)
  by true false d x y z q = absurd (false≢true q)
  by false m d x y z q = absurd (false≢true q)

module _ {V : Type 0} (same : V → V → Bool) (always : Bool) (laws : CallLaws {C = Id} {V = V} id_number same always) (s : World V) (h : Holds same always s) where
  -- locks and nodes are held by calls alone that are between their steps
  abbrev pub ledger : Settled id_number same always (nodes s.forest) s.machines
  ledger = h.0.safe.sound.sound.settled

  -- what is noted of each node: its state, and the worker whose lock it is under
  abbrev pub notes : ℕ → Note
  notes = ledger.0

  knows : (i : ℕ) (m : Machine Id V) → slice_get s.machines i ≡ Some m → EachKnown id_number same always notes (nodes s.forest) i m
  knows i m at = ledger.1.each i m at

  owns : (i n : ℕ) → HoldsLock s i n → (notes n).owner ≡ Some i
  owns i n x = locks_owned id_number same always i notes (nodes s.forest) x.0.key x.0.kind x.0.given n x.0.phase (knows i x.0 x.1).known x.2

  -- no two workers' calls hold the lock of one node
  pub locks_apart : LocksApart s
  locks_apart i j n x y = let q : Some i ≡ Some j = sym (owns i n x) ∙ owns j n y in cc

  -- each node that a call holds locked is locked
  pub locks_held : LocksHeld s
  locks_held i n x = elim (cases_Bool (nodes s.forest n).locked) [
    | inl e ↦ e
    | inr e ↦ absurd (let z : None ≡ Some i = sym ((ledger.1.words.each n).free e) ∙ owns i n x in cc)
  ]

  -- a node that a call has made and not hung is neither marked nor handed over
  pub blank : (i n : ℕ) → IsHeldBy s i n → IsBlank (nodes s.forest n)
  blank i n x =
      let m = (made_known id_number same always i notes (nodes s.forest) x.0.key (key_bytes x.0.key) x.0.kind x.0.given n x.0.phase (knows i x.0 x.1).known x.2).2 in
      record { live = m.live; unretired = m.unretired }

  -- a node that a call has taken out left the tree under the call's lock, and isn't handed over
  pub owed : (i n : ℕ) → IsTakenBy s i n → IsTaken i notes (nodes s.forest) n
  owed i n x = taken_known id_number same always i notes (nodes s.forest) x.0.key (key_bytes x.0.key) x.0.kind x.0.given n x.0.phase (knows i x.0 x.1).known x.2

  -- a node that a call has taken out stands
  pub taken_stands : (i n : ℕ) → IsTakenBy s i n → Stands (nodes s.forest n)
  taken_stands i n x = (ledger.1.words.each n).stands (ap is_published (owed i n x).gone)

  -- a node that a call has taken out waits
  pub taken_waits : (i n : ℕ) → IsTakenBy s i n → IsWaiting s n
  taken_waits i n x = let st = taken_stands i n x in gone_waits same always laws s h n st.made (owed i n x).gone st

  -- a node that a call has taken out is locked
  pub is_locked : (i n : ℕ) → IsTakenBy s i n → (nodes s.forest n).locked ≡ true
  is_locked i n x = locks_held i n (x.0, x.1, taken_locked id_number x.0.phase n x.2)

  -- what is in the tree is neither marked nor handed over
  linked : (n : ℕ) → InTree (nodes s.forest) n → (notes n).status ≡ Linked
  linked n x = laws.leads notes (nodes s.forest) ledger.1.tree x.0 0 n ledger.1.tree.root x.1

  -- a node in the tree isn't handed over
  pub unretired : (n : ℕ) → InTree (nodes s.forest) n → (nodes s.forest n).retired ≡ false
  unretired n x = (ledger.1.words.each n).unretired (linked n x)

  waits_by : (n : ℕ) → Stands (nodes s.forest n) → ((i : ℕ) → IsHeldBy s i n → ⊥) → (InTree (nodes s.forest) n → ⊥) → IsWaiting s n
  waits_by n st held tree = let x : IsSomewhere s n = node_somewhere same always laws s h n st.made in elim x.one [
    | inl (inl y) ↦ absurd (held y.worker y.held)
    | inl (inr y) ↦ absurd (tree y.path)
    | inr (inl y) ↦ y
    | inr (inr y) ↦ absurd (false≢true (sym st.kept ∙ y.gone))
  ]

  -- each node that was marked obsolete and stands has left the tree
  pub marked_left : MarkedLeft s
  marked_left n st e = waits_by n st (λ i x. false≢true (sym (blank i n x).live ∙ e)) (λ x. false≢true (sym ((ledger.1.words.each n).live (linked n x)) ∙ e))
