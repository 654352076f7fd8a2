-- Why a step refuses its call.
use Rattle.std.specs.Prelude.{◌≡◌, ℕ, Bool, false}
use Rattle.congee.specs.declared.forms.base_node.NodeType.{NodeType}
use Rattle.congee.specs.declared.forms.base_node.NodeType.TheVariants.{N4}
use Rattle.congee.specs.declared.protocol.store.Refusal.{Refusal}
use Rattle.congee.specs.declared.protocol.store.Refusal.TheVariants as refusal
use Rattle.congee.specs.declared.protocol.phase.Phase.{Phase}
use Rattle.congee.specs.declared.protocol.phase.Phase.TheVariants.{Check, CheckUncopied, CheckOld, MakeLeaf, MakeGreater, MakeTop, MakeBeside, AskOld, UpgradeHere, UpgradeTop, UpgradeAbove, Unwind, Scan}
use Rattle.congee.specs.declared.protocol.machine.Outcome.{Outcome}
use Rattle.congee.specs.declared.protocol.machine.Outcome.TheVariants.{Refused}
use Rattle.congee.specs.Heap.{Node}
use Rattle.congee.specs.protocol.Steps.{form_above}

-- no version is left for a lock that was taken at this one
pub record NoneLeft (most version : ℕ) (e : Refusal) : Type 0 where
  pub exhausted : e ≡ refusal.Exhausted
  pub last : version ≡ most

-- a value couldn't be copied
pub record Uncounted (always : Bool) (e : Refusal) : Type 0 where
  pub count : e ≡ refusal.Count
  pub may_fail : always ≡ false

-- the refusal e of a step, by its phase: a node is made, where the store refuses one of the form; a lock is taken; a value
-- is copied; the lock of the node above is given back after the other one could not be taken. No other step refuses
abbrev pub Causes : {C V : Type 0} → (NodeType → Refusal → Type 0) → ℕ → Bool → Phase C V → Refusal → Type 0
Causes why most always (MakeLeaf s) e = why N4 e
Causes why most always (MakeGreater s p leaf) e = why (form_above s.count) e
Causes why most always (MakeTop p at common byte) e = why N4 e
Causes why most always (MakeBeside p at common byte top) e = why N4 e
Causes why most always (UpgradeHere one r) e = NoneLeft most one.at.version e
Causes why most always (UpgradeTop g two r) e = NoneLeft most g.stamp.version e
Causes why most always (UpgradeAbove two r) e = NoneLeft most two.above.stamp.version e
Causes why most always (Unwind n next f) e = e ≡ refusal.Exhausted
Causes why most always (Check s c) e = Uncounted always e
Causes why most always (CheckUncopied at) e = Uncounted always e
Causes why most always (CheckOld p s v) e = Uncounted always e
Causes why most always (AskOld s v) e = Uncounted always e
Causes why most always (Scan s) e = Uncounted always e
Causes why most always _ e = ⊥

-- a step that is refused has that cause
abbrev pub IsCause : {C V : Type 0} → (NodeType → Refusal → Type 0) → ℕ → Bool → Phase C V → Outcome V → Type 0
IsCause why most always s (Refused e) = Causes why most always s e
IsCause why most always s _ = Unit {0}

-- a store with these nodes, and with the limit and the rest of this one, refuses to make a node
abbrev pub RefusesAt : {S V R : Type 0} → (S → ℕ → Node V) → (S → ℕ) → (S → R) → (S → NodeType → Refusal → Type 0) → S → (ℕ → Node V) → NodeType → Refusal → Type 0
RefusesAt {S} heap limit rest refuses s h form e = (x : S) × (heap x ≡ h) × (limit x ≡ limit s) × (rest x ≡ rest s) × refuses x form e
