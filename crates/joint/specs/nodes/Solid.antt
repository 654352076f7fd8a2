-- A node whose places hold children alone.
use Rattle.std.specs.Prelude.{◌≡◌, ℕ, ◌==◌, ◌<◌, ◌⊎◌, Bool, false, Option, None, Some, IsSome, Box}
use Rattle.std.specs.Ordering.{nat_cmp}
use Rattle.std.specs.FinMap as map
use Rattle.congee.specs.declared.forms.base_node.Node.{Node as Form}
use Rattle.congee.specs.declared.forms.child.Child.{Child}
use Rattle.congee.specs.declared.forms.child.Child.TheVariants.{Blank, Node as Sub, Value}
use Rattle.congee.specs.declared.protocol.store.Seen.{Seen}
use Rattle.congee.specs.protocol.Events.{hung, kept}
use Rattle.congee.specs.forms.Forms.{children_of, form_of, prefix_of, capacity_of}
use Rattle.congee.specs.Heap.{Hung, Below, Holds}
use Rattle.joint.specs.declared.id.Id.{Id}
use Rattle.joint.specs.nodes.View.{child_at, id_number}

-- no byte has a blank
abbrev pub IsSolid : {P : Type 0} → map.FinMap nat_cmp (Child Id P) → Type 0
IsSolid m = (b : ℕ) → map.get m b ≡ Some Blank → ⊥

-- the node is there, and solid
abbrev pub IsWhole : {P A : Type 0} → Option (Box (Form Id P) A) → Type 0
IsWhole None = ⊥
IsWhole (Some n) = IsSolid (children_of n.value)

-- the children once this one hangs at the byte, or nothing does
abbrev pub hang : {P : Type 0} → map.FinMap nat_cmp (Child Id P) → ℕ → Child Id P → map.FinMap nat_cmp (Child Id P)
hang m b Blank = map.remove m b
hang m b (Sub c) = map.insert m b (Sub c)
hang m b (Value v) = map.insert m b (Value v)

-- what a look at a byte finds
pub record IsLook {P : Type 0} (n : Form Id P) (b : ℕ) (s : Seen Id P) : Type 0 where
  pub child : hung id_number s.child ≡ child_at n b
  pub byte : s.byte ≡ b
  pub small : b < 256
  pub count : s.count ≡ map.len (children_of n)
  pub bytes : (k : ℕ) → IsSome (map.get (children_of n) k) → k < 256
  pub full : s.full ≡ (s.count == capacity_of (form_of n))

-- why a child can't be copied
abbrev pub IsUncopied : {P : Type 0} → Bool → Hung P → Type 0
IsUncopied {P} always x = (always ≡ false) × ((v : P) × (x ≡ Holds v))

-- the children are values alone, or nodes alone
abbrev pub AreAlike : {P : Type 0} → Form Id P → Type 0
AreAlike {P} n = ((b c : ℕ) → child_at n b ≡ Below c → ⊥) ⊎ ((b : ℕ) (v : P) → child_at n b ≡ Holds v → ⊥)

-- what is left of a node whose children went over into another: the names of nodes
pub record IsPoured {P : Type 0} (n n' : Form Id P) : Type 0 where
  pub form : form_of n' ≡ form_of n
  pub prefix : prefix_of n' ≡ prefix_of n
  pub solid : IsSolid (children_of n')
  pub left : (k : ℕ) → child_at n' k ≡ kept (child_at n k)
  pub none_left : ((k c : ℕ) → child_at n k ≡ Below c → ⊥) → map.len (children_of n') ≡ 0
  pub all_left : ((k : ℕ) (v : P) → child_at n k ≡ Holds v → ⊥) → map.len (children_of n') ≡ map.len (children_of n)
