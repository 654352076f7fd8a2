-- A plain list of nodes as the nodes of a tree.
use Rattle.std.specs.Prelude.{◌≡◌, ℕ, ◌==◌, ◌<◌, ◌≤◌, true, false, List, length, Option, None, Some, slice_get}
use Rattle.congee.specs.Heap.{Node, Nothing, vacant}
use Rattle.congee.specs.protocol.Events.{hung}
use Rattle.congee.specs.declared.protocol.store.Seen.{Seen}
use Rattle.congee.specs.declared.protocol.store.Refusal.{Refusal}
use Rattle.congee.specs.declared.protocol.store.Refusal.TheVariants as refusal
use Rattle.congee.specs.forms.Forms.{capacity_of}
use Rattle.congee.specs.protocol.Plain.{count_of, child_at, NamesStay}
use Rattle.congee.specs.declared.forms.base_node.NodeType.{NodeType}
use Rattle.congee.specs.declared.protocol.plain_node.PlainNode.{PlainNode}

-- a place past the list's end is a node that was never made
abbrev pub plain_node_of : Option PlainNode → Node ℕ
plain_node_of None = vacant false false false
plain_node_of (Some n) = record {
  prefix = n.prefix;
  children = child_at n.children.items;
  count = count_of n.children.items;
  capacity = capacity_of n.form;
  version = n.version;
  locked = n.locked;
  obsolete = n.obsolete;
  made = true;
  destroyed = n.destroyed;
  retired = n.retired;
}

-- the nodes of a list by their places
abbrev pub plain_heap : List PlainNode → ℕ → Node ℕ
plain_heap nodes i = plain_node_of (slice_get nodes i)

-- a node more is refused for its place where the list has no room, and else for its memory
abbrev pub refuses_in : List PlainNode → ℕ → Refusal → Type 0
refuses_in nodes room refusal.Cells = room < length nodes
refuses_in nodes room refusal.Memory = length nodes ≤ room
refuses_in nodes room _ = ⊥

-- a new node, with the key's first bytes as its prefix
pub record IsFresh (n : PlainNode) (form : NodeType) (prefix : List ℕ) : Type 0 where
  pub prefix_is : n.prefix ≡ prefix
  pub form_is : n.form ≡ form
  pub blank : (b : ℕ) → child_at n.children.items b ≡ Nothing
  pub empty : count_of n.children.items ≡ 0
  pub version_is : n.version ≡ 0
  pub unlocked : n.locked ≡ false
  pub live : n.obsolete ≡ false
  pub kept : n.destroyed ≡ false
  pub unretired : n.retired ≡ false

-- what a read that sees the node itself finds at the byte
pub record IsTruly (n : PlainNode) (b : ℕ) (s : Seen ℕ ℕ) : Type 0 where
  pub child_is : hung (λ c. c) s.child ≡ child_at n.children.items b
  pub count_is : s.count ≡ count_of n.children.items
  pub full_is : s.full ≡ (s.count == capacity_of n.form)

-- all but the children is as it was
pub record SameWord (n n' : PlainNode) : Type 0 where
  pub prefix_is : n'.prefix ≡ n.prefix
  pub form_is : n'.form ≡ n.form
  pub version_is : n'.version ≡ n.version
  pub locked_is : n'.locked ≡ n.locked
  pub obsolete_is : n'.obsolete ≡ n.obsolete
  pub destroyed_is : n'.destroyed ≡ n.destroyed
  pub retired_is : n'.retired ≡ n.retired

-- a node gives its children to another one, and keeps the names of nodes
pub record MovesTo (m c m' c' : PlainNode) : Type 0 where
  pub old : SameWord m m'
  pub new : SameWord c c'
  pub moved : c'.children.items ≡ m.children.items
  pub stay : NamesStay m.children.items m'.children.items
  pub long : length m'.children.items ≡ length m.children.items
