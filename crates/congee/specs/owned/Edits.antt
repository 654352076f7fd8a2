-- What a writing call does to an arena: to its pairs, to the sizes of its nodes, and to its budget.
use Rattle.std.specs.Prelude.{◌≡◌, ℕ, ◌+◌, Bool, true, List, Option, None, Some}
use Rattle.congee.specs.Heap.{value_at}
use Rattle.congee.specs.forms.Forms.{size_of}
use Rattle.congee.specs.owned.Arena.{IsTree, heap_of}
use Rattle.congee.specs.owned.Changes.{MapChange}
use Rattle.congee.specs.owned.Charge.{Balances, KeepsLimit}
use Rattle.congee.specs.owned.Full.{NodesFilled, NoneSkipped}
use Rattle.congee.specs.owned.Going.{Going, Went}
use Rattle.congee.specs.owned.OwnedSteps.{SameNodes}
use Rattle.congee.specs.owned.Sizes.{bytes_of}
use Rattle.congee.specs.owned.Wanted.{InsertionFits, IsRefused, gain_of, size_by}
use Rattle.congee.specs.declared.allocator.OOMError.{OOMError}
use Rattle.congee.specs.declared.forms.base_node.NodeType.TheVariants.{N4}
use Rattle.congee.specs.declared.owned.arena.Arena.{Arena}

module _ {P A K : Type 0} where
  -- the nodes are a tree, whose map changes at the key alone; the charge moves as their sizes do, and the limit stays
  pub record Edits (charged limit : A → ℕ) (old new : Arena P A K) (key : List ℕ) (before after : Option P) : Type 0 where
    pub tree : IsTree new.nodes
    pub change : MapChange old.nodes new.nodes key before after
    pub balance : Balances charged old new
    pub same_limit : KeepsLimit limit old new

  -- an edit within a leaf: no node comes or goes, none has fewer children, and the budget isn't touched
  pub record Swaps (old new : Arena P A K) (key : List ℕ) (before after : Option P) : Type 0 where
    pub tree : IsTree new.nodes
    pub change : MapChange old.nodes new.nodes key before after
    pub bytes : bytes_of new.nodes ≡ bytes_of old.nodes
    pub filled : (by_form : Bool) → NodesFilled by_form old.nodes → NodesFilled by_form new.nodes
    pub allocator : new.allocator ≡ old.allocator

  -- a leaf for the key forks off with the value: it comes in, and a node over it and over what hung there, both of the least form;
  -- the budget isn't touched
  pub record ForksOff (old new : Arena P A K) (key : List ℕ) (value : P) : Type 0 where
    pub tree : IsTree new.nodes
    pub change : MapChange old.nodes new.nodes key None (Some value)
    pub bytes : bytes_of new.nodes ≡ bytes_of old.nodes + size_of N4 + size_of N4
    pub filled : (by_form : Bool) → NodesFilled by_form old.nodes → NodesFilled by_form new.nodes
    pub allocator : new.allocator ≡ old.allocator

  -- an insertion: the key has the value, and nodes of these sizes are made, which fitted; no node is where the key was present.
  -- Where the nodes had enough children they have
  pub record Adds (charged limit : A → ℕ) (old new : Arena P A K) (key : List ℕ) (before : Option P) (value : P) (wants : Option (List ℕ)) : Type 0 where
    pub edits : Edits charged limit old new key before (Some value)
    pub fits : InsertionFits wants (charged old.allocator) (limit old.allocator)
    pub bytes : bytes_of new.nodes ≡ bytes_of old.nodes + gain_of wants
    pub filled : (by_form : Bool) → NodesFilled by_form old.nodes → NodesFilled by_form new.nodes

  -- a refused insertion: the key is absent, one of these nodes wasn't made, the value comes back, and all is as before
  pub record Denies (charged limit : A → ℕ) (old new : Arena P A K) (key : List ℕ) (value : P) (wants : Option (List ℕ)) (refusal : OOMError × P) : Type 0 where
    pub absent : value_at (heap_of old.nodes) key ≡ None
    pub cause : IsRefused wants (charged old.allocator) (limit old.allocator) refusal.0
    pub back : refusal.1 ≡ value
    pub same : SameNodes old.nodes new.nodes
    pub balance : Balances charged old new
    pub same_limit : KeepsLimit limit old new

  -- an edit that makes no node but a lesser one: these nodes go. Where the nodes had enough children they have; and by their forms,
  -- if none that was wanted was skipped
  pub record Frees (charged limit : A → ℕ) (old new : Arena P A K) (key : List ℕ) (before after : Option P) (going : Option Going) : Type 0 where
    pub edits : Edits charged limit old new key before after
    pub bytes : Went (charged old.allocator) (limit old.allocator) (bytes_of old.nodes) (bytes_of new.nodes) going
    pub filled : (by_form : Bool) → NodesFilled by_form old.nodes → (by_form ≡ true → NoneSkipped (bytes_of old.nodes) (bytes_of new.nodes) going) → NodesFilled by_form new.nodes

  -- the leaf at a name goes with its only value, the key's; the budget isn't touched yet
  pub record Drops (old new : Arena P A K) (key : List ℕ) (at : ℕ) (value : P) : Type 0 where
    pub tree : IsTree new.nodes
    pub change : MapChange old.nodes new.nodes key (Some value) None
    pub bytes : bytes_of new.nodes + size_by (heap_of old.nodes at).capacity ≡ bytes_of old.nodes
    pub allocator : new.allocator ≡ old.allocator
