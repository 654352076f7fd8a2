-- The entries of an inner node's places as its children.
use Rattle.std.proofs.Common.{◌≡◌, ℕ, false, List, [], ◌∷◌, length, get_or, refl, sym, ap, ◌∙◌, arith}
use Rattle.std.specs.Prelude.{None, Some, IsSome}
use Rattle.std.specs.FinMap as map
use Rattle.congee.specs.forms.Bytes.{IsFirst}
use Rattle.congee.specs.forms.Forms.{Becomes, children_of, form_of, is_full_of, prefix_of}
use Rattle.congee.specs.forms.Mapped.{mapped}
use Rattle.congee.specs.owned.Entries.{Begins, Refills, child_by, entries_in, first_byte, form_in, full_in, leaf_by, node_by}
use Rattle.congee.specs.owned.Lones.{lone_same}
use Rattle.congee.specs.declared.forms.base_node.Node.{Node}
use Rattle.congee.specs.declared.forms.child.Child.{Child}
use Rattle.congee.specs.declared.owned.entries.Entry.{Entry}
use Rattle.congee.specs.declared.owned.entries.Entry.TheVariants.{Blank, Node as Sub, Leaf}
use Rattle.congee.specs.declared.owned.entries.Tail.{Tail}
use Rattle.congee.specs.declared.owned.inline_leaf.Lone.{Lone}
use Rattle.congee.specs.declared.owned.places.Places.{Places}
use Rattle.congee.specs.declared.owned.places.Places.TheVariants.{N4, N16, N48, N256}
use Rattle.congee.proofs.lemmas.forms.Full.{full_at}
use Rattle.congee.proofs.lemmas.forms.LaidLemmas as laid
use Rattle.congee.proofs.lemmas.forms.MappedLemmas.{mapped_empty}

-- a list of seven is its seven bytes
pub seven : (t : List ℕ) → length t ≡ 7 → get_or t 0 0 ∷ get_or t 1 0 ∷ get_or t 2 0 ∷ get_or t 3 0 ∷ get_or t 4 0 ∷ get_or t 5 0 ∷ get_or t 6 0 ∷ [] ≡ t
seven [] e = absurd (omega (arith, e))
seven (a ∷ []) e = absurd (omega (arith, e))
seven (a ∷ b ∷ []) e = absurd (omega (arith, e))
seven (a ∷ b ∷ c ∷ []) e = absurd (omega (arith, e))
seven (a ∷ b ∷ c ∷ d ∷ []) e = absurd (omega (arith, e))
seven (a ∷ b ∷ c ∷ d ∷ f ∷ []) e = absurd (omega (arith, e))
seven (a ∷ b ∷ c ∷ d ∷ f ∷ g ∷ []) e = absurd (omega (arith, e))
seven (a ∷ b ∷ c ∷ d ∷ f ∷ g ∷ h ∷ []) e = refl
seven (a ∷ b ∷ c ∷ d ∷ f ∷ g ∷ h ∷ i ∷ r) e = absurd (omega (arith, e))

-- and one of eight
pub eight : (k : List ℕ) (first : ℕ) → length k ≡ 8 → get_or k 0 0 ≡ first → first ∷ get_or k 1 0 ∷ get_or k 2 0 ∷ get_or k 3 0 ∷ get_or k 4 0 ∷ get_or k 5 0 ∷ get_or k 6 0 ∷ get_or k 7 0 ∷ [] ≡ k
eight [] first e f = absurd (omega (arith, e))
eight (x ∷ t) first e f = ap (λ r. first ∷ r) (seven t (omega (arith, e))) ∙ ap (λ y. y ∷ t) (sym f)

-- a leaf that a place keeps is the one with its key and its value
pub leaf_is : {P : Type 0} (first : ℕ) (tail : Tail) (value : P) (lone : Lone P) → first ∷ tail.bytes ≡ lone.key → value ≡ lone.value → leaf_by first tail value ≡ lone
leaf_is first tail value lone k v = lone_same (leaf_by first tail value) lone k v

-- without a prefix it is the byte at hand
pub no_first : (p : List ℕ) (b : ℕ) → length p ≡ 0 → b ≡ first_byte p b
no_first [] b e = refl
no_first (x ∷ p) b e = absurd (omega (arith, e))

-- its key begins with the byte that leads to it
pub begins_by : {P : Type 0} (x : List ℕ) (b : ℕ) (e : Entry P) → Begins (first_byte x b) (child_by x b e)
begins_by x b Blank = tt
begins_by x b (Sub slot) = tt
begins_by x b (Leaf tail value) = refl

-- a form is full of its entries
pub full_in_at : {P : Type 0} (p : Places P) → full_in p ≡ full_at (form_in p) (map.len (entries_in p))
full_in_at (N4 n) = refl
full_in_at (N16 n) = refl
full_in_at (N48 n) = refl
full_in_at (N256 n) = refl

-- an inner node by its prefix and its places
module _ {P : Type 0} (x : List ℕ) (p : Places P) (n : Node ℕ (Lone P)) (is : node_by x p ≡ n) where
  pub form_at : form_of n ≡ form_in p
  form_at = laid.form_at (child_by x) (form_in p) x (entries_in p) n is

  -- the node's prefix is the one of the places
  pub prefix_at : prefix_of n ≡ x
  prefix_at = laid.prefix_at (child_by x) (form_in p) x (entries_in p) n is

  -- the node's children are what the entries keep
  pub children_at : mapped (child_by x) (entries_in p) ≡ children_of n
  children_at = laid.children_at (child_by x) (form_in p) x (entries_in p) n is

  pub len_at : map.len (entries_in p) ≡ map.len (children_of n)
  len_at = laid.len_at (child_by x) (form_in p) x (entries_in p) n is

  -- a node by its prefix and its places is full exactly where the places are
  pub full_by : full_in p ≡ is_full_of n
  full_by = full_in_at p ∙ sym (laid.full_is (child_by x) (form_in p) x (entries_in p) n is)

  -- places without entries are a node without children
  pub bare_by : entries_in p ≡ map.empty → children_of n ≡ map.empty
  bare_by e = sym children_at ∙ (ap (mapped (child_by x)) e ∙ mapped_empty (child_by x))

  -- where there is no entry there is no child
  pub none_at : (b : ℕ) → map.get (entries_in p) b ≡ None → map.get (children_of n) b ≡ None
  none_at = laid.none_at (child_by x) (form_in p) x (entries_in p) n is

  -- an entry is the child that it keeps
  pub some_at : (b : ℕ) (e : Entry P) → map.get (entries_in p) b ≡ Some e → map.get (children_of n) b ≡ Some (child_by x b e)
  some_at = laid.some_at (child_by x) (form_in p) x (entries_in p) n is

  -- where there is no child there is no entry
  pub absent_at : (b : ℕ) → map.get (children_of n) b ≡ None → map.get (entries_in p) b ≡ None
  absent_at = laid.absent_at (child_by x) (form_in p) x (entries_in p) n is

  -- where there is a child there is an entry
  pub present_at : (b : ℕ) → IsSome (map.get (children_of n) b) → IsSome (map.get (entries_in p) b)
  present_at = laid.present_at (child_by x) (form_in p) x (entries_in p) n is

  -- the first entry from a byte on is the first child
  pub first_at : (from b : ℕ) (e : Entry P) → IsFirst (entries_in p) from b e → IsFirst (children_of n) from b (child_by x b e)
  first_at = laid.first_at (child_by x) (form_in p) x (entries_in p) n is

  -- where the node isn't full the places aren't
  pub room_at : is_full_of n ≡ false → full_in p ≡ false
  room_at e = full_by ∙ e

  -- what the places became
  module _ (p' : Places P) (n' : Node ℕ (Lone P)) (is' : node_by x p' ≡ n') where
    -- an entry that came in is the node with its child
    pub inserted : (b : ℕ) (e : Entry P) (c : Child ℕ (Lone P)) → child_by x b e ≡ c → Refills p p' (map.insert (entries_in p) b e) → Becomes n n' (map.insert (children_of n) b c)
    inserted b e c k r = laid.inserted (child_by x) (form_in p) x (entries_in p) n is (form_in p') (entries_in p') n' is' r.form b e c k r.entries

    -- an entry that went is the node without its child
    pub removed : (b : ℕ) → Refills p p' (map.remove (entries_in p) b) → Becomes n n' (map.remove (children_of n) b)
    removed b r = laid.removed (child_by x) (form_in p) x (entries_in p) n is (form_in p') (entries_in p') n' is' r.form b r.entries

    -- places whose entries went are the node without children
    pub cleared : Refills p p' map.empty → Becomes n n' map.empty
    cleared r = laid.cleared (child_by x) (form_in p) x (entries_in p) n is (form_in p') (entries_in p') n' is' r.form r.entries
