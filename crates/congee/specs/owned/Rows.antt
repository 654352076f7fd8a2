-- The entries of an inner node with a prefix.
use Rattle.std.specs.Prelude.{◌≡◌, ℕ, ◌<◌, ◌*◌, List, ◌∷◌}
use Rattle.std.specs.Ordering.{nat_cmp}
use Rattle.std.specs.FinMap as map
use Rattle.congee.specs.forms.Bytes.{IsFirst, Lists}
use Rattle.congee.specs.forms.Forms.{children_of, prefix_of}
use Rattle.congee.specs.forms.Mapped.{mapped}
use Rattle.congee.specs.owned.Arena.{Nodes}
use Rattle.congee.specs.owned.Entries.{child_by}
use Rattle.congee.specs.owned.Sights.{SeesInner}
use Rattle.congee.specs.declared.forms.base_node.Node.{Node}
use Rattle.congee.specs.declared.owned.entries.Entry.{Entry}
use Rattle.congee.specs.declared.owned.inner.Row.{Row}
use Rattle.congee.specs.declared.owned.inner.Row.TheVariants.{Few, Wide}
use Rattle.congee.specs.declared.owned.inline_leaf.Lone.{Lone}
use Rattle.congee.specs.declared.owned.sight.Stem.{Stem}

module _ {P : Type 0} where
  -- the entries are the node's children, as its places keep them
  abbrev pub AreEntries : Node ℕ (Lone P) → map.FinMap nat_cmp (Entry P) → Type 0
  AreEntries node entries = children_of node ≡ mapped (child_by (prefix_of node)) entries

  -- the entries of a node from a byte on
  abbrev pub IsRow : Node ℕ (Lone P) → ℕ → Row P → Type 0
  IsRow node from (Few list) = (entries : map.FinMap nat_cmp (Entry P)) × AreEntries node entries × Lists entries from list.now
  IsRow node from (Wide form) = AreEntries node form.now

  -- the inner node in a slot has a prefix that begins with this byte, and these entries
  pub record SeesEntries (s : Nodes P) (stem : Stem) (entries : map.FinMap nat_cmp (Entry P)) : Type 0 where
    pub node : Node ℕ (Lone P)
    pub sees : SeesInner s (257 * stem.slot) stem.slot node
    pub rest : List ℕ
    pub prefix : prefix_of node ≡ stem.first ∷ rest
    pub children : AreEntries node entries

  -- it has these from a byte on
  pub record SeesList (s : Nodes P) (stem : Stem) (list : List (Entry P)) : Type 0 where
    pub entries : map.FinMap nat_cmp (Entry P)
    pub sees : SeesEntries s stem entries
    pub from : ℕ
    pub lists : Lists entries from list

  -- a row tells its entries: those from a byte on as a list, or those of a wide form whole
  abbrev pub SeesRow : Nodes P → Stem → ℕ → Row P → Type 0
  SeesRow s stem from (Few list) = (seen : SeesList s stem list.now) × (seen.from ≡ from)
  SeesRow s stem from (Wide form) = SeesEntries s stem form.now

  -- an entry is the first of such a node from a byte on
  pub record SeesEntry (s : Nodes P) (stem : Stem) (entry : Entry P) : Type 0 where
    pub entries : map.FinMap nat_cmp (Entry P)
    pub sees : SeesEntries s stem entries
    pub from : ℕ
    pub byte : ℕ
    pub low : byte < 256
    pub first : IsFirst entries from byte entry
