-- How many nodes and children a tree has by level and form.
use Rattle.std.specs.Prelude.{◌≡◌, ℕ, zero, suc, ◌+◌, ◌-◌, ◌<◌, ◌^◌, ◌&&◌, Bool, true, false, cond, nat_eq, List, [], ◌∷◌, min, max, vec_len, slice_index_or, refl}
use Rattle.std.specs.Coded.{Coded, code_by, coded×, coded_ℕ}
use Rattle.congee.specs.declared.forms.base_node.NodeType.{NodeType}
use Rattle.congee.specs.declared.forms.base_node.NodeType.TheVariants.{N4, N16, N48, N256}
use Rattle.congee.specs.declared.owned.stats.NodeInfo.{NodeInfo}
use Rattle.congee.specs.declared.owned.stats.LevelStats.{LevelStats}
use Rattle.congee.specs.declared.owned.stats.NodeStats.{NodeStats}
use Rattle.congee.specs.declared.forms.prefix.TheConstants.{MAX_PREFIX_LEN}

-- no node of a form
abbrev pub no_nodes : NodeInfo
no_nodes = record { node_count = 0; value_count = 0 }

-- one more node, with its children
abbrev pub one_more : ℕ → NodeInfo → NodeInfo
one_more children info = record { node_count = info.node_count + 1; value_count = info.value_count + children }

-- a number past the greatest of 64 bits stays there
abbrev pub capped : ℕ → ℕ
capped n = min n (2 ^ 64 - 1)

-- so do both numbers of a form
abbrev pub capped_info : NodeInfo → NodeInfo
capped_info info = record { node_count = capped info.node_count; value_count = capped info.value_count }

-- a level without nodes
abbrev pub empty_level : LevelStats
empty_level = record { n4 = no_nodes; n16 = no_nodes; n48 = no_nodes; n256 = no_nodes }

-- what a level has of a form
abbrev pub info_of : NodeType → LevelStats → NodeInfo
info_of N4 stats = stats.n4
info_of N16 stats = stats.n16
info_of N48 stats = stats.n48
info_of N256 stats = stats.n256

-- what a tree has of a form on a level
abbrev pub info_at : NodeStats → ℕ → NodeType → NodeInfo
info_at stats level form = info_of form (slice_index_or stats.levels.items level empty_level)

-- one more node of a level and a form, with its children
pub record Counts (old new : NodeStats) (level : ℕ) (form : NodeType) (children : ℕ) : Type 0 where
  pub here : info_at new level form ≡ capped_info (one_more children (info_at old level form))
  pub other_forms : (f : NodeType) → (f ≡ form → ⊥) → info_at new level f ≡ info_at old level f
  pub other_levels : (l : ℕ) (f : NodeType) → (l ≡ level → ⊥) → info_at new l f ≡ info_at old l f
  pub levels : vec_len new.levels ≡ max (vec_len old.levels) (level + 1)
  pub pairs : new.kv_pairs ≡ old.kv_pairs

-- a node: its level, its form, how many bytes its prefix has, which are seven where it is a leaf, and how many children
-- it has
pub record Shape : Type 0 where
  pub level : ℕ
  pub form : NodeType
  pub prefix : ℕ
  pub children : ℕ

-- a root without children
abbrev pub root_alone : List Shape
root_alone = record { level = 0; form = N256; prefix = 0; children = 0 } ∷ []

-- a form's number, the least one's 0
abbrev number_of : NodeType → ℕ
number_of N4 = 0
number_of N16 = 1
number_of N48 = 2
number_of N256 = 3

-- the form of a number
abbrev numbered : ℕ → NodeType
numbered zero = N4
numbered (suc zero) = N16
numbered (suc (suc zero)) = N48
numbered (suc (suc (suc n))) = N256

-- a form is told by its number
pub numbered_back : (form : NodeType) → numbered (number_of form) ≡ form
numbered_back N4 = refl
numbered_back N16 = refl
numbered_back N48 = refl
numbered_back N256 = refl

-- the code of a shape
abbrev pub shape_code : Coded Shape
shape_code =
    code_by
    (ℕ × (ℕ × (ℕ × ℕ)))
    (coded× coded_ℕ (coded× coded_ℕ (coded× coded_ℕ coded_ℕ)))
    (λ s. (s.level, (number_of s.form, (s.prefix, s.children))))
    (λ p. record { level = p.0; form = numbered p.1.0; prefix = p.1.1.0; children = p.1.1.1 })
    (λ s i. record { level = s.level; form = numbered_back s.form i; prefix = s.prefix; children = s.children })

-- whether two forms are the same
abbrev pub is_form : NodeType → NodeType → Bool
is_form N4 N4 = true
is_form N16 N16 = true
is_form N48 N48 = true
is_form N256 N256 = true
is_form _ _ = false

-- a leaf has a value
abbrev pub HasValue : Shape → Type 0
HasValue node = node.prefix ≡ MAX_PREFIX_LEN → 0 < node.children

-- whether a node has this level and form
abbrev pub is_at : Shape → ℕ → NodeType → Bool
is_at node level form = nat_eq node.level level && is_form node.form form

-- how many of the nodes have this level and form, and how many children these have
abbrev pub tally : List Shape → ℕ → NodeType → NodeInfo
tally [] level form = no_nodes
tally (node ∷ nodes) level form = cond (is_at node level form) (one_more node.children (tally nodes level form)) (tally nodes level form)

-- how many levels the nodes take
abbrev pub height : List Shape → ℕ
height [] = 0
height (node ∷ nodes) = max (node.level + 1) (height nodes)

-- the statistics are those of the nodes, with so many pairs
pub record IsTally (stats : NodeStats) (nodes : List Shape) (pairs : ℕ) : Type 0 where
  pub infos : (level : ℕ) (form : NodeType) → info_at stats level form ≡ capped_info (tally nodes level form)
  pub levels : vec_len stats.levels ≡ height nodes
  pub kv_pairs : stats.kv_pairs ≡ capped pairs
