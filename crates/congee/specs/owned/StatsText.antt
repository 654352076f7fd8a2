-- The text of the statistics of a tree: a line for each level, then four lines for the whole.
use Rattle.std.specs.Prelude.{ℕ, ◌+◌, ◌-◌, ◌*◌, ◌/◌, ◌%◌, ◌==◌, ◌||◌, Bool, nat_lt, if◌then◌else◌, List, [], ◌∷◌, ◌++◌, length, replicate, decimal, codes}
use Rattle.std.specs.List.{sum_by, flat_map, enumerate_from}
use Rattle.congee.specs.forms.Forms.{capacity_of, size_of}
use Rattle.congee.specs.owned.Stats.{capped_info, info_of}
use Rattle.congee.specs.declared.forms.base_node.NodeType.{NodeType}
use Rattle.congee.specs.declared.forms.base_node.NodeType.TheVariants.{N4, N16, N48, N256}
use Rattle.congee.specs.declared.owned.stats.NodeInfo.{NodeInfo}
use Rattle.congee.specs.declared.owned.stats.LevelStats.{LevelStats}
use Rattle.congee.specs.declared.owned.stats.NodeStats.{NodeStats}

-- the end of a line
abbrev pub newline : List ℕ
newline = 10 ∷ []

-- a text that stands right in so many places
unfoldable pub right_in : ℕ → List ℕ → List ℕ
right_in places text = replicate (places - length text) 32 ++ text

-- a quotient in hundredths, cut off; 0 over 0
abbrev pub hundredths : ℕ → ℕ → ℕ
hundredths n d = if d == 0 then 0 else n * 100 / d

-- a quotient with two digits behind the point, cut off; 0.00 over 0
unfoldable pub quotient_text : ℕ → ℕ → List ℕ
quotient_text n d = let h = hundredths n d in decimal (h / 100) ++ codes "." ++ decimal (h / 10 % 10) ++ decimal (h % 10)

-- whether a quotient is below one half; over 0 it counts as below
abbrev pub is_below_half : ℕ → ℕ → Bool
is_below_half n d = d == 0 || nat_lt (2 * n) d

-- a load, with a remark where it is below one half
unfoldable pub load_text : ℕ → ℕ → List ℕ
load_text n d = quotient_text n d ++ (if is_below_half n d then codes " (too low)" else [])

-- the nodes of a form on a level, and their load: how much of their places their children take
unfoldable pub form_text : NodeType → NodeInfo → List ℕ
form_text form info = right_in 8 (decimal info.node_count) ++ codes ", "
    ++ right_in 8 (quotient_text info.value_count (info.node_count * capacity_of form))

-- the nodes of a level
unfoldable pub level_text : LevelStats → List ℕ
level_text level = codes "|| N4: " ++ form_text N4 level.n4
    ++ codes " || N16: " ++ form_text N16 level.n16
    ++ codes " || N48: " ++ form_text N48 level.n48
    ++ codes " || N256: " ++ form_text N256 level.n256 ++ codes " ||"

-- the line of a level, with its number; the root's is 0
unfoldable pub level_line : ℕ × LevelStats → List ℕ
level_line (number, level) = codes "Level: " ++ decimal number ++ codes " --- " ++ level_text level ++ newline

-- two counts added
abbrev pub added : NodeInfo → NodeInfo → NodeInfo
added info more = record { node_count = info.node_count + more.node_count; value_count = info.value_count + more.value_count }

-- the nodes of a form on all levels, and their children; a sum past the greatest of 64 bits stays there
abbrev pub total_of : NodeType → List LevelStats → NodeInfo
total_of form levels = capped_info (record {
  node_count = sum_by (λ level. (info_of form level).node_count) levels;
  value_count = sum_by (λ level. (info_of form level).value_count) levels;
})

-- the levels taken together
abbrev pub total : List LevelStats → LevelStats
total levels = record { n4 = total_of N4 levels; n16 = total_of N16 levels; n48 = total_of N48 levels; n256 = total_of N256 levels }

-- the nodes of all forms
abbrev pub nodes_in : LevelStats → ℕ
nodes_in all = all.n4.node_count + all.n16.node_count + all.n48.node_count + all.n256.node_count

-- the children of the nodes of all forms: values or nodes below
abbrev pub entries_in : LevelStats → ℕ
entries_in all = all.n4.value_count + all.n16.value_count + all.n48.value_count + all.n256.value_count

-- what the nodes of all forms are charged, in bytes
abbrev pub bytes_in : LevelStats → ℕ
bytes_in all = size_of N4 * all.n4.node_count + size_of N16 * all.n16.node_count
    + size_of N48 * all.n48.node_count + size_of N256 * all.n256.node_count

-- the children, each by the places of its node's form, in parts of 768
abbrev pub filled_in : LevelStats → ℕ
filled_in all = 192 * all.n4.value_count + 48 * all.n16.value_count + 16 * all.n48.value_count + 3 * all.n256.value_count

-- how many nodes and children there are in all
unfoldable pub count_line : LevelStats → List ℕ
count_line all = codes "Overall node count: " ++ decimal (nodes_in all) ++ codes ", entry count: " ++ decimal (entries_in all) ++ newline

-- how much of all places is taken
unfoldable pub load_line : LevelStats → List ℕ
load_line all = codes "Load factor: " ++ load_text (filled_in all) (768 * nodes_in all) ++ newline

-- the memory in units of 1,048,576 bytes, cut off
unfoldable pub memory_line : LevelStats → List ℕ
memory_line all = codes "Active memory usage: " ++ decimal (bytes_in all / 1048576) ++ codes " Mb" ++ newline

-- how many pairs there are
unfoldable pub pairs_line : ℕ → List ℕ
pairs_line pairs = codes "KV count: " ++ decimal pairs ++ newline

-- the lines for the whole, from all levels taken together and the number of pairs
unfoldable pub whole_text : LevelStats → ℕ → List ℕ
whole_text all pairs = count_line all ++ load_line all ++ memory_line all ++ pairs_line pairs

-- the whole text
abbrev pub stats_text : NodeStats → List ℕ
stats_text stats = flat_map level_line (enumerate_from 0 stats.levels.items) ++ whole_text (total stats.levels.items) stats.kv_pairs
