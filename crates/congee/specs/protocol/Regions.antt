-- The keys below a node, as the numbers from one on.
use Rattle.std.specs.Prelude.{◌≡◌, ℕ, ◌+◌, ◌*◌, ◌-◌, ◌%◌, ◌<◌, ◌≤◌, ◌^◌, true, List, length}
use Rattle.congee.specs.Heap.{fits}
use Rattle.congee.specs.Keys.{key_bytes}
use Rattle.congee.specs.declared.keys.TheConstants.{KEY_BYTES}
use Rattle.congee.specs.declared.forms.prefix.TheConstants.{MAX_PREFIX_LEN}

-- how many keys have the same first bytes, so many
abbrev pub span : ℕ → ℕ
span depth = 2 ^ (8 * (KEY_BYTES - depth))

-- the keys that begin with the prefix, of so many bytes, are those from `base` on, so many as they are
pub record IsRegion (prefix : List ℕ) (base depth : ℕ) : Type 0 where
  pub depth_is : depth ≡ length prefix
  pub short : depth ≤ MAX_PREFIX_LEN
  pub small : base < 2 ^ 64
  pub fitted : fits prefix (key_bytes base) ≡ true
  pub even : base % span depth ≡ 0

-- the least key whose byte after the prefix is this one, or for 256 the first past the node's
abbrev pub start_at : ℕ → ℕ → ℕ → ℕ
start_at base depth byte = base + byte * span (depth + 1)
