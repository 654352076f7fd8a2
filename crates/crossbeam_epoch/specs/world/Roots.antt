-- What the calls on a root make of it.
use Rattle.std.specs.Prelude.{ℕ, slice_set, slice_index_or}
use Rattle.crossbeam_epoch.specs.declared.names.Ptr.{Ptr}
use Rattle.crossbeam_epoch.specs.world.Machine.{State, null, with_roots}

-- what a root holds; past the last one null
abbrev pub root_at : {T J : Type 0} → State T J → ℕ → Ptr
root_at s root = slice_index_or s.roots root null

-- a root holds this pointer, and nothing else changes
abbrev pub with_root : {T J : Type 0} → State T J → ℕ → Ptr → State T J
with_root s root ptr = with_roots s (slice_set s.roots root ptr)

-- the tag of a root changes, and nothing else
abbrev pub with_tag_at : {T J : Type 0} → State T J → ℕ → ℕ → State T J
with_tag_at s root tag = with_root s root (record (root_at s root) { tag = tag })
