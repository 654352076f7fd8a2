-- How many bytes the nodes of an owned tree take at most, by its pairs.
use Rattle.std.specs.Prelude.{ℕ, ◌+◌, ◌*◌}

-- the root has 2104; a least node 64, and for each pair there are two at most, a leaf and one above it; a greater node takes no more
-- than 64 for each child that its form asks for, and 56 for each of these that it lacks
abbrev pub most_bytes : ℕ → ℕ → ℕ
most_bytes pairs lacking = 2104 + 128 * pairs + 56 * lacking
