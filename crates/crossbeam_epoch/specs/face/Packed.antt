-- A pointer as one word.
use Rattle.std.specs.Prelude.{ℕ, ◌≡◌, ◌+◌, ◌*◌, ◌<◌, Option, Some, MatchOption}
use Rattle.crossbeam_epoch.specs.declared.face.link.Link.{Link}

-- the tag in the low 8 bits, the turn in the 32 above it, and the cell's number in the high 24
abbrev pub word_of : ℕ → ℕ → ℕ → ℕ
word_of cell turn tag = cell * 1099511627776 + turn * 256 + tag

-- as many cells as a collector has at most: the number that none of them has
abbrev pub no_cell : ℕ
no_cell = 16777215

-- the word says this pointer, whose tag and turn fit their bits: one that leads to a cell of the home collector, or nowhere
abbrev pub Says : Option ℕ → ℕ → Link → Type 0
Says home word l =
    (l.tag < 256)
    × MatchOption l.site (word ≡ word_of no_cell 0 l.tag) (λ s. (home ≡ Some s.collector) × (s.cell < no_cell) × (s.turn < 4294967296) × (word ≡ word_of s.cell s.turn l.tag))
