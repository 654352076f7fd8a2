-- What a tag call makes of a tag.
use Rattle.std.specs.Prelude.{ℕ, bit_and, bit_or, bit_xor}
use Rattle.crossbeam_epoch.specs.declared.tag.TagCall.{TagCall}
use Rattle.crossbeam_epoch.specs.declared.tag.TagCall.TheVariants.{And, Or, Xor}

-- the tag after it, with the bits of a number
abbrev pub changed : TagCall → ℕ → ℕ → ℕ
changed And tag number = bit_and tag number
changed Or tag number = bit_or tag number
changed Xor tag number = bit_xor tag number
