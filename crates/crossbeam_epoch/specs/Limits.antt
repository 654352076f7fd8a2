-- The bounds of a collector's limits, and its fixed numbers.
use Rattle.std.specs.Prelude.{ℕ, Bool, ◌&&◌, nat_le, ◌^◌}
use Rattle.crossbeam_epoch.specs.declared.limits.Limits.{Limits}

-- each limit lies within its bounds
abbrev pub within : Limits → Bool
within l =
    nat_le 1 l.participants && nat_le l.participants 256 && nat_le 1 l.cells && nat_le l.cells 16777215
    && nat_le 3 l.epoch_max && nat_le l.epoch_max (2 ^ 62) && nat_le 1 l.expiry && nat_le l.expiry 2

-- the places of a bag
abbrev pub bag_places : ℕ
bag_places = 64

-- the most bags that one collection takes
abbrev pub most_bags : ℕ
most_bags = 8
