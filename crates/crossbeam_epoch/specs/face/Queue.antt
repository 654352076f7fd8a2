-- The queue of sealed bags, and what a collection takes off it.
use Rattle.std.specs.Prelude.{◌≡◌, ℕ, ◌+◌, ◌<◌, ◌≤◌, Bool, false, nat_le, List, [], ◌∷◌, IsSomeAnd, MatchOption}
use Rattle.crossbeam_epoch.specs.declared.face.collected.Collected.{Collected}
use Rattle.crossbeam_epoch.specs.Limits.{most_bags}

-- there is a front bag, and the epoch is at least two past its seal
abbrev pub is_front_expired : {B : Type 0} → (B → ℕ) → List B → ℕ → Bool
is_front_expired seal [] seen = false
is_front_expired seal (b ∷ bs) seen = nat_le (seal b + 2) seen

-- a collection that saw this epoch called so many bags; or as many at most, and found no other front bag that was expired
abbrev pub IsTaken : ℕ → ℕ → Collected → Type 0
IsTaken seen bags c = MatchOption c.rest (c.bags ≡ bags) (λ n. (n.seen ≡ seen) × (c.bags ≤ bags))

-- a collection that saw this epoch called eight bags at most, and fewer only where it found no front bag that was expired at it
abbrev pub TakesAll : ℕ → Collected → Type 0
TakesAll seen c = (c.bags ≤ most_bags) × (c.bags < most_bags → IsSomeAnd c.rest (λ n. n.seen ≡ seen))
