-- What contracts see of a share of a ledger.
use Rattle.std.specs.Prelude.{◌≡◌, ℕ, ◌+◌, ◌-◌, ◌^◌, ◌<◌, Result, Ok, Err}
use Rattle.joint.specs.declared.refusal.Refusal.{Refusal}
use Rattle.joint.specs.declared.refusal.Refusal.TheVariants.{SharesLeft}

-- its parts, and the watched entries of the writing calls that took it
pub record ShareView : Type 0 where
  pub parts : ℕ
  pub count : ℕ

-- with so many entries more
abbrev pub counts_more : ShareView → ℕ → ShareView
counts_more t n = record t { count = t.count + n }

-- a share of all parts tells its count, which is the book's; one that lacks parts is refused
abbrev pub GathersBook : ℕ → ℕ → ShareView → Result ℕ Refusal → Type 0
GathersBook parts total share (Ok n) = (share.parts ≡ parts) × (share.count ≡ total) × (total < 2 ^ 64 → n ≡ share.count)
GathersBook parts total share (Err e) = (share.parts < parts) × (e ≡ SharesLeft (parts - share.parts))
