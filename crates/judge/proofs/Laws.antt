-- What crates above cite of this one's lemmas, and nothing else: the others may change.

-- an entry that the map answers lengthens a legal list
pub use Rattle.judge.proofs.Journals.{Legal-push}
-- two maps that answer alike are equal
pub use Rattle.judge.proofs.Maps.{same_pairs}
-- a key that was inserted has its value
pub use Rattle.judge.proofs.Maps.{get-insert_here}
-- an insert leaves the other keys as they were
pub use Rattle.judge.proofs.Maps.{get-insert_apart}
-- a key has what was set at it
pub use Rattle.judge.proofs.Maps.{get-set_at_here}
-- a set leaves the other keys as they were
pub use Rattle.judge.proofs.Maps.{get-set_at_apart}
-- to set what stands there changes nothing
pub use Rattle.judge.proofs.Maps.{set_at-standing}
-- a map that differs from m as the call asks, at the call's key alone, is the call's next map
pub use Rattle.judge.proofs.Maps.{answer_at}
