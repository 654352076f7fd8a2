-- What crates above cite of this one's lemmas, and nothing else: the others may change.

-- a log that goes on has the calls that it had
pub use Rattle.optimistic.proofs.lemmas.face.Logs.{call_later}
-- a worker that wrote has seen its call
pub use Rattle.optimistic.proofs.lemmas.face.Logs.{call_wrote}
-- a value that a key has some call gave it
pub use Rattle.optimistic.proofs.lemmas.face.Logs.{call_value}
-- no write is refused for want of room at a moment at which 520 words are left
pub use Rattle.optimistic.proofs.lemmas.face.Rooms.{full_wants}
-- where no node was locked at one moment, and none is new or has another version at a later one, no attempt between them comes to nothing
pub use Rattle.optimistic.proofs.lemmas.tree.Alone.{alone, quiet_some, quiet_answers}
-- what a range from the greatest key down leaves out is lower than all that it tells
pub use Rattle.optimistic.proofs.lemmas.face.Newest.{rest_is_lower}
