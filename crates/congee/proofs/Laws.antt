-- What crates above cite of this one's lemmas, and nothing else: the others may change.

-- a case for each answer of a test
pub use Rattle.congee.proofs.lemmas.Graft.{on_test}
-- two numbers are the same, or they are not
pub use Rattle.congee.proofs.lemmas.Tree.{same_or_not}
-- a key has eight bytes
pub use Rattle.congee.proofs.lemmas.Keys.{key_length}
-- different keys have different bytes
pub use Rattle.congee.proofs.lemmas.Keys.{key_apart}
-- where two tests together are true, each is
pub use Rattle.congee.proofs.lemmas.Fits.{both_true}
-- two keys with one prefix of all but one byte, and that byte, are one
pub use Rattle.congee.proofs.lemmas.Fits.{same_key}
-- the first bytes of a key are a prefix of it
pub use Rattle.congee.proofs.lemmas.owned.Joins.{front_fits}
-- a look-up in a list of pairs, by tests of numbers
pub use Rattle.congee.proofs.lemmas.forms.Entries.{find}
-- a map's look-up is one in its list
pub use Rattle.congee.proofs.lemmas.forms.BetweenLemmas.{get_find}
-- what holds for each key that a list has holds for all its pairs
pub use Rattle.congee.proofs.lemmas.forms.BetweenLemmas.{all_found}
-- a test that is known to hold is true
pub use Rattle.congee.proofs.lemmas.forms.BetweenLemmas.{true_of_T}
-- a number that compares as less is less
pub use Rattle.congee.proofs.lemmas.forms.BetweenLemmas.{less_of_cmp}
-- the entries of a map stand in ascending order of their keys
pub use Rattle.congee.proofs.lemmas.forms.BetweenLemmas.{rises_entries}
-- the map's test of two keys is the test of two numbers
pub use Rattle.congee.proofs.lemmas.forms.MapLemmas.{same_is}
-- an insert of a new key lengthens a map by one
pub use Rattle.congee.proofs.lemmas.forms.MapLemmas.{len_new}
-- an insert of a key that is there leaves the length
pub use Rattle.congee.proofs.lemmas.forms.MapLemmas.{len_again}
-- the removal of a key that is there shortens a map by one
pub use Rattle.congee.proofs.lemmas.forms.MapLemmas.{len_less}
-- a range without a key has no pairs
pub use Rattle.congee.proofs.lemmas.owned.RangeLemmas.{range_none}
-- the pairs of a range are its first one and those after it
pub use Rattle.congee.proofs.lemmas.owned.RangeLemmas.{range_first}
-- the pairs of a range that holds every key are the map's
pub use Rattle.congee.proofs.lemmas.owned.RangeLemmas.{range_all}
-- what stands at the key's byte in a linked node whose prefix the key has decides the key's value
pub use Rattle.congee.proofs.lemmas.Tree.{value_at_linked}
-- a key that lacks the prefix of the node at its byte has no value
pub use Rattle.congee.proofs.lemmas.Tree.{value_at_unfit}
-- a change at one byte of a node leaves each walk as it was that doesn't take that byte there
pub use Rattle.congee.proofs.lemmas.Tree.{walk_aside}
-- what a change at one byte of one node leaves, where nodes come into the tree or leave it: all but what hung there
pub use Rattle.congee.proofs.lemmas.Graft.{Graft}
-- after it: the children of the nodes that stood before are children
pub use Rattle.congee.proofs.lemmas.Graft.{old_down}
-- the values of the nodes that stood before are in leaves
pub use Rattle.congee.proofs.lemmas.Graft.{old_leaves}
-- the nodes that stood before have parents, if the parent stays
pub use Rattle.congee.proofs.lemmas.Graft.{old_up}
-- a tree in which every key has the value that it had stands for the same map
pub use Rattle.congee.proofs.lemmas.Keys.{standing_same}
-- a tree in which one key's value changed stands for the map that differs in that key as it does
pub use Rattle.congee.proofs.lemmas.Keys.{standing_changed}
-- of children that go over into another node, what isn't a value is kept
pub use Rattle.congee.proofs.lemmas.protocol.Leftovers.{kept_node}
-- and what isn't a node isn't
pub use Rattle.congee.proofs.lemmas.protocol.Leftovers.{kept_value}
-- what stands in a list of which one place was set: the new there, and elsewhere what stood
pub use Rattle.congee.proofs.lemmas.protocol.Owners.{get_set}
-- in the place that was set the new stands
pub use Rattle.congee.proofs.lemmas.protocol.Owners.{set_here}
-- a call owns the nodes that it has locked
pub use Rattle.congee.proofs.lemmas.protocol.Owners.{locks_owned}
-- what a call has made is as it was made
pub use Rattle.congee.proofs.lemmas.protocol.Owners.{made_known}
-- a node that a call has taken out: it left the tree, under the call's lock, and isn't handed over
pub use Rattle.congee.proofs.lemmas.protocol.Owners.{IsTaken}
-- so is each that its phase tells
pub use Rattle.congee.proofs.lemmas.protocol.Owners.{taken_known}
-- a call has what it has taken out locked
pub use Rattle.congee.proofs.lemmas.protocol.Unlinking.{taken_locked}
-- a node has a key below it
pub use Rattle.congee.proofs.lemmas.protocol.Regions.{span_pos}
-- and 256 times as many as a node one byte deeper
pub use Rattle.congee.proofs.lemmas.protocol.Regions.{span_step}
-- the keys with a node's prefix are in its range
pub use Rattle.congee.proofs.lemmas.protocol.Regions.{keys_within}
-- the keys in a node's range have its prefix
pub use Rattle.congee.proofs.lemmas.protocol.Regions.{within_keys}
-- a key from a byte's first one on has that byte or a greater one
pub use Rattle.congee.proofs.lemmas.protocol.Regions.{byte_low}
-- a key before a byte's first one has a lesser byte
pub use Rattle.congee.proofs.lemmas.protocol.Regions.{byte_high}
-- the whole of the keys below a node lies between its byte 0 and its byte 256
pub use Rattle.congee.proofs.lemmas.protocol.Regions.{start_at_end}
-- the first keys of greater bytes aren't less
pub use Rattle.congee.proofs.lemmas.protocol.Regions.{start_mono}
-- the last of the keys below a node is a key
pub use Rattle.congee.proofs.lemmas.protocol.ScanBytes.{region_top}
-- the keys below a child begin with its byte's first one or after it
pub use Rattle.congee.proofs.lemmas.protocol.ScanKept.{child_after}
-- and end before the next byte's first one
pub use Rattle.congee.proofs.lemmas.protocol.ScanKept.{child_before}
-- the keys between two bytes between which nothing hangs are lacking
pub use Rattle.congee.proofs.lemmas.protocol.ScanKept.{lacks_bytes}
-- so are the other keys of a byte under which a node hangs
pub use Rattle.congee.proofs.lemmas.protocol.ScanKept.{lacks_beside}
-- the value under a byte of a leaf is its key's
pub use Rattle.congee.proofs.lemmas.protocol.ScanKept.{has_value}
-- the scan of a call, before its begin, is of the call's range
pub use Rattle.congee.proofs.lemmas.protocol.ScanRanges.{of_range}
-- the nodes under two trees' bytes are the same if those under each child are
pub use Rattle.congee.proofs.lemmas.owned.Surveys.{bytes_same}
-- bytes at which nothing hangs add no nodes
pub use Rattle.congee.proofs.lemmas.owned.Surveys.{none_more}
-- the next byte at which something hangs adds what hangs there
pub use Rattle.congee.proofs.lemmas.owned.Surveys.{one_more}
-- statistics that counted one more node are those of the list with it
pub use Rattle.congee.proofs.lemmas.owned.Tallies.{IsTally-counted}
-- a byte that isn't passed adds its part to a sum over the bytes that are left
pub use Rattle.congee.proofs.lemmas.protocol.AloneScans.{term_past}
