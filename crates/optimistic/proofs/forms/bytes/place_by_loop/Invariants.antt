use Rattle.optimistic.specs.forms.Bytes.{byte_of, HasNone}
use Rattle.optimistic.proofs.forms.bytes.place_by_loop.Given as goal

abbrev pub invariant-loop-place : goal.invariant-loop-place
invariant-loop-place l = HasNone l.place (byte_of l.word) l.byte
