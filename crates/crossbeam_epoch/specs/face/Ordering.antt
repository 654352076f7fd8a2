-- The ordering of a compare-and-set that fails.
use Rattle.std.specs.declared.sync.atomic.Ordering.{Ordering}
use Rattle.std.specs.declared.sync.atomic.Ordering.TheVariants.{Relaxed, Release, Acquire, AcqRel, SeqCst}

-- the strongest load that the ordering of the success allows
abbrev pub failure_of : Ordering → Ordering
failure_of Relaxed = Relaxed
failure_of Release = Relaxed
failure_of Acquire = Acquire
failure_of AcqRel = Acquire
failure_of SeqCst = SeqCst
