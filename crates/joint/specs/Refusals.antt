-- Why a call is refused, by the words of the layer that refuses it.
use Rattle.crossbeam_epoch.specs.declared.fault.Fault.{Fault}
use Rattle.crossbeam_epoch.specs.declared.fault.Fault.TheVariants as fault
use Rattle.congee.specs.declared.protocol.store.Refusal.{Refusal as Cause}
use Rattle.congee.specs.declared.protocol.store.Refusal.TheVariants as cause
use Rattle.joint.specs.declared.refusal.Refusal.{Refusal}
use Rattle.joint.specs.declared.refusal.Refusal.TheVariants.{TableFull, Memory, Budget, Cells, Exhausted, Unpinned, Busy, InCall, WorkersLeft, Unknown, Count, Foreign, GuardOut, Idle, Limits}

-- of a call on the tree
abbrev pub of_tree : Cause → Refusal
of_tree (cause.Budget charged wanted limit) = Budget charged wanted limit
of_tree cause.Cells = Cells
of_tree cause.Memory = Memory
of_tree cause.Exhausted = Exhausted
of_tree cause.Count = Count

-- of a call on the collector
abbrev pub of_fault : Fault → Refusal
of_fault fault.TableFull = TableFull
of_fault fault.CellsFull = Cells
of_fault fault.Memory = Memory
of_fault fault.Unpinned = Unpinned
of_fault fault.Busy = Busy
of_fault fault.Count = Count
of_fault fault.GuardOut = GuardOut
of_fault (fault.Registered n) = WorkersLeft n
of_fault fault.Unknown = Unknown
of_fault fault.Foreign = Foreign
of_fault fault.Idle = Idle
of_fault fault.Limits = Limits
of_fault fault.InCall = InCall
