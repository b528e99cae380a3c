-- The fault that a caller is told where the threads of a session end before their time.
use Rattle.iscsi_threads.specs.declared.fault.LoopFault.{LoopFault}
use Rattle.iscsi_threads.specs.declared.fault.LoopFault.TheVariants.{NoMemory, NoThread, Unposted}
use Rattle.iscsi_threads.specs.declared.halt.Halt.{Halt}
use Rattle.iscsi_threads.specs.declared.halt.Halt.TheVariants.{Memory, Thread}
use Rattle.iscsi_threads.specs.declared.halt.ThreadLost.TheVariants.{Refused, Stopped}

abbrev pub fault_named : Halt → LoopFault
fault_named (Memory error) = NoMemory
fault_named (Thread Refused) = NoThread
fault_named (Thread Stopped) = Unposted
