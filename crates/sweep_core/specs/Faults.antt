-- Why a search ends without having found all.
use Rattle.sweep_core.specs.declared.fault.StoreFault.{StoreFault}
use Rattle.sweep_core.specs.declared.fault.StoreFault.TheVariants as store
use Rattle.sweep_core.specs.declared.fault.SweepFault.{SweepFault}
use Rattle.sweep_core.specs.declared.fault.SweepFault.TheVariants as sweep

-- the same cause
abbrev pub fault_of : StoreFault → SweepFault
fault_of (store.OutOfMemory want) = sweep.OutOfMemory want
fault_of store.TooWide = sweep.TooWide
