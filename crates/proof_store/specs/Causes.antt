-- Where a fault comes from.
use Rattle.outside.specs.declared.fault.OutFault.{OutFault}
use Rattle.outside.specs.declared.fault.OutFault.TheVariants as out
use Rattle.proof_store.specs.declared.fault.StoreFault.{StoreFault}
use Rattle.proof_store.specs.declared.fault.StoreFault.TheVariants as store

-- a call of the keeper that failed is a fault of the keeper
abbrev pub store_fault_of : OutFault → StoreFault
store_fault_of out.Failed = store.Keeper
store_fault_of out.Memory = store.Memory
