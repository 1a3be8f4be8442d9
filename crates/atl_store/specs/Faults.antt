-- Which fault is returned for an error of the database, of the rows' check or of a world text; and the faults' numbers.
use Rattle.std.specs.Prelude.{ℕ, Option, Some, None, if◌then◌else◌}
use Rattle.sqlite.specs.declared.error.Error.{Error}
use Rattle.sqlite_trees.specs.declared.error.StoreError.{StoreError}
use Rattle.sqlite_trees.specs.declared.error.StoreError.TheVariants as error
use Rattle.atl_tables.specs.declared.fault.WorldFault.{WorldFault}
use Rattle.atl_tables.specs.declared.fault.WorldFault.TheVariants as world
use Rattle.atl_state.specs.declared.checking.CheckFault.{CheckFault}
use Rattle.atl_state.specs.declared.checking.CheckFault.TheVariants as check
use Rattle.atl_sql.specs.Errors.{is_memory}
use Rattle.atl_store.specs.declared.fault.StoreFault.{StoreFault}
use Rattle.atl_store.specs.declared.fault.StoreFault.TheVariants as store
use Rattle.atl_store.specs.declared.fault.LoadFault.{LoadFault}
use Rattle.atl_store.specs.declared.fault.LoadFault.TheVariants as load
use Rattle.atl_store.specs.declared.fault.UpgradeFault.{UpgradeFault}
use Rattle.atl_store.specs.declared.fault.UpgradeFault.TheVariants as upgrade

-- the `StoreFault` for an error of the database: Memory if it ran out of memory, else Store
abbrev pub store_fault : Error → StoreFault
store_fault e = if is_memory e then store.Memory else store.Store

-- the fault of `reopen_connection` for an error of opening the file: Memory for lack of memory, else Store
abbrev pub reopening_fault : StoreError → StoreFault
reopening_fault error.OutOfMemory = store.Memory
reopening_fault _ = store.Store

-- the fault of loading in either format for an error of the database: Memory if it ran out of memory, else Store
abbrev pub load_fault : Error → LoadFault
load_fault e = if is_memory e then load.Memory else load.Store

-- the fault of loading for a fault of the rows' check: Damaged with the rule that they break, or Memory
abbrev pub fault_of_check : CheckFault → LoadFault
fault_of_check (check.Damaged rule) = load.Damaged rule
fault_of_check check.Memory = load.Memory

-- the fault of `load` for a fault of loading in the second format: the same, but OldFormat for OtherFormat
abbrev pub second_format_fault : LoadFault → StoreFault
second_format_fault load.Store = store.Store
second_format_fault (load.Damaged rule) = store.Damaged rule
second_format_fault load.NotACampaign = store.NotACampaign
second_format_fault load.OtherFormat = store.OldFormat
second_format_fault load.Memory = store.Memory

-- the number of a fault of `load`, by which callers know it; Memory has none
abbrev pub fault_number : StoreFault → Option ℕ
fault_number store.Store = Some 1
fault_number (store.Damaged rule) = Some 2
fault_number store.NotACampaign = Some 3
fault_number store.OldFormat = Some 4
fault_number store.Memory = None

-- ---- the faults of an upgrade

-- the fault of `upgrade` for an error of the database: Memory if it ran out of memory, else Store
abbrev pub upgrade_fault : Error → UpgradeFault
upgrade_fault e = if is_memory e then upgrade.Memory else upgrade.Store

-- the fault of `upgrade` for a fault of loading in the first format: the same, but NotOld for OtherFormat
abbrev pub first_format_fault : LoadFault → UpgradeFault
first_format_fault load.Store = upgrade.Store
first_format_fault (load.Damaged rule) = upgrade.Damaged rule
first_format_fault load.NotACampaign = upgrade.NotACampaign
first_format_fault load.OtherFormat = upgrade.NotOld
first_format_fault load.Memory = upgrade.Memory

-- the fault of `upgrade` for a fault of the new world text: Memory if memory ran out, else World with this fault
abbrev pub new_world_fault : WorldFault → UpgradeFault
new_world_fault world.Memory = upgrade.Memory
new_world_fault fault = upgrade.World fault

-- the number of a fault of `upgrade`; Memory has none
abbrev pub upgrade_fault_number : UpgradeFault → Option ℕ
upgrade_fault_number upgrade.Store = Some 1
upgrade_fault_number (upgrade.Damaged rule) = Some 2
upgrade_fault_number upgrade.NotACampaign = Some 3
upgrade_fault_number upgrade.NotOld = Some 4
upgrade_fault_number (upgrade.World fault) = Some 5
upgrade_fault_number upgrade.Differs = Some 6
upgrade_fault_number upgrade.Memory = None
