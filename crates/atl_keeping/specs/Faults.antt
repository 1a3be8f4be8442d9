-- Which fault a write returns for an error of the database.
use Rattle.std.specs.Prelude.{if◌then◌else◌}
use Rattle.sqlite.specs.declared.error.Error.{Error}
use Rattle.atl_sql.specs.Errors.{is_memory}
use Rattle.atl_keeping.specs.declared.fault.WriteFault.{WriteFault}
use Rattle.atl_keeping.specs.declared.fault.WriteFault.TheVariants as write
use Rattle.atl_keeping.specs.declared.fault.CreateFault.{CreateFault}
use Rattle.atl_keeping.specs.declared.fault.CreateFault.TheVariants as create

-- the fault of a write: Memory if the database ran out of memory, else Store
abbrev pub write_fault : Error → WriteFault
write_fault e = if is_memory e then write.Memory else write.Store

-- the fault of `create` for an error of the database: Memory if it ran out of memory, else Store
abbrev pub create_fault : Error → CreateFault
create_fault e = if is_memory e then create.Memory else create.Store
