-- Which errors of the database are lack of memory or a failure, and which fault of reading each of them becomes.
use Rattle.std.specs.Prelude.{Bool, true, false, if◌then◌else◌}
use Rattle.sqlite.specs.declared.error.Error.{Error}
use Rattle.sqlite.specs.declared.error.Error.TheVariants.{SqliteFailure}
use Rattle.sqlite.specs.declared.error.ErrorCode.TheVariants as code
use Rattle.atl_sql.specs.declared.fault.ReadFault.{ReadFault}
use Rattle.atl_sql.specs.declared.fault.ReadFault.TheVariants as read

-- whether an error of the database says that it ran out of memory
abbrev pub is_memory : Error → Bool
is_memory (SqliteFailure code.OutOfMemory) = true
is_memory _ = false

-- Whether an error says that a failure stopped a statement: the disk failed, is full or is damaged, the connection is
-- shut, something is too big, or the statement takes more steps than its limit.
abbrev pub is_failure : Error → Bool
is_failure (SqliteFailure code.SystemIoFailure) = true
is_failure (SqliteFailure code.DatabaseCorrupt) = true
is_failure (SqliteFailure code.DiskFull) = true
is_failure (SqliteFailure code.Closed) = true
is_failure (SqliteFailure code.TooBig) = true
is_failure (SqliteFailure code.OperationInterrupted) = true
is_failure _ = false

-- the fault of a SELECT's error: Memory if memory ran out, Store if the database failed (`is_failure`), else Refused
abbrev pub read_fault : Error → ReadFault
read_fault e = if is_memory e then read.Memory else (if is_failure e then read.Store else read.Refused)
