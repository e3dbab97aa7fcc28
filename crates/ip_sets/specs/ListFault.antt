-- What a failed read of a list is reported as.
use Rattle.std.specs.Prelude.{◌≡◌, ◌≢◌, ◌⊎◌}
use Rattle.std.specs.IoError.{error_kind}
use Rattle.std.specs.declared.io.ErrorKind.TheVariants.{OutOfMemory}
use Rattle.std.specs.declared.io.Error.{Error}
use Rattle.ip_sets.specs.declared.list.fault.ListFault.{ListFault}
use Rattle.ip_sets.specs.declared.list.fault.ListFault.TheVariants.{Io, NoMemory}

-- Whether the fault reports the error: as a failed allocation if it is one, and otherwise as it is.
abbrev pub Reports : ListFault → Error → Type 0
Reports fault error =
    ((error_kind error ≡ OutOfMemory) × (fault ≡ NoMemory))
    ⊎ ((error_kind error ≢ OutOfMemory) × (fault ≡ Io error))
