-- Which operation a fault is of.
use Rattle.ip_matches.specs.declared.fault.MatchFault.{MatchFault}
use Rattle.ip_matches.specs.declared.fault.MatchFault.TheVariants.{NoMemory, NotRead, NotWritten}

-- Whether the fault is that of a read or an allocation.
abbrev pub IsReadFault : MatchFault → Type 0
IsReadFault NoMemory = Unit {0}
IsReadFault (NotRead error) = Unit {0}
IsReadFault (NotWritten error) = ⊥

-- Whether the fault is that of a write.
abbrev pub IsWriteFault : MatchFault → Type 0
IsWriteFault NoMemory = ⊥
IsWriteFault (NotRead error) = ⊥
IsWriteFault (NotWritten error) = Unit {0}
