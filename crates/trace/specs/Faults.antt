-- The numbers and places of refusals.
use Rattle.std.specs.Prelude.{ℕ}
use Rattle.trace.specs.declared.fault.ReadCause.{ReadCause}
use Rattle.trace.specs.declared.fault.ReadFault.{ReadFault}
use Rattle.trace.specs.declared.fault.ReadCause.TheVariants.{HighBit, Gap, NoCell, PastEnd, Operator}
use Rattle.trace.specs.declared.fault.WriteFault.{WriteFault}
use Rattle.trace.specs.declared.fault.WriteFault.TheVariants.{NoRoom}

-- the number of each cause
abbrev pub cause_number : ReadCause → ℕ
cause_number HighBit = 41
cause_number Gap = 42
cause_number NoCell = 43
cause_number PastEnd = 44
cause_number Operator = 45

-- the number of the refusal
abbrev pub number_of : ReadFault → ℕ
number_of f = cause_number f.cause

-- the place of the map byte
abbrev pub place_of : ReadFault → ℕ
place_of f = f.place

-- the number of the refusal to write
abbrev pub write_number_of : WriteFault → ℕ
write_number_of (NoRoom n) = 47
