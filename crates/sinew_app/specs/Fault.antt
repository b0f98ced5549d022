-- What the faults of the crates below are to a run.
use Rattle.sinew_io.specs.declared.take_fault.TakeFault as take
use Rattle.script_reader.specs.declared.script_read_fault.ScriptReadFault as reading
use Rattle.sinew_app.specs.declared.input_fault.InputFault as input

-- The fault of a source that was not read.
abbrev pub fault_of_taking : take.TakeFault → input.InputFault
fault_of_taking take.TheVariants.Failed = input.TheVariants.Failed
fault_of_taking take.TheVariants.Memory = input.TheVariants.Memory

-- The fault of bytes that were not read as a script.
abbrev pub fault_of_reading : reading.ScriptReadFault → input.InputFault
fault_of_reading (reading.TheVariants.Bad fault) = input.TheVariants.Bad fault
fault_of_reading reading.TheVariants.Memory = input.TheVariants.Memory
