-- What a failed read of a file answers. The faults are ours.
use Rattle.tool_files.specs.declared.files.FileFault.{FileFault}
use Rattle.tool_files.specs.declared.files.FileFault.TheVariants as file
use Rattle.tool_files.specs.declared.input.ReadFault.{ReadFault}
use Rattle.tool_files.specs.declared.input.ReadFault.TheVariants.{Failed, Memory}

abbrev pub file_fault_of : ReadFault → FileFault
file_fault_of Failed = file.Failed
file_fault_of Memory = file.Memory
