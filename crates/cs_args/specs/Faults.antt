-- Errors of the layers below as errors of the tools. Out of memory always has a variant of its own.
use Rattle.cs_syntax.specs.declared.fault.PatternFault.{PatternFault}
use Rattle.cs_syntax.specs.declared.fault.PatternFault.TheVariants as pattern
use Rattle.cs_syntax.specs.declared.fault.PatternError.{PatternError}
use Rattle.cs_tree.specs.declared.fault.IoFault.{IoFault}
use Rattle.cs_tree.specs.declared.fault.IoFault.TheVariants as io
use Rattle.cs_index.specs.declared.fault.IndexFault.{IndexFault}
use Rattle.cs_index.specs.declared.fault.IndexFault.TheVariants as index
use Rattle.cs_args.specs.declared.fault.ToolFault.{ToolFault}
use Rattle.cs_args.specs.declared.fault.ToolFault.TheVariants.{Pattern, BadIndex, Write, Memory}
use Rattle.cs_args.specs.declared.fault.CindexFault.{CindexFault}
use Rattle.cs_args.specs.declared.fault.CindexFault.TheVariants as cindex

-- ---- of csearch and cgrep

abbrev pub tool_write_fault : IoFault → ToolFault
tool_write_fault io.Failed = Write
tool_write_fault io.Memory = Memory

abbrev pub pattern_fault_at : PatternFault → PatternError → ToolFault
pattern_fault_at pattern.Memory error = Memory
pattern_fault_at fault error = Pattern error

-- the error of a pattern; an allocation failure becomes `Memory`
abbrev pub pattern_fault : PatternError → ToolFault
pattern_fault error = pattern_fault_at error.fault error

abbrev pub index_fault : IndexFault → ToolFault
index_fault index.Memory = Memory
index_fault fault = BadIndex fault

-- ---- of cindex

abbrev pub write_refusal : IoFault → CindexFault
write_refusal io.Failed = cindex.Write
write_refusal io.Memory = cindex.Memory

abbrev pub index_refusal : IndexFault → CindexFault
index_refusal index.Memory = cindex.Memory
index_refusal fault = cindex.BadIndex fault
