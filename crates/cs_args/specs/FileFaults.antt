-- Why a file or a path is skipped, and the line for it.
-- docs/PROMISES.md, "Arguments and messages" and "What is printed".
use Rattle.std.specs.Prelude.{ℕ, Bool, true, false, List, ◌++◌, codes}
use Rattle.cs_tree.specs.declared.fault.TreeFault.TheVariants as tree
use Rattle.cs_tree.specs.declared.fault.TreeFault.{TreeFault}
use Rattle.cs_args.specs.declared.jobs.Tool.{Tool}
use Rattle.cs_args.specs.declared.jobs.Tool.TheVariants.{Cindex, Csearch, Cgrep}
use Rattle.cs_args.specs.declared.fault.FileFault.{FileFault}
use Rattle.cs_args.specs.declared.fault.FileFault.TheVariants.{Missing, Denied, Output, Failed, Unnamed, PathTooLong, InputTooLong}

abbrev pub tool_name : Tool → List ℕ
tool_name Cindex = codes "cindex"
tool_name Csearch = codes "csearch"
tool_name Cgrep = codes "cgrep"

-- why a file or a path is skipped
abbrev pub file_fault_text : FileFault → List ℕ
file_fault_text Missing = codes "no such file"
file_fault_text Denied = codes "permission denied"
file_fault_text Output = codes "is the output"
file_fault_text Failed = codes "cannot be read"
file_fault_text Unnamed = codes "name is not text"
file_fault_text PathTooLong = codes "path too long"
file_fault_text InputTooLong = codes "input too long"

-- a call on the tree failed; a name that is not UTF-8, a long path and a long input are not failures
abbrev pub is_file_failure : FileFault → Bool
is_file_failure Unnamed = false
is_file_failure PathTooLong = false
is_file_failure InputTooLong = false
is_file_failure fault = true

abbrev pub fault_line_of : Tool → List ℕ → FileFault → List ℕ
fault_line_of tool name fault =
    tool_name tool ++ codes ": " ++ name ++ codes ": " ++ file_fault_text fault ++ codes "\n"

-- the error of a file for an error of the tree; out of memory is not the error of a file
abbrev pub file_fault_of : TreeFault → FileFault
file_fault_of tree.Missing = Missing
file_fault_of tree.Denied = Denied
file_fault_of tree.Output = Output
file_fault_of fault = Failed
