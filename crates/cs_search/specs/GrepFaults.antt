-- The errors of a search of one input: their sources, their conversions, and which of them count as failures.
use Rattle.std.specs.Prelude.{ℕ, ◌≡◌, Bool, true, false, Option, Some, None, Result, Ok, Err}
use Rattle.std.specs.declared.alloc.AllocError.{AllocError}
use Rattle.cs_tree.specs.Failures.{count_if}
use Rattle.cs_tree.specs.FailureCount.{count_after}
use Rattle.cs_tree.specs.declared.fault.IoFault.{IoFault}
use Rattle.cs_tree.specs.declared.fault.IoFault.TheVariants as io
use Rattle.cs_args.specs.declared.fault.ToolFault.{ToolFault}
use Rattle.cs_args.specs.declared.fault.ToolFault.TheVariants as tool
use Rattle.cs_lines.specs.declared.stream.Ended.{Ended}
use Rattle.cs_lines.specs.declared.stream.Ended.TheVariants.{Whole, Failed, TooLong as Longer}
use Rattle.cs_lines.specs.declared.stream.Streamed.{Streamed}
use Rattle.cs_search.specs.declared.status.ReadFault.{ReadFault}
use Rattle.cs_search.specs.declared.status.ReadFault.TheVariants.{Read, TooLong}
use Rattle.cs_search.specs.declared.status.GrepFault.{GrepFault}
use Rattle.cs_search.specs.declared.status.GrepFault.TheVariants.{Write, Memory}
use Rattle.cs_search.specs.declared.status.Grepped.{Grepped}

-- the error after a failed write
abbrev pub write_fault : IoFault → GrepFault
write_fault io.Failed = Write
write_fault io.Memory = Memory

-- the tool's error after a failed search of an input
abbrev pub searched_fault : GrepFault → ToolFault
searched_fault Write = tool.Write
searched_fault Memory = tool.Memory

-- why the reading of a text stopped before its end
abbrev pub fault_of : Ended → Option ReadFault
fault_of Whole = None
fault_of Failed = Some Read
fault_of Longer = Some TooLong

-- what became of a text that was searched to its end
abbrev pub streamed_as : Result Bool AllocError → Result Streamed AllocError
streamed_as (Ok marked) = Ok (record { marked = marked; ended = Whole })
streamed_as (Err refused) = Err refused

-- the answer of a search: the error of the write that failed, or what became of the text
abbrev pub answer_of : Option IoFault → Result Streamed AllocError → Result Grepped GrepFault
answer_of (Some fault) printed = Err (write_fault fault)
answer_of None (Ok streamed) = Ok (record { matched = streamed.marked; fault = fault_of streamed.ended })
answer_of None (Err refused) = Err Memory

-- the search stopped because a read failed
abbrev pub is_failed_read : Option ReadFault → Bool
is_failed_read None = false
is_failed_read (Some Read) = true
is_failed_read (Some TooLong) = false

abbrev pub has_read_failed : Result Grepped GrepFault → Bool
has_read_failed (Ok answer) = is_failed_read answer.fault
has_read_failed (Err fault) = false

-- errors that are failures of the output
abbrev pub is_grep_failure : GrepFault → Bool
is_grep_failure Write = true
is_grep_failure Memory = false

-- The input counts a failed read, and the output a failed write.
abbrev pub CountsBoth : {R O A : Type 0} → (Result A GrepFault → Bool) → (R → ℕ) → (O → ℕ) → R → R → O → O → Result A GrepFault → Type 0
CountsBoth has_read_failed read_failed write_failed input input' out out' result =
    (read_failed input' ≡ count_if (has_read_failed result) (read_failed input))
    × (write_failed out' ≡ count_after is_grep_failure result (write_failed out))

-- A search that has begun fails only for a failed write or out of memory.
abbrev pub IsSearchFault : {A : Type 0} → Result A ToolFault → Type 0
IsSearchFault (Ok answer) = Unit {0}
IsSearchFault (Err tool.Write) = Unit {0}
IsSearchFault (Err tool.Memory) = Unit {0}
IsSearchFault (Err fault) = ⊥
