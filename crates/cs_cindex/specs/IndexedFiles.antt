-- What indexing some files answers and leaves.
use Rattle.std.specs.Prelude.{◌≡◌, ◌≤◌, ◌^◌, ◌⊎◌, ◌++◌, ℕ, Bool, List, Some, IfOk, IfErr, OnOk, MatchResult, Result, Err, option_to_list}
use Rattle.cs_tree.specs.FailureCount.{count_after}
use Rattle.cs_index.specs.Built.{Built, IsBuilt}
use Rattle.cs_index.specs.LeastLength.{least_length}
use Rattle.cs_index.specs.Encoding.{Entry, encoding_of}
use Rattle.cs_args.specs.declared.fault.CindexFault.{CindexFault}
use Rattle.cs_args.specs.declared.fault.CindexFault.TheVariants.{TooLarge, Memory}
use Rattle.cs_tree.specs.declared.output.Sent.{Sent}
use Rattle.cs_history.specs.Premises.{IsShort}
use Rattle.cs_history.specs.Replies.{IsLong}
use Rattle.cs_cindex.specs.Effects.{Effects}
use Rattle.cs_cindex.specs.Files.{AreTextsIn, AreTooLargeIn, HaveNamesOf, IsIndexingFault, PrintsFiles, PrintsFilesPrefix}
use Rattle.cs_cindex.specs.Output.{Output, is_failed_write}
use Rattle.cs_cindex.specs.Verdicts.{PrintsAll, Verdict, noted_entries, noted_line}

-- A text file was added, or the diagnostic of another one was printed.
abbrev pub NotesFile : {A : Type 0} → Bool → List ℕ → Verdict → List Entry → List Entry → Output → Output → Result A CindexFault → Type 0
NotesFile log_skip name verdict old new err later result =
    OnOk result (new ≡ old ++ noted_entries name verdict)
    × PrintsAll (option_to_list (noted_line log_skip name verdict)) err.model later.model result
    × (result ≡ Err TooLarge → 2 ^ 32 ≤ least_length (old ++ noted_entries name verdict))
    × (later.failed ≡ count_after is_failed_write result err.failed)
    × IfErr result IsIndexingFault

-- Why files are not indexed. A prefix of their diagnostics was printed.
abbrev pub IsFileFailure : Bool → List (List ℕ) → Effects → CindexFault → Type 0
IsFileFailure log_skip names to fault =
    IsIndexingFault fault
    × (fault ≡ TooLarge → AreTooLargeIn to.tree.snapshot names)
    × PrintsFilesPrefix log_skip to.tree.snapshot names to.tree.failed to.tree.failed_then to.err.model to.later.model

-- The entries are those of the files at these names, whose diagnostics were printed.
abbrev pub IndexesFiles : {A : Type 0} → Bool → List (List ℕ) → List Entry → Effects → Result A CindexFault → Type 0
IndexesFiles log_skip names entries to result =
    MatchResult result
    (λ _. AreTextsIn to.tree.snapshot names entries × HaveNamesOf names entries
    × PrintsFiles log_skip to.tree.snapshot names to.tree.failed to.tree.failed_then to.err.model to.later.model)
    (IsFileFailure log_skip names to)
    × (to.later.failed ≡ count_after is_failed_write result to.err.failed)

-- The index has the paths and the entries of the builder, and fewer than 2^32 bytes. After `TooLarge` it would have more.
abbrev pub FinishesIndex : Built → Result Sent CindexFault → Type 0
FinishesIndex built result =
    IsBuilt built
    × IfOk result (λ index. (index.bytes ≡ encoding_of built.paths built.entries) × IsShort (Some index.bytes))
    × (result ≡ Err TooLarge → IsLong (Some (encoding_of built.paths built.entries)))
    × IfErr result (λ fault. (fault ≡ TooLarge) ⊎ (fault ≡ Memory))
