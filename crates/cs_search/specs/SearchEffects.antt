-- What a search does to the tree and to both outputs, beside what it prints. docs/PROMISES.md, "What is printed".
use Rattle.std.specs.Prelude.{ℕ, ◌≡◌, ◌+◌, Option, Result, OnOk}
use Rattle.cs_tree.specs.ReadCounts.{ReadCounts}
use Rattle.cs_tree.specs.Reads.{ReadsWithin}
use Rattle.cs_tree.specs.Sinks.{SinkModel, CountsOne, HasFlushed}
use Rattle.cs_tree.specs.Snapshot.{Snapshot}
use Rattle.cs_args.specs.declared.fault.ToolFault.{ToolFault}
use Rattle.cs_search.specs.InputReport.{max_searched}
use Rattle.cs_search.specs.Printed.{PrintsNothing, search_outputs}
use Rattle.cs_search.specs.Refusals.{has_write_failed}

-- The items stay, no path is looked up, and at most one byte more than the limit is read of each opened file.
abbrev pub SearchesTree : {T : Type 0} → (T → Option Snapshot) → (T → Option ReadCounts) → T → T → Type 0
SearchesTree snapshot counts old new =
    (snapshot new ≡ snapshot old) × ReadsWithin (max_searched + 1) (counts old) (counts new)

-- The search has not begun: nothing is printed, no call of the tree fails, and none is made with a longer path than before.
abbrev pub HasNotBegun : {T O E : Type 0} → (O → Option SinkModel) → (E → Option SinkModel) → (T → ℕ) → (T → Option ℕ) →
    O → O → E → E → T → T → Type 0
HasNotBegun out_model err_model failed longest out out' err err' tree tree' =
    PrintsNothing (search_outputs out_model err_model out out' err err')
    × (failed tree' ≡ failed tree) × (longest tree' ≡ longest tree)

-- Without an error both outputs are flushed. A failed write is counted by one of them.
abbrev pub EndsBoth : {O E A : Type 0} → (O → Option SinkModel) → (O → ℕ) → (E → Option SinkModel) → (E → ℕ) →
    O → O → E → E → Result A ToolFault → Type 0
EndsBoth out_model out_failed err_model err_failed out out' err err' answer =
    OnOk answer (HasFlushed (out_model out') × HasFlushed (err_model err'))
    × CountsOne (has_write_failed answer) (out_failed out) (out_failed out') (err_failed err) (err_failed err')
