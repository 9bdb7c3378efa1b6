-- What a walk and its diagnostics do to the tree and to standard error.
use Rattle.std.specs.Prelude.{◌≡◌, ℕ, Bool, List, Option, IfErr, Result}
use Rattle.cs_args.specs.declared.fault.CindexFault.{CindexFault}
use Rattle.cs_tree.specs.FailureCount.{count_after}
use Rattle.cs_tree.specs.PathSet.{Paths}
use Rattle.cs_tree.specs.Sinks.{SinkModel}
use Rattle.cs_tree.specs.Snapshot.{Snapshot}
use Rattle.cs_tree.specs.WritesBytes.{WritesBytes}
use Rattle.cs_cindex.specs.Diagnostics.{PrintsLines, PrintsLinesPrefix}
use Rattle.cs_cindex.specs.Output.{JobTree, Output, is_failed_write, job_tree, output}
use Rattle.cs_cindex.specs.Refusals.{IsOutputFault}

-- the tree, and standard error before and after
pub record Effects : Type 0 where
  pub tree : JobTree
  pub err : Output
  pub later : Output

-- of a tree and a sink, both before and after
abbrev pub effects : {T E : Type 0} → (T → Option Snapshot) → (T → ℕ) → (E → Option SinkModel) → (E → ℕ) → T → T → E → E → Effects
effects snapshot failed model err_failed tree then err later = record {
  tree = job_tree snapshot failed tree then;
  err = output model err_failed err;
  later = output model err_failed later;
}

-- exactly the diagnostics of a walk from these paths were printed
abbrev pub PrintsWalk : Bool → Paths → Effects → Type 0
PrintsWalk log_skip paths to =
    PrintsLines log_skip to.tree.snapshot paths to.tree.failed to.tree.failed_then to.err.model to.later.model

-- a prefix of them
abbrev pub PrintsWalkPrefix : Bool → Paths → Effects → Type 0
PrintsWalkPrefix log_skip paths to =
    PrintsLinesPrefix log_skip to.tree.snapshot paths to.tree.failed to.tree.failed_then to.err.model to.later.model

-- The bytes were written, or a prefix of them if the call failed. A failed write is counted, and is the only error besides
-- out of memory.
abbrev pub WritesOut : {S A : Type 0} → (S → Option SinkModel) → (S → ℕ) → S → S → List ℕ → Result A CindexFault → Type 0
WritesOut model failed old new bytes result =
    WritesBytes bytes (model old) (model new) result
    × (failed new ≡ count_after is_failed_write result (failed old))
    × IfErr result IsOutputFault
