-- The contracts inside a searcher: what its functions leave unchanged, what they print, and their errors.
use Rattle.std.specs.Prelude.{ℕ, ◌≡◌, Bool, List, Option, Some, None, option_map, Result, MatchResult}
use Rattle.cs_syntax.specs.Matching.{Tree}
use Rattle.cs_match.specs.Deciding.{Decides}
use Rattle.cs_lines.specs.Findings.{SearchesLines}
use Rattle.cs_lines.specs.declared.search.LineSearch.{LineSearch}
use Rattle.cs_tree.specs.StreamModels.{SourceModel}
use Rattle.cs_tree.specs.Snapshot.{Snapshot}
use Rattle.cs_tree.specs.Sinks.{SinkModel, Grows, CountsOne}
use Rattle.cs_tree.specs.TakesPrefix.{TakesPrefix}
use Rattle.cs_tree.specs.WritesBytes.{WritesBytes}
use Rattle.cs_search.specs.declared.searching.Searcher.{Searcher}
use Rattle.cs_args.specs.declared.jobs.Style.{Style}
use Rattle.cs_args.specs.declared.jobs.Tool.{Tool}
use Rattle.cs_search.specs.InputReport.{max_searched}
use Rattle.cs_args.specs.declared.fault.ToolFault.{ToolFault}
use Rattle.cs_search.specs.GrepFaults.{IsSearchFault}
use Rattle.cs_search.specs.Refusals.{has_write_failed}
use Rattle.cs_search.specs.Printed.{Printed, input_printed, file_printed, all_printed, PrintsFaults, SearchOutputs}

-- the test decides which lines a search for lines finds
abbrev pub DecidesLines : (List ℕ → Bool) → LineSearch → Type 0
DecidesLines has_match search = (tree : Tree) × SearchesLines search tree × Decides has_match tree

-- a searcher of this tool and style, which searches for the lines of this program
pub record IsSearcherOf (of_tool : Tool) (of_style : Style) (program : Tree) (searcher : Searcher) : Type 0 where
  pub tool : searcher.tool ≡ of_tool
  pub style : searcher.style ≡ of_style
  pub lines : SearchesLines searcher.lines program

pub record IsKept (old new : Searcher) : Type 0 where
  pub tool : new.tool ≡ old.tool
  pub style : new.style ≡ old.style
  pub lines : (tree : Tree) → SearchesLines old.lines tree → SearchesLines new.lines tree

-- this was printed, and `matched` says whether some line matched
abbrev pub IsPrinted : Printed → Option SinkModel → Option SinkModel → Option SinkModel → Option SinkModel → Bool → Type 0
IsPrinted printed out out' err err' matched =
    Grows out out' printed.output × Grows err err' printed.errors × (matched ≡ printed.matched)

-- the same, if what was searched has a model
abbrev pub Prints : Option Printed → Option SinkModel → Option SinkModel → Option SinkModel → Option SinkModel → Bool → Type 0
Prints None out out' err err' matched = Unit {0}
Prints (Some printed) out out' err err' matched = IsPrinted printed out out' err err' matched

-- Each output has a prefix of this, if what was searched has a model. Nothing was flushed.
abbrev pub PrintsPrefix : Option Printed → Option SinkModel → Option SinkModel → Option SinkModel → Option SinkModel → Type 0
PrintsPrefix None out out' err err' = Unit {0}
PrintsPrefix (Some printed) out out' err err' =
    TakesPrefix printed.output out out' × TakesPrefix printed.errors err err'

-- what a searcher prints by a test of lines: for an input, for a file, and for files in this order
module _ (searcher : Searcher) where
  abbrev pub input_shown : List ℕ → Option SourceModel → (List ℕ → Bool) → Option Printed
  input_shown name model has_match = option_map (input_printed max_searched searcher.tool searcher.style has_match name) model

  abbrev pub file_shown : List ℕ → Option Snapshot → (List ℕ → Bool) → Option Printed
  file_shown name tree has_match =
      option_map (λ (tree : Snapshot). file_printed max_searched searcher.tool searcher.style has_match tree name) tree

  abbrev pub files_shown : List (List ℕ) → Option Snapshot → (List ℕ → Bool) → Option Printed
  files_shown names tree has_match =
      option_map (λ (tree : Snapshot). all_printed (file_printed max_searched searcher.tool searcher.style has_match tree) names) tree

  -- Without an error this was printed, and the answer says whether some line matched; else a prefix of it. It is so by each
  -- test that decides which lines the searcher finds.
  abbrev pub PrintsResult : ((List ℕ → Bool) → Option Printed) → SearchOutputs → Result Bool ToolFault → Type 0
  PrintsResult printed outputs answer = MatchResult answer
      (λ matched. (has_match : List ℕ → Bool) → DecidesLines has_match searcher.lines →
      Prints (printed has_match) outputs.out outputs.out_then outputs.err outputs.err_then matched)
      (λ _. (has_match : List ℕ → Bool) → DecidesLines has_match searcher.lines →
      PrintsPrefix (printed has_match) outputs.out outputs.out_then outputs.err outputs.err_then)

-- Fault lines of some of the names were printed, or a prefix of them if the call failed.
abbrev pub PrintsAllFaults : {A E : Type 0} → Tool → List (List ℕ) → ℕ → ℕ → Option SinkModel → Option SinkModel →
    Result A E → Type 0
PrintsAllFaults tool names failed failed' err err' result =
    PrintsFaults tool names failed failed' (λ lines. WritesBytes lines err err' result)

-- A search fails only for a failed write, which one of the outputs counts, or out of memory.
abbrev pub CountsSearchFault : {O E A : Type 0} → (O → ℕ) → (E → ℕ) → O → O → E → E → Result A ToolFault → Type 0
CountsSearchFault out_failed err_failed out out' err err' answer =
    CountsOne (has_write_failed answer) (out_failed out) (out_failed out') (err_failed err) (err_failed err') × IsSearchFault answer
