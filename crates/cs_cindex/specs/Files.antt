-- The entries and diagnostics of the files that are indexed.
use Rattle.std.specs.Prelude.{◌≡◌, ℕ, ◌≤◌, ◌^◌, Bool, true, List, length, take, Option, Some, None, filter_map}
use Rattle.std.specs.List.{list_all, AllByRecursion}
use Rattle.cs_tree.specs.Cover.{is_among}
use Rattle.cs_tree.specs.Reachability.{with_values}
use Rattle.cs_tree.specs.Snapshot.{Snapshot}
use Rattle.cs_tree.specs.Sinks.{SinkModel, Grows}
use Rattle.cs_tree.specs.TakesPrefix.{TakesPrefix}
use Rattle.cs_index.specs.Encoding.{Entry, names_of}
use Rattle.cs_index.specs.Built.{is_storable, is_above}
use Rattle.cs_index.specs.LeastLength.{least_length}
use Rattle.cs_args.specs.declared.fault.CindexFault.{CindexFault}
use Rattle.cs_args.specs.declared.fault.CindexFault.TheVariants.{TooLarge, Write, Memory}
use Rattle.cs_history.specs.FileTrigrams.{file_trigrams}
use Rattle.cs_cindex.specs.Diagnostics.{Diagnostic, file_line, text_of, failures_in}

-- the text files at these names, each with its trigrams
abbrev pub texts_at : Snapshot → List (List ℕ) → List Entry
texts_at tree names = with_values (file_trigrams tree) names

abbrev pub are_storable : List (List ℕ) → Bool
are_storable names = list_all is_storable names

-- The entries are those of the text files at these names, if an index can store the names.
abbrev pub AreTextsIn : Option Snapshot → List (List ℕ) → List Entry → Type 0
AreTextsIn None names entries = Unit {0}
AreTextsIn (Some tree) names entries = are_storable names ≡ true → entries ≡ texts_at tree names

-- The entries have no other names than these, whatever the model of the tree.
abbrev pub HaveNamesOf : List (List ℕ) → List Entry → Type 0
HaveNamesOf names entries = AllByRecursion (λ (entry : Entry). is_among names entry.0 ≡ true) entries

-- An index of the text files at these names has 2^32 bytes, whatever is added.
abbrev pub AreTooLargeIn : Option Snapshot → List (List ℕ) → Type 0
AreTooLargeIn None names = Unit {0}
AreTooLargeIn (Some tree) names = are_storable names ≡ true → 2 ^ 32 ≤ least_length (texts_at tree names)

-- The diagnostics are those of the files at these names.
abbrev pub AreFileLinesIn : Bool → Option Snapshot → List (List ℕ) → List Diagnostic → Type 0
AreFileLinesIn log_skip None names lines = Unit {0}
AreFileLinesIn log_skip (Some tree) names lines =
    are_storable names ≡ true → lines ≡ filter_map (file_line log_skip tree) names

abbrev pub BeginFileLinesIn : Bool → Option Snapshot → List (List ℕ) → List Diagnostic → Type 0
BeginFileLinesIn log_skip None names lines = Unit {0}
BeginFileLinesIn log_skip (Some tree) names lines =
    are_storable names ≡ true → lines ≡ take (length lines) (filter_map (file_line log_skip tree) names)

-- Each of these names is greater than the names of the entries.
abbrev pub AreAbove : List Entry → List (List ℕ) → Type 0
AreAbove entries names = AllByRecursion (λ name. is_above (names_of entries) name ≡ true) names

-- ---- what was printed

-- The diagnostics of the files at these names were printed, and each counted failure is reported by one of them.
pub record PrintsFiles (log_skip : Bool) (tree : Option Snapshot) (names : List (List ℕ)) (failed failed' : ℕ)
    (sink sink' : Option SinkModel) : Type 0 where
  pub lines : List Diagnostic
  pub due : AreFileLinesIn log_skip tree names lines
  pub counted : failed' ≡ failures_in lines failed
  pub grows : Grows sink sink' (text_of lines)

-- The same for a prefix of the diagnostics and of their text.
pub record PrintsFilesPrefix (log_skip : Bool) (tree : Option Snapshot) (names : List (List ℕ)) (failed failed' : ℕ)
    (sink sink' : Option SinkModel) : Type 0 where
  pub lines : List Diagnostic
  pub due : BeginFileLinesIn log_skip tree names lines
  pub counted : failed' ≡ failures_in lines failed
  pub prefix : TakesPrefix (text_of lines) sink sink'

-- ---- errors

-- the errors of indexing: the size of the index, a failed write, or out of memory
abbrev pub IsIndexingFault : CindexFault → Type 0
IsIndexingFault TooLarge = Unit {0}
IsIndexingFault Write = Unit {0}
IsIndexingFault Memory = Unit {0}
IsIndexingFault _ = ⊥
