-- The result of a scan.
-- docs/FORMAT.md, "Which files are text".
use Rattle.std.specs.Prelude.{◌≡◌, ℕ, Bool, false, List, [], length, Option, Some, None, Result, Ok, Err, true}
use Rattle.cs_tree.specs.StreamModels.{SourceModel, Ending, ends, fails}
use Rattle.cs_trigram.specs.declared.scan.Limits.{Limits}
use Rattle.cs_trigram.specs.declared.scan.Reason.{Reason}
use Rattle.cs_trigram.specs.declared.scan.Scan.{Scan}
use Rattle.cs_trigram.specs.declared.scan.Scan.TheVariants as answer
use Rattle.cs_trigram.specs.declared.scan.ScanFault.{ScanFault}
use Rattle.cs_trigram.specs.declared.scan.ScanFault.TheVariants as fault
use Rattle.cs_trigram.specs.Trigram.{tri, set_of_numbers}
use Rattle.cs_trigram.specs.TrigramSets.{IsTrigramSet, AreDistinct}
use Rattle.cs_trigram.specs.Text.{first_broken, skip}

-- text, with its trigrams and length; a skipped file, with the reason; or a failed read, after bytes that
-- break no rule
pub data ScanOutcome : Type 0 where
  text : List ℕ → ℕ → ScanOutcome
  skipped_for : Reason → ScanOutcome
  read_failed : ScanOutcome

abbrev pub skipped_or : Option Reason → ScanOutcome → ScanOutcome
skipped_or None scan_outcome = scan_outcome
skipped_or (Some reason) scan_outcome = skipped_for reason

abbrev pub scan_outcome_of : Limits → List ℕ → Ending → ScanOutcome
scan_outcome_of most bytes ends = skipped_or (skip most bytes) (text (tri bytes) (length bytes))
scan_outcome_of most bytes fails = skipped_or (first_broken most [] bytes) read_failed

-- the result of a scan of the source
abbrev pub scan_outcome : Limits → SourceModel → ScanOutcome
scan_outcome most model = scan_outcome_of most model.bytes model.ending

-- The answer is this result, where `set` gives the set of its trigrams. An answer `Memory` is always allowed.
abbrev pub ReportsScan : {T : Type 0} → Result (Scan T) ScanFault → (T → List ℕ) → ScanOutcome → Type 0
ReportsScan (Ok (answer.Text trigrams bytes)) set found = text (set trigrams) bytes ≡ found
ReportsScan (Ok (answer.Skip reason)) set found = skipped_for reason ≡ found
ReportsScan (Err fault.Read) set found = read_failed ≡ found
ReportsScan (Err fault.Memory) set found = Unit {0}

-- the answer is the result for the source, if the source is modelled
abbrev pub IsScanOf : {T : Type 0} → Limits → Option SourceModel → Result (Scan T) ScanFault → (T → List ℕ) → Type 0
IsScanOf most None answer set = Unit {0}
IsScanOf most (Some model) answer set = ReportsScan answer set (scan_outcome most model)

-- the trigrams of a text are so
abbrev pub IfText : {T : Type 0} → Scan T → (T → Type 0) → Type 0
IfText (answer.Text trigrams bytes) Claim = Claim trigrams
IfText (answer.Skip reason) Claim = Unit {0}

-- distinct trigrams, in any order, none of them ff ff ff
abbrev pub AreDistinctTrigrams : List ℕ → Type 0
AreDistinctTrigrams numbers = IsTrigramSet (set_of_numbers numbers) × AreDistinct numbers

-- the errors that are failures of the source
abbrev pub is_scan_failure : ScanFault → Bool
is_scan_failure fault.Read = true
is_scan_failure fault.Memory = false
