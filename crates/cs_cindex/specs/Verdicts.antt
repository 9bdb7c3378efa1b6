-- The verdict on a file that a walk finds, after it was read.
use Rattle.std.specs.Prelude.{◌≡◌, ℕ, Bool, false, if◌then◌else◌, List, [], ◌∷◌, Option, Some, None, Result, Ok, Err}
use Rattle.std.specs.Borrow.{Bor}
use Rattle.cs_trigram.specs.Trigram.{set_of_numbers}
use Rattle.cs_trigram.specs.Scans.{AreDistinctTrigrams, IfText}
use Rattle.cs_trigram.specs.declared.scan.Scan.{Scan}
use Rattle.cs_trigram.specs.declared.scan.Scan.TheVariants.{Text, Skip}
use Rattle.cs_tree.specs.Snapshot.{Snapshot}
use Rattle.cs_index.specs.Encoding.{Entry}
use Rattle.cs_index.specs.Built.{is_storable}
use Rattle.cs_tree.specs.Failures.{count_if}
use Rattle.cs_args.specs.FileFaults.{is_file_failure}
use Rattle.cs_args.specs.declared.fault.FileFault.{FileFault}
use Rattle.cs_args.specs.declared.fault.FileFault.TheVariants.{Unnamed}
use Rattle.cs_history.specs.FileTrigrams.{file_trigrams}
use Rattle.cs_tree.specs.Sinks.{SinkModel}
use Rattle.cs_tree.specs.WritesBytes.{WritesBytes}
use Rattle.cs_cindex.specs.Diagnostics.{Diagnostic, faulted, skipped, file_line, text_of}

-- ---- what a verdict says

-- the scan of the file, or why it cannot be read to its end
abbrev pub Verdict : Type 0
Verdict = Result (Scan (Bor (List ℕ))) FileFault

abbrev pub verdict_trigrams : Verdict → Option (List ℕ)
verdict_trigrams (Ok (Text trigrams bytes)) = Some (set_of_numbers trigrams.now)
verdict_trigrams (Ok (Skip reason)) = None
verdict_trigrams (Err why) = None

abbrev pub verdict_line : Bool → List ℕ → Verdict → Option Diagnostic
verdict_line log_skip name (Ok (Text trigrams bytes)) = None
verdict_line log_skip name (Ok (Skip reason)) = if log_skip then Some (skipped name reason) else None
verdict_line log_skip name (Err why) = Some (faulted name why)

-- The verdict agrees with the item at the name.
pub record IsVerdict (tree : Snapshot) (name : List ℕ) (verdict : Verdict) : Type 0 where
  pub trigrams : verdict_trigrams verdict ≡ file_trigrams tree name
  pub line : (log_skip : Bool) → verdict_line log_skip name verdict ≡ file_line log_skip tree name

abbrev pub IsVerdictIn : Option Snapshot → List ℕ → Verdict → Type 0
IsVerdictIn None name verdict = Unit {0}
IsVerdictIn (Some tree) name verdict = IsVerdict tree name verdict

-- its trigrams are distinct
abbrev pub HasTrigramsOnce : Verdict → Type 0
HasTrigramsOnce (Ok scan) = IfText scan (λ trigrams. AreDistinctTrigrams trigrams.now)
HasTrigramsOnce (Err why) = Unit {0}

-- the verdict is a failed call
abbrev pub is_failed_verdict : Verdict → Bool
is_failed_verdict (Ok scan) = false
is_failed_verdict (Err why) = is_file_failure why

-- the failure count after a file is read; an allocation failure is not counted
abbrev pub count_read : {E : Type 0} → Result Verdict E → ℕ → ℕ
count_read (Ok verdict) n = count_if (is_failed_verdict verdict) n
count_read (Err fault) n = n

-- ---- the use of a verdict; a text file is skipped if no index can store its name

abbrev pub added_line : List ℕ → Option Diagnostic
added_line name = if is_storable name then None else Some (faulted name Unnamed)

abbrev pub added_entries : List ℕ → List ℕ → List Entry
added_entries name trigrams = if is_storable name then (name, trigrams) ∷ [] else []

abbrev pub noted_line : Bool → List ℕ → Verdict → Option Diagnostic
noted_line log_skip name (Ok (Text trigrams bytes)) = added_line name
noted_line log_skip name (Ok (Skip reason)) = if log_skip then Some (skipped name reason) else None
noted_line log_skip name (Err why) = Some (faulted name why)

abbrev pub noted_entries : List ℕ → Verdict → List Entry
noted_entries name (Ok (Text trigrams bytes)) = added_entries name (set_of_numbers trigrams.now)
noted_entries name (Ok (Skip reason)) = []
noted_entries name (Err why) = []

-- ---- what was printed

-- The diagnostics were printed, or a prefix of their text if the call failed.
abbrev pub PrintsAll : {A E : Type 0} → List Diagnostic → Option SinkModel → Option SinkModel → Result A E → Type 0
PrintsAll lines sink later result = WritesBytes (text_of lines) sink later result
