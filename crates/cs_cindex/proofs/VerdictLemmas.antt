-- The verdict on a file, from the item at its name.
use Rattle.std.proofs.Common.{◌≡◌, ◌≢◌, ℕ, Bool, List, [], refl, sym, subst, ◌∙◌, Option, Some, None, Result, Ok, Err, Bor}
use Rattle.cs_cindex.proofs.Common.{IsOkAnd, Snapshot, Item, folder, file, cut, item_at, read_item, Failed, opening_line, finding_line, Verdict, verdict_trigrams, verdict_line, IsVerdict, IsVerdictIn}
use Rattle.cs_tree.specs.TreeAnswers.{opening_of}
use Rattle.cs_args.specs.FileFaults.{file_fault_of}
use Rattle.cs_trigram.specs.Scans.{ScanOutcome, skipped_or, scan_outcome, ReportsScan, IsScanOf, text, read_failed}
use Rattle.cs_tree.specs.StreamModels.{SourceModel}
use Rattle.cs_tree.specs.Trees.{OpensFile, OpensFileAs}
use Rattle.cs_tree.specs.TreeReaders.{open_model}
use Rattle.cs_tree.specs.declared.fault.TreeFault.{TreeFault}
use Rattle.cs_tree.specs.declared.fault.TreeFault.TheVariants as tree
use Rattle.cs_trigram.specs.Text.{limits, text_trigrams, skip, first_broken}
use Rattle.cs_trigram.proofs.LawLemmas.{none_skipped}
use Rattle.cs_trigram.specs.Trigram.{tri, set_of_numbers}
use Rattle.cs_trigram.specs.declared.scan.Reason.{Reason}
use Rattle.cs_trigram.specs.declared.scan.Scan.{Scan}
use Rattle.cs_trigram.specs.declared.scan.ScanFault.{ScanFault}
use Rattle.cs_trigram.specs.declared.scan.Scan.TheVariants.{Text, Skip}
use Rattle.cs_trigram.specs.declared.scan.ScanFault.TheVariants as fault
use Rattle.cs_cindex.specs.Diagnostics.{file_line}

-- the trigrams of what a scan finds, and of what is opened
abbrev pub finding_trigrams : ScanOutcome → Option (List ℕ)
finding_trigrams (text trigrams bytes) = Some trigrams
finding_trigrams _ = None

abbrev pub opened_trigrams : Result SourceModel TreeFault → Option (List ℕ)
opened_trigrams (Ok model) = finding_trigrams (scan_outcome limits model)
opened_trigrams (Err fault) = None

whole_trigrams : (reason : Option Reason) (trigrams : List ℕ) (bytes : ℕ) → none_skipped reason trigrams
    ≡ finding_trigrams (skipped_or reason (text trigrams bytes))
whole_trigrams None trigrams bytes = refl
whole_trigrams (Some reason) trigrams bytes = refl

cut_trigrams : (reason : Option Reason) → None ≡ finding_trigrams (skipped_or reason read_failed)
cut_trigrams None = refl
cut_trigrams (Some reason) = refl

trigrams_opened : (item : Item) → read_item (text_trigrams limits) item ≡ opened_trigrams (opening_of item)
trigrams_opened (folder names unnamed) = refl
trigrams_opened (file bytes) = whole_trigrams (skip limits bytes) (tri bytes) _
trigrams_opened (cut bytes) = cut_trigrams (first_broken limits [] bytes)
trigrams_opened _ = refl

-- the verdict agrees with the opened file
record Agrees (name : List ℕ) (verdict : Verdict) (opening : Result SourceModel TreeFault) : Type 0 where
  trigrams : verdict_trigrams verdict ≡ opened_trigrams opening
  line : (log_skip : Bool) → verdict_line log_skip name verdict ≡ opening_line log_skip name opening

verdict_is : (tree : Snapshot) (name : List ℕ) (verdict : Verdict) →
    Agrees name verdict (opening_of (item_at tree name)) → IsVerdict tree name verdict
unfolding file_line
verdict_is tree name verdict agrees = record { trigrams = agrees.trigrams ∙ sym (trigrams_opened (item_at tree name)); line = agrees.line }

-- ---- a file that cannot be opened

refused_at : (fault : TreeFault) (opening : Result SourceModel TreeFault) (later : Option SourceModel) →
    fault ≢ tree.Memory → OpensFileAs {A = Unit {0}} (Err fault) opening later → opening ≡ Err fault
refused_at tree.Memory opening later not o = absurd (not refl)
refused_at _ opening later not o = o.0

-- a failed call is reported by the diagnostic
pub verdict_refused : (snapshot : Option Snapshot) (name : List ℕ) (fault : TreeFault) (later : Option SourceModel) →
    fault ≢ tree.Memory → OpensFile {A = Unit {0}} snapshot name (Err fault) later →
    IsVerdictIn snapshot name (Err (file_fault_of fault))
verdict_refused None name fault later not opens = tt
verdict_refused (Some tree) name fault later not opens =
    verdict_is tree name (Err (file_fault_of fault))
    (subst (Agrees name (Err (file_fault_of fault)))
    (sym (refused_at fault (opening_of (item_at tree name)) later not opens))
    (record { trigrams = refl; line = λ log_skip. refl }))

-- ---- a file that is scanned

record Finds (name : List ℕ) (verdict : Verdict) (found : ScanOutcome) : Type 0 where
  trigrams : verdict_trigrams verdict ≡ finding_trigrams found
  line : (log_skip : Bool) → verdict_line log_skip name verdict ≡ finding_line log_skip name found

opened_at : (name : List ℕ) (verdict : Verdict) (opening : Result SourceModel TreeFault) (later : Option SourceModel) →
    IsOkAnd opening (λ file. later ≡ Some file) →
    ((model : SourceModel) → later ≡ Some model → Finds name verdict (scan_outcome limits model)) →
    Agrees name verdict opening
opened_at name verdict (Ok model) later is finds = let f = finds model is in record { trigrams = f.trigrams; line = f.line }
opened_at name verdict (Err why) later is finds = absurd is

verdict_opened : (snapshot : Option Snapshot) (name : List ℕ) (verdict : Verdict) (later : Option SourceModel) →
    OpensFile {A = Unit {0}} snapshot name (Ok tt) later → ((model : SourceModel) → open_model snapshot later ≡ Some model →
    Finds name verdict (scan_outcome limits model)) → IsVerdictIn snapshot name verdict
verdict_opened None name verdict later opens finds = tt
verdict_opened (Some tree) name verdict later opens finds =
    verdict_is tree name verdict (opened_at name verdict (opening_of (item_at tree name)) later opens finds)

-- a scan of the source, with borrowed trigrams
abbrev pub IsBorrowedScanOf : Option SourceModel → Result (Scan (Bor (List ℕ))) ScanFault → Type 0
IsBorrowedScanOf source scan = IsScanOf limits source scan (λ trigrams. set_of_numbers trigrams.now)

right_at : (read : Option SourceModel) (model : SourceModel) (scan : Result (Scan (Bor (List ℕ))) ScanFault) →
    read ≡ Some model → IsBorrowedScanOf read scan → ReportsScan scan (λ trigrams. set_of_numbers trigrams.now)
    (scan_outcome limits model)
right_at read model scan is right = rw is at right

module _ (snapshot : Option Snapshot) (name : List ℕ) (later : Option SourceModel) (opens : OpensFile {A = Unit {0}} snapshot name (Ok tt) later) where
  finds_scanned : (scan : Scan (Bor (List ℕ))) (model : SourceModel) →
      ReportsScan (Ok scan) (λ trigrams. set_of_numbers trigrams.now) (scan_outcome limits model) →
      Finds name (Ok scan) (scan_outcome limits model)
  finds_scanned (Text trigrams bytes) model is = subst (Finds name (Ok (Text trigrams bytes))) is
      (record { trigrams = refl; line = λ log_skip. refl })
  finds_scanned (Skip reason) model is = subst (Finds name (Ok (Skip reason))) is (record { trigrams = refl; line = λ log_skip. refl })

  pub verdict_scanned : (scan : Scan (Bor (List ℕ))) → IsBorrowedScanOf (open_model snapshot later) (Ok scan) →
      IsVerdictIn snapshot name (Ok scan)
  verdict_scanned scan right = verdict_opened snapshot name (Ok scan) later opens
      (λ model is. finds_scanned scan model (right_at (open_model snapshot later) model (Ok scan) is right))

  pub verdict_unread : IsBorrowedScanOf (open_model snapshot later) (Err fault.Read) → IsVerdictIn snapshot name (Err Failed)
  verdict_unread right = verdict_opened snapshot name (Err Failed) later opens (λ model is.
      subst (Finds name (Err Failed)) (right_at (open_model snapshot later) model (Err fault.Read) is right)
      (record { trigrams = refl; line = λ log_skip. refl }))
