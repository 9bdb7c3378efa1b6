-- The diagnostics of a job: those of its walk, then those of files.
use Rattle.std.proofs.Common.{◌≡◌, ℕ, Bool, true, List, [], ◌++◌, map, take, drop, length, refl, sym, ap, subst, ◌∙◌, arith, Option, Some, None, append-nil, append_assoc, filter_map}
use Rattle.cs_cindex.proofs.Common.{Paths, take_at, take_all, take-append-drop, Snapshot, Grows, SinkModel, FaultEntry, FindsIn, are_alone, failures_walked, fault_entry, Grows-chain, are_paths, are_reduced, is_storable, TakesPrefix, Diagnostic, fault_entry_line, text_of, AreLinesIn, BeginLinesIn, failures_in, PrintsLines, PrintsLinesPrefix, Entry, list_all, and_parts, reduced_up, reduced_is, AreFileLinesIn, BeginFileLinesIn, AreTextsIn, AreTooLargeIn, PrintsFiles, PrintsFilesPrefix, prefix_all}
use Rattle.cs_tree.specs.PathSet as set
use Rattle.cs_cindex.specs.Diagnostics.{file_line}
use Rattle.cs_tree.proofs.FaultCountLemmas.{ascending_alone}
use Rattle.cs_cindex.proofs.DiagnosticLemmas.{WalkFaultEntry, fault_entry_lines, prefix_after, text-append, all_counted}
use Rattle.cs_cindex.proofs.WalkOrderLemmas.{lines_once}
use Rattle.cs_cindex.proofs.WalkIndexLemmas.{names_stored}

-- no path of an index covers another
paths_alone : (paths : List (List ℕ)) → are_paths paths ≡ true → are_alone paths ≡ true
paths_alone paths ok =
    let reduced = (and_parts (list_all is_storable paths) (are_reduced paths) ok).1 in
    let up = reduced_up paths reduced in
    ascending_alone paths up (reduced_is paths up ∙ reduced)

-- the diagnostics of files, if arguments are replaced by equal ones
files_printed : (log_skip log_skip' : Bool) (model model' : Option Snapshot) (names names' : List (List ℕ))
    (failed failed' : ℕ) (sink sink' : Option SinkModel) → log_skip ≡ log_skip' → model ≡ model' → names ≡ names' →
    PrintsFiles log_skip model names failed failed' sink sink' → PrintsFiles log_skip' model' names' failed failed' sink
    sink'
files_printed log_skip log_skip' model model' names names' failed failed' sink sink' a b c p = rw (← a, ← b, ← c) p

pub files_prefix : (log_skip log_skip' : Bool) (model model' : Option Snapshot) (names names' : List (List ℕ))
    (failed failed' : ℕ) (sink sink' : Option SinkModel) → log_skip ≡ log_skip' → model ≡ model' → names ≡ names' →
    PrintsFilesPrefix log_skip model names failed failed' sink sink' → PrintsFilesPrefix log_skip' model' names' failed
    failed' sink sink'
files_prefix log_skip log_skip' model model' names names' failed failed' sink sink' a b c p = rw (← a, ← b, ← c) p

pub texts_walked : (model model' : Option Snapshot) (names names' : List (List ℕ)) (entries : List Entry) → model
    ≡ model' → names ≡ names' → AreTextsIn model names entries → AreTextsIn model' names' entries
texts_walked model model' names names' entries a b are = rw (← a, ← b) are

pub large_walked : (model model' : Option Snapshot) (names names' : List (List ℕ)) → model ≡ model' → names ≡ names' →
    AreTooLargeIn model names → AreTooLargeIn model' names'
large_walked model model' names names' a b large = rw (← a, ← b) large

module _ (log_skip : Bool) (model : Option Snapshot) (paths names : List (List ℕ)) (faults : List FaultEntry)
    (ok : are_paths paths ≡ true) (finds : FindsIn model (set.from_list paths) names faults) where
  abbrev walked : List Diagnostic
  walked = map fault_entry_line faults

  due_all : (lines : List Diagnostic) → AreFileLinesIn log_skip model names lines →
      AreLinesIn log_skip model (set.from_list paths) (walked ++ lines)
  due_all lines due = by_tree model finds due
    where
      by_tree : (model : Option Snapshot) → FindsIn model (set.from_list paths) names faults →
          AreFileLinesIn log_skip model names lines → AreLinesIn log_skip model (set.from_list paths) (walked ++ lines)
      by_tree None finds due = tt
      by_tree (Some tree) finds due = λ tree_is. record {
        names = names;
        faults = faults;
        finds = finds tree_is;
        are = ap (λ (files : List Diagnostic). walked ++ files) (due (names_stored tree paths names faults ok (finds tree_is) tree_is));
      }

  begin_all : (lines : List Diagnostic) → BeginFileLinesIn log_skip model names lines →
      BeginLinesIn log_skip model (set.from_list paths) (walked ++ lines)
  begin_all lines due = by_tree model finds due
    where
      by_tree : (model : Option Snapshot) → FindsIn model (set.from_list paths) names faults →
          BeginFileLinesIn log_skip model names lines → BeginLinesIn log_skip model (set.from_list paths)
          (walked ++ lines)
      by_tree None finds due = tt
      by_tree (Some tree) finds due = λ tree_is all are.
          let files = filter_map (file_line log_skip tree) names in
          let rest = drop (length lines) files in
          let begin = due (names_stored tree paths names faults ok (finds tree_is) tree_is) in
          let split : all ≡ (walked ++ lines) ++ rest =
          lines_once log_skip tree (set.from_list paths) names faults all (finds tree_is) are
          ∙ ap (λ (ls : List Diagnostic). walked ++ ls) (sym (take-append-drop (length lines) files)
          ∙ ap (λ (ls : List Diagnostic). ls ++ rest) (sym begin))
          ∙ sym (append_assoc walked lines rest) in
          sym (ap (take (length (walked ++ lines))) split ∙ take_at (walked ++ lines) rest (length (walked ++ lines)) refl)

  none_prefix : (model : Option Snapshot) → BeginFileLinesIn log_skip model names []
  none_prefix None = tt
  none_prefix (Some tree) = λ stored. refl

  module _ (before failed : ℕ) (sink now : Option SinkModel)
      (counts : are_alone paths ≡ true → failed ≡ failures_walked faults before) where
    of_walk : failed ≡ failures_walked faults before
    of_walk = counts (paths_alone paths ok)

    -- while the faults of the walk are printed
    pub prefix_left : TakesPrefix (text_of walked) sink now → PrintsLinesPrefix log_skip model (set.from_list paths) before failed sink now
    prefix_left prefix = record {
      lines = walked;
      due = subst (BeginLinesIn log_skip model (set.from_list paths)) (append-nil walked) (begin_all [] (none_prefix model));
      counted = λ some. subst (λ (ls : List Diagnostic). failed ≡ failures_in ls before) (append-nil walked)
          (all_counted faults [] before failed failed of_walk refl);
      prefix = prefix;
    }

    module _ (failed' : ℕ) (later : Option SinkModel) (printed : Grows sink now (text_of walked)) where
      -- while the files are read
      pub prefix_files : PrintsFilesPrefix log_skip model names failed failed' now later →
          PrintsLinesPrefix log_skip model (set.from_list paths) before failed' sink later
      prefix_files p =
          let prefix = prefix_after walked p.lines [] sink now later printed p.prefix in
          record {
            lines = walked ++ p.lines;
            due = begin_all p.lines p.due;
            counted = λ some. all_counted faults p.lines before failed failed' of_walk p.counted;
            prefix = subst (λ (ls : List Diagnostic). TakesPrefix (text_of (walked ++ ls)) sink later) (append-nil p.lines) prefix;
          }

      -- at the end
      pub prints_all : PrintsFiles log_skip model names failed failed' now later →
          PrintsLines log_skip model (set.from_list paths) before failed' sink later
      prints_all p = record {
        lines = walked ++ p.lines;
        due = due_all p.lines p.due;
        counted = all_counted faults p.lines before failed failed' of_walk p.counted;
        grows = subst (Grows sink later) (sym (text-append walked p.lines))
            (Grows-chain sink now later (text_of walked) (text_of p.lines) printed p.grows);
      }

-- the diagnostics of a walk, if arguments are replaced by equal ones
pub walk_printed : (log_skip log_skip' : Bool) (model model' : Option Snapshot) (paths names names' : List (List ℕ))
    (left left' : List WalkFaultEntry) (before failed failed' : ℕ) (sink now later : Option SinkModel) →
    are_paths paths ≡ true → FindsIn model' (set.from_list paths) names' (map fault_entry left') →
    (are_alone paths ≡ true → failed ≡ failures_walked (map fault_entry left') before) →
    left ≡ left' → Grows sink now (text_of (fault_entry_lines left)) →
    log_skip ≡ log_skip' → model ≡ model' → names ≡ names' → PrintsFiles log_skip model names failed failed' now later →
    PrintsLines log_skip' model' (set.from_list paths) before failed' sink later
walk_printed log_skip log_skip' model model' paths names names' left left' before failed failed' sink now later ok finds
    counts same printed a b c files =
    prints_all log_skip' model' paths names' (map fault_entry left') ok finds before failed sink now counts failed' later
    (subst (λ entries. Grows sink now (text_of (fault_entry_lines entries))) same printed)
    (files_printed log_skip log_skip' model model' names names' failed failed' now later a b c files)

-- all diagnostics are a prefix of themselves
pub prefix_whole : (log_skip : Bool) (model : Option Snapshot) (paths : Paths) (failed failed' : ℕ)
    (sink sink' : Option SinkModel) → PrintsLines log_skip model paths failed failed' sink sink' →
    PrintsLinesPrefix log_skip model paths failed failed' sink sink'
prefix_whole log_skip model paths failed failed' sink sink' p =
    let prefix = prefix_all (text_of p.lines) sink sink' p.grows in
    record { lines = p.lines; due = by_tree model p.due; counted = λ some. p.counted; prefix = prefix }
  where
    by_tree : (model : Option Snapshot) → AreLinesIn log_skip model paths p.lines → BeginLinesIn log_skip model paths p.lines
    by_tree None due = tt
    by_tree (Some tree) due = λ is all are.
        let mine = due is in
        let same : all ≡ p.lines = lines_once log_skip tree paths mine.names mine.faults all mine.finds are ∙ sym mine.are in
        sym (ap (take (length p.lines)) same ∙ take_all (length p.lines) p.lines (omega arith))
