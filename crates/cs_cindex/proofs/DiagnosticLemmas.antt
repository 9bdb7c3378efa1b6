-- Diagnostics that were printed, and failures that were counted.
use Rattle.std.proofs.Common.{◌≡◌, ℕ, ◌+◌, ◌<◌, Bool, List, [], ◌∷◌, ◌++◌, map, take, drop, get_or, length, refl, sym, ap, subst, ◌∙◌, Option, Some, None, Result, Err, append-nil, append_assoc, String}
use Rattle.cs_args.specs.SkipLines.{skip_line_of}
use Rattle.cs_cindex.proofs.Common.{Paths, count_if, take_more, take-append-drop, map-append, Snapshot, Grows, SinkModel, FaultEntry, fault_entry, is_failed_call, failures_walked, Global, Grows-chain, prefix_none, prefix_left, prefix_right, TakesPrefix, Diagnostic, fault_entry_line, faulted, skipped, text_of, walk_fault, is_failure_line, failures_in, BeginLinesIn, PrintsLinesPrefix, PrintsAll}
use Rattle.cs_args.specs.FileFaults.{fault_line_of, is_file_failure}
use Rattle.std.proofs.lemmas.List.Concat.{flat_map-append}
use Rattle.cs_tree.specs.declared.walking.WalkFault.{WalkFault}
use Rattle.cs_tree.specs.declared.walking.WalkFault.TheVariants as walk
use Rattle.cs_tree.specs.declared.fault.TreeFault.TheVariants.{Missing}
use Rattle.cs_trigram.specs.declared.scan.Reason.{Reason}
use Rattle.cs_args.specs.declared.jobs.Tool.TheVariants.{Cindex}
use Rattle.cs_args.specs.declared.fault.FileFault.{FileFault}
use Rattle.cs_cindex.specs.Diagnostics.{line_text}

-- ---- the text of diagnostics

pub text-append : (a b : List Diagnostic) → text_of (a ++ b) ≡ text_of a ++ text_of b
text-append a b = flat_map-append line_text a b

pub refused : {A E : Type 0} (lines : List Diagnostic) (sink later : Option SinkModel) (r : Result A E) (fault : E) →
    r ≡ Err fault → TakesPrefix (text_of lines) sink later → PrintsAll lines sink later r
refused lines sink later r fault is prefix = rw is prefix

-- after diagnostics that were printed whole, and before others
pub prefix_after : (prefix lines rest : List Diagnostic) (sink now later : Option SinkModel) →
    Grows sink now (text_of prefix) → TakesPrefix (text_of lines) now later →
    TakesPrefix (text_of (prefix ++ (lines ++ rest))) sink later
prefix_after prefix lines rest sink now later grows part =
    subst (λ bytes. TakesPrefix bytes sink later)
    (sym (text-append prefix (lines ++ rest) ∙ ap (λ t. text_of prefix ++ t) (text-append lines rest)))
    (prefix_right (text_of prefix) (text_of lines ++ text_of rest) sink now later grows
    (prefix_left (text_of lines) (text_of rest) now later part))

-- ---- one diagnostic

module _ (line : Diagnostic) (text : List ℕ) (sink later : Option SinkModel) (is : text ≡ line_text line) where
  one : text ≡ text_of (line ∷ [])
  one = is ∙ sym (append-nil (line_text line))

  pub line_printed : Grows sink later text → Grows sink later (text_of (line ∷ []))
  line_printed grows = subst (Grows sink later) one grows

  pub line_prefix : (n : ℕ) → Grows sink later (take n text) → TakesPrefix (text_of (line ∷ [])) sink later
  line_prefix n grows = record { count = n; grows = subst (λ t. Grows sink later (take n t)) one grows }

pub fault_text : (name : List ℕ) (why : FileFault) → fault_line_of Cindex name why ≡ line_text (faulted name why)
unfolding line_text
fault_text name why = refl

pub skip_text : (name : List ℕ) (reason : Reason) → skip_line_of name reason ≡ line_text (skipped name reason)
unfolding line_text
skip_text name reason = refl

-- ---- diagnostics of items, one after the other

module _ {X : Type 0} (lines : List X → List Diagnostic) (lines-append : (a b : List X) → lines (a ++ b)
    ≡ lines a ++ lines b) (xs : List X) (i : ℕ) (x : X) (low : i < length xs) (is : x ≡ get_or xs i x) where
  lines_more : lines (take (i + 1) xs) ≡ lines (take i xs) ++ lines (x ∷ [])
  lines_more = ap lines (take_more xs i x low ∙ ap (λ y. take i xs ++ y ∷ []) (sym is)) ∙ lines-append (take i xs) (x ∷ [])

  lines_all : lines xs ≡ lines (take i xs) ++ (lines (x ∷ []) ++ lines (drop (i + 1) xs))
  lines_all =
      ap lines (sym (take-append-drop (i + 1) xs))
      ∙ lines-append (take (i + 1) xs) (drop (i + 1) xs)
      ∙ ap (λ (l : List Diagnostic). l ++ lines (drop (i + 1) xs)) lines_more
      ∙ append_assoc (lines (take i xs)) (lines (x ∷ [])) (lines (drop (i + 1) xs))

  printed_more : (sink now later : Option SinkModel) → Grows sink now (text_of (lines (take i xs))) →
      Grows now later (text_of (lines (x ∷ []))) → Grows sink later (text_of (lines (take (i + 1) xs)))
  printed_more sink now later prefix line =
      subst (λ (l : List Diagnostic). Grows sink later (text_of l)) (sym lines_more)
      (subst (Grows sink later) (sym (text-append (lines (take i xs)) (lines (x ∷ []))))
      (Grows-chain sink now later (text_of (lines (take i xs))) (text_of (lines (x ∷ []))) prefix line))

  prefix_all_lines : (sink now later : Option SinkModel) → Grows sink now (text_of (lines (take i xs))) →
      TakesPrefix (text_of (lines (x ∷ []))) now later → TakesPrefix (text_of (lines xs)) sink later
  prefix_all_lines sink now later prefix prefix' =
      subst (λ (l : List Diagnostic). TakesPrefix (text_of l) sink later) (sym lines_all)
      (prefix_after (lines (take i xs)) (lines (x ∷ [])) (lines (drop (i + 1) xs)) sink now later prefix prefix')

-- for the paths that a walk could not read
abbrev pub WalkFaultEntry : Type 0
WalkFaultEntry = String Global × WalkFault

abbrev pub fault_entry_lines : List WalkFaultEntry → List Diagnostic
fault_entry_lines faults = map fault_entry_line (map fault_entry faults)

left-append : (a b : List WalkFaultEntry) → fault_entry_lines (a ++ b) ≡ fault_entry_lines a ++ fault_entry_lines b
left-append a b = ap (map fault_entry_line) (map-append fault_entry a b)
    ∙ map-append fault_entry_line (map fault_entry a) (map fault_entry b)

module _ (faults : List WalkFaultEntry) (i : ℕ) (entry : WalkFaultEntry) (low : i < length faults)
    (is : entry ≡ get_or faults i entry) (sink now later : Option SinkModel)
    (prefix : Grows sink now (text_of (fault_entry_lines (take i faults)))) (line : Diagnostic)
    (line_is : line_text line ≡ line_text (fault_entry_line (fault_entry entry))) where
  text_is : text_of (line ∷ []) ≡ text_of (fault_entry_line (fault_entry entry) ∷ [])
  text_is = ap (λ (text : List ℕ). text ++ []) line_is

  pub fault_entries_more : Grows now later (text_of (line ∷ [])) → Grows sink later (text_of (fault_entry_lines (take (i + 1) faults)))
  fault_entries_more grows = printed_more fault_entry_lines left-append faults i entry low is sink now later prefix
      (subst (Grows now later) text_is grows)

  pub fault_entries_prefix : TakesPrefix (text_of (line ∷ [])) now later → TakesPrefix (text_of (fault_entry_lines faults)) sink later
  fault_entries_prefix prefix' = prefix_all_lines fault_entry_lines left-append faults i entry low is sink now later
      prefix (subst (λ text. TakesPrefix text now later) text_is prefix')

-- the diagnostic of a path with a fault, by its parts
pub fault_entry_is : (entry : WalkFaultEntry) (path : List ℕ) (why : FileFault) → path ≡ (fault_entry entry).0 →
    why ≡ walk_fault entry.1 → line_text (faulted path why) ≡ line_text (fault_entry_line (fault_entry entry))
unfolding line_text
fault_entry_is entry path why is same = ap (λ p. fault_line_of Cindex p why) is ∙ ap (fault_line_of Cindex (fault_entry entry).0) same

-- ---- counted failures

pub failures-append : (a b : List Diagnostic) (n : ℕ) → failures_in (a ++ b) n ≡ failures_in b (failures_in a n)
failures-append [] b n = refl
failures-append (line ∷ a) b n = failures-append a b (count_if (is_failure_line line) n)

-- a path whose fault is a failed call has a diagnostic that says so
failure_alike : (fault : WalkFault) → is_failed_call fault ≡ is_file_failure (walk_fault fault)
failure_alike (walk.Tree Missing) = refl
failure_alike _ = refl

walk_failures : (faults : List FaultEntry) (n : ℕ) → failures_walked faults n ≡ failures_in (map fault_entry_line faults) n
walk_failures [] n = refl
walk_failures (left ∷ faults) n = walk_failures faults (count_if (is_failed_call left.1) n)
    ∙ ap (λ b. failures_in (map fault_entry_line faults) (count_if b n)) (failure_alike left.1)

-- the failures of a walk, and then of files
pub all_counted : (faults : List FaultEntry) (lines : List Diagnostic) (before walked later : ℕ) → walked
    ≡ failures_walked faults before → later ≡ failures_in lines walked → later
    ≡ failures_in (map fault_entry_line faults ++ lines) before
all_counted faults lines before walked later model files =
    files ∙ ap (failures_in lines) (model ∙ walk_failures faults before) ∙ sym (failures-append (map fault_entry_line faults) lines before)

-- ---- nothing was printed

module _ (log_skip : Bool) (paths : Paths) where
  Begin-none : (model : Option Snapshot) → BeginLinesIn log_skip model paths []
  Begin-none None = tt
  Begin-none (Some tree) = λ is all are. refl

  pub Prefix-none : (model : Option Snapshot) (failed failed' : ℕ) (sink : Option SinkModel) →
      PrintsLinesPrefix log_skip model paths failed failed' sink sink
  Prefix-none model failed failed' sink = record {
    lines = [];
    due = Begin-none model;
    counted =
        λ some. absurd (some refl);
    prefix = prefix_none [] sink;
  }
