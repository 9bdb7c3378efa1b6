-- What is printed for inputs, one after another.
use Rattle.std.proofs.Common.{◌≡◌, ℕ, Bool, true, false, List, [], ◌∷◌, ◌++◌, refl, sym, ap, subst, ◌∙◌, Option, Some, None, Result, Ok, Err, ◌≢◌, ◌||◌, append_assoc, append-nil, ◌+◌, ◌<◌, length, take, drop, get_or, ◌⊎◌, inl, inr}
use Rattle.std.specs.Result.{IsOkAnd}
use Rattle.cs_tree.specs.TreeAnswers.{opening_of}
use Rattle.cs_args.specs.FileFaults.{fault_line_of, file_fault_of, is_file_failure}
use Rattle.cs_tree.specs.Failures.{count_if}
use Rattle.cs_tree.specs.FailureCount.{count_after}
use Rattle.std.specs.Prelude.{option_map, map}
use Rattle.std.proofs.lemmas.List.{map-append, take-append-drop}
use Rattle.std.proofs.Math.Bool.{or-false, or_assoc}
use Rattle.std.proofs.lemmas.List.Concat.{flat_map-append}
use Rattle.cs_tree.specs.StreamModels.{SourceModel}
use Rattle.cs_tree.specs.Sinks.{Grows, SinkModel}
use Rattle.cs_tree.specs.Snapshot.{Snapshot, item_at}
use Rattle.cs_tree.specs.Trees.{OpensFile, OpensFileAs, is_tree_failure}
use Rattle.cs_tree.specs.TreeReaders.{open_model}
use Rattle.cs_tree.specs.declared.fault.TreeFault.{TreeFault}
use Rattle.cs_tree.specs.declared.fault.TreeFault.TheVariants as tree
use Rattle.cs_args.specs.declared.jobs.Tool.{Tool}
use Rattle.cs_args.specs.declared.jobs.Style.{Style}
use Rattle.cs_args.specs.declared.fault.FileFault.{FileFault}
use Rattle.cs_args.specs.declared.fault.FileFault.TheVariants.{Failed, InputTooLong}
use Rattle.cs_args.specs.declared.fault.ToolFault.{ToolFault}
use Rattle.cs_search.specs.declared.status.ReadFault.{ReadFault}
use Rattle.cs_search.specs.declared.status.ReadFault.TheVariants.{Read, TooLong}
use Rattle.cs_search.specs.declared.status.Grepped.{Grepped}
use Rattle.cs_search.specs.GrepReports.{Reports, ReportsPrefix}
use Rattle.cs_search.specs.InputReport.{input_report}
use Rattle.cs_tree.specs.TakesPrefix.{TakesPrefix, EndsAfter, MayEnd}
use Rattle.cs_tree.specs.WritesBytes.{WritesBytes}
use Rattle.cs_search.specs.GrepFaults.{is_failed_read}
use Rattle.cs_search.specs.Printed.{Printed, both_printed, all_printed, input_printed, opened_printed, file_printed, NamedFault, fault_lines, failures_of, AreFaultsOf, SearchOutputs, PrintsNothing, PrintsAnswer, PrintsFaults}
use Rattle.cs_search.specs.Searcher.{Prints, IsPrinted, PrintsAllFaults, PrintsPrefix}
use Rattle.cs_tree.proofs.GrowsLemmas.{Grows-chain, Grows-same}
use Rattle.cs_tree.proofs.NameLemmas.{mapped_more}
use Rattle.cs_tree.proofs.PrefixLemmas.{prefix_none, prefix_all, prefix_written, prefix_left, prefix_right, prefix_after, ends_after, may_end_after}

abbrev pub none_printed : Printed
none_printed = record { output = []; errors = []; matched = false }

-- the fault of an input, as that of a file
abbrev pub input_fault : ReadFault → FileFault
input_fault fault = elim fault [ Read ↦ Failed | TooLong ↦ InputTooLong ]

-- the line of a fault, if there is one
abbrev pub fault_text : Tool → List ℕ → Option ReadFault → List ℕ
fault_text tool name why = elim why [ None ↦ [] | Some fault ↦ fault_line_of tool name (input_fault fault) ]

module _ (limit : ℕ) (tool : Tool) (style : Style) (has_match : List ℕ → Bool) (name : List ℕ) where
  -- one input
  pub Prints-input : (model : Option SourceModel) (answer : Grepped) (out out' err err' : Option SinkModel) →
      Reports model (input_report limit style name has_match) out out' answer →
      Grows err err' (fault_text tool name answer.fault) →
      Prints (option_map (input_printed limit tool style has_match name) model) out out' err err' answer.matched
  unfolding input_printed
  Prints-input None answer out out' err err' r grows = tt
  Prints-input (Some model) answer out out' err err' r grows =
      (r.0, subst (λ fault. Grows err err' (fault_text tool name fault)) r.2 grows, r.1)

  -- a file that was opened
  opened-at : (opening : Result SourceModel TreeFault) (later : Option SourceModel)
      (out out' err err' : Option SinkModel) (matched : Bool) → IsOkAnd opening (λ file. later ≡ Some file) →
      Prints (option_map (input_printed limit tool style has_match name) later) out out' err err' matched →
      IsPrinted (opened_printed limit tool style has_match name opening) out out' err err' matched
  opened-at (Ok model) later out out' err err' matched is p = rw is at p
  opened-at (Err fault) later out out' err err' matched is p = absurd is

  pub Prints-opened : (snapshot : Option Snapshot) (later : Option SourceModel) (out out' err err' : Option SinkModel)
      (matched : Bool) → OpensFile {A = Unit {0}} snapshot name (Ok tt) later →
      Prints (option_map (input_printed limit tool style has_match name) (open_model snapshot later)) out out' err err'
      matched → Prints (option_map (λ (s : Snapshot). file_printed limit tool style has_match s name) snapshot) out out'
      err err' matched
  unfolding file_printed
  Prints-opened None later out out' err err' matched opens p = tt
  Prints-opened (Some s) later out out' err err' matched opens p = opened-at (opening_of (item_at s name)) later out
      out' err err' matched opens p

  -- a file that was not opened
  refused-at : (fault : TreeFault) (opening : Result SourceModel TreeFault) (later : Option SourceModel) →
      fault ≢ tree.Memory → OpensFileAs {A = Unit {0}} (Err fault) opening later → opening ≡ Err fault
  refused-at tree.Memory opening later not o = absurd (not refl)
  refused-at fault opening later not o = o.0

  pub Prints-refused : (snapshot : Option Snapshot) (fault : TreeFault) (later : Option SourceModel)
      (out err err' : Option SinkModel) → fault ≢ tree.Memory → OpensFile {A = Unit {0}} snapshot name (Err fault) later →
      Grows err err' (fault_line_of tool name (file_fault_of fault)) →
      Prints (option_map (λ (s : Snapshot). file_printed limit tool style has_match s name) snapshot) out out err err'
      false
  unfolding file_printed
  Prints-refused None fault later out err err' not opens grows = tt
  Prints-refused (Some s) fault later out err err' not opens grows =
      subst (λ (opening : Result SourceModel TreeFault). IsPrinted
      (opened_printed limit tool style has_match name opening) out out err err' false)
      (sym (refused-at fault (opening_of (item_at s name)) later not opens))
      (Grows-same out, grows, refl)

  -- a search that fails
  pub PrintsPrefix-input : (model : Option SourceModel) (out out' err : Option SinkModel) →
      ReportsPrefix model (input_report limit style name has_match) out out' →
      PrintsPrefix (option_map (input_printed limit tool style has_match name) model) out out' err err
  unfolding input_printed
  PrintsPrefix-input None out out' err prefix = tt
  PrintsPrefix-input (Some model) out out' err prefix = (prefix, prefix_none _ err)

  -- a fault line that is not written whole
  pub PrintsPrefix-fault : (model : Option SourceModel) (answer : Grepped) (fault : ReadFault)
      (out out' err err' : Option SinkModel) → answer.fault ≡ Some fault →
      Reports model (input_report limit style name has_match) out out' answer →
      TakesPrefix (fault_line_of tool name (input_fault fault)) err err' →
      PrintsPrefix (option_map (input_printed limit tool style has_match name) model) out out' err err'
  unfolding input_printed
  PrintsPrefix-fault None answer fault out out' err err' is r prefix = tt
  PrintsPrefix-fault (Some model) answer fault out out' err err' is r prefix =
      (prefix_all _ out out' r.0, subst (λ (why : Option ReadFault). TakesPrefix (fault_text tool name why) err err') (sym is ∙ r.2) prefix)

  prefix-at : (opening : Result SourceModel TreeFault) (later : Option SourceModel)
      (out out' err err' : Option SinkModel) → IsOkAnd opening (λ file. later ≡ Some file) →
      PrintsPrefix (option_map (input_printed limit tool style has_match name) later) out out' err err' →
      PrintsPrefix (Some (opened_printed limit tool style has_match name opening)) out out' err err'
  prefix-at (Ok model) later out out' err err' is p = rw is at p
  prefix-at (Err fault) later out out' err err' is p = absurd is

  pub PrintsPrefix-opened : (snapshot : Option Snapshot) (later : Option SourceModel)
      (out out' err err' : Option SinkModel) → OpensFile {A = Unit {0}} snapshot name (Ok tt) later →
      PrintsPrefix (option_map (input_printed limit tool style has_match name) (open_model snapshot later)) out out' err
      err' → PrintsPrefix (option_map (λ (s : Snapshot). file_printed limit tool style has_match s name) snapshot) out
      out' err err'
  unfolding file_printed
  PrintsPrefix-opened None later out out' err err' opens p = tt
  PrintsPrefix-opened (Some s) later out out' err err' opens p = prefix-at (opening_of (item_at s name)) later out out' err err' opens p

  pub PrintsPrefix-refused : (snapshot : Option Snapshot) (fault : TreeFault) (later : Option SourceModel)
      (out err err' : Option SinkModel) → fault ≢ tree.Memory → OpensFile {A = Unit {0}} snapshot name (Err fault) later →
      TakesPrefix (fault_line_of tool name (file_fault_of fault)) err err' →
      PrintsPrefix (option_map (λ (s : Snapshot). file_printed limit tool style has_match s name) snapshot) out out err
      err'
  unfolding file_printed
  PrintsPrefix-refused None fault later out err err' not opens prefix = tt
  PrintsPrefix-refused (Some s) fault later out err err' not opens prefix =
      subst (λ (opening : Result SourceModel TreeFault). PrintsPrefix
      (Some (opened_printed limit tool style has_match name opening)) out out err err')
      (sym (refused-at fault (opening_of (item_at s name)) later not opens))
      (prefix_none _ out, prefix)

pub PrintsPrefix-none : (printed : Option Printed) (out err : Option SinkModel) → PrintsPrefix printed out out err err
PrintsPrefix-none None out err = tt
PrintsPrefix-none (Some printed) out err = (prefix_none _ out, prefix_none _ err)

-- ---- the end of a search

-- the outputs with these models
abbrev pub outputs_of : Option SinkModel → Option SinkModel → Option SinkModel → Option SinkModel → SearchOutputs
outputs_of out out' err err' = record { out = out; out_then = out'; err = err; err_then = err' }

-- a prefix
pub PrintsAnswer-prefix : (printed : Option Printed) (fault : ToolFault) (out out' err err' : Option SinkModel) →
    PrintsPrefix printed out out' err err' → PrintsAnswer printed (outputs_of out out' err err') (Err fault)
PrintsAnswer-prefix None fault out out' err err' p = tt
PrintsAnswer-prefix (Some printed) fault out out' err err' p = (inl p.0, p.1)

pub PrintsAnswer-nothing : (printed : Option Printed) (outputs : SearchOutputs) (fault : ToolFault) →
    PrintsNothing outputs → PrintsAnswer printed outputs (Err fault)
PrintsAnswer-nothing None outputs fault nothing = tt
PrintsAnswer-nothing (Some printed) outputs fault nothing = (
  inl (prefix_written printed.output outputs.out outputs.out_then 0 nothing.0),
  prefix_written printed.errors outputs.err outputs.err_then 0 nothing.1,
)

-- everything is printed, and then a flush fails
pub PrintsAnswer-all : (printed : Option Printed) (fault : ToolFault) (out now later err err-now err-later : Option SinkModel)
    (matched : Bool) → Prints printed out now err err-now matched → MayEnd [] now later →
    TakesPrefix [] err-now err-later → PrintsAnswer printed (outputs_of out later err err-later) (Err fault)
PrintsAnswer-all None fault out now later err err-now err-later matched p ends ends-err = tt
PrintsAnswer-all (Some printed) fault out now later err err-now err-later matched p ends ends-err =
    (may_end_after _ out now later p.0 ends, prefix_after _ err err-now err-later p.1 ends-err)

-- ---- one after the other

same_printed : (output output' errors errors' : List ℕ) (matched matched' : Bool) → output ≡ output' → errors
    ≡ errors' → matched ≡ matched' → ◌≡◌ {A = Printed} (record { output = output; errors = errors; matched = matched })
    (record { output = output'; errors = errors'; matched = matched' })
same_printed output output' errors errors' matched matched' o e m = rw (o, e, m) refl

pub both_printed-assoc : (a b c : Printed) → both_printed a (both_printed b c) ≡ both_printed (both_printed a b) c
both_printed-assoc a b c = same_printed _ _ _ _ _ _ (sym (append_assoc a.output b.output c.output))
    (sym (append_assoc a.errors b.errors c.errors)) (sym (or_assoc a.matched b.matched c.matched))

pub Prints-both : (tree : Option Snapshot) (first next both : Snapshot → Printed)
    (out now later err err-now err-later : Option SinkModel) (matched last : Bool) →
    ((s : Snapshot) → both s ≡ both_printed (first s) (next s)) → Prints (option_map first tree) out now err err-now
    matched → Prints (option_map next tree) now later err-now err-later last → Prints (option_map both tree) out later
    err err-later (matched || last)
Prints-both None first next both out now later err err-now err-later matched last is p q = tt
Prints-both (Some s) first next both out now later err err-now err-later matched last is p q =
    subst (λ (printed : Printed). IsPrinted printed out later err err-later (matched || last)) (sym (is s)) (
      Grows-chain out now later _ _ p.0 q.0,
      Grows-chain err err-now err-later _ _ p.1 q.1,
      ap (λ b. b || last) p.2
          ∙ ap (λ b. (first s).matched || b) q.2,
    )

-- all of the first, a prefix of the next, and nothing of the rest
pub PrintsPrefix-both : (tree : Option Snapshot) (first next more both : Snapshot → Printed)
    (out now later err err-now err-later : Option SinkModel) (matched : Bool) →
    ((s : Snapshot) → both s ≡ both_printed (both_printed (first s) (next s)) (more s)) →
    Prints (option_map first tree) out now err err-now matched → PrintsPrefix (option_map next tree) now later err-now
    err-later → PrintsPrefix (option_map both tree) out later err err-later
PrintsPrefix-both None first next more both out now later err err-now err-later matched is p q = tt
PrintsPrefix-both (Some s) first next more both out now later err err-now err-later matched is p q =
    subst (λ (printed : Printed). PrintsPrefix (Some printed) out later err err-later) (sym (is s)) (
      prefix_left _ _ out later (prefix_right _ _ out now later p.0 q.0),
      prefix_left _ _ err err-later
          (prefix_right _ _ err err-now err-later p.1 q.1),
    )

pub Prints-none : (tree : Option Snapshot) (printed : Snapshot → List ℕ → Printed) (out err : Option SinkModel) →
    Prints (option_map (λ (s : Snapshot). all_printed (printed s) []) tree) out out err err false
unfolding all_printed
Prints-none None printed out err = tt
Prints-none (Some s) printed out err = (Grows-same out, Grows-same err, refl)

pub all_append : (printed : List ℕ → Printed) (xs ys : List (List ℕ)) → all_printed printed (xs ++ ys)
    ≡ both_printed (all_printed printed xs) (all_printed printed ys)
unfolding all_printed
all_append printed [] ys = refl
all_append printed (name ∷ xs) ys =
    ap (λ (rest : Printed). both_printed (printed name) rest) (all_append printed xs ys)
    ∙ both_printed-assoc (printed name) (all_printed printed xs) (all_printed printed ys)

pub all_more : (printed : List ℕ → Printed) (names : List (List ℕ)) (name : List ℕ) →
    all_printed printed (names ++ name ∷ []) ≡ both_printed (all_printed printed names) (printed name)
unfolding all_printed
all_more printed names name =
    all_append printed names (name ∷ []) ∙ ap (both_printed (all_printed printed names))
    (same_printed _ _ _ _ _ _ (append-nil (printed name).output) (append-nil (printed name).errors)
    (or-false (printed name).matched))

pub mapped_rest : {X : Type 0} (f : X → List ℕ) (xs : List X) (i : ℕ) (x : X) → i < length xs → x ≡ get_or xs i x →
    map f xs ≡ (map f (take i xs) ++ f x ∷ []) ++ map f (drop (i + 1) xs)
mapped_rest f xs i x low is =
    ap (map f) (sym (take-append-drop (i + 1) xs)) ∙ map-append f (take (i + 1) xs) (drop (i + 1) xs)
    ∙ ap (λ l. l ++ map f (drop (i + 1) xs)) (mapped_more f xs i x low is)

pub all_mapped : {X : Type 0} (printed : List ℕ → Printed) (f : X → List ℕ) (xs : List X) (i : ℕ) (x : X) →
    i < length xs → x ≡ get_or xs i x → all_printed printed (map f xs)
    ≡ both_printed (both_printed (all_printed printed (map f (take i xs))) (printed (f x)))
    (all_printed printed (map f (drop (i + 1) xs)))
all_mapped printed f xs i x low is =
    ap (all_printed printed) (mapped_rest f xs i x low is)
    ∙ all_append printed (map f (take i xs) ++ f x ∷ []) (map f (drop (i + 1) xs))
    ∙ ap (λ (first : Printed). both_printed first (all_printed printed (map f (drop (i + 1) xs))))
    (all_more printed (map f (take i xs)) (f x))

-- ---- faults

-- the results of a call that succeeds, and of one that fails
abbrev pub done : Result (Unit {0}) (Unit {0})
done = Ok tt

abbrev pub undone : Result (Unit {0}) (Unit {0})
undone = Err tt

faults_none : (names : List (List ℕ)) → AreFaultsOf names []
faults_none [] = refl
faults_none (name ∷ names) = inl (faults_none names)

-- a fault that an input can have
abbrev MayBe : FileFault → Type 0
MayBe why = (why ≡ InputTooLong) ⊎ (is_file_failure why ≡ true)

left_may_be : (fault : ReadFault) → MayBe (input_fault fault)
left_may_be Read = inr refl
left_may_be TooLong = inl refl

open_may_be : (fault : TreeFault) → MayBe (file_fault_of fault)
open_may_be tree.Missing = inr refl
open_may_be fault = inr refl

faults_one : (name : List ℕ) (why : FileFault) → MayBe why → AreFaultsOf (name ∷ []) ((name, why) ∷ [])
faults_one name why may = inr (why, [], refl, may, refl)

faults_append : (names more : List (List ℕ)) (first next : List NamedFault) → AreFaultsOf names first →
    AreFaultsOf more next → AreFaultsOf (names ++ more) (first ++ next)
faults_append [] more first next is then' = subst (λ (fs : List NamedFault). AreFaultsOf more (fs ++ next)) (sym is) then'
faults_append (name ∷ names) more first next (inl is) then' = inl (faults_append names more first next is then')
faults_append (name ∷ names) more first next (inr is) then' =
    inr (is.0, is.1 ++ next, ap (λ fs. fs ++ next) is.2, is.3, faults_append names more is.1 next is.4 then')

module _ (tool : Tool) where
  left_counted : (fault : ReadFault) (n : ℕ) → count_if (is_failed_read (Some fault)) n ≡ count_if (is_file_failure (input_fault fault)) n
  left_counted Read n = refl
  left_counted TooLong n = refl

  open_counted : (fault : TreeFault) (n : ℕ) → fault ≢ tree.Memory → count_after {A = Unit {0}} is_tree_failure
      (Err fault) n ≡ count_if (is_file_failure (file_fault_of fault)) n
  open_counted tree.Memory n not = absurd (not refl)
  open_counted fault n not = refl

  writes_bytes-line : {A E : Type 0} (r : Result A E) (name : List ℕ) (fault : FileFault) (err err' : Option SinkModel)
      → WritesBytes (fault_line_of tool name fault) err err' r → WritesBytes (fault_lines tool ((name, fault) ∷ [])) err
      err' r
  writes_bytes-line r name fault err err' writes_bytes = subst (λ bytes. WritesBytes bytes err err' r)
      (sym (append-nil (fault_line_of tool name fault))) writes_bytes

  -- nothing failed, and nothing was printed
  pub PrintsAllFaults-none : {A E : Type 0} (r : Result A E) (names : List (List ℕ)) (failed failed' : ℕ)
      (err err' : Option SinkModel) → failed' ≡ failed → err' ≡ err → PrintsAllFaults tool names failed failed' err err'
      r
  PrintsAllFaults-none (Ok x) names failed failed' err err' same is =
      ([], faults_none names, same, subst (λ (e : Option SinkModel). Grows err e []) (sym is) (Grows-same err))
  PrintsAllFaults-none (Err e) names failed failed' err err' same is =
      ([], faults_none names, same, subst (TakesPrefix [] err) (sym is) (prefix_none [] err))

  pub PrintsAllFaults-left : {A E : Type 0} (r : Result A E) (fault : ReadFault) (name : List ℕ) (failed failed' : ℕ)
      (err err' : Option SinkModel) → failed' ≡ count_if (is_failed_read (Some fault)) failed →
      WritesBytes (fault_line_of tool name (input_fault fault)) err err' r → PrintsAllFaults tool (name ∷ []) failed
      failed' err err' r
  PrintsAllFaults-left r fault name failed failed' err err' count writes_bytes = (
    (name, input_fault fault) ∷ [],
    faults_one name (input_fault fault) (left_may_be fault),
    count
        ∙ left_counted fault failed,
    writes_bytes-line r name (input_fault fault) err err' writes_bytes,
  )

  pub PrintsAllFaults-open : {A E : Type 0} (r : Result A E) (fault : TreeFault) (name : List ℕ) (failed failed' : ℕ)
      (err err' : Option SinkModel) → fault ≢ tree.Memory → failed' ≡ count_after {A = Unit {0}} is_tree_failure
      (Err fault) failed → WritesBytes (fault_line_of tool name (file_fault_of fault)) err err' r →
      PrintsAllFaults tool (name ∷ []) failed failed' err err' r
  PrintsAllFaults-open r fault name failed failed' err err' not count writes_bytes = (
    (name, file_fault_of fault) ∷ [],
    faults_one name (file_fault_of fault) (open_may_be fault),
    count
        ∙ open_counted fault failed not,
    writes_bytes-line r name (file_fault_of fault) err err' writes_bytes,
  )

  failures_of-append : (a b : List NamedFault) (n : ℕ) → failures_of (a ++ b) n ≡ failures_of b (failures_of a n)
  failures_of-append [] b n = refl
  failures_of-append (fault ∷ a) b n = failures_of-append a b (count_if (is_file_failure fault.1) n)

  writes_bytes-more : {A E : Type 0} (r : Result A E) (first next : List NamedFault)
      (err err-now err-later : Option SinkModel) → Grows err err-now (fault_lines tool first) →
      WritesBytes (fault_lines tool next) err-now err-later r → WritesBytes (fault_lines tool (first ++ next)) err
      err-later r
  writes_bytes-more (Ok x) first next err err-now err-later grows writes_bytes =
      subst (Grows err err-later) (sym (flat_map-append (λ (fault : NamedFault). fault_line_of tool fault.0 fault.1)
      first next)) (Grows-chain err err-now err-later _ _ grows writes_bytes)
  writes_bytes-more (Err e) first next err err-now err-later grows writes_bytes =
      subst (λ bytes. TakesPrefix bytes err err-later)
      (sym (flat_map-append (λ (fault : NamedFault). fault_line_of tool fault.0 fault.1) first next))
      (prefix_right _ _ err err-now err-later grows writes_bytes)

  -- faults of some names, then of more
  pub PrintsAllFaults-more : {A E : Type 0} (r : Result A E) (names more : List (List ℕ)) (failed now later : ℕ)
      (err err-now err-later : Option SinkModel) → PrintsAllFaults tool names failed now err err-now done →
      PrintsAllFaults tool more now later err-now err-later r → PrintsAllFaults tool (names ++ more) failed later err
      err-later r
  PrintsAllFaults-more r names more failed now later err err-now err-later first next = (
    first.0 ++ next.0,
    faults_append names more first.0 next.0 first.1 next.1,
    next.2 ∙ ap (failures_of next.0) first.2 ∙ sym (failures_of-append first.0 next.0 failed),
    writes_bytes-more r first.0 next.0 err err-now err-later first.3 next.3,
  )

  -- the remaining names have none
  pub PrintsAllFaults-rest : {A E : Type 0} (r : Result A E) (names more : List (List ℕ)) (failed failed' : ℕ)
      (err err' : Option SinkModel) → PrintsAllFaults tool names failed failed' err err' r →
      PrintsAllFaults tool (names ++ more) failed failed' err err' r
  PrintsAllFaults-rest r names more failed failed' err err' faults = (
    faults.0,
    subst (AreFaultsOf (names ++ more)) (append-nil faults.0)
        (faults_append names more faults.0 [] faults.1 (faults_none more)),
    faults.2,
    faults.3,
  )

  pub PrintsAllFaults-refused : {A E : Type 0} (r : Result A E) (fault : E) (names : List (List ℕ)) (failed failed' : ℕ)
      (err err' : Option SinkModel) → r ≡ Err fault → PrintsAllFaults tool names failed failed' err err' undone →
      PrintsAllFaults tool names failed failed' err err' r
  PrintsAllFaults-refused r fault names failed failed' err err' is faults = rw is faults

  -- ---- the end of a search

  abbrev Ends : {A E : Type 0} → List (List ℕ) → ℕ → ℕ → Option SinkModel → Option SinkModel → Result A E → Type 0
  Ends names failed failed' err err' r = PrintsFaults tool names failed failed' (λ lines. EndsAfter lines err err' r)

  pub PrintsFaults-no : {A E : Type 0} (r : Result A E) (fault : E) (names : List (List ℕ)) (failed failed' : ℕ)
      (err err' : Option SinkModel) → r ≡ Err fault → failed' ≡ failed → Grows err err' [] →
      Ends names failed failed' err err' r
  PrintsFaults-no r fault names failed failed' err err' is same nothing =
      rw is ([], faults_none names, same, prefix_written [] err err' 0 nothing)

  -- then the outputs are flushed
  pub PrintsFaults-flushed : {A E : Type 0} (r : Result A E) (names : List (List ℕ)) (failed failed' : ℕ)
      (err err-now err-later : Option SinkModel) → PrintsAllFaults tool names failed failed' err err-now done →
      EndsAfter [] err-now err-later r → Ends names failed failed' err err-later r
  PrintsFaults-flushed r names failed failed' err err-now err-later faults ends =
      (faults.0, faults.1, faults.2, ends_after (fault_lines tool faults.0) err err-now err-later r faults.3 ends)
