-- What the arguments mean, which error comes first, and the index that is known.
use Rattle.std.proofs.Common.{◌≡◌, ◌≢◌, ◌↔◌, ℕ, Bool, true, false, not, List, length, [], ◌∷◌, Option, Some, None, Result, Ok, Err, refl, sym, ap, subst, ◌∙◌, ◌⊎◌, inl, inr}
use Rattle.std.specs.Prelude.{IfOk, IfSome, IsSomeAnd, if◌then◌else◌, is_none, unwrap_or, option_map, option_and_then, string_bytes}
use Rattle.std.specs.Option.{option_or}
use Rattle.cs_tree.specs.Sinks.{SinkModel, Flushes}
use Rattle.cs_tree.specs.TakesPrefix.{EndsAfter}
use Rattle.cs_tree.specs.Cover.{is_absolute}
use Rattle.cs_tree.specs.declared.fault.IoFault.{IoFault}
use Rattle.cs_tree.specs.declared.fault.IoFault.TheVariants.{Failed as IoFailed, Memory as IoMemory}
use Rattle.cs_tree.proofs.GrowsLemmas.{Grows-same}
use Rattle.cs_tree.proofs.PrefixLemmas.{prefix_written}
use Rattle.cs_args.specs.Args.{OptionItem, option_items, first_fault, fault_or, search_job, grep_job, parse_args}
use Rattle.cs_args.specs.JobView.{JobView, job_view, GivesJob}
use Rattle.cs_args.specs.Messages.{line_of}
use Rattle.cs_args.specs.declared.fault.Refusal.TheVariants.{Word as A_word}
use Rattle.cs_args.specs.declared.fault.ToolFault.{ToolFault}
use Rattle.cs_args.specs.declared.fault.WordFault.{WordFault}
use Rattle.cs_args.specs.declared.fault.WordFault.TheVariants.{Memory}
use Rattle.cs_args.specs.declared.jobs.IndexJob.{IndexJob}
use Rattle.cs_args.specs.declared.jobs.Job.{Job}
use Rattle.cs_args.specs.declared.jobs.Job.TheVariants.{Index, Search, Grep}
use Rattle.cs_args.specs.declared.jobs.Tool.{Tool}
use Rattle.cs_args.specs.declared.jobs.Tool.TheVariants.{Cindex, Csearch, Cgrep}
use Rattle.cs_history.specs.Jobs.{HasAbsoluteFolder}
use Rattle.cs_search.specs.declared.status.Status.{Status}
use Rattle.cs_cindex.specs.OldIndex.{IsUnreadable, has_failed}
use Rattle.cs_cindex.specs.Output.{UnreadPrints, before, after}
use Rattle.cs_storage.specs.FileAfter.{IsGiven}
use Rattle.cs_storage.specs.declared.folder.StorageFault.{StorageFault}
use Rattle.cs_storage.specs.declared.folder.StorageFault.TheVariants.{Failed}
use Rattle.cs_storage.specs.declared.update.IndexUpdate.TheVariants.{Keep}
use Rattle.codesearch.specs.Program.{tree_of, EndsSearch, EndsUnread, IsUnreadBy, tool_of, tool_args, meaning, lacks_folder, word_line, reading_line, writing_line, IndexFile, early_line, arg_at, opened_file, Surroundings, IsUntouched, Refuses, DoesJob, RunsAfter, Runs, IsCall, may_update, update_of}
use Rattle.codesearch.specs.Running.{AnswersJob, EndsRead, RefusesArgs}
use Rattle.codesearch.specs.declared.call.Call.{Call}
use Rattle.codesearch.specs.declared.given.Given.{Given}
use Rattle.codesearch.specs.declared.outcome.Outcome.{Outcome}
use Rattle.codesearch.specs.declared.outcome.Outcome.TheVariants.{Done, Searched, Refused}
use Rattle.codesearch.specs.declared.running.FoundFile.{FoundFile}

-- a flush writes nothing
pub ends_flushed : {A E : Type 0} (a b : Option SinkModel) (r : Result A E) → Flushes a b r → EndsAfter [] a b r
ends_flushed a b (Ok x) flushed = flushed
ends_flushed a b (Err e) flushed = prefix_written [] a b 0 flushed

-- the clauses of `read_words`
abbrev pub FindsFault : Result JobView WordFault → Result Job WordFault → Type 0
FindsFault parsed answer = (fault : WordFault) → fault ≢ Memory → (answer ≡ Err fault) ↔ (parsed ≡ Err fault)

is_memory : (fault : WordFault) → (fault ≡ Memory) ⊎ (fault ≢ Memory)
is_memory Memory = inl refl
is_memory fault = inr (λ e. cc)

same_fault : (fault found : WordFault) → FindsFault (Err fault) (Err found) → ◌≡◌ {A = Result Job WordFault} (Err found) (Err fault)
same_fault fault found finds =
    elim (is_memory fault) [
      | inr other ↦ (finds fault other).1 refl
      | inl memory ↦ elim (is_memory found) [
        | inl same ↦ ap Err (same ∙ sym memory)
        | inr other ↦ let e = (finds found other).0 refl in let same : found ≡ Memory = cc in absurd (other same)
      ]
    ]

pub gives_job : (parsed : Result JobView WordFault) (answer : Result Job WordFault) →
    IfOk answer (λ job. parsed ≡ Ok (job_view job)) → FindsFault parsed answer → GivesJob parsed answer
gives_job (Ok job) (Ok found) is finds = let e = is in cc
gives_job (Ok job) (Err fault) is finds =
    elim (is_memory fault) [ inl memory ↦ memory | inr other ↦ absurd (let e = (finds fault other).0 refl in cc) ]
gives_job (Err fault) (Ok found) is finds = absurd (let e = is in cc)
gives_job (Err fault) (Err found) is finds = same_fault fault found finds

-- ---- what a call means

pub meant : (parsed : Result JobView WordFault) (job : Job) → GivesJob parsed (Ok job) → parsed ≡ Ok (job_view job)
meant (Ok view) job gives = ap Ok (sym gives)
meant (Err fault) job gives = absurd (let e = gives in cc)

pub early_line_at : (given : Given) (tool : Tool) (file : IndexFile) → tool_of given ≡ Some tool → given.has_non_text
    ≡ false → lacks_folder given tool ≡ false → early_line given file
    ≡ option_or (option_map (reading_line file.name) file.unreadable)
    (option_or (word_line tool (tool_args given) (meaning given tool))
    (option_map (writing_line file.name file.temp) file.unclaimed))
early_line_at given tool file is text folder = rw (is, text, folder) refl

call_means : (call : Call) (job : Job) → IsCall call → call.job ≡ Ok job → meaning call.given.now call.tool ≡ Ok (job_view job)
call_means call job is job-is = meant (meaning call.given.now call.tool) job
    (subst (GivesJob (meaning call.given.now call.tool)) job-is is.job)

-- without an error the job is done
pub runs_job : (call : Call) (job : Job) (file : IndexFile) (IsIndex : Option (List ℕ) → Type 0)
    (old new : Surroundings) (outcome : Outcome) → IsCall call → call.job ≡ Ok job → file.unreadable ≡ None →
    file.unclaimed ≡ None → ((index : Option (List ℕ)) → IsIndex index → DoesJob job index old new outcome) →
    Runs call.given.now file IsIndex old new outcome
runs_job call job file IsIndex old new outcome is job-is readable claimed does =
    let given = call.given.now in
    let is-meant = call_means call job is job-is in
    let none : early_line given file ≡ None = early_line_at given call.tool file is.tool is.text is.folder
    ∙ rw (readable, is-meant, claimed) refl in
    inl (subst (λ line. RunsAfter line given file IsIndex old new outcome) (sym none) (call.tool, job, is.tool, is-meant, does))

-- an index file that cannot be read ends the program with its line
pub refuses_reading : (call : Call) (file : IndexFile) (fault : StorageFault) (IsIndex : Option (List ℕ) → Type 0)
    (old new : Surroundings) (outcome : Outcome) → IsCall call → file.unreadable ≡ Some fault →
    Refuses outcome (reading_line file.name fault) → IsUntouched old new → Runs call.given.now file IsIndex old new
    outcome
refuses_reading call file fault IsIndex old new outcome is unreadable ends untouched =
    let given = call.given.now in
    let some : early_line given file ≡ Some (reading_line file.name fault) = early_line_at given call.tool file is.tool
    is.text is.folder ∙ rw (unreadable) refl in
    inl (subst (λ line. RunsAfter line given file IsIndex old new outcome) (sym some) (ends, inl untouched))

-- an index file that cannot be claimed ends the program with its line
pub refuses_claim : (call : Call) (job : Job) (file : IndexFile) (fault : StorageFault)
    (IsIndex : Option (List ℕ) → Type 0) (old new : Surroundings) (outcome : Outcome) → IsCall call → call.job
    ≡ Ok job → file.unreadable ≡ None → file.unclaimed ≡ Some fault →
    Refuses outcome (writing_line file.name file.temp fault) → IsUntouched old new →
    Runs call.given.now file IsIndex old new outcome
refuses_claim call job file fault IsIndex old new outcome is job-is readable unclaimed ends untouched =
    let given = call.given.now in
    let is-meant = call_means call job is job-is in
    let some : early_line given file ≡ Some (writing_line file.name file.temp fault) =
    early_line_at given call.tool file is.tool is.text is.folder ∙ rw (readable, is-meant, unclaimed) refl in
    inl (subst (λ line. RunsAfter line given file IsIndex old new outcome) (sym some) (ends, inl untouched))

words_line : (fault : WordFault) (parsed : Result JobView WordFault) → GivesJob parsed (Err fault) → (fault ≡ Memory) ⊎ (parsed ≡ Err fault)
words_line fault (Ok view) gives = inl gives
words_line fault (Err found) gives = let same : found ≡ fault = (let e = gives in cc) in inr (ap Err same)

-- an error of the arguments ends the program with its line
pub refuses_words : (call : Call) (fault : WordFault) (file : IndexFile) (IsIndex : Option (List ℕ) → Type 0)
    (old new : Surroundings) (outcome : Outcome) → IsCall call → call.job ≡ Err fault → file.unreadable ≡ None →
    RefusesArgs call fault outcome → IsUntouched old new → Runs call.given.now file IsIndex old new outcome
refuses_words call fault file IsIndex old new outcome is job-is readable refuses untouched =
    let given = call.given.now in
    let parsed = meaning given call.tool in
    let line = line_of call.tool (A_word fault) (arg_at fault (tool_args given)) in
    let ends : Refuses outcome line = subst (λ args. Refuses outcome (line_of call.tool (A_word fault) (arg_at fault args)))
    is.args refuses in
    elim (words_line fault parsed (subst (GivesJob parsed) job-is is.job)) [
      | inl memory ↦ inr (
        inr (
          call.tool,
          subst
              (λ f. Refuses outcome (line_of call.tool (A_word f) (arg_at f (tool_args given)))) memory ends,
        ),
        untouched,
      )
      | inr failed ↦
          let some : early_line given file ≡ Some line = early_line_at given call.tool file is.tool is.text is.folder
          ∙ rw (readable, failed) refl in
          inl (subst (λ some. RunsAfter some given file IsIndex old new outcome) (sym some) (ends, inl untouched))
    ]

-- a read of the index file that fails in the job ends the program with its line
refuses_unread : (call : Call) (job : Job) (file : IndexFile) (IsIndex : Option (List ℕ) → Type 0)
    (old new : Surroundings) (outcome : Outcome) → IsCall call → call.job ≡ Ok job → file.unreadable ≡ Some Failed →
    Refuses outcome (reading_line file.name Failed) → IsUnreadBy job IsIndex old new →
    Runs call.given.now file IsIndex old new outcome
refuses_unread call job file IsIndex old new outcome is job-is unreadable ends unread =
    let given = call.given.now in
    let some : early_line given file ≡ Some (reading_line file.name Failed) = early_line_at given call.tool file is.tool
    is.text is.folder ∙ rw (unreadable) refl in
    let reads : EndsUnread given file IsIndex old new = record {
      failed = unreadable;
      tool = call.tool;
      is_tool = is.tool;
      job = job;
      means = call_means call job is job-is;
      unread = unread;
    } in
    inl (subst (λ line. RunsAfter line given file IsIndex old new outcome) (sym some) (ends, inr reads))

-- ---- how a run ends

pub untouched : (around : Surroundings) → IsUntouched around around
untouched around = record {
  tree = refl;
  input = (refl, refl);
  printed = (Grows-same around.outputs.out.model, Grows-same around.outputs.err.model);
  counted = (refl, refl);
}

-- no read fails where nothing is read
pub no_read_fails : {S : Type 0} (failed : S → ℕ) (index : Option S) → IsUnreadable failed index index false
no_read_fails failed None = refl
no_read_fails failed (Some store) = refl

-- what the job answers is what the program does
pub runs_answered : {S : Type 0} (call : Call) (job : Job) (file : FoundFile S) (IsIndex : Option (List ℕ) → Type 0)
    (old new : Surroundings) (answer : Result Outcome IoFault) (outcome : Outcome) → IsCall call → call.job ≡ Ok job →
    AnswersJob IsIndex job answer old new → EndsRead file.name.now answer outcome →
    Runs call.given.now (opened_file file (has_failed answer)) IsIndex old new outcome
runs_answered call job file IsIndex old new (Ok done) outcome is job-is answers ends =
    runs_job call job (opened_file file false) IsIndex old new outcome is job-is refl refl
    (λ index known. subst (DoesJob job index old new) (sym ends) (answers index known))
runs_answered call job file IsIndex old new (Err IoFailed) outcome is job-is answers ends =
    refuses_unread call job (opened_file file true) IsIndex old new outcome is job-is refl ends answers.0
runs_answered call job file IsIndex old new (Err IoMemory) outcome is job-is answers ends = inr (inl ends, answers.1 refl)

-- an error of the arguments comes after a read of the index file
pub runs_refused : {S : Type 0} (call : Call) (fault : WordFault) (file : FoundFile S) (IsIndex : Option (List ℕ) → Type 0)
    (around : Surroundings) (answer : Result Outcome IoFault) (outcome : Outcome) → IsCall call → call.job ≡ Err fault →
    IfOk answer (RefusesArgs call fault) → EndsRead file.name.now answer outcome →
    Runs call.given.now (opened_file file (has_failed answer)) IsIndex around around outcome
runs_refused call fault file IsIndex around (Ok refused) outcome is job-is refuses ends =
    refuses_words call fault (opened_file file false) IsIndex around around outcome is job-is refl
    (subst (RefusesArgs call fault) (sym ends) refuses) (untouched around)
runs_refused call fault file IsIndex around (Err IoFailed) outcome is job-is refuses ends =
    refuses_reading call (opened_file file true) Failed IsIndex around around outcome is refl ends (untouched around)
runs_refused call fault file IsIndex around (Err IoMemory) outcome is job-is refuses ends = inr (inl ends, untouched around)

-- an error leaves the index file alone
refuses_keeps : (outcome : Outcome) (line : List ℕ) → Refuses outcome line → update_of outcome ≡ Keep
refuses_keeps (Done update) line refuses = absurd refuses
refuses_keeps (Searched status) line refuses = refl
refuses_keeps (Refused fault) line refuses = refl

pub searched_keeps : (tool : Tool) (answer : Result Status ToolFault) (outcome : Outcome) → EndsSearch tool answer outcome →
    update_of outcome ≡ Keep
searched_keeps tool (Ok status) outcome ends = ap update_of ends
searched_keeps tool (Err fault) outcome ends = refuses_keeps outcome _ ends

pub refused_keeps : (call : Call) (fault : WordFault) (outcome : Outcome) → RefusesArgs call fault outcome →
    update_of outcome ≡ Keep
refused_keeps call fault outcome refuses = refuses_keeps outcome _ refuses

pub ended_keeps : (name : List ℕ) (answer : Result Outcome IoFault) (outcome : Outcome) → EndsRead name answer outcome →
    IfOk answer (λ job. update_of job ≡ Keep) → update_of outcome ≡ Keep
ended_keeps name (Ok job) outcome ends keeps = ap update_of ends ∙ keeps
ended_keeps name (Err IoFailed) outcome ends keeps = refuses_keeps outcome _ ends
ended_keeps name (Err IoMemory) outcome ends keeps = refuses_keeps outcome _ ends

pub kept_given : (outcome : Outcome) (old new : List ℕ) → update_of outcome ≡ Keep → IsGiven (update_of outcome) old new
kept_given outcome old new keeps = subst (λ update. IsGiven update old new) (sym keeps) tt

pub ended_given : (name : List ℕ) (answer : Result Outcome IoFault) (outcome : Outcome) (old new : List ℕ) →
    EndsRead name answer outcome → IfOk answer (λ job. IsGiven (update_of job) old new) → IsGiven (update_of outcome) old new
ended_given name (Ok job) outcome old new ends given = subst (λ job. IsGiven (update_of job) old new) (sym ends) given
ended_given name (Err IoFailed) outcome old new ends given = kept_given outcome old new (refuses_keeps outcome _ ends)
ended_given name (Err IoMemory) outcome old new ends given = kept_given outcome old new (refuses_keeps outcome _ ends)

-- a job of cindex that may not update the file is one of `-list`
pub lists : (parsed : Result Job WordFault) (job : IndexJob) → parsed ≡ Ok (Index job) → may_update parsed ≡ false → job.list ≡ true
lists parsed job job-is never = of_not job.list (sym (ap may_update job-is) ∙ never)
  where
    of_not : (b : Bool) → not b ≡ false → b ≡ true
    of_not true is = refl
    of_not false is = absurd (let e = is in cc)

-- what holds of each index of a set holds of those of a part of it
unread_over : (job : Job) (P Q : Option (List ℕ) → Type 0) (old new : Surroundings) →
    ((index : Option (List ℕ)) → Q index → P index) → IsUnreadBy job P old new → IsUnreadBy job Q old new
unread_over (Index job) P Q old new on unread = (
  record {
    reads = unread.0.reads;
    out = unread.0.out;
    err = prints_over unread.0.err;
    listed = unread.0.listed;
    writes = unread.0.writes;
  },
  unread.1,
)
  where
    prints_over : UnreadPrints job (tree_of old new) P old.outputs.err new.outputs.err →
        UnreadPrints job (tree_of old new) Q old.outputs.err new.outputs.err
    prints_over (before silent) = before silent
    prints_over (after paths known prints) = after paths (λ index is. known index (on index is)) prints
unread_over job P Q old new on unread = unread

ends_over : (given : Given) (file : IndexFile) (P Q : Option (List ℕ) → Type 0) (old new : Surroundings) →
    ((index : Option (List ℕ)) → Q index → P index) → IsUntouched old new ⊎ EndsUnread given file P old new →
    IsUntouched old new ⊎ EndsUnread given file Q old new
ends_over given file P Q old new on (inl untouched) = inl untouched
ends_over given file P Q old new on (inr ends) = inr (record {
  failed = ends.failed;
  tool = ends.tool;
  is_tool = ends.is_tool;
  job = ends.job;
  means = ends.means;
  unread = unread_over ends.job P Q old new on ends.unread;
})

runs_after : (line : Option (List ℕ)) (given : Given) (file : IndexFile) (P Q : Option (List ℕ) → Type 0)
    (old new : Surroundings) (outcome : Outcome) → ((index : Option (List ℕ)) → Q index → P index) →
    RunsAfter line given file P old new outcome → RunsAfter line given file Q old new outcome
runs_after (Some line) given file P Q old new outcome on ran = (ran.0, ends_over given file P Q old new on ran.1)
runs_after None given file P Q old new outcome on ran = (ran.0, ran.1, ran.2, ran.3, λ index is. ran.4 index (on index is))

pub runs_over : (given : Given) (file : IndexFile) (P Q : Option (List ℕ) → Type 0) (old new : Surroundings)
    (outcome : Outcome) → ((index : Option (List ℕ)) → Q index → P index) → Runs given file P old new outcome →
    Runs given file Q old new outcome
runs_over given file P Q old new outcome on (inl ran) = inl (runs_after (early_line given file) given file P Q old new outcome on ran)
runs_over given file P Q old new outcome on (inr memory) = inr memory

-- ---- the current folder of a job of cindex

fault_or_ok : (fault : Option WordFault) (job : Result JobView WordFault) (view : JobView) → fault_or fault job ≡ Ok view → job ≡ Ok view
fault_or_ok None job view is = is
fault_or_ok (Some fault) job view is = absurd (let e = is in cc)

search_is : (all : ℕ) (items : List OptionItem) (rest : List (List ℕ)) (job : IndexJob) → search_job all items rest
    ≡ Ok (job_view (Index job)) → ⊥
search_is all items [] job is = let e = is in cc
search_is all items (pattern ∷ []) job is = let e = is in cc
search_is all items (pattern ∷ extra ∷ more) job is = let e = is in cc

grep_is : (items : List OptionItem) (rest : List (List ℕ)) (job : IndexJob) → grep_job items rest ≡ Ok (job_view (Index job)) → ⊥
grep_is items [] job is = let e = is in cc
grep_is items (pattern ∷ files) job is = let e = is in cc

index_folder : (tool : Tool) (cwd : List ℕ) (args : List (List ℕ)) (job : IndexJob) → parse_args tool cwd args
    ≡ Ok (job_view (Index job)) → (tool ≡ Cindex) × (string_bytes job.cwd ≡ cwd)
unfolding parse_args
index_folder Cindex cwd args job is = (refl, let e = fault_or_ok (first_fault Cindex (option_items Cindex args)) _ _ is in cc)
index_folder Csearch cwd args job is = absurd
    (search_is (length args) (option_items Csearch args) _ job
    (fault_or_ok (first_fault Csearch (option_items Csearch args)) _ _ is))
index_folder Cgrep cwd args job is = absurd
    (grep_is (option_items Cgrep args) _ job (fault_or_ok (first_fault Cgrep (option_items Cgrep args)) _ _ is))

absolute_if : (b : Bool) (folder : List ℕ) → is_absolute folder ≡ b → is_none (if b then Some folder else None)
    ≡ false → is_absolute (unwrap_or (if b then Some folder else None) []) ≡ true
absolute_if true folder is some = is
absolute_if false folder is some = absurd (let e = some in cc)

absolute_at : (folder : Option (List ℕ)) →
    is_none (option_and_then (λ folder. if is_absolute folder then Some folder else None) folder) ≡ false →
    is_absolute (unwrap_or (option_and_then (λ folder. if is_absolute folder then Some folder else None) folder) [])
    ≡ true
absolute_at None some = absurd (let e = some in cc)
absolute_at (Some folder) some = absolute_if (is_absolute folder) folder refl some

pub has_folder : (call : Call) (job : IndexJob) → IsCall call → call.job ≡ Ok (Index job) → HasAbsoluteFolder job
has_folder call job is job-is =
    let given = call.given.now in
    let is-meant = meant (meaning given call.tool) (Index job) (subst (GivesJob (meaning given call.tool)) job-is is.job) in
    let at = index_folder call.tool _ _ job is-meant in
    let some = subst (λ tool. lacks_folder given tool ≡ false) at.0 is.folder in
    subst (λ folder. is_absolute folder ≡ true) (sym at.1) (absolute_at (option_map string_bytes given.folder) some)

-- ---- the jobs of cgrep

abbrev pub IsGrepJob : Job → Type 0
IsGrepJob (Index job) = ⊥
IsGrepJob (Search job) = ⊥
IsGrepJob (Grep job) = Unit {0}

is_grep : (items : List OptionItem) (rest : List (List ℕ)) (job : Job) → grep_job items rest ≡ Ok (job_view job) → IsGrepJob job
is_grep items [] job is = absurd (let e = is in cc)
is_grep items (pattern ∷ files) (Index job) is = let e = is in cc
is_grep items (pattern ∷ files) (Search job) is = let e = is in cc
is_grep items (pattern ∷ files) (Grep job) is = tt

means_grep : (tool : Tool) (cwd : List ℕ) (args : List (List ℕ)) (job : Job) → tool ≡ Cgrep → parse_args tool cwd args
    ≡ Ok (job_view job) → IsGrepJob job
unfolding parse_args
means_grep Cgrep cwd args job grep is =
    is_grep (option_items Cgrep args) _ job (fault_or_ok (first_fault Cgrep (option_items Cgrep args)) _ _ is)
means_grep Cindex cwd args job grep is = absurd (let e = grep in cc)
means_grep Csearch cwd args job grep is = absurd (let e = grep in cc)

pub has_grep_job : (call : Call) (job : Job) → IsCall call → call.tool ≡ Cgrep → call.job ≡ Ok job → IsGrepJob job
has_grep_job call job is grep job-is = means_grep call.tool _ _ job grep (call_means call job is job-is)

-- ---- the index file

-- what holds of each index that a store may have holds of the known one
pub of_known : (model : Option (List ℕ)) (index : Option (List ℕ)) (Claim : Option (List ℕ) → Type 0) →
    IsSomeAnd model (λ bytes. index ≡ Some bytes) → IfSome model (λ bytes. Claim (Some bytes)) → Claim index
of_known None index Claim is claim = absurd is
of_known (Some bytes) index Claim is claim = subst Claim (sym is) claim

pub if_ok : {T E : Type 0} (r : Result T E) (P Q : T → Type 0) → ((x : T) → P x → Q x) → IfOk r P → IfOk r Q
if_ok (Ok x) P Q on p = on x p
if_ok (Err fault) P Q on p = tt
