use Rattle.std.proofs.Common.{◌≡◌, ◌∙◌, ◌++◌, ℕ, List, [], map, ap, sym, subst, refl, false, Option, Some, None, Result, Ok, Err, string_bytes, IfErr, IfOk, IsSomeAnd, MatchResult}
use Rattle.cs_cindex.proofs.Common.{Grows-same, IoFault, Paths, are_ascending, least, Snapshot, Sent, CindexFault, Write, Memory, IndexJob, Output, AreCleaned, starts, IsOwnIndex, IsReducedIndex, paths_of_job, IsFit, IsFitFor, TableParts, WalkPrints, UnreadPrints, after, before, count_if, is_failed_write, IsWalkFault, IsOutputFault, EarlyOr, base_fault, opening_fault, unfit_parts_fault}
use Rattle.cs_tree.specs.FailureCount.{count_after}
use Rattle.cs_tree.specs.PathSet as set
use Rattle.cs_tree.specs.declared.fault.IoFault.TheVariants.{Failed}
use Rattle.cs_index.specs.Opening.{opening}
use Rattle.cs_cindex.specs.BaseReads.{AnswersMerge, OnlyReads, OpensBase}
use Rattle.cs_cindex.specs.Effects.{Effects, PrintsWalk, effects}
use Rattle.cs_cindex.specs.JobPaths.{walk_starts}
use Rattle.cs_cindex.specs.OldIndex.{IsIndex}
use Rattle.cs_cindex.specs.WalkAnswers.{AnswersWalk, IsWalkFailure, IsWalkIndex, WalksOver}
use Rattle.cs_cindex.proofs.JobOutputLemmas.{nothing_printed, start_walk, prefix_over, whole_over, prints_over}
use Rattle.cs_cindex.proofs.StoredIndexLemmas.{known_bytes, stands_open}
use Rattle.cs_cindex.proofs.WalkAnswerLemmas.{over_bytes}
use Rattle.cs_cindex.proofs.WalkedPathLemmas.{sound_own, start_paths, walk_as_set}
use Rattle.cs_cindex.proofs.NextIndexLemmas.{own_index, next_extended, index_refusal, merge_refused, reduced_index, replacing_index}
use Rattle.cs_merge.specs.Replacing.{is_replaced}
use Rattle.cs_tree.proofs.ReduceLemmas.{items_ascend}
use Rattle.cs_cindex.proofs.walked.extended_index.Goals.{in-Ok-index_paths, in-Err-index_paths}
use Rattle.cs_cindex.proofs.walked.extended_index.Goals as goal

-- ---- over bytes of the old index that are known

module _ (job : IndexJob) (old : List ℕ) (tables : TableParts) (fit : IsFitFor old tables) where
  opens : opening old ≡ Ok fit.parts
  opens = stands_open old _ fit.parts fit.are.stands

  good : base_fault job (Some old) ≡ None
  good = ap (opening_fault unfit_parts_fault) opens ∙ fit.fit

  -- the walked paths are those of the job
  walked_as : (ts paths : List (List ℕ)) → AreCleaned job ts → paths ≡ set.items (walk_starts ts tables.paths) →
      set.from_list paths ≡ paths_of_job job (Some old)
  walked_as ts paths clean e = start_walk job old fit.parts ts paths clean opens
      (subst (λ ps. paths ≡ set.items (least (set.from_list (starts ts ps)))) fit.are.stands.paths e)

  -- the job fails later
  late : (tree : Option Snapshot) (fault : CindexFault) → IsWalkFault job tree (Some old) fault →
      EarlyOr (base_fault job (Some old)) (IsWalkFault job tree (Some old) fault) fault
  late tree fault is = subst (λ (o : Option CindexFault). EarlyOr o (IsWalkFault job tree (Some old) fault) fault) (sym good) is

  -- out of memory before the walk
  unstarted : (tree : Option Snapshot) (n : ℕ) (err : Output) → AnswersWalk job (Some old) (base_fault job (Some old))
      (record { tree = record { snapshot = tree; failed = n; failed_then = n }; err = err; later = err }) (Err Memory)
  unstarted tree n err = (
    tt,
    late tree Memory tt,
    nothing_printed (base_fault job (Some old)) Memory job tree (Some old) n err refl
        (subst (λ (o : Option CindexFault). EarlyOr o (IsOutputFault Memory) Memory) (sym good) tt),
  )

  -- the walk fails
  unindexed : (to : Effects) (paths : Paths) (fault : CindexFault) → paths ≡ paths_of_job job (Some old) →
      IsWalkFailure job.log_skip paths to fault → to.later.failed ≡ count_if (is_failed_write fault) to.err.failed →
      AnswersWalk job (Some old) (base_fault job (Some old)) to (Err fault)
  unindexed to paths fault walked failure counted = (
    tt,
    late to.tree.snapshot fault (index_refusal job to.tree.snapshot (Some old) paths fault walked failure.0 failure.1),
    prefix_over job to.tree paths (Some old) to.err to.later walked (base_fault job (Some old)) fault good failure.0
        counted failure.2 failure.3,
  )

  -- ---- after the merge

  abbrev Merged : List ℕ → Result (Result Sent CindexFault) IoFault → Type 0
  Merged newer r = IfOk r (AnswersMerge fit.parts (opening newer))

  module _ (to : Effects) (newer : List ℕ) (own : IsOwnIndex job to.tree.snapshot (Some old) newer)
      (all : WalkPrints job to.tree (Some old) to.err to.later) where
    merged_answers : (r : Result (Result Sent CindexFault) IoFault) → Merged newer r →
        IfOk r (AnswersWalk job (Some old) (base_fault job (Some old)) to)
    merged_answers (Ok (Ok index)) m =
        (next_extended job to.tree.snapshot old fit.parts newer index.bytes opens own m.merges m.short, good, all)
    merged_answers (Ok (Err fault)) m = (
      tt,
      late to.tree.snapshot fault
          (merge_refused job to.tree.snapshot old fit.parts newer opens own
          (sound_own (paths_of_job job (Some old)) newer own.index own.short) fault m),
      whole_over job to.tree (paths_of_job job (Some old)) (Some old) to.err to.later refl (base_fault job (Some old)) fault
          good all,
    )
    merged_answers (Err fault) m = tt

-- ---- what opening has answered

late_output : (job : IndexJob) (tree : Option Snapshot) (old : Option (List ℕ)) (fault : CindexFault) →
    IsOutputFault fault → IsWalkFault job tree old fault
late_output job tree old Write is = tt
late_output job tree old Memory is = tt
late_output job tree old _ is = absurd is

refused : (job : IndexJob) (tree : Option Snapshot) (old : Option (List ℕ)) (early : Option CindexFault)
    (fault : CindexFault) → EarlyOr early (IsOutputFault fault) fault → EarlyOr early (IsWalkFault job tree old fault)
    fault
refused job tree old None fault is = late_output job tree old fault is
refused job tree old (Some early) fault is = is

-- what was printed, and the counted failures, whatever the merge answers
ends : (job : IndexJob) (to : Effects) (IsOld : Option (List ℕ) → Type 0) →
    UnreadPrints job to.tree IsOld to.err to.later → to.later.failed ≡ to.err.failed →
    (r : Result (Result Sent CindexFault) IoFault) → OnlyReads r →
    MatchResult r (λ walked. to.later.failed ≡ count_after is_failed_write walked to.err.failed)
    (λ fault. (fault ≡ Failed) × UnreadPrints job to.tree IsOld to.err to.later × (to.later.failed ≡ to.err.failed))
ends job to IsOld prints writes (Ok (Ok index)) reads = writes
ends job to IsOld prints writes (Ok (Err fault)) reads = writes ∙ sym (ap (λ b. count_if b to.err.failed) reads)
ends job to IsOld prints writes (Err fault) reads = (reads, prints, writes)

-- ---- over a base index whose bytes may be unknown

module _ (model : Option (List ℕ)) (job : IndexJob) (tables : TableParts)
    (fits : (old : List ℕ) → model ≡ Some old → IsFitFor old tables) (ts paths : List (List ℕ))
    (clean : AreCleaned job ts) (e : paths ≡ set.items (walk_starts ts tables.paths)) (to : Effects) where
  abbrev IsOld : Option (List ℕ) → Type 0
  IsOld index = IsSomeAnd model (λ bytes. index ≡ Some bytes)

  abbrev starting : Paths
  starting = set.from_list paths

  failed_over : (fault : CindexFault) → IsWalkFailure job.log_skip starting to fault →
      to.later.failed ≡ count_if (is_failed_write fault) to.err.failed →
      WalksOver job IsOld (λ index. index) (base_fault job) to (Ok (Err fault))
  failed_over fault failure counted = (
    over_bytes (λ index. AnswersWalk job index (base_fault job index) to (Err fault)) model
        (λ old known. let fit = fits old known in
        unindexed job old tables fit to starting fault (walked_as job old tables fit ts paths clean e) failure counted),
    counted,
  )

  answered_over : (newer : List ℕ) → IsWalkIndex to.tree.snapshot starting newer → PrintsWalk job.log_skip starting to →
      to.later.failed ≡ to.err.failed → (r : Result (Result Sent CindexFault) IoFault) →
      ((old : List ℕ) (known : model ≡ Some old) → IfOk r (AnswersMerge (fits old known).parts (opening newer))) →
      OnlyReads r → WalksOver job IsOld (λ index. index) (base_fault job) to r
  answered_over newer index prints counted r merged reads = (
    over_bytes (λ index. IfOk r (AnswersWalk job index (base_fault job index) to)) model
        (λ old known.
        let fit = fits old known in
        let walked = walked_as job old tables fit ts paths clean e in
        merged_answers job old tables fit to newer
        (own_index job to.tree.snapshot (Some old) starting newer walked index.1 index.0 index.2)
        (prints_over job to.tree starting (Some old) to.err to.later walked prints) r (merged old known)),
    ends job to IsOld
        (after starting
        (λ index is.
        let k = known_bytes model index is in
        walked_as job k.bytes tables (fits k.bytes k.model_is) ts paths clean e ∙ ap (paths_of_job job) (sym k.index_is))
        prints)
        counted r reads,
  )

-- ---- the clauses

pub returns-in-Ok-Err-clause-walk : goal.returns-in-Ok-Err-clause-walk
returns-in-Ok-Err-clause-walk g c =
    let job = c.args.call.job.now in
    let fault = c.in-Ok-Err.fault in
    let to = effects g.T.Tree.snapshot g.T.Tree.failed g.E.Sink.model g.E.Sink.failed c.args.tree.now c.args.tree.now
    c.args.err.now c.args.err.now in
    let written = subst (λ (r : Result TableParts CindexFault). IfErr r (λ fault. is_failed_write fault ≡ false))
    c.in-Ok-Err.field-0-is c.in-Ok-Err.ensures.reads in (
      over_bytes (λ index. AnswersWalk job index (base_fault job index) to (Err fault)) (g.S.Store.model c.args.store.now)
          (λ old known.
          let early = subst (OpensBase old) c.in-Ok-Err.field-0-is (c.in-Ok-Err.ensures.opened old known) in (
            tt,
            refused job to.tree.snapshot (Some old) (opening_fault unfit_parts_fault (opening old)) fault early,
            nothing_printed (opening_fault unfit_parts_fault (opening old)) fault job to.tree.snapshot (Some old)
                to.tree.failed to.err written early,
          )),
      sym (ap (λ b. count_if b to.err.failed) written),
    )

pub returns-in-Err-clause-walk : goal.returns-in-Err-clause-walk
returns-in-Err-clause-walk g c = ((λ index is. tt), (c.in-Err.ensures.reads, before (Grows-same _, refl), refl))

-- the index in memory
in_memory : (sent first bytes : List ℕ) → first ≡ [] → bytes ≡ first ++ sent → sent ≡ bytes
in_memory sent first bytes none appended = sym (appended ∙ ap (λ (l : List ℕ). l ++ sent) none)

-- ---- over the opened base index

base_fits : (model : Option (List ℕ)) (opened : Result TableParts CindexFault) (base tables : TableParts) → opened ≡ Ok base →
    tables ≡ base → ((old : List ℕ) → model ≡ Some old → OpensBase old opened) → (old : List ℕ) → model ≡ Some old →
    IsFitFor old tables
base_fits model opened base tables is same opens old known = subst (IsFitFor old) (sym same) (subst (OpensBase old) is (opens old known))

fit_tables : (opened : Result TableParts CindexFault) (base tables : TableParts) → opened ≡ Ok base → tables ≡ base →
    IfOk opened IsFit → IsFit tables
fit_tables opened base tables is same fit = subst IsFit (sym same) (subst (λ r. IfOk r IsFit) is fit)

pub returns-in-Err-paths_to_walk-clause-walk : goal.returns-in-Err-paths_to_walk-clause-walk
returns-in-Err-paths_to_walk-clause-walk g c =
    let job = c.args.call.job.now in
    let tables = c.tables-tables.result in
    let to = effects g.T.Tree.snapshot g.T.Tree.failed g.E.Sink.model g.E.Sink.failed c.args.tree.now c.args.tree.now
    c.args.err.now c.args.err.now in (
      over_bytes (λ index. AnswersWalk job index (base_fault job index) to (Err Memory)) (g.S.Store.model c.args.store.now)
          (λ old known.
          let fit = base_fits _ _ _ tables c.in-Ok-Ok.field-0-is c.tables-tables.ensures c.in-Ok-Ok.ensures.opened old known in
          unstarted job old tables fit to.tree.snapshot to.tree.failed to.err),
      refl,
    )

pub is_replaced-requires : goal.is_replaced-requires
is_replaced-requires g c =
    ap are_ascending (ap (λ ps. map string_bytes ps) c.deref.ensures.value ∙ c.in-Ok.ensures)
    ∙ items_ascend (walk_starts (map string_bytes c.args.given.now) c.tables-tables.result.paths)

pub index_paths-requires : goal.index_paths-requires
index_paths-requires g c =
    start_paths c.args.call.job.now c.tables-tables.result.paths (map string_bytes c.args.given.now)
    (map string_bytes c.deref-then-is_replaced.result.now) c.requires
    (fit_tables _ _ c.tables-tables.result c.in-Ok-Ok.field-0-is c.tables-tables.ensures c.in-Ok-Ok.ensures.fit).normalized
    (ap (λ ps. map string_bytes ps) c.deref-then-is_replaced.ensures.value ∙ c.in-Ok.ensures)

pub index_paths-requires-2 : goal.index_paths-requires-2
index_paths-requires-2 g c =
    start_paths c.args.call.job.now c.tables-tables.result.paths (map string_bytes c.args.given.now)
    (map string_bytes c.deref-2.result.now) c.requires
    (fit_tables _ _ c.tables-tables.result c.in-Ok-Ok.field-0-is c.tables-tables.ensures c.in-Ok-Ok.ensures.fit).normalized
    (ap (λ ps. map string_bytes ps) c.deref-2.ensures.value ∙ c.in-Ok.ensures)

-- ---- the walk covers the base index

pub replace_old-requires-clause-newer : goal.replace_old-requires-clause-newer
replace_old-requires-clause-newer g c =
    let texts = starts (map string_bytes c.args.given.now) c.tables-tables.result.paths in
    let index = c.in-Ok-index_paths.ensures.walk.0.0 in
    let walked = walk_as_set (map string_bytes c.deref-then-is_replaced.result.now) texts
    (ap (λ ps. map string_bytes ps) c.deref-then-is_replaced.ensures.value ∙ c.in-Ok.ensures) in
    let same = ap (λ ps. set.from_list (map string_bytes ps)) (c.deref-then-is_replaced.ensures.value ∙ sym c.deref.ensures.value) in
    replacing_index _ (set.from_list texts) c.in-Ok-index_paths.index.bytes c.tables-tables.result walked index.1 index.2
    (λ base parts are. ap (λ ps. is_replaced ps parts) same ∙ sym (c.is_replaced.ensures base parts are) ∙ c.if-is_replaced.true)

pub returns-then-is_replaced-clause-walk : goal.returns-then-is_replaced-clause-walk
returns-then-is_replaced-clause-walk g c =
    let job = c.args.call.job.now in
    let tables = c.tables-tables.result in
    let to = effects g.T.Tree.snapshot g.T.Tree.failed g.E.Sink.model g.E.Sink.failed c.args.tree.now
    c.index_paths.new.tree c.args.err.now c.index_paths.new.err in
    let model = g.S.Store.model c.args.store.now in
    let fits = base_fits model _ _ tables c.in-Ok-Ok.field-0-is c.tables-tables.ensures c.in-Ok-Ok.ensures.opened in
    let paths = map string_bytes c.deref-then-is_replaced.result.now in
    let are = ap (λ ps. map string_bytes ps) c.deref-then-is_replaced.ensures.value ∙ c.in-Ok.ensures in
    let Walks = λ (r : Result (Result Sent CindexFault) IoFault). WalksOver job (IsIndex g.S.Store.model (Some c.args.store.now)) (λ index. index) (base_fault job) to r in
    elim c.match-index_paths.branch [
      | in-Ok-index_paths w ↦
          let part = w.in-Ok-index_paths.ensures.walk in
          subst Walks (sym w.result-is)
          (answered_over model job tables fits (map string_bytes c.args.given.now) paths c.requires are to
          w.in-Ok-index_paths.index.bytes part.0.0 part.0.1 part.1 w.replace_old.result
          (λ old known. let fit = fits old known in
          w.replace_old.ensures.merged old (c.open_old.ensures.store.0 ∙ known) fit.parts fit.are)
          w.replace_old.ensures.reads)
      | in-Err-index_paths w ↦
          let part = w.in-Err-index_paths.ensures.walk in
          subst Walks (sym w.result-is)
          (failed_over model job tables fits (map string_bytes c.args.given.now) paths c.requires are to
          w.in-Err-index_paths.fault part.0 part.1)
    ]

-- ---- the walk is merged

pub merge_old-requires-clause-newer : goal.merge_old-requires-clause-newer
merge_old-requires-clause-newer g c =
    let started = set.from_list (starts (map string_bytes c.args.given.now) c.tables-tables.result.paths) in
    let index = c.in-Ok-index_paths-2.ensures.walk.0.0 in
    let walked = walk_as_set (map string_bytes c.deref-2.result.now) (starts (map string_bytes c.args.given.now) c.tables-tables.result.paths)
    (ap (λ ps. map string_bytes ps) c.deref-2.ensures.value ∙ c.in-Ok.ensures) in
    subst IsReducedIndex
    (in_memory c.in-Ok-index_paths-2.field-0.bytes c.new-newer.result.items c.index_paths-2.new.new.items
    c.new-newer.ensures.items c.in-Ok-index_paths-2.ensures.sends.0 ∙ sym c.deref-in-Ok-index_paths-2.ensures.value)
    (reduced_index _ started c.in-Ok-index_paths-2.field-0.bytes walked index.1 index.2)

pub returns-in-Ok-index_paths-2-clause-walk : goal.returns-in-Ok-index_paths-2-clause-walk
returns-in-Ok-index_paths-2-clause-walk g c =
    let job = c.args.call.job.now in
    let tables = c.tables-tables.result in
    let to = effects g.T.Tree.snapshot g.T.Tree.failed g.E.Sink.model g.E.Sink.failed c.args.tree.now
    c.index_paths-2.new.tree c.args.err.now c.index_paths-2.new.err in
    let model = g.S.Store.model c.args.store.now in
    let fits = base_fits model _ _ tables c.in-Ok-Ok.field-0-is c.tables-tables.ensures c.in-Ok-Ok.ensures.opened in
    let part = c.in-Ok-index_paths-2.ensures.walk in
    let same = in_memory c.in-Ok-index_paths-2.field-0.bytes c.new-newer.result.items c.index_paths-2.new.new.items
    c.new-newer.ensures.items c.in-Ok-index_paths-2.ensures.sends.0 ∙ sym c.deref-in-Ok-index_paths-2.ensures.value in
    let starting = set.from_list (map string_bytes c.deref-2.result.now) in
    answered_over model job tables fits (map string_bytes c.args.given.now) (map string_bytes c.deref-2.result.now) c.requires
    (ap (λ ps. map string_bytes ps) c.deref-2.ensures.value ∙ c.in-Ok.ensures) to c.deref-in-Ok-index_paths-2.result.now
    (subst (IsWalkIndex to.tree.snapshot starting) same part.0.0) part.0.1 part.1 c.merge_old.result
    (λ old known. let fit = fits old known in
    c.merge_old.ensures.merged old (c.open_old.ensures.store.0 ∙ known) fit.parts fit.are)
    c.merge_old.ensures.reads

pub returns-clause-walk : goal.returns-clause-walk
returns-clause-walk g c =
    let tables = c.tables-tables.result in
    let to = effects g.T.Tree.snapshot g.T.Tree.failed g.E.Sink.model g.E.Sink.failed c.args.tree.now
    c.index_paths-2.new.tree c.args.err.now c.index_paths-2.new.err in
    let part = c.in-Err-index_paths-2.ensures.walk in
    failed_over (g.S.Store.model c.args.store.now) c.args.call.job.now tables
    (base_fits _ _ _ tables c.in-Ok-Ok.field-0-is c.tables-tables.ensures c.in-Ok-Ok.ensures.opened)
    (map string_bytes c.args.given.now) (map string_bytes c.deref-2.result.now) c.requires
    (ap (λ ps. map string_bytes ps) c.deref-2.ensures.value ∙ c.in-Ok.ensures) to c.in-Err-index_paths-2.fault part.0 part.1
