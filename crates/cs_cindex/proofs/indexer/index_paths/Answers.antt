use Rattle.std.proofs.Common.{◌≡◌, ◌∙◌, ℕ, Bool, List, Option, Some, Result, Ok, Err, ap, refl, subst, sym, map, string_bytes, inl, inr}
use Rattle.cs_cindex.proofs.Common.{err_from_is_err_and, Built, CindexFault, Entry, IsBuilt, IsShort, Grows, HaveNamesOf, IsIndexOf, IsLong, IsTreeTooLarge, Memory, Paths, Sent, Snapshot, TakesPrefix, count_if, encoding_of, fault_entry, fault_entry_line, faults_walked, is_failed_write, names_walked, text_of}
use Rattle.cs_tree.specs.PathSet as set
use Rattle.cs_cindex.specs.Effects.{Effects, PrintsWalk, effects}
use Rattle.cs_cindex.specs.IndexedFiles.{FinishesIndex}
use Rattle.cs_cindex.specs.WalkAnswers.{IndexesWalk, IsWalkIndex}
use Rattle.cs_cindex.proofs.ReadLemmas.{tree_kept, tree_read, tree_walked}
use Rattle.cs_cindex.proofs.WalkAnswerLemmas.{end_fault, end_written, nothing_walked, output_failure, walk_failed}
use Rattle.cs_cindex.proofs.WalkIndexLemmas.{index_built, index_is, lies_under, large_found, too_large}
use Rattle.cs_cindex.proofs.WalkOutputLemmas.{files_prefix, large_walked, prefix_files, prefix_left, prefix_whole, texts_walked, walk_printed}
use Rattle.cs_cindex.proofs.indexer.index_paths.Goals as goal

-- the built encoding is that of the given paths
built_is : (tree : Option Snapshot) (paths : Paths) (built given : List (List ℕ)) (entries : List Entry) (bytes : List ℕ) →
    built ≡ given → IsIndexOf tree paths (encoding_of given entries) → bytes ≡ encoding_of built entries →
    IsIndexOf tree paths bytes
built_is tree paths built given entries bytes same is bytes_are = λ modelled.
    bytes_are ∙ ap (λ (ps : List (List ℕ)). encoding_of ps entries) same ∙ is modelled

too_long : (tree : Option Snapshot) (paths : Paths) (built given : List (List ℕ)) (entries : List Entry) → built ≡ given →
    IsIndexOf tree paths (encoding_of given entries) → IsLong (Some (encoding_of built entries)) →
    IsTreeTooLarge tree paths
too_long tree paths built given entries same is long = λ modelled. subst (λ (bytes : List ℕ). IsLong (Some bytes))
    (ap (λ (ps : List (List ℕ)). encoding_of ps entries) same ∙ is modelled) long

-- the end: the index of what was added, or why there is none
ended : (log_skip : Bool) (paths : Paths) (to : Effects) (built : Built) → to.later.failed ≡ to.err.failed →
    PrintsWalk log_skip paths to →
    ((bytes : List ℕ) → IsBuilt built → bytes ≡ encoding_of built.paths built.entries → IsShort (Some bytes) →
    IsWalkIndex to.tree.snapshot paths bytes) →
    (IsLong (Some (encoding_of built.paths built.entries)) → IsTreeTooLarge to.tree.snapshot paths) →
    (r : Result Sent CindexFault) → FinishesIndex built r → IndexesWalk r (λ sent. sent.bytes) log_skip paths to
ended log_skip paths to built written all index large (Ok sent) f = ((index sent.bytes f.0 f.1.0 f.1.1, all), written)
ended log_skip paths to built written all index large (Err fault) f = (
  (
    end_fault fault f.3,
    (λ e. large (f.2 (ap Err e))),
    (λ e. inr all),
    prefix_whole _ _ _ _ _ _ _ all,
  ),
  written ∙ sym (ap (λ b. count_if b to.err.failed) (end_written fault f.3)),
)

-- ---- the tree

pub returns-in_err-indexer-clause-tree : goal.returns-in_err-indexer-clause-tree
returns-in_err-indexer-clause-tree g c =
    tree_kept g.T.Tree.snapshot g.T.Tree.longest_requested g.T.Tree.read_counts c.args.tree.now

pub returns-in_err-walked-clause-tree : goal.returns-in_err-walked-clause-tree
returns-in_err-walked-clause-tree g c =
    tree_walked g.T.Tree.snapshot g.T.Tree.longest_requested g.T.Tree.read_counts c.args.tree.now c.walk.new.tree
    c.walk.ensures.requested c.walk.ensures.counts c.walk.ensures.keeps

pub returns-in_err-print_walk_faults-clause-tree : goal.returns-in_err-print_walk_faults-clause-tree
returns-in_err-print_walk_faults-clause-tree g c =
    tree_walked g.T.Tree.snapshot g.T.Tree.longest_requested g.T.Tree.read_counts c.args.tree.now c.walk.new.tree
    c.walk.ensures.requested c.walk.ensures.counts c.walk.ensures.keeps

pub returns-in_err-index_files-clause-tree : goal.returns-in_err-index_files-clause-tree
returns-in_err-index_files-clause-tree g c =
    tree_read g.T.Tree.snapshot g.T.Tree.longest_requested g.T.Tree.read_counts c.args.tree.now c.walk.new.tree
    c.index_files.new.tree
    (tree_walked g.T.Tree.snapshot g.T.Tree.longest_requested g.T.Tree.read_counts c.args.tree.now c.walk.new.tree
    c.walk.ensures.requested c.walk.ensures.counts c.walk.ensures.keeps) c.index_files.ensures.tree

pub returns-clause-tree : goal.returns-clause-tree
returns-clause-tree g c =
    tree_read g.T.Tree.snapshot g.T.Tree.longest_requested g.T.Tree.read_counts c.args.tree.now c.walk.new.tree
    c.index_files.new.tree
    (tree_walked g.T.Tree.snapshot g.T.Tree.longest_requested g.T.Tree.read_counts c.args.tree.now c.walk.new.tree
    c.walk.ensures.requested c.walk.ensures.counts c.walk.ensures.keeps) c.index_files.ensures.tree

-- ---- what the walk answers

pub returns-in_err-indexer-clause-walk : goal.returns-in_err-indexer-clause-walk
returns-in_err-indexer-clause-walk g c =
    let p = err_from_is_err_and c.from_residual.result c.from_residual.ensures.1 in
    let to = effects g.T.Tree.snapshot g.T.Tree.failed g.E.Sink.model g.E.Sink.failed c.args.tree.now c.args.tree.now
    c.args.err.now c.args.err.now in
    let paths = set.from_list (map string_bytes c.args.paths.now) in
    walk_failed (λ (sent : Sent). sent.bytes) c.args.log_skip paths to c.from_residual.result p.0 Memory p.1
    (p.2 ∙ c.in_err-indexer.ensures.refused)
    (nothing_walked c.args.log_skip paths to.tree.snapshot to.tree.failed to.tree.failed to.err) refl

pub returns-in_err-walked-clause-walk : goal.returns-in_err-walked-clause-walk
returns-in_err-walked-clause-walk g c =
    let p = err_from_is_err_and c.from_residual-in_err-walked.result c.from_residual-in_err-walked.ensures.1 in
    let to = effects g.T.Tree.snapshot g.T.Tree.failed g.E.Sink.model g.E.Sink.failed c.args.tree.now c.walk.new.tree
    c.args.err.now c.args.err.now in
    let paths = set.from_list (map string_bytes c.args.paths.now) in
    walk_failed (λ (sent : Sent). sent.bytes) c.args.log_skip paths to c.from_residual-in_err-walked.result p.0 Memory p.1 p.2
    (nothing_walked c.args.log_skip paths to.tree.snapshot to.tree.failed to.tree.failed_then to.err) refl

pub returns-in_err-print_walk_faults-clause-walk : goal.returns-in_err-print_walk_faults-clause-walk
returns-in_err-print_walk_faults-clause-walk g c =
    let p = err_from_is_err_and c.from_residual-in_err-print_walk_faults.result
    c.from_residual-in_err-print_walk_faults.ensures.1 in
    let to = effects g.T.Tree.snapshot g.T.Tree.failed g.E.Sink.model g.E.Sink.failed c.args.tree.now c.walk.new.tree
    c.args.err.now c.print_walk_faults.new.err in
    let paths = set.from_list (map string_bytes c.args.paths.now) in
    let fault = c.in_err-print_walk_faults.field-0.0 in
    let part = c.in_err-print_walk_faults.ensures.prints in
    let prefix = subst (λ fs. TakesPrefix (text_of (map fault_entry_line (map fault_entry fs)))
    (g.E.Sink.model c.args.err.now) (g.E.Sink.model c.print_walk_faults.new.err)) c.deref.ensures.value part.0 in
    walk_failed (λ (sent : Sent). sent.bytes) c.args.log_skip paths to c.from_residual-in_err-print_walk_faults.result
    p.0 fault p.1 p.2
    (output_failure c.args.log_skip paths to fault part.2
    (prefix_left _ _ _ (names_walked c.in_ok-walked.walked) _ c.requires c.in_ok-walked.ensures.finds _ _ _ _
    c.in_ok-walked.ensures.complete prefix))
    part.1

pub returns-in_err-index_files-clause-walk : goal.returns-in_err-index_files-clause-walk
returns-in_err-index_files-clause-walk g c =
    let p = err_from_is_err_and c.from_residual-in_err-index_files.result c.from_residual-in_err-index_files.ensures.1 in
    let to = effects g.T.Tree.snapshot g.T.Tree.failed g.E.Sink.model g.E.Sink.failed c.args.tree.now c.index_files.new.tree
    c.args.err.now c.index_files.new.err in
    let paths = set.from_list (map string_bytes c.args.paths.now) in
    let fault = c.in_err-index_files.field-0.0 in
    let part = c.in_err-index_files.ensures.indexes in
    let left = faults_walked c.in_ok-walked.walked in
    let names = ap (map string_bytes) c.deref-2.ensures.value in
    let printed = subst (λ fs. Grows (g.E.Sink.model c.args.err.now) (g.E.Sink.model c.print_walk_faults.new.err)
    (text_of (map fault_entry_line (map fault_entry fs)))) c.deref.ensures.value
    c.in_ok-print_walk_faults.ensures.prints.0 in
    let files = files_prefix _ _ _ _ _ _ _ _ _ _ c.in_ok-indexer.ensures.starts.1 c.walk.ensures.keeps names part.0.2 in
    walk_failed (λ (sent : Sent). sent.bytes) c.args.log_skip paths to c.from_residual-in_err-index_files.result
    p.0 fault p.1 p.2 (
      part.0.0,
      (λ e. too_large _ _ _ left c.requires c.in_ok-walked.ensures.finds
          (large_walked _ _ _ _ c.walk.ensures.keeps names (part.0.1 e))),
      (λ e. inl (large_found _ _ _ left c.requires c.in_ok-walked.ensures.finds
          (large_walked _ _ _ _ c.walk.ensures.keeps names (part.0.1 e)))),
      prefix_files _ _ _ _ _ c.requires c.in_ok-walked.ensures.finds _ _ _ _ c.in_ok-walked.ensures.complete _ _
          printed files,
    )
    (part.1 ∙ ap (count_if (is_failed_write fault)) c.in_ok-print_walk_faults.ensures.prints.1)

pub returns-clause-walk : goal.returns-clause-walk
returns-clause-walk g c =
    let to = effects g.T.Tree.snapshot g.T.Tree.failed g.E.Sink.model g.E.Sink.failed c.args.tree.now c.index_files.new.tree
    c.args.err.now c.index_files.new.err in
    let paths = set.from_list (map string_bytes c.args.paths.now) in
    let part = c.in_ok-index_files.ensures.indexes in
    let built = c.index_files.new.self.builder in
    let names = ap (map string_bytes) c.deref-2.ensures.value in
    let same = c.index_files.ensures.paths ∙ c.in_ok-indexer.ensures.paths in
    let is = index_is _ _ _ (faults_walked c.in_ok-walked.walked) c.requires c.in_ok-walked.ensures.finds built.entries
    (texts_walked _ _ _ _ _ c.walk.ensures.keeps names part.0.0) in
    let under = lies_under paths (names_walked c.in_ok-walked.walked) built.entries c.in_ok-walked.ensures.under
    (subst (λ ns. HaveNamesOf ns built.entries) names part.0.1) in
    ended c.args.log_skip paths to built (part.1 ∙ c.in_ok-print_walk_faults.ensures.prints.1)
    (walk_printed _ _ _ _ _ _ _ _ _ _ _ _ _ _ _ c.requires c.in_ok-walked.ensures.finds
    c.in_ok-walked.ensures.complete c.deref.ensures.value c.in_ok-print_walk_faults.ensures.prints.0
    c.in_ok-indexer.ensures.starts.1 c.walk.ensures.keeps names part.0.2)
    (λ bytes sound are short. (
      built_is to.tree.snapshot paths built.paths (map string_bytes c.args.paths.now) built.entries bytes same is are,
      index_built _ _ _ same sound under are,
      short,
    ))
    (too_long to.tree.snapshot paths built.paths (map string_bytes c.args.paths.now) built.entries same is)
    c.finish_into.result c.finish_into.ensures.finishes
