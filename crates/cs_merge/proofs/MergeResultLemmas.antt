-- Results of the merge.
use Rattle.std.proofs.Common.{◌≡◌, ℕ, ◌<◌, true, ◌&&◌, List, length, Result, Ok, Err, ap, sym, subst, ◌∙◌, IfOk, IfErr, MatchResult}
use Rattle.cs_merge.proofs.Common.{and_from, and_parts, is_covered, are_distinct, encoding_of, Parts, are_whole, paths_in, entries_of, Written, entries_written, MergeFault, merge_index, AreTested, merge_paths, NewIds, AreIdMaps, AreMergedNames, IsListsFault, IsMerged, IsMergeFault, damaged, long, refused, SortedNames, AreTestedNames, AreAllMerged}
use Rattle.cs_tree.specs.declared.output.Sent.{Sent}
use Rattle.cs_tree.specs.PathSet as set
use Rattle.cs_merge.specs.ListsFault.{damaged as lists_damaged, long as lists_long, refused as lists_refused}
use Rattle.cs_merge.proofs.MergedFilesLemmas.{AreWritten, all_covered, written_merged}
use Rattle.cs_merge.proofs.NameMergeLemmas.{id_maps}
use Rattle.cs_merge.proofs.SortedNamesLemmas.{sorted_distinct}
use Rattle.cs_merge.specs.declared.fault.MergeFault.TheVariants.{Memory}
use Rattle.cs_merge.specs.Begun.{IsBegun}
use Rattle.cs_merge.specs.MergeResult.{IsIndexWithin, IsBuildFault, too_long, memory}

-- ---- results

module _ (old newer : Parts) (most : ℕ) where
  abbrev pub Says : Result Sent MergeFault → Type 0
  Says answer = MatchResult answer (λ index. IsMerged old newer most index.bytes) (λ fault. IsMergeFault old newer most fault)

  pub built_says : (answer : Result Sent MergeFault) (index : List ℕ) → index ≡ merge_index old newer →
      AreTested old newer → are_whole old ≡ true → are_whole newer ≡ true →
      IfOk answer (λ bytes. IsIndexWithin most index bytes.bytes) →
      IfErr answer (λ fault. IsBuildFault most index fault) → Says answer
  built_says (Ok bytes) index is tested a b ok err =
      record {
        mergeable = record { tested = tested; whole = and_from (are_whole old) (are_whole newer) a b };
        index =
            record { are = ok.are ∙ is; short = ok.short };
      }
  built_says (Err fault) index is tested a b ok err = elim err [
    | too_long e more ↦ long e (record { tested = tested; whole = and_from (are_whole old) (are_whole newer) a b })
        (subst (λ (bytes : List ℕ). most < length bytes) is more)
    | memory e ↦ refused e (λ up. tested)
  ]

-- ---- an index that is begun

module _ (old newer : Parts) (older_sorted newer_sorted : SortedNames)
    (tested : AreTestedNames old.names newer older_sorted newer_sorted) where
  are_tested : AreTested old newer
  are_tested = record {
    distinct = and_from (are_distinct old.names) (are_distinct newer.names)
        (ap are_distinct (sym tested.older_names) ∙ sorted_distinct older_sorted tested.older)
        (ap are_distinct (sym tested.newer_names) ∙ sorted_distinct newer_sorted tested.newer);
    covered = tested.covered;
  }

  -- why names that pass the tests are not merged
  pub begin_fails : (most : ℕ) (fault : MergeFault) → fault ≡ Memory → IsMergeFault old newer most fault
  begin_fails most fault is = refused is (λ up. are_tested)

  pub is_begun : (output : Written) (older_ids newer_ids : NewIds) →
      output.paths ≡ set.items (merge_paths (paths_in old) (paths_in newer)) →
      AreMergedNames (is_covered (paths_in newer)) older_sorted.names newer.names output.names older_ids newer_ids →
      IsBegun old newer output older_ids newer_ids
  is_begun output older_ids newer_ids paths named = record {
    tested = are_tested;
    paths = paths;
    named = subst (λ (names : List (List ℕ)). AreMergedNames (is_covered (paths_in newer)) names newer.names
        output.names older_ids newer_ids) tested.older_names named;
  }

-- an old index with the same paths and names
pub begun_of : (known old newer : Parts) (output : Written) (older_ids newer_ids : NewIds) → known.paths ≡ old.paths →
    known.names ≡ old.names → IsBegun known newer output older_ids newer_ids →
    IsBegun old newer output older_ids newer_ids
begun_of known old newer output older_ids newer_ids paths names begun = record {
  tested = record {
    distinct = subst (λ (ns : List (List ℕ)). (are_distinct ns && are_distinct newer.names) ≡ true) names
        begun.tested.distinct;
    covered = begun.tested.covered;
  };
  paths = begun.paths ∙ ap (λ (ps : List (List ℕ)). set.items (merge_paths (set.from_list ps) (paths_in newer))) paths;
  named = subst (λ (ns : List (List ℕ)). AreMergedNames (is_covered (paths_in newer)) ns newer.names output.names
      older_ids newer_ids) names begun.named;
}

module _ (old newer : Parts) (output : Written) (older_ids newer_ids : NewIds)
    (begun : IsBegun old newer output older_ids newer_ids) where
  -- both maps map into the names that are written
  pub begun_maps : AreIdMaps (length output.names) older_ids newer_ids
  begun_maps =
      let both = and_parts (are_distinct old.names) (are_distinct newer.names) begun.tested.distinct in
      id_maps (is_covered (paths_in newer)) old.names newer.names output.names older_ids newer_ids begun.named both.0
      both.1 (all_covered newer begun.tested.covered)

  module _ (most : ℕ) where
    -- an error of the merge of its lists
    pub lists_fail : (fault : MergeFault) → IsListsFault old newer older_ids newer_ids output most fault →
        IsMergeFault old newer most fault
    lists_fail fault (lists_damaged is fails) = damaged is begun.tested fails
    lists_fail fault (lists_refused is) = refused is (λ up. begun.tested)
    lists_fail fault (lists_long is whole more) =
        let written : AreWritten old newer output.names older_ids newer_ids more.lists =
        record { named = begun.named; older_sets = more.older_sets; newer_sets = more.newer_sets } in
        long is (record { tested = begun.tested; whole = whole })
        (subst (λ (bytes : List ℕ). most < length bytes)
        (ap (λ ps. encoding_of ps (entries_of 0 output.names more.lists)) begun.paths
        ∙ written_merged old newer output.names older_ids newer_ids more.lists written begun.tested) more.long)

    -- its encoding, once all lists are merged
    pub lists_built : (answer : Result Sent MergeFault) (now : Written) → now.paths ≡ output.paths → now.names
        ≡ output.names → AreAllMerged old newer older_ids newer_ids now.lists
        → IfOk answer (λ bytes. IsIndexWithin most (encoding_of now.paths (entries_written now)) bytes.bytes) →
        IfErr answer (λ fault. IsBuildFault most (encoding_of now.paths (entries_written now)) fault) →
        Says old newer most answer
    lists_built answer now same_paths same_names all ok err =
        let whole = and_parts (are_whole old) (are_whole newer) all.whole in
        let written : AreWritten old newer output.names older_ids newer_ids now.lists =
        record { named = begun.named; older_sets = all.older_sets; newer_sets = all.newer_sets } in
        let there : now.paths ≡ set.items (merge_paths (paths_in old) (paths_in newer)) = same_paths ∙ begun.paths in
        built_says old newer most answer (encoding_of now.paths (entries_written now))
        ((λ i. encoding_of (there i) (entries_of 0 (same_names i) now.lists))
        ∙ written_merged old newer output.names older_ids newer_ids now.lists written begun.tested)
        begun.tested whole.0 whole.1 ok err
