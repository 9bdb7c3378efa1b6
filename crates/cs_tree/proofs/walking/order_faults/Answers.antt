use Rattle.std.proofs.Common.{rules, ◌≡◌, List, [], ◌∷◌, ℕ, map, refl, sym, ap, subst, ◌∙◌}
use Rattle.cs_tree.specs.NamesAscending.{are_ascending}
use Rattle.std.proofs.lemmas.Fn.{dedup_same}
use Rattle.std.proofs.lemmas.List.MinMax.{ranks_by}
use Rattle.std.proofs.lemmas.List.Sorted.{list_any-IsPermutation, answers_always}
use Rattle.std.specs.Prelude.{string_bytes, String, Contains, IsPermutation, bytes_eq}
use Rattle.std.specs.Cmp.Lexicographic.{nat_list_cmp_total}
use Rattle.std.specs.List.{list_any, dedup}
use Rattle.std.specs.Ordering.{is_lt}
use Rattle.std.specs.declared.alloc.Global.{Global}
use Rattle.cs_tree.specs.Walks.{FaultEntry, is_among, fault_paths, fault_entry}
use Rattle.cs_tree.specs.declared.walking.WalkFault.{WalkFault}
use Rattle.cs_tree.proofs.SortLemmas.{sorted_once, once_same, same_key, by_key, kept_once}
use Rattle.cs_tree.proofs.FaultCountLemmas.{whole_once}
use Rattle.cs_tree.proofs.NameLemmas.{list_any-map}
use Rattle.cs_tree.proofs.walking.order_faults.Goals as goal

abbrev Entry : Type 0
Entry = String Global × WalkFault

abbrev path_of : Entry → List ℕ
path_of entry = string_bytes entry.0

paths_seen : (entries : List Entry) → fault_paths (map fault_entry entries) ≡ map path_of entries
paths_seen [] = refl
paths_seen (entry ∷ entries) = ap (λ paths. path_of entry ∷ paths) (paths_seen entries)

pub returns-clause-ascend : goal.returns-clause-ascend
returns-clause-ascend c =
    let sorted = c.sort_unstable_by.new.self.items in
    let once : c.dedup_by.new.self.items ≡ dedup (same_key path_of) sorted =
    dedup_same _ (same_key path_of) _ (λ x y b f' x' y' h. search rules) sorted _ c.dedup_by.ensures.filtered in
    let up = c.sort_unstable_by.ensures.sorted (λ x y. is_lt (by_key path_of x y)) (ranks_by nat_list_cmp_total path_of)
    (answers_always _ _ _ (λ f a r g h. search rules)) in
    ap are_ascending (paths_seen c.dedup_by.new.self.items) ∙ ap (λ entries. are_ascending (map path_of entries)) once
    ∙ sorted_once path_of sorted up

pub returns-clause-same : goal.returns-clause-same
returns-clause-same c =
    let sorted = c.sort_unstable_by.new.self.items in
    let once : c.dedup_by.new.self.items ≡ dedup (same_key path_of) sorted =
    dedup_same _ (same_key path_of) _ (λ x y b f' x' y' h. search rules) sorted _ c.dedup_by.ensures.filtered in
    λ path.
    ap (λ paths. is_among paths path) (paths_seen c.dedup_by.new.self.items)
    ∙ list_any-map path_of (λ other. bytes_eq other path) c.dedup_by.new.self.items
    ∙ ap (list_any (λ x. bytes_eq (path_of x) path)) once
    ∙ once_same path_of (λ q. bytes_eq q path) sorted
    ∙ sym (list_any-IsPermutation (λ x. bytes_eq (path_of x) path) c.args.faults.now.items sorted c.sort_unstable_by.ensures.permutation)
    ∙ sym (list_any-map path_of (λ other. bytes_eq other path) c.args.faults.now.items)
    ∙ ap (λ paths. is_among paths path) (sym (paths_seen c.args.faults.now.items))

pub returns-clause-kept : goal.returns-clause-kept
returns-clause-kept c =
    let sorted = c.sort_unstable_by.new.self.items in
    let once : c.dedup_by.new.self.items ≡ dedup (same_key path_of) sorted =
    dedup_same _ (same_key path_of) _ (λ x y b f' x' y' h. search rules) sorted _ c.dedup_by.ensures.filtered in
    λ left h.
    kept_once fault_entry (λ (x y : FaultEntry). bytes_eq x.0 y.0) c.args.faults.now.items sorted left
    c.sort_unstable_by.ensures.permutation
    (subst (λ entries. Contains (map fault_entry entries) left) once h)

pub returns-clause-whole : goal.returns-clause-whole
returns-clause-whole c =
    let sorted = c.sort_unstable_by.new.self.items in
    let once : c.dedup_by.new.self.items ≡ dedup (same_key path_of) sorted =
    dedup_same _ (same_key path_of) _ (λ x y b f' x' y' h. search rules) sorted _ c.dedup_by.ensures.filtered in
    λ fault_once.
    subst (λ entries. IsPermutation (map fault_entry c.args.faults.now.items) (map fault_entry entries)) (sym once)
    (whole_once fault_entry c.args.faults.now.items sorted c.sort_unstable_by.ensures.permutation fault_once)
