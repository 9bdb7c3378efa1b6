-- Examples of walks, by computation.
use Rattle.std.proofs.Common.{◌≡◌, true, false, [], ◌∷◌, Some, None, refl}
use Rattle.cs_tree.specs.NamesAscending.{are_ascending}
use Rattle.std.specs.Prelude.{codes}
use Rattle.cs_tree.specs.Reachability.{is_excluded}
use Rattle.cs_tree.specs.Snapshot.{folder, cut, other, bad, missing}
use Rattle.cs_tree.specs.Walks.{path_fault, is_file, is_among, fault_among, are_alone, failures_walked}
use Rattle.cs_tree.specs.WalkSteps.{times_covered, fault_count}
use Rattle.cs_tree.specs.declared.fault.TreeFault.TheVariants.{Missing, Denied}
use Rattle.cs_tree.specs.declared.walking.WalkFault.TheVariants.{Tree, Unnamed, TooLong}

a_leading_dot_is_excluded : is_excluded (codes ".a") ≡ true
a_leading_dot_is_excluded = refl

a_trailing_tilde_is_excluded : is_excluded (codes "d~") ≡ true
a_trailing_tilde_is_excluded = refl

an_inner_tilde_is_not_excluded : is_excluded (codes "d~e") ≡ false
an_inner_tilde_is_not_excluded = refl

a_missing_path_has_a_fault : path_fault (codes "/v") (bad missing) ≡ Some (Tree Missing)
a_missing_path_has_a_fault = refl

a_folder_with_a_non_text_name_has_a_fault : path_fault (codes "/t") (folder (codes "a" ∷ []) true) ≡ Some Unnamed
a_folder_with_a_non_text_name_has_a_fault = refl

a_link_has_no_fault : path_fault (codes "/t/o") other ≡ None
a_link_has_no_fault = refl

a_link_is_no_file : is_file other ≡ false
a_link_is_no_file = refl

a_cut_file_is_a_file : is_file (cut []) ≡ true
a_cut_file_is_a_file = refl

a_dash_comes_before_a_slash : are_ascending (codes "/a/b-x/f" ∷ codes "/a/b/f" ∷ codes "/a/g" ∷ []) ≡ true
a_dash_comes_before_a_slash = refl

a_name_does_not_ascend_to_itself : are_ascending (codes "/a" ∷ codes "/a" ∷ []) ≡ false
a_name_does_not_ascend_to_itself = refl

the_first_entry_counts : fault_among ((codes "/a", TooLong) ∷ (codes "/a", Unnamed) ∷ []) (codes "/a") ≡ Some TooLong
the_first_entry_counts = refl

a_path_without_an_entry_has_no_fault : fault_among ((codes "/a", TooLong) ∷ []) (codes "/b") ≡ None
a_path_without_an_entry_has_no_fault = refl

a_name_is_among_names : is_among (codes "/a" ∷ codes "/b" ∷ []) (codes "/b") ≡ true
a_name_is_among_names = refl

failed_calls_are_failures_and_other_faults_are_none : failures_walked
    ((codes "/a", Tree Missing) ∷ (codes "/b", Unnamed) ∷ (codes "/c", Tree Denied) ∷ (codes "/d", TooLong) ∷ []) 3 ≡ 5
failed_calls_are_failures_and_other_faults_are_none = refl

the_count_of_failures_stays_at_its_end : failures_walked ((codes "/a", Tree Missing) ∷ []) 18446744073709551615 ≡ 18446744073709551615
the_count_of_failures_stays_at_its_end = refl

paths_beside_each_other_are_alone : are_alone (codes "/a/bc" ∷ codes "/a/b" ∷ []) ≡ true
paths_beside_each_other_are_alone = refl

a_path_below_another_one_is_not_alone : are_alone (codes "/a/b" ∷ codes "/a" ∷ []) ≡ false
a_path_below_another_one_is_not_alone = refl

a_path_that_stands_twice_is_not_alone : are_alone (codes "/a" ∷ codes "/a" ∷ []) ≡ false
a_path_that_stands_twice_is_not_alone = refl

a_name_is_covered_twice : times_covered (codes "/" ∷ codes "/b" ∷ codes "/a" ∷ []) (codes "/a/c") ≡ 2
a_name_is_covered_twice = refl

a_path_has_two_faults : fault_count ((codes "/a", TooLong) ∷ (codes "/b", Unnamed) ∷ (codes "/a", Unnamed) ∷ []) (codes "/a") ≡ 2
a_path_has_two_faults = refl
