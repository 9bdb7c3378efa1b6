-- Values of definitions at some arguments.
use Rattle.std.proofs.Common.{◌≡◌, true, false, [], ◌∷◌, refl}
use Rattle.std.specs.Prelude.{codes}
use Rattle.cs_tree.specs.Snapshot.{folder, file, cut, other, bad, missing}
use Rattle.cs_project.specs.Calls.{types_printed}
use Rattle.cs_project.specs.Names.{name_below, prefix_of, with_slash}
use Rattle.cs_project.specs.Scopes.{is_entered}
use Rattle.cs_project.specs.Searched.{is_cut, names_printed}

a_name_below_the_current_folder : name_below (with_slash (codes "/w")) (prefix_of (codes "")) (codes "/w/a/b") ≡ codes "a/b"
a_name_below_the_current_folder = refl

a_name_below_a_word : name_below (with_slash (codes "/w/a")) (prefix_of (codes "./a/")) (codes "/w/a/b") ≡ codes "./a/b"
a_name_below_a_word = refl

a_name_below_the_root : name_below (with_slash (codes "/")) (prefix_of (codes "/")) (codes "/a") ≡ codes "/a"
a_name_below_the_root = refl

a_name_above_the_current_folder : name_below (with_slash (codes "/w/a")) (prefix_of (codes "")) (codes "/w/.gitignore") ≡ codes "/w/.gitignore"
a_name_above_the_current_folder = refl

a_link_to_a_folder_is_entered : is_entered other (folder (codes "a" ∷ []) false) ≡ true
a_link_to_a_folder_is_entered = refl

a_link_to_a_file_is_not : is_entered other (bad missing) ≡ false
a_link_to_a_file_is_not = refl

a_file_whose_reads_fail_is_cut : is_cut (cut (codes "a")) ≡ true
a_file_whose_reads_fail_is_cut = refl

a_file_of_a_byte_is_not : is_cut (file (codes "a")) ≡ false
a_file_of_a_byte_is_not = refl

two_types : types_printed ((codes "c", codes "*.c *.h") ∷ (codes "py", codes "*.py") ∷ []) ≡ codes "c: *.c *.h\npy: *.py\n"
two_types = refl

names_of_two_items : names_printed (codes "\n") ((codes "a/b", file (codes "x"), false) ∷ (codes "c", other, true) ∷ []) ≡ codes "a/b\nc\n"
names_of_two_items = refl
