-- Rows of the definitions of `Layers`: gitignore(5), and what rg does with `.ignore` and with repositories in repositories.
use Rattle.std.proofs.Common.{◌≡◌, refl, ℕ, ◌+◌, Bool, true, false, List, [], ◌∷◌}
use Rattle.std.specs.Prelude.{Option, Some, None, codes}
use Rattle.cs_listing.specs.RuleFiles.{rules_of}
use Rattle.cs_listing.specs.MatchWork.{rules_work}
use Rattle.cs_listing.specs.Choices.{Settings, plain_settings}
use Rattle.cs_listing.specs.Layers.{FolderRules, says, is_left_out}
use Rattle.cs_listing.specs.LayersWork.{layers_work}
use Rattle.cs_listing.specs.declared.rules.Decision.{Decision}
use Rattle.cs_listing.specs.declared.rules.Decision.TheVariants.{Ignore, TakeBack}

-- ---- folders, by the text of their files

abbrev plain : FolderRules
plain = record { ignore = []; gitignore = []; exclude = None; bytes = 0 }

abbrev with_ignore : List ℕ → FolderRules
with_ignore text = record { ignore = rules_of text; gitignore = []; exclude = None; bytes = 0 }

abbrev with_gitignore : List ℕ → FolderRules
with_gitignore text = record { ignore = []; gitignore = rules_of text; exclude = None; bytes = 0 }

-- the root of a repository, by its `.gitignore` and its `info/exclude`
abbrev root : List ℕ → List ℕ → FolderRules
root text exclude = record { ignore = []; gitignore = rules_of text; exclude = Some (rules_of exclude); bytes = 0 }

-- what the files of these folders say of a file that is in the last one
abbrev file_says : List FolderRules → List (List ℕ) → Option Decision
file_says folders path = says [] false folders path

-- the choice of hidden names
abbrev hidden_too : Settings
hidden_too = record (plain_settings [] []) { takes_hidden = true }

-- whether it is left out, without any choice of the user
abbrev leaves_out : List FolderRules → List (List ℕ) → Bool
leaves_out folders path = is_left_out (plain_settings [] []) false folders path

-- ---- the deepest file counts

deeper_takes_back : file_says (root (codes "*.o") [] ∷ with_gitignore (codes "!a.o") ∷ []) (codes "d" ∷ codes "a.o" ∷ []) ≡ Some TakeBack
deeper_takes_back = refl

outer_counts_too : file_says (root (codes "*.o") [] ∷ with_gitignore (codes "!a.o") ∷ []) (codes "d" ∷ codes "b.o" ∷ []) ≡ Some Ignore
outer_counts_too = refl

anchored_at_its_folder : file_says (root [] [] ∷ with_gitignore (codes "/x") ∷ []) (codes "d" ∷ codes "x" ∷ []) ≡ Some Ignore
anchored_at_its_folder = refl

not_at_the_root : file_says (root (codes "/x") [] ∷ plain ∷ []) (codes "d" ∷ codes "x" ∷ []) ≡ None
not_at_the_root = refl

-- ---- the order of the kinds of files

ignore_comes_first : file_says (with_ignore (codes "!x") ∷ root (codes "x") [] ∷ []) (codes "d" ∷ codes "x" ∷ []) ≡ Some TakeBack
ignore_comes_first = refl

exclude_counts : file_says (root [] (codes "x") ∷ []) (codes "x" ∷ []) ≡ Some Ignore
exclude_counts = refl

gitignore_before_exclude : file_says (root (codes "!x") (codes "x") ∷ []) (codes "x" ∷ []) ≡ Some TakeBack
gitignore_before_exclude = refl

user_comes_last : says (rules_of (codes "*")) false (root [] (codes "!x") ∷ []) (codes "x" ∷ []) ≡ Some TakeBack
user_comes_last = refl

user_counts : says (rules_of (codes "*")) false (root [] [] ∷ []) (codes "y" ∷ []) ≡ Some Ignore
user_counts = refl

-- ---- repositories

outside : file_says (with_gitignore (codes "x") ∷ []) (codes "x" ∷ []) ≡ None
outside = refl

user_outside : says (rules_of (codes "x")) false (plain ∷ []) (codes "x" ∷ []) ≡ None
user_outside = refl

above_the_root : file_says (with_gitignore (codes "x") ∷ root [] [] ∷ []) (codes "r" ∷ codes "x" ∷ []) ≡ None
above_the_root = refl

inner_repository : file_says (root (codes "x") (codes "x") ∷ root [] [] ∷ []) (codes "r" ∷ codes "x" ∷ []) ≡ None
inner_repository = refl

ignore_goes_in : file_says (with_ignore (codes "x") ∷ root [] [] ∷ []) (codes "r" ∷ codes "x" ∷ []) ≡ Some Ignore
ignore_goes_in = refl

-- ---- names

git_folder : is_left_out hidden_too true (root (codes "!.git") [] ∷ []) (codes ".git" ∷ []) ≡ true
git_folder = refl

hidden_outside : leaves_out (plain ∷ []) (codes ".x" ∷ []) ≡ true
hidden_outside = refl

hidden_inside : leaves_out (root [] [] ∷ plain ∷ []) (codes "d" ∷ codes ".x" ∷ []) ≡ false
hidden_inside = refl

hidden_taken : is_left_out hidden_too false (plain ∷ []) (codes ".x" ∷ []) ≡ false
hidden_taken = refl

hidden_taken_back : leaves_out (with_ignore (codes "!.x") ∷ []) (codes ".x" ∷ []) ≡ false
hidden_taken_back = refl

-- ---- work

each_file_once : layers_work (rules_of (codes "z")) (with_ignore (codes "y") ∷ root (codes "x") [] ∷ []) (codes "d" ∷ codes "a" ∷ [])
    ≡ rules_work (rules_of (codes "y")) (codes "d" ∷ codes "a" ∷ [])
    + (rules_work (rules_of (codes "x")) (codes "a" ∷ []) + rules_work (rules_of (codes "z")) (codes "a" ∷ []))
each_file_once = refl

-- ---- choices

abbrev with_globs : List ℕ → Settings
with_globs text = record (plain_settings [] (codes "d" ∷ [])) { globs = rules_of text }

abbrev with_types : List ℕ → Settings
with_types text = record (plain_settings [] []) { types = rules_of text }

glob_before_rules : is_left_out (with_globs (codes "*.o")) false (root (codes "*.o") [] ∷ []) (codes "a.o" ∷ []) ≡ false
glob_before_rules = refl

no_glob_applies : is_left_out (with_globs (codes "*.o")) false (root [] [] ∷ []) (codes "a.c" ∷ []) ≡ true
no_glob_applies = refl

folder_without_glob : is_left_out (with_globs (codes "*.o")) true (root [] [] ∷ []) (codes "a.c" ∷ []) ≡ false
folder_without_glob = refl

left_out_by_glob : is_left_out (with_globs (codes "!x")) false (root [] [] ∷ []) (codes "x" ∷ []) ≡ true
left_out_by_glob = refl

others_stay : is_left_out (with_globs (codes "!x")) false (root [] [] ∷ []) (codes "y" ∷ []) ≡ false
others_stay = refl

-- `-g` is relative to the current folder, here `/d`
glob_from_the_folder : is_left_out (with_globs (codes "/x")) false (root [] [] ∷ plain ∷ []) (codes "d" ∷ codes "x" ∷ []) ≡ false
glob_from_the_folder = refl

glob_elsewhere : is_left_out (with_globs (codes "/e/x")) false (root [] [] ∷ plain ∷ []) (codes "e" ∷ codes "x" ∷ []) ≡ false
glob_elsewhere = refl

other_type : is_left_out (with_types (codes "*.c")) false (root [] [] ∷ []) (codes "a.h" ∷ []) ≡ true
other_type = refl

type_of_an_ignored_file : is_left_out (with_types (codes "*.c")) false (root (codes "a.c") [] ∷ []) (codes "a.c" ∷ []) ≡ true
type_of_an_ignored_file = refl

type_of_a_hidden_name : is_left_out (with_types (codes "*.c")) false (plain ∷ []) (codes ".a.c" ∷ []) ≡ false
type_of_a_hidden_name = refl

types_of_no_folder : is_left_out (with_types (codes "*.c")) true (root [] [] ∷ []) (codes "d" ∷ []) ≡ false
types_of_no_folder = refl

rules_count_for_nothing : is_left_out (record (plain_settings [] []) { takes_hidden = true; takes_ignored = true }) false
    (root (codes "a.o") [] ∷ []) (codes "a.o" ∷ []) ≡ false
rules_count_for_nothing = refl

too_deep : is_left_out (record (plain_settings [] []) { most_names = 1 }) false (root [] [] ∷ plain ∷ []) (codes "d" ∷ codes "x" ∷ []) ≡ true
too_deep = refl

folder_too_deep : is_left_out (record (plain_settings [] []) { most_names = 1 }) true (root [] [] ∷ []) (codes "d" ∷ []) ≡ true
folder_too_deep = refl

deep_enough : is_left_out (record (plain_settings [] []) { most_names = 1 }) false (root [] [] ∷ []) (codes "x" ∷ []) ≡ false
deep_enough = refl
