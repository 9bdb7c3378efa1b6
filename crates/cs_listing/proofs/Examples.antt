-- Rows of the definitions: examples of gitignore(5), and what git does where that page is silent.
use Rattle.std.proofs.Common.{◌≡◌, refl, ℕ, true, false, List, [], ◌∷◌, ◌++◌}
use Rattle.std.specs.Prelude.{Option, Some, None, codes}
use Rattle.cs_listing.specs.Globs.{byte, star}
use Rattle.cs_listing.specs.MatchWork.{name_work}
use Rattle.cs_listing.specs.Rules.{decide}
use Rattle.cs_listing.specs.RuleFiles.{rules_of}
use Rattle.cs_listing.specs.declared.rules.Decision.{Decision}
use Rattle.cs_listing.specs.declared.rules.Decision.TheVariants.{Ignore, TakeBack}

-- what a file with this text decides of a name, of a name in a folder, and of a folder
abbrev file_says : List ℕ → List ℕ → Option Decision
file_says text name = decide (rules_of text) (name ∷ []) false

abbrev below_says : List ℕ → List ℕ → List ℕ → Option Decision
below_says text folder name = decide (rules_of text) (folder ∷ name ∷ []) false

abbrev folder_says : List ℕ → List ℕ → Option Decision
folder_says text name = decide (rules_of text) (name ∷ []) true

-- ---- one line

objects : file_says (codes "*.o") (codes "x.o") ≡ Some Ignore
objects = refl

objects_below : below_says (codes "*.o") (codes "a") (codes "x.o") ≡ Some Ignore
objects_below = refl

no_objects : file_says (codes "*.o") (codes "x.c") ≡ None
no_objects = refl

comment : file_says (codes "# x") (codes "# x") ≡ None
comment = refl

quoted_hash : file_says (codes "\\#x") (codes "#x") ≡ Some Ignore
quoted_hash = refl

quoted_mark : file_says (codes "\\!x") (codes "!x") ≡ Some Ignore
quoted_mark = refl

spaces_end : file_says (codes "x  ") (codes "x") ≡ Some Ignore
spaces_end = refl

quoted_space : file_says (codes "x\\ ") (codes "x ") ≡ Some Ignore
quoted_space = refl

carriage_return : file_says (codes "x" ++ 13 ∷ []) (codes "x") ≡ Some Ignore
carriage_return = refl

-- ---- slashes

anchored : below_says (codes "/x") (codes "a") (codes "x") ≡ None
anchored = refl

anchored_in_middle : below_says (codes "doc/x") (codes "doc") (codes "x") ≡ Some Ignore
anchored_in_middle = refl

not_below : decide (rules_of (codes "doc/x")) (codes "a" ∷ codes "doc" ∷ codes "x" ∷ []) false ≡ None
not_below = refl

only_folders : file_says (codes "x/") (codes "x") ≡ None
only_folders = refl

folders_too : folder_says (codes "x/") (codes "x") ≡ Some Ignore
folders_too = refl

star_stops : decide (rules_of (codes "foo/*")) (codes "foo" ∷ codes "bar" ∷ codes "hello.c" ∷ []) false ≡ None
star_stops = refl

-- ---- two stars

leading_stars : decide (rules_of (codes "**/foo/bar")) (codes "a" ∷ codes "b" ∷ codes "foo" ∷ codes "bar" ∷ []) false ≡ Some Ignore
leading_stars = refl

trailing_stars : below_says (codes "abc/**") (codes "abc") (codes "x") ≡ Some Ignore
trailing_stars = refl

not_the_folder : folder_says (codes "abc/**") (codes "abc") ≡ None
not_the_folder = refl

stars_between : below_says (codes "a/**/b") (codes "a") (codes "b") ≡ Some Ignore
stars_between = refl

stars_of_folders : decide (rules_of (codes "a/**/b")) (codes "a" ∷ codes "x" ∷ codes "y" ∷ codes "b" ∷ []) false ≡ Some Ignore
stars_of_folders = refl

stars_in_name : below_says (codes "foo**/bar") (codes "foox") (codes "bar") ≡ Some Ignore
stars_in_name = refl

-- ---- classes

ranges : file_says (codes "[a-c-e]") (codes "-") ≡ Some Ignore
ranges = refl

no_range : file_says (codes "[a-c-e]") (codes "d") ≡ None
no_range = refl

named_class : file_says (codes "x[[:digit:]]") (codes "x7") ≡ Some Ignore
named_class = refl

unknown_class : file_says (codes "[[:foo:]]") (codes "f") ≡ None
unknown_class = refl

name_in_name : file_says (codes "b[[:a[:digit:]]") (codes "b:]") ≡ None
name_in_name = refl

bracket_of_no_name : file_says (codes "b[[:a]") (codes "b:") ≡ Some Ignore
bracket_of_no_name = refl

bracket_first : file_says (codes "[]a]") (codes "]") ≡ Some Ignore
bracket_first = refl

negated : file_says (codes "[!a-y]") (codes "z") ≡ Some Ignore
negated = refl

no_end : file_says (codes "[a") (codes "[a") ≡ None
no_end = refl

backslash_end : file_says (codes "a\\") (codes "a\\") ≡ None
backslash_end = refl

-- ---- several lines

taken_back : file_says (codes "*.o" ++ 10 ∷ codes "!a.o") (codes "a.o") ≡ Some TakeBack
taken_back = refl

last_counts : file_says (codes "!a.o" ++ 10 ∷ codes "*.o") (codes "a.o") ≡ Some Ignore
last_counts = refl

mark : file_says (239 ∷ 187 ∷ 191 ∷ codes "x") (codes "x") ≡ Some Ignore
mark = refl

-- ---- work

-- `*a` at a name of three bytes
star_work : name_work (star ∷ byte 97 ∷ []) 3 ≡ 12
star_work = refl
