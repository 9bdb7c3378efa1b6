-- Rows of the definitions of `Settings` and `UserRules`: git-config(1), and what git 2.39 does where that page is silent.
use Rattle.std.proofs.Common.{◌≡◌, refl, ℕ, true, false, List, [], ◌∷◌, ◌++◌}
use Rattle.std.specs.Prelude.{Some, None, codes}
use Rattle.cs_listing.specs.RuleFiles.{without_mark}
use Rattle.cs_listing.specs.Settings.{without_returns, value_from, no_value, head_in}
use Rattle.cs_listing.specs.UserRules.{expanded, path_in_file, pattern_in_file, holds, rules_file}

-- ---- bytes

mark_and_returns : without_returns (without_mark (239 ∷ 187 ∷ 191 ∷ 97 ∷ 13 ∷ 13 ∷ 10 ∷ [])) ≡ 97 ∷ 13 ∷ 10 ∷ []
mark_and_returns = refl

-- ---- values

abbrev value_is : List ℕ → List ℕ → Type 0
value_is text value = value_from no_value text ≡ Some (record { bytes = value; rest = [] })

goes_on_in_the_next_line : value_is (codes "a\\" ++ 10 ∷ codes "b") (codes "ab")
goes_on_in_the_next_line = refl

blanks_between : value_is (codes " a " ++ 9 ∷ codes "b  # c") (codes "a  b")
blanks_between = refl

escapes : value_is (codes "\\t\\n\\b\\\\") (9 ∷ 10 ∷ 8 ∷ 92 ∷ [])
escapes = refl

unknown_escape : value_from no_value (codes "a\\x") ≡ None
unknown_escape = refl

marks : value_is (codes "a" ++ 34 ∷ codes " # " ++ 34 ∷ codes "b;c") (codes "a # b")
marks = refl

marks_that_do_not_end : value_from no_value (34 ∷ codes "a") ≡ None
marks_that_do_not_end = refl

quoted_subsection : head_in (codes "A " ++ 34 ∷ codes "B\\x\\" ++ 34 ∷ 34 ∷ codes "]c")
    ≡ Some (record { bytes = codes "a.Bx" ++ 34 ∷ []; rest = codes "c" })
quoted_subsection = refl

-- ---- paths and conditions

home_of_a_user : expanded (codes "/h") (codes "~/a") ≡ codes "/h/a"
home_of_a_user = refl

beside_the_file : path_in_file (codes "/h") (codes "/c/git/config") (codes "a") ≡ codes "/c/git/a"
beside_the_file = refl

pattern_of_a_name : pattern_in_file (codes "/h") (codes "/h/.gitconfig") (codes "work/") ≡ codes "**/work/**"
pattern_of_a_name = refl

pattern_beside_the_file : pattern_in_file (codes "/h") (codes "/h/.gitconfig") (codes "./work") ≡ codes "/h/work"
pattern_beside_the_file = refl

in_a_folder : holds (codes "/h") (codes "/h/.gitconfig") (codes "gitdir:~/work/") (Some (codes "/h/work/p/.git")) ≡ true
in_a_folder = refl

in_no_case : holds (codes "/h") (codes "/h/.gitconfig") (codes "gitdir/i:WORK/") (Some (codes "/h/work/p/.git")) ≡ true
in_no_case = refl

of_a_branch : holds (codes "/h") (codes "/h/.gitconfig") (codes "onbranch:main") (Some (codes "/h/work/p/.git")) ≡ false
of_a_branch = refl

-- ---- the file of the rules

no_file : rules_file (codes "/h") (codes "/c") (Some []) ≡ None
no_file = refl
