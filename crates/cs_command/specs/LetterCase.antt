-- Whether upper and lower case are the same: the last of `-i`, `-S` and `-s` holds.
use Rattle.std.specs.Prelude.{List, [], ◌∷◌}
use Rattle.cs_command.specs.declared.letter_case.LetterCase.{LetterCase}
use Rattle.cs_command.specs.declared.letter_case.LetterCase.TheVariants.{Exact, Fold, Smart}
use Rattle.cs_command.specs.declared.named.Switch.TheVariants.{Fold as Is_fold, Smart as Is_smart, Exact as Is_exact}
use Rattle.cs_command.specs.declared.words.WordItem.{WordItem}
use Rattle.cs_command.specs.declared.words.WordItem.TheVariants.{Switch}

-- after one more item
abbrev pub case_set : LetterCase → WordItem → LetterCase
case_set before (Switch Is_fold) = Fold
case_set before (Switch Is_smart) = Smart
case_set before (Switch Is_exact) = Exact
case_set before _ = before

unfoldable pub case_after : LetterCase → List WordItem → LetterCase
case_after before [] = before
case_after before (item ∷ items) = case_after (case_set before item) items

abbrev pub case_of : List WordItem → LetterCase
case_of items = case_after Exact items
