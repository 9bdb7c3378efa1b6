-- One more item.
use Rattle.std.proofs.Common.{◌≡◌, List, [], ◌∷◌, length, refl, sym, ap, arith}
use Rattle.cs_command.specs.LetterCase.{case_set, case_after}
use Rattle.cs_command.specs.declared.letter_case.LetterCase.{LetterCase}
use Rattle.cs_command.specs.declared.words.WordItem.{WordItem}

pub no_item : (before : LetterCase) (items : List WordItem) → length items ≡ 0 → case_after before items ≡ before
unfolding case_after
no_item before [] none = refl
no_item before (item ∷ items) none = absurd (omega (arith, none))

pub next_item : (before after : LetterCase) (item : WordItem) (items : List WordItem) → after ≡ case_set before item
    → case_after before (item ∷ items) ≡ case_after after items
unfolding case_after
next_item before after item items is = ap (λ case. case_after case items) (sym is)
