-- Worked rows of what words are read as.
use Rattle.std.proofs.Common.{◌≡◌, [], ◌∷◌, refl, codes}
use Rattle.std.specs.Prelude.{Ok, Err}
use Rattle.cs_command.specs.Words.{after_letters, items_after, items_of}
use Rattle.cs_command.specs.LetterCase.{case_after, case_of}
use Rattle.cs_command.specs.declared.letter_case.LetterCase.TheVariants.{Smart as Is_smart, Exact as Is_exact}
use Rattle.cs_command.specs.declared.named.Switch.TheVariants.{Number, Fold, Smart, Exact, Words, Count}
use Rattle.cs_command.specs.declared.named.Valued.TheVariants.{Pattern, After, Colour}
use Rattle.cs_command.specs.declared.words.WordItem.TheVariants.{Switch, Value, Operand}
use Rattle.cs_command.specs.declared.words.ItemFault.TheVariants.{Unknown, LeftOut, ExtraValue, NoValue}

letters_together : items_of (codes "-niw" ∷ codes "p" ∷ []) ≡ Ok (Switch Number ∷ Switch Fold ∷ Switch Words ∷ Operand 1 ∷ [])
unfolding after_letters items_after
letters_together = refl

value_in_the_word : items_of (codes "-nA3" ∷ codes "p" ∷ []) ≡ Ok (Switch Number ∷ Value After 0 3 ∷ Operand 1 ∷ [])
unfolding after_letters items_after
value_in_the_word = refl

value_in_the_next_word : items_of (codes "-A" ∷ codes "3" ∷ codes "-e" ∷ codes "-x" ∷ []) ≡ Ok (Value After 1 0 ∷ Value Pattern 3 0 ∷ [])
unfolding after_letters items_after
value_in_the_next_word = refl

long_names : items_of (codes "--color=never" ∷ codes "--after-context" ∷ codes "3" ∷ codes "--count" ∷ [])
    ≡ Ok (Value Colour 0 8 ∷ Value After 2 0 ∷ Switch Count ∷ [])
unfolding after_letters items_after
long_names = refl

operands_after_two_dashes : items_of (codes "p" ∷ codes "-" ∷ codes "-n" ∷ codes "--" ∷ codes "-n" ∷ codes "--" ∷ [])
    ≡ Ok (Operand 0 ∷ Operand 1 ∷ Switch Number ∷ Operand 4 ∷ Operand 5 ∷ [])
unfolding after_letters items_after
operands_after_two_dashes = refl

unknown_letter : items_of (codes "p" ∷ codes "-nz" ∷ codes "--nope" ∷ []) ≡ Err (Unknown 1 2)
unfolding after_letters items_after
unknown_letter = refl

left_out : items_of (codes "-nr" ∷ codes "x" ∷ []) ≡ Err (LeftOut 0 2)
unfolding after_letters items_after
left_out = refl

left_out_name : items_of (codes "--json" ∷ []) ≡ Err (LeftOut 0 2)
unfolding after_letters items_after
left_out_name = refl

value_of_a_switch : items_of (codes "--count=3" ∷ []) ≡ Err (ExtraValue 0)
unfolding after_letters items_after
value_of_a_switch = refl

no_value : items_of (codes "p" ∷ codes "-nA" ∷ []) ≡ Err (NoValue 2)
unfolding after_letters items_after
no_value = refl

last_of_three_holds : case_of (Switch Fold ∷ Operand 1 ∷ Switch Smart ∷ Switch Number ∷ []) ≡ Is_smart
unfolding case_after
last_of_three_holds = refl

exact_after_fold : case_of (Switch Fold ∷ Switch Exact ∷ []) ≡ Is_exact
unfolding case_after
exact_after_fold = refl
