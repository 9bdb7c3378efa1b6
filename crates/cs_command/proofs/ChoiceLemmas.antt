-- Choices one after another, and types and globs that are none.
use Rattle.std.proofs.Common.{◌≡◌, false, List, [], ◌∷◌, ◌++◌, length, refl, subst, inl, inr, arith}
use Rattle.std.specs.Prelude.{Option, Some, None}
use Rattle.std.specs.List.{filter_map, list_any, cons_option}
use Rattle.std.specs.Option.{option_to_list}
use Rattle.cs_listing.specs.Choices.{Settings}
use Rattle.cs_command.specs.declared.words.WordItem.{WordItem}
use Rattle.cs_command.specs.Choices.{Choice, ChoosesAll, is_fault_of, IsChoiceIn}
use Rattle.std.proofs.lemmas.Bool.{or_cases, or_left, or_right, false≢true}
use Rattle.cs_command.specs.declared.fault.RequestFault.{RequestFault}

pub more_choices : (first more : List Choice) (old mid new : Settings) → ChoosesAll first old mid → ChoosesAll more mid new
    → ChoosesAll (first ++ more) old new
more_choices [] more old mid new same h = let P : Settings → Type 0 = λ s. ChoosesAll more s new in subst P same h
more_choices (choice ∷ first) more old mid new (between, here, later) h = (between, here, more_choices first more between mid new later h)

pub next_choice : (choice : Option Choice) (more : List Choice) (old mid new : Settings) → ChoosesAll (option_to_list choice) old mid
    → ChoosesAll more mid new → ChoosesAll (cons_option choice more) old new
next_choice (Some choice) more old mid new here h = more_choices (choice ∷ []) more old mid new here h
next_choice None more old mid new here h = more_choices [] more old mid new here h

pub no_choice : {A : Type 0} (choice : A → Option Choice) (items : List A) (old : Settings) → length items ≡ 0 → ChoosesAll (filter_map choice items) old old
no_choice choice [] old none = refl
no_choice choice (item ∷ items) old none = absurd (omega (arith, none))

-- ---- types and globs

pub type_in_first : (item : WordItem) (items : List WordItem) (fault : RequestFault) → IsChoiceIn (item ∷ []) fault → IsChoiceIn (item ∷ items) fault
type_in_first item items fault found =
    elim (or_cases (is_fault_of fault item) false found) [
      | inl here ↦ or_left (is_fault_of fault item) (list_any (is_fault_of fault) items) here
      | inr nowhere ↦ absurd (false≢true nowhere)
    ]

pub type_in_more : (item : WordItem) (items : List WordItem) (fault : RequestFault) → IsChoiceIn items fault → IsChoiceIn (item ∷ items) fault
type_in_more item items fault found = or_right (is_fault_of fault item) (list_any (is_fault_of fault) items) found
