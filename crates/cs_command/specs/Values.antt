-- The values of options. Words are lists of bytes.
use Rattle.std.specs.Prelude.{ℕ, ◌^◌, Bool, true, false, ◌&&◌, if◌then◌else◌, nat_lt, nat_le, List, [], ◌∷◌, length, drop, slice_index_or, Option, Some, None, Result, Ok, Err, codes, bytes_eq}
use Rattle.std.specs.List.{list_all}
use Rattle.std.specs.Map.{lookup}
use Rattle.std.specs.Str.{is_utf8}
use Rattle.std.specs.Str.Parse.{without_leading_plus, digits_value}
use Rattle.cs_command.specs.declared.settings.Limits.{Limits}
use Rattle.cs_command.specs.declared.fault.RequestFault.{RequestFault}
use Rattle.cs_command.specs.declared.fault.RequestFault.TheVariants.{NoNumber, NoColour}
use Rattle.cs_command.specs.declared.options.WordPart.{WordPart}
use Rattle.cs_command.specs.declared.options.OptionValues.{OptionValues}

-- what follows a result, unless it is an error
unfoldable pub and_then : {A B : Type 0} → Result A RequestFault → (A → Result B RequestFault) → Result B RequestFault
and_then (Ok value) next = next value
and_then (Err fault) next = Err fault

abbrev pub bytes_of : List (List ℕ) → WordPart → List ℕ
bytes_of words part = drop part.from (slice_index_or words part.word [])

-- A part of a word is text, as a value begins after a letter, after `=` or with its word.
abbrev pub text_of : List (List ℕ) → WordPart → List ℕ
text_of words part = if is_utf8 (bytes_of words part) then bytes_of words part else []

abbrev pub is_digit : ℕ → Bool
is_digit byte = nat_le 48 byte && nat_le byte 57

-- a decimal number below 2^64, which may have a plus before it
abbrev pub number_of : List ℕ → Option ℕ
number_of text =
    let digits = without_leading_plus text in
    if nat_lt 0 (length digits) && list_all is_digit digits && nat_lt (digits_value 10 digits) (2 ^ 64)
    then Some (digits_value 10 digits) else None

abbrev pub number_in : List (List ℕ) → Option WordPart → Result (Option ℕ) RequestFault
number_in words None = Ok None
number_in words (Some part) = elim (number_of (text_of words part)) [ Some number ↦ Ok (Some number) | None ↦ Err (NoNumber part) ]

-- the values of --color; with `auto` the terminal decides
abbrev pub colour_of : List ℕ → Option (Option Bool)
colour_of text =
    lookup (bytes_eq text) (
    (codes "always", Some true) ∷ (codes "never", Some false) ∷ (codes "auto", None) ∷ [])

abbrev pub colour_in : List (List ℕ) → Option WordPart → Result (Option Bool) RequestFault
colour_in words None = Ok None
colour_in words (Some part) = elim (colour_of (text_of words part)) [ Some colour ↦ Ok colour | None ↦ Err (NoColour part) ]

-- how many lines are marked and shown around
abbrev pub limits_in : List (List ℕ) → OptionValues → Result Limits RequestFault
limits_in words values =
    and_then (number_in words values.most) (λ most.
    and_then (number_in words values.before) (λ before.
    and_then (number_in words values.after) (λ after.
    and_then (number_in words values.around) (λ around.
    Ok (record { most = most; before = before; after = after; around = around })))))
