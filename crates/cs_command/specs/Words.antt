-- What the words of the command line of `cs` are read as: options and operands in any order, as rg and grep read them.
-- Words are lists of bytes.
use Rattle.std.specs.Prelude.{ℕ, ◌+◌, ◌==◌, nat_eq, List, [], ◌∷◌, ◌++◌, drop, position, Some, None, Result, Ok, Err, codes, bytes_eq, if◌then◌else◌}
use Rattle.std.specs.List.{starts_with, before_first}
use Rattle.cs_command.specs.Named.{letter_option, name_option}
use Rattle.cs_command.specs.declared.named.Named.{Named}
use Rattle.cs_command.specs.declared.named.Named.TheVariants.{Switch as A_switch, Valued as A_valued, LeftOut as Is_left_out, Unknown as Is_unknown}
use Rattle.cs_command.specs.declared.named.Valued.{Valued}
use Rattle.cs_command.specs.declared.words.WordItem.{WordItem}
use Rattle.cs_command.specs.declared.words.WordItem.TheVariants.{Switch as On, Value, Operand}
use Rattle.cs_command.specs.declared.words.Next.{Next}
use Rattle.cs_command.specs.declared.words.Next.TheVariants.{Any, Value as A_value, Operand as An_operand}
use Rattle.cs_command.specs.declared.words.ItemFault.{ItemFault}
use Rattle.cs_command.specs.declared.words.ItemFault.TheVariants.{Unknown, LeftOut, ExtraValue, NoValue}

-- The items of the words so far, and what the next word is.
pub record Reading : Type 0 where
  pub items : List WordItem
  pub next : Next

abbrev pub reading : List WordItem → Next → Reading
reading items next = record { items = items; next = next }

-- an option's value is the rest of its word, or the next word if nothing is left
abbrev pub after_valued : List WordItem → Valued → ℕ → ℕ → List ℕ → Reading
after_valued items valued index at [] = reading items (A_value valued)
after_valued items valued index at (byte ∷ bytes) = reading (items ++ Value valued index at ∷ []) Any

-- after the letters at the byte `at` of the word at `index`: switches, and at the end possibly an option with a value
unfoldable pub after_letters : List WordItem → ℕ → ℕ → List ℕ → Result Reading ItemFault
after_letters items index at [] = Ok (reading items Any)
after_letters items index at (letter ∷ letters) =
    elim (letter_option letter) [
      | A_switch switch ↦ after_letters (items ++ On switch ∷ []) index (at + 1) letters
      | A_valued valued ↦ Ok (after_valued items valued index (at + 1) letters)
      | Is_left_out ↦ Err (LeftOut index at)
      | Is_unknown ↦ Err (Unknown index at)
    ]

-- after a name without `=`
abbrev pub after_name : List WordItem → ℕ → Named → Result Reading ItemFault
after_name items index (A_switch switch) = Ok (reading (items ++ On switch ∷ []) Any)
after_name items index (A_valued valued) = Ok (reading items (A_value valued))
after_name items index Is_left_out = Err (LeftOut index 2)
after_name items index Is_unknown = Err (Unknown index 2)

-- after a name with `=`, whose value begins at the byte `at`
abbrev pub after_equals : List WordItem → ℕ → ℕ → Named → Result Reading ItemFault
after_equals items index at (A_switch switch) = Err (ExtraValue index)
after_equals items index at (A_valued valued) = Ok (reading (items ++ Value valued index at ∷ []) Any)
after_equals items index at Is_left_out = Err (LeftOut index 2)
after_equals items index at Is_unknown = Err (Unknown index 2)

-- after `--text`
abbrev pub after_long : List WordItem → ℕ → List ℕ → Result Reading ItemFault
after_long items index text =
    elim (position (λ byte. byte == 61) text) [
      | Some offset ↦ after_equals items index (offset + 3) (name_option (before_first (λ byte. byte == 61) text))
      | None ↦ after_name items index (name_option text)
    ]

-- after a word that is no value and does not follow `--`: a word is an option if it is a dash and more
abbrev pub after_any : List WordItem → ℕ → List ℕ → Result Reading ItemFault
after_any items index word =
    if bytes_eq word (codes "--") then Ok (reading items An_operand)
    else if starts_with nat_eq word (codes "--") then after_long items index (drop 2 word)
    else if starts_with nat_eq word (codes "-") then
    (if bytes_eq word (codes "-") then Ok (reading (items ++ Operand index ∷ []) Any)
    else after_letters items index 1 (drop 1 word))
    else Ok (reading (items ++ Operand index ∷ []) Any)

-- after the word at `index`
abbrev pub after_word : Reading → ℕ → List ℕ → Result Reading ItemFault
after_word before index word =
    elim before.next [
      | Any ↦ after_any before.items index word
      | A_value valued ↦ Ok (reading (before.items ++ Value valued index 0 ∷ []) Any)
      | An_operand ↦ Ok (reading (before.items ++ Operand index ∷ []) An_operand)
    ]

-- at the end no option waits for its value
abbrev pub items_at_end : ℕ → List WordItem → Next → Result (List WordItem) ItemFault
items_at_end count items Any = Ok items
items_at_end count items (A_value valued) = Err (NoValue count)
items_at_end count items An_operand = Ok items

-- after the words from `index` on
unfoldable pub items_after : Reading → ℕ → List (List ℕ) → Result (List WordItem) ItemFault
items_after before index [] = items_at_end index before.items before.next
items_after before index (word ∷ words) =
    elim (after_word before index word) [
      | Ok after ↦ items_after after (index + 1) words
      | Err fault ↦ Err fault
    ]

-- the items of the words, or the first error from the left
abbrev pub items_of : List (List ℕ) → Result (List WordItem) ItemFault
items_of words = items_after (reading [] Any) 0 words
