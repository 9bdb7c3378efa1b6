-- One more letter, and one more word.
use Rattle.std.proofs.Common.{◌≡◌, ◌<◌, ℕ, ◌+◌, ◌==◌, Bool, true, false, cond, nat_eq, List, [], ◌∷◌, ◌++◌, length, refl, sym, ap, ◌∙◌, map, String, arith}
use Rattle.std.specs.Prelude.{Option, Some, None, Result, Ok, Err, position, string_bytes}
use Rattle.std.specs.List.{before_first, position_or_len}
use Rattle.std.proofs.lemmas.Bool.{false≢true, eqb-true, le-ltb, lt-ltb}
use Rattle.std.proofs.lemmas.List.{length-take-le}
use Rattle.std.specs.declared.alloc.Global.{Global}
use Rattle.cs_command.specs.Named.{letter_option, name_option}
use Rattle.cs_command.specs.Words.{Reading, reading, after_valued, after_letters, after_name, after_equals, after_long, after_word, items_after, items_at_end}
use Rattle.cs_command.specs.declared.named.Named.{Named}
use Rattle.cs_command.specs.declared.named.Named.TheVariants.{Switch as A_switch, Valued as A_valued, LeftOut as Is_left_out, Unknown as Is_unknown}
use Rattle.cs_command.specs.declared.named.Switch.{Switch}
use Rattle.cs_command.specs.declared.named.Valued.{Valued}
use Rattle.cs_command.specs.declared.words.WordItem.{WordItem}
use Rattle.cs_command.specs.declared.words.WordItem.TheVariants.{Switch as On, Value}
use Rattle.cs_command.specs.declared.words.ItemFault.{ItemFault}
use Rattle.cs_command.specs.declared.words.ItemFault.TheVariants.{Unknown, LeftOut}
use Rattle.cs_command.specs.declared.words.Next.{Next}
use Rattle.cs_command.specs.declared.words.Next.TheVariants.{Any, Value as A_value, Operand as An_operand}

pub no_letter : (items : List WordItem) (index at : ℕ) (letters : List ℕ) → length letters ≡ 0 → after_letters items index at letters ≡ Ok (reading items Any)
unfolding after_letters
no_letter items index at [] none = refl
no_letter items index at (letter ∷ letters) none = absurd (omega (arith, none))

pub switch_letter : (items : List WordItem) (index at letter : ℕ) (letters : List ℕ) (switch : Switch) → letter_option letter ≡ A_switch switch
    → after_letters items index at (letter ∷ letters) ≡ after_letters (items ++ On switch ∷ []) index (at + 1) letters
unfolding after_letters
switch_letter items index at letter letters switch is = rw (after_letters, is) refl

pub valued_letter : (items : List WordItem) (index at letter : ℕ) (letters : List ℕ) (valued : Valued) → letter_option letter ≡ A_valued valued
    → after_letters items index at (letter ∷ letters) ≡ Ok (after_valued items valued index (at + 1) letters)
unfolding after_letters
valued_letter items index at letter letters valued is = rw (after_letters, is) refl

pub valued_end : (items : List WordItem) (index at letter : ℕ) (letters : List ℕ) (valued : Valued) → letter_option letter ≡ A_valued valued
    → nat_eq (length letters) 0 ≡ true → after_letters items index at (letter ∷ letters) ≡ Ok (reading items (A_value valued))
valued_end items index at letter [] valued is none = valued_letter items index at letter [] valued is
valued_end items index at letter (byte ∷ bytes) valued is none =
    absurd (omega (arith, eqb-true (length (byte ∷ bytes)) 0 none))

pub valued_rest : (items after : List WordItem) (index at letter : ℕ) (letters : List ℕ) (valued : Valued) → letter_option letter ≡ A_valued valued
    → nat_eq (length letters) 0 ≡ false → after ≡ items ++ Value valued index (at + 1) ∷ []
    → after_letters items index at (letter ∷ letters) ≡ Ok (reading after Any)
valued_rest items after index at letter [] valued is some pushed = absurd (false≢true (sym some))
valued_rest items after index at letter (byte ∷ bytes) valued is some pushed =
    valued_letter items index at letter (byte ∷ bytes) valued is ∙ ap (λ all. Ok (reading all Any)) (sym pushed)

-- one more switch, and the byte after it
pub next_at : (items after : List WordItem) (index at next : ℕ) (letters : List ℕ) → after ≡ items → next ≡ at + 1
    → after_letters items index (at + 1) letters ≡ after_letters after index next letters
next_at items after index at next letters pushed is =
    ap (λ all. after_letters all index (at + 1) letters) (sym pushed) ∙ ap (λ byte. after_letters after index byte letters) (sym is)

pub left_out_letter : (items : List WordItem) (index at letter : ℕ) (letters : List ℕ) → letter_option letter ≡ Is_left_out
    → after_letters items index at (letter ∷ letters) ≡ Err (LeftOut index at)
unfolding after_letters
left_out_letter items index at letter letters is = rw (after_letters, is) refl

pub unknown_letter : (items : List WordItem) (index at letter : ℕ) (letters : List ℕ) → letter_option letter ≡ Is_unknown
    → after_letters items index at (letter ∷ letters) ≡ Err (Unknown index at)
unfolding after_letters
unknown_letter items index at letter letters is = rw (after_letters, is) refl

-- the words of a slice, after the items so far
abbrev pub items_of_rest : List WordItem → Next → ℕ → List (String Global) → Result (List WordItem) ItemFault
items_of_rest items next index rest = items_after (reading items next) index (map string_bytes rest)

pub no_word : (items : List WordItem) (next : Next) (index : ℕ) (rest : List (String Global)) → length rest ≡ 0
    → items_of_rest items next index rest ≡ items_at_end index items next
unfolding items_after
no_word items next index [] none = refl
no_word items next index (word ∷ words) none = absurd (omega (arith, none))

-- no option waits for its value
pub all_items : (index : ℕ) (items : List WordItem) (next : Next) → ((valued : Valued) → next ≡ A_value valued → ⊥) → items_at_end index items next ≡ Ok items
all_items index items Any other = refl
all_items index items (A_value valued) other = absurd (other valued refl)
all_items index items An_operand other = refl

pub read_word : (before after : Reading) (index : ℕ) (word : List ℕ) (words : List (List ℕ)) → after_word before index word ≡ Ok after
    → items_after before index (word ∷ words) ≡ items_after after (index + 1) words
unfolding items_after
read_word before after index word words is = rw (items_after, is) refl

pub faulty_word : (before : Reading) (index : ℕ) (word : List ℕ) (words : List (List ℕ)) (fault : ItemFault) → after_word before index word ≡ Err fault
    → items_after before index (word ∷ words) ≡ Err fault
unfolding items_after
faulty_word before index word words fault is = rw (items_after, is) refl

-- ---- names

module _ (test : ℕ → Bool) (text : List ℕ) where
  no_position : position_or_len test text ≡ length text → position test text ≡ None
  no_position e = ap (λ t. cond t (Some (position_or_len test text)) None) (le-ltb (position_or_len test text) (length text) (omega (arith, e)))

  some_position : position_or_len test text < length text → position test text ≡ Some (length (before_first test text))
  some_position within =
      ap (λ t. cond t (Some (position_or_len test text)) None) (lt-ltb (position_or_len test text) (length text) within)
      ∙ ap Some (sym (length-take-le (position_or_len test text) text (omega (arith, within))))

module _ (items : List WordItem) (index : ℕ) (text : List ℕ) where
  long_at : Option ℕ → Result Reading ItemFault
  long_at at =
      elim at [
        | Some offset ↦ after_equals items index (offset + 3) (name_option (before_first (λ byte. byte == 61) text))
        | None ↦ after_name items index (name_option text)
      ]

  pub name_alone : (named : Named) → named ≡ name_option text → position_or_len (λ byte. byte == 61) text ≡ length text
      → after_name items index named ≡ after_long items index text
  unfolding long_at
  name_alone named is none = ap (after_name items index) is ∙ sym (ap long_at (no_position (λ byte. byte == 61) text none))

  pub name_equals : (name : List ℕ) (named : Named) → name ≡ before_first (λ byte. byte == 61) text → named ≡ name_option name
      → position_or_len (λ byte. byte == 61) text < length text → after_equals items index (length name + 3) named ≡ after_long items index text
  unfolding long_at
  name_equals name named before is within =
      ap (after_equals items index (length name + 3)) is
      ∙ ap (λ n. after_equals items index (length n + 3) (name_option n)) before
      ∙ sym (ap long_at (some_position (λ byte. byte == 61) text within))
