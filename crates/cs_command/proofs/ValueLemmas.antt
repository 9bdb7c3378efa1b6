-- Parts of words, and the numbers that they are.
use Rattle.std.proofs.Common.{◌≡◌, ℕ, ◌^◌, ◌<◌, Bool, true, false, ◌&&◌, List, [], ◌∷◌, length, refl, sym, ap, ◌∙◌, arith, IsUtf8}
use Rattle.std.specs.Prelude.{nat_lt, Some, None, if◌then◌else◌}
use Rattle.std.specs.List.{list_all}
use Rattle.std.specs.Char.{digit_value}
use Rattle.std.specs.Str.{is_utf8}
use Rattle.std.specs.Str.Parse.{IsNumeral, AllDigits, without_leading_plus, digits_value}
use Rattle.std.proofs.lemmas.Bool.{and_parts, and_from, lt-ltb, ltb-true}
use Rattle.std.proofs.lemmas.Bool.Decides.{nat_tests}
use Rattle.std.proofs.lemmas.Str.{is_utf8-from_IsUtf8, IsUtf8-from_is_utf8}
use Rattle.cs_command.specs.Values.{is_digit, number_of}

-- text that was read is the text of its part
pub is_text : (bytes text : List ℕ) → text ≡ bytes → IsUtf8 bytes → text ≡ (if is_utf8 bytes then bytes else [])
is_text bytes text same utf8 = same ∙ ap (λ (b : Bool). if b then bytes else []) (sym (is_utf8-from_IsUtf8 bytes utf8))

by_test : (bytes : List ℕ) (test : Bool) → is_utf8 bytes ≡ test → (IsUtf8 bytes → ⊥) → [] ≡ (if test then bytes else [])
by_test bytes true is not = absurd (not (IsUtf8-from_is_utf8 bytes is))
by_test bytes false is not = refl

pub is_no_text : (bytes : List ℕ) → (IsUtf8 bytes → ⊥) → [] ≡ (if is_utf8 bytes then bytes else [])
is_no_text bytes not = by_test bytes (is_utf8 bytes) refl not

-- ---- numbers

digit : (byte : ℕ) → digit_value byte < 10 → is_digit byte ≡ true
digit byte h = grind (arith, nat_tests)

no_digit : (byte : ℕ) → is_digit byte ≡ true → digit_value byte < 10
no_digit byte h = grind (arith, nat_tests)

digits : (bytes : List ℕ) → AllDigits 10 bytes → list_all is_digit bytes ≡ true
digits [] all = refl
digits (byte ∷ bytes) (first, more) = and_from (is_digit byte) (list_all is_digit bytes) (digit byte first) (digits bytes more)

all_digits : (bytes : List ℕ) → list_all is_digit bytes ≡ true → AllDigits 10 bytes
all_digits [] all = tt
all_digits (byte ∷ bytes) all =
    let both = and_parts (is_digit byte) (list_all is_digit bytes) all in (no_digit byte both.0, all_digits bytes both.1)

-- whether a text is a number, without its plus
abbrev pub IsNumber : List ℕ → Type 0
IsNumber ds = IsNumeral 10 ds × (digits_value 10 ds < 2 ^ 64)

abbrev is_some_digits : List ℕ → Bool
is_some_digits ds = nat_lt 0 (length ds) && list_all is_digit ds

abbrev is_number : List ℕ → Bool
is_number ds = is_some_digits ds && nat_lt (digits_value 10 ds) (2 ^ 64)

number_test : (ds : List ℕ) → IsNumber ds → is_number ds ≡ true
number_test ds ((some, all), small) =
    and_from (is_some_digits ds) (nat_lt (digits_value 10 ds) (2 ^ 64))
    (and_from (nat_lt 0 (length ds)) (list_all is_digit ds) (lt-ltb 0 (length ds) some) (digits ds all))
    (lt-ltb (digits_value 10 ds) (2 ^ 64) small)

test_number : (ds : List ℕ) → is_number ds ≡ true → IsNumber ds
test_number ds is =
    let parts = and_parts (is_some_digits ds) (nat_lt (digits_value 10 ds) (2 ^ 64)) is in
    let own = and_parts (nat_lt 0 (length ds)) (list_all is_digit ds) parts.0 in
    ((ltb-true 0 (length ds) own.0, all_digits ds own.1), ltb-true (digits_value 10 ds) (2 ^ 64) parts.1)

pub number_read : (text : List ℕ) (number : ℕ) → IsNumber (without_leading_plus text) → number ≡ digits_value 10 (without_leading_plus text)
    → Some number ≡ number_of text
number_read text number is same =
    ap Some same ∙ sym (ap (λ (b : Bool). if b then Some (digits_value 10 (without_leading_plus text)) else None)
    (number_test (without_leading_plus text) is))

by_number : (ds : List ℕ) (test : Bool) → is_number ds ≡ test → (IsNumber ds → ⊥) → None ≡ (if test then Some (digits_value 10 ds) else None)
by_number ds true is not = absurd (not (test_number ds is))
by_number ds false is not = refl

pub no_number : (text : List ℕ) → (IsNumber (without_leading_plus text) → ⊥) → None ≡ number_of text
no_number text not = by_number (without_leading_plus text) (is_number (without_leading_plus text)) refl not
