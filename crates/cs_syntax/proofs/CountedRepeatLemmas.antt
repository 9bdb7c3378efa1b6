-- Counted repeats parse as they are written.
use Rattle.std.proofs.Common.{◌≡◌, ℕ, zero, suc, ◌+◌, ◌-◌, ◌*◌, ◌<◌, ◌≤◌, ◌^◌, Bool, true, false, cond, ◌&&◌, ◌||◌, List, [], ◌∷◌, ◌++◌, length, take, drop, get_or, Option, Some, None, refl, ap, ◌∙◌, arith, length-append}
use Rattle.std.specs.Prelude.{decimal, nat_eq, nat_lt}
use Rattle.std.proofs.Math.Bool.{and-false}
use Rattle.std.proofs.lemmas.Bool.Decides.{nat_tests}
use Rattle.std.proofs.lemmas.Bool.{lt-ltb, le-ltb, ltb-false, ne_eqb, cond-true, cond-false}
use Rattle.std.proofs.lemmas.List.{take_at, drop_at, drop_all}
use Rattle.std.specs.Str.Parse.{AllDigits}
use Rattle.std.proofs.lemmas.Fmt.{decimal_nonempty, digits_decimal, decimal_digit, first_decimal, digits_value-decimal}
use Rattle.std.proofs.lemmas.Str.Parse.{FoldsDigits, numerals_by_fold, tells_digits, IsNumeralModel, digit_from_value}
use Rattle.cs_syntax.specs.Matching.{Tree, one_of, rep}
use Rattle.cs_syntax.specs.ByteSet.{char_set}
use Rattle.cs_syntax.specs.Numbers.{digit_value}
use Rattle.cs_syntax.specs.Numbers.{is_digit, count_digits, number_of_digits}
use Rattle.cs_syntax.proofs.NumberLemmas.{value_after}
use Rattle.cs_syntax.specs.Tokens.{item, fault, atom, repeat, starts_with_byte}
use Rattle.cs_syntax.specs.Repeats.{lazy, number, counts_to, counts_from, counts, is_bad, brace}
use Rattle.cs_syntax.specs.Items.{next_token, token_by_kind}
use Rattle.cs_syntax.specs.ByteKinds.{byte_kind_of}
use Rattle.cs_syntax.specs.Parsing.{Group, inside, with_atom, with_repeat, at_end, parse_suffix, answer, flags_at_start, ParsesAs, HasSyntaxError, syntax_error}
use Rattle.cs_syntax.specs.Quoting.{counted_repeat}
use Rattle.cs_syntax.specs.declared.items.Number.{Number}
use Rattle.cs_syntax.specs.declared.items.RepeatCounts.{RepeatCounts}
use Rattle.cs_syntax.specs.declared.items.Flags.{Flags}
use Rattle.cs_syntax.specs.declared.items.ByteKind.TheVariants.{Literal}
use Rattle.cs_syntax.specs.declared.items.Before.{Before}
use Rattle.cs_syntax.specs.declared.items.Before.TheVariants.{Start, Operand, Repeated}
use Rattle.cs_syntax.specs.declared.fault.PatternFault.{PatternFault}
use Rattle.cs_syntax.specs.declared.fault.PatternFault.TheVariants.{BadRepeat}

-- ---- decimal numbers

digit_is : (c : ℕ) → 48 ≤ c → c ≤ 57 → digit_value c ≡ c - 48
unfolding digit_value
digit_is c low high = grind (arith, nat_tests)

is_one : (c : ℕ) → 48 ≤ c → c ≤ 57 → is_digit 10 c ≡ true
is_one c low high = lt-ltb (digit_value c) 10 (let v = digit_is c low high in omega (arith, v, low, high))

folds : FoldsDigits (value_after 10)
folds = record {
  empty = λ n. refl;
  more = λ n c cs k. let v : 10 * n + digit_value c ≡ n * 10 + (c - 48) = let d = digit_is c k.0 k.1 in
      omega (arith, d) in ap (λ m. value_after 10 m cs) v;
}

digits_there : (ds rest : List ℕ) → AllDigits 10 ds → count_digits 10 rest ≡ 0 → count_digits 10 (ds ++ rest) ≡ length ds
digits_there [] rest all ends = ends
digits_there (c ∷ ds) rest all ends =
    let k = digit_from_value c all.0 in
    cond-true (is_digit 10 c) (1 + count_digits 10 (ds ++ rest)) 0 (is_one c k.0 k.1)
    ∙ (let more_digits = digits_there ds rest all.1 ends in omega (arith, more_digits))

own : IsNumeralModel (AllDigits 10) (value_after 10 0)
own = numerals_by_fold (AllDigits 10) tells_digits (value_after 10) folds

first_above : (ds rest : List ℕ) → 48 < get_or ds 0 0 → starts_with_byte 48 (ds ++ rest) ≡ false
first_above [] rest h = absurd (omega (arith, h))
first_above (c ∷ ds) rest h = ne_eqb c 48 (λ e. omega (arith, e, h))

first_digit : (ds rest : List ℕ) → AllDigits 10 ds → 0 < length ds → starts_with_byte 125 (ds ++ rest) ≡ false
first_digit [] rest all some = absurd (omega (arith, some))
first_digit (c ∷ ds) rest all some = let k = digit_from_value c all.0 in ne_eqb c 125 (λ e. omega (arith, e, k.1))

-- a leading number without a digit after it
module _ (n : ℕ) (small : n < 2 ^ 64) (suffix : List ℕ) (ends : count_digits 10 suffix ≡ 0) where
  abbrev long : ℕ
  long = length (decimal n)

  no_zero_first : (nat_lt 1 long && starts_with_byte 48 (decimal n ++ suffix)) ≡ false
  no_zero_first = by_number n small
    where
      by_number : (k : ℕ) → k < 2 ^ 64 → (nat_lt 1 (length (decimal k)) && starts_with_byte 48 (decimal k ++ suffix)) ≡ false
      by_number zero h = ap (λ (ds : List ℕ). nat_lt 1 (length ds) && starts_with_byte 48 (ds ++ suffix)) (decimal_digit 0 (omega arith))
      by_number (suc k) h = ap (λ b. nat_lt 1 (length (decimal (suc k))) && b)
          (first_above (decimal (suc k)) suffix (first_decimal (suc k) (omega arith) h))
          ∙ and-false (nat_lt 1 (length (decimal (suc k))))

  is_written : (nat_eq long 0 || (nat_lt 1 long && starts_with_byte 48 (decimal n ++ suffix))) ≡ false
  is_written =
      let some = decimal_nonempty n small in
      ap (λ b. b || (nat_lt 1 long && starts_with_byte 48 (decimal n ++ suffix)))
      (ne_eqb long 0 (λ e. omega (arith, e, some))) ∙ no_zero_first

  number_there : number (decimal n ++ suffix) ≡ Some (record { value = n; len = long })
  number_there =
      let text : List ℕ = decimal n ++ suffix in
      ap (λ len. cond (nat_eq len 0 || (nat_lt 1 len && starts_with_byte 48 text)) None
      (Some (record { value = number_of_digits 10 (take len text); len = len })))
      (digits_there (decimal n) suffix (digits_decimal own n small) ends)
      ∙ cond-false (nat_eq long 0 || (nat_lt 1 long && starts_with_byte 48 text)) None
      (Some (record { value = number_of_digits 10 (take long text); len = long })) is_written
      ∙ ap (λ v. Some (record { value = v; len = long }))
      (ap (number_of_digits 10) (take_at (decimal n) suffix long refl) ∙ digits_value-decimal own n small)

-- ---- counts

module _ (n m : ℕ) (n_small : n < 2 ^ 64) (m_small : m < 2 ^ 64) where
  abbrev second : List ℕ
  second = decimal m ++ 125 ∷ []

  abbrev tail : List ℕ
  tail = decimal n ++ 44 ∷ second

  abbrev first_number : Number
  first_number = record { value = n; len = length (decimal n) }

  abbrev both : RepeatCounts
  both = record { least = n; most = Some m; len = length (decimal n) + 2 + length (decimal m) }

  comma_ends : count_digits 10 (44 ∷ second) ≡ 0
  unfolding digit_value
  comma_ends = refl

  brace_ends : count_digits 10 (125 ∷ []) ≡ 0
  unfolding digit_value
  brace_ends = refl

  counts_second : counts_to first_number second ≡ Some both
  counts_second =
      cond-false (starts_with_byte 125 second) (Some (record { least = n; most = None; len = length (decimal n) + 2 }))
      _ (first_digit (decimal m) (125 ∷ []) (digits_decimal own m m_small) (decimal_nonempty m m_small))
      ∙ ap (λ (o : Option Number). elim o [
        | None ↦ None
        | Some k ↦ cond (starts_with_byte 125 (drop k.len second))
            (Some (record { least = n; most = Some k.value; len = length (decimal n) + 2 + k.len })) None
      ])
      (number_there m m_small (125 ∷ []) brace_ends)
      ∙ ap (λ (rest : List ℕ). cond (starts_with_byte 125 rest) (Some both) None) (drop_at (decimal m) (125 ∷ []) (length (decimal m)) refl)

  counts_there : counts tail ≡ Some both
  counts_there =
      ap (λ (o : Option Number). elim o [ None ↦ None | Some k ↦ counts_from k (drop k.len tail) ])
      (number_there n n_small (44 ∷ second) comma_ends)
      ∙ ap (counts_from first_number) (drop_at (decimal n) (44 ∷ second) (length (decimal n)) refl)
      ∙ counts_second

  brace_by : brace tail ≡ cond (is_bad both) (fault BadRepeat 0) (lazy n (Some m) both.len tail)
  brace_by = ap (λ (o : Option RepeatCounts). elim o [
    | None ↦ item (atom (one_of (char_set false 123))) 0
    | Some c ↦ cond (is_bad c) (fault BadRepeat 0)
        (lazy c.least c.most c.len tail)
  ]) counts_there

  whole : both.len ≡ length tail
  whole = let a = length-append (decimal n) (44 ∷ second) in let b = length-append (decimal m) (125 ∷ []) in omega (arith, a, b)

  brace_repeats : n ≤ m → m ≤ 1000 → brace tail ≡ item (repeat n (Some m)) (length tail)
  brace_repeats ordered bound =
      let good : is_bad both ≡ false =
      let x = le-ltb 1000 n (omega (arith, ordered, bound)) in
      let y = le-ltb 1000 m bound in
      let z = le-ltb m n ordered in
      (λ i. x i || (y i || z i)) in
      brace_by ∙ cond-false (is_bad both) (fault BadRepeat 0) (lazy n (Some m) both.len tail) good
      ∙ ap (λ len. lazy n (Some m) len tail) whole
      ∙ ap (λ (rest : List ℕ). item (repeat n (Some m)) (length tail + cond (starts_with_byte 63 rest) 1 0))
      (drop_all (length tail) tail (omega arith))
      ∙ ap (λ len. item (repeat n (Some m)) len) (let z : length tail + 0 ≡ length tail = omega arith in z)

  brace_breaks : (n ≤ m → m ≤ 1000 → ⊥) → brace tail ≡ fault BadRepeat 0
  brace_breaks apart = brace_by ∙ cond-true (is_bad both) (fault BadRepeat 0) (lazy n (Some m) both.len tail)
      (bad (nat_lt 1000 n) (nat_lt 1000 m) (nat_lt m n) refl refl refl)
    where
      bad : (x y z : Bool) → nat_lt 1000 n ≡ x → nat_lt 1000 m ≡ y → nat_lt m n ≡ z → (x || (y || z)) ≡ true
      bad true y z a b c = refl
      bad false true z a b c = refl
      bad false false true a b c = refl
      bad false false false a b c = absurd (apart (ltb-false m n c) (ltb-false 1000 m b))

-- ---- the parse of single items

module _ (offset : ℕ) (groups : List Group) (flags : Flags) (b : ℕ) (text : List ℕ) where
  pub atom_parsed : (before : Before) (t : Tree) (len : ℕ) → next_token flags b text ≡ item (atom t) len →
      parse_suffix 0 offset before groups flags (b ∷ text)
      ≡ inside (with_atom t) (parse_suffix len (offset + 1) Operand groups flags text)
  atom_parsed before t len e = rw (e, parse_suffix) refl

  pub repeat_parsed : (n : ℕ) (m : Option ℕ) (len : ℕ) → next_token flags b text ≡ item (repeat n m) len →
      parse_suffix 0 offset Operand groups flags (b ∷ text)
      ≡ inside (with_repeat n m) (parse_suffix len (offset + 1) Repeated groups flags text)
  repeat_parsed n m len e = rw (e, parse_suffix) refl

  pub error_parsed : (before : Before) (k : PatternFault) (distance : ℕ) → next_token flags b text ≡ fault k distance →
      parse_suffix 0 offset before groups flags (b ∷ text) ≡ syntax_error k (offset + distance)
  error_parsed before k distance e = rw (e, parse_suffix) refl

skip_all : (text : List ℕ) (offset : ℕ) (before : Before) (groups : List Group) (flags : Flags) →
    parse_suffix (length text) offset before groups flags text ≡ at_end groups
skip_all [] offset before groups flags = refl
skip_all (b ∷ text) offset before groups flags = skip_all text (offset + 1) before groups flags

pub literal_token : (flags : Flags) (b : ℕ) (text : List ℕ) → byte_kind_of b ≡ Literal → next_token flags b text
    ≡ item (atom (one_of (char_set flags.fold b))) 0
unfolding next_token
literal_token flags b text literal = ap (λ s. token_by_kind s flags b text) literal

brace_token : (flags : Flags) (text : List ℕ) → next_token flags 123 text ≡ brace text
unfolding next_token byte_kind_of
brace_token flags text = refl

module _ (b n m : ℕ) (fold : Bool) (literal : byte_kind_of b ≡ Literal) (n_small : n < 2 ^ 64) (m_small : m < 2 ^ 64) where
  abbrev start : Flags
  start = flags_at_start fold

  abbrev one : Tree
  one = one_of (char_set fold b)

  one_literal : parse_suffix 0 0 Start [] start (b ∷ counted_repeat n m)
      ≡ inside (with_atom one) (parse_suffix 0 1 Operand [] start (counted_repeat n m))
  one_literal = atom_parsed 0 [] start b (counted_repeat n m) Start one 0 (literal_token start b (counted_repeat n m) literal)

  pub repeat_as_written : n ≤ m → m ≤ 1000 → ParsesAs (b ∷ counted_repeat n m) fold (rep one n (Some m))
  repeat_as_written ordered bound =
      ap answer (one_literal
      ∙ ap (inside (with_atom one)) (repeat_parsed 1 [] start 123 (tail n m n_small m_small) n (Some m)
      (length (tail n m n_small m_small)) (brace_token start (tail n m n_small m_small)
      ∙ brace_repeats n m n_small m_small ordered bound)
      ∙ ap (inside (with_repeat n (Some m))) (skip_all (tail n m n_small m_small) 2 Repeated [] start)))

  pub repeat_out_of_order : (n ≤ m → m ≤ 1000 → ⊥) → HasSyntaxError (b ∷ counted_repeat n m) fold BadRepeat 1
  repeat_out_of_order apart =
      ap answer (one_literal
      ∙ ap (inside (with_atom one)) (error_parsed 1 [] start 123 (tail n m n_small m_small) Operand BadRepeat 0
      (brace_token start (tail n m n_small m_small) ∙ brace_breaks n m n_small m_small apart)))
