-- Quoted texts parse as the sequence of their characters.
use Rattle.std.proofs.Common.{◌≡◌, ℕ, ◌+◌, ◌/◌, ◌%◌, ◌<◌, ◌≤◌, Bool, true, false, cond, List, [], ◌∷◌, ◌++◌, length, take, refl, sym, ap, subst, ◌∙◌, inl, inr, arith, IsUtf8}
use Rattle.std.specs.Prelude.{nat_eq, nat_lt, nat_le, Some, None, if◌then◌else◌}
use Rattle.std.specs.Option.{unwrap_or}
use Rattle.std.specs.Char.{encode_utf8}
use Rattle.std.specs.Str.{chars, encode_utf8_all}
use Rattle.std.specs.List.{AllByRecursion, prefix_len}
use Rattle.std.proofs.lemmas.Bool.Decides.{nat_tests}
use Rattle.std.proofs.lemmas.Bool.{le-leb, le-ltb, lt-leb, ne_eqb, eqb-true, or_cases, true≢false, cases_Bool, cases_lt, cond-true, cond-false}
use Rattle.std.proofs.lemmas.List.{take_at}
use Rattle.std.proofs.lemmas.Str.{encode_ascii, encodes-chars}
use Rattle.cs_syntax.specs.Matching.{Tree, one_of, none}
use Rattle.cs_syntax.specs.NumberList.{has}
use Rattle.cs_syntax.specs.ByteSet.{char_set}
use Rattle.cs_syntax.specs.Numbers.{digit_value}
use Rattle.cs_syntax.specs.Tokens.{sequence, item, atom, is_continuation, bytes_tree, char_tree}
use Rattle.cs_syntax.specs.Escapes.{escape, escaped_tree, escaped_class, char_token}
use Rattle.cs_syntax.specs.Items.{next_token, token_by_kind}
use Rattle.cs_syntax.specs.ByteKinds.{byte_kind_of}
use Rattle.cs_syntax.specs.Parsing.{SuffixParse, levels, inside, with_atom, parse_suffix, answer, flags_at_start, ParsesAs}
use Rattle.cs_syntax.specs.Quoting.{metachars, quote_meta, atoms_of}
use Rattle.cs_syntax.proofs.CountedRepeatLemmas.{atom_parsed, literal_token}
use Rattle.cs_syntax.specs.declared.items.Flags.{Flags}
use Rattle.cs_syntax.specs.declared.items.ByteKind.TheVariants.{Star, Plus, Question, Brace, Dot, Caret, Dollar, Bar, Open, Close, Class, Backslash, NonAscii, Literal}
use Rattle.cs_syntax.specs.declared.items.Before.{Before}
use Rattle.cs_syntax.specs.declared.items.Before.TheVariants.{Start, Operand}

-- ---- metacharacters

abbrev ParsesQuoted : ℕ → Type 0
ParsesQuoted b = (fold : Bool) (text : List ℕ) → escape fold (b ∷ text) ≡ item (atom (one_of (char_set fold b))) 1

each_metachar : AllByRecursion ParsesQuoted metachars
unfolding escaped_tree escaped_class char_token digit_value
each_metachar = (
  λ fold text. refl,
  (
    λ fold text. refl,
    (
      λ fold text. refl,
      (
        λ fold text. refl,
        (
          λ fold text. refl,
          (
            λ fold text. refl,
            (
              λ fold text. refl,
              (
                λ fold text. refl,
                (λ fold text. refl, (λ fold text. refl, (λ fold text. refl, (λ fold text. refl, tt)))),
              ),
            ),
          ),
        ),
      ),
    ),
  ),
)

pub of_each : (P : ℕ → Type 0) (ks : List ℕ) (b : ℕ) → AllByRecursion P ks → has ks b ≡ true → P b
of_each P [] b all there = cc
of_each P (k ∷ ks) b all there = elim (or_cases (nat_eq k b) (has ks b) there) [
  | inl here ↦ subst P (eqb-true k b here) all.0
  | inr later ↦ of_each P ks b all.1 later
]

escape_token : (flags : Flags) (text : List ℕ) → next_token flags 92 text ≡ escape flags.fold text
unfolding next_token byte_kind_of
escape_token flags text = refl

-- a byte that is not a metacharacter
module _ (b : ℕ) (apart : has metachars b ≡ false) where
  no_metachar : (k : ℕ) → has metachars k ≡ true → nat_eq b k ≡ false
  no_metachar k is = ne_eqb b k (λ e. true≢false (sym is ∙ ap (has metachars) (sym e) ∙ apart))

  pub by_width : (multibyte : Bool) → nat_le 128 b ≡ multibyte → byte_kind_of b ≡ cond multibyte NonAscii Literal
  unfolding byte_kind_of
  by_width multibyte h = λ i.
      unwrap_or
      (cond (no_metachar 42 refl i) (Some Star)
      (cond (no_metachar 43 refl i) (Some Plus)
      (cond (no_metachar 63 refl i) (Some Question) (cond (no_metachar 123 refl i) (Some Brace)
      (cond (no_metachar 46 refl i) (Some Dot)
      (cond (no_metachar 94 refl i) (Some Caret)
      (cond (no_metachar 36 refl i) (Some Dollar) (cond (no_metachar 124 refl i) (Some Bar)
      (cond (no_metachar 40 refl i) (Some Open)
      (cond (no_metachar 41 refl i) (Some Close)
      (cond (no_metachar 91 refl i) (Some Class) (cond (no_metachar 92 refl i) (Some Backslash)
      None))))))))))))
      (cond (h i) NonAscii Literal)

abbrev IsLow : ℕ → Type 0
IsLow b = b < 128

low_metachars : AllByRecursion IsLow metachars
low_metachars = (
  omega arith,
  (
    omega arith,
    (
      omega arith,
      (
        omega arith,
        (
          omega arith,
          (omega arith, (omega arith, (omega arith, (omega arith, (omega arith, (omega arith, (omega arith, tt))))))),
        ),
      ),
    ),
  ),
)

high_is_no_metachar : (b : ℕ) → 128 ≤ b → has metachars b ≡ false
high_is_no_metachar b high = elim (cases_Bool (has metachars b)) [
  | inl there ↦ absurd (let low = of_each IsLow metachars b low_metachars there in omega (arith, low, high))
  | inr apart ↦ apart
]

-- ---- non-ASCII characters

abbrev Continues : ℕ → Type 0
Continues b = is_continuation b ≡ true

-- the UTF-8 encoding of a non-ASCII character: a lead byte and continuation bytes
record MultibyteEncoding (c : ℕ) : Type 0 where
  lead : ℕ
  others : List ℕ
  encoded : encode_utf8 c ≡ lead ∷ others
  leads : 192 ≤ lead
  continue : AllByRecursion Continues others

continues : (bits : ℕ) → Continues (128 + bits % 64)
continues bits = grind (arith, nat_tests)

multibyte_encoding : (c : ℕ) → 128 ≤ c → MultibyteEncoding c
unfolding encode_utf8
multibyte_encoding c high =
    let past = le-ltb c 128 high in
    elim (cases_Bool (nat_lt c 2048)) [
      | inl two ↦ record {
        lead = 192 + c / 64;
        others = (128 + c % 64) ∷ [];
        encoded = cond-false (nat_lt c 128) _ _ past ∙ cond-true (nat_lt c 2048) _ _ two;
        leads = omega arith;
        continue = (continues c, tt);
      }
      | inr more ↦
          elim (cases_Bool (nat_lt c 65536)) [
            | inl three ↦ record {
              lead = 224 + c / 4096;
              others = (128 + (c / 64) % 64) ∷ (128 + c % 64) ∷ [];
              encoded = cond-false (nat_lt c 128) _ _ past ∙ cond-false (nat_lt c 2048) _ _ more ∙ cond-true (nat_lt c 65536) _ _ three;
              leads = omega arith;
              continue = (continues (c / 64), (continues c, tt));
            }
            | inr four ↦ record {
              lead = 240 + c / 262144;
              others = (128 + (c / 4096) % 64) ∷ (128 + (c / 64) % 64) ∷ (128 + c % 64) ∷ [];
              encoded = cond-false (nat_lt c 128) _ _ past ∙ cond-false (nat_lt c 2048) _ _ more ∙ cond-false (nat_lt c 65536) _ _ four;
              leads = omega arith;
              continue = (continues (c / 4096), (continues (c / 64), (continues c, tt)));
            }
          ]
    ]

-- the number of leading continuation bytes of a list that begins with `bs`
prefix_continues : (bs text : List ℕ) → AllByRecursion Continues bs → prefix_len is_continuation text ≡ 0 →
    prefix_len is_continuation (bs ++ text) ≡ length bs
prefix_continues [] text all ends = ends
prefix_continues (b ∷ bs) text all ends =
    cond-true (is_continuation b) (1 + prefix_len is_continuation (bs ++ text)) 0 all.0
    ∙ (let later = prefix_continues bs text all.1 ends in omega (arith, later))

low_ends : (b : ℕ) (text : List ℕ) → b < 128 → prefix_len is_continuation (b ∷ text) ≡ 0
low_ends b text low = grind (arith, nat_tests)

lead_ends : (b : ℕ) (text : List ℕ) → 192 ≤ b → prefix_len is_continuation (b ∷ text) ≡ 0
lead_ends b text high = grind (arith, nat_tests)

-- ---- one quoted character

abbrev quoted_byte : ℕ → List ℕ
quoted_byte b = if has metachars b then 92 ∷ b ∷ [] else b ∷ []

quoted_high : (bs text : List ℕ) → AllByRecursion (λ b. 128 ≤ b) bs → quote_meta (bs ++ text) ≡ bs ++ quote_meta text
quoted_high [] text all = refl
quoted_high (b ∷ bs) text all =
    ap (λ t. (if t then 92 ∷ b ∷ [] else b ∷ []) ++ quote_meta (bs ++ text)) (high_is_no_metachar b all.0)
    ∙ ap (λ more. b ∷ more) (quoted_high bs text all.1)

continue_high : (bs : List ℕ) → AllByRecursion Continues bs → AllByRecursion (λ b. 128 ≤ b) bs
continue_high [] all = tt
continue_high (b ∷ bs) all = (let here = all.0 in grind (arith, nat_tests), continue_high bs all.1)

module _ (c : ℕ) (low : c < 128) (text : List ℕ) where
  quoted_low : quote_meta (encode_utf8 c ++ text) ≡ quoted_byte c ++ quote_meta text
  quoted_low = ap (λ (bs : List ℕ). quote_meta (bs ++ text)) (encode_ascii c low)

module _ (c : ℕ) (encoding : MultibyteEncoding c) (text : List ℕ) where
  high_encoding : AllByRecursion (λ b. 128 ≤ b) (encoding.lead ∷ encoding.others)
  high_encoding = ((let leads = encoding.leads in omega (arith, leads)), continue_high encoding.others encoding.continue)

  quoted_multibyte : quote_meta (encode_utf8 c ++ text) ≡ encoding.lead ∷ (encoding.others ++ quote_meta text)
  quoted_multibyte = ap (λ (bs : List ℕ). quote_meta (bs ++ text)) encoding.encoded
      ∙ quoted_high (encoding.lead ∷ encoding.others) text high_encoding

-- a quoted text does not begin with a continuation byte
quoted_begins : (cs : List ℕ) → prefix_len is_continuation (quote_meta (encode_utf8_all cs)) ≡ 0
quoted_begins [] = refl
quoted_begins (c ∷ cs) = elim (cases_lt c 128) [
  | inl low ↦
      ap (prefix_len is_continuation) (quoted_low c low (encode_utf8_all cs))
      ∙ elim (has metachars c) as (λ t. prefix_len is_continuation
      ((if t then 92 ∷ c ∷ [] else c ∷ []) ++ quote_meta (encode_utf8_all cs)) ≡ 0)
      [ true ↦ refl | false ↦ low_ends c (quote_meta (encode_utf8_all cs)) low ]
  | inr high ↦
      let encoding : MultibyteEncoding c = multibyte_encoding c high in
      ap (prefix_len is_continuation) (quoted_multibyte c encoding (encode_utf8_all cs))
      ∙ lead_ends encoding.lead (encoding.others ++ quote_meta (encode_utf8_all cs)) encoding.leads
]

-- ---- texts

module _ (flags : Flags) where
  abbrev Atoms : List ℕ → SuffixParse
  Atoms cs = levels (record { atoms = atoms_of flags.fold cs; branches = none; repeats = [] }) []

  abbrev atom_of : ℕ → Tree
  atom_of c = char_tree flags.fold c

  abbrev ParsesOn : List ℕ → List ℕ → Type 0
  ParsesOn text cs = (offset : ℕ) → parse_suffix 0 offset Operand [] flags text ≡ Atoms cs

  skipped : (bs text cs : List ℕ) → ParsesOn text cs → (offset : ℕ) → parse_suffix (length bs) offset Operand [] flags
      (bs ++ text) ≡ Atoms cs
  skipped [] text cs later offset = later offset
  skipped (b ∷ bs) text cs later offset = skipped bs text cs later (offset + 1)

  low_atom : (c : ℕ) → c < 128 → atom_of c ≡ one_of (char_set flags.fold c)
  low_atom c low = grind (arith, nat_tests)

  high_atom : (c : ℕ) → 128 ≤ c → atom_of c ≡ bytes_tree (encode_utf8 c)
  high_atom c high = grind (arith, nat_tests)

  by_meta : (offset : ℕ) (before : Before) (c : ℕ) (cs text : List ℕ) (byte_kind : Bool) → c < 128 → has metachars c
      ≡ byte_kind → ParsesOn text cs → parse_suffix 0 offset before [] flags
      ((if byte_kind then 92 ∷ c ∷ [] else c ∷ []) ++ text) ≡ Atoms (c ∷ cs)
  by_meta offset before c cs text true low is later =
      atom_parsed offset [] flags 92 (c ∷ text) before (one_of (char_set flags.fold c)) 1
      (escape_token flags (c ∷ text) ∙ of_each ParsesQuoted metachars c each_metachar is flags.fold text)
      ∙ ap (inside (with_atom (one_of (char_set flags.fold c)))) (later (offset + 1 + 1))
      ∙ ap (λ t. inside (with_atom t) (Atoms cs)) (sym (low_atom c low))
  by_meta offset before c cs text false low is later =
      atom_parsed offset [] flags c text before (one_of (char_set flags.fold c)) 0
      (literal_token flags c text (by_width c is false (lt-leb 128 c low)))
      ∙ ap (inside (with_atom (one_of (char_set flags.fold c)))) (later (offset + 1))
      ∙ ap (λ t. inside (with_atom t) (Atoms cs)) (sym (low_atom c low))

  multibyte_token : (c : ℕ) (encoding : MultibyteEncoding c) (text : List ℕ) → prefix_len is_continuation text ≡ 0 →
      next_token flags encoding.lead (encoding.others ++ text) ≡ item (atom (bytes_tree (encode_utf8 c)))
      (length encoding.others)
  unfolding next_token
  multibyte_token c encoding text ends =
      let high : 128 ≤ encoding.lead = let leads = encoding.leads in omega (arith, leads) in
      ap (λ s. token_by_kind s flags encoding.lead (encoding.others ++ text))
      (by_width encoding.lead (high_is_no_metachar encoding.lead high) true (le-leb 128 encoding.lead high))
      ∙ ap (λ n. item (atom (bytes_tree (encoding.lead ∷ take n (encoding.others ++ text)))) n)
      (prefix_continues encoding.others text encoding.continue ends)
      ∙ ap (λ (bs : List ℕ). item (atom (bytes_tree (encoding.lead ∷ bs))) (length encoding.others))
      (take_at encoding.others text (length encoding.others) refl)
      ∙ ap (λ (bs : List ℕ). item (atom (bytes_tree bs)) (length encoding.others)) (sym encoding.encoded)

  by_encoding : (offset : ℕ) (before : Before) (c : ℕ) (cs text : List ℕ) → 128 ≤ c → (encoding : MultibyteEncoding c) →
      prefix_len is_continuation text ≡ 0 → ParsesOn text cs → parse_suffix 0 offset before [] flags
      (encoding.lead ∷ (encoding.others ++ text)) ≡ Atoms (c ∷ cs)
  by_encoding offset before c cs text high encoding ends later =
      atom_parsed offset [] flags encoding.lead (encoding.others ++ text) before (bytes_tree (encode_utf8 c))
      (length encoding.others) (multibyte_token c encoding text ends)
      ∙ ap (inside (with_atom (bytes_tree (encode_utf8 c)))) (skipped encoding.others text cs later (offset + 1))
      ∙ ap (λ t. inside (with_atom t) (Atoms cs)) (sym (high_atom c high))

  quoted_suffix : (offset : ℕ) (before : Before) (cs : List ℕ) → parse_suffix 0 offset before [] flags
      (quote_meta (encode_utf8_all cs)) ≡ Atoms cs
  quoted_suffix offset before [] = refl
  quoted_suffix offset before (c ∷ cs) = elim (cases_lt c 128) [
    | inl low ↦
        ap (parse_suffix 0 offset before [] flags) (quoted_low c low (encode_utf8_all cs))
        ∙ by_meta offset before c cs (quote_meta (encode_utf8_all cs)) (has metachars c) low refl (λ later. quoted_suffix later Operand cs)
    | inr high ↦
        let encoding : MultibyteEncoding c = multibyte_encoding c high in
        ap (parse_suffix 0 offset before [] flags) (quoted_multibyte c encoding (encode_utf8_all cs))
        ∙ by_encoding offset before c cs (quote_meta (encode_utf8_all cs)) high encoding (quoted_begins cs)
        (λ later. quoted_suffix later Operand cs)
  ]

encoded_parses : (cs : List ℕ) (fold : Bool) → ParsesAs (quote_meta (encode_utf8_all cs)) fold (sequence (atoms_of fold cs))
encoded_parses cs fold = ap answer (quoted_suffix (flags_at_start fold) 0 Start cs)

ascii_encoded : (text : List ℕ) → AllByRecursion (λ b. b < 128) text → encode_utf8_all text ≡ text
ascii_encoded [] all = refl
ascii_encoded (b ∷ text) all = λ i. encode_ascii b all.0 i ++ ascii_encoded text all.1 i

pub ascii_parses : (text : List ℕ) (fold : Bool) → AllByRecursion (λ b. b < 128) text →
    ParsesAs (quote_meta text) fold (sequence (atoms_of fold text))
ascii_parses text fold all = subst (λ (bytes : List ℕ). ParsesAs (quote_meta bytes) fold
    (sequence (atoms_of fold text))) (ascii_encoded text all) (encoded_parses text fold)

pub text_parses : (text : List ℕ) (fold : Bool) → IsUtf8 text → ParsesAs (quote_meta text) fold (sequence (atoms_of fold (chars text)))
text_parses text fold utf8 = subst (λ (bytes : List ℕ). ParsesAs (quote_meta bytes) fold
    (sequence (atoms_of fold (chars text)))) (encodes-chars text utf8) (encoded_parses (chars text) fold)
