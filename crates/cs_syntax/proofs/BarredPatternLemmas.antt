-- `s|t` parses as the alternation of the branches of both patterns, if `s` is self-contained.
use Rattle.std.proofs.Common.{◌≡◌, ℕ, zero, suc, ◌+◌, ◌≤◌, Bool, true, false, cond, ◌&&◌, ◌||◌, List, [], ◌∷◌, ◌++◌, length, take, drop, refl, sym, ap, subst, ◌∙◌, inl, inr, arith, Option, Some, None}
use Rattle.std.specs.Prelude.{nat_eq, nat_lt, not, min, is_some, option_map, codes, if◌then◌else◌, chars, slice_index}
use Rattle.std.specs.Char.{is_ascii_alphabetic}
use Rattle.std.specs.List.{prefix_len, starts_with}
use Rattle.std.proofs.lemmas.Bool.{true≢false, and_parts, ltb-true, eqb-true}
use Rattle.std.proofs.lemmas.List.Sums.{prefix_len-le-length}
use Rattle.cs_syntax.specs.Matching.{Tree, Trees, one_of, more, is_word}
use Rattle.cs_syntax.specs.NumberList.{has}
use Rattle.cs_syntax.specs.Tokens.{Token, PatternItem, atom, repeat, group_start, flags_from_here, item, fault, and_then, sequence, starts_with_byte, is_continuation, bytes_tree, char_tree}
use Rattle.cs_syntax.specs.ByteSet.{char_set}
use Rattle.cs_syntax.specs.Numbers.{digit_value, is_digit, count_digits, number_of_digits}
use Rattle.cs_syntax.specs.Classes.{class_escape, class_char, range_to, range_from, span, name_length, posix_class, after_colon, after_backslash, class_token, items_from, class_of, class}
use Rattle.cs_syntax.specs.declared.items.ClassItem.{ClassItem}
use Rattle.cs_syntax.specs.declared.items.ClassItem.TheVariants.{Range}
use Rattle.cs_syntax.specs.Repeats.{lazy, number, counts_to, counts_from, counts, is_bad, brace}
use Rattle.cs_syntax.specs.declared.items.Number.{Number}
use Rattle.cs_syntax.specs.declared.items.RepeatCounts.{RepeatCounts}
use Rattle.cs_syntax.specs.Escapes.{char_by_number, octal_char, hex_char_in_braces, hex_char, control_char, escaped_char, is_unsupported_escape, escaped_class, escaped_tree, char_token, escape}
use Rattle.cs_syntax.specs.declared.escapes.EscapedChar.{EscapedChar}
use Rattle.cs_syntax.specs.Items.{next_token, token_by_kind}
use Rattle.cs_syntax.specs.ByteKinds.{byte_kind_of}
use Rattle.cs_syntax.proofs.TreeListLemmas.{matches_alternation, matches_append}
use Rattle.cs_syntax.specs.TreeList.{append}
use Rattle.cs_syntax.specs.Parsing.{Level, SuffixParse, tree, levels, syntax_error, inside, with_bar, whole_group, parse_suffix, answer, flags_at_start, ParsesAs}
use Rattle.cs_syntax.specs.BarredPatterns.{final_flags, class_names_end, IsSelfContained, MatchesEither}
use Rattle.cs_syntax.specs.Groups.{name, with_set, with_cleared, after_flags, cleared_flags, set_flags, head, group}
use Rattle.cs_syntax.proofs.ClassLemmas.{with_class_item}
use Rattle.cs_syntax.proofs.TokenLemmas.{either, FitsIn, starts_within, NumberWithin, digits_within, CountsWithin, counts_within, class_escape_fits, class_char_fits}
use Rattle.cs_syntax.proofs.ParseLemmas.{IsItem, Follows, Goes, goes, alone, anywhere}
use Rattle.cs_syntax.specs.declared.items.Flags.{Flags}
use Rattle.cs_syntax.specs.declared.items.ByteKind.{ByteKind}
use Rattle.cs_syntax.specs.declared.items.ByteKind.TheVariants.{Star, Plus, Question, Brace, Dot, Caret, Dollar, Bar, Open, Close, Class, Backslash, NonAscii, Literal}
use Rattle.cs_syntax.specs.declared.items.Before.TheVariants.{Start}
use Rattle.cs_syntax.specs.declared.fault.PatternFault.TheVariants.{NotInProfile, BadEscape, BadRepeat, BadGroup}

-- ---- a bar after a text

-- two conditionals with the same test; P holds of the second
choice_by : {A : Type 0} (P : A → Type 0) (b c : Bool) (x y u v : A) → c ≡ b → (b ≡ true → P x → u ≡ x) → (b ≡ false → P y → v ≡ y) →
    P (if b then x else y) → (if c then u else v) ≡ (if b then x else y)
choice_by P true c x y u v e p q h = ap (λ d. if d then u else v) e ∙ p refl h
choice_by P false c x y u v e p q h = ap (λ d. if d then u else v) e ∙ q refl h

choice : {A : Type 0} (b c : Bool) (x y u v : A) → c ≡ b → (b ≡ true → u ≡ x) → (b ≡ false → v ≡ y) →
    (if c then u else v) ≡ (if b then x else y)
choice b c x y u v e p q = choice_by (λ z. Unit {0}) b c x y u v e (λ a h. p a) (λ a h. q a) tt

-- a token made of another one is an item only if that is one
made_of : {A B : Type 0} (by : ℕ) (next : A → ℕ → Token B) (t : Token A) → IsItem (and_then by next t) → IsItem t
made_of by next (item x len) h = tt
made_of by next (fault k distance) h = h

-- after an item of a closed class, the rest of the class is closed
closed_after : (len distance : ℕ) (text : List ℕ) → IsItem (items_from len distance false text) →
    (from : ℕ) × IsItem (items_from 0 from false (drop len text))
closed_after zero distance text h = (distance, h)
closed_after (suc len) distance [] h = absurd h
closed_after (suc len) distance (b ∷ text) h = closed_after len (distance + 1) text h

no_digits : (is_digit 8 124 ≡ false) × (is_digit 10 124 ≡ false) × (is_digit 16 124 ≡ false)
unfolding digit_value
no_digits = (refl, refl, refl)

names_on : (b : ℕ) (text : List ℕ) → class_names_end (b ∷ text) ≡ true → class_names_end text ≡ true
names_on b text h = (and_parts (not (nat_eq b 91 && starts_with_byte 58 text) || is_some (name_length (drop 1 text)))
    (class_names_end text) h).1

module _ (t : List ℕ) where
  abbrev after : List ℕ → List ℕ
  after text = text ++ 124 ∷ t

  starts_after : (c : ℕ) (text : List ℕ) → nat_eq 124 c ≡ false → starts_with_byte c (after text) ≡ starts_with_byte c text
  starts_after c [] h = h
  starts_after c (d ∷ text) h = refl

  take_after : (n : ℕ) (text : List ℕ) → n ≤ length text → take n (after text) ≡ take n text
  take_after zero text h = refl
  take_after (suc n) [] h = absurd (omega (arith, h))
  take_after (suc n) (d ∷ text) h = ap (λ rest. d ∷ rest) (take_after n text (omega (arith, h)))

  drop_after : (n : ℕ) (text : List ℕ) → n ≤ length text → drop n (after text) ≡ after (drop n text)
  drop_after zero text h = refl
  drop_after (suc n) [] h = absurd (omega (arith, h))
  drop_after (suc n) (d ∷ text) h = drop_after n text (omega (arith, h))

  there_after : (c n : ℕ) (text : List ℕ) → nat_eq 124 c ≡ false → n ≤ length text →
      starts_with_byte c (drop n (after text)) ≡ starts_with_byte c (drop n text)
  there_after c n text h le = ap (starts_with_byte c) (drop_after n text le) ∙ starts_after c (drop n text) h

  -- the longest prefix whose bytes satisfy p, and what is behind it
  module _ (p : ℕ → Bool) (no : p 124 ≡ false) where
    prefix_after : (text : List ℕ) → prefix_len p (after text) ≡ prefix_len p text
    prefix_after [] = ap (λ b. cond b (1 + prefix_len p t) 0) no
    prefix_after (d ∷ text) = ap (λ n. cond (p d) (1 + n) 0) (prefix_after text)

    taken_after : (text : List ℕ) → take (prefix_len p (after text)) (after text) ≡ take (prefix_len p text) text
    taken_after text = ap (λ n. take n (after text)) (prefix_after text) ∙ take_after (prefix_len p text) text (prefix_len-le-length p text)

    dropped_after : (text : List ℕ) → drop (prefix_len p (after text)) (after text) ≡ after (drop (prefix_len p text) text)
    dropped_after text = ap (λ n. drop n (after text)) (prefix_after text)
        ∙ drop_after (prefix_len p text) text (prefix_len-le-length p text)

    next_after : (c : ℕ) (text : List ℕ) → nat_eq 124 c ≡ false →
        starts_with_byte c (drop (prefix_len p (after text)) (after text))
        ≡ starts_with_byte c (drop (prefix_len p text) text)
    next_after c text h = ap (starts_with_byte c) (dropped_after text) ∙ starts_after c (drop (prefix_len p text) text) h

  -- ---- escapes

  octal_after : (text : List ℕ) → octal_char (after text) ≡ octal_char text
  octal_after text =
      let le = prefix_len-le-length (is_digit 8) text in
      let n = prefix_after (is_digit 8) no_digits.0 text in
      let bytes : take (min (count_digits 8 (after text)) 3) (after text) ≡ take (min (count_digits 8 text) 3) text =
      ap (λ k. take (min k 3) (after text)) n ∙ take_after (min (count_digits 8 text) 3) text (omega (arith, le)) in
      λ i. cond (starts_after 48 text refl i || nat_lt 1 (min (n i) 3)) (char_by_number (number_of_digits 8 (bytes i)) (min (n i) 3)) None

  braces_after : (text : List ℕ) → hex_char_in_braces (after text) ≡ hex_char_in_braces text
  braces_after text =
      let n = prefix_after (is_digit 16) no_digits.2 text in
      let bytes = taken_after (is_digit 16) no_digits.2 text in
      λ i. cond (nat_lt 0 (n i) && next_after (is_digit 16) no_digits.2 125 text refl i)
      (char_by_number (number_of_digits 16 (bytes i)) (n i + 3)) None

  hex_after : (text : List ℕ) → hex_char (after text) ≡ hex_char text
  hex_after text =
      choice (starts_with_byte 123 text) (starts_with_byte 123 (after text)) (hex_char_in_braces (drop 1 text)) _
      (hex_char_in_braces (drop 1 (after text))) _ (starts_after 123 text refl)
      (λ e. ap hex_char_in_braces (drop_after 1 text (starts_within 123 0 text e)) ∙ braces_after (drop 1 text))
      (λ e. choice (nat_lt 1 (count_digits 16 text)) (nat_lt 1 (count_digits 16 (after text))) _ None _ None
      (ap (nat_lt 1) (prefix_after (is_digit 16) no_digits.2 text))
      (λ e. ap (λ bs. char_by_number (number_of_digits 16 bs) 3)
      (take_after 2 text (let some = ltb-true 1 (count_digits 16 text) e in let le = prefix_len-le-length (is_digit 16)
      text in omega (arith, some, le))))
      (λ e. refl))

  escaped_after : (e : ℕ) (text : List ℕ) → escaped_char (e ∷ after text) ≡ escaped_char (e ∷ text)
  escaped_after e text = λ i.
      elim (control_char e) [
        | Some c ↦ Some (record { char = c; len = 1 })
        | None ↦
            cond (nat_eq e 120) (hex_after text i)
            (cond (is_digit 8 e) (octal_after (e ∷ text) i)
            (cond (nat_lt e 128 && not (is_ascii_alphabetic e || is_digit 10 e)) (Some (record { char = e; len = 1 })) None))
      ]

  escape_after : (fold : Bool) (e : ℕ) (text : List ℕ) → escape fold (e ∷ after text) ≡ escape fold (e ∷ text)
  unfolding char_token
  escape_after fold e text =
      ap (λ (o : Option EscapedChar). cond (is_unsupported_escape e) (fault NotInProfile 0)
      (elim (escaped_tree e) [
        | Some t ↦ item (atom t) 1
        | None ↦ elim o
            [ None ↦ fault BadEscape 0 | Some c ↦ item (atom (char_tree fold c.char)) c.len ]
      ])) (escaped_after e text)

  -- ---- braces

  number_after : (text : List ℕ) → number (after text) ≡ number text
  number_after text =
      let n = prefix_after (is_digit 10) no_digits.1 text in
      let bytes = taken_after (is_digit 10) no_digits.1 text in
      λ i. cond (nat_eq (n i) 0 || (nat_lt 1 (n i) && starts_after 48 text refl i)) None
      (Some (record { value = number_of_digits 10 (bytes i); len = n i }))

  -- after a comma: the second number and the closing brace
  abbrev second_in : Number → List ℕ → Option Number → Option RepeatCounts
  second_in k text o =
      elim o [
        | None ↦ None
        | Some m ↦ cond (starts_with_byte 125 (drop m.len text))
            (Some (record { least = k.value; most = Some m.value; len = k.len + 2 + m.len })) None
      ]

  counts_to_after : (k : Number) (text : List ℕ) → counts_to k (after text) ≡ counts_to k text
  counts_to_after k text = λ i. cond (starts_after 125 text refl i)
      (Some (record { least = k.value; most = None; len = k.len + 2 })) (second i)
    where
      by : (o : Option Number) → NumberWithin (length text) o → second_in k (after text) o ≡ second_in k text o
      by None h = refl
      by (Some m) h = ap (λ b. cond b (Some (record { least = k.value; most = Some m.value; len = k.len + 2 + m.len }))
          None) (there_after 125 m.len text refl h)

      second : second_in k (after text) (number (after text)) ≡ second_in k text (number text)
      second = ap (second_in k (after text)) (number_after text) ∙ by (number text) (digits_within text)

  counts_from_after : (k : Number) (text : List ℕ) → counts_from k (after text) ≡ counts_from k text
  counts_from_after k [] = refl
  counts_from_after k (d ∷ text) = λ i.
      cond (nat_eq d 125) (Some (record { least = k.value; most = Some k.value; len = k.len + 1 }))
      (cond (nat_eq d 44) (counts_to_after k text i) None)

  abbrev counts_by : List ℕ → Option Number → Option RepeatCounts
  counts_by text o = elim o [ None ↦ None | Some k ↦ counts_from k (drop k.len text) ]

  counts_after : (text : List ℕ) → counts (after text) ≡ counts text
  counts_after text = ap (counts_by (after text)) (number_after text) ∙ by (number text) (digits_within text)
    where
      by : (o : Option Number) → NumberWithin (length text) o → counts_by (after text) o ≡ counts_by text o
      by None h = refl
      by (Some k) h = ap (counts_from k) (drop_after k.len text h) ∙ counts_from_after k (drop k.len text)

  abbrev brace_by : List ℕ → Option RepeatCounts → Token PatternItem
  brace_by text o = elim o [
    | None ↦ item (atom (one_of (char_set false 123))) 0
    | Some c ↦ cond (is_bad c)
        (fault BadRepeat 0) (lazy c.least c.most c.len text)
  ]

  brace_after : (text : List ℕ) → brace (after text) ≡ brace text
  brace_after text = ap (brace_by (after text)) (counts_after text) ∙ by (counts text) (counts_within text)
    where
      by : (o : Option RepeatCounts) → CountsWithin (length text) o → brace_by (after text) o ≡ brace_by text o
      by None h = refl
      by (Some c) h = ap (λ b. cond (is_bad c) (fault BadRepeat 0) (item (repeat c.least c.most) (c.len + cond b 1 0)))
          (there_after 63 c.len text refl h)

  -- ---- classes

  class_escape_after : (text : List ℕ) → IsItem (class_escape text) → class_escape (after text) ≡ class_escape text
  class_escape_after [] is = absurd is
  class_escape_after (e ∷ text) is =
      ap (λ (o : Option EscapedChar). cond (is_unsupported_escape e) (fault NotInProfile 0)
      (elim o [ None ↦ fault BadEscape 0 | Some c ↦ item c.char c.len ])) (escaped_after e text)

  class_char_after : (c : ℕ) (text : List ℕ) → IsItem (class_char c text) → class_char c (after text) ≡ class_char c text
  class_char_after c text is =
      let n = prefix_after is_continuation refl text in
      let bytes = taken_after is_continuation refl text in
      choice_by IsItem (nat_eq c 92) (nat_eq c 92) (class_escape text) _ (class_escape (after text)) _ refl
      (λ e is. class_escape_after text is)
      (λ e is i. cond (nat_lt c 128) (item c 0) (item (slice_index (chars (c ∷ bytes i)) 0) (n i))) is

  -- after this item, the rest of the class is closed
  abbrev GoesOn : ℕ → List ℕ → Token ClassItem → Type 0
  GoesOn distance text (item i len) = IsItem (items_from len distance false text)
  GoesOn distance text (fault k offset) = ⊥

  range_at_bar : (low len : ℕ) (tail : List ℕ) → range_from low len (124 ∷ tail) ≡ item (Range low low) len
  range_at_bar low len [] = refl
  range_at_bar low len (c ∷ tail) = refl

  range_goes : (low n distance : ℕ) (text : List ℕ) (c : Token ℕ) → GoesOn distance text (range_to low n c) → IsItem c
  range_goes low n distance text (item c len) h = tt
  range_goes low n distance text (fault k by) h = h

  range_after : (low len distance : ℕ) (text rest : List ℕ) → drop len text ≡ rest →
      GoesOn distance text (range_from low len rest) → range_from low len (after rest) ≡ range_from low len rest
  range_after low len distance text [] e h = range_at_bar low len t
  range_after low len distance text (b ∷ []) e h = by (nat_eq b 45) refl
    where
      no_dash : b ≡ 45 → ⊥
      no_dash is =
          let goes = closed_after len distance text h in
          subst (λ c. IsItem (items_from 0 goes.0 false (c ∷ []))) is (subst (λ x. IsItem (items_from 0 goes.0 false x)) e goes.1)

      by : (d : Bool) → nat_eq b 45 ≡ d → cond (d && not (nat_eq 124 93)) (range_to low (len + 2) (class_char 124 t))
          (item (Range low low) len) ≡ item (Range low low) len
      by true is = absurd (no_dash (eqb-true b 45 is))
      by false is = refl
  range_after low len distance text (b ∷ c ∷ rest) e h =
      choice_by (GoesOn distance text) (nat_eq b 45 && not (nat_eq c 93)) (nat_eq b 45 && not (nat_eq c 93)) _
      (item (Range low low) len) _ (item (Range low low) len) refl
      (λ e h. ap (range_to low (len + 2)) (class_char_after c rest
      (range_goes low (len + 2) distance text (class_char c rest) h))) (λ e h. refl) h

  span_after : (c d : Token ℕ) (distance : ℕ) (text : List ℕ) → FitsIn (length text) c → (IsItem c → d ≡ c) →
      GoesOn distance text (span c text) → span d (after text) ≡ span c text
  span_after (fault k by) d distance text within same h = absurd h
  span_after (item low len) d distance text within same h =
      ap (λ c. span c (after text)) (same tt) ∙ ap (range_from low len) (drop_after len text within)
      ∙ range_after low len distance text (drop len text) refl h

  backslash_after : (distance : ℕ) (text : List ℕ) → GoesOn distance text (after_backslash text) →
      after_backslash (after text) ≡ after_backslash text
  backslash_after distance [] h = absurd h
  backslash_after distance (e ∷ text) h = by (escaped_class e) h
    where
      by : (o : Option ClassItem) → GoesOn distance (e ∷ text)
          (elim o [ None ↦ span (class_escape (e ∷ text)) (e ∷ text) | Some i ↦ item i 1 ]) →
          ◌≡◌ {A = Token ClassItem} (elim o [
            | None ↦ span (class_escape (e ∷ after text)) (e ∷ after text)
            | Some i ↦
                item i 1
          ]) (elim o [ None ↦ span (class_escape (e ∷ text)) (e ∷ text) | Some i ↦ item i 1 ])
      by (Some i) h = refl
      by None h = span_after (class_escape (e ∷ text)) (class_escape (e ∷ after text)) distance (e ∷ text)
          (class_escape_fits (e ∷ text)) (class_escape_after (e ∷ text)) h

  -- ---- POSIX classes

  name_starts : (b : ℕ) (text : List ℕ) → starts_with nat_eq (b ∷ after text) (codes ":]") ≡ starts_with nat_eq (b ∷ text) (codes ":]")
  name_starts b [] = refl
  name_starts b (c ∷ text) = refl

  some_there : (o : Option ℕ) → is_some (option_map suc o) ≡ true → is_some o ≡ true
  some_there None h = h
  some_there (Some n) h = refl

  name_after : (text : List ℕ) → is_some (name_length text) ≡ true → name_length (after text) ≡ name_length text
  name_after [] h = absurd (true≢false (sym h))
  name_after (b ∷ text) h =
      choice_by (λ o. is_some o ≡ true) (starts_with nat_eq (b ∷ text) (codes ":]"))
      (starts_with nat_eq (b ∷ after text) (codes ":]")) (Some 0) _ (Some 0) _ (name_starts b text)
      (λ e h. refl) (λ e h. ap (option_map suc) (name_after text (some_there (name_length text) h))) h

  abbrev NameWithin : ℕ → Option ℕ → Type 0
  NameWithin n None = Unit {0}
  NameWithin n (Some k) = k ≤ n

  name_within : (text : List ℕ) → NameWithin (length text) (name_length text)
  name_within [] = tt
  name_within (b ∷ text) = either (NameWithin (suc (length text))) (starts_with nat_eq (b ∷ text) (codes ":]")) (Some 0)
      _ (omega arith) (by (name_length text) (name_within text))
    where
      by : (o : Option ℕ) → NameWithin (length text) o → NameWithin (suc (length text)) (option_map suc o)
      by None h = tt
      by (Some k) h = omega (arith, h)

  colon_after : (text : List ℕ) → is_some (name_length text) ≡ true → after_colon (after text) ≡ after_colon text
  colon_after text h =
      ap (λ (o : Option ℕ). elim o [ None ↦ item (Range 91 91) 0 | Some n ↦ posix_class (take n (after text)) ])
      (name_after text h) ∙ by (name_length text) (name_within text)
    where
      by : (o : Option ℕ) → NameWithin (length text) o →
          ◌≡◌ {A = Token ClassItem} (elim o [
            | None ↦ item (Range 91 91) 0
            | Some n ↦ posix_class (take n (after text))
          ]) (elim o [ None ↦ item (Range 91 91) 0 | Some n ↦ posix_class (take n text) ])
      by None h = refl
      by (Some n) h = ap posix_class (take_after n text h)

  class_token_after : (b distance : ℕ) (text : List ℕ) →
      (not (nat_eq b 91 && starts_with_byte 58 text) || is_some (name_length (drop 1 text))) ≡ true →
      GoesOn distance text (class_token b text) → class_token b (after text) ≡ class_token b text
  class_token_after b distance text ends h =
      choice_by (GoesOn distance text) (nat_eq b 91 && starts_with_byte 58 text)
      (nat_eq b 91 && starts_with_byte 58 (after text)) (after_colon (drop 1 text)) _
      (after_colon (drop 1 (after text))) _
      (ap (λ x. nat_eq b 91 && x) (starts_after 58 text refl))
      (λ named h. ap after_colon (drop_after 1 text (starts_within 58 0 text (and_parts (nat_eq b 91) _ named).1))
      ∙ colon_after (drop 1 text) (subst (λ (x : Bool). (not x || is_some (name_length (drop 1 text))) ≡ true) named ends))
      (λ apart h. choice_by (GoesOn distance text) (nat_eq b 92) (nat_eq b 92) (after_backslash text)
      (span (class_char b text) text) (after_backslash (after text)) (span (class_char b (after text)) (after text))
      refl
      (λ e h. backslash_after distance text h)
      (λ e h. span_after (class_char b text) (class_char b (after text)) distance text (class_char_fits b text)
      (class_char_after b text) h) h) h

  abbrev items_by : ℕ → List ℕ → Token ClassItem → Token (List ClassItem)
  items_by distance text = and_then distance (λ i len. with_class_item i (items_from len (distance + 1) false text))

  item_after : (distance : ℕ) (text : List ℕ) →
      ((len : ℕ) → IsItem (items_from len (distance + 1) false text) → items_from len (distance + 1) false (after text)
      ≡ items_from len (distance + 1) false text) →
      (f g : Token ClassItem) → (GoesOn (distance + 1) text f → g ≡ f) → IsItem (items_by distance text f) →
      items_by distance (after text) g ≡ items_by distance text f
  item_after distance text later (fault k offset) g same h = absurd h
  item_after distance text later (item i len) g same h =
      let goes = made_of 0 _ (items_from len (distance + 1) false text) h in
      ap (items_by distance (after text)) (same goes) ∙ ap (with_class_item i) (later len goes)

  items_after : (skip distance : ℕ) (start : Bool) (text : List ℕ) → class_names_end text ≡ true →
      IsItem (items_from skip distance start text) → items_from skip distance start (after text)
      ≡ items_from skip distance start text
  items_after skip distance start [] apart h = absurd h
  items_after (suc skip) distance start (b ∷ text) apart h = items_after skip (distance + 1) start text (names_on b text apart) h
  items_after zero distance start (b ∷ text) apart h =
      let parts = and_parts (not (nat_eq b 91 && starts_with_byte 58 text) || is_some (name_length (drop 1 text)))
      (class_names_end text) apart in
      choice_by IsItem (nat_eq b 93 && not start) (nat_eq b 93 && not start) (item [] distance)
      (items_by distance text (class_token b text)) (item [] distance)
      (items_by distance (after text) (class_token b (after text))) refl (λ e h. refl)
      (λ e h. item_after distance text (λ len closed. items_after len (distance + 1) false text parts.1 closed)
      (class_token b text) (class_token b (after text)) (class_token_after b (distance + 1) text parts.0) h) h

  class_after : (fold : Bool) (text : List ℕ) → class_names_end text ≡ true → IsItem (class fold text) →
      class fold (after text) ≡ class fold text
  class_after fold [] apart is = absurd is
  class_after fold (d ∷ text) apart is =
      choice_by IsItem (nat_eq d 94) (nat_eq d 94) (class_of fold true (items_from 0 2 true text))
      (class_of fold false (items_from 0 1 true (d ∷ text))) (class_of fold true (items_from 0 2 true (after text)))
      (class_of fold false (items_from 0 1 true (d ∷ after text))) refl
      (λ e is. ap (class_of fold true) (items_after 0 2 true text (names_on d text apart)
      (made_of 0 _ (items_from 0 2 true text) is)))
      (λ e is. ap (class_of fold false) (items_after 0 1 true (d ∷ text) apart
      (made_of 0 _ (items_from 0 1 true (d ∷ text)) is))) is

  -- ---- group names and flags

  group_name_after : (flags : Flags) (len : ℕ) (text : List ℕ) → name flags len (after text) ≡ name flags len text
  group_name_after flags len text =
      let n = prefix_after is_word refl text in
      λ i. cond (nat_lt 0 (n i) && next_after is_word refl 62 text refl i) (item (group_start flags) (len + n i + 1)) (fault BadGroup 0)

  after_flags_after : (flags : Flags) (len : ℕ) (text : List ℕ) → after_flags flags len (after text) ≡ after_flags flags len text
  after_flags_after flags len text = λ i.
      cond (starts_after 58 text refl i) (item (group_start flags) (len + 1))
      (cond (starts_after 41 text refl i) (item (flags_from_here flags) (len + 1)) (fault BadGroup 0))

  cleared_after : (flags : Flags) (len : ℕ) (text : List ℕ) → cleared_flags flags len (after text) ≡ cleared_flags flags len text
  cleared_after flags len text =
      let p = has (codes "isU") in
      let n = prefix_after p refl text in
      let letters = taken_after p refl text in
      let behind = dropped_after p refl text in
      let end : after_flags (with_cleared (take (prefix_len p (after text)) (after text)) flags)
      (len + prefix_len p (after text)) (drop (prefix_len p (after text)) (after text)) ≡
      after_flags (with_cleared (take (prefix_len p text) text) flags) (len + prefix_len p text) (drop (prefix_len p text) text) =
      (λ i. after_flags (with_cleared (letters i) flags) (len + n i) (behind i))
      ∙ after_flags_after (with_cleared (take (prefix_len p text) text) flags) (len + prefix_len p text)
      (drop (prefix_len p text) text) in
      λ i. cond (next_after p refl 109 text refl i) (fault NotInProfile 0) (cond (nat_eq (n i) 0) (fault BadGroup 0) (end i))

  set_after : (flags : Flags) (text : List ℕ) → set_flags flags (after text) ≡ set_flags flags text
  set_after flags text =
      let p = has (codes "imsU") in
      let n = prefix_len p text in
      let long = prefix_after p refl text in
      let letters = taken_after p refl text in
      let behind = dropped_after p refl text in
      choice (starts_with_byte 45 (drop n text)) (starts_with_byte 45 (drop (prefix_len p (after text)) (after text))) _
      _ _ _ (next_after p refl 45 text refl)
      (λ e. (λ i. cleared_flags (with_set (letters i) flags) (long i + 2) (drop (long i + 1) (after text)))
      ∙ ap (cleared_flags (with_set (take n text) flags) (n + 2))
      (drop_after (n + 1) text (let less = starts_within 45 n text e in omega (arith, less)))
      ∙ cleared_after (with_set (take n text) flags) (n + 2) (drop (n + 1) text))
      (λ e. (λ i. after_flags (with_set (letters i) flags) (long i + 1) (behind i))
      ∙ after_flags_after (with_set (take n text) flags) (n + 1) (drop n text))

  head_after : (flags : Flags) (text : List ℕ) → IsItem (head flags text) → head flags (after text) ≡ head flags text
  head_after flags [] is = absurd is
  head_after flags (c ∷ text) is =
      choice (nat_eq c 60) (nat_eq c 60) (name flags 2 text) _ (name flags 2 (after text)) _ refl (λ e. group_name_after flags 2 text)
      (λ e. choice (nat_eq c 80 && starts_with_byte 60 text) (nat_eq c 80 && starts_with_byte 60 (after text))
      (name flags 3 (drop 1 text)) (set_flags flags (c ∷ text)) (name flags 3 (drop 1 (after text)))
      (set_flags flags (c ∷ after text))
      (ap (λ b. nat_eq c 80 && b) (starts_after 60 text refl))
      (λ e. ap (name flags 3) (drop_after 1 text (starts_within 60 0 text (and_parts (nat_eq c 80) _ e).1))
      ∙ group_name_after flags 3 (drop 1 text))
      (λ e. set_after flags (c ∷ text)))

  group_after : (flags : Flags) (text : List ℕ) → IsItem (group flags text) → group flags (after text) ≡ group flags text
  group_after flags [] is = refl
  group_after flags (c ∷ text) is =
      choice_by IsItem (nat_eq c 63) (nat_eq c 63) (head flags text) (item (group_start flags) 0)
      (head flags (after text)) (item (group_start flags) 0) refl (λ e is. head_after flags text is) (λ e is. refl) is

  -- ---- items

  kind_after : (kind : ByteKind) (flags : Flags) (b : ℕ) (text : List ℕ) → class_names_end text ≡ true →
      IsItem (token_by_kind kind flags b text) → token_by_kind kind flags b (after text) ≡ token_by_kind kind flags b
      text
  kind_after Star flags b text names is = ap (λ b. item (repeat 0 None) (0 + cond b 1 0)) (starts_after 63 text refl)
  kind_after Plus flags b text names is = ap (λ b. item (repeat 1 None) (0 + cond b 1 0)) (starts_after 63 text refl)
  kind_after Question flags b text names is = ap (λ b. item (repeat 0 (Some 1)) (0 + cond b 1 0)) (starts_after 63 text refl)
  kind_after Brace flags b text names is = brace_after text
  kind_after Dot flags b text names is = refl
  kind_after Caret flags b text names is = refl
  kind_after Dollar flags b text names is = refl
  kind_after Bar flags b text names is = refl
  kind_after Open flags b text names is = group_after flags text is
  kind_after Close flags b text names is = refl
  kind_after Class flags b text names is = class_after flags.fold text names is
  kind_after Backslash flags b [] names is = absurd is
  kind_after Backslash flags b (e ∷ text) names is = escape_after flags.fold e text
  kind_after NonAscii flags b text names is =
      let n = prefix_after is_continuation refl text in
      let bytes = taken_after is_continuation refl text in
      λ i. item (atom (bytes_tree (b ∷ bytes i))) (n i)
  kind_after Literal flags b text names is = refl

  token_after : (flags : Flags) (b : ℕ) (text : List ℕ) → class_names_end (b ∷ text) ≡ true →
      IsItem (next_token flags b text) → next_token flags b (after text) ≡ next_token flags b text
  unfolding next_token
  token_after flags b text names is = kind_after (byte_kind_of b) flags b text (names_on b text names) is

-- ---- the branches of both

-- a level with the branches of the other text appended
abbrev branches_of : Level → Trees
branches_of l = more (sequence l.atoms) l.branches

abbrev with_more : Trees → Level → Level
with_more bs l = record l { branches = append l.branches bs }

module _ (t : List ℕ) (last : Flags) (other : Level) (reads : (offset : ℕ) → parse_suffix 0 offset Start [] last t ≡ levels other []) where
  bar_follows : Follows (with_more (branches_of other)) (124 ∷ t) (λ text. class_names_end text ≡ true) (λ flags. flags ≡ last)
  unfolding next_token byte_kind_of
  bar_follows = record {
    atoms = λ u l. refl;
    repeats = λ n m l. refl;
    bars = λ l. refl;
    names = names_on;
    tokens = token_after t;
    ends = λ offset before flags is. ap (λ f. inside with_bar (parse_suffix 0 (offset + 1) Start [] f t)) is
        ∙ ap (inside with_bar) (reads (offset + 1));
  }

-- ---- the spans that the alternation matches

matches_both : (l m : Level) → MatchesEither (whole_group (with_more (branches_of m) l)) (whole_group l) (whole_group m)
matches_both l m line i j =
    let whole = matches_alternation line i j (sequence l.atoms) (append l.branches (branches_of m)) in
    let one = matches_alternation line i j (sequence l.atoms) l.branches in
    let other = matches_alternation line i j (sequence m.atoms) m.branches in
    let both = matches_append line i j (branches_of l) (branches_of m) in (
      λ h. elim (both.0 (whole.0 h)) [ inl k ↦ inl (one.1 k) | inr k ↦ inr (other.1 k) ],
      λ h. whole.1 (both.1 (elim h [ inl k ↦ inl (one.0 k) | inr k ↦ inr (other.0 k) ])),
    )

-- ---- the law

record OneLevel (r : SuffixParse) (x : Tree) : Type 0 where
  level : Level
  is : r ≡ levels level []
  whole : whole_group level ≡ x

one_level : (text : List ℕ) (fold : Bool) (x : Tree) → ParsesAs text fold x →
    OneLevel (parse_suffix 0 0 Start [] (flags_at_start fold) text) x
one_level text fold x reads = by (parse_suffix 0 0 Start [] (flags_at_start fold) text) refl reads
  where
    by : (r : SuffixParse) → parse_suffix 0 0 Start [] (flags_at_start fold) text ≡ r → answer r ≡ tree x →
        OneLevel (parse_suffix 0 0 Start [] (flags_at_start fold) text) x
    by (levels l ls) e h = record {
      level = l;
      is = e
          ∙ ap (levels l) (alone 0 0 Start (flags_at_start fold) text l ls e);
      whole = the_tree (whole_group l) x h;
    }
      where
        the_tree : (t u : Tree) → tree t ≡ tree u → t ≡ u
        the_tree t u h = cc
    by (syntax_error k offset) e h = cc

pub bar_parses : (s t : List ℕ) (fold : Bool) (x y : Tree) → IsSelfContained fold s → ParsesAs s fold x →
    ParsesAs t fold y → (z : Tree) × ParsesAs (s ++ 124 ∷ t) fold z × MatchesEither z x y
bar_parses s t fold x y apart first second =
    let flags : Flags = flags_at_start fold in
    let one = one_level s fold x first in
    let other = one_level t fold y second in
    let f : Level → Level = with_more (branches_of other.level) in
    let joint : parse_suffix 0 0 Start [] flags (s ++ 124 ∷ t) ≡ levels (f one.level) [] =
    (subst (λ r. Goes f (((0 ≤ length s) × (class_names_end s ≡ true)) × (final_flags 0 [] flags s ≡ flags)) 0 r
    (parse_suffix 0 0 Start [] flags (s ++ 124 ∷ t))) one.is
    (goes f (124 ∷ t) (λ text. class_names_end text ≡ true) (λ last. last ≡ flags)
    (bar_follows t flags other.level (λ offset. anywhere 0 offset flags t other.level other.is)) 0 0 0 Start [] [] flags
    s refl)).1 ((omega arith, apart.names), apart.flags) in
    let matches : MatchesEither (whole_group (f one.level)) x y =
    subst (λ u. MatchesEither (whole_group (f one.level)) u y) one.whole
    (subst (λ u. MatchesEither (whole_group (f one.level)) (whole_group one.level) u) other.whole
    (matches_both one.level other.level)) in
    (whole_group (f one.level), ap answer joint, matches)
