-- Bracket classes, item by item.
use Rattle.std.proofs.Common.{◌≡◌, ℕ, zero, suc, ◌+◌, ◌-◌, ◌*◌, ◌<◌, ◌≤◌, Bool, true, false, ◌&&◌, ◌||◌, not, List, [], ◌∷◌, ◌++◌, drop, get_or, length, refl, sym, ◌∙◌, ap, ap₂, arith}
use Rattle.std.proofs.Math.Bool.{and-or_distrib_left, or_assoc, or-false}
use Rattle.std.specs.Prelude.{Option, Some, None, codes, nat_eq, slice_index, if◌then◌else◌}
use Rattle.std.specs.Str.{chars, chars_after, continuation_len, lead_bits}
use Rattle.std.proofs.lemmas.Bool.Decides.{nat_tests}
use Rattle.std.specs.Option.{option_map}
use Rattle.std.specs.List.{starts_with}
use Rattle.std.specs.Bool.{xor}
use Rattle.cs_syntax.specs.Characters.{is_scalar, has_char, canonical_ranges}
use Rattle.cs_syntax.specs.CharTrees.{ranges_tree, chars_tree}
use Rattle.cs_syntax.specs.Tokens.{Token, item, fault, and_then, atom, starts_with_byte}
use Rattle.cs_syntax.specs.ClassSets.{is_in_item, class_tree}
use Rattle.cs_syntax.specs.Classes.{name_length, items_from, class_token, class, class_of}
use Rattle.cs_syntax.specs.ClassState.{is_in_items, HaveItems}
use Rattle.cs_syntax.specs.declared.items.ClassItem.{ClassItem}
use Rattle.cs_syntax.specs.declared.fault.PatternFault.{PatternFault}

pub name_length-next : (text rest : List ℕ) (b : ℕ) → text ≡ b ∷ rest → starts_with nat_eq text (codes ":]") ≡ false →
    name_length text ≡ option_map suc (name_length rest)
name_length-next text rest b s other = let e : starts_with nat_eq (b ∷ rest) (codes ":]") ≡ false = rw s at other in rw (s, e) refl

pub further : (offset : ℕ) (o : Option ℕ) → option_map (λ n. offset + n) (option_map suc o) ≡ option_map (λ n. (offset + 1) + n) o
further offset None = refl
further offset (Some n) = let e : offset + suc n ≡ (offset + 1) + n = omega arith in ap Some e

-- one item before the rest of the class
abbrev pub with_class_item : ClassItem → Token (List ClassItem) → Token (List ClassItem)
with_class_item i = and_then 0 (λ items len. item (i ∷ items) len)

-- the items so far, before the rest of the class
abbrev pub with_items : List ClassItem → Token (List ClassItem) → Token (List ClassItem)
with_items [] rest = rest
with_items (i ∷ is) rest = with_class_item i (with_items is rest)

pub with_items-last : (is : List ClassItem) (i : ClassItem) (r : Token (List ClassItem)) → with_items (is ++ i ∷ []) r
    ≡ with_items is (with_class_item i r)
with_items-last [] i r = refl
with_items-last (j ∷ is) i r = ap (with_class_item j) (with_items-last is i r)

pub with_items-closed : (is : List ClassItem) (len : ℕ) → with_items is (item [] len) ≡ item is len
with_items-closed [] len = refl
with_items-closed (i ∷ is) len = ap (with_class_item i) (with_items-closed is len)

pub with_items-failed : (is : List ClassItem) (k : PatternFault) (distance : ℕ) → with_items is (fault k distance) ≡ fault k distance
with_items-failed [] k distance = refl
with_items-failed (i ∷ is) k distance =
    let e : 0 + distance ≡ distance = omega arith in ap (with_class_item i) (with_items-failed is k distance) ∙ ap (fault k) e

-- the bytes of an item are skipped
pub items_from-skip : (skip distance : ℕ) (start : Bool) (text : List ℕ) → items_from skip distance start text
    ≡ items_from 0 (distance + skip) start (drop skip text)
items_from-skip zero distance start text = let e : distance ≡ distance + zero = omega arith in ap (λ n. items_from 0 n start text) e
items_from-skip (suc skip) distance start [] = refl
items_from-skip (suc skip) distance start (b ∷ text) =
    let e : (distance + 1) + skip ≡ distance + suc skip = omega arith in
    items_from-skip skip (distance + 1) start text ∙ ap (λ n. items_from 0 n start (drop skip text)) e

-- one item
pub items_from-item : (text rest : List ℕ) (b distance len : ℕ) (start : Bool) (i : ClassItem) → text ≡ b ∷ rest →
    (nat_eq b 93 && not start) ≡ false → class_token b rest ≡ item i len →
    items_from 0 distance start text ≡ with_class_item i (items_from 0 (distance + 1 + len) false (drop len rest))
items_from-item text rest b distance len start i here not_closed found =
    rw (here, items_from, not_closed, found) (ap (with_class_item i) (items_from-skip len (distance + 1) false rest))

pub items_from-fault : (text rest : List ℕ) (b distance by : ℕ) (start : Bool) (k : PatternFault) → text ≡ b ∷ rest →
    (nat_eq b 93 && not start) ≡ false → class_token b rest ≡ fault k by →
    items_from 0 distance start text ≡ fault k (distance + by)
items_from-fault text rest b distance by start k here not_closed found = rw (here, items_from, not_closed, found) refl

pub items_from-close : (text rest : List ℕ) (b distance : ℕ) (start : Bool) → text ≡ b ∷ rest →
    (nat_eq b 93 && not start) ≡ true → items_from 0 distance start text ≡ item [] distance
items_from-close text rest b distance start here closes = rw (here, items_from, closes) refl

any-last : (fold : Bool) (is : List ClassItem) (i : ClassItem) (b : ℕ) → (is_in_items fold is b || is_in_item fold i b)
    ≡ is_in_items fold (is ++ i ∷ []) b
any-last fold [] i b = sym (or-false (is_in_item fold i b))
any-last fold (j ∷ is) i b = or_assoc (is_in_item fold j b) (is_in_items fold is b) (is_in_item fold i b)
    ∙ ap (λ x. is_in_item fold j b || x) (any-last fold is i b)

-- the ranges after one more item
pub have-last : (fold : Bool) (is : List ClassItem) (i : ClassItem) (old new : List (ℕ × ℕ)) → HaveItems fold is old →
    ((c : ℕ) → has_char new c ≡ (has_char old c || (is_scalar c && is_in_item fold i c))) → HaveItems fold (is ++ i ∷ []) new
have-last fold is i old new have more c =
    more c ∙ ap (λ b. b || (is_scalar c && is_in_item fold i c)) (have c)
    ∙ sym (and-or_distrib_left (is_scalar c) (is_in_items fold is c) (is_in_item fold i c))
    ∙ ap (λ b. is_scalar c && b) (any-last fold is i c)

pub have-read : (fold : Bool) (is : List ClassItem) (ranges read : List (ℕ × ℕ)) → read ≡ ranges →
    HaveItems fold is ranges → HaveItems fold is read
have-read fold is ranges read same have c = ap (λ l. has_char l c) same ∙ have c

-- the tree of a class is the set of its items
class_canonical : (fold negated : Bool) (is : List ClassItem) (set : List (ℕ × ℕ)) →
    set ≡ canonical_ranges (λ c. xor negated (is_in_items fold is c)) → class_tree fold negated is ≡ ranges_tree set
unfolding chars_tree
class_canonical fold negated is set s = sym (ap ranges_tree s)

abbrev opening : Bool → ℕ
opening negated = if negated then 2 else 1

-- the text after the `[` and the `^`
abbrev inside : Bool → List ℕ → List ℕ
inside negated rest = if negated then drop 1 rest else rest

class_is : (fold negated : Bool) (rest : List ℕ) → starts_with_byte 94 rest ≡ negated → class fold rest
    ≡ class_of fold negated (items_from 0 (opening negated) true (inside negated rest))
class_is fold true rest f = rw f refl
class_is fold false rest f = rw f refl

pub class_parsed : (fold negated : Bool) (rest : List ℕ) (is : List ClassItem) (len : ℕ) (set : List (ℕ × ℕ)) →
    starts_with_byte 94 rest ≡ negated →
    items_from 0 (opening negated) true (inside negated rest) ≡ item is len →
    set ≡ canonical_ranges (λ c. xor negated (is_in_items fold is c)) →
    class fold rest ≡ item (atom (ranges_tree set)) len
class_parsed fold negated rest is len set f e s =
    class_is fold negated rest f ∙ ap (class_of fold negated) e ∙ ap (λ t. item (atom t) len) (class_canonical fold negated is set s)

-- ---- decoding of non-ASCII characters

first_char : (c : ℕ) (bs : List ℕ) → slice_index (chars_after 0 c bs) 0 ≡ c
first_char c [] = refl
first_char c (b ∷ bs) = refl

too_few : (n c : ℕ) (bs : List ℕ) → length bs < n → chars_after n c bs ≡ []
too_few zero c bs h = absurd (omega arith)
too_few (suc n) c [] h = refl
too_few (suc n) c (b ∷ bs) h = too_few n (c * 64 + (b - 128)) bs (omega arith)

-- the first character, from the number of continuation bytes and the bits of the lead byte
number_of : (first n bits : ℕ) (others : List ℕ) → continuation_len first ≡ n → lead_bits first ≡ bits →
    slice_index (chars (first ∷ others)) 0 ≡ slice_index (chars_after n bits others) 0
unfolding chars
number_of first n bits others len lead = ap₂ (λ (m c : ℕ). slice_index (chars_after m c others) 0) len lead

module _ (first : ℕ) (past : 128 ≤ first) where
  is_two : first < 224 → (continuation_len first ≡ 1) × (lead_bits first ≡ first - 192)
  is_two low = (grind (arith, nat_tests), grind (arith, nat_tests))

  is_three : 224 ≤ first → first < 240 → (continuation_len first ≡ 2) × (lead_bits first ≡ first - 224)
  is_three high low = (grind (arith, nat_tests), grind (arith, nat_tests))

  is_four : 240 ≤ first → (continuation_len first ≡ 3) × (lead_bits first ≡ first - 240)
  is_four high = (grind (arith, nat_tests), grind (arith, nat_tests))

  pub of_two : (others : List ℕ) → first < 224 → 1 ≤ length others → (first - 192) * 64 + (get_or others 0 0 - 128)
      ≡ slice_index (chars (first ∷ others)) 0
  of_two [] low h = absurd (omega arith)
  of_two (a ∷ others) low h =
      let is = is_two low in sym (number_of first 1 (first - 192) (a ∷ others) is.0 is.1 ∙ first_char _ others)

  pub of_three : (others : List ℕ) → 224 ≤ first → first < 240 → 2 ≤ length others →
      ((first - 224) * 64 + (get_or others 0 0 - 128)) * 64 + (get_or others 1 0 - 128) ≡ slice_index (chars (first ∷ others)) 0
  of_three [] high low h = absurd (omega arith)
  of_three (a ∷ []) high low h = absurd (omega arith)
  of_three (a ∷ b ∷ others) high low h =
      let is = is_three high low in sym (number_of first 2 (first - 224) (a ∷ b ∷ others) is.0 is.1 ∙ first_char _ others)

  pub of_four : (others : List ℕ) → 240 ≤ first → 3 ≤ length others →
      (((first - 240) * 64 + (get_or others 0 0 - 128)) * 64 + (get_or others 1 0 - 128)) * 64
      + (get_or others 2 0 - 128) ≡ slice_index (chars (first ∷ others)) 0
  of_four [] high h = absurd (omega arith)
  of_four (a ∷ []) high h = absurd (omega arith)
  of_four (a ∷ b ∷ []) high h = absurd (omega arith)
  of_four (a ∷ b ∷ c ∷ others) high h =
      let is = is_four high in sym (number_of first 3 (first - 240) (a ∷ b ∷ c ∷ others) is.0 is.1 ∙ first_char _ others)

  none_of : (n bits : ℕ) (others : List ℕ) → (continuation_len first ≡ n) × (lead_bits first ≡ bits) →
      length others < n → 0 ≡ slice_index (chars (first ∷ others)) 0
  none_of n bits others is bound = sym (number_of first n bits others is.0 is.1 ∙ ap (λ cs. slice_index cs 0) (too_few n bits others bound))

  pub not_two : (others : List ℕ) → first < 224 → length others < 1 → 0 ≡ slice_index (chars (first ∷ others)) 0
  not_two others low bound = none_of 1 (first - 192) others (is_two low) bound

  pub not_three : (others : List ℕ) → 224 ≤ first → first < 240 → length others < 2 → 0 ≡ slice_index (chars (first ∷ others)) 0
  not_three others high low bound = none_of 2 (first - 224) others (is_three high low) bound

  pub not_four : (others : List ℕ) → 240 ≤ first → length others < 3 → 0 ≡ slice_index (chars (first ∷ others)) 0
  not_four others high bound = none_of 3 (first - 240) others (is_four high) bound
