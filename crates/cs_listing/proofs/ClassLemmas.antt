-- The items of a class, one after the other.
use Rattle.std.proofs.Common.{◌≡◌, refl, ℕ, zero, suc, ◌+◌, ◌-◌, ◌≤◌, ◌<◌, Bool, true, false, cond, List, [], ◌∷◌, ◌++◌, length, drop, take, sym, ap, ◌∙◌, subst, arith, append_assoc, length-take, length-drop}
use Rattle.std.proofs.lemmas.Slice.Eq.{bytes_eq-Decides}
use Rattle.std.specs.List.{before_first, position_or_len}
use Rattle.std.proofs.lemmas.Bool.Decides.{nat_tests}
use Rattle.std.proofs.lemmas.List.{drop-drop}
use Rattle.std.specs.Prelude.{Option, Some, None, nat_eq, nat_lt, ◌&&◌, not, IfSome, bytes_eq, codes}
use Rattle.cs_listing.proofs.LineLemmas.{ends_at_last, take_start}
use Rattle.cs_listing.specs.Reading.{HasNoName}
use Rattle.cs_listing.specs.Classes.{ItemsRead, begins_with, after_backslash, ends_with_byte, quoted, class_name, before_bracket, closed_name, is_range, range_to, range_from, named_item, ranges_named, item_or, class_item, item_length, with_item, one_longer, later_items, class_items}

-- ---- lengths

abbrev IsLonger : ItemsRead → Type 0
IsLonger o = IfSome o (λ item. 0 < item.1)

by_byte : (c : Bool) (b : ℕ) (text : List ℕ) → IfSome (cond c (after_backslash text) (Some (b, 1))) (λ own. 0 < own.1)
by_byte true b [] = tt
by_byte true b (x ∷ text) = omega arith
by_byte false b text = omega arith

quoted_longer : (text : List ℕ) → IfSome (quoted text) (λ own. 0 < own.1)
quoted_longer [] = tt
quoted_longer (b ∷ text) = by_byte (nat_eq b 92) b text

range_by : (c : Bool) (low : ℕ × ℕ) (high : Option (ℕ × ℕ)) → 0 < low.1 → IsLonger (cond c (range_to low high) (Some ((low.0, low.0) ∷ [], low.1)))
range_by true low None h = tt
range_by true low (Some high) h = omega arith
range_by false low high h = h

range_longer : (text : List ℕ) (low : Option (ℕ × ℕ)) → IfSome low (λ own. 0 < own.1) → IsLonger (range_from text low)
range_longer text None h = tt
range_longer text (Some low) h = range_by (is_range (drop low.1 text)) low (quoted (drop (low.1 + 1) text)) h

named_longer : (name : List ℕ) (ranges : Option (List (ℕ × ℕ))) → IsLonger (named_item name ranges)
named_longer name None = tt
named_longer name (Some ranges) = omega arith

item_longer : (text : List ℕ) (name : Option (List ℕ)) → IsLonger (item_or text name)
item_longer text None = range_longer text (quoted text) (quoted_longer text)
item_longer text (Some name) = named_longer name (ranges_named name)

-- an item takes a byte at least
pub item_takes : (text : List ℕ) (ranges : List (ℕ × ℕ)) (n : ℕ) → class_item text ≡ Some (ranges, n) → 0 < n
item_takes text ranges n e = subst (λ o. IsLonger o) e (item_longer text (class_name text))

-- ---- items and those after them

abbrev pub after_items : List (ℕ × ℕ) → ℕ → ItemsRead → ItemsRead
after_items ranges n None = None
after_items ranges n (Some items) = Some (ranges ++ items.0, n + items.1)

pub after_none : (items : ItemsRead) → after_items [] 0 items ≡ items
after_none None = refl
after_none (Some items) = ap (λ n. Some (items.0, n)) (omega arith)

pub after_both : (first second : List (ℕ × ℕ)) (m n : ℕ) (items : ItemsRead) →
    after_items first m (after_items second n items) ≡ after_items (first ++ second) (m + n) items
after_both first second m n None = refl
after_both first second m n (Some items) =
    ap (λ r. Some (r, m + (n + items.1))) (sym (append_assoc first second items.0))
    ∙ ap (λ k. Some ((first ++ second) ++ items.0, k)) (omega arith)

longer_after : (n : ℕ) (items : ItemsRead) → one_longer (after_items [] n items) ≡ after_items [] (suc n) items
longer_after n None = refl
longer_after n (Some items) = ap (λ k. Some (items.0, k)) (omega arith)

later_drop : (n : ℕ) (text : List ℕ) → later_items n text ≡ after_items [] n (later_items 0 (drop n text))
later_drop zero text = sym (after_none (later_items 0 text))
later_drop (suc n) [] = refl
later_drop (suc n) (b ∷ text) = ap one_longer (later_drop n text) ∙ longer_after n (later_items 0 (drop n text))

with_after : (ranges : List (ℕ × ℕ)) (n : ℕ) (items : ItemsRead) →
    with_item (Some (ranges, n)) (after_items [] n items) ≡ after_items ranges n items
with_after ranges n None = refl
with_after ranges n (Some items) = refl

-- an item, and what follows
item_first : (text : List ℕ) (ranges : List (ℕ × ℕ)) (n : ℕ) → class_item text ≡ Some (ranges, n) →
    class_items text ≡ after_items ranges n (later_items 0 (drop n text))
item_first text ranges n e =
    ap (λ item. with_item item (later_items (item_length item) text)) e ∙ ap (with_item (Some (ranges, n))) (later_drop n text)
    ∙ with_after ranges n (later_items 0 (drop n text))

ends_at : (text : List ℕ) → begins_with 93 text ≡ true → later_items 0 text ≡ Some ([], 1)
ends_at [] e = cc
ends_at (b ∷ text) e = ap (λ t. cond t (Some ([], 1))
    (with_item (class_item (b ∷ text)) (one_longer (later_items (item_length (class_item (b ∷ text)) - 1) text)))) e

later_by : (ranges : List (ℕ × ℕ)) (n b : ℕ) (text : List ℕ) → 0 < n →
    with_item (Some (ranges, n)) (one_longer (later_items (n - 1) text)) ≡ with_item (Some (ranges, n)) (later_items n (b ∷ text))
later_by ranges zero b text h = absurd (omega (arith, h))
later_by ranges (suc n) b text h = ap (λ k. with_item (Some (ranges, suc n)) (one_longer (later_items k text))) (omega arith)

later_of : (item : ItemsRead) (b : ℕ) (text : List ℕ) → IsLonger item →
    with_item item (one_longer (later_items (item_length item - 1) text)) ≡ with_item item (later_items (item_length item) (b ∷ text))
later_of None b text h = refl
later_of (Some item) b text h = later_by item.0 item.1 b text h

goes_on : (text : List ℕ) → begins_with 93 text ≡ false → later_items 0 text ≡ class_items text
goes_on [] e = refl
goes_on (b ∷ text) e =
    ap (λ t. cond t (Some ([], 1))
    (with_item (class_item (b ∷ text)) (one_longer (later_items (item_length (class_item (b ∷ text)) - 1) text)))) e
    ∙ later_of (class_item (b ∷ text)) b text (item_longer (b ∷ text) (class_name (b ∷ text)))

-- a class that ends after an item, one that goes on, and one that has no item
pub class_ends : (text : List ℕ) (ranges : List (ℕ × ℕ)) (n : ℕ) → class_item text ≡ Some (ranges, n) →
    begins_with 93 (drop n text) ≡ true → class_items text ≡ after_items ranges n (Some ([], 1))
class_ends text ranges n e is = item_first text ranges n e ∙ ap (after_items ranges n) (ends_at (drop n text) is)

pub class_goes_on : (text : List ℕ) (ranges : List (ℕ × ℕ)) (n : ℕ) → class_item text ≡ Some (ranges, n) →
    begins_with 93 (drop n text) ≡ false → class_items text ≡ after_items ranges n (class_items (drop n text))
class_goes_on text ranges n e is = item_first text ranges n e ∙ ap (after_items ranges n) (goes_on (drop n text) is)

-- ---- names of classes

two : (xs name : List ℕ) → length name ≡ 2 → bytes_eq (take 2 xs) name ≡ true → 2 ≤ length xs
two xs name len is = let same = (bytes_eq-Decides (take 2 xs) name).0 is in
    omega (arith, ap length same, length-take 2 xs, len)

-- the name of a text whose bytes before its first `]` are these
abbrev pub closes : List ℕ → List ℕ → Bool
closes inner text = nat_lt (length inner) (length text) && ends_with_byte 58 inner

abbrev closed : List ℕ → List ℕ → Option (List ℕ)
closed inner text = cond (closes inner text) (Some (take (length inner - 1) inner)) None

both : (c d : Bool) → (c && d) ≡ true → (c ≡ true) × (d ≡ true)
both true d e = (refl, e)
both false d e = cc

ends_some : (b : ℕ) (text : List ℕ) → ends_with_byte b text ≡ true → 0 < length text
ends_some b [] e = cc
ends_some b (x ∷ text) e = omega arith

in_by : (c : Bool) (inner text name : List ℕ) → closes inner text ≡ c →
    cond c (Some (take (length inner - 1) inner)) None ≡ Some name → length name + 2 ≤ length text
in_by true inner text name is e =
    let parts = both (nat_lt (length inner) (length text)) (ends_with_byte 58 inner) is in
    let same : take (length inner - 1) inner ≡ name = cc in
    let some = ends_some 58 inner parts.1 in
    let less : length inner < length text = let less = parts.0 in grind (arith, nat_tests) in
    omega (arith, some, less, ap length same, length-take (length inner - 1) inner)
in_by false inner text name is e = cc

name_by : (c : Bool) (text name : List ℕ) → bytes_eq (take 2 text) (codes "[:") ≡ c → cond c (closed_name (drop 2 text)) None ≡ Some name →
    length name + 4 ≤ length text
name_by true text name is e =
    let start = two text (codes "[:") refl is in
    let rest = in_by (closes (before_bracket (drop 2 text)) (drop 2 text)) (before_bracket (drop 2 text)) (drop 2 text) name refl e in
    omega (arith, start, rest, length-drop 2 text)
name_by false text name is e = cc

name_within : (text name : List ℕ) → class_name text ≡ Some name → length name + 4 ≤ length text
name_within text name e = name_by (bytes_eq (take 2 text) (codes "[:")) text name refl e

-- the name of a text that begins with `[:`
pub name_ends : (text rest inner name : List ℕ) → bytes_eq (take 2 text) (codes "[:") ≡ true → rest ≡ drop 2 text →
    inner ≡ before_bracket rest → inner ≡ name ++ 58 ∷ [] → length inner < length rest → class_name text ≡ Some name
name_ends text rest inner name is at e last less =
    let lt : nat_lt (length inner) (length rest) ≡ true = grind (arith, nat_tests) in
    let ends : ends_with_byte 58 inner ≡ true = ap (ends_with_byte 58) last ∙ ends_at_last 58 58 name in
    let whole : closed inner rest ≡ Some name =
    ap (λ t. cond (t && ends_with_byte 58 inner) (Some (take (length inner - 1) inner)) None) lt
    ∙ ap (λ t. cond t (Some (take (length inner - 1) inner)) None) ends
    ∙ ap (λ i. Some (take (length i - 1) i)) last ∙ ap Some (take_start name 58) in
    ap (λ t. cond t (closed_name (drop 2 text)) None) is ∙ ap closed_name (sym at) ∙ ap (λ i. closed i rest) (sym e) ∙ whole

-- ---- texts in which no name begins

none_by : {A : Type 0} (c : Bool) (x : A) → cond c (Some x) None ≡ None → c ≡ false
none_by true x e = cc
none_by false x e = refl

no_end : (c : Bool) → (c && false) ≡ false
no_end true = refl
no_end false = refl

none_inside : (b : ℕ) (inner text : List ℕ) → closed (b ∷ inner) (b ∷ text) ≡ None → closed inner text ≡ None
none_inside b [] text e = ap (λ t. cond t (Some (take (0 - 1) [])) None) (no_end (nat_lt 0 (length text)))
none_inside b (x ∷ inner) text e =
    let less : nat_lt (length (x ∷ inner)) (length text) ≡ nat_lt (length (b ∷ x ∷ inner)) (length (b ∷ text)) = grind (arith, nat_tests) in
    ap (λ t. cond (t && ends_with_byte 58 (x ∷ inner)) (Some (take (length (x ∷ inner) - 1) (x ∷ inner))) None) less
    ∙ ap (λ t. cond t (Some (take (length (x ∷ inner) - 1) (x ∷ inner))) None)
    (none_by (closes (b ∷ x ∷ inner) (b ∷ text)) (take (length (b ∷ x ∷ inner) - 1) (b ∷ x ∷ inner)) e)

take_one : (n b : ℕ) (text : List ℕ) → take (1 + n) (b ∷ text) ≡ b ∷ take n text
take_one n b text = let e : 1 + n ≡ suc n = omega arith in ap (λ m. take m (b ∷ text)) e

before_more : (c : Bool) (b : ℕ) (text : List ℕ) → nat_eq b 93 ≡ c → before_bracket (b ∷ text) ≡ cond c [] (b ∷ before_bracket text)
before_more true b text is = ap (λ t. take (cond (not t) (1 + position_or_len (λ x. nat_eq x 93) text) 0) (b ∷ text)) is
before_more false b text is =
    ap (λ t. take (cond (not t) (1 + position_or_len (λ x. nat_eq x 93) text) 0) (b ∷ text)) is
    ∙ take_one (position_or_len (λ x. nat_eq x 93) text) b text

abbrev StaysNone : ℕ → List ℕ → Type 0
StaysNone k text = k ≤ length (before_bracket text) → closed_name text ≡ None → closed_name (drop k text) ≡ None

none_by_byte : (c : Bool) (k b : ℕ) (text : List ℕ) → nat_eq b 93 ≡ c → StaysNone k text → StaysNone (suc k) (b ∷ text)
none_by_byte true k b text is rest = λ most e. absurd (omega (arith, most, ap length (before_more true b text is)))
none_by_byte false k b text is rest = λ most e.
    let more = before_more false b text is in
    rest (omega (arith, most, ap length more)) (none_inside b (before_bracket text) text (ap (λ i. closed i (b ∷ text)) (sym more) ∙ e))

none_later : (k : ℕ) (text : List ℕ) → StaysNone k text
none_later zero text = λ most e. e
none_later (suc k) [] = λ most e. e
none_later (suc k) (b ∷ text) = none_by_byte (nat_eq b 93) k b text refl (none_later k text)

none_either : (c : Bool) (o : Option (List ℕ)) → o ≡ None → cond c o None ≡ None
none_either true o e = e
none_either false o e = refl

-- where no name is closed, and where none begins
pub none_closed : (text rest inner : List ℕ) → rest ≡ drop 2 text → inner ≡ before_bracket rest → closes inner rest ≡ false →
    HasNoName text 0 (length inner + 1)
none_closed text rest inner at e is = λ k from less.
    let none : closed_name rest ≡ None =
    ap (λ i. closed i rest) (sym e) ∙ ap (λ t. cond t (Some (take (length inner - 1) inner)) None) is in
    let later = none_later k rest (omega (arith, less, ap length e)) none in
    none_either (bytes_eq (take 2 (drop k text)) (codes "[:")) (closed_name (drop 2 (drop k text)))
    (ap closed_name (drop-drop 2 k text ∙ ap (λ n. drop n text) (omega arith) ∙ sym (drop-drop k 2 text) ∙ ap (drop k) (sym at)) ∙ later)

-- the bytes before a `]` that do not end in `:`
pub closes_by_last : (inner rest name : List ℕ) (last : ℕ) → inner ≡ name ++ last ∷ [] → nat_eq last 58 ≡ false → closes inner rest ≡ false
closes_by_last inner rest name last at is =
    ap (λ t. nat_lt (length inner) (length rest) && t) (ap (ends_with_byte 58) at ∙ ends_at_last 58 last name ∙ is)
    ∙ no_end (nat_lt (length inner) (length rest))

pub closes_none : (inner rest : List ℕ) → length inner ≡ 0 → closes inner rest ≡ false
closes_none [] rest none = no_end (nat_lt 0 (length rest))
closes_none (x ∷ inner) rest none = absurd (omega (arith, none))

pub closes_at_end : (inner rest : List ℕ) → nat_lt (length inner) (length rest) ≡ false → closes inner rest ≡ false
closes_at_end inner rest is = ap (λ t. t && ends_with_byte 58 inner) is

-- no name begins in the rest of a text, as in the text
pub none_from : (text : List ℕ) (at n end : ℕ) → HasNoName (drop at text) 0 n → end ≤ at + n → HasNoName text at end
none_from text at n end none most = λ k from less.
    let e : at + (k - at) ≡ k = omega (arith, from) in
    subst (λ t. class_name t ≡ None) (drop-drop (k - at) at text ∙ ap (λ j. drop j text) e) (none (k - at) (omega arith) (omega (arith, from, less, most)))

pub none_after : (text : List ℕ) (at n end : ℕ) → HasNoName text at end → HasNoName text (at + n) end
none_after text at n end none = λ k from less. none k (omega (arith, from)) less

-- the item that has a name
pub named : (text name : List ℕ) (ranges : List (ℕ × ℕ)) → class_name text ≡ Some name → ranges_named name ≡ Some ranges →
    (class_item text ≡ Some (ranges, length name + 4)) × (length name + 4 ≤ length text)
named text name ranges e r = (ap (item_or text) e ∙ ap (named_item name) r, name_within text name e)

-- the item that is a range
pub ranged : (text : List ℕ) (item : ItemsRead) → class_name text ≡ None → range_from text (quoted text) ≡ item → class_item text ≡ item
ranged text item e r = ap (item_or text) e ∙ r

pub begins_some : (b : ℕ) (text : List ℕ) → begins_with b text ≡ true → 0 < length text
begins_some b [] is = cc
begins_some b (first ∷ text) is = omega arith
