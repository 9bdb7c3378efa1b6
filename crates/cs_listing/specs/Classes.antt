-- Classes in the text of a glob, as in `[a-z]`, `[!0-9]` and `[[:alpha:]]`: fnmatch(3), and wildmatch.c of git. The bytes are
-- 45 for `-`, 58 for `:`, 92 for a backslash and 93 for `]`.
use Rattle.std.specs.Prelude.{ℕ, zero, suc, length, ◌+◌, ◌-◌, max, Bool, false, not, ◌&&◌, nat_eq, nat_lt, if◌then◌else◌, List, [], ◌∷◌, ◌++◌, drop, take, Option, Some, None, codes, bytes_eq}
use Rattle.std.specs.List.{before_first}

-- What is read of a text: ranges, and the length of their text. None if they are no part of a class.
abbrev pub ItemsRead : Type 0
ItemsRead = Option (List (ℕ × ℕ) × ℕ)

-- whether a text begins with the byte
abbrev pub begins_with : ℕ → List ℕ → Bool
begins_with b [] = false
begins_with b (first ∷ text) = nat_eq first b

-- whether the last byte of a text is this one
abbrev pub ends_with_byte : ℕ → List ℕ → Bool
ends_with_byte b [] = false
ends_with_byte b (last ∷ []) = nat_eq last b
ends_with_byte b (first ∷ next ∷ text) = ends_with_byte b (next ∷ text)

-- ---- bytes, which a backslash may quote

-- the byte after a backslash, and the length of both
abbrev pub after_backslash : List ℕ → Option (ℕ × ℕ)
after_backslash [] = None
after_backslash (b ∷ text) = Some (b, 2)

-- The byte that a text begins with, and the length that it takes. A backslash at the end quotes nothing.
abbrev pub quoted : List ℕ → Option (ℕ × ℕ)
quoted [] = None
quoted (b ∷ text) = if nat_eq b 92 then after_backslash text else Some (b, 1)

-- ---- named classes, as in `[[:alpha:]]`

-- the ranges of a name, of ASCII
abbrev pub ranges_named : List ℕ → Option (List (ℕ × ℕ))
ranges_named name =
    if bytes_eq name (codes "alnum") then Some ((48, 57) ∷ (65, 90) ∷ (97, 122) ∷ [])
    else (if bytes_eq name (codes "alpha") then Some ((65, 90) ∷ (97, 122) ∷ [])
    else (if bytes_eq name (codes "blank") then Some ((32, 32) ∷ (9, 9) ∷ [])
    else (if bytes_eq name (codes "cntrl") then Some ((0, 31) ∷ (127, 127) ∷ [])
    else (if bytes_eq name (codes "digit") then Some ((48, 57) ∷ [])
    else (if bytes_eq name (codes "graph") then Some ((33, 126) ∷ [])
    else (if bytes_eq name (codes "lower") then Some ((97, 122) ∷ [])
    else (if bytes_eq name (codes "print") then Some ((32, 126) ∷ [])
    else (if bytes_eq name (codes "punct") then Some ((33, 47) ∷ (58, 64) ∷ (91, 96) ∷ (123, 126) ∷ [])
    else (if bytes_eq name (codes "space") then Some ((9, 13) ∷ (32, 32) ∷ [])
    else (if bytes_eq name (codes "upper") then Some ((65, 90) ∷ [])
    else (if bytes_eq name (codes "xdigit") then Some ((48, 57) ∷ (65, 70) ∷ (97, 102) ∷ []) else None)))))))))))

-- the bytes before the first `]`
abbrev pub before_bracket : List ℕ → List ℕ
before_bracket text = before_first (λ b. nat_eq b 93) text

-- The name after `[:` is what comes before the first `]`, if that ends in `:`, without the `:`. Otherwise the `[` is a byte.
abbrev pub closed_name : List ℕ → Option (List ℕ)
closed_name text =
    if nat_lt (length (before_bracket text)) (length text) && ends_with_byte 58 (before_bracket text)
    then Some (take (length (before_bracket text) - 1) (before_bracket text)) else None

abbrev pub class_name : List ℕ → Option (List ℕ)
class_name text = if bytes_eq (take 2 text) (codes "[:") then closed_name (drop 2 text) else None

-- ---- items

-- whether a range goes on here: at `-` and another byte than the `]` that ends the class
abbrev pub is_range : List ℕ → Bool
is_range text = begins_with 45 text && (not (bytes_eq (drop 1 text) []) && not (begins_with 93 (drop 1 text)))

-- The range from a byte, with its length, to another one. If the other one is less, the range has the first byte
-- alone.
abbrev pub range_to : ℕ × ℕ → Option (ℕ × ℕ) → ItemsRead
range_to low None = None
range_to low (Some high) = Some ((low.0, max low.0 high.0) ∷ [], low.1 + 1 + high.1)

-- the range that begins with a byte, if there is one
abbrev pub range_from : List ℕ → Option (ℕ × ℕ) → ItemsRead
range_from text None = None
range_from text (Some low) =
    if is_range (drop low.1 text) then range_to low (quoted (drop (low.1 + 1) text)) else Some ((low.0, low.0) ∷ [], low.1)

abbrev pub named_item : List ℕ → Option (List (ℕ × ℕ)) → ItemsRead
named_item name None = None
named_item name (Some ranges) = Some (ranges, length name + 4)

-- the item of a class that a text begins with: its ranges and its length
abbrev pub item_or : List ℕ → Option (List ℕ) → ItemsRead
item_or text None = range_from text (quoted text)
item_or text (Some name) = named_item name (ranges_named name)

abbrev pub class_item : List ℕ → ItemsRead
class_item text = item_or text (class_name text)

-- ---- classes

abbrev pub item_length : ItemsRead → ℕ
item_length None = 0
item_length (Some item) = item.1

-- an item and what follows it; the length is that of what follows
abbrev pub with_item : ItemsRead → ItemsRead → ItemsRead
with_item None others = None
with_item (Some item) None = None
with_item (Some item) (Some others) = Some (item.0 ++ others.0, others.1)

abbrev pub one_longer : ItemsRead → ItemsRead
one_longer None = None
one_longer (Some items) = Some (items.0, items.1 + 1)

-- The items up to the `]`, and the length with it. The first bytes, as many as the number says, are those of an item before.
abbrev pub later_items : ℕ → List ℕ → ItemsRead
later_items n [] = None
later_items (suc n) (b ∷ text) = one_longer (later_items n text)
later_items zero (b ∷ text) =
    if nat_eq b 93 then Some ([], 1)
    else with_item (class_item (b ∷ text)) (one_longer (later_items (item_length (class_item (b ∷ text)) - 1) text))

-- A class after its `[` and `!`: its ranges and its length. A `]` that comes first is an item. None if it does not end.
abbrev pub class_items : List ℕ → ItemsRead
class_items text = with_item (class_item text) (later_items (item_length (class_item text)) text)
