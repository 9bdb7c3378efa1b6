-- How the text of a rule, without its `!` and the slash at its end, is read as a glob: gitignore(5), "PATTERN FORMAT".
-- The bytes are 33 for `!`, 42 for `*`, 63 for `?`, 91 for `[` and 94 for `^`.
use Rattle.std.specs.Prelude.{ℕ, zero, suc, ◌+◌, ◌-◌, Bool, true, false, ◌&&◌, ◌||◌, nat_eq, nat_le, if◌then◌else◌, List, [], ◌∷◌, drop, length, Option, Some, None}
use Rattle.std.specs.List.{list_any, list_all, slice_split}
use Rattle.std.specs.Path.{slash}
use Rattle.cs_listing.specs.Globs.{GlobToken, byte, any, class, star, Element, folders, one}
use Rattle.cs_listing.specs.Classes.{ItemsRead, begins_with, quoted, class_items}

-- ---- tokens

-- A token that matches nothing: a class that does not end or has an unknown name in it, and a backslash at the end.
abbrev pub nothing : GlobToken
nothing = class false []

abbrev pub byte_token : Option (ℕ × ℕ) → GlobToken × ℕ
byte_token None = (nothing, 1)
byte_token (Some own) = (byte own.0, own.1)

-- a class, before whose items so many bytes stand in a text of that length
abbrev pub class_token : Bool → ℕ → ℕ → ItemsRead → GlobToken × ℕ
class_token negated before len None = (nothing, len)
class_token negated before len (Some items) = (class negated items.0, before + items.1)

-- a class of a text that begins with `[`
abbrev pub class_of : List ℕ → GlobToken × ℕ
class_of text =
    if begins_with 33 (drop 1 text) || begins_with 94 (drop 1 text) then class_token true 2 (length text) (class_items (drop 2 text))
    else class_token false 1 (length text) (class_items (drop 1 text))

-- the token that a text begins with, and its length
abbrev pub first_token : List ℕ → GlobToken × ℕ
first_token text =
    if begins_with 42 text then (star, 1)
    else (if begins_with 63 text then (any, 1)
    else (if begins_with 91 text then class_of text else byte_token (quoted text)))

-- The tokens of a text. The first bytes, as many as the number says, are those of a token before.
abbrev pub tokens_after : ℕ → List ℕ → List GlobToken
tokens_after n [] = []
tokens_after (suc n) (b ∷ text) = tokens_after n text
tokens_after zero (b ∷ text) = (first_token (b ∷ text)).0 ∷ tokens_after ((first_token (b ∷ text)).1 - 1) text

abbrev pub tokens_in : List ℕ → List GlobToken
tokens_in text = tokens_after 0 text

-- ---- elements: what stands between slashes

abbrev pub is_slash : GlobToken → Bool
is_slash (byte b) = nat_eq b slash
is_slash _ = false

abbrev pub is_star : GlobToken → Bool
is_star star = true
is_star _ = false

-- whether an element is `**`; more stars are the same
abbrev pub is_double_star : List GlobToken → Bool
is_double_star tokens = nat_le 2 (length tokens) && list_all is_star tokens

abbrev pub element : List GlobToken → Element
element tokens = if is_double_star tokens then folders else one tokens

-- the last element; `**` there is `**/*`
abbrev pub last_element : List GlobToken → List Element
last_element tokens = if is_double_star tokens then folders ∷ one (star ∷ []) ∷ [] else one tokens ∷ []

abbrev pub elements_of : List (List GlobToken) → List Element
elements_of [] = []
elements_of (tokens ∷ []) = last_element tokens
elements_of (tokens ∷ next ∷ others) = element tokens ∷ elements_of (next ∷ others)

abbrev pub elements_in : List ℕ → List Element
elements_in text = elements_of (slice_split is_slash (tokens_in text))

abbrev pub has_slash : List ℕ → Bool
has_slash text = list_any (λ b. nat_eq b slash) text

-- A glob with a slash in it begins at the folder of its rule, and one without a slash matches in every folder below.
abbrev pub glob_in : List ℕ → List Element
glob_in text =
    if has_slash text then elements_in (if begins_with slash text then drop 1 text else text) else folders ∷ elements_in text
