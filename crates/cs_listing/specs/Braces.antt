-- Braces in the globs of a user, as of rg and of bash(1), "Brace Expansion": `a{b,c}` stands for `ab` and `ac`. Rule files have
-- none. docs/PROMISES.md, "Rules".
use Rattle.std.specs.Prelude.{ℕ, ◌≡◌, zero, suc, ◌-◌, Bool, true, false, nat_le, if◌then◌else◌, List, [], ◌∷◌, ◌++◌, take, drop, map, length, filter_map, Option, Some, None, option_map, codes, bytes_eq}
use Rattle.std.specs.List.{list_all}
use Rattle.std.specs.Path.{slash}
use Rattle.cs_listing.specs.declared.rules.Decision.{Decision}
use Rattle.cs_listing.specs.declared.rules.Decision.TheVariants.{Ignore, TakeBack}
use Rattle.cs_listing.specs.Globs.{can_match}
use Rattle.cs_listing.specs.Classes.{begins_with}
use Rattle.cs_listing.specs.GlobText.{first_token, glob_in}
use Rattle.cs_listing.specs.Rules.{Rule}
use Rattle.cs_listing.specs.RuleFiles.{without_last, rule_saying}

-- ---- pieces

-- The texts of the tokens of a glob; so a brace in a class, or after a backslash, is no piece. The first bytes, as many as the
-- number says, are those of a token before.
abbrev pub pieces_after : ℕ → List ℕ → List (List ℕ)
pieces_after n [] = []
pieces_after (suc n) (b ∷ text) = pieces_after n text
pieces_after zero (b ∷ text) = take (first_token (b ∷ text)).1 (b ∷ text) ∷ pieces_after ((first_token (b ∷ text)).1 - 1) text

abbrev pub pieces_in : List ℕ → List (List ℕ)
pieces_in text = pieces_after 0 text

-- ---- what a glob stands for up to some place in it

-- braces around the place: what the glob stands for up to them, and up to the end of each alternative before the place
pub record OpenBraces : Type 0 where
  pub before : List (List ℕ)
  pub ended : List (List ℕ)

-- what it stands for up to the place, in the alternative of the place; and the braces around the place, the innermost first
pub record Expansion : Type 0 where
  pub texts : List (List ℕ)
  pub around : List OpenBraces

-- A glob stands for 1,000 texts at most.
abbrev pub few : List (List ℕ) → Option (List (List ℕ))
few texts = if nat_le (length texts) 1000 then Some texts else None

abbrev pub opened : Expansion → Expansion
opened at = record { texts = at.texts; around = record { before = at.texts; ended = [] } ∷ at.around }

-- at `}`, each alternative goes on after it
abbrev pub closed : List (List ℕ) → List OpenBraces → Option Expansion
closed texts [] = None
closed texts (inner ∷ outer) = option_map (λ all. record { texts = all; around = outer }) (few (inner.ended ++ texts))

abbrev pub with_text : List ℕ → List (List ℕ) → List (List ℕ)
with_text piece texts = map (λ text. text ++ piece) texts

-- at `,`, another alternative begins; outside of braces it is text
abbrev pub separated : List (List ℕ) → List OpenBraces → Option Expansion
separated texts [] = Some (record { texts = with_text (codes ",") texts; around = [] })
separated texts (inner ∷ outer) = option_map
    (λ all. record { texts = inner.before; around = record { before = inner.before; ended = all } ∷ outer }) (few (inner.ended ++ texts))

-- one piece more
abbrev pub with_piece : List ℕ → Expansion → Option Expansion
with_piece piece at =
    if bytes_eq piece (codes "{") then Some (opened at)
    else (if bytes_eq piece (codes "}") then closed at.texts at.around
    else (if bytes_eq piece (codes ",") then separated at.texts at.around
    else Some (record { texts = with_text piece at.texts; around = at.around })))

-- ---- what a whole glob stands for

abbrev pub texts_at_end : Expansion → Option (List (List ℕ))
texts_at_end at = if nat_le (length at.around) 0 then Some at.texts else None

-- the same if these are the pieces after the place
abbrev pub texts_after : Option Expansion → List (List ℕ) → Option (List (List ℕ))
texts_after None pieces = None
texts_after (Some at) [] = texts_at_end at
texts_after (Some at) (piece ∷ pieces) = texts_after (with_piece piece at) pieces

abbrev pub at_beginning : Expansion
at_beginning = record { texts = [] ∷ []; around = [] }

-- What a glob stands for. None if its braces do not close, or close what is not open, or stand for too many texts.
abbrev pub alternatives : List ℕ → Option (List (List ℕ))
alternatives text = texts_after (Some at_beginning) (pieces_in text)

-- ---- the globs of a user, as rules

-- whether a text is that of a glob: without a slash at its end, it can match something
abbrev pub is_glob : List ℕ → Bool
is_glob text = can_match (glob_in (without_last slash text))

-- the globs of texts, if each is that of one
abbrev pub all_saying : Decision → Option (List (List ℕ)) → Option (List Rule)
all_saying decision None = None
all_saying decision (Some texts) = if list_all is_glob texts then Some (filter_map (rule_saying decision) texts) else None

abbrev pub globs_saying : Decision → List ℕ → Option (List Rule)
globs_saying decision text = all_saying decision (alternatives text)

-- `!` before all of them is said by each
abbrev pub globs_in : List ℕ → Option (List Rule)
globs_in text = if begins_with 33 text then globs_saying TakeBack (drop 1 text) else globs_saying Ignore text

-- The globs are added, if there are any.
abbrev pub AddsGlobs : Option (List Rule) → Bool → List Rule → List Rule → Type 0
AddsGlobs None is_glob old new = (is_glob ≡ false) × (new ≡ old)
AddsGlobs (Some globs) is_glob old new = (is_glob ≡ true) × (new ≡ old ++ globs)
