-- Globs, as in gitignore(5): a glob is a list of elements, and matches the elements of a path. docs/PROMISES.md, "Rules".
use Rattle.std.specs.Prelude.{ℕ, Bool, true, false, not, ◌&&◌, ◌||◌, nat_eq, nat_le, List, [], ◌∷◌, length}
use Rattle.std.specs.List.{list_any, list_all}

-- ---- one element of a path

-- what a part of a name has to match
pub data GlobToken : Type 0 where
  byte : ℕ → GlobToken
  -- `?`
  any : GlobToken
  -- `[..]`: whether it is negated, and its ranges
  class : Bool → List (ℕ × ℕ) → GlobToken
  -- `*`
  star : GlobToken

abbrev pub is_in_ranges : List (ℕ × ℕ) → ℕ → Bool
is_in_ranges ranges b = list_any (λ (range : ℕ × ℕ). nat_le range.0 b && nat_le b range.1) ranges

-- whether a token other than `*` matches the byte
abbrev pub accepts_byte : GlobToken → ℕ → Bool
accepts_byte (byte own) b = nat_eq own b
accepts_byte any b = true
accepts_byte (class false ranges) b = is_in_ranges ranges b
accepts_byte (class true ranges) b = not (is_in_ranges ranges b)
accepts_byte star b = false

-- whether the tokens match a whole name
abbrev pub matches_name : List GlobToken → List ℕ → Bool
matches_name [] [] = true
matches_name [] (b ∷ name) = false
matches_name (star ∷ tokens) [] = matches_name tokens []
matches_name (star ∷ tokens) (b ∷ name) = matches_name tokens (b ∷ name) || matches_name (star ∷ tokens) name
matches_name (token ∷ tokens) [] = false
matches_name (token ∷ tokens) (b ∷ name) = accepts_byte token b && matches_name tokens name

-- ---- paths

pub data Element : Type 0 where
  -- `**`: any number of folders, also none
  folders : Element
  one : List GlobToken → Element

-- whether the elements of a glob match a whole path, which is given by its elements
abbrev pub matches_path : List Element → List (List ℕ) → Bool
matches_path [] [] = true
matches_path [] (name ∷ path) = false
matches_path (folders ∷ glob) [] = matches_path glob []
matches_path (folders ∷ glob) (name ∷ path) = matches_path glob (name ∷ path) || matches_path (folders ∷ glob) path
matches_path (one tokens ∷ glob) [] = false
matches_path (one tokens ∷ glob) (name ∷ path) = matches_name tokens name && matches_path glob path

-- ---- globs that can match

-- a class without a byte, which matches nothing
abbrev pub is_nothing : GlobToken → Bool
is_nothing (class negated ranges) = not negated && nat_eq (length ranges) 0
is_nothing _ = false

-- No name is empty.
abbrev pub can_match_name : List GlobToken → Bool
can_match_name tokens = not (nat_eq (length tokens) 0) && not (list_any is_nothing tokens)

abbrev pub can_match_element : Element → Bool
can_match_element folders = true
can_match_element (one tokens) = can_match_name tokens

abbrev pub can_match : List Element → Bool
can_match glob = list_all can_match_element glob
