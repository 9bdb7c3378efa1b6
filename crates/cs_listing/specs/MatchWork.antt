-- The work of matching, in steps. A step is a token that is compared with a byte, or a range of its class, or an element that
-- is compared with a name. docs/PROMISES.md, "Rules".
use Rattle.std.specs.Prelude.{ℕ, ◌+◌, ◌*◌, max, List, [], ◌∷◌, length}
use Rattle.cs_listing.specs.Globs.{GlobToken, class, Element, folders, one}
use Rattle.cs_listing.specs.Rules.{Rule}

-- the steps of a token at one byte
abbrev pub token_work : GlobToken → ℕ
token_work (class negated ranges) = length ranges + 1
token_work _ = 1

abbrev pub tokens_work : List GlobToken → ℕ
tokens_work [] = 0
tokens_work (token ∷ tokens) = token_work token + tokens_work tokens

-- Each token meets each byte of a name at most once.
abbrev pub name_work : List GlobToken → ℕ → ℕ
name_work tokens len = (len + 1) * (tokens_work tokens + 1)

abbrev pub element_work : Element → ℕ
element_work folders = 0
element_work (one tokens) = tokens_work tokens

-- the steps of the largest element at one byte, and the length of the longest name
abbrev pub largest : List Element → ℕ
largest [] = 0
largest (element ∷ glob) = max (element_work element) (largest glob)

abbrev pub longest : List (List ℕ) → ℕ
longest [] = 0
longest (name ∷ path) = max (length name) (longest path)

-- the most steps of one element at one name
abbrev pub pair_work : List Element → List (List ℕ) → ℕ
pair_work glob path = (longest path + 1) * (largest glob + 1)

-- Each element meets each name of a path at most once.
abbrev pub path_work : List Element → List (List ℕ) → ℕ
path_work glob path = (length path + 1) * (length glob + 1) * (pair_work glob path + 1)

-- Each rule is matched at most once.
abbrev pub rules_work : List Rule → List (List ℕ) → ℕ
rules_work [] path = 0
rules_work (rule ∷ rules) path = path_work rule.glob path + rules_work rules path
