-- Rules, as in gitignore(5), and what they decide of a path. docs/PROMISES.md, "Rules".
use Rattle.std.specs.Prelude.{Bool, not, ◌&&◌, ◌||◌, if◌then◌else◌, List, [], ◌∷◌, ℕ, Option, Some, None}
use Rattle.cs_listing.specs.Globs.{Element, matches_path}
use Rattle.cs_listing.specs.declared.rules.Decision.{Decision}

pub record Rule : Type 0 where
  pub decision : Decision
  -- a rule that ends in a slash
  pub only_folders : Bool
  pub glob : List Element

-- whether a rule applies to a path, which is given by its elements below the folder of the rules
abbrev pub applies : Rule → List (List ℕ) → Bool → Bool
applies rule path is_folder = (is_folder || not rule.only_folders) && matches_path rule.glob path

-- the first of the two that says anything
abbrev pub or_else : {A : Type 0} → Option A → Option A → Option A
or_else None second = second
or_else (Some x) second = Some x

-- what the last rule says that applies to the path
abbrev pub decide : List Rule → List (List ℕ) → Bool → Option Decision
decide [] path is_folder = None
decide (rule ∷ rules) path is_folder =
    or_else (decide rules path is_folder) (if applies rule path is_folder then Some rule.decision else None)
