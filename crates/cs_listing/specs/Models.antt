-- The tokens, elements, rules and folders that the values of the code stand for.
use denote.Ref.{Bor}
use Rattle.std.specs.Prelude.{ℕ, ◌≡◌, ◌+◌, List, [], ◌∷◌, map, length, drop, reverse, string_bytes, Vec, Option, Some, None}
use Rattle.cs_listing.specs.Globs.{GlobToken, byte, any, class, star, Element, folders, one}
use Rattle.cs_listing.specs.Rules.{Rule}
use Rattle.cs_listing.specs.Choices.{Settings, relative_to}
use Rattle.cs_listing.specs.Layers.{FolderRules, Repository, last_name}
use Rattle.cs_listing.specs.MatchWork.{rules_work}
use Rattle.cs_listing.specs.LayersWork.{layers_work}
use Rattle.cs_listing.specs.Braces.{OpenBraces, Expansion}
use Rattle.cs_listing.specs.declared.glob.Token.{Token}
use Rattle.cs_listing.specs.declared.glob.Token.TheVariants.{Byte, Any, Class, Star}
use Rattle.cs_listing.specs.declared.glob.Element.{Element as OwnElement}
use Rattle.cs_listing.specs.declared.glob.Element.TheVariants.{Folders, One}
use Rattle.cs_listing.specs.declared.rules.Rule.{Rule as OwnRule}
use Rattle.cs_listing.specs.declared.rules.Rules.{Rules}
use Rattle.cs_listing.specs.declared.layers.FolderRules.{FolderRules as OwnFolder}
use Rattle.cs_listing.specs.declared.layers.Repository.{Repository as OwnRepository}
use Rattle.cs_listing.specs.declared.layers.Layers.{Layers}
use Rattle.cs_listing.specs.declared.choices.Choices.{Choices}
use Rattle.cs_listing.specs.declared.braces.OpenBraces.{OpenBraces as OwnBraces}
use Rattle.cs_listing.specs.declared.braces.Expansion.{Expansion as OwnExpansion}
use Rattle.std.specs.declared.alloc.Global.{Global}

abbrev pub token_of : Token → GlobToken
token_of (Byte b) = byte b
token_of Any = any
token_of (Class negated ranges) = class negated ranges.items
token_of Star = star

abbrev pub tokens_of : List Token → List GlobToken
tokens_of tokens = map token_of tokens

abbrev pub element_of : OwnElement → Element
element_of Folders = folders
element_of (One tokens) = one (tokens_of tokens.items)

abbrev pub glob_of : List OwnElement → List Element
glob_of elements = map element_of elements

abbrev pub rule_of : OwnRule → Rule
rule_of rule = record { decision = rule.decision; only_folders = rule.only_folders; glob = glob_of rule.glob.items }

abbrev pub rules_in : Rules → List Rule
rules_in rules = map rule_of rules.rules.items

abbrev pub rules_if : Option Rules → Option (List Rule)
rules_if None = None
rules_if (Some rules) = Some (rules_in rules)

abbrev pub folder_of : OwnFolder → FolderRules
folder_of folder =
    record { ignore = rules_in folder.ignore; gitignore = rules_in folder.gitignore; exclude = rules_if folder.exclude; bytes = folder.bytes }

abbrev pub folders_of : List OwnFolder → List FolderRules
folders_of all = map folder_of all

-- the folders that the layers stand for, from the top down
abbrev pub folders_in : Layers → List FolderRules
folders_in layers = folders_of layers.folders.items

abbrev pub folder_name : OwnFolder → List ℕ
folder_name folder = string_bytes folder.name

-- the names of the folders, from the top down
abbrev pub all_names : Layers → List (List ℕ)
all_names layers = map folder_name layers.folders.items

-- the names of the folders below the topmost one
abbrev pub names_in : Layers → List (List ℕ)
names_in layers = drop 1 (all_names layers)

-- the choices of the user; the depth is that below the folder where a walk begins
abbrev pub chosen_in : Choices → Settings
chosen_in choices = record {
  global = rules_in choices.user;
  takes_hidden = choices.takes_hidden;
  takes_ignored = choices.takes_ignored;
  most_names = choices.depth;
  globs = rules_in choices.globs;
  folder = map string_bytes choices.folder.items;
  types = rules_in choices.types;
}

abbrev pub settings_of : Layers → Settings
settings_of layers = record (chosen_in layers.choices.now) { most_names = layers.most_names }

-- the choices of the user stay
abbrev pub KeepsChoices : Layers → Layers → Type 0
KeepsChoices old new = (new.choices ≡ old.choices) × (new.most_names ≡ old.most_names)

-- the values of borrowed names
abbrev pub names : List (Bor (List ℕ)) → List (List ℕ)
names lent = map (λ (name : Bor (List ℕ)). name.now) lent

-- the path is that of an entry of the deepest folder: it has one name for each folder
abbrev pub IsInDeepest : Layers → List (Bor (List ℕ)) → Type 0
IsInDeepest layers path = length (folders_in layers) ≡ length path

-- the most steps that the layers take for a path
abbrev pub work_for : Layers → List (Bor (List ℕ)) → ℕ
work_for layers path = layers_work (settings_of layers).global (folders_in layers) (names path)

-- the most steps that the globs and the types of the user take, and the layers
abbrev pub choice_work : Settings → List (List ℕ) → ℕ
choice_work settings path =
    rules_work settings.globs (relative_to settings.folder path) + rules_work settings.types (last_name path ∷ [])

abbrev pub left_out_work : Layers → List (Bor (List ℕ)) → ℕ
left_out_work layers path = choice_work (settings_of layers) (names path) + work_for layers path

abbrev pub repository_in : Option OwnRepository → Option Repository
repository_in None = None
repository_in (Some at) = Some (record {
  exclude = rules_in at.exclude.now;
  folders = folders_of at.folders.now;
  path = names at.path.now;
})

-- ---- texts with braces

abbrev pub texts_of : List (Vec ℕ Global) → List (List ℕ)
texts_of texts = map (λ (text : Vec ℕ Global). text.items) texts

abbrev pub texts_in : Option (Vec (Vec ℕ Global) Global) → Option (List (List ℕ))
texts_in None = None
texts_in (Some texts) = Some (texts_of texts.items)

abbrev pub braces_of : OwnBraces → OpenBraces
braces_of own = record { before = texts_of own.before.items; ended = texts_of own.ended.items }

abbrev pub around_in : OwnExpansion → List OpenBraces
around_in at = reverse (map braces_of at.around.items)

abbrev pub expansion_of : OwnExpansion → Expansion
expansion_of at = record { texts = texts_of at.texts.items; around = around_in at }
