-- What all rule files along a path say together: gitignore(5), "DESCRIPTION", and `.ignore` files, which come first.
-- docs/PROMISES.md, "Rules".
use Rattle.std.specs.Prelude.{ℕ, ◌+◌, ◌-◌, Bool, true, false, not, ◌&&◌, ◌||◌, List, [], ◌∷◌, drop, Option, Some, None, is_some, if◌then◌else◌, bytes_eq, codes}
use Rattle.cs_listing.specs.declared.rules.Decision.{Decision}
use Rattle.cs_listing.specs.declared.rules.Decision.TheVariants.{Ignore, TakeBack}
use Rattle.cs_listing.specs.declared.layers.RuleFile.{RuleFile}
use Rattle.cs_listing.specs.declared.layers.RuleFile.TheVariants as file
use Rattle.cs_listing.specs.Rules.{Rule, or_else, decide}
use Rattle.cs_listing.specs.Choices.{Settings, glob_choice, type_choice, is_too_deep}
use Rattle.cs_listing.specs.Classes.{begins_with}
use Rattle.cs_listing.specs.RuleFileReads.{most_rule_bytes}

-- a folder, by the rules that count below it
pub record FolderRules : Type 0 where
  -- of its `.ignore` and of its `.gitignore`; none where there is no such file
  pub ignore : List Rule
  pub gitignore : List Rule
  -- if a repository begins here: the rules of its `info/exclude`
  pub exclude : Option (List Rule)
  -- the bytes that these files have
  pub bytes : ℕ

-- a folder whose rule files count for nothing
abbrev pub without_rules : Bool → FolderRules
without_rules is_root = record { ignore = []; gitignore = []; exclude = if is_root then Some [] else None; bytes = 0 }

-- The folders along a path are given from the top down. The elements of the path are the names of those below the first one,
-- and last the name that is asked about.

-- the bytes of their rule files
abbrev pub rule_bytes : List FolderRules → ℕ
rule_bytes [] = 0
rule_bytes (folder ∷ folders) = folder.bytes + rule_bytes folders

-- the bytes that are left for the rule files of the next folder, if rule files count
abbrev pub room_after : Bool → List FolderRules → Option ℕ
room_after takes_ignored folders = if takes_ignored then None else Some (most_rule_bytes - rule_bytes folders)

abbrev pub rules_at : RuleFile → FolderRules → List Rule
rules_at file.Ignore folder = folder.ignore
rules_at file.Gitignore folder = folder.gitignore

-- What the files of this kind say: that of the deepest folder whose file says anything of the path below it.
abbrev pub deepest : RuleFile → Bool → List FolderRules → List (List ℕ) → Option Decision
deepest kind is_folder [] path = None
deepest kind is_folder (folder ∷ folders) path =
    or_else (deepest kind is_folder folders (drop 1 path)) (decide (rules_at kind folder) path is_folder)

-- ---- repositories

-- a repository: the rules of its `info/exclude`, the folders from its root down, and the path below its root
pub record Repository : Type 0 where
  pub exclude : List Rule
  pub folders : List FolderRules
  pub path : List (List ℕ)

abbrev pub begins_here : Option (List Rule) → List FolderRules → List (List ℕ) → Option Repository
begins_here None folders path = None
begins_here (Some exclude) folders path = Some (record { exclude = exclude; folders = folders; path = path })

-- the repository that a path is in, which begins in the deepest folder where one begins
abbrev pub repository_of : List FolderRules → List (List ℕ) → Option Repository
repository_of [] path = None
repository_of (folder ∷ folders) path =
    or_else (repository_of folders (drop 1 path)) (begins_here folder.exclude (folder ∷ folders) path)

-- What a repository says: its `.gitignore` files; else its `info/exclude`; else the file of the user, `global`.
abbrev pub repository_says : List Rule → Bool → Option Repository → Option Decision
repository_says global is_folder None = None
repository_says global is_folder (Some at) =
    or_else (deepest file.Gitignore is_folder at.folders at.path)
    (or_else (decide at.exclude at.path is_folder) (decide global at.path is_folder))

-- ---- all files together

-- what all rule files say of the path: the `.ignore` files; else those of its repository
abbrev pub says : List Rule → Bool → List FolderRules → List (List ℕ) → Option Decision
says global is_folder folders path =
    or_else (deepest file.Ignore is_folder folders path) (repository_says global is_folder (repository_of folders path))

-- the last element of a path
abbrev pub last_name : List (List ℕ) → List ℕ
last_name [] = []
last_name (name ∷ []) = name
last_name (folder ∷ name ∷ path) = last_name (name ∷ path)

-- ---- what is left out

-- whether a name begins with a dot, and counts only if the user takes hidden names: it is in no repository
abbrev pub is_hidden : Settings → List FolderRules → List (List ℕ) → Bool
is_hidden settings folders path =
    begins_with 46 (last_name path) && not (settings.takes_hidden || is_some (repository_of folders path))

-- what the rule files say, if they count
abbrev pub said_of : Settings → Bool → List FolderRules → List (List ℕ) → Option Decision
said_of settings is_folder folders path = if settings.takes_ignored then None else says settings.global is_folder folders path

-- Whether a path is left out by what the rule files say, and by whether its type is taken. A hidden name is left out if they
-- say nothing.
abbrev pub is_ruled_out : Option Decision → Option Bool → Bool → Bool
is_ruled_out (Some Ignore) typed hidden = true
is_ruled_out (Some TakeBack) (Some taken) hidden = not taken
is_ruled_out (Some TakeBack) None hidden = false
is_ruled_out None (Some taken) hidden = not taken
is_ruled_out None None hidden = hidden

abbrev pub is_out_by_rules : Settings → Bool → List FolderRules → List (List ℕ) → Bool
is_out_by_rules settings is_folder folders path = is_ruled_out (said_of settings is_folder folders path)
    (type_choice settings is_folder (last_name path)) (is_hidden settings folders path)

-- whether a path is left out by the globs of the user, or by the rule files if no glob says anything
abbrev pub unless_chosen : Option Bool → Bool → Bool
unless_chosen None ruled_out = ruled_out
unless_chosen (Some taken) ruled_out = not taken

-- whether a path is left out; `.git` always is
abbrev pub is_left_out : Settings → Bool → List FolderRules → List (List ℕ) → Bool
is_left_out settings is_folder folders path =
    (bytes_eq (last_name path) (codes ".git") || is_too_deep settings.most_names is_folder path)
    || unless_chosen (glob_choice settings is_folder path) (is_out_by_rules settings is_folder folders path)
