-- The work of asking all rule files along a path, in steps: that of each file, at the path below its folder.
use Rattle.std.specs.Prelude.{ℕ, ◌+◌, List, [], ◌∷◌, drop, Option, Some, None}
use Rattle.cs_listing.specs.declared.layers.RuleFile.{RuleFile}
use Rattle.cs_listing.specs.declared.layers.RuleFile.TheVariants as file
use Rattle.cs_listing.specs.Rules.{Rule}
use Rattle.cs_listing.specs.MatchWork.{rules_work}
use Rattle.cs_listing.specs.Layers.{FolderRules, Repository, rules_at, repository_of}

-- the files of one kind
abbrev pub files_work : RuleFile → List FolderRules → List (List ℕ) → ℕ
files_work kind [] path = 0
files_work kind (folder ∷ folders) path = rules_work (rules_at kind folder) path + files_work kind folders (drop 1 path)

-- the `.gitignore` files of a repository, its `info/exclude`, and the file of the user
abbrev pub repository_work : List Rule → Option Repository → ℕ
repository_work global None = 0
repository_work global (Some at) =
    files_work file.Gitignore at.folders at.path + (rules_work at.exclude at.path + rules_work global at.path)

-- Each file is asked at most once.
abbrev pub layers_work : List Rule → List FolderRules → List (List ℕ) → ℕ
layers_work global folders path = files_work file.Ignore folders path + repository_work global (repository_of folders path)
