-- Where a repository keeps its own files: gitrepository-layout(5), "gitdir" and "commondir"; and which folder is the root of one,
-- as git finds it. docs/PROMISES.md, "Rules".
-- The bytes are 10 for a newline and 13 for a carriage return.
use Rattle.std.specs.Prelude.{ℕ, Bool, true, false, not, ◌&&◌, nat_eq, nat_le, if◌then◌else◌, List, [], ◌∷◌, ◌++◌, take, drop, length, Option, Some, None, option_map, codes, bytes_eq}
use Rattle.std.specs.List.{before_first}
use Rattle.std.specs.Str.{is_utf8}
use Rattle.std.specs.Path.{slash}
use Rattle.cs_tree.specs.Snapshot.{Item, file, bad}
use Rattle.cs_tree.specs.Elements.{is_among}
use Rattle.cs_tree.specs.Clean.{with_slashes, longest_path}
use Rattle.cs_listing.specs.Rules.{or_else}
use Rattle.cs_listing.specs.Classes.{begins_with}
use Rattle.cs_listing.specs.RuleFiles.{without_last}
use Rattle.cs_listing.specs.RuleFileReads.{longest_rule_file}

-- the items of a tree by their paths, as `item_at` gives them for a snapshot
abbrev pub TreeItems : Type 0
TreeItems = List ℕ → Item

-- the bytes of a file that is read whole; only a file has any, and a link is none
abbrev pub bytes_of_item : Item → List ℕ
bytes_of_item (file bytes) = if nat_le (length bytes) longest_rule_file then bytes else []
bytes_of_item _ = []

-- ---- files that name a folder

-- the first line of a text
abbrev pub first_line : List ℕ → List ℕ
first_line text = without_last 13 (before_first (λ b. nat_eq b 10) text)

-- a line as a path, which is text
abbrev pub path_in : List ℕ → Option (List ℕ)
path_in line = if not (bytes_eq line []) && is_utf8 line then Some line else None

-- the path that a text names after a beginning
abbrev pub path_after : List ℕ → List ℕ → Option (List ℕ)
path_after beginning text =
    if bytes_eq (take (length beginning) text) beginning then path_in (first_line (drop (length beginning) text)) else None

-- a path that may be relative to a folder
abbrev pub joined : List ℕ → List ℕ → List ℕ
joined folder path = if begins_with slash path then path else folder ++ slash ∷ path

-- ---- the folders of a repository, by the text before the slash in the paths of its root's entries

-- the folder that the file `.git` names, of a worktree or a submodule; else `.git`
abbrev pub named_folder : List ℕ → Option (List ℕ) → List ℕ
named_folder stem None = stem ++ slash ∷ codes ".git"
named_folder stem (Some path) = joined stem path

abbrev pub git_folder : TreeItems → List ℕ → List ℕ
git_folder items stem = named_folder stem (path_after (codes "gitdir: ") (bytes_of_item (items (stem ++ slash ∷ codes ".git"))))

-- the folder that all worktrees of a repository share: the one that `commondir` in its git folder names; else the git folder
abbrev pub common_folder : List ℕ → Option (List ℕ) → List ℕ
common_folder folder None = folder
common_folder folder (Some path) = joined folder path

abbrev pub shared_folder : TreeItems → List ℕ → List ℕ
shared_folder items folder = common_folder folder (path_after [] (bytes_of_item (items (folder ++ slash ∷ codes "commondir"))))

-- ---- which folder is the root of a repository

-- whether something is at a path within the limit
abbrev pub is_something : Item → Bool
is_something (bad fault) = false
is_something _ = true

abbrev pub is_there : TreeItems → List ℕ → Bool
is_there items path = nat_le (length path) longest_path && is_something (items path)

-- whether a git folder and its shared folder are those of a repository
abbrev pub are_of_repository : TreeItems → List ℕ → List ℕ → Bool
are_of_repository items own shared = is_there items (own ++ slash ∷ codes "HEAD")
    && (is_there items (shared ++ slash ∷ codes "objects") && is_there items (shared ++ slash ∷ codes "refs"))

abbrev pub is_repository : TreeItems → List ℕ → Bool
is_repository items stem = are_of_repository items (git_folder items stem) (shared_folder items (git_folder items stem))

-- the folders of the repository that begins in a folder: its git folder and its shared folder
abbrev pub repository_at : TreeItems → List ℕ → Option (List ℕ × List ℕ)
repository_at items stem =
    if is_repository items stem then Some (git_folder items stem, shared_folder items (git_folder items stem)) else None

-- the same of a folder with these names
abbrev pub root_at : TreeItems → List ℕ → List (List ℕ) → Option (List ℕ × List ℕ)
root_at items stem names = if is_among names (codes ".git") then repository_at items stem else None

-- the repository that begins in a folder: its root, by the text before the slash in the paths of its entries, and its git folder
abbrev pub repository_begun : TreeItems → List ℕ → Option (List ℕ × List ℕ)
repository_begun items stem = option_map (λ (folders : List ℕ × List ℕ). (stem, folders.0)) (repository_at items stem)

-- the same of the nearest repository at or above a folder, whose elements are given last one first
abbrev pub repository_above : TreeItems → List (List ℕ) → Option (List ℕ × List ℕ)
repository_above items [] = repository_begun items []
repository_above items (name ∷ above) = or_else (repository_begun items (with_slashes (name ∷ above))) (repository_above items above)
