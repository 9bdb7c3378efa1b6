-- The rules of a user for all repositories: gitignore(5), "core.excludesFile"; git-config(1), "FILES", "Includes" and
-- "Conditional includes". docs/PROMISES.md, "Rules".
use denote.Ref.{Bor}
use Rattle.std.specs.Prelude.{ℕ, zero, suc, ◌-◌, Bool, false, nat_eq, nat_le, if◌then◌else◌, List, [], ◌∷◌, ◌++◌, map, take, drop, length, Option, Some, None, is_some, option_map, codes, bytes_eq}
use Rattle.std.specs.List.{ends_with}
use Rattle.std.specs.Char.{to_ascii_lowercase}
use Rattle.std.specs.Path.{slash}
use Rattle.cs_tree.specs.Folders.{last_element}
use Rattle.cs_listing.specs.Lent.{lent}
use Rattle.cs_listing.specs.declared.user_settings.UserFiles.{UserFiles}
use Rattle.cs_listing.specs.Classes.{begins_with}
use Rattle.cs_listing.specs.Rules.{Rule, decide}
use Rattle.cs_listing.specs.RuleFiles.{rules_of}
use Rattle.cs_listing.specs.PathNames.{names_along}
use Rattle.cs_listing.specs.Listing.{TreeItems, bytes_of_item, rules_of_item}
use Rattle.cs_listing.specs.FolderReads.{entry_path}
use Rattle.cs_listing.specs.Unreadable.{unread_file, only_if}
use Rattle.cs_listing.specs.Settings.{Directive, excludes, includes, Said, said_in}

-- ---- where the settings of a user are

-- The folder of the user, that of the settings, which is `.config` in it or another one, the value of GIT_CONFIG_GLOBAL, and
-- the path of the git folder of the repository that a search begins in.
pub record User : Type 0 where
  pub home : List ℕ
  pub config : List ℕ
  pub global : Option (List ℕ)
  pub git : Option (List ℕ)

abbrev pub user_of : UserFiles → Option (Bor (List ℕ)) → User
user_of files git =
    record { home = files.home.now; config = files.config.now; global = lent files.global; git = lent git }

-- a path whose `~` is the user's folder; `~name` is not known
abbrev pub expanded : List ℕ → List ℕ → List ℕ
expanded home path =
    if bytes_eq path (codes "~") then home
    else (if bytes_eq (take 2 path) (codes "~/") then entry_path home (drop 2 path) else path)

-- ---- included files

-- a path up to its last slash, with it
abbrev pub stem_of_file : List ℕ → List ℕ
stem_of_file path = take (length path - length (last_element path)) path

-- a path in the file of settings at another path
abbrev pub path_in_file : List ℕ → List ℕ → List ℕ → List ℕ
path_in_file home file path =
    if begins_with slash (expanded home path) then expanded home path else stem_of_file file ++ expanded home path

-- The pattern of a condition as a rule for paths below `/`: `./` stands for the folder of the file, what is not absolute
-- matches at any depth, and what ends in a slash matches all below it.
abbrev pub anchored : List ℕ → List ℕ → List ℕ
anchored file pattern =
    if begins_with slash pattern then pattern
    else (if bytes_eq (take 2 pattern) (codes "./") then stem_of_file file ++ drop 2 pattern else codes "**/" ++ pattern)

abbrev pub with_stars : List ℕ → List ℕ
with_stars pattern = if ends_with nat_eq pattern (codes "/") then pattern ++ codes "**" else pattern

abbrev pub pattern_in_file : List ℕ → List ℕ → List ℕ → List ℕ
pattern_in_file home file pattern = with_stars (anchored file (expanded home pattern))

-- whether a rule matches a whole path
abbrev pub matches_rule : List ℕ → List ℕ → Bool
matches_rule rule path = is_some (decide (rules_of rule) (names_along path) false)

abbrev pub in_small : List ℕ → List ℕ
in_small text = map to_ascii_lowercase text

-- whether a condition in a file holds of the git folder; only `gitdir:` and `gitdir/i:` are known
abbrev pub holds_of : List ℕ → List ℕ → List ℕ → List ℕ → Bool
holds_of home file condition git =
    if bytes_eq (take 7 condition) (codes "gitdir:") then matches_rule (pattern_in_file home file (drop 7 condition)) git
    else (if bytes_eq (take 9 condition) (codes "gitdir/i:")
    then matches_rule (in_small (pattern_in_file home file (drop 9 condition))) (in_small git) else false)

abbrev pub holds : List ℕ → List ℕ → List ℕ → Option (List ℕ) → Bool
holds home file condition None = false
holds home file condition (Some git) = holds_of home file condition git

-- the path that a file includes, if the condition holds
abbrev pub included : User → List ℕ → Option (List ℕ) → List ℕ → Option (List ℕ)
included user file None path = Some (path_in_file user.home file path)
included user file (Some condition) path =
    if holds user.home file condition user.git then Some (path_in_file user.home file path) else None

-- ---- what the settings say

-- the last value of `core.excludesFile`, one more than the number of files that may still be read, and what could not be read
pub record FoundSettings : Type 0 where
  pub value : Option (List ℕ)
  pub files : ℕ
  pub unread : List (List ℕ)

-- one file less
abbrev pub counted : FoundSettings → FoundSettings
counted found = record found { files = found.files - 1 }

abbrev pub noted : List ℕ → FoundSettings → FoundSettings
noted path found = record found { unread = found.unread ++ path ∷ [] }

-- a file that is not read; after too many the first one alone is reported
abbrev pub refused : List ℕ → FoundSettings → FoundSettings
refused path found = if nat_eq found.files 0 then found else noted path (counted found)

-- a file of settings is read; it is also reported if it has a bad line
abbrev pub with_file : TreeItems → List ℕ → FoundSettings → FoundSettings
with_file items path found = record (counted found) {
  unread = found.unread ++ (unread_file items path ++ only_if (said_in (bytes_of_item (items path))).is_bad path);
}

-- what an included file adds, as `follow` says
abbrev pub after_included : (List ℕ → FoundSettings → FoundSettings) → Option (List ℕ) → FoundSettings → FoundSettings
after_included follow None found = found
after_included follow (Some path) found = follow path found

abbrev pub after_directive : (List ℕ → FoundSettings → FoundSettings) → User → List ℕ → Directive → FoundSettings → FoundSettings
after_directive follow user file (excludes path) found = record found { value = Some path }
after_directive follow user file (includes condition path) found = after_included follow (included user file condition path) found

abbrev pub after_directives : (List ℕ → FoundSettings → FoundSettings) → User → List ℕ → List Directive → FoundSettings → FoundSettings
after_directives follow user file [] found = found
after_directives follow user file (directive ∷ later) found =
    after_directives follow user file later (after_directive follow user file directive found)

-- What a file of settings adds. Files are included to a depth.
unfoldable pub after_file : TreeItems → User → ℕ → List ℕ → FoundSettings → FoundSettings
after_file items user zero path found = refused path found
after_file items user (suc depth) path found =
    if nat_le found.files 1 then refused path found
    else after_directives (after_file items user depth) user path (said_in (bytes_of_item (items path))).directives (with_file items path found)

-- The settings of a user: those of GIT_CONFIG_GLOBAL alone, or of `git/config` in the folder of settings, and then of
-- `.gitconfig` in the user's folder. A file includes others to a depth of 10.
abbrev pub after_global : TreeItems → User → Option (List ℕ) → FoundSettings → FoundSettings
after_global items user (Some path) found = after_file items user 11 path found
after_global items user None found =
    after_file items user 11 (entry_path user.home (codes ".gitconfig"))
    (after_file items user 11 (entry_path user.config (codes "git/config")) found)

abbrev pub after_settings : TreeItems → User → FoundSettings → FoundSettings
after_settings items user found = after_global items user user.global found

-- at most 1,000 files are read
abbrev pub found_of : TreeItems → User → FoundSettings
found_of items user = after_settings items user (record { value = None; files = 1001; unread = [] })

-- ---- the file of the rules

-- the file that is named; an empty value names none, and without a value it is `git/ignore` in the folder of settings
abbrev pub rules_file : List ℕ → List ℕ → Option (List ℕ) → Option (List ℕ)
rules_file home config None = Some (entry_path config (codes "git/ignore"))
rules_file home config (Some []) = None
rules_file home config (Some (b ∷ path)) = Some (expanded home (b ∷ path))

abbrev pub rules_from : TreeItems → Option (List ℕ) → List Rule
rules_from items None = []
rules_from items (Some path) = rules_of_item (items path)

abbrev pub unread_at : TreeItems → Option (List ℕ) → List (List ℕ)
unread_at items None = []
unread_at items (Some path) = unread_file items path

abbrev pub user_rules : TreeItems → User → List Rule
user_rules items user = rules_from items (rules_file user.home user.config (found_of items user).value)

-- The files that could not be read: of settings, in the order in which they are read, and that of the rules.
abbrev pub unread_settings : TreeItems → User → List (List ℕ)
unread_settings items user = (found_of items user).unread ++ unread_at items (rules_file user.home user.config (found_of items user).value)
