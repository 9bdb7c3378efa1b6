-- What the user chooses of the files of a project, by the options of a search. docs/PROMISES.md, "Rules".
use Rattle.std.specs.Prelude.{ℕ, ◌≡◌, ◌++◌, ◌+◌, ◌-◌, ◌^◌, min, Bool, true, false, not, ◌&&◌, nat_le, nat_lt, if◌then◌else◌, List, [], ◌∷◌, length, Option, Some, None, option_map, unwrap_or, bytes_eq}
use Rattle.std.specs.List.{list_any}
use Rattle.cs_listing.specs.declared.rules.Decision.{Decision}
use Rattle.cs_listing.specs.declared.rules.Decision.TheVariants.{Ignore, TakeBack}
use Rattle.cs_listing.specs.Rules.{Rule, or_else, decide}
use Rattle.cs_listing.specs.RuleFiles.{rules_saying}
use Rattle.cs_listing.specs.Braces.{AddsGlobs, globs_in}

-- what the tree does not say
pub record Settings : Type 0 where
  -- the rules of the user, for all repositories
  pub global : List Rule
  -- whether names that begin with a dot count outside of repositories
  pub takes_hidden : Bool
  -- whether the rule files count for nothing
  pub takes_ignored : Bool
  -- the most names of a path
  pub most_names : ℕ
  -- the globs, and the names of the folder that they are relative to
  pub globs : List Rule
  pub folder : List (List ℕ)
  -- the globs of names that types stand for
  pub types : List Rule

-- Without any choice: rule files count, and paths may be as long as a number.
abbrev pub plain_settings : List Rule → List (List ℕ) → Settings
plain_settings user folder = record {
  global = user;
  takes_hidden = false;
  takes_ignored = false;
  most_names = 2 ^ 64 - 1;
  globs = [];
  folder = folder;
  types = [];
}

-- a path has at most so many names more than the folder where a walk begins has
abbrev pub within_depth : Settings → ℕ → Settings
within_depth settings names = record settings { most_names = min (names + settings.most_names) (2 ^ 64 - 1) }

-- ---- globs, which are rules with the meaning turned round: they take files, and with `!` leave them out

abbrev pub is_ignore : Decision → Bool
is_ignore Ignore = true
is_ignore TakeBack = false

-- whether a glob takes files
abbrev pub takes : Rule → Bool
takes glob = is_ignore glob.decision

-- Whether globs take a path: the last one says so that applies to it. A file to which none applies is left out, if some glob
-- takes files.
abbrev pub choice_of : List Rule → Bool → List (List ℕ) → Option Bool
choice_of globs is_folder path = or_else (option_map is_ignore (decide globs path is_folder))
    (if not is_folder && list_any takes globs then Some false else None)

-- what follows a prefix of a path
abbrev pub after : List (List ℕ) → List (List ℕ) → Option (List (List ℕ))
after [] path = Some path
after (first ∷ prefix) [] = None
after (first ∷ prefix) (name ∷ path) = if bytes_eq first name then after prefix path else None

-- a path below a folder, or from `/` on if it is not below it
abbrev pub relative_to : List (List ℕ) → List (List ℕ) → List (List ℕ)
relative_to folder path = unwrap_or (after folder path) path

-- whether the globs take a path
abbrev pub glob_choice : Settings → Bool → List (List ℕ) → Option Bool
glob_choice settings is_folder path = choice_of settings.globs is_folder (relative_to settings.folder path)

-- whether the types take a name; they say nothing of folders
abbrev pub type_choice : Settings → Bool → List ℕ → Option Bool
type_choice settings is_folder name = if is_folder then None else choice_of settings.types false (name ∷ [])

-- The globs of a text with braces are added, if its braces match.
abbrev pub AddsGlob : List ℕ → Bool → Settings → Settings → Type 0
AddsGlob text is_glob old new = AddsGlobs (globs_in text) is_glob old.globs new.globs × (new ≡ record old { globs = new.globs })

-- The globs of a type are added, in the order of their text; `is_left_out` says that they leave files out.
abbrev pub AddsType : Bool → Bool → Settings → Settings → Type 0
AddsType false is_left_out old new = new ≡ old
AddsType true is_left_out old new = (globs : List ℕ)
    × (new ≡ record old { types = old.types ++ rules_saying (if is_left_out then TakeBack else Ignore) globs })

-- ---- depth

-- whether a path has more names than the user wants, or is a folder whose entries have
abbrev pub is_too_deep : ℕ → Bool → List (List ℕ) → Bool
is_too_deep most is_folder path = if is_folder then nat_le most (length path) else nat_lt most (length path)
