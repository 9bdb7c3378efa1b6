-- What `cs` does: what its arguments ask for, and what is printed for it. docs/PROMISES.md, "Searching a project".
use Rattle.std.specs.List.{flat_map}
use Rattle.std.specs.Prelude.{ℕ, ◌≡◌, ◌≢◌, ◌⊎◌, Bool, true, false, if◌then◌else◌, List, [], ◌∷◌, ◌++◌, codes, map, reverse, slice_index_or, string_bytes, Option, Some, None, option_map, IsSomeAnd}
use Rattle.cs_syntax.specs.Matching.{Tree}
use Rattle.cs_match.specs.SameLines.{MatchSameLines, MatchSameSpans}
use Rattle.cs_tree.specs.PathParts.{texts}
use Rattle.cs_tree.specs.Snapshot.{Item}
use Rattle.cs_tree.specs.StreamModels.{SourceModel}
use Rattle.cs_listing.specs.Choices.{Settings, plain_settings}
use Rattle.cs_listing.specs.Listing.{TreeItems}
use Rattle.cs_listing.specs.PathNames.{names_along}
use Rattle.cs_listing.specs.Rules.{Rule}
use Rattle.cs_listing.specs.GitFolders.{repository_above}
use Rattle.cs_listing.specs.UserRules.{User, user_of, user_rules}
use Rattle.cs_listing.specs.declared.types.TheConstants.{TYPES}
use Rattle.cs_listing.specs.declared.user_settings.UserFiles.{UserFiles}
use Rattle.cs_lines.specs.Findings.{found_tree}
use Rattle.cs_command.specs.Settings.{shown_in}
use Rattle.cs_command.specs.declared.help.TheConstants.{HELP}
use Rattle.cs_command.specs.declared.settings.Task.{Task}
use Rattle.cs_command.specs.declared.settings.Task.TheVariants as task
use Rattle.cs_command.specs.Requests.{IsRequest}
use Rattle.cs_command.specs.declared.request.Request.{Request}
use Rattle.cs_project.specs.Knowledge.{by_names}
use Rattle.cs_project.specs.Projects.{BeginsSearch, FindsInProject, ListsProject, SearchesProject}
use Rattle.cs_project.specs.Scopes.{AreFirstItemsOf, ForItems, InInput, are_several, no_bytes}
use Rattle.cs_project.specs.Searched.{BeginsNames}
use Rattle.cs_project.specs.declared.answer.TheConstants.{VERSION}
use Rattle.cs_project.specs.declared.file_search.FileSearch.{FileSearch}
use Rattle.cs_project.specs.declared.scope.Scope.{Scope}
use Rattle.cs_project.specs.declared.call.ProjectCall.{ProjectCall}

-- the settings of the user, for a search that begins in a folder: some are for its repository alone
abbrev pub user_in : TreeItems → List ℕ → UserFiles → User
user_in items folder files =
    record (user_of files None) { git = option_map (λ (found : List ℕ × List ℕ). found.1) (repository_above items (reverse (names_along folder))) }

-- the rules of the user for all repositories
abbrev pub rules_of_user : TreeItems → List ℕ → Option UserFiles → List Rule
rules_of_user items folder None = []
rules_of_user items folder (Some files) = user_rules items (user_in items folder files)

-- The choices without options: the rules of the user, and globs relative to the current folder.
abbrev pub HasBase : TreeItems → ProjectCall → Settings → Type 0
HasBase items call settings = settings ≡ plain_settings (rules_of_user items call.folder.now call.user) (names_along call.folder.now)

-- the words with these indices
abbrev pub words_at : List (List ℕ) → List ℕ → List (List ℕ)
words_at words indices = map (λ index. slice_index_or words index []) indices

-- Where a request looks: the files that its words name, with its choices, or those below the current folder.
abbrev pub IsScopeOf : ProjectCall → Request → Scope → Type 0
IsScopeOf call request scope = (scope.folder.now ≡ call.folder.now) × (scope.choices.now ≡ request.choices)
    × (texts scope.words.now ≡ words_at (map string_bytes call.words.now) request.paths.items)

-- A program for the pattern of a request.
abbrev pub IsProgramFor : Request → Tree → Type 0
IsProgramFor request program = IsSomeAnd request.pattern (λ t. MatchSameLines program t × MatchSameSpans program t)

-- A search for the pattern of a request, with its options; no line is marked yet.
pub record IsSearchFor (items : TreeItems) (call : ProjectCall) (request : Request) (scope : Scope) (search : FileSearch) : Type 0 where
  pub lines : IsProgramFor request search.search.matcher.tree
  pub spans : IsSomeAnd (found_tree search.search) (IsProgramFor request)
  pub whole : search.search.whole ≡ request.switches.pattern.whole
  pub options : search.options ≡ shown_in request.switches request.limits request.colour (record {
    terminal = call.terminal;
    several = are_several items call.folder.now (texts scope.words.now);
  })
  pub binary : search.binary ≡ request.switches.files.binary
  pub marked : search.marked ≡ false

-- a NUL or a newline ends a name
abbrev pub name_end : Request → List ℕ
name_end request = (if request.switches.form.nul then 0 else 10) ∷ []

module _ (items : TreeItems) (call : ProjectCall) (request : Request) where
  -- This holds of the search that is asked for.
  abbrev pub ForSearch : (Scope → FileSearch → Type 0) → Type 0
  ForSearch P = (scope : Scope) × (search : FileSearch) × IsScopeOf call request scope
      × IsSearchFor items call request scope search × P scope search

  -- the names that are asked for were printed
  abbrev pub ListsFor : List ℕ → List ℕ → ℕ → Type 0
  ListsFor given later status =
      (scope : Scope) × IsScopeOf call request scope × ListsProject items scope (name_end request) given later status

  -- what was printed begins the names that are asked for
  abbrev pub BeginsList : List ℕ → List ℕ → Type 0
  BeginsList given later = (scope : Scope) × IsScopeOf call request scope
      × ForItems (AreFirstItemsOf items no_bytes scope) (λ named. BeginsNames (name_end request) named given later)

-- `Knows` says of a search that what is known of the files holds for it, and `input` is the standard input.
module _ (Knows : FileSearch → Type 0) (items : TreeItems) (input : Item) (call : ProjectCall) (request : Request) where
  -- The search that is asked for was done. With -q only the status says what it found.
  abbrev pub SearchesFor : Bool → List ℕ → List ℕ → ℕ → Type 0
  SearchesFor false given later status = status ≢ 2 → ForSearch items call request
      (λ scope search. Knows search → SearchesProject items input scope search given later status)
  SearchesFor true given later status = (later ≡ given) × (status ≢ 2 → ForSearch items call request
      (λ scope search. Knows (by_names search) → FindsInProject items input scope search status))

-- What is known has to hold for a search only if it is read: with --no-state it is not.
abbrev pub IfRead : Request → (FileSearch → Type 0) → FileSearch → Type 0
IfRead request Knows search = request.switches.state.read ≡ true → Knows search

-- the types of files, each with its globs
abbrev pub types_printed : List (List ℕ × List ℕ) → List ℕ
types_printed types = flat_map (λ row. row.0 ++ (codes ": " ++ (row.1 ++ codes "\n"))) types

-- what is printed where nothing is searched
abbrev pub text_of : Task → List ℕ
text_of task.Help = HELP.now
text_of task.Version = VERSION.now
text_of task.Types = types_printed (map (λ row. (row.0.now, row.1.now)) TYPES)
text_of _ = []

module _ (Knows : FileSearch → Type 0) (items : TreeItems) (input : Item) (call : ProjectCall) (request : Request) where
  -- With --update nothing is printed.
  abbrev pub AnswersTask : Task → List ℕ → List ℕ → ℕ → Type 0
  AnswersTask task.Search given later status =
      SearchesFor (IfRead request Knows) items input call request request.switches.silent given later status
  AnswersTask task.Files given later status = ListsFor items call request given later status
  AnswersTask task.Update given later status = (later ≡ given) × (status ≢ 2 → status ≡ 0)
  AnswersTask task given later status = (later ≡ given ++ text_of task) × (status ≡ 0)

  abbrev pub AnswersRequest : List ℕ → List ℕ → ℕ → Type 0
  AnswersRequest given later status = AnswersTask request.switches.task given later status

-- What was printed begins what the search that is asked for prints, also after an error. The input may have no model.
module _ (Knows : FileSearch → Type 0) (items : TreeItems) (input : Option SourceModel) (call : ProjectCall) (request : Request) where
  abbrev pub BeginsFor : Bool → List ℕ → List ℕ → Type 0
  BeginsFor false given later = (later ≡ given) ⊎ InInput input (λ item. ForSearch items call request
      (λ scope search. Knows search → BeginsSearch items item scope search given later))
  BeginsFor true given later = later ≡ given

-- what was printed begins what a task prints
module _ (Knows : FileSearch → Type 0) (items : TreeItems) (input : Option SourceModel) (call : ProjectCall) (request : Request) where
  abbrev pub BeginsTask : Task → List ℕ → List ℕ → Type 0
  BeginsTask task.Search given later =
      BeginsFor (IfRead request Knows) items input call request request.switches.silent given later
  BeginsTask task.Files given later = (later ≡ given) ⊎ BeginsList items call request given later
  BeginsTask task.Update given later = later ≡ given
  BeginsTask task given later = later ≡ given ++ text_of task

-- Unless the status is 2, the arguments ask for something, and this was done.
abbrev pub DoesProject : (FileSearch → Type 0) → TreeItems → Item → ProjectCall → List ℕ → List ℕ → ℕ → Type 0
DoesProject Knows items input call given later status = status ≢ 2 → (base : Settings) × (request : Request) × HasBase items call base
    × IsRequest (map string_bytes call.words.now) base request × AnswersRequest Knows items input call request given later status

-- Nothing was printed, or the arguments ask for something, and what was printed begins it, also after an error.
abbrev pub BeginsProject : (FileSearch → Type 0) → TreeItems → Option SourceModel → ProjectCall → List ℕ → List ℕ → Type 0
BeginsProject Knows items input call given later = (later ≡ given) ⊎ ((base : Settings) × (request : Request) × HasBase items call base
    × IsRequest (map string_bytes call.words.now) base request × BeginsTask Knows items input call request request.switches.task given later)
