-- What is done for a request.
use Rattle.std.proofs.Common.{◌≡◌, ◌≢◌, map, ℕ, Bool, true, false, ◌&&◌, List, Option, Some, None, inl, inr, refl, sym, subst, ◌∙◌}
use Rattle.std.proofs.lemmas.Bool.{false≢true}
use Rattle.std.specs.Prelude.{◌⊎◌, Result, Ok, Err, IfOk, IsSomeAnd, string_bytes}
use Rattle.cs_syntax.specs.Matching.{Tree}
use Rattle.cs_match.specs.SameLines.{MatchSameLines, MatchSameSpans}
use Rattle.cs_tree.specs.Snapshot.{Item, Snapshot, item_at}
use Rattle.cs_tree.specs.StreamModels.{SourceModel}
use Rattle.cs_lines.specs.Findings.{StopsBySpans, has_stopped}
use Rattle.cs_listing.specs.Choices.{Settings}
use Rattle.cs_listing.specs.FolderReads.{InTree}
use Rattle.cs_listing.specs.Listing.{TreeItems}
use Rattle.cs_listing.specs.Stamps.{Stamps}
use Rattle.cs_command.specs.Requests.{IsRequest}
use Rattle.cs_command.specs.declared.request.Request.{Request}
use Rattle.cs_project.specs.Calls.{AnswersRequest, BeginsFor, BeginsList, BeginsProject, BeginsTask, DoesProject, HasBase, IfRead, IsScopeOf, IsSearchFor, ListsFor, SearchesFor, name_end}
use Rattle.cs_project.specs.Knowledge.{HoldsFor, HoldsIfAsked, SearchedTree, asked_as, by_names}
use Rattle.cs_project.specs.Projects.{FindsInProject, ListsProject, SearchesProject}
use Rattle.cs_project.specs.Scopes.{AreFirstItemsOf, ForItems, InInput, no_bytes, unread}
use Rattle.cs_project.specs.Searched.{BeginsNames, is_cut}
use Rattle.cs_project.specs.Visits.{BeginsItems, may_cut}
use Rattle.cs_project.specs.declared.call.ProjectCall.{ProjectCall}
use Rattle.cs_project.specs.declared.file_search.FileSearch.{FileSearch}
use Rattle.cs_project.specs.declared.knowledge.AskedSearch.{AskedSearch}
use Rattle.cs_project.specs.declared.scope.Scope.{Scope}
use Rattle.cs_project.proofs.ScopeLemmas.{if_input}
use Rattle.cs_project.proofs.TextLemmas.{begun_as}
use Rattle.cs_project.proofs.VisitorLemmas.{in_any, in_same}

pub lists_for : {E : Type 0} (snapshot : Option Snapshot) (call : ProjectCall) (request : Request) (scope : Scope)
    (end given later : List ℕ) (result : Result ℕ E) → IsScopeOf call request scope → end ≡ name_end request →
    IfOk result (λ status. InTree snapshot (λ items. ListsProject items scope end given later status)) →
    IfOk result (λ status. InTree snapshot (λ items. ListsFor items call request given later status))
lists_for snapshot call request scope end given later (Err fault) is ends lists = tt
lists_for None call request scope end given later (Ok status) is ends lists = tt
lists_for (Some tree) call request scope end given later (Ok status) is ends lists =
    (scope, is, subst (λ e. ListsProject (item_at tree) scope e given later status) ends lists)

pub list_begun : (snapshot now : Option Snapshot) (call : ProjectCall) (request : Request) (scope : Scope) (end given later : List ℕ) →
    now ≡ snapshot → IsScopeOf call request scope → end ≡ name_end request →
    InTree now (λ items. ForItems (AreFirstItemsOf items no_bytes scope) (λ named. BeginsNames end named given later)) →
    InTree snapshot (λ items. (later ≡ given) ⊎ BeginsList items call request given later)
list_begun snapshot now call request scope end given later same is ends has = in_same snapshot now
    (λ items. ForItems (AreFirstItemsOf items no_bytes scope) (λ named. BeginsNames end named given later))
    (λ items. (later ≡ given) ⊎ BeginsList items call request given later) same
    (λ items some. inr (scope, is, subst (λ e. ForItems (AreFirstItemsOf items no_bytes scope) (λ named. BeginsNames e named given later)) ends some)) has

-- nothing was printed
pub none_begun : (snapshot : Option Snapshot) (P : TreeItems → Type 0) (given : List ℕ) → InTree snapshot (λ items. (given ≡ given) ⊎ P items)
none_begun snapshot P given = in_any snapshot (λ items. (given ≡ given) ⊎ P items) (λ items. inl refl)

-- ---- what is known

-- what is said if more is known
trusted : (Knows Trusted : FileSearch → Type 0) → ((search : FileSearch) → Trusted search → Knows search) →
    (items : TreeItems) (input : Item) (call : ProjectCall) (request : Request) (silent : Bool) (given later : List ℕ) (status : ℕ) →
    SearchesFor Knows items input call request silent given later status →
    SearchesFor Trusted items input call request silent given later status
trusted Knows Trusted holds items input call request false given later status says = λ right.
    let all = says right in (all.0, all.1, all.2, all.3, λ known. all.4 (holds all.1 known))
trusted Knows Trusted holds items input call request true given later status says = (
  says.0,
  λ right.
      let all = says.1 right in (all.0, all.1, all.2, all.3, λ known. all.4 (holds (by_names all.1) known)),
)

trusted_in : (Knows Trusted : FileSearch → Type 0) → ((search : FileSearch) → Trusted search → Knows search) →
    (snapshot : Option Snapshot) (input : Item) (call : ProjectCall) (request : Request) (silent : Bool) (given later : List ℕ) (status : ℕ) →
    InTree snapshot (λ items. SearchesFor Knows items input call request silent given later status) →
    InTree snapshot (λ items. SearchesFor Trusted items input call request silent given later status)
trusted_in Knows Trusted holds None input call request silent given later status says = tt
trusted_in Knows Trusted holds (Some tree) input call request silent given later status says =
    trusted Knows Trusted holds (item_at tree) input call request silent given later status says

-- a search over what is read, or over nothing
pub searches_if_read : {E : Type 0} (Own Given : SearchedTree → Type 0) (stamps : Snapshot → Stamps) (snapshot : Option Snapshot)
    (model : Option SourceModel) (call : ProjectCall) (request : Request) (silent : Bool) (given later : List ℕ) (result : Result ℕ E) →
    ((search : FileSearch) → IfRead request (HoldsFor Given stamps snapshot) search → HoldsFor Own stamps snapshot search) →
    IfOk result (λ status. InInput model (λ input. InTree snapshot
    (λ items. SearchesFor (HoldsFor Own stamps snapshot) items input call request silent given later status))) →
    IfOk result (λ status. InInput model (λ input. InTree snapshot
    (λ items. SearchesFor (IfRead request (HoldsFor Given stamps snapshot)) items input call request silent given later status)))
searches_if_read Own Given stamps snapshot model call request silent given later (Err fault) holds says = tt
searches_if_read Own Given stamps snapshot model call request silent given later (Ok status) holds says =
    if_input (unread false model) (λ input. trusted_in (HoldsFor Own stamps snapshot) (IfRead request (HoldsFor Given stamps snapshot)) holds
    snapshot input call request silent given later status) says

begun_trusted : (Knows Trusted : FileSearch → Type 0) → ((search : FileSearch) → Trusted search → Knows search) →
    (items : TreeItems) (model : Option SourceModel) (call : ProjectCall) (request : Request) (silent : Bool) (given later : List ℕ) →
    BeginsFor Knows items model call request silent given later → BeginsFor Trusted items model call request silent given later
begun_trusted Knows Trusted holds items model call request true given later none = none
begun_trusted Knows Trusted holds items model call request false given later (inl none) = inl none
begun_trusted Knows Trusted holds items model call request false given later (inr some) =
    inr (if_input (unread false model) (λ input all. (all.0, all.1, all.2, all.3, λ known. all.4 (holds all.1 known))) some)

pub begun_if_read : (Knows Trusted : FileSearch → Type 0) → ((search : FileSearch) → Trusted search → Knows search) →
    (snapshot : Option Snapshot) (model : Option SourceModel) (call : ProjectCall) (request : Request) (silent : Bool) (given later : List ℕ) →
    InTree snapshot (λ items. BeginsFor Knows items model call request silent given later) →
    InTree snapshot (λ items. BeginsFor Trusted items model call request silent given later)
begun_if_read Knows Trusted holds snapshot model call request silent given later has = in_same snapshot snapshot
    (λ items. BeginsFor Knows items model call request silent given later) (λ items. BeginsFor Trusted items model call request silent given later) refl
    (λ items. begun_trusted Knows Trusted holds items model call request silent given later) has

-- nothing is known
pub nothing_known : (stamps : Snapshot → Stamps) (snapshot : Option Snapshot) (search : FileSearch) → HoldsFor (λ _. Unit {0}) stamps snapshot search
nothing_known stamps None search = tt
nothing_known stamps (Some tree) search = λ finding found. tt

still_asked : (Old New : SearchedTree → Type 0) (stamps : Snapshot → Stamps) (snapshot : Option Snapshot) (asked : AskedSearch)
    (search : FileSearch) → HoldsIfAsked asked Old New → search.options ≡ asked.options → search.binary ≡ asked.binary →
    InTree snapshot (λ items. MatchSameLines search.search.matcher.tree asked.pattern.now) →
    HoldsFor Old stamps snapshot search → HoldsFor New stamps snapshot search
still_asked Old New stamps None asked search held options binary lines known = tt
still_asked Old New stamps (Some tree) asked search held options binary lines known = λ finding found. held (record {
  options = search.options;
  binary = search.binary;
  finding = finding;
  items = item_at tree;
  stamps = stamps tree;
}) (record { search = search.search; options = options; binary = binary; found = found; lines = lines }) (known finding found)

same_lines : (snapshot : Option Snapshot) (call : ProjectCall) (request : Request) (scope : Scope) (search : FileSearch) (pattern : Tree) →
    request.pattern ≡ Some pattern → InTree snapshot (λ items. IsSearchFor items call request scope search) →
    InTree snapshot (λ items. MatchSameLines search.search.matcher.tree pattern)
same_lines None call request scope search pattern is for = tt
same_lines (Some tree) call request scope search pattern is for =
    (subst (λ p. IsSomeAnd p (λ t. MatchSameLines search.search.matcher.tree t × MatchSameSpans search.search.matcher.tree t)) is for.lines).0

-- what is known still holds for the search that it was asked for
pub asked_for : (Old New : SearchedTree → Type 0) (stamps : Snapshot → Stamps) (snapshot now : Option Snapshot) (call : ProjectCall)
    (request : Request) (scope : Scope) (search : FileSearch) (asked : AskedSearch) (silent : Bool) → now ≡ snapshot →
    InTree snapshot (λ items. IsSearchFor items call request scope search) → request.pattern ≡ Some asked.pattern.now →
    asked.options ≡ (asked_as silent search).options → asked.binary ≡ search.binary → HoldsIfAsked asked Old New →
    HoldsFor Old stamps now (asked_as silent search) → HoldsFor New stamps now (asked_as silent search)
asked_for Old New stamps snapshot now call request scope search asked true same for is options binary held known =
    still_asked Old New stamps now asked (by_names search) held (sym options) (sym binary)
    (subst (λ s. InTree s (λ items. MatchSameLines search.search.matcher.tree asked.pattern.now)) (sym same)
    (same_lines snapshot call request scope search asked.pattern.now is for)) known
asked_for Old New stamps snapshot now call request scope search asked false same for is options binary held known =
    still_asked Old New stamps now asked search held (sym options) (sym binary)
    (subst (λ s. InTree s (λ items. MatchSameLines search.search.matcher.tree asked.pattern.now)) (sym same)
    (same_lines snapshot call request scope search asked.pattern.now is for)) known

-- what is known, and the stamps of a tree
module _ (Holds : SearchedTree → Type 0) (stamps : Snapshot → Stamps) where
  search_done : (snapshot now : Option Snapshot) (call : ProjectCall) (request : Request) (scope : Scope) (search : FileSearch)
      (given later : List ℕ) (status : ℕ) → now ≡ snapshot → IsScopeOf call request scope →
      InTree snapshot (λ items. IsSearchFor items call request scope search) → (input : Item) →
      (HoldsFor Holds stamps now search → InTree now (λ items. SearchesProject items input scope search given later status)) →
      InTree snapshot (λ items. SearchesFor (HoldsFor Holds stamps snapshot) items input call request false given later status)
  search_done None now call request scope search given later status same is for input searches = tt
  search_done (Some tree) now call request scope search given later status same is for input searches = λ right. (
    scope,
    search,
    is,
    for,
    λ known. subst (λ s. InTree s (λ items. SearchesProject items input scope search given later status)) same
        (searches (subst (λ s. HoldsFor Holds stamps s search) (sym same) known)),
  )

  pub searches_for : {E : Type 0} (snapshot now : Option Snapshot) (model : Option SourceModel) (call : ProjectCall) (request : Request)
      (scope : Scope) (search : FileSearch) (given later : List ℕ) (result : Result ℕ E) → now ≡ snapshot → IsScopeOf call request scope →
      InTree snapshot (λ items. IsSearchFor items call request scope search) →
      IfOk result (λ status. InInput model (λ input. HoldsFor Holds stamps now search →
      InTree now (λ items. SearchesProject items input scope search given later status))) →
      IfOk result (λ status. InInput model (λ input. InTree snapshot
      (λ items. SearchesFor (HoldsFor Holds stamps snapshot) items input call request false given later status)))
  searches_for snapshot now model call request scope search given later (Err fault) same is for searches = tt
  searches_for snapshot now model call request scope search given later (Ok status) same is for searches =
      if_input (unread false model) (search_done snapshot now call request scope search given later status same is for) searches

  -- of a search that has begun with its budget
  pub begun_for : (snapshot now : Option Snapshot) (model : Option SourceModel) (call : ProjectCall) (request : Request) (scope : Scope)
      (old new : FileSearch) (given later : List ℕ) → now ≡ snapshot → IsScopeOf call request scope →
      InTree snapshot (λ items. IsSearchFor items call request scope old) → has_stopped old.search ≡ false →
      StopsBySpans old.options.form old.search new.search →
      InInput model (λ input. HoldsFor Holds stamps now old → InTree now (λ items. ForItems (AreFirstItemsOf items input scope)
      (λ named. BeginsItems old new named given later))) →
      InTree snapshot (λ items. BeginsFor (HoldsFor Holds stamps snapshot) items model call request false given later)
  begun_for None now model call request scope old new given later same is for begun stops has = tt
  begun_for (Some tree) now model call request scope old new given later same is for begun stops has =
      inr (if_input (unread false model) (λ input says. (
        scope,
        old,
        is,
        for,
        λ known plain.
            let some = (subst (λ s. InTree s (λ items. ForItems (AreFirstItemsOf items input scope) (λ named. BeginsItems old new named given later))) same
            (says (subst (λ s. HoldsFor Holds stamps s old) (sym same) known))) in (
              some.0,
              some.1,
              λ finding found. begun_as old.options old.binary finding (may_cut new) is_cut
                  (λ item. cut_if new.reports.wrong (is_cut item)) some.0 old.marked given later (some.2 (stops plain ∙ begun) finding found),
            ),
      )) has)
    where
      cut_if : (wrong cut : Bool) → (wrong && cut) ≡ true → cut ≡ true
      cut_if true cut e = e
      cut_if false cut e = absurd (false≢true e)

  pub project_begun : (snapshot now : Option Snapshot) (model : Option SourceModel) (call : ProjectCall) (base : Settings) (request : Request)
      (given later : List ℕ) → now ≡ snapshot → InTree snapshot (λ items. HasBase items call base) →
      IsRequest (map string_bytes call.words.now) base request →
      InTree now (λ items. BeginsTask (HoldsFor Holds stamps now) items model call request request.switches.task given later) →
      InTree snapshot (λ items. BeginsProject (HoldsFor Holds stamps snapshot) items model call given later)
  project_begun None now model call base request given later same has is begins = tt
  project_begun (Some tree) now model call base request given later same has is begins = inr (
    base,
    request,
    has,
    is,
    subst (λ s. InTree s (λ items. BeginsTask (HoldsFor Holds stamps s) items model call request request.switches.task given later)) same begins,
  )

  find_done : (snapshot now : Option Snapshot) (call : ProjectCall) (request : Request) (scope : Scope) (search : FileSearch)
      (given later : List ℕ) (status : ℕ) → now ≡ snapshot → later ≡ given → IsScopeOf call request scope →
      InTree snapshot (λ items. IsSearchFor items call request scope search) → (input : Item) →
      (HoldsFor Holds stamps now (by_names search) → InTree now (λ items. FindsInProject items input scope search status)) →
      InTree snapshot (λ items. SearchesFor (HoldsFor Holds stamps snapshot) items input call request true given later status)
  find_done None now call request scope search given later status same nothing is for input finds = tt
  find_done (Some tree) now call request scope search given later status same nothing is for input finds = (
    nothing,
    λ right. (
      scope,
      search,
      is,
      for,
      λ known. subst (λ s. InTree s (λ items. FindsInProject items input scope search status)) same
          (finds (subst (λ s. HoldsFor Holds stamps s (by_names search)) (sym same) known)),
    ),
  )

  pub finds_for : {E : Type 0} (snapshot now : Option Snapshot) (model : Option SourceModel) (call : ProjectCall) (request : Request)
      (scope : Scope) (search : FileSearch) (given later : List ℕ) (result : Result ℕ E) → now ≡ snapshot → later ≡ given →
      IsScopeOf call request scope → InTree snapshot (λ items. IsSearchFor items call request scope search) →
      IfOk result (λ status. InInput model (λ input. HoldsFor Holds stamps now (by_names search) →
      InTree now (λ items. FindsInProject items input scope search status))) →
      IfOk result (λ status. InInput model (λ input. InTree snapshot
      (λ items. SearchesFor (HoldsFor Holds stamps snapshot) items input call request true given later status)))
  finds_for snapshot now model call request scope search given later (Err fault) same nothing is for finds = tt
  finds_for snapshot now model call request scope search given later (Ok status) same nothing is for finds =
      if_input (unread false model) (find_done snapshot now call request scope search given later status same nothing is for) finds

  pub project_done : (snapshot now : Option Snapshot) (input : Item) (call : ProjectCall) (base : Settings) (request : Request)
      (given later : List ℕ) (status result : ℕ) → (result ≢ 2 → result ≡ status) → now ≡ snapshot →
      InTree snapshot (λ items. HasBase items call base) → IsRequest (map string_bytes call.words.now) base request →
      InTree now (λ items. AnswersRequest (HoldsFor Holds stamps now) items input call request given later status) →
      InTree snapshot (λ items. DoesProject (HoldsFor Holds stamps snapshot) items input call given later result)
  project_done None now input call base request given later status result right same has is answers = tt
  project_done (Some tree) now input call base request given later status result right same has is answers = λ differs. (
    base,
    request,
    has,
    is,
    subst (λ n. AnswersRequest (HoldsFor Holds stamps (Some tree)) (item_at tree) input call request given later n) (sym (right differs))
        (subst (λ s. InTree s (λ items. AnswersRequest (HoldsFor Holds stamps s) items input call request given later status)) same answers),
  )
