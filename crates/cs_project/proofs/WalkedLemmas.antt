-- Files that a walk has given so far.
use Rattle.std.proofs.Common.{◌≡◌, ℕ, ◌+◌, ◌*◌, Bool, true, false, List, [], ◌∷◌, ◌++◌, map, length, Option, Some, None, Result, Ok, Err, refl, sym, ap, subst, ◌∙◌}
use Rattle.std.specs.Prelude.{OnOk, string_bytes}
use Rattle.std.proofs.lemmas.Bool.{false≢true}
use Rattle.std.proofs.lemmas.List.{map-append}
use Rattle.cs_tree.specs.Snapshot.{Snapshot, item_at}
use Rattle.cs_listing.specs.FolderReads.{InTree}
use Rattle.cs_listing.specs.Choices.{Settings, within_depth}
use Rattle.cs_listing.specs.Listing.{TreeItems, is_found}
use Rattle.cs_listing.specs.PathNames.{names_along}
use Rattle.cs_listing.specs.Stamps.{AreStamped, GivesStamped, InStamps, Stamps}
use Rattle.cs_listing.specs.Walk.{TakesFirst, GivesAll, GivesInOrder, Gives, IsWalkIn, is_left, path_text, walk_weight, unread_in}
use Rattle.cs_listing.specs.declared.walk.File.{File}
use Rattle.cs_listing.specs.declared.walk.Found.{Found}
use Rattle.cs_listing.specs.declared.walk.Found.TheVariants as found
use Rattle.cs_listing.specs.declared.walk.Walk.{Walk}
use Rattle.cs_project.specs.Names.{name_below, name_of, with_slash}
use Rattle.cs_project.specs.Scopes.{AreFilesBelow, AreFirstBelow, GivesSome, file_below}
use Rattle.cs_project.specs.Knowledge.{SearchedTree}
use Rattle.cs_project.specs.Searched.{NamedItem}
use Rattle.cs_project.specs.Visits.{Follows, VisitsOne, VisitsSome, met_item}
use Rattle.cs_project.specs.Walked.{AreFirstLeft, AreLeft, GivesFile, GivesStampedFile, WalksFolder, named_item}
use Rattle.cs_project.specs.declared.walks.FolderWalk.{FolderWalk}
use Rattle.cs_project.specs.declared.walks.NamedPath.{NamedPath}
use Rattle.cs_project.proofs.VisitorLemmas.{file_visited, in_same, none_more, visits_as}

-- ---- sets of files that are left

-- These files were taken, each the first of those that were left.
abbrev pub Takes : (List (List ℕ) → Bool) → List (List (List ℕ)) → (List (List ℕ) → Bool) → Type 0
Takes left [] later = (path : List (List ℕ)) → later path ≡ left path
Takes left (path ∷ paths) later = (next : List (List ℕ) → Bool) × TakesFirst left next path × Takes next paths later

-- one more file
takes_more : (left mid later : List (List ℕ) → Bool) (paths : List (List (List ℕ))) (path : List (List ℕ)) →
    Takes left paths mid → TakesFirst mid later path → Takes left (paths ++ path ∷ []) later
takes_more left mid later [] path takes first = (
  later,
  record {
    taken = sym (takes path) ∙ first.taken;
    kept = λ other differs. first.kept other differs ∙ takes other;
    first = first.first;
  },
  λ other. refl,
)
takes_more left mid later (one ∷ paths) path takes first =
    (takes.0, takes.1, takes_more takes.0 mid later paths path takes.2 first)

-- none are left
takes_all : (left mid : List (List ℕ) → Bool) (paths : List (List (List ℕ))) → Takes left paths mid →
    ((path : List (List ℕ)) → mid path ≡ false) → GivesAll left paths
takes_all left mid [] takes none = λ path. sym (takes path) ∙ none path
takes_all left mid (one ∷ paths) takes none = (takes.0, takes.1, takes_all takes.0 mid paths takes.2 none)

-- the first of those that are left were taken
takes_some : (left later : List (List ℕ) → Bool) (paths : List (List (List ℕ))) → Takes left paths later → GivesSome left paths
takes_some left later [] takes = tt
takes_some left later (one ∷ paths) takes = (takes.0, takes.1, takes_some takes.0 later paths takes.2)

-- the first of the same files
first_same : (left right later : List (List ℕ) → Bool) (path : List (List ℕ)) → ((path : List (List ℕ)) → right path ≡ left path) →
    TakesFirst left later path → TakesFirst right later path
first_same left right later path same first = record {
  taken = same path ∙ first.taken;
  kept = λ other differs. first.kept other differs ∙ sym (same other);
  first = first.first;
}

-- the same files
gives_same : (left right : List (List ℕ) → Bool) (paths : List (List (List ℕ))) → ((path : List (List ℕ)) → right path ≡ left path) →
    GivesAll left paths → GivesAll right paths
gives_same left right [] same none = λ path. same path ∙ none path
gives_same left right (one ∷ paths) same gives = (gives.0, first_same left right gives.0 one same gives.1, gives.2)

some_same : (left right : List (List ℕ) → Bool) (paths : List (List (List ℕ))) → ((path : List (List ℕ)) → right path ≡ left path) →
    GivesSome left paths → GivesSome right paths
some_same left right [] same gives = tt
some_same left right (one ∷ paths) same gives = (gives.0, first_same left right gives.0 one same gives.1, gives.2)

-- ---- the next file of a walk

-- the walk is still one of the tree, with the same files to come
abbrev pub StillLeft : TreeItems → Walk → Walk → Type 0
StillLeft items old new = IsWalkIn items new × ((path : List (List ℕ)) → is_left new items path ≡ is_left old items path)

abbrev pub HasLeft : Option Snapshot → Walk → Walk → Type 0
HasLeft snapshot first walk = InTree snapshot (λ items. IsWalkIn items first → StillLeft items first walk)

-- what a call of `next` gives
abbrev pub NextGives : Option Snapshot → Walk → Walk → Option Found → Type 0
NextGives snapshot walk next given = InTree snapshot (λ items. IsWalkIn items walk → Gives items walk next given)

-- what a walk of a folder gives
abbrev pub GivesIn : Option Snapshot → FolderWalk → FolderWalk → Option NamedPath → Type 0
GivesIn snapshot old new file = InTree snapshot (λ items. IsWalkIn items old.walk → GivesFile items old new file)

pub file_given : (snapshot now : Option Snapshot) (first walk next : FolderWalk) (one : File) (named : NamedPath) → now ≡ snapshot →
    HasLeft snapshot first.walk walk.walk → NextGives now walk.walk next.walk (Some (found.File one)) →
    named.path ≡ one.path → string_bytes named.name ≡ name_of first.form (string_bytes one.path) →
    GivesIn snapshot first next (Some named)
file_given None now first walk next one named same has gives at is = tt
file_given (Some tree) now first walk next one named same has gives at is = λ within.
    let items = item_at tree in
    let before = has within in
    let given = (subst (λ s. NextGives s walk.walk next.walk (Some (found.File one))) same gives) before.0 in (
      given.0,
      (
        given.1.0,
        ap string_bytes at ∙ given.1.1,
        is ∙ ap (λ p. name_of first.form (string_bytes p)) (sym at),
        first_same (is_left walk.walk items) (is_left first.walk items) (is_left next.walk items) given.1.0 (λ path. sym (before.1 path)) given.1.2,
      ),
    )

-- ---- the stamps of the files

module _ (stamps : Snapshot → Stamps) where
  -- the walk still gives the stamps of the tree
  abbrev pub StillStamped : Option Snapshot → Walk → Walk → Type 0
  StillStamped snapshot first walk = InStamps snapshot stamps (λ s. AreStamped s first → AreStamped s walk)

  pub stamped_more : (snapshot now : Option Snapshot) (first walk next : Walk) (given : Option Found) → now ≡ snapshot →
      StillStamped snapshot first walk → InStamps now stamps (λ s. GivesStamped s walk next given) → StillStamped snapshot first next
  stamped_more None now first walk next given same had gives = tt
  stamped_more (Some tree) now first walk next given same had gives = λ stamped.
      ((subst (λ s. InStamps s stamps (λ s. GivesStamped s walk next given)) same gives) (had stamped)).0

  pub stamp_given : (snapshot now : Option Snapshot) (first walk next : Walk) (one : File) → now ≡ snapshot →
      StillStamped snapshot first walk → InStamps now stamps (λ s. GivesStamped s walk next (Some (found.File one))) →
      InStamps snapshot stamps (λ s. AreStamped s first → AreStamped s next × (one.stamp ≡ s (string_bytes one.path)))
  stamp_given None now first walk next one same had gives = tt
  stamp_given (Some tree) now first walk next one same had gives = λ stamped.
      (subst (λ s. InStamps s stamps (λ s. GivesStamped s walk next (Some (found.File one)))) same gives) (had stamped)

  -- the stamps that are left after one more file, and its own
  pub stamps_left : (snapshot now : Option Snapshot) (walk next : FolderWalk) (one : NamedPath) → now ≡ snapshot →
      InStamps snapshot stamps (λ s. AreStamped s walk.walk) →
      InStamps now stamps (λ s. AreStamped s walk.walk → GivesStampedFile s next (Some one)) →
      InStamps snapshot stamps (λ s. AreStamped s next.walk)
  stamps_left None now walk next one same had gives = tt
  stamps_left (Some tree) now walk next one same had gives =
      ((subst (λ s. InStamps s stamps (λ s. AreStamped s walk.walk → GivesStampedFile s next (Some one))) same gives) had).0

  pub stamp_at : (snapshot now : Option Snapshot) (walk next : FolderWalk) (one : NamedPath) → now ≡ snapshot →
      InStamps snapshot stamps (λ s. AreStamped s walk.walk) →
      InStamps now stamps (λ s. AreStamped s walk.walk → GivesStampedFile s next (Some one)) →
      InStamps snapshot stamps (λ s. one.stamp ≡ s (string_bytes one.path))
  stamp_at None now walk next one same had gives = tt
  stamp_at (Some tree) now walk next one same had gives =
      ((subst (λ s. InStamps s stamps (λ s. AreStamped s walk.walk → GivesStampedFile s next (Some one))) same gives) had).1

-- ---- the loop ends

abbrev pub walk_measure : Walk → ℕ
walk_measure walk = walk_weight walk * 18446744073709551616 + length (unread_in walk)

-- ---- files one after another

-- Some files were taken in their order, and this holds of them.
abbrev pub HasTaken : Option Snapshot → FolderWalk → FolderWalk → (List NamedItem → Type 0) → Type 0
HasTaken snapshot first walk P = InTree snapshot (λ items. IsWalkIn items first.walk → (paths : List (List (List ℕ)))
    × IsWalkIn items walk.walk × Takes (is_left first.walk items) paths (is_left walk.walk items)
    × P (map (named_item items first.form) paths))

-- no file yet
pub none_taken : (snapshot : Option Snapshot) (first : FolderWalk) (P : List NamedItem → Type 0) → P [] → HasTaken snapshot first first P
none_taken None first P has = tt
none_taken (Some tree) first P has = λ within. ([], within, λ path. refl, has)

-- one more file
pub taken_more : (snapshot now : Option Snapshot) (first walk next : FolderWalk) (P Q : List NamedItem → Type 0) (one : NamedPath) →
    now ≡ snapshot → walk.form ≡ first.form → HasTaken snapshot first walk P → GivesIn now walk next (Some one) →
    InTree snapshot (λ items. (all : List NamedItem) → P all →
    Q (all ++ (string_bytes one.name, items (string_bytes one.path), false) ∷ [])) →
    HasTaken snapshot first next Q
taken_more None now first walk next P Q one same form has gives step = tt
taken_more (Some tree) now first walk next P Q one same form has gives step = λ within.
    let items = item_at tree in
    let before = has within in
    let given = (subst (λ s. GivesIn s walk next (Some one)) same gives) before.1 in
    let path = given.1.0 in
    let all = map (named_item items first.form) before.0 in
    let named : string_bytes one.name ≡ name_of first.form (path_text path) =
    given.1.2 ∙ ap (λ f. name_of f (string_bytes one.path)) form ∙ ap (λ p. name_of first.form p) given.1.1 in
    let is : (string_bytes one.name, items (string_bytes one.path), false) ≡ named_item items first.form path =
    ap (λ n. (n, items (string_bytes one.path), false)) named ∙ ap (λ p. (name_of first.form (path_text path), items p, false)) given.1.1 in (
      before.0 ++ path ∷ [],
      given.0,
      takes_more (is_left first.walk items) (is_left walk.walk items) (is_left next.walk items) before.0 path before.2 given.1.3,
      subst Q (ap (λ last. all ++ last ∷ []) is ∙ sym (map-append (named_item items first.form) before.0 (path ∷ []))) (step all before.3),
    )

-- one more file was visited, after what could not be read
pub met_taken : {V A E : Type 0} {Asks : V → TreeItems → Stamps → SearchedTree → Type 0} {is_wrong : V → Bool} {Stays : V → V → Type 0}
    {Begins Visits : V → V → List NamedItem → List ℕ → List ℕ → Type 0} (law : Follows Asks is_wrong Stays Begins Visits)
    (Known : Type 0) (snapshot now after : Option Snapshot) (first walk next : FolderWalk) (one : NamedPath) (old was mid new : V)
    (given middle later : List ℕ) (result : Result A E) → now ≡ snapshot → after ≡ snapshot → walk.form ≡ first.form →
    HasTaken snapshot first walk (λ named. Known → Begins old was named given middle × Visits old was named given middle) →
    GivesIn now walk next (Some one) → Stays old was → Stays was mid → Begins was mid [] middle middle × Visits was mid [] middle middle →
    Stays mid new → (Known → InTree after (λ items. VisitsOne Begins Visits mid new (met_item items one) middle later result)) →
    HasTaken snapshot first next (λ named. Known → Begins old new named given later × OnOk result (Visits old new named given later))
met_taken {Begins = Begins} {Visits = Visits} law Known snapshot now after first walk next one old was mid new given middle later result same same' form taken gives kept stays none keeps has =
    taken_more snapshot now first walk next (λ named. Known → Begins old was named given middle × Visits old was named given middle)
    (λ named. Known → Begins old new named given later × OnOk result (Visits old new named given later)) one same form taken gives
    (in_same snapshot snapshot
    (λ items. (all : List NamedItem) → (Known → Begins old mid all given middle × Visits old mid all given middle) → Known →
    Begins old new (all ++ met_item items one ∷ []) given later × OnOk result (Visits old new (all ++ met_item items one ∷ []) given later))
    (λ items. (all : List NamedItem) → (Known → Begins old was all given middle × Visits old was all given middle) → Known →
    Begins old new (all ++ met_item items one ∷ []) given later × OnOk result (Visits old new (all ++ met_item items one ∷ []) given later))
    refl
    (λ items step all had. step all (λ known. none_more law old was mid given middle kept stays none all (had known)))
    (file_visited law Known snapshot after one old mid new given middle later result same'
    (law.again old was mid kept stays) keeps has))

module _ {V : Type 0} (Begins Visits : V → V → List NamedItem → List ℕ → List ℕ → Type 0) (is_done : V → Bool) (old new : V)
    (given later : List ℕ) where
  -- what the files were taken for, at an error or an early end
  pub walk_some : {A E : Type 0} (snapshot : Option Snapshot) (first walk : FolderWalk) (P : List NamedItem → Type 0) (result : Result A E) →
      HasTaken snapshot first walk P →
      ((all : List NamedItem) → P all → Begins old new all given later × OnOk result (Visits old new all given later)) →
      OnOk result (is_done new ≡ true) → InTree snapshot (λ items. IsWalkIn items first.walk →
      VisitsSome Begins Visits is_done (AreFirstLeft items first) (AreLeft items first) old new given later result)
  walk_some None first walk P result has says done = tt
  walk_some (Some tree) first walk P (Err fault) has says done = λ within.
      let items = item_at tree in
      let before = has within in
      let all = map (named_item items first.form) before.0 in (
        all,
        (before.0, takes_some (is_left first.walk items) (is_left walk.walk items) before.0 before.2, refl),
        (says all before.3).0,
        tt,
      )
  walk_some (Some tree) first walk P (Ok answer) has says done = λ within.
      let items = item_at tree in
      let before = has within in
      let all = map (named_item items first.form) before.0 in
      let said = says all before.3 in (
        all,
        (before.0, takes_some (is_left first.walk items) (is_left walk.walk items) before.0 before.2, refl),
        said.0,
        (said.1, λ going. absurd (false≢true (sym going ∙ done))),
      )

  -- no file is left
  pub walk_all : {A : Type 0} (E : Type 0) (snapshot now : Option Snapshot) (first walk next : FolderWalk) (P : List NamedItem → Type 0) (answer : A) →
      now ≡ snapshot → HasTaken snapshot first walk P → GivesIn now walk next None →
      ((all : List NamedItem) → P all → Begins old new all given later × Visits old new all given later) →
      InTree snapshot (λ items. IsWalkIn items first.walk →
      VisitsSome Begins Visits is_done {E = E} (AreFirstLeft items first) (AreLeft items first) old new given later (Ok answer))
  walk_all E None now first walk next P answer same has gives says = tt
  walk_all E (Some tree) now first walk next P answer same has gives says = λ within.
      let items = item_at tree in
      let before = has within in
      let none = (subst (λ s. GivesIn s walk next None) same gives) before.1 in
      let all = map (named_item items first.form) before.0 in
      let said = says all before.3 in (
        all,
        (before.0, takes_some (is_left first.walk items) (is_left walk.walk items) before.0 before.2, refl),
        said.0,
        (said.1, λ going. (before.0, takes_all (is_left first.walk items) (is_left walk.walk items) before.0 before.2 none.1, refl)),
      )

-- ---- all files of a folder

pub map_map : {A B C : Type 0} (f : B → C) (g : A → B) (xs : List A) → map f (map g xs) ≡ map (λ x. f (g x)) xs
map_map f g [] = refl
map_map f g (x ∷ xs) = ap (λ rest. f (g x) ∷ rest) (map_map f g xs)

-- the files of a walk by the names of the folder
names_below : (snapshot : Option Snapshot) (items : TreeItems) (settings : Settings) (folder word : List ℕ) (walk : FolderWalk) →
    WalksFolder snapshot settings folder word walk → (paths : List (List (List ℕ))) →
    map (named_item items walk.form) paths ≡ map (file_below items settings folder word) (map path_text paths)
names_below snapshot items settings folder word walk walks paths =
    ap (λ (name : List ℕ → List ℕ). map (λ path. (name (path_text path), items (path_text path), false)) paths)
    (ap (λ s. name_below s (string_bytes walk.form.prefix)) walks.stem ∙ ap (λ p. name_below (with_slash folder) p) walks.prefix)
    ∙ sym (map_map (file_below items settings folder word) path_text paths)

-- the files that are left to a walk that begins are those that a search of the folder finds
left_found : (tree : Snapshot) (settings : Settings) (folder word : List ℕ) (walk : FolderWalk) →
    WalksFolder (Some tree) settings folder word walk → (path : List (List ℕ)) →
    is_found (within_depth settings (length (names_along folder))) (item_at tree) (names_along folder) path ≡ is_left walk.walk (item_at tree) path
left_found tree settings folder word walk walks path =
    ap (λ s. is_found s (item_at tree) (names_along folder) path) (sym walks.chosen) ∙ sym (walks.begins.1 path)

first_below : (tree : Snapshot) (settings : Settings) (folder word : List ℕ) (walk : FolderWalk) →
    WalksFolder (Some tree) settings folder word walk → (named : List NamedItem) → AreFirstLeft (item_at tree) walk named →
    AreFirstBelow (item_at tree) settings folder word named
first_below tree settings folder word walk walks named first = (
  first.0,
  some_same (is_left walk.walk (item_at tree)) (is_found (within_depth settings (length (names_along folder))) (item_at tree) (names_along folder))
      first.0 (left_found tree settings folder word walk walks) first.1,
  first.2 ∙ names_below (Some tree) (item_at tree) settings folder word walk walks first.0,
)

all_below : (tree : Snapshot) (settings : Settings) (folder word : List ℕ) (walk : FolderWalk) → GivesInOrder →
    WalksFolder (Some tree) settings folder word walk → (named : List NamedItem) → AreLeft (item_at tree) walk named →
    AreFilesBelow (item_at tree) settings folder word named
all_below tree settings folder word walk order walks named all =
    let found = is_found (within_depth settings (length (names_along folder))) (item_at tree) (names_along folder) in
    let ordered = order found all.0 (gives_same (is_left walk.walk (item_at tree)) found all.0
    (left_found tree settings folder word walk walks) all.1) in (
      map path_text all.0,
      (all.0, refl, ordered.0, ordered.1, ordered.2),
      all.2 ∙ names_below (Some tree) (item_at tree) settings folder word walk walks all.0,
    )

pub folder_visited : {V A E : Type 0} (Begins Visits : V → V → List NamedItem → List ℕ → List ℕ → Type 0) (is_done : V → Bool) (old new : V)
    (given later : List ℕ) (snapshot now : Option Snapshot) (settings : Settings) (folder word : List ℕ) (walk : FolderWalk)
    (result : Result A E) → GivesInOrder → now ≡ snapshot → WalksFolder snapshot settings folder word walk →
    InTree now (λ items. IsWalkIn items walk.walk →
    VisitsSome Begins Visits is_done (AreFirstLeft items walk) (AreLeft items walk) old new given later result) →
    InTree snapshot (λ items. VisitsSome Begins Visits is_done (AreFirstBelow items settings folder word)
    (AreFilesBelow items settings folder word) old new given later result)
folder_visited Begins Visits is_done old new given later None now settings folder word walk result order same walks has = tt
folder_visited Begins Visits is_done old new given later (Some tree) now settings folder word walk result order same walks has =
    visits_as Begins Visits is_done (AreFirstLeft (item_at tree) walk) (AreFirstBelow (item_at tree) settings folder word)
    (AreLeft (item_at tree) walk) (AreFilesBelow (item_at tree) settings folder word) old new given later result
    (first_below tree settings folder word walk walks) (all_below tree settings folder word walk order walks)
    ((subst (λ s. InTree s (λ items. IsWalkIn items walk.walk →
    VisitsSome Begins Visits is_done (AreFirstLeft items walk) (AreLeft items walk) old new given later result)) same has) walks.begins.0)
