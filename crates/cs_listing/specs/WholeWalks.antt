-- What a walk of a project gives from its beginning to its end. docs/PROMISES.md, "Rules".
use Rattle.std.specs.Prelude.{ℕ, ◌≡◌, ◌↔◌, true, List, [], ◌∷◌, Some, None, string_bytes}
use Rattle.cs_tree.specs.Elements.{is_among, are_distinct}
use Rattle.cs_listing.specs.Listing.{TreeItems}
pub use Rattle.cs_listing.specs.Listed.{AreListed}
use Rattle.cs_listing.specs.Unreadable.{IsUnreadable}
use Rattle.cs_listing.specs.Walk.{settings_in, Begins, Gives, HasReportedNone, ReportsOnce}
use Rattle.cs_listing.specs.ReportsAll.{BeginsToReport, ReportsAll}
use Rattle.cs_listing.specs.declared.walk.Found.{Found}
use Rattle.cs_listing.specs.declared.walk.Found.TheVariants as found
use Rattle.cs_listing.specs.declared.walk.Walk.{Walk}

-- what calls of `next` give one after the other, until one gives nothing
abbrev pub GivesToEnd : TreeItems → Walk → List Found → Type 0
GivesToEnd items walk [] = (ended : Walk) × Gives items walk ended None × ReportsAll items walk ended None
GivesToEnd items walk (given ∷ others) = (later : Walk) × Gives items walk later (Some given)
    × ReportsOnce walk later (Some given) × GivesToEnd items later others × ReportsAll items walk later (Some given)

-- the paths of the files among these
abbrev pub files_given : List Found → List (List ℕ)
files_given [] = []
files_given (found.File file ∷ others) = string_bytes file.path ∷ files_given others
files_given (found.Unread unread ∷ others) = files_given others

-- the paths among these that could not be read
abbrev pub paths_reported : List Found → List (List ℕ)
paths_reported [] = []
paths_reported (found.File file ∷ others) = paths_reported others
paths_reported (found.Unread unread ∷ others) = string_bytes unread.path ∷ paths_reported others

-- A walk that has begun at a folder gives the files that a search of it lists, each once, and no other ones.
abbrev pub WalksList : Type 0
WalksList = (items : TreeItems) (start : List (List ℕ)) (walk : Walk) (given : List Found) →
    Begins items start walk → GivesToEnd items walk given → AreListed (settings_in walk) items start (files_given given)

-- A walk gives each path that could not be read once.
abbrev pub WalksReportOnce : Type 0
WalksReportOnce = (items : TreeItems) (walk : Walk) (given : List Found) →
    GivesToEnd items walk given → are_distinct (paths_reported given) ≡ true

-- A walk that has begun at a folder, and has reported nothing, gives the paths that a search of it cannot read, and no other ones.
abbrev pub WalksReportAll : Type 0
WalksReportAll = (items : TreeItems) (start : List (List ℕ)) (walk : Walk) (given : List Found) →
    BeginsToReport items start walk → HasReportedNone walk → GivesToEnd items walk given →
    (path : List ℕ) → (is_among (paths_reported given) path ≡ true) ↔ IsUnreadable (settings_in walk) items start path
