-- What is known of the files of a tree without reading them. A search skips files that are known to print nothing.
use Rattle.std.specs.Prelude.{ℕ, ◌≡◌, Bool, true, false, List, Option, IfSome}
use Rattle.cs_tree.specs.Snapshot.{Snapshot, item_at}
use Rattle.cs_tree.specs.declared.tree.Stamp.{Stamp}
use Rattle.cs_match.specs.SameLines.{MatchSameLines}
use Rattle.cs_listing.specs.Listing.{TreeItems}
use Rattle.cs_listing.specs.Stamps.{Stamps}
use Rattle.cs_lines.specs.Findings.{Finding, IsFoundBy}
use Rattle.cs_lines.specs.Project.{nothing_shown}
use Rattle.cs_lines.specs.declared.form.Mode.TheVariants.{Names}
use Rattle.cs_lines.specs.declared.form.ShowOptions.{ShowOptions}
use Rattle.cs_lines.specs.declared.search.LineSearch.{LineSearch}
use Rattle.cs_project.specs.Searched.{shown_of}
use Rattle.cs_project.specs.declared.file_search.FileSearch.{FileSearch}
use Rattle.cs_project.specs.declared.knowledge.AskedSearch.{AskedSearch}

-- A search of a tree: what knowledge is about.
pub record SearchedTree : Type 0 where
  pub options : ShowOptions
  pub binary : Bool
  pub finding : Finding
  pub items : TreeItems
  pub stamps : Stamps

-- Where a walk comes to this path, nothing is printed for the item there, whatever its name is.
abbrev pub PrintsNothing : SearchedTree → List ℕ → Type 0
PrintsNothing tree path =
    (name : List ℕ) → shown_of tree.options tree.binary tree.finding (name, tree.items path, false) ≡ nothing_shown

-- In each search that the knowledge holds for, a path with this stamp is skipped only if nothing is printed for it.
abbrev pub SkipsNothingShown : (SearchedTree → Type 0) → List ℕ → Option Stamp → Bool → Type 0
SkipsNothingShown Holds path stamp skips =
    (tree : SearchedTree) → Holds tree → tree.stamps path ≡ stamp → skips ≡ true → PrintsNothing tree path

-- It holds for all that it held for before.
abbrev pub HoldsAsBefore : (SearchedTree → Type 0) → (SearchedTree → Type 0) → Type 0
HoldsAsBefore Old New = (tree : SearchedTree) → Old tree → New tree

-- The tree is searched as is asked for: with these options, for lines that the pattern matches.
pub record IsAsked (asked : AskedSearch) (tree : SearchedTree) : Type 0 where
  pub search : LineSearch
  pub options : tree.options ≡ asked.options
  pub binary : tree.binary ≡ asked.binary
  pub found : IsFoundBy tree.finding search
  pub lines : MatchSameLines search.matcher.tree asked.pattern.now

-- It holds for all that is asked for that it held for before.
abbrev pub HoldsIfAsked : AskedSearch → (SearchedTree → Type 0) → (SearchedTree → Type 0) → Type 0
HoldsIfAsked asked Old New = (tree : SearchedTree) → IsAsked asked tree → Old tree → New tree

-- It holds for a search of this tree, by each finding of the search.
abbrev pub HoldsFor : (SearchedTree → Type 0) → (Snapshot → Stamps) → Option Snapshot → FileSearch → Type 0
HoldsFor Holds stamps snapshot search = IfSome snapshot (λ tree. (finding : Finding) → IsFoundBy finding search.search → Holds (record {
  options = search.options;
  binary = search.binary;
  finding = finding;
  items = item_at tree;
  stamps = stamps tree;
}))

-- the same search for names alone
abbrev pub by_names : FileSearch → FileSearch
by_names search = record search { options = record search.options { mode = Names } }

-- With -q the search is one for names.
abbrev pub asked_as : Bool → FileSearch → FileSearch
asked_as true search = by_names search
asked_as false search = search
