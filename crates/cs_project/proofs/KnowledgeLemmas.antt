-- Files that are skipped, since they are known to print nothing.
use Rattle.std.proofs.Common.{◌≡◌, ℕ, Bool, true, false, List, [], ◌∷◌, Option, Some, None, refl, sym}
use Rattle.cs_tree.specs.Snapshot.{Snapshot, item_at}
use Rattle.cs_tree.specs.declared.tree.Stamp.{Stamp}
use Rattle.cs_listing.specs.FolderReads.{InTree}
use Rattle.cs_listing.specs.Stamps.{InStamps, Stamps}
use Rattle.cs_project.specs.Knowledge.{HoldsFor, SearchedTree, SkipsNothingShown}
use Rattle.cs_project.specs.Visits.{ShowsItems, may_cut}
use Rattle.cs_project.specs.declared.file_search.FileSearch.{FileSearch}
use Rattle.cs_project.proofs.TextLemmas.{nothing_printed}

-- a file that is skipped prints nothing
pub skipped : (Holds : SearchedTree → Type 0) (stamps : Snapshot → Stamps) (snapshot : Option Snapshot)
    (search : FileSearch) (name path given : List ℕ) (stamp : Option Stamp) (skips : Bool) →
    SkipsNothingShown Holds path stamp skips → skips ≡ true → InStamps snapshot stamps (λ stamps. stamp ≡ stamps path) →
    HoldsFor Holds stamps snapshot search →
    InTree snapshot (λ items. ShowsItems search search ((name, items path, false) ∷ []) given given)
skipped Holds stamps None search name path given stamp skips says said at known = tt
skipped Holds stamps (Some tree) search name path given stamp skips says said at known = λ running finding found.
    let searched : SearchedTree = record {
      options = search.options;
      binary = search.binary;
      finding = finding;
      items = item_at tree;
      stamps = stamps tree;
    } in
    nothing_printed search.options search.binary finding (may_cut search) (name, item_at tree path, false) search.marked search.marked given
    (says searched (known finding found) (sym at) said name) refl
