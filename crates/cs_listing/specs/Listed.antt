-- The files that a search of a folder lists, in order. docs/PROMISES.md, "Rules".
use Rattle.std.specs.Prelude.{◌≡◌, ◌≢◌, true, false, List, map, ℕ}
use Rattle.std.specs.List.{AllByRecursion}
use Rattle.cs_tree.specs.NamesAscending.{are_ascending}
use Rattle.cs_listing.specs.Listing.{Settings, TreeItems, is_found}
use Rattle.cs_listing.specs.Walk.{path_text}

-- These are the paths of the files that a search of the folder `start` lists, in byte order.
abbrev pub AreListed : Settings → TreeItems → List (List ℕ) → List (List ℕ) → Type 0
AreListed settings items start texts =
    (paths : List (List (List ℕ))) × (texts ≡ map path_text paths) × (are_ascending (map path_text paths) ≡ true)
    × AllByRecursion (λ path. is_found settings items start path ≡ true) paths
    × ((other : List (List ℕ)) → AllByRecursion (λ path. path ≢ other) paths → is_found settings items start other ≡ false)
