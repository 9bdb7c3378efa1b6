-- The files that a walk finds: those reachable from its paths through listed names that are not excluded.
-- docs/FORMAT.md, "Paths and names".
use Rattle.std.specs.Prelude.{ℕ, ◌+◌, Bool, true, false, not, ◌&&◌, ◌||◌, nat_eq, nat_le, cond, if◌then◌else◌, List, [], ◌∷◌, length, drop, Option, None, option_map, filter_map, codes, bytes_eq}
use Rattle.std.specs.Path.{slash}
use Rattle.cs_tree.specs.Folders.{child, lists, last_element}
use Rattle.cs_tree.specs.PathSet.{Paths}
use Rattle.cs_tree.specs.NameOrder.{bytes_cmp}
use Rattle.std.specs.List.{list_any, ends_with}
use Rattle.std.specs.FinMap as map
use Rattle.cs_tree.specs.PathSet as set
use Rattle.cs_tree.specs.Cover.{covers}
use Rattle.cs_tree.specs.Clean.{elements, longest_path}
use Rattle.cs_tree.specs.Snapshot.{Snapshot, Item, file, item_at}

-- ---- excluded names: those that begin with `.`, `#` or `~`, or end with `~`

abbrev pub is_excluded : List ℕ → Bool
is_excluded [] = false
is_excluded (b ∷ rest) = nat_eq b 46 || (nat_eq b 35 || (nat_eq b 126 || ends_with nat_eq (b ∷ rest) (codes "~")))

-- the elements of a name after a path that covers it
abbrev pub elements_under : List ℕ → List ℕ → List (List ℕ)
elements_under path name =
    if bytes_eq path name then [] else elements (drop (if bytes_eq path (slash ∷ []) then 1 else length path + 1) name)

-- ---- reachable names

-- whether each element is listed in its folder and not excluded
abbrev pub descends : Snapshot → List ℕ → List (List ℕ) → Bool
descends tree at [] = true
descends tree at (name ∷ names) =
    not (is_excluded name) && (nat_le (length at) longest_path && (lists (item_at tree at) name && descends tree (child at name) names))

abbrev pub reaches : Snapshot → List ℕ → List ℕ → Bool
reaches tree path name = covers path name && (not (is_excluded (last_element path)) && descends tree path (elements_under path name))

-- whether the name is reachable from one of the paths
abbrev pub is_reachable : Snapshot → Paths → List ℕ → Bool
is_reachable tree paths name = list_any (λ path. reaches tree path name) (set.items paths)

-- the names that have a value, each paired with its value
abbrev pub with_values : {X : Type 0} → (List ℕ → Option X) → List (List ℕ) → List (List ℕ × X)
with_values value names = filter_map (λ name. option_map (λ x. (name, x)) (value name)) names

module _ {X : Type 0} (read : List ℕ → Option X) where
  abbrev pub read_item : Item → Option X
  read_item (file bytes) = read bytes
  read_item _ = None

  -- the value of a reachable file
  abbrev pub found_at : Snapshot → Paths → List ℕ → Option X
  found_at tree paths name = cond (is_reachable tree paths name && nat_le (length name) longest_path) (read_item (item_at tree name)) None

  -- the values of the reachable files that can be read
  abbrev pub reachable_files : Snapshot → Paths → map.FinMap bytes_cmp X
  reachable_files tree paths = map.from_entries (with_values (found_at tree paths) (map.keys tree))
