-- The path made of the elements of a folder and a text, as private contracts of `clean` state it.
use denote.Ref.{Bor}
use Rattle.std.specs.Prelude.{map, ◌||◌, ℕ, nat_lt, length, List, [], if◌then◌else◌, Option, Some, None}
use Rattle.std.specs.List.{fold}
use Rattle.cs_tree.specs.Clean.{elements, with_element, path_of, has_nul, longest_path}
use Rattle.cs_tree.specs.declared.paths.PathFault.{PathFault}
use Rattle.cs_tree.specs.declared.paths.PathFault.TheVariants.{Nul, TooLong}

-- the path of the elements of both texts, and its error
abbrev pub parts_path : List ℕ → List ℕ → List ℕ
parts_path folder text = path_of (fold with_element (fold with_element [] (elements folder)) (elements text))

abbrev pub parts_fault : List ℕ → List ℕ → Option PathFault
parts_fault folder text =
    if has_nul folder || has_nul text then Some Nul
    else (if nat_lt longest_path (length (parts_path folder text)) then Some TooLong else None)

-- the values of borrowed texts
abbrev pub texts : List (Bor (List ℕ)) → List (List ℕ)
texts lent = map (λ (text : Bor (List ℕ)). text.now) lent
