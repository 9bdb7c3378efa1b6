-- A search lists below a folder what a search of that folder lists.
use Rattle.std.proofs.Common.{◌≡◌, refl, ℕ, Bool, true, false, ◌&&◌, List, [], ◌∷◌, ◌++◌, ap, ◌∙◌}
use Rattle.cs_tree.specs.Clean.{path_of}
use Rattle.cs_tree.specs.Walks.{is_file}
use Rattle.cs_listing.specs.Listing.{is_taken, has_more, is_reached, down, enters, ListsAsBelow}

and_left : (a b : Bool) → (a && b) ≡ true → a ≡ true
and_left true b is = refl
and_left false b is = is

and_rest : (a b : Bool) → (a && b) ≡ true → b ≡ true
and_rest true b is = is
and_rest false b is = cc

more_below : (entered : List (List ℕ)) (name : List ℕ) (path : List (List ℕ)) → has_more (entered ++ name ∷ path) ≡ true
more_below [] name path = refl
more_below (first ∷ entered) name path = refl

pub lists_as_below : ListsAsBelow
lists_as_below settings items start [] name path is = refl
lists_as_below settings items start (first ∷ entered) name path is =
    let rest = entered ++ name ∷ path in
    let found = is_file (items (path_of (down (first ∷ start) rest))) in
    ap (λ b. (is_taken settings items b start first && is_reached settings items (first ∷ start) rest) && found) (more_below entered name path)
    ∙ ap (λ b. (b && is_reached settings items (first ∷ start) rest) && found)
    (and_left (is_taken settings items true start first) (enters settings items (first ∷ start) entered) is)
    ∙ lists_as_below settings items (first ∷ start) entered name path
    (and_rest (is_taken settings items true start first) (enters settings items (first ∷ start) entered) is)
