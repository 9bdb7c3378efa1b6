-- The paths that words lead to.
use Rattle.std.proofs.Common.{◌≡◌, ℕ, true, List, [], ◌∷◌, ◌++◌, refl, ap, ◌∙◌, append_assoc}
use Rattle.std.specs.List.{fold}
use Rattle.std.proofs.lemmas.List.{reverse-append}
use Rattle.std.specs.Path.{slash}
use Rattle.cs_tree.specs.Clean.{absolute, clean_path, elements, path_of, with_element, with_slashes}
use Rattle.cs_tree.specs.Cover.{is_absolute}
use Rattle.cs_listing.specs.Walk.{path_text}

-- ---- a cleaned path is absolute

begins : (above : List (List ℕ)) (rest : List ℕ) → is_absolute (with_slashes above ++ slash ∷ rest) ≡ true
begins [] rest = refl
begins (name ∷ above) rest =
    ap is_absolute (append_assoc (with_slashes above) (slash ∷ name) (slash ∷ rest)) ∙ begins above (name ++ slash ∷ rest)

of_elements : (above : List (List ℕ)) → is_absolute (path_of above) ≡ true
of_elements [] = refl
of_elements (name ∷ above) = begins above name

pub clean_absolute : (folder text : List ℕ) → is_absolute (clean_path folder text) ≡ true
clean_absolute folder text = of_elements (fold with_element [] (elements (absolute folder text)))

-- ---- the path of names

pub path_more : (names : List (List ℕ)) (name : List ℕ) → path_text (names ++ name ∷ []) ≡ path_text names ++ slash ∷ name
path_more names name = ap with_slashes (reverse-append names (name ∷ []))
