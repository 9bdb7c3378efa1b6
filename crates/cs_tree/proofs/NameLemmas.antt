-- The names of a folder.
use Rattle.std.proofs.Common.{◌≡◌, ℕ, ◌+◌, ◌<◌, Bool, true, not, ◌||◌, List, [], ◌∷◌, ◌++◌, length, map, take, get_or, refl, sym, ap, ◌∙◌, eqb, inl, inr}
use Rattle.cs_tree.specs.Covering.{below, root}
use Rattle.cs_tree.specs.Folders.{child, is_element}
use Rattle.std.proofs.lemmas.Bool.{cases_Bool, and_parts, not-true}
use Rattle.std.proofs.lemmas.List.{map-append, take_more}
use Rattle.std.specs.Prelude.{bytes_eq}
use Rattle.std.specs.Path.{slash}
use Rattle.std.specs.Cmp.Lexicographic.{bytes_decides}
use Rattle.std.specs.List.{list_any}
use Rattle.cs_tree.specs.Cover.{covers}
use Rattle.cs_tree.proofs.CoverLemmas.{covers_from}
use Rattle.cs_tree.proofs.SplitLemmas.{NoSlash, stem-other}

-- ---- lists

-- the first items of a mapped list, with one more item
pub mapped_more : {X : Type 0} (f : X → List ℕ) (xs : List X) (i : ℕ) (x : X) → i < length xs → x ≡ get_or xs i x →
    map f (take (i + 1) xs) ≡ map f (take i xs) ++ f x ∷ []
mapped_more f xs i x low is = ap (map f) (take_more xs i x low ∙ ap (λ y. take i xs ++ y ∷ []) (sym is)) ∙ map-append f (take i xs) (x ∷ [])

module _ {X Y : Type 0} (view : X → Y) (test : Y → Bool) where
  pub list_any-map : (xs : List X) → list_any test (map view xs) ≡ list_any (λ x. test (view x)) xs
  list_any-map [] = refl
  list_any-map (x ∷ xs) = ap (λ b. test (view x) || b) (list_any-map xs)

-- ---- the entries of a folder

pub name_parts : (name : List ℕ) → is_element name ≡ true → NoSlash name
name_parts name h = not-true _ (and_parts (not (list_any (λ b. eqb b slash) name)) _ (and_parts (not (bytes_eq name [])) _ h).1).0

pub folder_covers_child : (folder name : List ℕ) → covers folder (child folder name) ≡ true
folder_covers_child folder name =
    elim (cases_Bool (bytes_eq folder (slash ∷ []))) [
      | inl is_root ↦ let e = (bytes_decides folder (slash ∷ [])).0 is_root in covers_from folder (child folder name)
          (root name e (ap (λ x. child x name) e))
      | inr other ↦ covers_from folder (child folder name) (below name (ap (λ stem. stem ++ slash ∷ name) (stem-other folder other)))
    ]
