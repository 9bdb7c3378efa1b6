-- The names along a path.
use denote.Ref.{Bor}
use Rattle.std.specs.Prelude.{filter_map}
use Rattle.std.specs.Option.{option_to_list}
use Rattle.std.specs.List.{cons_option}
use Rattle.std.proofs.Common.{◌≡◌, refl, ℕ, ◌+◌, ◌<◌, List, [], ◌∷◌, ◌++◌, length, map, take, get_or, sym, ap, ◌∙◌, append_assoc}
use Rattle.std.proofs.lemmas.List.{append-nil, map-append}
use Rattle.cs_tree.specs.Clean.{elements}
use Rattle.cs_tree.proofs.NameLemmas.{mapped_more}
use Rattle.cs_listing.specs.Models.{names}
use Rattle.cs_listing.specs.PathNames.{name_in, names_along}

more_names : (name : List ℕ) (names : List (List ℕ)) → cons_option (name_in name) names ≡ option_to_list (name_in name) ++ names
more_names [] names = refl
more_names (b ∷ name) names = refl

-- one more element
pub name_read : (before after : List (List ℕ)) (name : List ℕ) (rest later path : List ℕ) → elements rest ≡ name ∷ elements later →
    after ≡ before ++ option_to_list (name_in name) → before ++ names_along rest ≡ names_along path →
    after ++ names_along later ≡ names_along path
name_read before after name rest later path split added so_far =
    ap (λ ns. ns ++ names_along later) added
    ∙ append_assoc before (option_to_list (name_in name)) (names_along later)
    ∙ ap (λ ns. before ++ ns) (sym (ap (filter_map name_in) split ∙ more_names name (names_along later)))
    ∙ so_far

-- the last one
pub last_read : (before after : List (List ℕ)) (rest path : List ℕ) → elements rest ≡ rest ∷ [] →
    after ≡ before ++ option_to_list (name_in rest) → before ++ names_along rest ≡ names_along path → after ≡ names_along path
last_read before after rest path split added so_far =
    added
    ∙ ap (λ ns. before ++ ns) (sym (append-nil (option_to_list (name_in rest))))
    ∙ ap (λ ns. before ++ ns) (sym (ap (filter_map name_in) split ∙ more_names rest []))
    ∙ so_far

-- one more name is lent
pub name_lent : {X : Type 0} (view : X → List ℕ) (xs : List X) (before after : List (Bor (List ℕ))) (i : ℕ) (x : X)
    (name : Bor (List ℕ)) → i < length xs → x ≡ get_or xs i x → name.now ≡ view x → after ≡ before ++ name ∷ [] →
    names before ≡ map view (take i xs) → names after ≡ map view (take (i + 1) xs)
name_lent view xs before after i x name less is same added so_far =
    ap names added
    ∙ map-append (λ (name : Bor (List ℕ)). name.now) before (name ∷ [])
    ∙ ap (λ ns. ns ++ name.now ∷ []) so_far
    ∙ ap (λ n. map view (take i xs) ++ n ∷ []) same
    ∙ sym (mapped_more view xs i x less is)
