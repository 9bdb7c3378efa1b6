-- The same of `**` in paths: what it could match from a name on, it can match from an earlier one.
use denote.Ref.{Bor}
use Rattle.std.proofs.Common.{◌≡◌, refl, ℕ, ◌+◌, Bool, true, false, ◌||◌, ◌&&◌, List, [], ◌∷◌, length, drop, ◌<◌, ◌≤◌, sym, ap, ◌∙◌, arith}
use Rattle.std.proofs.lemmas.List.{length-drop, drop-drop}
use Rattle.std.specs.List.{IsFirstAndRest}
use Rattle.cs_listing.specs.Globs.{GlobToken, matches_name, Element, folders, one, matches_path}
use Rattle.cs_listing.specs.MatchWork.{largest}
use Rattle.cs_listing.specs.Models.{tokens_of, glob_of, names}
use Rattle.cs_listing.specs.declared.glob.Token.{Token}
use Rattle.cs_listing.specs.declared.glob.Element.{Element as OwnElement}
use Rattle.cs_listing.proofs.NameLemmas.{or_true, or_false, or_cases, or_absorbs, and_right}

-- what a match after `**` leaves for later: it takes the next name
abbrev pub path_matches_later : List Element → List (List ℕ) → Bool
path_matches_later glob [] = false
path_matches_later glob (name ∷ path) = matches_path (folders ∷ glob) path

pub folders_split : (glob : List Element) (path : List (List ℕ)) →
    matches_path (folders ∷ glob) path ≡ (matches_path glob path || path_matches_later glob path)
folders_split glob [] = sym (or_false (matches_path glob []))
folders_split glob (name ∷ path) = refl

pub later_is_path_match : (glob : List Element) (path : List (List ℕ)) → path_matches_later glob path ≡ true → matches_path (folders ∷ glob) path ≡ true
later_is_path_match glob path is = folders_split glob path ∙ or_true (matches_path glob path) (path_matches_later glob path) is

-- `**` takes one more name
pub folders_absorb : (glob : List Element) (name : List ℕ) (path : List (List ℕ)) → matches_path (folders ∷ glob) path ≡ true →
    matches_path (folders ∷ glob) (name ∷ path) ≡ true
folders_absorb glob name path is = or_true (matches_path glob (name ∷ path)) (matches_path (folders ∷ glob) path) is

-- two of `**` are one
pub folders_twice : (glob : List Element) (path : List (List ℕ)) → matches_path (folders ∷ folders ∷ glob) path ≡ true →
    matches_path (folders ∷ glob) path ≡ true
folders_twice glob [] is = is
folders_twice glob (name ∷ path) is =
    or_cases (matches_path (folders ∷ glob) (name ∷ path)) (matches_path (folders ∷ folders ∷ glob) path) is (λ now. now)
    (λ later. folders_absorb glob name path (folders_twice glob path later))

-- What matches after `**` and one more element leaves, after one name, a match after the `**`.
folders_skip : (tokens : List GlobToken) (glob : List Element) (name : List ℕ) (path : List (List ℕ)) →
    matches_path (folders ∷ one tokens ∷ glob) (name ∷ path) ≡ true → matches_path (folders ∷ glob) path ≡ true
folders_skip tokens glob name [] is =
    or_cases (matches_path (one tokens ∷ glob) (name ∷ [])) false is (λ now. and_right (matches_name tokens name) (matches_path glob []) now)
    (λ later. cc)
folders_skip tokens glob name (next ∷ path) is =
    or_cases (matches_path (one tokens ∷ glob) (name ∷ next ∷ path)) (matches_path (folders ∷ one tokens ∷ glob) (next ∷ path)) is
    (λ now. folders_split glob (next ∷ path) ∙ ap (λ t. t || path_matches_later glob (next ∷ path))
    (and_right (matches_name tokens name) (matches_path glob (next ∷ path)) now))
    (λ later. folders_absorb glob next path (folders_skip tokens glob next path later))

-- the first element takes the first name
pub path_name : (glob later : List OwnElement) (tokens : List Token) (path rest : List (Bor (List ℕ))) (name : Bor (List ℕ)) →
    glob_of glob ≡ one (tokens_of tokens) ∷ glob_of later → length later + 1 ≡ length glob → IsFirstAndRest path name rest →
    matches_name (tokens_of tokens) name.now ≡ true →
    (matches_path (glob_of glob) (names path) ≡ matches_path (glob_of later) (names (drop 1 path)))
    × (matches_path (folders ∷ glob_of glob) (names path) ≡ true → matches_path (folders ∷ glob_of later) (names (drop 1 path)) ≡ true)
    × (length later + 1 ≡ length glob) × (0 < length path) × (largest (glob_of later) ≤ largest (glob_of glob))
path_name glob later tokens path rest name first len taken is =
    let others = ap (drop 1) taken.0 in (
      ap (λ t. matches_path t (names path)) first ∙ ap (λ p. matches_path (one (tokens_of tokens) ∷ glob_of later) (names p)) taken.0
          ∙ ap (λ t. t && matches_path (glob_of later) (names rest)) is
          ∙ ap (λ p. matches_path (glob_of later) (names p)) (sym others),
      λ all. ap (λ p. matches_path (folders ∷ glob_of later) (names p)) others
          ∙ folders_skip (tokens_of tokens) (glob_of later) name.now (names rest)
          (sym (ap (λ t. matches_path (folders ∷ t) (names path)) first
          ∙ ap (λ p. matches_path (folders ∷ one (tokens_of tokens) ∷ glob_of later) (names p)) taken.0) ∙ all),
      len,
      omega (arith, taken.1),
      omega (arith, ap largest first),
    )

-- At `**`, an earlier one need not take more.
pub folders_again : (left later : List Element) (rest : List (List ℕ)) (whole earlier : Bool) → left ≡ folders ∷ later →
    whole ≡ (matches_path left rest || earlier) → (earlier ≡ true → matches_path (folders ∷ left) rest ≡ true) →
    whole ≡ (matches_path later rest || path_matches_later later rest)
folders_again left later rest whole earlier e same absorbed =
    same ∙ or_absorbs (matches_path left rest) earlier
    (λ is. ap (λ t. matches_path t rest) e
    ∙ folders_twice later rest (sym (ap (λ t. matches_path (folders ∷ t) rest) e) ∙ absorbed is))
    ∙ ap (λ t. matches_path t rest) e ∙ folders_split later rest

later_of : (glob : List Element) (path : List (Bor (List ℕ))) → 0 < length path →
    path_matches_later glob (names path) ≡ matches_path (folders ∷ glob) (names (drop 1 path))
later_of glob [] some = absurd (omega (arith, some))
later_of glob (name ∷ path) some = refl

-- After a mismatch the last `**` takes one more name.
pub folders_later : (glob : List Element) (path : List (Bor (List ℕ))) (from : ℕ) → from < length path →
    path_matches_later glob (names (drop from path))
    ≡ (matches_path glob (names (drop (from + 1) path)) || path_matches_later glob (names (drop (from + 1) path)))
folders_later glob path from less =
    later_of glob (drop from path) (omega (arith, length-drop from path))
    ∙ ap (λ p. matches_path (folders ∷ glob) (names p)) (drop-drop 1 from path) ∙ folders_split glob (names (drop (from + 1) path))
