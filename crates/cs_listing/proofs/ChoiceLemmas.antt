-- What the user chooses: globs below the current folder.
use denote.Ref.{Bor}
use Rattle.std.specs.Prelude.{Some, None, is_some, unwrap_or, String, string_bytes, bytes_eq}
use Rattle.std.specs.declared.alloc.Global.{Global}
use Rattle.std.proofs.Common.{◌≡◌, refl, ℕ, ◌+◌, ◌<◌, ◌≤◌, Bool, true, false, not, cond, List, [], ◌∷◌, map, length, take, drop, get_or, ◌-◌, sym, ap, ◌∙◌, arith}
use Rattle.std.proofs.lemmas.List.{drop_more, drop_all, length-map, length-drop, take_rest, drop-map}
use Rattle.cs_listing.specs.Choices.{after, relative_to}
use Rattle.cs_listing.specs.Models.{names}

-- the names of a folder from one on
abbrev pub names_from : List (String Global) → ℕ → List (List ℕ)
names_from folder i = map string_bytes (drop i folder)

-- whether what is left of a path follows what is left of a folder
abbrev pub follows : List (String Global) → List (List ℕ) → ℕ → Bool
follows folder path i = is_some (after (names_from folder i) (drop i path))

one_more : (folder : List (String Global)) (path : List (Bor (List ℕ))) (i : ℕ) (name : String Global) (d : Bor (List ℕ)) (text : List ℕ) →
    i < length folder → i < length path → name ≡ get_or folder i name → text ≡ string_bytes name →
    follows folder (names path) i
    ≡ is_some (cond (bytes_eq text (get_or path i d).now) (after (names_from folder (i + 1)) (drop (i + 1) (names path))) None)
one_more folder path i name d text low within is at =
    ap (λ fs. is_some (after (map string_bytes fs) (drop i (names path)))) (drop_more folder i name low ∙ ap (λ n. n ∷ drop (i + 1) folder) (sym is))
    ∙ ap (λ ns. is_some (after (string_bytes name ∷ names_from folder (i + 1)) ns))
    (drop-map (λ (own : Bor (List ℕ)). own.now) i path
    ∙ ap names (drop_more path i d within)
    ∙ ap (λ ns. (get_or path i d).now ∷ ns) (sym (drop-map (λ (own : Bor (List ℕ)). own.now) (i + 1) path)))
    ∙ ap (λ t. is_some (cond (bytes_eq t (get_or path i d).now) (after (names_from folder (i + 1)) (drop (i + 1) (names path))) None)) (sym at)

by_not : (p b : Bool) → not p ≡ b → p ≡ not b
by_not true b e = ap not e
by_not false b e = ap not e

pub name_follows : (folder : List (String Global)) (path : List (Bor (List ℕ))) (i : ℕ) (name : String Global) (d : Bor (List ℕ)) (text : List ℕ) →
    i < length folder → i < length path → name ≡ get_or folder i name → text ≡ string_bytes name →
    not (bytes_eq text (get_or path i d).now) ≡ false → follows folder (names path) i ≡ follows folder (names path) (i + 1)
name_follows folder path i name d text low within is at same =
    one_more folder path i name d text low within is at
    ∙ ap (λ b. is_some (cond b (after (names_from folder (i + 1)) (drop (i + 1) (names path))) None)) (by_not (bytes_eq text (get_or path i d).now) false same)

pub name_differs : (folder : List (String Global)) (path : List (Bor (List ℕ))) (i : ℕ) (name : String Global) (d : Bor (List ℕ)) (text : List ℕ) →
    i < length folder → i < length path → name ≡ get_or folder i name → text ≡ string_bytes name →
    not (bytes_eq text (get_or path i d).now) ≡ true → follows folder (names path) i ≡ false
name_differs folder path i name d text low within is at other =
    one_more folder path i name d text low within is at
    ∙ ap (λ b. is_some (cond b (after (names_from folder (i + 1)) (drop (i + 1) (names path))) None)) (by_not (bytes_eq text (get_or path i d).now) true other)

some_more : (ns : List (List ℕ)) → 0 < length ns → is_some (after ns []) ≡ false
some_more [] some = absurd (omega (arith, some))
some_more (n ∷ ns) some = refl

pub path_ends : (folder : List (String Global)) (path : List (Bor (List ℕ))) (i : ℕ) → i < length folder → length path ≤ i →
    follows folder (names path) i ≡ false
path_ends folder path i low past =
    ap (λ ns. is_some (after (names_from folder i) ns)) (drop_all i (names path) (omega (arith, past, length-map path (λ (own : Bor (List ℕ)). own.now))))
    ∙ some_more (names_from folder i) (omega (arith, low, length-map (drop i folder) string_bytes, length-drop i folder))

-- what follows is what is left
after_drops : (prefix path : List (List ℕ)) → is_some (after prefix path) ≡ true →
    (after prefix path ≡ Some (drop (length prefix) path)) × (length prefix ≤ length path)
after_drops [] path is = (refl, omega arith)
after_drops (first ∷ prefix) [] is = cc
after_drops (first ∷ prefix) (name ∷ path) is = by_case (bytes_eq first name) is (after_drops prefix path)
  where
    by_case : (same : Bool) → is_some (cond same (after prefix path) None) ≡ true →
        (is_some (after prefix path) ≡ true → (after prefix path ≡ Some (drop (length prefix) path)) × (length prefix ≤ length path)) →
        (cond same (after prefix path) None ≡ Some (drop (length prefix) path)) × (length (first ∷ prefix) ≤ length (name ∷ path))
    by_case true is rest = ((rest is).0, omega (arith, (rest is).1))
    by_case false is rest = cc

pub is_within : (folder : List (String Global)) (path : List (Bor (List ℕ))) →
    is_some (after (map string_bytes folder) (names path)) ≡ true → length folder ≤ length path
is_within folder path is =
    omega (
      arith,
      (after_drops (map string_bytes folder) (names path) is).1,
      length-map folder string_bytes,
      length-map path (λ (name : Bor (List ℕ)). name.now),
    )

pub below_is : (folder : List (String Global)) (path : List (Bor (List ℕ))) →
    is_some (after (map string_bytes folder) (names path)) ≡ true →
    names (take (length path - length folder) (drop (length folder) path)) ≡ relative_to (map string_bytes folder) (names path)
below_is folder path is =
    ap names (take_rest path (length folder))
    ∙ sym (drop-map (λ (name : Bor (List ℕ)). name.now) (length folder) path)
    ∙ sym (ap (λ n. drop n (names path)) (length-map folder string_bytes))
    ∙ sym (ap (λ o. unwrap_or o (names path)) (after_drops (map string_bytes folder) (names path) is).0)
