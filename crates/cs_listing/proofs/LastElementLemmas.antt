-- A glob whose last element is for one name matches a path if that element matches the last name, and the others those above.
use denote.Ref.{Bor}
use Rattle.std.proofs.Common.{◌≡◌, refl, ℕ, ◌+◌, ◌*◌, ◌≤◌, Bool, true, false, ◌||◌, ◌&&◌, List, [], ◌∷◌, ◌++◌, length, max, sym, ap, ◌∙◌, arith}
use Rattle.std.proofs.Math.Nat.{mul-le-mul_left, mul-le-mul_right}
use Rattle.std.proofs.lemmas.List.{length-append, map-append}
use Rattle.std.specs.List.{IsLastAndRest}
use Rattle.cs_listing.specs.Globs.{GlobToken, matches_name, Element, folders, one, matches_path}
use Rattle.cs_listing.specs.MatchWork.{tokens_work, name_work, largest, longest, pair_work, path_work}
use Rattle.cs_listing.specs.Models.{tokens_of, element_of, glob_of, names}
use Rattle.cs_listing.specs.declared.glob.Token.{Token}
use Rattle.cs_listing.specs.declared.glob.Element.{Element as OwnElement}
use Rattle.cs_listing.proofs.NameLemmas.{or_false}

-- ---- what matches

abbrev with_last : List Element → List GlobToken → List Element
with_last glob tokens = glob ++ one tokens ∷ []

needs_a_name : (glob : List Element) (tokens : List GlobToken) → matches_path (with_last glob tokens) [] ≡ false
needs_a_name [] tokens = refl
needs_a_name (folders ∷ glob) tokens = needs_a_name glob tokens
needs_a_name (one own ∷ glob) tokens = refl

and_false : (a : Bool) → (a && false) ≡ false
and_false true = refl
and_false false = refl

and_or : (a b c : Bool) → (a && b || a && c) ≡ (a && (b || c))
and_or true b c = refl
and_or false b c = refl

and_swap : (a b c : Bool) → (b && (a && c)) ≡ (a && (b && c))
and_swap true b c = refl
and_swap false b c = and_false b

last_matched : (glob : List Element) (tokens : List GlobToken) (above : List (List ℕ)) (name : List ℕ) →
    matches_path (with_last glob tokens) (above ++ name ∷ []) ≡ (matches_name tokens name && matches_path glob above)
last_matched [] tokens [] name = refl
last_matched [] tokens (a ∷ []) name = and_false (matches_name tokens a) ∙ sym (and_false (matches_name tokens name))
last_matched [] tokens (a ∷ b ∷ above) name = and_false (matches_name tokens a) ∙ sym (and_false (matches_name tokens name))
last_matched (folders ∷ glob) tokens [] name =
    ap (λ t. matches_path (with_last glob tokens) (name ∷ []) || t) (needs_a_name glob tokens)
    ∙ or_false (matches_path (with_last glob tokens) (name ∷ [])) ∙ last_matched glob tokens [] name
last_matched (folders ∷ glob) tokens (a ∷ above) name =
    ap (λ t. t || matches_path (folders ∷ with_last glob tokens) (above ++ name ∷ [])) (last_matched glob tokens (a ∷ above) name)
    ∙ ap (λ t. matches_name tokens name && matches_path glob (a ∷ above) || t) (last_matched (folders ∷ glob) tokens above name)
    ∙ and_or (matches_name tokens name) (matches_path glob (a ∷ above)) (matches_path (folders ∷ glob) above)
last_matched (one own ∷ glob) tokens [] name =
    ap (λ t. matches_name own name && t) (needs_a_name glob tokens) ∙ and_false (matches_name own name)
    ∙ sym (and_false (matches_name tokens name))
last_matched (one own ∷ glob) tokens (a ∷ above) name =
    ap (λ t. matches_name own a && t) (last_matched glob tokens above name)
    ∙ and_swap (matches_name tokens name) (matches_name own a) (matches_path glob above)

-- ---- the work

largest_with : (glob : List Element) (tokens : List GlobToken) → largest (with_last glob tokens) ≡ max (tokens_work tokens) (largest glob)
largest_with [] tokens = refl
largest_with (element ∷ glob) tokens = omega (arith, largest_with glob tokens)

longest_with : (above : List (List ℕ)) (name : List ℕ) → longest (above ++ name ∷ []) ≡ max (length name) (longest above)
longest_with [] name = refl
longest_with (a ∷ above) name = omega (arith, longest_with above name)

both : (a b c d : ℕ) → a ≤ c → b ≤ d → a * b ≤ c * d
both a b c d h k = let one = mul-le-mul_right b h in let two = mul-le-mul_left c k in omega (arith, one, two)

-- the last element at the last name, and then the others
both_paid : (n g own end pair all : ℕ) → own ≤ all → end ≤ all → pair ≤ all →
    end + own + (n + 1) * (g + 1) * (pair + 1) ≤ (n + 1 + 1) * (g + 1 + 1) * (all + 1)
both_paid n g own end pair all h e k =
    let more : pair + 1 ≤ all + 1 = omega (arith, k) in
    let rest = mul-le-mul_left ((n + 1) * (g + 1)) more in
    omega (arith, rest, h, e)

last_paid : (glob : List Element) (tokens : List GlobToken) (above : List (List ℕ)) (name : List ℕ) →
    tokens_work tokens + name_work tokens (length name) + path_work glob above ≤ path_work (with_last glob tokens) (above ++ name ∷ [])
last_paid glob tokens above name =
    let large = largest_with glob tokens in
    let long = longest_with above name in
    let own = both (length name + 1) (tokens_work tokens + 1) (longest (above ++ name ∷ []) + 1) (largest (with_last glob tokens) + 1)
    (omega (arith, long)) (omega (arith, large)) in
    let pair = both (longest above + 1) (largest glob + 1) (longest (above ++ name ∷ []) + 1) (largest (with_last glob tokens) + 1)
    (omega (arith, long)) (omega (arith, large)) in
    let end : tokens_work tokens ≤ pair_work (with_last glob tokens) (above ++ name ∷ []) =
    omega (arith, own, mul-le-mul_right (tokens_work tokens + 1) (let one : 1 ≤ length name + 1 = omega arith in one)) in
    let all = both_paid (length above) (length glob) _ _ _ _ own end pair in
    let n = length-append above (name ∷ []) in
    let g = length-append glob (one tokens ∷ []) in
    (rw (n, g) all)

-- ---- by the lists of the code

abbrev IsSplit : List OwnElement → List OwnElement → List Token → List (Bor (List ℕ)) → List (Bor (List ℕ)) → List ℕ → Type 0
IsSplit glob elements tokens path above name =
    (glob_of glob ≡ with_last (glob_of elements) (tokens_of tokens)) × (names path ≡ names above ++ name ∷ [])

pub split_of : (glob elements : List OwnElement) (element : OwnElement) (tokens : List Token) (path above : List (Bor (List ℕ))) (name : Bor (List ℕ)) →
    IsLastAndRest glob element elements → element_of element ≡ one (tokens_of tokens) → IsLastAndRest path name above →
    IsSplit glob elements tokens path above name.now
split_of glob elements element tokens path above name last is taken = (
  ap glob_of last.0 ∙ map-append element_of elements (element ∷ []) ∙ ap (λ e. glob_of elements ++ e ∷ []) is,
  ap names taken.0 ∙ map-append (λ (n : Bor (List ℕ)). n.now) above (name ∷ []),
)

pub last_first : (glob elements : List OwnElement) (tokens : List Token) (path above : List (Bor (List ℕ))) (name : List ℕ) →
    IsSplit glob elements tokens path above name →
    matches_path (glob_of glob) (names path) ≡ (matches_name (tokens_of tokens) name && matches_path (glob_of elements) (names above))
last_first glob elements tokens path above name parts =
    ap (λ g. matches_path g (names path)) parts.0 ∙ ap (matches_path (with_last (glob_of elements) (tokens_of tokens))) parts.1
    ∙ last_matched (glob_of elements) (tokens_of tokens) (names above) name

pub last_first_paid : (glob elements : List OwnElement) (tokens : List Token) (path above : List (Bor (List ℕ))) (name : List ℕ) →
    IsSplit glob elements tokens path above name →
    tokens_work (tokens_of tokens) + name_work (tokens_of tokens) (length name) + path_work (glob_of elements) (names above)
    ≤ path_work (glob_of glob) (names path)
last_first_paid glob elements tokens path above name parts =
    (rw (parts.0, parts.1) (last_paid (glob_of elements) (tokens_of tokens) (names above) name))
