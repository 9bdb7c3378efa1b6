-- The work of matching: what is left to pay for falls with each step.
use Rattle.std.proofs.Common.{◌≡◌, ℕ, zero, suc, ◌+◌, ◌-◌, ◌*◌, ◌≤◌, ◌<◌, List, [], ◌∷◌, length, drop, sym, ap, ◌∙◌, subst, arith}
use Rattle.std.proofs.Math.Nat.{mul-le-mul_left, mul-le-mul_right}
use Rattle.std.proofs.lemmas.List.{length-map}
use denote.Ref.{Bor}
use Rattle.std.specs.List.{IsFirstAndRest}
use Rattle.cs_listing.specs.Globs.{GlobToken, Element, one}
use Rattle.cs_listing.specs.MatchWork.{tokens_work, name_work, largest, longest, pair_work, path_work}
use Rattle.cs_listing.specs.Models.{tokens_of, element_of, glob_of, names}
use Rattle.cs_listing.specs.declared.glob.Token.{Token}
use Rattle.cs_listing.specs.declared.glob.Element.{Element as OwnElement}

-- one byte less
pub paid_again : (from more w : ℕ) → more + 1 ≡ from → more * (w + 1) + w + 1 ≡ from * (w + 1)
paid_again from more w e = ap (λ x. x) (omega (arith, ap (λ n. n * (w + 1)) e))

-- after the first star
pub paid_first : (name rest w later : ℕ) → rest ≤ name → later ≤ w → w + (rest + 1) * (later + 1) ≤ later + (name + 1) * (w + 1)
paid_first name rest w later shorter fewer =
    let more : rest * later ≤ name * later = mul-le-mul_right later shorter in
    let all : name * later ≤ name * w = mul-le-mul_left name fewer in
    omega (arith, more, all)

-- ---- paths

-- a step that is paid for
pub paid : (c before after left later all : ℕ) → before + left * c ≤ all → after ≤ before + c → later + 1 ≤ left → after + later * c ≤ all
paid c before after left later all so_far step fewer = let more = mul-le-mul_right c fewer in omega (arith, so_far, step, more)

-- what is left falls at `**`, and after a mismatch
pub falls_at_star : (n from at g left later : ℕ) → from ≤ at → later + 1 ≤ left → (n - at) * (g + 1) + later + 1 ≤ (n - from) * (g + 1) + left
falls_at_star n from at g left later h fewer =
    let shorter : n - at ≤ n - from = omega arith in
    let more = mul-le-mul_right (g + 1) shorter in omega (arith, more)

pub falls_again : (n from g left after : ℕ) → from < n → after ≤ g → (n - (from + 1)) * (g + 1) + after + 1 ≤ (n - from) * (g + 1) + left
falls_again n from g left after less fewer =
    let one : (n - (from + 1)) + 1 ≡ n - from = omega arith in
    let more = paid_again (n - from) (n - (from + 1)) g one in omega (arith, more)

-- the last step
pub paid_last : (c n from g left before after start : ℕ) → before + ((n - from) * (g + 1) + left) * c ≤ start + (n * (g + 1) + g) * c →
    after ≤ before + c → after ≤ start + (n + 1) * (g + 1) * c
paid_last c n from g left before after start so_far step =
    let none : before ≤ start + (n * (g + 1) + g) * c = omega (arith, so_far) in omega (arith, none, step)

-- after the first `**`
pub paid_path : (c n r g l before after start : ℕ) → before + l * c ≤ start + g * c → after ≤ before + (r + 1) * (l + 1) * c → r ≤ n →
    l ≤ g → after ≤ start + (n + 1) * (g + 1) * c
paid_path c n r g l before after start so_far step shorter fewer =
    let all = mul-le-mul_right c (paid_first n r g l shorter fewer) in omega (arith, all, so_far, step)

-- ---- the largest element and the longest name

both : (a b c d : ℕ) → a ≤ c → b ≤ d → a * b ≤ c * d
both a b c d h k = let one = mul-le-mul_right b h in let two = mul-le-mul_left c k in omega (arith, one, two)

-- an element and a name of a glob and a path
pub pair_paid : (tokens : List GlobToken) (later : List Element) (name : List ℕ) (rest : List (List ℕ)) →
    name_work tokens (length name) ≤ pair_work (one tokens ∷ later) (name ∷ rest)
pair_paid tokens later name rest =
    both (length name + 1) (tokens_work tokens + 1) (longest (name ∷ rest) + 1) (largest (one tokens ∷ later) + 1) (omega arith) (omega arith)

-- the first element and the first name
pub pair_of : (glob later : List OwnElement) (tokens : List Token) (path rest : List (Bor (List ℕ))) (name : Bor (List ℕ)) →
    glob_of glob ≡ one (tokens_of tokens) ∷ glob_of later → IsFirstAndRest path name rest →
    name_work (tokens_of tokens) (length name.now) ≤ pair_work (glob_of glob) (names path)
pair_of glob later tokens path rest name first taken =
    subst (λ e. name_work (tokens_of tokens) (length name.now) ≤ pair_work e (names path)) (sym first)
    (subst (λ p. name_work (tokens_of tokens) (length name.now) ≤ pair_work (one (tokens_of tokens) ∷ glob_of later) (names p))
    (sym taken.0) (pair_paid (tokens_of tokens) (glob_of later) name.now (names rest)))

longest_drop : (k : ℕ) (path : List (Bor (List ℕ))) → longest (names (drop k path)) ≤ longest (names path)
longest_drop zero path = omega arith
longest_drop (suc k) [] = omega arith
longest_drop (suc k) (name ∷ path) = omega (arith, longest_drop k path)

-- a part of a glob and the rest of a path
pub pair_less : (left glob : List Element) (k : ℕ) (path : List (Bor (List ℕ))) → largest left ≤ largest glob →
    pair_work left (names (drop k path)) ≤ pair_work glob (names path)
pair_less left glob k path h =
    both (longest (names (drop k path)) + 1) (largest left + 1) (longest (names path) + 1) (largest glob + 1)
    (omega (arith, longest_drop k path)) (omega (arith, h))

-- the work of a path, by the lists of the code
pub path_work_is : (glob : List OwnElement) (path : List (Bor (List ℕ))) →
    path_work (glob_of glob) (names path) ≡ (length path + 1) * (length glob + 1) * (pair_work (glob_of glob) (names path) + 1)
path_work_is glob path =
    ap (λ n. (n + 1) * (length (glob_of glob) + 1) * (pair_work (glob_of glob) (names path) + 1))
    (length-map path (λ (name : Bor (List ℕ)). name.now))
    ∙ ap (λ n. (length path + 1) * (n + 1) * (pair_work (glob_of glob) (names path) + 1)) (length-map glob element_of)

-- matching the rest of a path against a part of a glob
pub path_less : (left glob : List OwnElement) (k : ℕ) (path : List (Bor (List ℕ))) → largest (glob_of left) ≤ largest (glob_of glob) →
    path_work (glob_of left) (names (drop k path)) ≤ (length (drop k path) + 1) * (length left + 1) * (pair_work (glob_of glob) (names path) + 1)
path_less left glob k path h =
    let less : pair_work (glob_of left) (names (drop k path)) + 1 ≤ pair_work (glob_of glob) (names path) + 1
    = omega (arith, pair_less (glob_of left) (glob_of glob) k path h) in
    let all = mul-le-mul_left ((length (drop k path) + 1) * (length left + 1)) less in
    omega (arith, path_work_is left (drop k path), all)

-- a step, if no other one follows
pub paid_short : (c n g left before after start : ℕ) → before + left * c ≤ start + g * c → after ≤ before + c →
    after ≤ start + (n + 1) * (g + 1) * c
paid_short c n g left before after start so_far step =
    let none : before ≤ start + g * c = omega (arith, so_far) in omega (arith, none, step)
