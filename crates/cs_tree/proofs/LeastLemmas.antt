-- The laws of `least`.
use Rattle.std.specs.Prelude.{bytes_eq}
use Rattle.std.proofs.Common.{◌≡◌, ℕ, zero, suc, ◌<◌, ◌≤◌, true, not, ◌&&◌, ◌||◌, List, length, sym, ap, subst, ◌∙◌, inl, inr, arith}
use Rattle.cs_tree.specs.PathSet.{Paths}
use Rattle.std.proofs.lemmas.Bool.{and_parts, or_cases, cases_Bool, and_from, or_left, or_right, false_from_ne_true, not-true, not-false, not_from_false, both_ways, true_from_ne_false}
use Rattle.std.specs.Cmp.{both_ways as same_tests}
use Rattle.std.specs.Cmp.Lexicographic.{bytes_decides}
use Rattle.cs_tree.specs.PathSet as set
use Rattle.cs_tree.specs.Cover.{covers, is_alone, is_covered, least}
use Rattle.cs_tree.proofs.CoverLemmas.{covers_refl, covers_trans, covers_longer, covers_both}
use Rattle.cs_tree.proofs.PathSetLemmas.{Passes, some_member, member_satisfies, contains_retained, same_set, contains-union}

-- a member that no other one covers
pub record IsLeast (paths : Paths) (path : List ℕ) : Type 0 where
  pub member : set.contains paths path ≡ true
  pub alone : (other : List ℕ) → set.contains paths other ≡ true → covers other path ≡ true → other ≡ path

pub least_says : (paths : Paths) (path : List ℕ) → set.contains (least paths) path ≡ true → IsLeast paths path
least_says paths path h =
    let parts = and_parts (set.contains paths path) (is_alone (set.items paths) path)
    (sym (contains_retained paths (is_alone (set.items paths)) path) ∙ h) in
    record {
      member = parts.0;
      alone = λ other member covering.
          (bytes_decides other path).0 (true_from_ne_false (bytes_eq other path) (λ apart.
          both_ways _ (not-true _ parts.1) (member_satisfies paths (λ one. covers one path && not (bytes_eq one path))
          other member (and_from (covers other path) _ covering (not_from_false (bytes_eq other path) apart)))));
    }

pub least_from : (paths : Paths) (path : List ℕ) → IsLeast paths path → set.contains (least paths) path ≡ true
least_from paths path h =
    contains_retained paths (is_alone (set.items paths)) path
    ∙ and_from (set.contains paths path) _ h.member (not_from_false _ (false_from_ne_true _ (λ one.
    let found = some_member paths (λ other. covers other path && not (bytes_eq other path)) one in
    let parts = and_parts (covers found.path path) (not (bytes_eq found.path path)) found.accepts in
    both_ways (bytes_eq found.path path) (not-true _ parts.1)
    ((bytes_decides found.path path).1 (h.alone found.path found.member parts.0)))))

-- a least path covers each covered name
step : (fuel : ℕ) (paths : Paths) (path name : List ℕ) →
    ((path : List ℕ) → length path < fuel → set.contains paths path ≡ true → covers path name ≡ true →
    Passes (least paths) (λ p. covers p name)) → length path ≤ fuel → set.contains paths path ≡ true → covers path name
    ≡ true → Passes (least paths) (λ p. covers p name)
step fuel paths path name lower bound member covering =
    elim (cases_Bool (is_alone (set.items paths) path)) [
      | inl alone ↦ record {
        path = path;
        member = contains_retained paths (is_alone (set.items paths)) path
            ∙ and_from (set.contains paths path) _ member alone;
        accepts = covering;
      }
      | inr not_alone ↦
          let found = some_member paths (λ other. covers other path && not (bytes_eq other path)) (not-false _ not_alone) in
          let parts = and_parts (covers found.path path) (not (bytes_eq found.path path)) found.accepts in
          elim (covers_longer found.path path parts.0) [
            | inl e ↦ absurd (both_ways (bytes_eq found.path path) (not-true _ parts.1) ((bytes_decides found.path path).1 e))
            | inr shorter ↦ lower found.path (omega (arith, shorter, bound)) found.member
                (covers_trans found.path path name parts.0 covering)
          ]
    ]

down : (fuel : ℕ) (paths : Paths) (path name : List ℕ) → length path ≤ fuel → set.contains paths path ≡ true →
    covers path name ≡ true → Passes (least paths) (λ p. covers p name)
down zero paths path name bound member covering = step 0 paths path name (λ p short. absurd (omega (arith, short))) bound member covering
down (suc fuel) paths path name bound member covering =
    step (suc fuel) paths path name (λ p short. down fuel paths p name (omega (arith, short))) bound member covering

covered_least : (paths : Paths) (name : List ℕ) → is_covered paths name ≡ true → is_covered (least paths) name ≡ true
covered_least paths name h =
    let found = some_member paths (λ p. covers p name) h in
    let low = down (length found.path) paths found.path name (omega arith) found.member found.accepts in
    member_satisfies (least paths) (λ p. covers p name) low.path low.member low.accepts

least_covered : (paths : Paths) (name : List ℕ) → is_covered (least paths) name ≡ true → is_covered paths name ≡ true
least_covered paths name h =
    let found = some_member (least paths) (λ p. covers p name) h in
    member_satisfies paths (λ p. covers p name) found.path (least_says paths found.path found.member).member found.accepts

-- a set of paths and its least paths cover the same names
pub covered-least : (paths : Paths) (name : List ℕ) → is_covered (least paths) name ≡ is_covered paths name
covered-least paths name = same_tests _ _ (least_covered paths name) (covered_least paths name)

-- least paths are determined by the names that they cover
least_within : (a b : Paths) → ((name : List ℕ) → is_covered a name ≡ is_covered b name) → (q : List ℕ) →
    set.contains (least a) q ≡ true → set.contains (least b) q ≡ true
least_within a b alike q h =
    let low = least_says a q h in
    let over = some_member b (λ p. covers p q) (sym (alike q) ∙ member_satisfies a (λ p. covers p q) q low.member (covers_refl q)) in
    -- a path of b that covers q is q, by a path of a that covers it
    let is_q : (t : List ℕ) → set.contains b t ≡ true → covers t q ≡ true → t ≡ q = λ t member covering.
    let back = some_member a (λ p. covers p t) (alike t ∙ member_satisfies b (λ p. covers p t) t member (covers_refl t)) in
    let same_q = low.alone back.path back.member (covers_trans back.path t q back.accepts covering) in
    covers_both t q covering (subst (λ u. covers u t ≡ true) same_q back.accepts) in
    least_from b q (record {
      member = subst (λ u. set.contains b u ≡ true) (is_q over.path over.member over.accepts)
          over.member;
      alone = is_q;
    })

pub least_is_unique : (a b : Paths) → ((name : List ℕ) → is_covered a name ≡ is_covered b name) → least a ≡ least b
least_is_unique a b h =
    same_set (least a) (least b) (λ q. same_tests _ _ (least_within a b h q) (least_within b a (λ n. sym (h n)) q))

list_any_union : (a b : Paths) (name : List ℕ) → is_covered (set.union a b) name ≡ true → (is_covered a name || is_covered b name) ≡ true
list_any_union a b name h =
    let found = some_member (set.union a b) (λ p. covers p name) h in
    elim (or_cases (set.contains a found.path) (set.contains b found.path) (sym (contains-union a b found.path) ∙ found.member)) [
      | inl here ↦ or_left (is_covered a name) _ (member_satisfies a (λ p. covers p name) found.path here found.accepts)
      | inr there ↦ or_right (is_covered a name) _ (member_satisfies b (λ p. covers p name) found.path there found.accepts)
    ]

union_list_any : (a b : Paths) (name : List ℕ) → (is_covered a name || is_covered b name) ≡ true → is_covered (set.union a b) name ≡ true
union_list_any a b name h =
    elim (or_cases (is_covered a name) (is_covered b name) h) [
      | inl here ↦ let found = some_member a (λ p. covers p name) here in
          member_satisfies (set.union a b) (λ p. covers p name) found.path
          (contains-union a b found.path ∙ or_left _ _ found.member) found.accepts
      | inr there ↦ let found = some_member b (λ p. covers p name) there in
          member_satisfies (set.union a b) (λ p. covers p name) found.path
          (contains-union a b found.path ∙ or_right _ _ found.member) found.accepts
    ]

pub covered-union : (a b : Paths) (name : List ℕ) → is_covered (set.union a b) name ≡ (is_covered a name || is_covered b name)
covered-union a b name = same_tests _ _ (list_any_union a b name) (union_list_any a b name)

-- the least paths of a union do not change if the least paths of both sets are taken first
pub least-union : (a b : Paths) → least (set.union (least a) (least b)) ≡ least (set.union a b)
least-union a b = least_is_unique _ _ (λ name.
    covered-union (least a) (least b) name ∙ ap (λ t. t || is_covered (least b) name) (covered-least a name)
    ∙ ap (λ t. is_covered a name || t) (covered-least b name) ∙ sym (covered-union a b name))
