-- Which names can be learned.
use Rattle.std.proofs.Common.{◌≡◌, ◌≢◌, ◌<◌, ℕ, zero, suc, Bool, true, false, List, [], ◌∷◌, length, refl, sym, arith, nat_lt}
use Rattle.std.specs.Prelude.{◌↔◌, IsTrue, IsUtf8}
use Rattle.std.specs.List.{AllByRecursion, list_all}
use Rattle.std.proofs.lemmas.Bool.{and_from, and_parts, le-leb, leb-true, lt-ltb, ltb-true}
use Rattle.cs_state.specs.StampedNames.{IsLearnable, IsUnmarked}
use Rattle.cs_update.specs.Learning.{is_learnable}

-- ---- bytes above 1

all_above : (name : List ℕ) → AllByRecursion (λ b. 0 < b) name → IsUnmarked name → list_all (λ b. nat_lt 1 b) name ≡ true
all_above [] some unmarked = refl
all_above (b ∷ name) some unmarked =
    and_from (nat_lt 1 b) (list_all (λ x. nat_lt 1 x) name) (above b some.0 unmarked.0) (all_above name some.1 unmarked.1)
  where
    above : (b : ℕ) → 0 < b → b ≢ 1 → nat_lt 1 b ≡ true
    above zero low other = absurd (omega (arith, low))
    above (suc zero) low other = absurd (other refl)
    above (suc (suc b)) low other = lt-ltb 1 (suc (suc b)) (omega arith)

above_both : (name : List ℕ) → list_all (λ b. nat_lt 1 b) name ≡ true → AllByRecursion (λ b. 0 < b) name × IsUnmarked name
above_both [] all = (tt, tt)
above_both (b ∷ name) all =
    let both = and_parts (nat_lt 1 b) (list_all (λ x. nat_lt 1 x) name) all in
    let rest = above_both name both.1 in
    let one = below b both.0 in ((one.0, rest.0), (one.1, rest.1))
  where
    below : (b : ℕ) → nat_lt 1 b ≡ true → (0 < b) × (b ≢ 1)
    below b e = let low = ltb-true 1 b e in (omega (arith, low), λ same. absurd (omega (arith, low, same)))

-- ---- names

learnable_is : (name : List ℕ) → IsLearnable name → is_learnable name ≡ true
learnable_is name is = and_from _ _ (and_from _ _ is.absolute (all_above name is.string.1 is.unmarked)) (le-leb (length name) 4000 is.short)

learnable_so : (name : List ℕ) → IsUtf8 name → is_learnable name ≡ true → IsLearnable name
learnable_so [] utf8 is = cc
learnable_so (b ∷ name) utf8 is =
    let last = and_parts _ _ is in
    let first = and_parts _ _ last.0 in
    let both = above_both (b ∷ name) first.1 in
    record {
      absolute = first.0;
      string = ((λ e. cc), both.0, utf8);
      unmarked = both.1;
      short = leb-true (length (b ∷ name)) 4000 last.1;
    }

-- the test of a name is exact
pub test_is : (name : List ℕ) (test : Bool) → IsUtf8 name → (IsTrue test ↔ IsLearnable name) → test ≡ is_learnable name
test_is name true utf8 iff = sym (learnable_is name (iff.0 refl))
test_is name false utf8 iff = by_value (is_learnable name) refl
  where
    by_value : (b : Bool) → is_learnable name ≡ b → false ≡ b
    by_value true e = iff.1 (learnable_so name utf8 e)
    by_value false e = refl
