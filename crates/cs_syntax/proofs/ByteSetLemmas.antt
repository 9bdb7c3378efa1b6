-- Sets of bytes, as lists of membership values.
use Rattle.std.proofs.Common.{◌≡◌, ℕ, zero, suc, ◌+◌, ◌<◌, ◌||◌, Bool, true, false, true≢false, cond, List, [], ◌∷◌, map, max, length, get_or, refl, sym, ◌∙◌, ap, inl, inr, arith, zero-add}
use Rattle.std.proofs.Math.Nat.{le-max_left, le-max_right}
use Rattle.std.proofs.lemmas.List.{get_or_past}
use Rattle.std.proofs.lemmas.List.FromFn.{get_or-map-range_with_len, length-map-range_with_len}
use Rattle.std.proofs.lemmas.Bool.{false_from_ne_true, cases_lt}
use Rattle.std.proofs.lemmas.List.Sums.{sum_by-cons}
use Rattle.std.specs.List.{range_with_len}
use Rattle.cs_syntax.specs.Members.{count, IsOnly}
use Rattle.cs_syntax.specs.Matching.{member}
use Rattle.cs_syntax.specs.ByteSet.{set_of, union}

-- the values of f at from, from + 1, .., n values in all
abbrev answers : (ℕ → Bool) → ℕ → ℕ → List Bool
answers f from zero = []
answers f from (suc n) = f from ∷ answers f (suc from) n

ranged : (f : ℕ → Bool) (from n : ℕ) → map f (range_with_len from n) ≡ answers f from n
ranged f from zero = refl
ranged f from (suc n) =
    let next : from + 1 ≡ suc from = omega arith in
    ap (λ k. f from ∷ map f (range_with_len k n)) next ∙ ap (λ xs. f from ∷ xs) (ranged f (suc from) n)

pub length-answers : (f : ℕ → Bool) (from n : ℕ) → length (answers f from n) ≡ n
length-answers f from zero = refl
length-answers f from (suc n) = ap suc (length-answers f (suc from) n)

pub answers_at : (f : ℕ → Bool) (from n k : ℕ) → k < n → get_or (answers f from n) k false ≡ f (from + k)
answers_at f from zero k h = absurd (omega arith)
answers_at f from (suc n) zero h = let e : from ≡ from + 0 = omega arith in ap f e
answers_at f from (suc n) (suc k) h =
    let e : suc from + k ≡ from + suc k = omega arith in
    answers_at f (suc from) n k (omega arith) ∙ ap f e

pub answers_from : (f : ℕ → Bool) (from n : ℕ) (xs : List Bool) → length xs ≡ n →
    ((k : ℕ) → k < n → get_or xs k false ≡ f (from + k)) → xs ≡ answers f from n
answers_from f from zero [] e h = refl
answers_from f from zero (x ∷ xs) e h = absurd (omega arith)
answers_from f from (suc n) [] e h = absurd (omega arith)
answers_from f from (suc n) (x ∷ xs) e h =
    let head : from + 0 ≡ from = omega arith in
    let first = h 0 (omega arith) ∙ ap f head in
    let rest = answers_from f (suc from) n xs (omega arith) (λ k lt. let s : from + suc k ≡ suc from + k =
    omega arith in h (suc k) (omega arith) ∙ ap f s) in
    cc

pub set_from : (f : ℕ → Bool) (xs : List Bool) → length xs ≡ 256 → ((k : ℕ) → k < 256 → get_or xs k false ≡ f k) → xs ≡ set_of f
unfolding set_of
set_from f xs e h =
    answers_from f 0 256 xs e (λ k lt. let s : k ≡ 0 + k = omega arith in h k lt ∙ ap f s) ∙ sym (ranged f 0 256)

pub set_of_at : (f : ℕ → Bool) (k : ℕ) → k < 256 → get_or (set_of f) k false ≡ f k
unfolding set_of
set_of_at f k lt =
    let s : 0 + k ≡ k = omega arith in
    ap (λ xs. get_or xs k false) (ranged f 0 256) ∙ answers_at f 0 256 k lt ∙ ap f s

pub length-set_of : (f : ℕ → Bool) → length (set_of f) ≡ 256
unfolding set_of
length-set_of f = ap length (ranged f 0 256) ∙ length-answers f 0 256

-- predicates that agree on all bytes have the same set
pub set_of-agree : (f g : ℕ → Bool) → ((b : ℕ) → b < 256 → f b ≡ g b) → set_of f ≡ set_of g
set_of-agree f g h = set_from g (set_of f) (length-set_of f) (λ b lt. set_of_at f b lt ∙ h b lt)

-- ---- the number of members, and the only member

counts_in : (set : List Bool) → count (true ∷ set) ≡ 1 + count set
counts_in set = sum_by-cons (λ (x : Bool). cond x 1 0) true set

counts_out : (set : List Bool) → count (false ∷ set) ≡ count set
counts_out set = sum_by-cons (λ (x : Bool). cond x 1 0) false set ∙ zero-add (count set)

none_counts : (set : List Bool) → ((b : ℕ) → member set b ≡ false) → count set ≡ 0
none_counts [] h = refl
none_counts (true ∷ set) h = absurd (true≢false (h 0))
none_counts (false ∷ set) h = counts_out set ∙ none_counts set (λ b. h (suc b))

member_counts : (set : List Bool) (b : ℕ) → member set b ≡ true → 0 < count set
member_counts [] b m = absurd (true≢false (sym m))
member_counts (true ∷ set) b m = omega (arith, counts_in set)
member_counts (false ∷ set) zero m = absurd (true≢false (sym m))
member_counts (false ∷ set) (suc b) m = omega (arith, counts_out set, member_counts set b m)

pub only_counts : (set : List Bool) (b : ℕ) → IsOnly set b → count set ≡ 1
only_counts [] b o = absurd (true≢false (sym o.0))
only_counts (true ∷ set) b o =
    counts_in set ∙ ap (λ n. 1 + n) (none_counts set (λ k. false_from_ne_true (member set k) (λ m.
    let first : 0 ≡ b = o.1 0 refl in
    let later : suc k ≡ b = o.1 (suc k) m in
    omega (arith, first, later))))
only_counts (false ∷ set) zero o = absurd (true≢false (sym o.0))
only_counts (false ∷ set) (suc b) o =
    let rest : IsOnly set b = (o.0, λ k m. let e : suc k ≡ suc b = o.1 (suc k) m in omega (arith, e)) in
    counts_out set ∙ only_counts set b rest

-- in a set of one member, each member is the only one
pub one_is_only : (set : List Bool) → count set ≡ 1 → (b : ℕ) → member set b ≡ true → IsOnly set b
one_is_only set e b m = (m, λ k n. same set e k b n m)
  where
    same : (set : List Bool) → count set ≡ 1 → (a b : ℕ) → member set a ≡ true → member set b ≡ true → a ≡ b
    same [] e a b m n = absurd (true≢false (sym m))
    same (true ∷ set) e zero zero m n = refl
    same (true ∷ set) e zero (suc b) m n = absurd (omega (arith, e, counts_in set, member_counts set b n))
    same (true ∷ set) e (suc a) b m n = absurd (omega (arith, e, counts_in set, member_counts set a m))
    same (false ∷ set) e zero b m n = absurd (true≢false (sym m))
    same (false ∷ set) e (suc a) zero m n = absurd (true≢false (sym n))
    same (false ∷ set) e (suc a) (suc b) m n = ap suc (same set (sym (counts_out set) ∙ e) a b m n)

-- the set of what both sets of 256 bytes have
pub union_of_bytes : (s t : List Bool) → length s ≡ 256 → length t ≡ 256 → set_of (λ b. member s b || member t b) ≡ union s t
unfolding set_of union
union_of_bytes s t long wide =
    let most : 256 ≡ max (length s) (length t) = rw (long, wide) refl in
    ap (λ n. map (λ b. member s b || member t b) (range_with_len 0 n)) most

pub member_union : (s t : List Bool) (b : ℕ) → member (union s t) b ≡ (member s b || member t b)
unfolding union
member_union s t b =
    let f : ℕ → Bool = λ b. member s b || member t b in
    let n = max (length s) (length t) in
    elim (cases_lt b n) [
      | inl lt ↦ get_or-map-range_with_len f 0 n b b false lt (omega arith)
      | inr past ↦
          get_or_past (map f (range_with_len 0 n)) b false (omega (arith, length-map-range_with_len f 0 n))
          ∙ sym (ap (λ x. x || member t b) (get_or_past s b false (omega (arith, le-max_left (length s) (length t))))
          ∙ get_or_past t b false (omega (arith, le-max_right (length s) (length t))))
    ]
