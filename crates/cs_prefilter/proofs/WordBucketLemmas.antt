-- The buckets of the words of a list.
use Rattle.std.proofs.Common.{◌≡◌, ℕ, zero, suc, ◌+◌, ◌*◌, ◌/◌, ◌<◌, ◌≤◌, inl, inr, List, [], ◌∷◌, length, get_or, refl, arith}
use Rattle.std.proofs.Math.Nat.{add-mul}
use Rattle.std.proofs.lemmas.Nat.{mul-le, div-add-mod', mod_below, div_below}
use Rattle.std.proofs.lemmas.Bool.{cases_lt}
use Rattle.cs_prefilter.specs.WordBuckets.{IsInPart, StartsPart}

-- each word is in a bucket
pub in_a_part : (n i : ℕ) → i < n → (bucket : ℕ) × (bucket < 8) × IsInPart n bucket i
in_a_part n i within =
    let whole = div-add-mod' (i * 8) n in
    let rest = mod_below (i * 8) n (omega (arith, within)) in
    let next = add-mul (i * 8 / n) 1 n in
    (i * 8 / n, div_below (i * 8) n 8 (omega (arith, within)) (omega (arith, within)), record { low = omega (arith, whole); high = omega (arith, whole, rest, next) })

pub part_below : (n bucket i : ℕ) → i < n → IsInPart n bucket i → bucket < 8
part_below n bucket i within part = elim (cases_lt bucket 8) [
  | inl below ↦ below
  | inr after ↦ absurd (omega (arith, within, part.low, mul-le 8 n bucket n after (omega arith)))
]

-- and in no other
not_before : (n a b i : ℕ) → IsInPart n a i → IsInPart n b i → a < b → ⊥
not_before n a b i one other below =
    absurd (omega (arith, one.high, other.low, mul-le (a + 1) n b n (omega (arith, below)) (omega arith)))

pub same_part : (n a b i : ℕ) → IsInPart n a i → IsInPart n b i → a ≡ b
same_part n a b i one other = elim (cases_lt a b) [
  | inl below ↦ absurd (not_before n a b i one other below)
  | inr after ↦ elim (cases_lt b a) [
    | inl below ↦ absurd (not_before n b a i other one below)
    | inr last ↦ omega (arith, after, last)
  ]
]

pub start_within : (n bucket first : ℕ) → bucket ≤ 8 → StartsPart n bucket first → first ≤ n
start_within n bucket first le starts = elim (cases_lt n first) [
  | inl past ↦ absurd (omega (arith, (starts n).0 past, mul-le bucket n 8 n le (omega arith)))
  | inr within ↦ within
]

-- the words of a bucket are those from its start to that of the next one
pub between_starts : (n bucket first next i : ℕ) → StartsPart n bucket first → StartsPart n (bucket + 1) next
    → IsInPart n bucket i → (first ≤ i) × (i < next)
between_starts n bucket first next i starts ends part = (
  elim (cases_lt i first) [
    | inl before ↦ absurd (omega (arith, (starts i).0 before, part.low))
    | inr from ↦ from
  ],
  (ends i).1 part.high,
)

pub starts_rise : (n bucket first next : ℕ) → StartsPart n bucket first → StartsPart n (bucket + 1) next → first ≤ next
starts_rise n bucket first next starts ends = elim (cases_lt next first) [
  | inl before ↦ absurd (omega (arith, (ends next).1 (omega (arith, (starts next).0 before, add-mul bucket 1 n))))
  | inr after ↦ after
]

-- a bucket has an eighth of the words at most
pub few_in_part : (n bucket first next : ℕ) → n ≤ 64 → StartsPart n bucket first → StartsPart n (bucket + 1) next → next ≤ first + 8
few_in_part n bucket first next few starts ends = elim (cases_lt (first + 8) next) [
  | inl past ↦ elim (cases_lt (first * 8) (bucket * n)) [
    | inl before ↦ absurd (omega (arith, (starts first).1 before))
    | inr after ↦ absurd (omega (arith, (ends (first + 8)).0 past, after, few, add-mul bucket 1 n))
  ]
  | inr within ↦ within
]

-- an element of a list
pub element : {X : Type 0} (xs : List X) (i : ℕ) → i < length xs → (x : X) × (get_or xs i x ≡ x)
element [] i lt = absurd (omega (arith, lt))
element (x ∷ xs) zero lt = (x, refl)
element (x ∷ xs) (suc i) lt = element xs i (omega (arith, lt))
