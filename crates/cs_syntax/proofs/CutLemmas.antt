-- The cut at or below a number tells all that the cuts tell of the number.
use Rattle.std.proofs.Common.{◌≡◌, ℕ, zero, suc, ◌+◌, ◌-◌, ◌<◌, ◌≤◌, ◌⊎◌, inl, inr, true, false, ◌&&◌, ◌||◌, List, [], ◌∷◌, ◌++◌, length, take, drop, get_or, refl, sym, ap, ap₂, subst, ◌∙◌, arith}
use Rattle.std.specs.Prelude.{nat_le, nat_eq, ◌↔◌}
use Rattle.std.specs.List.{Contains}
use Rattle.std.proofs.lemmas.Bool.{cases_lt}
use Rattle.std.proofs.lemmas.Bool.Decides.{nat_tests}
use Rattle.std.proofs.lemmas.List.{append_assoc, take_more, drop_more, get_or_default}
use Rattle.std.proofs.lemmas.List.Kept.{AllPairs-from_increasing, Contains-dedup_nat, Contains-from_dedup}
use Rattle.std.proofs.lemmas.List.Sorted.{Contains-permutation, IsPermutation-sym}
use Rattle.std.proofs.lemmas.Map.Keys.{IsStrictlyIncreasing-dedup}
use Rattle.std.proofs.lemmas.List.Elements.{Contains-append_left, Contains-append_right, Contains-append_cases}
use Rattle.cs_syntax.specs.Ranges.{is_in_ranges}
use Rattle.cs_syntax.specs.Characters.{is_scalar, has_char}
use Rattle.std.specs.List.Sorted.{IsStrictlyIncreasing, IsNonDecreasingBy, IsPartitionPoint, IsSorted, IsPermutation}
use Rattle.std.specs.List.{dedup}
use Rattle.std.specs.Ordering.{nat_cmp}
use Rattle.cs_syntax.specs.Matching.{Tree}
use Rattle.cs_syntax.specs.Cuts.{utf8_cuts, range_cuts, char_ranges, all_char_ranges, Divide, AreCuts, AreCutsOf, floor}
use Rattle.cs_syntax.specs.Node.{tree_of}
use Rattle.cs_syntax.specs.NodeList.{trees_of}
use Rattle.cs_syntax.specs.declared.node.Node.{Node}

-- ---- the greatest cut at or below a number

pub floor_le : (cuts : List ℕ) (n : ℕ) → floor cuts n ≤ n
floor_le [] n = omega arith
floor_le (cut ∷ cuts) n = let le = floor_le cuts n in grind (arith, nat_tests)

pub floor_mono : (cuts : List ℕ) (m n : ℕ) → m ≤ n → floor cuts m ≤ floor cuts n
floor_mono [] m n le = omega arith
floor_mono (cut ∷ cuts) m n le = let h = floor_mono cuts m n le in grind (arith, nat_tests)

-- numbers with no cut between them have the same greatest cut
pub floor_same : (cuts : List ℕ) (m n : ℕ) → m ≤ n → floor cuts n ≤ m → floor cuts m ≡ floor cuts n
floor_same [] m n le above = refl
floor_same (cut ∷ cuts) m n le above =
    let below : floor cuts n ≤ m = omega arith in
    let h = floor_same cuts m n le below in grind (arith, nat_tests)

pub floor_floor : (cuts : List ℕ) (n : ℕ) → floor cuts (floor cuts n) ≡ floor cuts n
floor_floor cuts n = floor_same cuts (floor cuts n) n (floor_le cuts n) (omega arith)

cut_le : (cuts : List ℕ) (n k : ℕ) → Contains cuts k → k ≤ n → k ≤ floor cuts n
cut_le [] n k h le = absurd (omega (arith, h.1))
cut_le (cut ∷ cuts) n k (zero, inside, e) le = grind (arith, nat_tests)
cut_le (cut ∷ cuts) n k (suc i, inside, e) le = let h = cut_le cuts n k (i, omega arith, e) le in omega (arith, h)

-- a cut is at or below the number just if it is at or below the number's greatest cut
pub cut_tells : (cuts : List ℕ) (k n : ℕ) → Contains cuts k → nat_le k (floor cuts n) ≡ nat_le k n
cut_tells cuts k n h =
    let le = floor_le cuts n in
    let same : k ≤ n → k ≤ floor cuts n = cut_le cuts n k h in grind (arith, nat_tests)

floor_is_cut : (cuts : List ℕ) (n : ℕ) → (floor cuts n ≡ 0) ⊎ Contains cuts (floor cuts n)
floor_is_cut [] n = inl refl
floor_is_cut (cut ∷ cuts) n = by (cases_lt n cut) (cases_lt (floor cuts n) cut) (floor_is_cut cuts n)
  where
    later : floor (cut ∷ cuts) n ≡ floor cuts n → Contains cuts (floor cuts n) → (floor (cut ∷ cuts) n ≡ 0) ⊎ Contains
        (cut ∷ cuts) (floor (cut ∷ cuts) n)
    later e found = inr (subst (Contains (cut ∷ cuts)) (sym e) (Contains-append_right (cut ∷ []) cuts (floor cuts n) found))

    by : (n < cut) ⊎ (cut ≤ n) → (floor cuts n < cut) ⊎ (cut ≤ floor cuts n) → (floor cuts n ≡ 0) ⊎ Contains cuts (floor cuts n) →
        (floor (cut ∷ cuts) n ≡ 0) ⊎ Contains (cut ∷ cuts) (floor (cut ∷ cuts) n)
    by (inr low) (inl last) rest = let e : floor (cut ∷ cuts) n ≡ cut = grind (arith, nat_tests) in inr (0, omega arith, sym e)
    by (inl above) after (inl none) = let e : floor (cut ∷ cuts) n ≡ 0 = grind (arith, nat_tests) in inl e
    by (inl above) after (inr found) = let e : floor (cut ∷ cuts) n ≡ floor cuts n = grind (arith, nat_tests) in later e found
    by before (inr past) (inl none) = let e : floor (cut ∷ cuts) n ≡ 0 = grind (arith, nat_tests) in inl e
    by before (inr past) (inr found) = let e : floor (cut ∷ cuts) n ≡ floor cuts n = grind (arith, nat_tests) in later e found

floor_more : (xs ys : List ℕ) (n : ℕ) → ((k : ℕ) → Contains xs k → Contains ys k) → floor xs n ≤ floor ys n
floor_more xs ys n more =
    elim (floor_is_cut xs n) [
      | inl none ↦ omega (arith, none)
      | inr found ↦ cut_le ys n (floor xs n) (more (floor xs n) found) (floor_le xs n)
    ]

-- the order of the cuts does not matter
pub floor_members : (xs ys : List ℕ) → ((k : ℕ) → Contains xs k ↔ Contains ys k) → (n : ℕ) → floor xs n ≡ floor ys n
floor_members xs ys same n =
    let most = floor_more xs ys n (λ k. (same k).0) in
    let least = floor_more ys xs n (λ k. (same k).1) in omega (arith, most, least)

-- ---- cuts that divide ranges

module _ (cuts : List ℕ) (ranges : List (ℕ × ℕ)) (divide : Divide cuts ranges) where
  pub utf8_cut : (k : ℕ) → Contains utf8_cuts k → Contains cuts k
  utf8_cut k h = divide k (Contains-append_left utf8_cuts (range_cuts ranges) k h)

  pub is_scalar_floor : (n : ℕ) → is_scalar (floor cuts n) ≡ is_scalar n
  is_scalar_floor n =
      let low = cut_tells cuts 55296 n (utf8_cut 55296 (3, omega arith, refl)) in
      let high = cut_tells cuts 57344 n (utf8_cut 57344 (4, omega arith, refl)) in
      let end = cut_tells cuts 1114112 n (utf8_cut 1114112 (6, omega arith, refl)) in grind (arith, nat_tests)

pub divide_range : (cuts : List ℕ) (range : ℕ × ℕ) (ranges : List (ℕ × ℕ)) → Divide cuts (range ∷ ranges) →
    Contains cuts range.0 × Contains cuts (range.1 + 1) × Divide cuts ranges
divide_range cuts range ranges divide =
    let right : (k : ℕ) → Contains (range_cuts (range ∷ ranges)) k → Contains cuts k =
    λ k h. divide k (Contains-append_right utf8_cuts (range_cuts (range ∷ ranges)) k h) in (
      right range.0 (0, omega arith, refl),
      right (range.1 + 1) (1, omega arith, refl),
      λ k h. elim (Contains-append_cases utf8_cuts (range_cuts ranges) k h) [
        | inl fixed ↦ divide k (Contains-append_left utf8_cuts (range_cuts (range ∷ ranges)) k fixed)
        | inr end ↦ right k (Contains-append_right (range.0 ∷ (range.1 + 1) ∷ []) (range_cuts ranges) k end)
      ],
    )

pub in_ranges_floor : (cuts : List ℕ) (ranges : List (ℕ × ℕ)) → Divide cuts ranges → (n : ℕ) →
    is_in_ranges ranges (floor cuts n) ≡ is_in_ranges ranges n
in_ranges_floor cuts [] divide n = refl
in_ranges_floor cuts (range ∷ ranges) divide n =
    let parts = divide_range cuts range ranges divide in
    let low : nat_le range.0 (floor cuts n) ≡ nat_le range.0 n = cut_tells cuts range.0 n parts.0 in
    let past : nat_le (range.1 + 1) (floor cuts n) ≡ nat_le (range.1 + 1) n = cut_tells cuts (range.1 + 1) n parts.1 in
    let high : nat_le (floor cuts n) range.1 ≡ nat_le n range.1 = grind (arith, nat_tests) in
    ap₂ ◌||◌ (ap₂ ◌&&◌ low high) (in_ranges_floor cuts ranges parts.2 n)

pub has_char_floor : (cuts : List ℕ) (ranges : List (ℕ × ℕ)) → Divide cuts ranges → (n : ℕ) →
    has_char ranges (floor cuts n) ≡ has_char ranges n
has_char_floor cuts ranges divide n = ap₂ ◌&&◌ (is_scalar_floor cuts ranges divide n) (in_ranges_floor cuts ranges divide n)

pub range_cuts_append : (xs ys : List (ℕ × ℕ)) → range_cuts (xs ++ ys) ≡ range_cuts xs ++ range_cuts ys
range_cuts_append [] ys = refl
range_cuts_append (x ∷ xs) ys = ap (λ rest. x.0 ∷ (x.1 + 1) ∷ rest) (range_cuts_append xs ys)

pub divide_append : (cuts : List ℕ) (xs ys : List (ℕ × ℕ)) → Divide cuts (xs ++ ys) ↔ (Divide cuts xs × Divide cuts ys)
divide_append cuts xs ys =
    let P : List ℕ → Type 0 = λ ks. (k : ℕ) → Contains (utf8_cuts ++ ks) k → Contains cuts k in (
      λ h. let all : P (range_cuts xs ++ range_cuts ys) = subst P (range_cuts_append xs ys) h in (
        λ k g. elim (Contains-append_cases utf8_cuts (range_cuts xs) k g) [
          | inl fixed ↦ all k (Contains-append_left utf8_cuts _ k fixed)
          | inr end ↦ all k (Contains-append_right utf8_cuts _ k (Contains-append_left (range_cuts xs) (range_cuts ys) k end))
        ],
        λ k g. elim (Contains-append_cases utf8_cuts (range_cuts ys) k g) [
          | inl fixed ↦ all k (Contains-append_left utf8_cuts _ k fixed)
          | inr end ↦ all k (Contains-append_right utf8_cuts _ k (Contains-append_right (range_cuts xs) (range_cuts ys) k end))
        ],
      ),
      λ both. subst P (sym (range_cuts_append xs ys))
          (λ k g. elim (Contains-append_cases utf8_cuts (range_cuts xs ++ range_cuts ys) k g) [
            | inl fixed ↦ both.0 k (Contains-append_left utf8_cuts _ k fixed)
            | inr end ↦
                elim (Contains-append_cases (range_cuts xs) (range_cuts ys) k end) [
                  | inl left ↦ both.0 k (Contains-append_right utf8_cuts _ k left)
                  | inr right ↦ both.1 k (Contains-append_right utf8_cuts _ k right)
                ]
          ]),
    )

pub divided : (tree : Tree) (cuts : List ℕ) → AreCutsOf tree cuts → AreCuts cuts × Divide cuts (char_ranges tree)
divided tree cuts of = (
  (
    of.ascending,
    λ k h. (of.members k).1 (Contains-append_left utf8_cuts (range_cuts (char_ranges tree)) k
        (Contains-append_cases_fixed k h)),
  ),
  λ k h. (of.members k).1 h,
)
  where
    Contains-append_cases_fixed : (k : ℕ) → Contains (utf8_cuts ++ []) k → Contains utf8_cuts k
    Contains-append_cases_fixed k h = h

-- ---- the cuts in the code

pub increasing : (cuts : List ℕ) → IsStrictlyIncreasing cuts → IsNonDecreasingBy (λ (k : ℕ). k) cuts
increasing cuts up i j d le inside =
    elim (cases_lt i j) [
      | inl lt ↦ let below = AllPairs-from_increasing cuts up i j d lt inside in omega (arith, below)
      | inr ge ↦ let same : i ≡ j = omega arith in omega (arith, ap (λ (k : ℕ). get_or cuts k d) same)
    ]

-- the interval of n begins at the last cut before the partition point
pub interval_found : (cuts : List ℕ) (n i : ℕ) → AreCuts cuts → i ≤ length cuts →
    IsPartitionPoint (λ k. nat_le k n ≡ true) (λ k. nat_le k n ≡ false) cuts i →
    (1 ≤ i) × (get_or cuts (i - 1) 0 ≡ floor cuts n)
interval_found cuts n i are inside point =
    let zero_at = are.1 0 (0, omega arith, refl) in
    let some = before zero_at.0 0 zero_at.1 zero_at.2 (omega arith) in
    let within : i - 1 < length cuts = omega (arith, some) in
    let test = point.0 (i - 1) 0 (omega arith) (omega (arith, some)) in
    let below : get_or cuts (i - 1) 0 ≤ n = grind (arith, nat_tests, test) in
    let least : get_or cuts (i - 1) 0 ≤ floor cuts n = cut_le cuts n (get_or cuts (i - 1) 0)
    (i - 1, within, get_or_default cuts (i - 1) (get_or cuts (i - 1) 0) 0 within) below in
    let most : floor cuts n ≤ get_or cuts (i - 1) 0 =
    elim (floor_is_cut cuts n) [
      | inl none ↦ omega (arith, none)
      | inr (k, lt, at) ↦
          let first = before k (floor cuts n) lt at (floor_le cuts n) in
          let up = increasing cuts are.0 k (i - 1) 0 (omega (arith, first)) within in
          omega (arith, up, at, get_or_default cuts k (floor cuts n) 0 lt)
    ] in
    (omega (arith, some), omega (arith, least, most))
  where
    -- a cut at or below n stands before the partition point
    before : (k cut : ℕ) → k < length cuts → get_or cuts k cut ≡ cut → cut ≤ n → k < i
    before k cut lt at le =
        elim (cases_lt k i) [
          | inl first ↦ first
          | inr past ↦ let test = point.1 k cut past lt in absurd (grind (arith, nat_tests, test, at))
        ]

pub range_pushed : (old one two three : List ℕ) (ranges : List (ℕ × ℕ)) (i : ℕ) → i < length ranges →
    one ≡ old ++ range_cuts (take i ranges) →
    two ≡ one ++ (get_or ranges i (0, 0)).0 ∷ [] → three ≡ two ++ ((get_or ranges i (0, 0)).1 + 1) ∷ [] → three
    ≡ old ++ range_cuts (take (i + 1) ranges)
range_pushed old one two three ranges i inside e f g =
    let range = get_or ranges i (0, 0) in
    let more : range_cuts (take (i + 1) ranges) ≡ range_cuts (take i ranges) ++ range.0 ∷ (range.1 + 1) ∷ [] =
    ap range_cuts (take_more ranges i (0, 0) inside) ∙ range_cuts_append (take i ranges) (range ∷ []) in
    g ∙ ap (λ (xs : List ℕ). xs ++ (range.1 + 1) ∷ []) (f ∙ ap (λ (xs : List ℕ). xs ++ range.0 ∷ []) e)
    ∙ append_assoc (old ++ range_cuts (take i ranges)) (range.0 ∷ []) ((range.1 + 1) ∷ [])
    ∙ append_assoc old (range_cuts (take i ranges)) (range.0 ∷ (range.1 + 1) ∷ []) ∙ ap (λ (xs : List ℕ). old ++ xs) (sym more)

pub tree_added : (old new whole : List ℕ) (nodes : List Node) (node : Node) (i : ℕ) → i < length nodes → node ≡ get_or nodes i node →
    old ++ range_cuts (all_char_ranges (trees_of (drop i nodes))) ≡ whole → new ≡ old ++ range_cuts (char_ranges (tree_of node)) →
    new ++ range_cuts (all_char_ranges (trees_of (drop (i + 1) nodes))) ≡ whole
tree_added old new whole nodes node i inside is e f =
    let rest = all_char_ranges (trees_of (drop (i + 1) nodes)) in
    let first : drop i nodes ≡ node ∷ drop (i + 1) nodes = drop_more nodes i node inside
    ∙ ap (λ (n : Node). n ∷ drop (i + 1) nodes) (sym is) in
    ap (λ (xs : List ℕ). xs ++ range_cuts rest) f ∙ append_assoc old (range_cuts (char_ranges (tree_of node))) (range_cuts rest)
    ∙ ap (λ (xs : List ℕ). old ++ xs) (sym (range_cuts_append (char_ranges (tree_of node)) rest))
    ∙ ap (λ (ns : List Node). old ++ range_cuts (all_char_ranges (trees_of ns))) (sym first) ∙ e

-- the cuts of a tree, sorted and without duplicates
pub sorted_cuts : (tree : Tree) (all sorted cuts : List ℕ) → all ≡ utf8_cuts ++ range_cuts (char_ranges tree) →
    IsPermutation all sorted → IsSorted nat_cmp sorted →
    cuts ≡ dedup nat_eq sorted → AreCutsOf tree cuts
sorted_cuts tree all sorted cuts e perm up kept =
    subst (AreCutsOf tree) (sym kept)
    (record {
      ascending = IsStrictlyIncreasing-dedup sorted up;
      members = λ k. (
        λ h. subst (λ (xs : List ℕ). Contains xs k) e
            (Contains-permutation sorted all k (IsPermutation-sym all sorted perm) (Contains-from_dedup nat_eq sorted k h)),
        λ h. Contains-dedup_nat sorted k (Contains-permutation all sorted k perm (subst (λ (xs : List ℕ). Contains xs k) (sym e) h)),
      );
    })
