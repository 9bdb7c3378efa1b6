-- The names of an index that are passed, and the first file with a name.
use Rattle.std.proofs.Common.{◌≡◌, ◌∙◌, ◌⊎◌, ℕ, zero, suc, ◌+◌, ◌<◌, Bool, true, false, cond, ◌&&◌, List, [], ◌∷◌, length, get_or, take, refl, eqb, eq-eqb, Result, Ok, Err, sym, ap, subst, arith, Option, Some, Less, Equal, Greater, inl, inr}
use Rattle.std.specs.Prelude.{◌≢◌, Contains, slice_get, slice_index_or}
use Rattle.std.specs.Ordering.{eq_by_cmp, is_eq, is_lt, nat_cmp, ordering_reverse}
use Rattle.std.specs.List.Sorted.{IsBinarySearchResult}
use Rattle.std.specs.Result.{is_ok}
use Rattle.std.proofs.lemmas.List.Sorted.{searched}
use Rattle.std.specs.declared.cmp.Ordering.{Ordering}
use Rattle.std.specs.FinMap as map'
use Rattle.std.specs.FinMap.{find}
use Rattle.std.specs.List.{range_with_len}
use Rattle.std.proofs.lemmas.Bool.{true≢false, or_left, or_right}
use Rattle.std.proofs.lemmas.Cmp.{nat_list_cmp_total}
use Rattle.std.proofs.lemmas.Option.{slice_get_within}
use Rattle.cs_tree.specs.NameOrder.{bytes_cmp}
use Rattle.cs_tree.proofs.NameOrderLemmas.{before_trans, less_from}
use Rattle.cs_tree.proofs.PathSetLemmas.{tied_is, tied_same}
use Rattle.cs_trigram.specs.Trigram.{Ascends, has}
use Rattle.cs_trigram.specs.declared.queries.Query.{Query}
use Rattle.cs_trigram.proofs.SetLemmas.{ascends_filter, has-filter}
use Rattle.cs_index.specs.Candidates.{candidates_of, name_matches}
use Rattle.cs_index.specs.Encoding.{PostingList}
use Rattle.cs_index.specs.OpenedParts.{Parts, files_read, lists_in}
use Rattle.cs_index.specs.PostingLists.{entries_of, set_at}
use Rattle.cs_index.proofs.candidates.FormValues.{ascends_order, not_between}
use Rattle.cs_index.proofs.candidates.Intersection.{has_range}
use Rattle.cs_index.specs.NameReading.{ReadsNames}
use Rattle.cs_known.specs.KnownFiles.{AreBelow, ArePassed, KeepsRest, ReadsParts}
use Rattle.cs_known.specs.declared.types.KnownFiles.{KnownFiles}
use Rattle.cs_known.specs.Skipped.{is_candidate, matches_some}

same_some : {X : Type 0} (a b : X) → Some a ≡ Some b → a ≡ b
same_some a b e = cc

-- ---- names that are passed

below_more : (name current : List ℕ) → is_lt (bytes_cmp current name) ≡ true → (names : List (List ℕ)) → AreBelow current names → AreBelow name names
below_more name current less [] below = tt
below_more name current less (other ∷ names) below =
    (before_trans other current name below.0 less, below_more name current less names below.1)

below_next : (name current : List ℕ) (names : List (List ℕ)) (id : ℕ) → slice_get names id ≡ Some current →
    is_lt (bytes_cmp current name) ≡ true → AreBelow name (take id names) → AreBelow name (take (suc id) names)
below_next name current [] id at less below = tt
below_next name current (other ∷ names) zero at less below =
    (subst (λ n. is_lt (bytes_cmp n name) ≡ true) (sym (same_some other current at)) less, tt)
below_next name current (other ∷ names) (suc id) at less below = (below.0, below_next name current names id at less below.1)

-- The names before an id are less than the one that has it, or than a name that is asked for.
abbrev pub ArePassedFor : List (List ℕ) → ℕ → List ℕ → Type 0
ArePassedFor names id name = ArePassed names id ⊎ AreBelow name (take id names)

below_for : (names : List (List ℕ)) (id : ℕ) (name current : List ℕ) → slice_get names id ≡ Some current → is_lt (bytes_cmp current name) ≡ true →
    ArePassedFor names id name → AreBelow name (take id names)
below_for names id name current at less (inl passed) = below_more name current less (take id names) (passed current at)
below_for names id name current at less (inr below) = below

pub passed_next : (names : List (List ℕ)) (id : ℕ) (name current : List ℕ) → slice_get names id ≡ Some current →
    bytes_cmp current name ≡ Less → ArePassedFor names id name → ArePassedFor names (id + 1) name
passed_next names id name current at less passed =
    let next : suc id ≡ id + 1 = omega arith in
    inr (subst (λ k. AreBelow name (take k names)) next
    (below_next name current names id at (ap is_lt less) (below_for names id name current at (ap is_lt less) passed)))

-- a name that is not less than what is asked for is above all that are passed
pub passed_at : (names : List (List ℕ)) (id : ℕ) (name current : List ℕ) → slice_get names id ≡ Some current →
    bytes_cmp current name ≢ Less → ArePassedFor names id name → ArePassed names id
passed_at names id name current at not_less (inl passed) = passed
passed_at names id name current at not_less (inr below) = λ other there.
    subst (λ n. AreBelow n (take id names)) (same_some current other (sym at ∙ there)) (by_order (bytes_cmp current name) refl)
  where
    reversed : bytes_cmp current name ≡ Greater → bytes_cmp name current ≡ Less
    reversed e = nat_list_cmp_total.antisymm name current ∙ ap ordering_reverse e

    by_order : (o : Ordering) → bytes_cmp current name ≡ o → AreBelow current (take id names)
    by_order Less e = absurd (not_less e)
    by_order Equal e = subst (λ n. AreBelow n (take id names)) (sym (tied_is current name (ap is_eq e))) below
    by_order Greater e = below_more current name (ap is_lt (reversed e)) (take id names) below

-- ---- the first file with a name

first_entry : (names : List (List ℕ)) (lists : List PostingList) (first id : ℕ) (name : List ℕ) → slice_get names id ≡ Some name →
    AreBelow name (take id names) → find bytes_cmp name (entries_of first names lists) ≡ Some (set_at (first + id) lists)
first_entry [] lists first id name at below = cc
first_entry (other ∷ names) lists first zero name at below =
    let none : first ≡ first + 0 = omega arith in
    let tied : eq_by_cmp bytes_cmp name other ≡ true = ap (eq_by_cmp bytes_cmp name) (same_some other name at) ∙ tied_same name in
    ap (λ b. cond b (Some (set_at first lists)) (find bytes_cmp name (entries_of (first + 1) names lists))) tied
    ∙ ap (λ k. Some (set_at k lists)) none
first_entry (other ∷ names) lists first (suc id) name at below =
    let more : (first + 1) + id ≡ first + suc id = omega arith in
    ap (λ b. cond b (Some (set_at first lists)) (find bytes_cmp name (entries_of (first + 1) names lists))) (apart (eq_by_cmp bytes_cmp name other) refl)
    ∙ first_entry names lists (first + 1) id name at below.1 ∙ ap (λ k. Some (set_at k lists)) more
  where
    apart : (b : Bool) → eq_by_cmp bytes_cmp name other ≡ b → b ≡ false
    apart true e =
        let same : name ≡ other = tied_is name other e in
        let less : bytes_cmp other other ≡ Less = less_from _ (subst (λ n. is_lt (bytes_cmp other n) ≡ true) same below.0) in
        absurd (true≢false (sym (tied_same other) ∙ ap is_eq less))
    apart false e = refl

-- ---- candidates

ascends_range : (n start : ℕ) → Ascends (range_with_len start n)
ascends_range zero start = tt
ascends_range (suc zero) start = tt
ascends_range (suc (suc n)) start = (omega arith, ascends_range (suc n) (start + 1))

pub candidates_ascend : (parts : Parts) (query : Query) → Ascends (candidates_of parts query)
unfolding candidates_of
candidates_ascend parts query =
    ascends_filter (name_matches parts query) (range_with_len 0 (length parts.names)) (ascends_range (length parts.names) 0)

-- the name with an id, where those before are less
pub candidate_is : (parts : Parts) (query : Query) (id : ℕ) (name : List ℕ) → slice_get parts.names id ≡ Some name →
    AreBelow name (take id parts.names) → has (candidates_of parts query) id ≡ is_candidate query parts name
unfolding candidates_of
candidate_is parts query id name at below =
    let none : 0 + id ≡ id = omega arith in
    has-filter (name_matches parts query) (range_with_len 0 (length parts.names)) id
    ∙ ap (λ b. b && name_matches parts query id) (has_range (length parts.names) id (slice_get_within parts.names id name at))
    ∙ sym (ap (matches_some query) (map'.get-from_entries nat_list_cmp_total (files_read parts) name
    ∙ first_entry parts.names (lists_in parts) 0 id name at below ∙ ap (λ k. Some (set_at k (lists_in parts))) none))

-- what a binary search finds
has_at : (xs : List ℕ) (k g : ℕ) → k < length xs → get_or xs k 0 ≡ g → has xs g ≡ true
has_at [] k g h e = absurd (omega (arith, h))
has_at (x ∷ xs) zero g h e = or_left (eqb x g) (has xs g) (eq-eqb x g e)
has_at (x ∷ xs) (suc k) g h e = or_right (eqb x g) (has xs g) (has_at xs k g (omega (arith, h)) e)

pub found_is : (xs : List ℕ) (x : ℕ) (r : Result ℕ ℕ) → Ascends xs → IsBinarySearchResult (λ y. nat_cmp y x) xs r → is_ok r ≡ has xs x
found_is xs x (Ok i) up h = let s = searched xs x (Ok i) h (ascends_order xs up) in sym (has_at xs i x s.0 s.1)
found_is xs x (Err i) up h =
    let s = searched xs x (Err i) h (ascends_order xs up) in
    sym (not_between xs x i (λ k below within. s.1 k below) s.2)

-- ---- the names of an index

pub some_name : (names : List (List ℕ)) (id : ℕ) → id < length names → (name : List ℕ) × (slice_get names id ≡ Some name)
some_name [] id within = absurd (omega (arith, within))
some_name (name ∷ names) zero within = (name, refl)
some_name (name ∷ names) (suc id) within = some_name names id (omega (arith, within))

contains_at : (names : List (List ℕ)) (id : ℕ) (name : List ℕ) → slice_get names id ≡ Some name → slice_index_or names id name ≡ name
contains_at [] id name at = cc
contains_at (n ∷ names) zero name at = same_some n name at
contains_at (n ∷ names) (suc id) name at = contains_at names id name at

pub contains : (names : List (List ℕ)) (id : ℕ) (name : List ℕ) → slice_get names id ≡ Some name → Contains names name
contains names id name at = (id, slice_get_within names id name at, contains_at names id name at)

module _ {S : Type 0} (model : S → Option (List ℕ)) (query : Query) (parts : Parts) where
  -- a call that keeps the rest still reads, if the names that it has left are those of the index
  pub still_reads : (old new : KnownFiles S) → KeepsRest model old new → new.count ≡ old.count → (was : ReadsParts model query parts old) →
      (new.id < new.count → ReadsNames was.index parts new.names) → (new.id < new.count → ArePassed parts.names new.id) →
      ReadsParts model query parts new
  still_reads old new rest same was names passed = record {
    index = was.index;
    index_is = rest.0 ∙ was.index_is;
    names = names;
    passed = passed;
    count = let bound = was.count in omega (arith, same, bound);
    candidates = ap (λ v. v.items) rest.2 ∙ was.candidates;
  }
