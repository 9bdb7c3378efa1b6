-- The first of the ids from an id on.
use Rattle.std.proofs.Common.{◌≡◌, ℕ, zero, suc, ◌+◌, ◌-◌, ◌<◌, ◌≤◌, Bool, true, false, cond, ◌&&◌, List, [], ◌∷◌, ◌++◌, length, take, Result, Ok, Err, Vec, Global, refl, sym, ap, ap₂, ◌∙◌, arith}
use Rattle.std.specs.Prelude.{filter, nat_le, IfOk}
use Rattle.std.specs.List.{range_with_len}
use Rattle.std.proofs.lemmas.Bool.{le-leb, lt-leb}
use Rattle.std.proofs.lemmas.List.{take-append-le, take_all}
use Rattle.std.proofs.lemmas.List.Elements.{filter-append}
use Rattle.cs_trigram.specs.declared.queries.Query.{Query}
use Rattle.cs_index.specs.OpenedParts.{Parts}
use Rattle.cs_index.specs.Candidates.{candidates_of, name_matches, AreCandidates}
use Rattle.cs_index.specs.CandidatePages.{candidates_from, AreOnPage}
use Rattle.cs_index.specs.declared.reading.candidates.Page.{Page}
use Rattle.cs_index.specs.declared.fault.IndexFault.{IndexFault}
use Rattle.cs_index.proofs.candidates.QueryMembers.{candidates_are}
use Rattle.cs_index.proofs.candidates.WindowRows.{filter_split, range_split}

-- ids that pass a test, of those from an id on
module _ (test : ℕ → Bool) (from : ℕ) where
  keep : (t f : Bool) (a : ℕ) (rest : List ℕ) → nat_le from a ≡ f →
      filter (λ id. nat_le from id) (cond t (a ∷ rest) rest) ≡ cond (t && f) (a ∷ filter (λ id. nat_le from id) rest) (filter (λ id. nat_le from id) rest)
  keep true f a rest is = ap (λ b. cond b (a ∷ filter (λ id. nat_le from id) rest) (filter (λ id. nat_le from id) rest)) is
  keep false f a rest is = refl

  ids_before : (a n : ℕ) → ((k : ℕ) → a ≤ k → k < a + n → k < from) → filter (λ id. nat_le from id) (filter test (range_with_len a n)) ≡ []
  ids_before a zero below = refl
  ids_before a (suc n) below =
      keep (test a) false a (filter test (range_with_len (a + 1) n)) (lt-leb from a (below a (omega arith) (omega arith)))
      ∙ neither (test a) _ _ ∙ ids_before (a + 1) n (λ k high low. below k (omega (arith, high)) (omega (arith, low)))
    where
      neither : (t : Bool) (x y : List ℕ) → cond (t && false) x y ≡ y
      neither true x y = refl
      neither false x y = refl

  ids_after : (a n : ℕ) → ((k : ℕ) → a ≤ k → k < a + n → from ≤ k) →
      filter (λ id. nat_le from id) (filter test (range_with_len a n)) ≡ filter test (range_with_len a n)
  ids_after a zero above = refl
  ids_after a (suc n) above =
      keep (test a) true a (filter test (range_with_len (a + 1) n)) (le-leb from a (above a (omega arith) (omega arith)))
      ∙ ap₂ (λ b (ids : List ℕ). cond b (a ∷ ids) ids) (and-true' (test a))
      (ids_after (a + 1) n (λ k high low. above k (omega (arith, high)) (omega (arith, low))))
    where
      and-true' : (t : Bool) → (t && true) ≡ t
      and-true' true = refl
      and-true' false = refl

  pub ids_onward : (start count : ℕ) → start ≤ from → start ≤ count → ((k : ℕ) → start ≤ k → k < count → from ≤ k) →
      filter (λ id. nat_le from id) (filter test (range_with_len 0 count)) ≡ filter test (range_with_len start (count - start))
  ids_onward start count low high above =
      ap (λ n. filter (λ id. nat_le from id) (filter test (range_with_len 0 n))) (let z : count ≡ start + (count - start) = omega (arith, high) in z)
      ∙ ap (λ ids. filter (λ id. nat_le from id) (filter test ids)) (range_split 0 start (count - start)
      ∙ ap (λ k. range_with_len 0 start ++ range_with_len k (count - start)) (let z : 0 + start ≡ start = omega arith in z))
      ∙ ap (filter (λ id. nat_le from id)) (filter-append test (range_with_len 0 start) (range_with_len start (count - start)))
      ∙ filter-append (λ id. nat_le from id) (filter test (range_with_len 0 start)) (filter test (range_with_len start (count - start)))
      ∙ ap₂ (λ (xs ys : List ℕ). xs ++ ys) (ids_before 0 start (λ k _ below. omega (arith, below, low)))
      (ids_after start (count - start) (λ k more below. above k more (omega (arith, below, high))))

-- at most as many pass as there are
few_pass : (test : ℕ → Bool) (a n : ℕ) → length (filter test (range_with_len a n)) ≤ n
few_pass test a zero = omega arith
few_pass test a (suc n) = one_more (test a) (few_pass test (a + 1) n)
  where
    one_more : (t : Bool) → length (filter test (range_with_len (a + 1) n)) ≤ n →
        length (cond t (a ∷ filter test (range_with_len (a + 1) n)) (filter test (range_with_len (a + 1) n))) ≤ suc n
    one_more true h = omega (arith, h)
    one_more false h = omega (arith, h)

-- before the first window
pub none_yet : (test : ℕ → Bool) (from : ℕ) → [] ≡ filter test (range_with_len from (from - from))
none_yet test from = ap (λ n. filter test (range_with_len from n)) (let z : 0 ≡ from - from = omega arith in z)

-- the ids of the windows so far fill a page
pub page_full : (test : ℕ → Bool) (from middle to most : ℕ) → from ≤ middle → middle ≤ to →
    most ≤ length (filter test (range_with_len from (middle - from))) →
    take most (filter test (range_with_len from (middle - from))) ≡ take most (filter test (range_with_len from (to - from)))
page_full test from middle to most low high full =
    sym (ap (take most) (filter_split test from middle to low high)
    ∙ take-append-le most (filter test (range_with_len from (middle - from))) (filter test (range_with_len middle (to - middle))) full)

module _ (parts : Parts) (query : Query) where
  pub page_of : (test : ℕ → Bool) (page : Page) (start count : ℕ) (ids : List ℕ) →
      filter test (range_with_len 0 count) ≡ candidates_of parts query →
      start ≤ page.from → start ≤ count → ((k : ℕ) → start ≤ k → k < count → page.from ≤ k) →
      ids ≡ take page.most (filter test (range_with_len start (count - start))) → ids ≡ take page.most (candidates_from parts query page.from)
  page_of test page start count ids same low high above is =
      is ∙ ap (take page.most) (sym (ids_onward test page.from start count low high above) ∙ ap (filter (λ id. nat_le page.from id)) same)

  -- a page for all names has all candidates
  pub all_listed : (count : ℕ) → count ≡ length parts.names → take count (candidates_from parts query 0) ≡ candidates_of parts query
  all_listed count names =
      let all = filter (name_matches parts query) (range_with_len 0 (length parts.names)) in
      let few : length all ≤ length parts.names = few_pass (name_matches parts query) 0 (length parts.names) in
      ap (λ ids. take count (filter (λ id. nat_le 0 id) ids)) (candidates_are parts query)
      ∙ ap (take count) (ids_after (name_matches parts query) 0 0 (length parts.names) (λ k _ _. omega arith))
      ∙ take_all count all (omega (arith, few, names)) ∙ sym (candidates_are parts query)

  pub all_on_page : (count : ℕ) (answer : Result (Vec ℕ Global) IndexFault) → count ≡ length parts.names →
      AreOnPage (record { from = 0; most = count }) query parts answer → AreCandidates query parts answer
  all_on_page count (Ok ids) names are = (are.0 ∙ all_listed count names, are.1)
  all_on_page count (Err fault) names are = are

  pub all_given : (count : ℕ) (answer : Result (Vec ℕ Global) IndexFault) → count ≡ length parts.names →
      IfOk answer (λ ids. ids.items ≡ take count (candidates_from parts query 0)) → IfOk answer (λ ids. ids.items ≡ candidates_of parts query)
  all_given count (Ok ids) names is = is ∙ all_listed count names
  all_given count (Err fault) names is = tt

  pub all_read : {E : Type 0} (count : ℕ) (result : Result (Result (Vec ℕ Global) IndexFault) E) → count ≡ length parts.names →
      IfOk result (AreOnPage (record { from = 0; most = count }) query parts) → IfOk result (AreCandidates query parts)
  all_read count (Ok answer) names are = all_on_page count answer names are
  all_read count (Err fault) names are = tt
