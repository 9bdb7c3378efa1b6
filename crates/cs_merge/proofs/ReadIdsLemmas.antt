-- What the iterator of a posting list yields.
use Rattle.std.proofs.Common.{◌≡◌, ℕ, zero, suc, ◌+◌, Bool, true, false, cond, ◌&&◌, Some, List, [], ◌∷◌, ◌++◌, length, map, take, drop, Result, Ok, Err, refl, ap, ◌∙◌, arith, slice_get, filter, bytes_eq}
use Rattle.cs_merge.proofs.Common.{ids_given, AscendWithin, Ids, damage, read_ids, set_at, has, and_parts, and_from, list_all, IndexFault, ListEntry, PostingList, three_bytes, Parts, ids_read, lists_in, whole_ids}
use Rattle.cs_index.specs.declared.fault.IndexFault.TheVariants.{BadList}
use Rattle.cs_index.proofs.candidates.Intersection.{read_rise}
use Rattle.std.proofs.lemmas.List.Folds.{list_all_at}
use Rattle.std.proofs.lemmas.Option.{slice_get_within, get_or_from_slice_get}

-- ---- items of the iterator

abbrev yielded : List ℕ → Bool → List (Result ℕ IndexFault)
yielded ids whole = map (λ id. Ok id) ids ++ cond whole [] (Err BadList ∷ [])

-- an error comes from a damaged list
pub yielded_fault : (r : Ids) (fault : IndexFault) (rest : List (Result ℕ IndexFault)) → ids_given r ≡ Err fault ∷ rest → r.whole ≡ false
yielded_fault r fault rest e = by_parts r.ids r.whole e
  where
    by_parts : (ids : List ℕ) (whole : Bool) → yielded ids whole ≡ Err fault ∷ rest → whole ≡ false
    by_parts [] true e = cc
    by_parts [] false e = refl
    by_parts (id ∷ ids) whole e = cc

pub yielded_no_id : (r s : Ids) (x : Result ℕ IndexFault) → ids_given r ≡ x ∷ ids_given s → ((id : ℕ) → x ≡ Ok id → ⊥) → r.whole ≡ false
yielded_no_id r s (Ok id) e none = absurd (none id refl)
yielded_no_id r s (Err fault) e none = yielded_fault r fault (ids_given s) e

-- ---- the items determine the list

pub set_push : (id : ℕ) (lists : List PostingList) (trigram : ℕ) (ids : List ℕ) →
    set_at id (lists ++ (trigram, ids) ∷ []) ≡ set_at id lists ++ cond (has ids id) (trigram ∷ []) []
set_push id [] trigram ids = elim (has ids id) as (λ b. map (λ (p : PostingList). p.0) (cond b ((trigram, ids) ∷ []) [])
    ≡ cond b (trigram ∷ []) []) [ true ↦ refl | false ↦ refl ]
set_push id (p ∷ lists) trigram ids =
    elim (has p.1 id) as (λ b. map (λ (q : PostingList). q.0)
    (cond b (p ∷ filter (λ (q : PostingList). has q.1 id) (lists ++ (trigram, ids) ∷ []))
    (filter (λ (q : PostingList). has q.1 id) (lists ++ (trigram, ids) ∷ []))) ≡ map (λ (q : PostingList). q.0)
    (cond b (p ∷ filter (λ (q : PostingList). has q.1 id) lists) (filter (λ (q : PostingList). has q.1 id) lists))
    ++ cond (has ids id) (trigram ∷ []) []) [
      | true ↦ ap (λ rest. p.0 ∷ rest) (set_push id lists trigram ids)
      | false ↦ set_push id lists trigram ids
    ]

-- ---- the ids ascend and are below the number of names

pub list_rises : (parts : Parts) (entry : ListEntry) → AscendWithin (length parts.names) 0 (ids_read parts entry).ids
list_rises parts entry =
    elim (bytes_eq (take 3 (drop entry.offset parts.postings)) (three_bytes entry.trigram)) as
    (λ b. AscendWithin (length parts.names) 0
    (cond b (read_ids (length parts.names) entry.count 0 (drop (entry.offset + 3) parts.postings)) damage).ids) [
      | true ↦ read_rise (length parts.names) entry.count 0 (drop (entry.offset + 3) parts.postings)
      | false ↦ tt
    ]

-- ---- list after list

abbrev pub read_posting : Parts → ListEntry → PostingList
read_posting parts e = (e.trigram, whole_ids (ids_read parts e))

pub lists_push : (parts : Parts) (position : ℕ) (entry : ListEntry) → slice_get parts.entries position ≡ Some entry →
    take {A = PostingList} (position + 1) (lists_in parts) ≡ take {A = PostingList} position (lists_in parts)
    ++ read_posting parts entry ∷ []
lists_push parts position entry h = more parts.entries position h
  where
    more : (es : List ListEntry) (k : ℕ) → slice_get es k ≡ Some entry →
        take {A = PostingList} (k + 1) (map (read_posting parts) es)
        ≡ take {A = PostingList} k (map (read_posting parts) es) ++ read_posting parts entry ∷ []
    more [] k h = cc
    more (e ∷ es) zero h = let is : e ≡ entry = cc in ap (λ (d : ListEntry). read_posting parts d ∷ []) is
    more (e ∷ es) (suc k) h =
        let one : suc k + 1 ≡ suc (k + 1) = omega arith in
        ap (λ n. take {A = PostingList} n (map (read_posting parts) (e ∷ es))) one ∙ ap (λ rest. read_posting parts e ∷ rest) (more es k h)

pub whole_push : (test : ListEntry → Bool) (es : List ListEntry) (k : ℕ) (entry : ListEntry) → slice_get es k
    ≡ Some entry → list_all test (take k es) ≡ true → test entry ≡ true → list_all test (take (k + 1) es) ≡ true
whole_push test [] k entry h all t = cc
whole_push test (e ∷ es) zero entry h all t = let is : e ≡ entry = cc in ap (λ b. b && true) (ap test is ∙ t)
whole_push test (e ∷ es) (suc k) entry h all t =
    let both = and_parts (test e) (list_all test (take k es)) all in
    let one : suc k + 1 ≡ suc (k + 1) = omega arith in
    ap (λ n. list_all test (take n (e ∷ es))) one ∙ and_from (test e) (list_all test (take (k + 1) es)) both.0
    (whole_push test es k entry h both.1 t)

pub one_damaged : (test : ListEntry → Bool) (es : List ListEntry) (k : ℕ) (entry : ListEntry) → slice_get es k
    ≡ Some entry → test entry ≡ false → list_all test es ≡ false
one_damaged test es k entry h f = list_all_at test es k entry (slice_get_within es k entry h)
    (ap test (get_or_from_slice_get es k entry entry h) ∙ f)
