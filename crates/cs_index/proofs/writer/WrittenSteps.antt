-- The invariant of `Written` after each operation.
use Rattle.std.proofs.Common.{◌≡◌, ◌≢◌, ℕ, ◌+◌, ◌*◌, ◌^◌, ◌<◌, ◌≤◌, false, cond, eqb, List, [], ◌∷◌, ◌++◌, length, map, Option, None, Some, refl, sym, subst, ◌∙◌, inl, inr, arith, append_assoc, length-append}
use Rattle.cs_tree.proofs.GatherLemmas.{all-append}
use Rattle.cs_trigram.specs.Trigram.{has, closing_trigram, Ascends}
use Rattle.cs_trigram.proofs.SetLemmas.{Above, ascends_cons, ascends_tail, ascends_head}
use Rattle.std.proofs.lemmas.Bool.{true≢false, cases_Bool, cond_both, eq-eqb}
use Rattle.std.proofs.lemmas.List.{append-nil, length-map}
use Rattle.std.specs.Prelude.{filter}
use Rattle.std.specs.List.{AllByRecursion, concat}
use Rattle.cs_index.specs.Encoding.{Entry, PostingList, IsString, encoding_of, layout, posting_list_bytes, postings_of, sections_of, with_nul, starts_from, four_bytes, name_offsets}
use Rattle.cs_index.specs.AscendingIds.{next_after, IsPostingList}
use Rattle.cs_index.specs.Gathering.{trigrams_in}
use Rattle.cs_index.specs.Written.{ids_of, with_id, Written, entries_written, with_written_id, with_sent, AllBelow}
use Rattle.cs_index.specs.WrittenLists.{IsWritten, IsLastList, with_posting, with_postings}
use Rattle.cs_index.specs.Indexable.{IsIndexable}
use Rattle.cs_index.specs.PostingLists.{entries_of, set_at}
use Rattle.cs_index.proofs.writer.BuilderAdd.{names_entries}
use Rattle.cs_index.proofs.writer.EntriesOfLists.{each_gathered}
use Rattle.cs_index.proofs.writer.ListsBelow.{ascend_push}
use Rattle.cs_index.proofs.encoding.InvertedLists.{length-entries_of, postings_gathered}
use Rattle.cs_index.proofs.writer.StringsPush.{length-starts_from}
use Rattle.cs_index.proofs.decoding.DecodingIsUnique.{lengths}
use Rattle.cs_index.proofs.encoding.FixedWidthFields.{length-fours}

-- ---- one more list

at_limit : (lists : List PostingList) (trigram : ℕ) → AllBelow lists trigram →
    AllByRecursion (λ (p : PostingList). p.0 ≤ trigram) lists
at_limit [] trigram all = tt
at_limit (p ∷ lists) trigram all = (omega (arith, all.0), at_limit lists trigram all.1)

-- ---- one more id

above_id : (n : ℕ) (lists : List PostingList) (trigram id : ℕ) → n < trigram → Above n (trigrams_in lists) →
    Above n (trigrams_in (with_id lists trigram id))
above_id n [] trigram id less up = less
above_id n (p ∷ lists) trigram id less up =
    elim (cases_Bool (eqb p.0 trigram)) [
      | inl here ↦ subst (λ b. Above n (trigrams_in (cond b ((p.0, p.1 ++ id ∷ []) ∷ lists) (p ∷ with_id lists trigram id))))
          (sym here) up
      | inr apart ↦ subst (λ b. Above n
          (trigrams_in (cond b ((p.0, p.1 ++ id ∷ []) ∷ lists) (p ∷ with_id lists trigram id)))) (sym apart) up
    ]

ascend_id : (lists : List PostingList) (trigram id : ℕ) → Ascends (trigrams_in lists) →
    AllByRecursion (λ (p : PostingList). p.0 ≤ trigram) lists → Ascends (trigrams_in (with_id lists trigram id))
ascend_id [] trigram id up all = tt
ascend_id (p ∷ lists) trigram id up all =
    elim (cases_Bool (eqb p.0 trigram)) [
      | inl here ↦ subst (λ b. Ascends (trigrams_in (cond b ((p.0, p.1 ++ id ∷ []) ∷ lists) (p ∷ with_id lists trigram id))))
          (sym here) up
      | inr apart ↦
          let less : p.0 < trigram = below p.0 trigram all.0 apart in
          subst (λ b. Ascends (trigrams_in (cond b ((p.0, p.1 ++ id ∷ []) ∷ lists) (p ∷ with_id lists trigram id))))
          (sym apart)
          (ascends_cons p.0 (trigrams_in (with_id lists trigram id))
          (above_id p.0 lists trigram id less (ascends_head p.0 (trigrams_in lists) up))
          (ascend_id lists trigram id (ascends_tail p.0 (trigrams_in lists) up) all.1))
    ]
  where
    below : (n m : ℕ) → n ≤ m → eqb n m ≡ false → n < m
    below n m le apart = let differ : n ≢ m = λ e. true≢false (sym (eq-eqb n m e) ∙ apart) in omega (arith, le, differ)

last_id : (lists : List PostingList) (trigram id : ℕ) → AllByRecursion (λ (p : PostingList). p.0 ≤ trigram) lists →
    AllByRecursion (λ (p : PostingList). p.0 ≤ trigram) (with_id lists trigram id)
last_id [] trigram id all = (omega arith, tt)
last_id (p ∷ lists) trigram id all =
    elim (cases_Bool (eqb p.0 trigram)) [
      | inl here ↦ subst (λ b. AllByRecursion (λ (q : PostingList). q.0 ≤ trigram)
          (cond b ((p.0, p.1 ++ id ∷ []) ∷ lists) (p ∷ with_id lists trigram id))) (sym here) (all.0, all.1)
      | inr apart ↦ subst (λ b. AllByRecursion (λ (q : PostingList). q.0 ≤ trigram)
          (cond b ((p.0, p.1 ++ id ∷ []) ∷ lists) (p ∷ with_id lists trigram id))) (sym apart)
          (all.0, last_id lists trigram id all.1)
    ]

pub written_given : (output : Written) (trigram id : ℕ) → IsWritten output → output.last_trigram ≡ Some trigram →
    next_after 0 (ids_of output.lists trigram) ≤ id → id < length output.names → IsWritten (with_written_id output trigram id)
written_given output trigram id is begun above named =
    let last : IsLastList output.lists (Some trigram) = subst (IsLastList output.lists) begun is.last in
    record {
      each_path = is.each_path;
      each_name = is.each_name;
      bound = is.bound;
      postings = record {
        ascend = ascend_id output.lists trigram id is.postings.ascend last.1;
        each = each_gathered (length output.names) output.lists trigram id is.postings.each above named;
      };
      last = subst (IsLastList (with_id output.lists trigram id)) (sym begun) (last.0, last_id output.lists trigram id last.1);
    }

-- ---- one more list

pub written_begun : (output : Written) (p : PostingList) → IsWritten output → p.0 < 16777215 → AllBelow output.lists p.0 →
    IsPostingList (length output.names) p → IsWritten (with_posting output p)
written_begun output p is small above posting = record {
  each_path = is.each_path;
  each_name = is.each_name;
  bound = is.bound;
  postings = record {
    ascend = ascend_push output.lists p is.postings.ascend above;
    each = all-append (IsPostingList (length output.names)) output.lists (p ∷ []) is.postings.each (posting, tt);
  };
  last = (small, all-append (λ (q : PostingList). q.0 ≤ p.0) output.lists (p ∷ []) (at_limit output.lists p.0 above) (omega arith, tt));
}

-- ---- the index

pub written_postings : (output : Written) → IsWritten output → postings_of (entries_written output) ≡ output.lists
written_postings output is = postings_gathered output.names output.lists is.postings

pub written_encoding : (output : Written) → IsWritten output →
    layout (sections_of output.paths output.names output.lists) ≡ encoding_of output.paths (entries_written output)
written_encoding output is = λ i. layout
    (sections_of output.paths (sym (names_entries 0 output.names output.lists) i) (sym (written_postings output is) i))

below_closing : (lists : List PostingList) (begun : Option ℕ) → IsLastList lists begun →
    AllByRecursion (λ (p : PostingList). p.0 < 16777215) lists
below_closing lists None none = subst (AllByRecursion (λ (p : PostingList). p.0 < 16777215)) (sym none) tt
below_closing lists (Some trigram) last = below lists last.1
  where
    below : (ps : List PostingList) → AllByRecursion (λ (p : PostingList). p.0 ≤ trigram) ps →
        AllByRecursion (λ (p : PostingList). p.0 < 16777215) ps
    below [] all = tt
    below (p ∷ ps) all = (omega (arith, all.0, last.0), below ps all.1)

set_below : (id : ℕ) (lists : List PostingList) → AllByRecursion (λ (p : PostingList). p.0 < 16777215) lists →
    AllByRecursion (λ g. g < 16777215) (set_at id lists)
set_below id [] all = tt
set_below id (p ∷ lists) all =
    cond_both (has p.1 id) (p ∷ filter (λ (q : PostingList). has q.1 id) lists)
    (filter (λ (q : PostingList). has q.1 id) lists)
    (λ ps. AllByRecursion (λ g. g < 16777215) (map (λ (q : PostingList). q.0) ps))
    (λ _. (all.0, set_below id lists all.1)) (λ _. set_below id lists all.1)

sets_below : (first : ℕ) (names : List (List ℕ)) (lists : List PostingList) →
    AllByRecursion (λ (p : PostingList). p.0 < 16777215) lists →
    AllByRecursion (λ (entry : Entry). AllByRecursion (λ g. g < 16777215) entry.1) (entries_of first names lists)
sets_below first [] lists all = tt
sets_below first (name ∷ names) lists all = (set_below first lists all, sets_below (first + 1) names lists all)

-- the name index has four bytes for each name, and four more
pub names_within : (paths names : List (List ℕ)) (lists : List PostingList) →
    4 * length names + 4 ≤ length (layout (sections_of paths names lists))
names_within paths names lists =
    let l = lengths (sections_of paths names lists) in
    let parts : length (name_offsets names ++ four_bytes (length (concat (map with_nul names)))) ≡ length
    (name_offsets names) + 4 = length-append (name_offsets names) _ in
    let offsets = length-fours (starts_from 0 (map with_nul names)) in
    let count = length-starts_from 0 (map with_nul names) ∙ length-map names with_nul in
    omega (arith, l.whole, l.bytes_are, parts, offsets, count)

-- the posting lists are a part of the index
pub lists_within : (paths names : List (List ℕ)) (lists : List PostingList) →
    length (concat (map posting_list_bytes lists)) ≤ length (layout (sections_of paths names lists))
lists_within paths names lists =
    let l = lengths (sections_of paths names lists) in
    let parts = length-append (concat (map posting_list_bytes lists)) (posting_list_bytes (closing_trigram, [])) in
    omega (arith, l.whole, l.bytes_are, parts)

pub names_bound : (paths names : List (List ℕ)) (lists : List PostingList) →
    length (layout (sections_of paths names lists)) < 2 ^ 32 → length names < 2 ^ 31
names_bound paths names lists short = let within = names_within paths names lists in omega (arith, within, short)

pub written_indexable : (output : Written) → IsWritten output → length (encoding_of output.paths (entries_written output)) < 2 ^ 32 →
    IsIndexable output.paths (entries_written output)
written_indexable output is short =
    let bound : length output.names < 2 ^ 31 = names_bound output.paths output.names output.lists
    (subst (λ (bytes : List ℕ). length bytes < 2 ^ 32) (sym (written_encoding output is)) short) in
    let many : length (entries_written output) ≡ length output.names = length-entries_of 0 output.names output.lists in
    record {
      each_path = is.each_path;
      each_name = subst (AllByRecursion IsString) (sym (names_entries 0 output.names output.lists)) is.each_name;
      trigrams = sets_below 0 output.names output.lists (below_closing output.lists output.last_trigram is.last);
      bound = omega (arith, bound, many);
      short = short;
    }

-- ---- several more lists

pub postings_more : (output : Written) (ps : List PostingList) →
    ((with_postings output ps).paths ≡ output.paths) × ((with_postings output ps).names
    ≡ output.names) × ((with_postings output ps).lists ≡ output.lists ++ ps)
postings_more output [] = (refl, refl, sym (append-nil output.lists))
postings_more output (p ∷ ps) = let rest = postings_more (with_posting output p) ps in
    (rest.0, rest.1, rest.2 ∙ append_assoc output.lists (p ∷ []) ps)

pub postings_append : (output : Written) (ps qs : List PostingList) →
    with_postings output (ps ++ qs) ≡ with_postings (with_postings output ps) qs
postings_append output [] qs = refl
postings_append output (p ∷ ps) qs = postings_append (with_posting output p) ps qs

pub postings_sent : (output : Written) (ps : List PostingList) → (with_postings output ps).sent ≡ output.sent
postings_sent output [] = refl
postings_sent output (p ∷ ps) = postings_sent (with_posting output p) ps

pub sent_postings : (output : Written) (sent : List ℕ) (ps : List PostingList) →
    with_postings (with_sent output sent) ps ≡ with_sent (with_postings output ps) sent
sent_postings output sent [] = refl
sent_postings output sent (p ∷ ps) = sent_postings (with_posting output p) sent ps
