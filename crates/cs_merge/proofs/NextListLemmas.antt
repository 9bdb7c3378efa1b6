-- The list at a position of the list index.
use Rattle.std.proofs.Common.{◌≡◌, ℕ, zero, suc, ◌+◌, ◌<◌, ◌≤◌, true, false, cond, ◌||◌, eqb, ltb, List, [], ◌∷◌, ◌++◌, length, take, refl, sym, ap, subst, ◌∙◌, ◌⊎◌, inl, inr, Option, Some, None, arith, slice_get, nat_le, option_map}
use Rattle.cs_merge.proofs.Common.{true≢false, and_parts, or_cases, cases_Bool, cases_eq, eqb-true, eq-eqb, ltb-true, ltb-false, append-nil, same_Some, slice_get_within, list_all, option_map_or, has, closing_trigram, ListEntry, PostingList, Parts, are_whole, ids_read, lists_in, AreValidParts, Ids, set_at, AscendWithin, list_ids, lower_of, position_after, list_trigram, nothing_read, none-some}
use Rattle.cs_index.specs.Opening.{is_entry, rises}
use Rattle.cs_merge.proofs.ReadIdsLemmas.{list_rises, lists_push, one_damaged, read_posting, set_push, whole_push}
use Rattle.cs_merge.proofs.StorableLemmas.{none_read}

module _ (parts : Parts) (position trigram : ℕ) where
  -- Whether the list at the position has the trigram.
  data ListCase : Type 0 where
    takes : (entry : ListEntry) → slice_get parts.entries position ≡ Some entry → entry.trigram ≡ trigram →
        list_ids parts position trigram ≡ ids_read parts entry → position_after parts position trigram ≡ position + 1 →
        ListCase
    stays : list_ids parts position trigram ≡ nothing_read → position_after parts position trigram ≡ position →
        ((entry : ListEntry) → slice_get parts.entries position ≡ Some entry → entry.trigram ≡ trigram → ⊥) → ListCase

  abbrev ids_for : Option ListEntry → Ids
  ids_for o = option_map_or (λ (e : ListEntry). cond (eqb e.trigram trigram) (ids_read parts e) nothing_read) o nothing_read

  abbrev position_for : Option ListEntry → ℕ
  position_for o = option_map_or (λ (e : ListEntry). cond (eqb e.trigram trigram) (position + 1) position) o position

  list_case : ListCase
  list_case = by_entry (slice_get parts.entries position) refl
    where
      by_entry : (o : Option ListEntry) → slice_get parts.entries position ≡ o → ListCase
      by_entry None e = stays (ap ids_for e) (ap position_for e) (λ entry there same. none-some entry (sym e ∙ there))
      by_entry (Some entry) e =
          elim (cases_Bool (eqb entry.trigram trigram)) [
            | inl same ↦ takes entry e (eqb-true entry.trigram trigram same)
                (ap ids_for e ∙ ap (λ b. cond b (ids_read parts entry) nothing_read) same)
                (ap position_for e ∙ ap (λ b. cond b (position + 1) position) same)
            | inr apart ↦
                stays (ap ids_for e ∙ ap (λ b. cond b (ids_read parts entry) nothing_read) apart)
                (ap position_for e ∙ ap (λ b. cond b (position + 1) position) apart)
                (λ other there same. true≢false (sym (eq-eqb entry.trigram trigram
                (ap (λ (d : ListEntry). d.trigram) (same_Some entry other (sym e ∙ there)) ∙ same)) ∙ apart))
          ]

  pub sets_grow : (list_ids parts position trigram).whole ≡ true → (id : ℕ) →
      set_at id (take (position_after parts position trigram) (lists_in parts))
      ≡ set_at id (take position (lists_in parts)) ++ cond (has (list_ids parts position trigram).ids id) (trigram ∷ [])
      []
  sets_grow whole id = elim list_case [
    | takes entry there same ids after ↦
        let all : (ids_read parts entry).whole ≡ true = ap (λ (r : Ids). r.whole) (sym ids) ∙ whole in
        let posting : ◌≡◌ {A = PostingList} (read_posting parts entry)
        (trigram, (list_ids parts position trigram).ids) =
        (λ i. (same i, cond (all i) (ids_read parts entry).ids [])) ∙ (λ i. (trigram, (sym ids i).ids)) in
        ap (λ n. set_at id (take n (lists_in parts))) after
        ∙ ap (set_at id) (lists_push parts position entry there)
        ∙ ap (λ (p : PostingList). set_at id (take position (lists_in parts) ++ p ∷ [])) posting
        ∙ set_push id (take position (lists_in parts)) trigram (list_ids parts position trigram).ids
    | stays ids after differs ↦
        ap (λ n. set_at id (take n (lists_in parts))) after
        ∙ sym (ap (λ (r : Ids). set_at id (take position (lists_in parts)) ++ cond (has r.ids id) (trigram ∷ []) []) ids
        ∙ append-nil (set_at id (take position (lists_in parts))))
  ]

  pub ids_rise : AscendWithin (length parts.names) 0 (list_ids parts position trigram).ids
  ids_rise = elim list_case [
    | takes entry there same ids after ↦ subst (λ (r : Ids). AscendWithin (length parts.names) 0 r.ids) (sym ids) (list_rises parts entry)
    | stays ids after differs ↦ subst (λ (r : Ids). AscendWithin (length parts.names) 0 r.ids) (sym ids) tt
  ]

  entry_fits : (entries : List ListEntry) (at : ℕ) (entry : ListEntry) → list_all (is_entry (length parts.postings))
      entries ≡ true → slice_get entries at ≡ Some entry → is_entry (length parts.postings) entry ≡ true
  entry_fits [] at entry all there = cc
  entry_fits (e ∷ entries) zero entry all there = subst (λ (d : ListEntry). is_entry (length parts.postings) d ≡ true)
      (same_Some e entry there) (and_parts (is_entry (length parts.postings) e)
      (list_all (is_entry (length parts.postings)) entries) all).0
  entry_fits (e ∷ entries) (suc at) entry all there =
      entry_fits entries at entry (and_parts (is_entry (length parts.postings) e)
      (list_all (is_entry (length parts.postings)) entries) all).1 there

  -- the entry of the closing trigram counts no file
  pub closing_counts : AreValidParts parts → closing_trigram ≤ trigram → (entry : ListEntry) →
      slice_get parts.entries position ≡ Some entry → entry.trigram ≡ trigram → entry.count ≡ 0
  closing_counts are from entry there same =
      let fits = and_parts (nat_le (entry.offset + 4) (length parts.postings))
      (ltb entry.trigram closing_trigram || eqb entry.count 0)
      (entry_fits parts.entries position entry are.fit there) in
      elim (or_cases (ltb entry.trigram closing_trigram) (eqb entry.count 0) fits.1) [
        | inl below ↦ let less = ltb-true entry.trigram closing_trigram below in absurd (omega (arith, less, same, from))
        | inr none ↦ eqb-true entry.count 0 none
      ]

  -- no file has the closing trigram
  pub closing_has_none : AreValidParts parts → closing_trigram ≤ trigram → (list_ids parts position trigram).ids ≡ []
  closing_has_none are from = elim list_case [
    | takes entry there same ids after ↦ ap (λ (r : Ids). r.ids) ids ∙ none_read parts entry (closing_counts are from entry there same)
    | stays ids after differs ↦ ap (λ (r : Ids). r.ids) ids
  ]

  pub whole_so_far : list_all (λ (e : ListEntry). (ids_read parts e).whole) (take position parts.entries) ≡ true →
      (list_ids parts position trigram).whole ≡ true → list_all (λ (e : ListEntry). (ids_read parts e).whole)
      (take (position_after parts position trigram) parts.entries) ≡ true
  whole_so_far all whole = elim list_case [
    | takes entry there same ids after ↦
        ap (λ n. list_all (λ (e : ListEntry). (ids_read parts e).whole) (take n parts.entries)) after
        ∙ whole_push (λ (e : ListEntry). (ids_read parts e).whole) parts.entries position entry there all
        (ap (λ (r : Ids). r.whole) (sym ids) ∙ whole)
    | stays ids after differs ↦ ap (λ n. list_all (λ (e : ListEntry). (ids_read parts e).whole) (take n parts.entries)) after ∙ all
  ]

  pub damage_in_list : (list_ids parts position trigram).whole ≡ false → are_whole parts ≡ false
  damage_in_list fails = elim list_case [
    | takes entry there same ids after ↦ one_damaged (λ (e : ListEntry). (ids_read parts e).whole) parts.entries
        position entry there (ap (λ (r : Ids). r.whole) (sym ids) ∙ fails)
    | stays ids after differs ↦ absurd (true≢false (ap (λ (r : Ids). r.whole) (sym ids) ∙ fails))
  ]

  rises_next : (entries : List ListEntry) (at : ℕ) (one next : ListEntry) → rises entries ≡ true → slice_get entries at
      ≡ Some one → slice_get entries (at + 1) ≡ Some next → one.trigram < next.trigram
  rises_next [] at one next up here there = cc
  rises_next (d ∷ []) zero one next up here there = cc
  rises_next (d ∷ e ∷ entries) zero one next up here there =
      let first : d.trigram ≡ one.trigram = ap (λ (x : ListEntry). x.trigram) (same_Some d one here) in
      let second : e.trigram ≡ next.trigram = ap (λ (x : ListEntry). x.trigram) (same_Some e next there) in
      let less = ltb-true d.trigram e.trigram (and_parts (ltb d.trigram e.trigram) (rises (e ∷ entries)) up).0 in
      omega (arith, first, second, less)
  rises_next (d ∷ []) (suc at) one next up here there = cc
  rises_next (d ∷ e ∷ entries) (suc at) one next up here there =
      let on : suc at + 1 ≡ suc (at + 1) = omega arith in
      rises_next (e ∷ entries) at one next (and_parts (ltb d.trigram e.trigram) (rises (e ∷ entries)) up).1 here
      (ap (slice_get (d ∷ e ∷ entries)) (sym on) ∙ there)

  -- the next list has a higher trigram, if no remaining list has a lower one
  pub next_above : AreValidParts parts → ((entry : ListEntry) → slice_get parts.entries position ≡ Some entry →
      trigram ≤ entry.trigram) → (entry : ListEntry) → slice_get parts.entries (position_after parts position trigram)
      ≡ Some entry → trigram < entry.trigram
  next_above are least next there = elim list_case [
    | takes entry here same ids after ↦
        let less = rises_next parts.entries position entry next are.rise here (ap (slice_get parts.entries) (sym after) ∙ there) in
        omega (arith, same, less)
    | stays ids after differs ↦
        let at : slice_get parts.entries position ≡ Some next = ap (slice_get parts.entries) (sym after) ∙ there in
        let from : trigram ≤ next.trigram = least next at in
        elim (cases_eq next.trigram trigram) [
          | inl same ↦ absurd (differs next at same)
          | inr apart ↦ omega (arith, from, apart)
        ]
  ]

  -- the position advances or stays, and is not past the end
  pub moves_within : position ≤ length parts.entries → (position ≤ position_after parts position trigram) ×
      (position_after parts position trigram ≤ length parts.entries)
  moves_within within = elim list_case [
    | takes entry there same ids after ↦ let less = slice_get_within parts.entries position entry there in
        (omega (arith, after), omega (arith, after, less))
    | stays ids after differs ↦ (omega (arith, after), omega (arith, after, within))
  ]

  pub moves : list_trigram parts position ≡ Some trigram → position_after parts position trigram ≡ position + 1
  moves e = by_list_case list_case
    where
      by_list_case : ListCase → position_after parts position trigram ≡ position + 1
      by_list_case (takes entry there same ids after) = after
      by_list_case (stays ids after differs) = absurd (by_entry (slice_get parts.entries position) refl e)
        where
          by_entry : (o : Option ListEntry) → slice_get parts.entries position ≡ o →
              option_map (λ (d : ListEntry). d.trigram) (slice_get parts.entries position) ≡ Some trigram → ⊥
          by_entry None f g = none-some trigram (sym (ap (option_map (λ (d : ListEntry). d.trigram)) f) ∙ g)
          by_entry (Some entry) f g = differs entry f
              (same_Some entry.trigram trigram (sym (ap (option_map (λ (d : ListEntry). d.trigram)) f) ∙ g))

-- ---- the lower of two trigrams

pub entry_trigram : (parts : Parts) (position : ℕ) (entry : ListEntry) → slice_get parts.entries position ≡ Some entry →
    list_trigram parts position ≡ Some entry.trigram
entry_trigram parts position entry there = ap (option_map (λ (d : ListEntry). d.trigram)) there

-- The number is the minimum of the two optional numbers.
pub record IsLower (some other : Option ℕ) (number : ℕ) : Type 0 where
  pub some_from : (n : ℕ) → some ≡ Some n → number ≤ n
  pub other_from : (n : ℕ) → other ≡ Some n → number ≤ n
  pub one : (some ≡ Some number) ⊎ (other ≡ Some number)

pub is_lower : (some other : Option ℕ) (number : ℕ) → lower_of some other ≡ Some number → IsLower some other number
is_lower None other number e = record {
  some_from = λ n f. cc;
  other_from = λ n f. let is : number ≡ n = same_Some number n (sym e ∙ f) in omega (arith, is);
  one = inr e;
}
is_lower (Some a) None number e = record {
  some_from = λ n f. let is : number ≡ n = same_Some number n (sym e ∙ f) in omega (arith, is);
  other_from = λ n f. cc;
  one = inl e;
}
is_lower (Some a) (Some b) number e =
    elim (cases_Bool (ltb b a)) [
      | inl lower ↦
          let below = ltb-true b a lower in
          let is : b ≡ number = same_Some b number (sym (ap (λ t. cond t (Some b) (Some a)) lower) ∙ e) in
          record {
            some_from = λ n f. let same : a ≡ n = same_Some a n f in omega (arith, is, same, below);
            other_from = λ n f. let same : b ≡ n = same_Some b n f in omega (arith, is, same);
            one = inr (ap Some is);
          }
      | inr from ↦
          let least = ltb-false b a from in
          let is : a ≡ number = same_Some a number (sym (ap (λ t. cond t (Some b) (Some a)) from) ∙ e) in
          record {
            some_from = λ n f. let same : a ≡ n = same_Some a n f in omega (arith, is, same);
            other_from = λ n f. let same : b ≡ n = same_Some b n f in omega (arith, is, same, least);
            one = inl (ap Some is);
          }
    ]
