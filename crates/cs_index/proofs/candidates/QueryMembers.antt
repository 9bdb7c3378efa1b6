-- Queries by their members.
use Rattle.std.proofs.Common.{◌≡◌, ℕ, ◌+◌, Bool, true, false, not, cond, ◌&&◌, ◌||◌, eqb, List, [], ◌∷◌, length, map, Vec, Global, Option, Some, None, refl, sym, ap, ◌∙◌, inl, inr, find, take, drop}
use Rattle.std.proofs.Math.Bool.{and-true}
use Rattle.std.specs.Option.{is_some}
use Rattle.cs_index.specs.Postings.{entry_of, has_entry, nothing_read, read_for}
use Rattle.cs_index.specs.AscendingIds.{AscendWithin}
use Rattle.cs_index.specs.PostingLists.{Ids, damage, read_ids, set_at}
use Rattle.cs_trigram.specs.Trigram.{has, Ascends}
use Rattle.std.proofs.lemmas.Bool.{cases_Bool, cond_both, eqb-true, or_left, or_parts, true≢false}
use Rattle.std.proofs.lemmas.List.Folds.{list_all-map}
use Rattle.std.specs.Prelude.{filter, option_map, unwrap_or, bytes_eq}
use Rattle.std.specs.List.{list_all, list_any}
use Rattle.cs_trigram.specs.Query.{matches_set, matches_set_step}
use Rattle.cs_trigram.specs.declared.queries.Query.{Query, Query-F, fold-roll-Query}
use Rattle.cs_trigram.specs.declared.queries.Query.TheVariants.{Tri, And, Or, rolls-Tri, rolls-And, rolls-Or}
use Rattle.cs_index.specs.Encoding.{ListEntry, PostingList, three_bytes}
use Rattle.cs_index.specs.Opening.{rises}
use Rattle.cs_index.specs.OpenedParts.{Parts, ids_read, lists_in, whole_ids}
use Rattle.cs_index.specs.Candidates.{candidates_of, name_matches, ids_where}
use Rattle.cs_index.specs.Answerable.{mentions, mentions_step, is_answerable}
use Rattle.cs_index.proofs.decoding.DecodableBytesOpen.{rise_read}
use Rattle.cs_index.proofs.candidates.Intersection.{read_rise}
use Rattle.cs_trigram.proofs.SetLemmas.{ascends_tail, ascends_head, below_none}
use Rattle.cs_tree.proofs.NameLemmas.{list_any-map}

-- ---- unfolding of queries

module _ (set : ℕ → Bool) where
  pub matches_set-And : (members : Vec Query Global) → matches_set (And members) set ≡ list_all (λ q. matches_set q set) members.items
  matches_set-And members =
      ap (λ q. matches_set q set) (sym (rolls-And members)) ∙ fold-roll-Query Bool (matches_set_step set) (Query-F.And members)
      ∙ list_all-map (λ b. b) (λ q. matches_set q set) members.items

  pub matches_set-Or : (members : Vec Query Global) → matches_set (Or members) set ≡ list_any (λ q. matches_set q set) members.items
  matches_set-Or members =
      ap (λ q. matches_set q set) (sym (rolls-Or members)) ∙ fold-roll-Query Bool (matches_set_step set) (Query-F.Or members)
      ∙ list_any-map (λ q. matches_set q set) (λ b. b) members.items

module _ (g : ℕ) where
  pub is_mentioned-Tri : (n : ℕ) → mentions (Tri n) g ≡ eqb g n
  is_mentioned-Tri n = ap (λ q. mentions q g) (sym (rolls-Tri n)) ∙ fold-roll-Query Bool (mentions_step g) (Query-F.Tri n)

  pub is_mentioned-And : (members : Vec Query Global) → mentions (And members) g ≡ list_any (λ q. mentions q g) members.items
  is_mentioned-And members =
      ap (λ q. mentions q g) (sym (rolls-And members)) ∙ fold-roll-Query Bool (mentions_step g) (Query-F.And members)
      ∙ list_any-map (λ q. mentions q g) (λ b. b) members.items

  pub is_mentioned-Or : (members : Vec Query Global) → mentions (Or members) g ≡ list_any (λ q. mentions q g) members.items
  is_mentioned-Or members =
      ap (λ q. mentions q g) (sym (rolls-Or members)) ∙ fold-roll-Query Bool (mentions_step g) (Query-F.Or members)
      ∙ list_any-map (λ q. mentions q g) (λ b. b) members.items

-- ---- the lists of a query

module _ (parts : Parts) where
  pub answerable_as : (query : Query) (mentioned : ℕ → Bool) → ((g : ℕ) → mentions query g ≡ mentioned g) →
      is_answerable parts query ≡ list_all (λ (e : ListEntry). not (mentioned e.trigram) || (ids_read parts e).whole)
      parts.entries
  unfolding is_answerable
  answerable_as query mentioned h = ap (λ (p : ListEntry → Bool). list_all p parts.entries)
      (λ i e. not (h e.trigram i) || (ids_read parts e).whole)

-- ---- the list of a trigram

no_set : (f : ListEntry → Ids) (g k : ℕ) (es : List ListEntry) → has (map (λ (e : ListEntry). e.trigram) es) g ≡ false →
    has (set_at k (map (λ (e : ListEntry). (e.trigram, whole_ids (f e))) es)) g ≡ false
no_set f g k [] h = refl
no_set f g k (e ∷ es) h =
    let both = or_parts (eqb e.trigram g) (has (map (λ (d : ListEntry). d.trigram) es) g) h in
    cond_both (has (whole_ids (f e)) k) ((e.trigram, whole_ids (f e)) ∷ filter (λ (p : PostingList). has p.1 k)
    (map (λ (d : ListEntry). (d.trigram, whole_ids (f d))) es))
    (filter (λ (p : PostingList). has p.1 k) (map (λ (d : ListEntry). (d.trigram, whole_ids (f d))) es))
    (λ ps. has (map (λ (p : PostingList). p.0) ps) g ≡ false)
    (λ _. ap (λ b. b || has (set_at k (map (λ (d : ListEntry). (d.trigram, whole_ids (f d))) es)) g) both.0 ∙ no_set f g k es both.1)
    (λ _. no_set f g k es both.1)

none_mentioned : (whole : ListEntry → Bool) (g : ℕ) (es : List ListEntry) → has (map (λ (e : ListEntry). e.trigram) es)
    g ≡ false → list_all (λ (e : ListEntry). not (eqb e.trigram g) || whole e) es ≡ true
none_mentioned whole g [] h = refl
none_mentioned whole g (e ∷ es) h =
    let both = or_parts (eqb e.trigram g) (has (map (λ (d : ListEntry). d.trigram) es) g) h in
    (λ i. (not (both.0 i) || whole e) && none_mentioned whole g es both.1 i)

-- the result of looking a trigram up
found_ids : (ListEntry → Ids) → List ListEntry → ℕ → Ids
found_ids f es g = unwrap_or (option_map f (find (λ (e : ListEntry). eqb e.trigram g) es)) nothing_read

no_more : (e : ListEntry) (es : List ListEntry) (g : ℕ) → Ascends (map (λ (d : ListEntry). d.trigram) (e ∷ es)) →
    eqb e.trigram g ≡ true → has (map (λ (d : ListEntry). d.trigram) es) g ≡ false
no_more e es g up here =
    let ts : List ℕ = map (λ (d : ListEntry). d.trigram) es in
    ap (has ts) (sym (eqb-true e.trigram g here)) ∙ below_none e.trigram ts (ascends_head e.trigram ts up) (ascends_tail e.trigram ts up)

set_found : (f : ListEntry → Ids) (g k : ℕ) (es : List ListEntry) → Ascends (map (λ (e : ListEntry). e.trigram) es) →
    has (set_at k (map (λ (e : ListEntry). (e.trigram, whole_ids (f e))) es)) g ≡ has (whole_ids (found_ids f es g)) k
unfolding found_ids
set_found f g k [] up = refl
set_found f g k (e ∷ es) up =
    let rest : List PostingList = filter (λ (p : PostingList). has p.1 k) (map (λ (d : ListEntry). (d.trigram, whole_ids (f d))) es) in
    elim (cases_Bool (eqb e.trigram g)) [
      | inl here ↦
          let none = no_set f g k es (no_more e es g up here) in
          elim (cases_Bool (has (whole_ids (f e)) k)) [
            | inl there ↦
                ap (λ b. has (map (λ (p : PostingList). p.0) (cond b ((e.trigram, whole_ids (f e)) ∷ rest) rest)) g)
                there ∙ or_left (eqb e.trigram g) (has (map (λ (p : PostingList). p.0) rest) g) here
                ∙ sym (ap (λ b. has (whole_ids (unwrap_or
                (option_map f (cond b (Some e) (find (λ (d : ListEntry). eqb d.trigram g) es))) nothing_read)) k) here
                ∙ there)
            | inr gone ↦
                ap (λ b. has (map (λ (p : PostingList). p.0) (cond b ((e.trigram, whole_ids (f e)) ∷ rest) rest)) g) gone ∙ none
                ∙ sym (ap (λ b. has (whole_ids (unwrap_or
                (option_map f (cond b (Some e) (find (λ (d : ListEntry). eqb d.trigram g) es))) nothing_read)) k) here
                ∙ gone)
          ]
      | inr apart ↦
          cond_both (has (whole_ids (f e)) k) ((e.trigram, whole_ids (f e)) ∷ rest) rest
          (λ ps. has (map (λ (p : PostingList). p.0) ps) g ≡ has (whole_ids (found_ids f es g)) k)
          (λ _. ap (λ b. b || has (map (λ (p : PostingList). p.0) rest) g) apart
          ∙ set_found f g k es (ascends_tail e.trigram (map (λ (d : ListEntry). d.trigram) es) up))
          (λ _. set_found f g k es (ascends_tail e.trigram (map (λ (d : ListEntry). d.trigram) es) up))
          ∙ sym (ap (λ b. has (whole_ids (unwrap_or
          (option_map f (cond b (Some e) (find (λ (d : ListEntry). eqb d.trigram g) es))) nothing_read)) k) apart)
    ]

whole_found : (f : ListEntry → Ids) (g : ℕ) (es : List ListEntry) → Ascends (map (λ (e : ListEntry). e.trigram) es) →
    list_all (λ (e : ListEntry). not (eqb e.trigram g) || (f e).whole) es ≡ (found_ids f es g).whole
unfolding found_ids
whole_found f g [] up = refl
whole_found f g (e ∷ es) up = elim (cases_Bool (eqb e.trigram g)) [
  | inl here ↦
      (λ i. (not (here i) || (f e).whole) && none_mentioned (λ d. (f d).whole) g es (no_more e es g up here) i) ∙ and-true (f e).whole
      ∙ sym (ap (λ b. (unwrap_or (option_map f (cond b (Some e) (find (λ (d : ListEntry). eqb d.trigram g) es))) nothing_read).whole) here)
  | inr apart ↦
      ap (λ b. (not b || (f e).whole) && list_all (λ (d : ListEntry). not (eqb d.trigram g) || (f d).whole) es) apart
      ∙ whole_found f g es (ascends_tail e.trigram (map (λ (d : ListEntry). d.trigram) es) up)
      ∙ sym (ap (λ b. (unwrap_or (option_map f (cond b (Some e) (find (λ (d : ListEntry). eqb d.trigram g) es))) nothing_read).whole) apart)
]

module _ (parts : Parts) where
  -- the ids of an entry are ascending
  pub entry_rises : (e : ListEntry) → AscendWithin (length parts.names) 0 (ids_read parts e).ids
  entry_rises e =
      cond_both (bytes_eq (take 3 (drop e.offset parts.postings)) (three_bytes e.trigram))
      (read_ids (length parts.names) e.count 0 (drop (e.offset + 3) parts.postings)) damage
      (λ (r : Ids). AscendWithin (length parts.names) 0 r.ids)
      (λ _. read_rise (length parts.names) e.count 0 (drop (e.offset + 3) parts.postings)) (λ _. tt)

  pub list_rises : (g : ℕ) → AscendWithin (length parts.names) 0 (read_for parts g).ids
  unfolding read_for
  list_rises g = of (entry_of parts.entries g)
    where
      of : (o : Option ListEntry) → AscendWithin (length parts.names) 0 (unwrap_or (option_map (ids_read parts) o) nothing_read).ids
      of None = tt
      of (Some e) = entry_rises e

  -- a trigram without an entry has no ids
  pub read_unlisted : (g : ℕ) → has_entry parts.entries g ≡ false → read_for parts g ≡ nothing_read
  unfolding read_for
  read_unlisted g none = of (entry_of parts.entries g) none
    where
      of : (o : Option ListEntry) → is_some o ≡ false → unwrap_or (option_map (ids_read parts) o) nothing_read ≡ nothing_read
      of None h = refl
      of (Some e) h = absurd (true≢false h)

  pub candidates_are : (query : Query) → candidates_of parts query ≡ ids_where parts (name_matches parts query)
  unfolding candidates_of
  candidates_are query = refl

module _ (parts : Parts) (up : rises parts.entries ≡ true) where
  pub answerable-Tri : (g : ℕ) → is_answerable parts (Tri g) ≡ (read_for parts g).whole
  unfolding read_for found_ids
  answerable-Tri g = answerable_as parts (Tri g) (λ h. eqb h g) (λ h. is_mentioned-Tri h g)
      ∙ whole_found (ids_read parts) g parts.entries (rise_read parts.entries up)

  pub set_is : (g k : ℕ) → has (set_at k (lists_in parts)) g ≡ has (whole_ids (read_for parts g)) k
  unfolding read_for found_ids
  set_is g k = set_found (ids_read parts) g k parts.entries (rise_read parts.entries up)
