-- A query is answered by the lists of the trigrams that it mentions.
use Rattle.std.proofs.Common.{◌≡◌, ◌<◌, ◌+◌, arith, ℕ, Bool, true, false, not, ◌&&◌, ◌||◌, eqb, List, [], ◌∷◌, length, map, Vec, Global, refl, sym, ap, subst, ◌∙◌, ◌⊎◌, inl, inr, cond}
use Rattle.std.specs.Cmp.{both_ways as same_tests}
use Rattle.std.proofs.lemmas.Bool.{cases_Bool, and_parts, eqb-true, eq-eqb, or_left, or_right}
use Rattle.std.specs.Prelude.{filter}
use Rattle.std.specs.List.{AllByRecursion, list_all, list_any, range_with_len}
use Rattle.cs_index.specs.AscendingIds.{AscendWithin, max_ids}
use Rattle.cs_trigram.specs.Trigram.{has}
use Rattle.cs_trigram.specs.Query.{matches_set}
use Rattle.cs_trigram.specs.declared.queries.Query.{Query, Query-F, map-Query, roll-Query, ind-Query}
use Rattle.cs_trigram.specs.declared.queries.Query.TheVariants.{Tri, And, Or, rolls-All, rolls-Nothing, rolls-Tri, rolls-And, rolls-Or}
use Rattle.cs_trigram.proofs.QueryLemmas.{matches_set-All, matches_set-Nothing, matches_set-Tri}
use Rattle.cs_index.specs.Encoding.{ListEntry}
use Rattle.cs_index.specs.PostingLists.{Ids, set_at}
use Rattle.cs_index.specs.Opening.{rises}
use Rattle.cs_index.specs.OpenedParts.{Parts, ids_read, lists_in, whole_ids}
use Rattle.cs_index.specs.Candidates.{candidates_of, name_matches}
use Rattle.cs_index.specs.Answerable.{mentions, is_answerable}
use Rattle.cs_index.specs.Postings.{has_entry, read_for}
use Rattle.cs_index.specs.declared.reading.form.FormNode.{FormNode}
use Rattle.cs_index.specs.Form.{number_matches, IsNumberOf}
use Rattle.cs_index.specs.Rows.{lists_are_whole, have_id, IsLeft}
use Rattle.cs_index.specs.StoredLists.{ListState, Holds, ids_left}
use Rattle.cs_index.proofs.candidates.FormValues.{all_at, all_from}
use Rattle.cs_index.proofs.candidates.QueryMembers.{answerable_as, answerable-Tri, candidates_are, list_rises, read_unlisted, is_mentioned-And, is_mentioned-Or, is_mentioned-Tri, matches_set-And, matches_set-Or, set_is}

-- ---- only the trigrams that a query mentions decide

module _ (one other : ℕ → Bool) where
  abbrev SameIf : Query → Type 0
  SameIf query = ((g : ℕ) → mentions query g ≡ true → one g ≡ other g) → matches_set query one ≡ matches_set query other

  abbrev Member : Type 0
  Member = (query : Query) × SameIf query

  abbrev queries : List Member → List Query
  queries = map (λ (m : Member). m.0)

  abbrev SameAll : List Query → Type 0
  SameAll ms = (g : ℕ) → list_any (λ q. mentions q g) ms ≡ true → one g ≡ other g

  first : (m : Member) (ms : List Member) → SameAll (queries (m ∷ ms)) → matches_set m.0 one ≡ matches_set m.0 other
  first m ms same = m.1 (λ g there. same g (or_left (mentions m.0 g) (list_any (λ q. mentions q g) (queries ms)) there))

  rest : (m : Member) (ms : List Member) → SameAll (queries (m ∷ ms)) → SameAll (queries ms)
  rest m ms same g there = same g (or_right (mentions m.0 g) (list_any (λ q. mentions q g) (queries ms)) there)

  each : (ms : List Member) → SameAll (queries ms) → list_all (λ q. matches_set q one) (queries ms)
      ≡ list_all (λ q. matches_set q other) (queries ms)
  each [] same = refl
  each (m ∷ ms) same = λ i. first m ms same i && each ms (rest m ms same) i

  some : (ms : List Member) → SameAll (queries ms) → list_any (λ q. matches_set q one) (queries ms)
      ≡ list_any (λ q. matches_set q other) (queries ms)
  some [] same = refl
  some (m ∷ ms) same = λ i. first m ms same i || some ms (rest m ms same) i

  same_And : (vs : Vec Query Global) (ms : List Member) → queries ms ≡ vs.items → SameIf (And vs)
  same_And vs ms are same =
      matches_set-And one vs ∙ ap (list_all (λ q. matches_set q one)) (sym are)
      ∙ each ms (λ g there. same g (is_mentioned-And g vs ∙ ap (list_any (λ q. mentions q g)) (sym are) ∙ there))
      ∙ ap (list_all (λ q. matches_set q other)) are ∙ sym (matches_set-And other vs)

  same_Or : (vs : Vec Query Global) (ms : List Member) → queries ms ≡ vs.items → SameIf (Or vs)
  same_Or vs ms are same =
      matches_set-Or one vs ∙ ap (list_any (λ q. matches_set q one)) (sym are)
      ∙ some ms (λ g there. same g (is_mentioned-Or g vs ∙ ap (list_any (λ q. mentions q g)) (sym are) ∙ there))
      ∙ ap (list_any (λ q. matches_set q other)) are ∙ sym (matches_set-Or other vs)

  same_rolled : (y : Query-F Member) → SameIf (roll-Query (map-Query Member Query (λ (m : Member). m.0) y))
  same_rolled Query-F.All = subst SameIf (sym rolls-All) (λ same. matches_set-All one ∙ sym (matches_set-All other))
  same_rolled Query-F.Nothing = subst SameIf (sym rolls-Nothing) (λ same. matches_set-Nothing one ∙ sym (matches_set-Nothing other))
  same_rolled (Query-F.Tri n) = subst SameIf (sym (rolls-Tri n))
      (λ same. matches_set-Tri one n ∙ same n (is_mentioned-Tri n n ∙ eq-eqb n n refl) ∙ sym (matches_set-Tri other n))
  same_rolled (Query-F.And ms) = subst SameIf (sym (rolls-And _)) (same_And _ ms.items refl)
  same_rolled (Query-F.Or ms) = subst SameIf (sym (rolls-Or _)) (same_Or _ ms.items refl)

  pub matches_same : (query : Query) → SameIf query
  matches_same = ind-Query SameIf (λ x y is. subst (λ z. SameIf (roll-Query z)) is (same_rolled y))

-- ---- a query is answerable if those lists are whole

module _ (mentioned : ℕ → Bool) (whole : ListEntry → Bool) where
  answer_from : (es : List ListEntry) → ((g : ℕ) → mentioned g ≡ true →
      list_all (λ (e : ListEntry). not (eqb e.trigram g) || whole e) es ≡ true) →
      list_all (λ (e : ListEntry). not (mentioned e.trigram) || whole e) es ≡ true
  answer_from [] f = refl
  answer_from (e ∷ es) f = (λ i. head (cases_Bool (mentioned e.trigram)) i && answer_from es
      (λ g there. (and_parts (not (eqb e.trigram g) || whole e)
      (list_all (λ (d : ListEntry). not (eqb d.trigram g) || whole d) es) (f g there)).1) i)
    where
      head : (mentioned e.trigram ≡ true) ⊎ (mentioned e.trigram ≡ false) → (not (mentioned e.trigram) || whole e) ≡ true
      head (inl there) =
          let both = and_parts (not (eqb e.trigram e.trigram) || whole e)
          (list_all (λ (d : ListEntry). not (eqb d.trigram e.trigram) || whole d) es) (f e.trigram there) in
          or_right (not (mentioned e.trigram)) (whole e) (sym (ap (λ b. not b || whole e) (eq-eqb e.trigram e.trigram refl)) ∙ both.0)
      head (inr gone) = ap (λ b. not b || whole e) gone

  answer_at : (es : List ListEntry) (g : ℕ) → mentioned g ≡ true →
      list_all (λ (e : ListEntry). not (mentioned e.trigram) || whole e) es ≡ true →
      list_all (λ (e : ListEntry). not (eqb e.trigram g) || whole e) es ≡ true
  answer_at [] g there h = refl
  answer_at (e ∷ es) g there h =
      let both = and_parts (not (mentioned e.trigram) || whole e)
      (list_all (λ (d : ListEntry). not (mentioned d.trigram) || whole d) es) h in
      λ i. head both.0 (cases_Bool (eqb e.trigram g)) i && answer_at es g there both.1 i
    where
      head : (not (mentioned e.trigram) || whole e) ≡ true → (eqb e.trigram g ≡ true) ⊎ (eqb e.trigram g ≡ false) →
          (not (eqb e.trigram g) || whole e) ≡ true
      head holds (inl here) = or_right (not (eqb e.trigram g)) (whole e)
          (sym (ap (λ b. not b || whole e) (ap mentioned (eqb-true e.trigram g here) ∙ there)) ∙ holds)
      head holds (inr apart) = ap (λ b. not b || whole e) apart

abbrev ids_have : List Ids → ℕ → List Bool
ids_have lists id = map (λ (list : Ids). has list.ids id) lists

abbrev ids_whole : List Ids → Bool
ids_whole lists = list_all (λ (list : Ids). list.whole) lists

module _ (parts : Parts) (up : rises parts.entries ≡ true) (query : Query) (trigrams : List ℕ)
    (are : (g : ℕ) → has trigrams g ≡ (mentions query g && has_entry parts.entries g)) where
  one_list : (g : ℕ) → list_all (λ (e : ListEntry). not (eqb e.trigram g) || (ids_read parts e).whole) parts.entries
      ≡ (read_for parts g).whole
  one_list g = sym (answerable_as parts (Tri g) (λ h. eqb h g) (λ h. is_mentioned-Tri h g)) ∙ answerable-Tri parts up g

  listed : (g : ℕ) → mentions query g ≡ true → has trigrams g ≡ has_entry parts.entries g
  listed g there = are g ∙ ap (λ b. b && has_entry parts.entries g) there

  -- a trigram that is mentioned has a whole list if all lists are whole
  whole_at : (g : ℕ) → list_all (λ k. (read_for parts k).whole) trigrams ≡ true → mentions query g ≡ true → (read_for parts g).whole ≡ true
  whole_at g h there = elim (cases_Bool (has_entry parts.entries g)) [
    | inl has_one ↦ all_at (λ k. (read_for parts k).whole) trigrams g h (listed g there ∙ has_one)
    | inr none ↦ ap (λ (ids : Ids). ids.whole) (read_unlisted parts g none)
  ]

  pub lists_answer : list_all (λ g. (read_for parts g).whole) trigrams ≡ is_answerable parts query
  lists_answer =
      let entries : Bool = list_all (λ (e : ListEntry). not (mentions query e.trigram) || (ids_read parts e).whole) parts.entries in
      same_tests (list_all (λ g. (read_for parts g).whole) trigrams) entries
      (λ h. answer_from (mentions query) (λ e. (ids_read parts e).whole) parts.entries (λ g there. one_list g ∙ whole_at g h there))
      (λ h. all_from (λ k. (read_for parts k).whole) trigrams
      (λ g there. sym (one_list g) ∙ answer_at (mentions query) (λ e. (ids_read parts e).whole) parts.entries g
      (and_parts (mentions query g) (has_entry parts.entries g) (sym (are g) ∙ there)).0 h))
      ∙ sym (answerable_as parts query (mentions query) (λ g. refl))

  map_alike : (f h : ℕ → Bool) (xs : List ℕ) → ((g : ℕ) → has xs g ≡ true → f g ≡ h g) → map f xs ≡ map h xs
  map_alike f h [] same = refl
  map_alike f h (x ∷ xs) same = λ i. same x (or_left (eqb x x) (has xs x) (eq-eqb x x refl)) i ∷ map_alike f h xs
      (λ g there. same g (or_right (eqb x g) (has xs g) there)) i

  have_all : (id : ℕ) (xs : List ℕ) → ids_have (map (read_for parts) xs) id ≡ map (λ g. has (read_for parts g).ids id) xs
  have_all id [] = refl
  have_all id (x ∷ xs) = λ i. has (read_for parts x).ids id ∷ have_all id xs i

  whole_all : (xs : List ℕ) → ids_whole (map (read_for parts) xs) ≡ list_all (λ g. (read_for parts g).whole) xs
  whole_all [] = refl
  whole_all (x ∷ xs) = λ i. (read_for parts x).whole && whole_all xs i

  pub lists_answer' : ids_whole (map (read_for parts) trigrams) ≡ is_answerable parts query
  lists_answer' = whole_all trigrams ∙ lists_answer

  -- the form matches an id as the query does
  form_matches : (nodes : List FormNode) (root : ℕ) → IsNumberOf trigrams nodes query root →
      ids_whole (map (read_for parts) trigrams) ≡ true → (id : ℕ) →
      number_matches (ids_have (map (read_for parts) trigrams) id) nodes root ≡ name_matches parts query id
  form_matches nodes root number whole id =
      let set : ℕ → Bool = λ g. has trigrams g && has (whole_ids (read_for parts g)) id in
      let each : (g : ℕ) → has trigrams g ≡ true → has (read_for parts g).ids id ≡ set g =
      λ g there. sym (ap (λ b. b && has (whole_ids (read_for parts g)) id) there
      ∙ ap (λ b. has (cond b (read_for parts g).ids []) id)
      (all_at (λ k. (read_for parts k).whole) trigrams g (sym (whole_all trigrams) ∙ whole) there)) in
      ap (λ lists. number_matches lists nodes root)
      (have_all id trigrams ∙ map_alike (λ g. has (read_for parts g).ids id) set trigrams each)
      ∙ number set (λ g gone. ap (λ b. b && has (whole_ids (read_for parts g)) id) gone)
      ∙ matches_same set (λ g. has (set_at id (lists_in parts)) g) query (λ g there.
      ap (λ b. b && has (whole_ids (read_for parts g)) id) (listed g there)
      ∙ entry_decides (has_entry parts.entries g) (has (whole_ids (read_for parts g)) id)
      (λ none. ap (λ (ids : Ids). has (whole_ids ids) id) (read_unlisted parts g none)) ∙ sym (set_is parts up g id))
    where
      entry_decides : (a b : Bool) → (a ≡ false → b ≡ false) → (a && b) ≡ b
      entry_decides true b h = refl
      entry_decides false b h = sym (h refl)

  pub candidates_met : (nodes : List FormNode) (root : ℕ) (count : ℕ) (ids : List ℕ) → count ≡ length parts.names →
      IsNumberOf trigrams nodes query root → ids_whole (map (read_for parts) trigrams) ≡ true →
      ids ≡ filter (λ id. number_matches (ids_have (map (read_for parts) trigrams) id) nodes root)
      (range_with_len 0 count) → ids ≡ candidates_of parts query
  candidates_met nodes root count ids names number whole is =
      is ∙ (λ i. filter (λ id. form_matches nodes root number whole id i) (range_with_len 0 (names i))) ∙ sym (candidates_are parts query)

  pub lists_ascend : length parts.names < max_ids → (xs : List ℕ) →
      AllByRecursion (λ (list : Ids). AscendWithin max_ids 0 list.ids) (map (read_for parts) xs)
  lists_ascend few [] = tt
  lists_ascend few (x ∷ xs) = (wider 0 (read_for parts x).ids (list_rises parts x), lists_ascend few xs)
    where
      wider : (next : ℕ) (ids : List ℕ) → AscendWithin (length parts.names) next ids → AscendWithin max_ids next ids
      wider next [] h = tt
      wider next (id ∷ ids) h = (h.0, omega (arith, few, h.1), wider (id + 1) ids h.2)

-- ---- the lists as they are read from a store

module _ (bytes : List ℕ) where
  have_left : (lists : List ListState) (id : ℕ) → have_id bytes lists id ≡ ids_have (map (ids_left bytes) lists) id
  have_left [] id = refl
  have_left (l ∷ ls) id = ap (λ t. has (ids_left bytes l).ids id ∷ t) (have_left ls id)

  whole_left : (lists : List ListState) → lists_are_whole bytes lists ≡ ids_whole (map (ids_left bytes) lists)
  whole_left [] = refl
  whole_left (l ∷ ls) = ap (λ b. (ids_left bytes l).whole && b) (whole_left ls)

  both_left : (lists : List ListState) → AllByRecursion (Holds bytes) lists →
      AllByRecursion (λ (list : Ids). AscendWithin max_ids 0 list.ids) (map (ids_left bytes) lists) →
      AllByRecursion (IsLeft bytes) lists
  both_left [] held up = tt
  both_left (l ∷ ls) held up = ((held.0, up.0), both_left ls held.1 up.1)

  module _ (parts : Parts) (up : rises parts.entries ≡ true) (query : Query) (trigrams : List ℕ)
      (are : (g : ℕ) → has trigrams g ≡ (mentions query g && has_entry parts.entries g))
      (lists : List ListState) (is : map (ids_left bytes) lists ≡ map (read_for parts) trigrams) where
    pub all_left : length parts.names < max_ids → AllByRecursion (Holds bytes) lists → AllByRecursion (IsLeft bytes) lists
    all_left few held =
        both_left lists held (subst (AllByRecursion (λ (list : Ids). AscendWithin max_ids 0 list.ids)) (sym is)
        (lists_ascend parts up query trigrams are few trigrams))

    pub whole_answers : lists_are_whole bytes lists ≡ is_answerable parts query
    whole_answers = whole_left lists ∙ ap ids_whole is ∙ lists_answer' parts up query trigrams are

    pub ids_are : (nodes : List FormNode) (root count : ℕ) (ids : List ℕ) → count ≡ length parts.names →
        IsNumberOf trigrams nodes query root → lists_are_whole bytes lists ≡ true
        → ids ≡ filter (λ id. number_matches (have_id bytes lists id) nodes root) (range_with_len 0 count) → ids ≡ candidates_of parts query
    ids_are nodes root count ids names number whole found =
        candidates_met parts up query trigrams are nodes root count ids names number
        (ap ids_whole (sym is) ∙ sym (whole_left lists) ∙ whole)
        (found ∙ (λ i. filter (λ id. number_matches ((have_left lists id ∙ ap (λ (ls : List Ids). ids_have ls id) is) i)
        nodes root) (range_with_len 0 count)))
