-- The merge of two lists by id.
use Rattle.std.proofs.Common.{◌≡◌, ◌≢◌, ℕ, ◌+◌, ◌<◌, ◌≤◌, Bool, true, false, cond, ◌||◌, eqb, ltb, List, [], ◌∷◌, ◌++◌, length, refl, sym, ap, subst, ◌∙◌, ◌⊎◌, inl, inr, Option, Some, None, arith, slice_get, append_assoc}
use Rattle.cs_merge.proofs.Common.{cases_Bool, cases_eq, eqb-true, eq-eqb, ne_eqb, ltb-true, ltb-false, same_Some, append-nil, option_map_or, PostingList, has, ids_of, with_id, Written, AllBelow, last_ids, with_written_id, with_last_id, with_last_ids, next_after, AscendWithin, list_of, lower_of, without_number, IsMergedList, or-true, none-some}
use Rattle.cs_merge.proofs.TrigramSetLemmas.{with_one_more, ids_of_more}
use Rattle.std.proofs.Math.Bool.{or-false}
use Rattle.cs_trigram.proofs.SetLemmas.{has-append}

-- ---- the lower of two first ids

-- no id of the list is below the number
abbrev AtLeast : ℕ → List ℕ → Type 0
AtLeast id [] = Unit {0}
AtLeast id (one ∷ rest) = id ≤ one

-- The id is the lowest of both lists.
record IsLowest (id : ℕ) (some others : List ℕ) : Type 0 where
  some_from : AtLeast id some
  others_from : AtLeast id others
  among : (slice_get some 0 ≡ Some id) ⊎ (slice_get others 0 ≡ Some id)

lowest : (some others : List ℕ) (id : ℕ) → lower_of (slice_get some 0) (slice_get others 0) ≡ Some id → IsLowest id some others
lowest [] [] id e = cc
lowest [] (b ∷ bs) id e = let is : b ≡ id = same_Some b id e in record { some_from = tt; others_from = omega (arith, is); among = inr e }
lowest (a ∷ xs) [] id e = let is : a ≡ id = same_Some a id e in record { some_from = omega (arith, is); others_from = tt; among = inl e }
lowest (a ∷ xs) (b ∷ bs) id e =
    elim (cases_Bool (ltb b a)) [
      | inl lower ↦
          let below = ltb-true b a lower in
          let is : b ≡ id = same_Some b id (sym (ap (λ t. cond t (Some b) (Some a)) lower) ∙ e) in
          record { some_from = omega (arith, is, below); others_from = omega (arith, is); among = inr (ap Some is) }
      | inr from ↦
          let least = ltb-false b a from in
          let is : a ≡ id = same_Some a id (sym (ap (λ t. cond t (Some b) (Some a)) from) ∙ e) in
          record { some_from = omega (arith, is); others_from = omega (arith, is, least); among = inl (ap Some is) }
    ]

pub no_more : {X : Type 0} (o : Option X) → ((x : X) → o ≡ Some x → ⊥) → o ≡ None
no_more None h = refl
no_more (Some x) h = absurd (h x refl)

-- ---- a list without its first id

rise_without : (count next id : ℕ) (ids : List ℕ) → AscendWithin count next ids → AtLeast id ids →
    AscendWithin count (id + 1) (without_number id ids)
rise_without count next id [] up from = tt
rise_without count next id (one ∷ ids) up from =
    elim (cases_eq one id) [
      | inl is ↦ subst (λ b. AscendWithin count (id + 1) (cond b ids (one ∷ ids))) (sym (eq-eqb one id is))
          (subst (λ n. AscendWithin count (n + 1) ids) is up.2)
      | inr differs ↦ subst (λ b. AscendWithin count (id + 1) (cond b ids (one ∷ ids))) (sym (ne_eqb one id differs))
          (omega (arith, from, differs), up.1, up.2)
    ]

has_without : (id n : ℕ) (ids : List ℕ) → eqb id n ≡ false → has (without_number id ids) n ≡ has ids n
has_without id n [] differs = refl
has_without id n (one ∷ ids) differs =
    elim (cases_Bool (eqb one id)) [
      | inl is ↦
          let same : one ≡ id = eqb-true one id is in
          ap (λ b. has (cond b ids (one ∷ ids)) n) is ∙ sym (ap (λ b. b || has ids n) (ap (λ m. eqb m n) same ∙ differs))
      | inr apart ↦ ap (λ b. has (cond b ids (one ∷ ids)) n) apart
    ]

has_first : (ids : List ℕ) (id n : ℕ) → slice_get ids 0 ≡ Some id → eqb id n ≡ true → has ids n ≡ true
has_first [] id n there is = cc
has_first (one ∷ ids) id n there is = ap (λ b. b || has ids n) (ap (λ m. eqb m n) (same_Some one id there) ∙ is)

has_push : (ids : List ℕ) (id n : ℕ) → has (ids ++ id ∷ []) n ≡ (has ids n || eqb id n)
has_push ids id n = has-append n ids (id ∷ []) ∙ ap (λ b. has ids n || b) (or-false (eqb id n))

pub next_after_push : (next id : ℕ) (ids : List ℕ) → next_after next (ids ++ id ∷ []) ≡ id + 1
next_after_push next id [] = refl
next_after_push next id (one ∷ ids) = next_after_push (one + 1) id ids

-- the id is moved from the remaining ids to the written ids
each_more : (given some others : List ℕ) (id n : ℕ) → IsLowest id some others →
    (has (given ++ id ∷ []) n || (has (without_number id some) n || has (without_number id others) n))
    ≡ (has given n || (has some n || has others n))
each_more given some others id n least =
    elim (cases_Bool (eqb id n)) [
      | inl is ↦
          ap (λ b. b || (has (without_number id some) n || has (without_number id others) n))
          (has_push given id n ∙ ap (λ b. has given n || b) is ∙ or-true (has given n))
          ∙ sym (ap (λ b. has given n || b) (found least.among is) ∙ or-true (has given n))
      | inr differs ↦ λ i. (has_push given id n ∙ ap (λ b. has given n || b) differs ∙ or-false (has given n)) i
          || (has_without id n some differs i || has_without id n others differs i)
    ]
  where
    found : (slice_get some 0 ≡ Some id) ⊎ (slice_get others 0 ≡ Some id) → eqb id n ≡ true → (has some n || has others n) ≡ true
    found (inl there) is = ap (λ b. b || has others n) (has_first some id n there is)
    found (inr there) is = ap (λ b. has some n || b) (has_first others id n there is) ∙ or-true (has some n)

pub first_rises : (count next id : ℕ) (ids : List ℕ) → AscendWithin count next ids → slice_get ids 0 ≡ Some id → (next ≤ id) × (id < count)
first_rises count next id [] up there = cc
first_rises count next id (one ∷ ids) up there =
    let is : one ≡ id = same_Some one id there in
    let from : next ≤ one = up.0 in
    let below : one < count = up.1 in
    (omega (arith, is, from), omega (arith, is, below))

-- ---- one more id

module _ (trigram : ℕ) (before now : Written) (older newer older_left newer_left : List ℕ)
    (state : IsMergedList trigram before now older newer older_left newer_left) (below : AllBelow before.lists trigram)
    (begun : now.last_trigram ≡ Some trigram) (id : ℕ)
    (next : lower_of (slice_get older_left 0) (slice_get newer_left 0) ≡ Some id) where
  bounds : (next_after 0 state.given ≤ id) × (id < length before.names)
  bounds = elim (lowest older_left newer_left id next).among [
    | inl there ↦ first_rises (length before.names) (next_after 0 state.given) id older_left state.older_rise there
    | inr there ↦ first_rises (length before.names) (next_after 0 state.given) id newer_left state.newer_rise there
  ]

  pub is_begun : now.last_trigram ≢ None
  is_begun = λ e. none-some trigram (sym (sym begun ∙ e))

  pub is_named : id < length now.names
  is_named = subst (λ (names : List (List ℕ)). id < length names) (sym state.names) bounds.1

  pub is_next : next_after 0 (last_ids now) ≤ id
  is_next =
      let ids : last_ids now ≡ state.given = ap (λ o. option_map_or (ids_of now.lists) o []) begun
      ∙ ap (λ lists. ids_of lists trigram) state.lists ∙ ids_of_more trigram before.lists state.given below in
      subst (λ ids. next_after 0 ids ≤ id) (sym ids) bounds.0

  pub given_more : (after : Written) → after ≡ with_last_id now id → IsMergedList trigram before after older newer
      (without_number id older_left) (without_number id newer_left)
  given_more after e =
      let least = lowest older_left newer_left id next in
      let is : after ≡ with_written_id now trigram id = e ∙ ap (λ o. option_map_or (λ g. with_written_id now g id) o now) begun in
      let last : id + 1 ≡ next_after 0 (state.given ++ id ∷ []) = sym (next_after_push 0 id state.given) in
      record {
        given = state.given ++ id ∷ [];
        paths = ap (λ (l : Written). l.paths) is ∙ state.paths;
        names = ap (λ (l : Written). l.names) is ∙ state.names;
        lists = ap (λ (l : Written). l.lists) is ∙ ap (λ lists. with_id lists trigram id) state.lists
            ∙ with_one_more trigram id before.lists state.given below;
        sent = ap (λ (l : Written). l.sent) is ∙ state.sent;
        each = λ n. each_more state.given older_left newer_left id n least ∙ state.each n;
        older_rise = subst (λ m. AscendWithin (length before.names) m (without_number id older_left)) last
            (rise_without (length before.names) (next_after 0 state.given) id older_left state.older_rise
            least.some_from);
        newer_rise = subst (λ m. AscendWithin (length before.names) m (without_number id newer_left)) last
            (rise_without (length before.names) (next_after 0 state.given) id newer_left state.newer_rise
            least.others_from);
      }

  pub still_begun : (after : Written) → after ≡ with_last_id now id → after.last_trigram ≡ Some trigram
  still_begun after e = ap (λ (l : Written). l.last_trigram)
      (e ∙ ap (λ o. option_map_or (λ g. with_written_id now g id) o now) begun) ∙ begun

-- ---- runs

pub has_both : (ids more : List ℕ) (n : ℕ) → has (ids ++ more) n ≡ (has ids n || has more n)
has_both ids more n = has-append n ids more

pub rise_ends : (count next : ℕ) (ids more : List ℕ) → next ≤ count → AscendWithin count next (ids ++ more) → next_after next ids ≤ count
rise_ends count next [] more within up = within
rise_ends count next (one ∷ ids) more within up = rise_ends count (one + 1) ids more (omega (arith, up.1)) up.2

-- ids are moved from the remaining ids to the written ones
pub given_older : (given run older newer : Bool) → ((given || run) || (older || newer)) ≡ (given || ((run || older) || newer))
given_older true run older newer = refl
given_older false true older newer = refl
given_older false false older newer = refl

pub with_more : (trigram : ℕ) (now : Written) (lists : List PostingList) (given more : List ℕ) → now.last_trigram
    ≡ Some trigram → now.lists ≡ lists ++ list_of trigram given → AllBelow lists trigram → with_last_ids now more
    ≡ record {
      paths = now.paths;
      names = now.names;
      lists = lists ++ list_of trigram (given ++ more);
      last_trigram =
          now.last_trigram;
      sent = now.sent;
    }
with_more trigram now lists given [] begun is below = λ i. record {
  paths = now.paths;
  names = now.names;
  lists = (is ∙ ap (λ ids. lists ++ list_of trigram ids) (sym (append-nil given))) i;
  last_trigram = now.last_trigram;
  sent = now.sent;
}
with_more trigram now lists given (id ∷ more) begun is below =
    ap (λ (l : Written). with_last_ids l more) (ap (λ o. option_map_or (λ g. with_written_id now g id) o now) begun)
    ∙ with_more trigram (with_written_id now trigram id) lists (given ++ id ∷ []) more begun
    (ap (λ ps. with_id ps trigram id) is ∙ with_one_more trigram id lists given below) below
    ∙ ap (λ ids. let l : Written = record {
      paths = now.paths;
      names = now.names;
      lists = lists ++ list_of trigram ids;
      last_trigram = now.last_trigram;
      sent = now.sent;
    } in l) (append_assoc given (id ∷ []) more)
