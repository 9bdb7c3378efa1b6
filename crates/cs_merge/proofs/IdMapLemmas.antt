-- Properties of id maps: the positions of names, and mapped lists.
use Rattle.std.proofs.Common.{◌≡◌, ℕ, zero, suc, ◌+◌, ◌<◌, ◌≤◌, Bool, true, false, ◌||◌, eqb, List, [], ◌∷◌, ◌++◌, length, get_or, refl, sym, ap, subst, ◌∙◌, ◌⊎◌, inl, inr, Option, Some, None, arith, slice_get}
use Rattle.cs_merge.proofs.Common.{true≢false, and_parts, cases_Bool, cases_eq, eq-eqb, eqb-true, ne_eqb, slice_get_within, slice_get-get_or, same_Some, cons_option, is_lt, is_eq, Ordering, Less, Equal, Greater, bytes_cmp, are_ascending, tied_same, has, AscendWithin, NewIds, new_id, new_ids_of, IsInjective, IsIncreasing, StayBelow, IsMapped, AreMapped, before_trans, none-some}
use Rattle.cs_index.proofs.names.ReducedPaths.{tail_up}

-- ---- items of lists

pub get_prefix : {X : Type 0} (xs ys : List X) (k : ℕ) (x : X) → slice_get xs k ≡ Some x → slice_get (xs ++ ys) k ≡ Some x
get_prefix [] ys k x h = cc
get_prefix (y ∷ xs) ys zero x h = h
get_prefix (y ∷ xs) ys (suc k) x h = get_prefix xs ys k x h

pub get_pushed : {X : Type 0} (xs : List X) (y : X) → slice_get (xs ++ y ∷ []) (length xs) ≡ Some y
get_pushed [] y = refl
get_pushed (x ∷ xs) y = get_pushed xs y

pub get_push : {X : Type 0} (xs : List X) (y z : X) (k : ℕ) → slice_get (xs ++ y ∷ []) k ≡ Some z →
    (slice_get xs k ≡ Some z) ⊎ ((k ≡ length xs) × (y ≡ z))
get_push [] y z zero h = inr (refl, same_Some y z h)
get_push [] y z (suc k) h = cc
get_push (x ∷ xs) y z zero h = inl h
get_push (x ∷ xs) y z (suc k) h =
    elim (get_push xs y z k h) [ inl here ↦ inl here | inr last ↦ inr (ap suc last.0, last.1) ]

-- ---- positions of names

pub mapped_more : (is_dropped : List ℕ → Bool) (names more : List (List ℕ)) (name : List ℕ) (new : Option ℕ) →
    IsMapped is_dropped names name new → IsMapped is_dropped (names ++ more) name new
mapped_more is_dropped names more name None mapped = mapped
mapped_more is_dropped names more name (Some new) mapped = (mapped.0, get_prefix names more new name mapped.1)

pub are_mapped_more : (is_dropped : List ℕ → Bool) (own names more : List (List ℕ)) (new_ids : NewIds) →
    AreMapped is_dropped own names new_ids → AreMapped is_dropped own (names ++ more) new_ids
are_mapped_more is_dropped own names more new_ids mapped id name new there is =
    mapped_more is_dropped names more name new (mapped id name new there is)

pub mapped_push : (is_dropped : List ℕ → Bool) (own names : List (List ℕ)) (new_ids : NewIds) (name : List ℕ)
    (new : Option ℕ) → slice_get own (length new_ids) ≡ Some name → AreMapped is_dropped own names new_ids →
    IsMapped is_dropped names name new → AreMapped is_dropped own names (new_ids ++ new ∷ [])
mapped_push is_dropped own names new_ids name new here mapped one id other found there is =
    elim (get_push new_ids new found id is) [
      | inl before ↦ mapped id other found there before
      | inr last ↦
          let same : name ≡ other = same_Some name other (sym here ∙ ap (slice_get own) (sym last.0) ∙ there) in
          subst (λ (o : Option ℕ). IsMapped is_dropped names other o) last.1
          (subst (λ (n : List ℕ). IsMapped is_dropped names n new) same one)
    ]

-- A file that is kept: its name and its new id.
pub record Kept (is_dropped : List ℕ → Bool) (own names : List (List ℕ)) (id new : ℕ) : Type 0 where
  pub name : List ℕ
  pub own_is : slice_get own id ≡ Some name
  pub stays : is_dropped name ≡ false
  pub there : slice_get names new ≡ Some name

new_there : (new_ids : NewIds) (id new : ℕ) → new_id new_ids id ≡ Some new → slice_get new_ids id ≡ Some (Some new)
new_there new_ids id new h = by_item (slice_get new_ids id) refl h
  where
    by_item : (o : Option (Option ℕ)) → slice_get new_ids id ≡ o → new_id new_ids id ≡ Some new → slice_get new_ids id ≡ Some (Some new)
    by_item None e g = cc
    by_item (Some None) e g = cc
    by_item (Some (Some n)) e g = cc

pub kept_at : (is_dropped : List ℕ → Bool) (own names : List (List ℕ)) (new_ids : NewIds) (id new : ℕ) →
    length new_ids ≤ length own → AreMapped is_dropped own names new_ids → new_id new_ids id ≡ Some new →
    Kept is_dropped own names id new
kept_at is_dropped own names new_ids id new bound mapped h =
    let is : slice_get new_ids id ≡ Some (Some new) = new_there new_ids id new h in
    let within : id < length new_ids = slice_get_within new_ids id (Some new) is in
    by_item (slice_get own id) refl is (omega (arith, within, bound))
  where
    by_item : (o : Option (List ℕ)) → slice_get own id ≡ o → slice_get new_ids id ≡ Some (Some new) → id < length own →
        Kept is_dropped own names id new
    by_item None e is within = absurd (none (slice_get-get_or own id [] within))
      where
        none : slice_get own id ≡ Some (get_or own id []) → ⊥
        none f = cc
    by_item (Some name) e is within =
        let one = mapped id name (Some new) e is in
        record { name = name; own_is = e; stays = one.0; there = one.1 }

-- ---- ascending names

pub first_below : (name : List ℕ) (names : List (List ℕ)) (k : ℕ) (other : List ℕ) → are_ascending (name ∷ names)
    ≡ true → slice_get names k ≡ Some other → is_lt (bytes_cmp name other) ≡ true
first_below name [] k other h is = cc
first_below name (next ∷ names) zero other h is =
    let same : next ≡ other = same_Some next other is in
    subst (λ n. is_lt (bytes_cmp name n) ≡ true) same (and_parts (is_lt (bytes_cmp name next)) (are_ascending (next ∷ names)) h).0
first_below name (next ∷ names) (suc k) other h is =
    let both = and_parts (is_lt (bytes_cmp name next)) (are_ascending (next ∷ names)) h in
    before_trans name next other both.0 (first_below next names k other both.1 is)

pub ascends_at : (names : List (List ℕ)) (low high : ℕ) (a b : List ℕ) → are_ascending names ≡ true → low < high →
    slice_get names low ≡ Some a → slice_get names high ≡ Some b → is_lt (bytes_cmp a b) ≡ true
ascends_at [] low high a b up h left right = cc
ascends_at (name ∷ names) low zero a b up h left right = absurd (omega (arith, h))
ascends_at (name ∷ names) zero (suc high) a b up h left right =
    let same : name ≡ a = same_Some name a left in
    subst (λ n. is_lt (bytes_cmp n b) ≡ true) same (first_below name names high b up right)
ascends_at (name ∷ names) (suc low) (suc high) a b up h left right =
    ascends_at names low high a b (tail_up name names up) (omega (arith, h)) left right

pub never_below : (name : List ℕ) → is_lt (bytes_cmp name name) ≡ true → ⊥
never_below name h = apart (bytes_cmp name name) h (tied_same name)
  where
    apart : (o : Ordering) → is_lt o ≡ true → is_eq o ≡ true → ⊥
    apart Less h g = true≢false (sym g)
    apart Equal h g = true≢false (sym h)
    apart Greater h g = true≢false (sym g)

-- if the own names are distinct, the map is injective
pub injective : (is_dropped : List ℕ → Bool) (own names : List (List ℕ)) (new_ids : NewIds) →
    ((position other : ℕ) (name : List ℕ) → slice_get own position ≡ Some name → slice_get own other ≡ Some name →
    position ≡ other) → length new_ids ≤ length own → AreMapped is_dropped own names new_ids → IsInjective new_ids
injective is_dropped own names new_ids once bound mapped id other new left right =
    let first = kept_at is_dropped own names new_ids id new bound mapped left in
    let second = kept_at is_dropped own names new_ids other new bound mapped right in
    let same : second.name ≡ first.name = same_Some second.name first.name (sym second.there ∙ first.there) in
    once id other first.name first.own_is (second.own_is ∙ ap Some same)

pub stay_below : (is_dropped : List ℕ → Bool) (own names : List (List ℕ)) (new_ids : NewIds) →
    length new_ids ≤ length own → AreMapped is_dropped own names new_ids → StayBelow (length names) new_ids
stay_below is_dropped own names new_ids bound mapped id new h =
    let one = kept_at is_dropped own names new_ids id new bound mapped h in
    slice_get_within names new one.name one.there

-- ---- mapped lists

module _ (new_ids : NewIds) where
  -- an id that is kept is in a list if its new id is in the mapped list
  same_id : (id other new found : ℕ) → IsInjective new_ids → new_id new_ids id ≡ Some new → new_id new_ids other
      ≡ Some found → eqb found new ≡ eqb other id
  same_id id other new found once h e =
      elim (cases_eq other id) [
        | inl is ↦
            let same : found ≡ new = same_Some found new (sym e ∙ ap (new_id new_ids) is ∙ h) in
            eq-eqb found new same ∙ sym (eq-eqb other id is)
        | inr differs ↦ ne_eqb found new (λ same. differs (once other id found e (h ∙ ap Some (sym same)))) ∙ sym (ne_eqb other id differs)
      ]

  pub has_mapped : (ids : List ℕ) (id new : ℕ) → IsInjective new_ids → new_id new_ids id ≡ Some new →
      has (new_ids_of new_ids ids) new ≡ has ids id
  has_mapped [] id new once h = refl
  has_mapped (other ∷ ids) id new once h = by_new (new_id new_ids other) refl (has_mapped ids id new once h)
    where
      by_new : (o : Option ℕ) → new_id new_ids other ≡ o → has (new_ids_of new_ids ids) new ≡ has ids id →
          has (cons_option o (new_ids_of new_ids ids)) new ≡ (eqb other id || has ids id)
      by_new None e rest =
          let differs : eqb other id ≡ false = ne_eqb other id (λ is. none-some new (sym e ∙ ap (new_id new_ids) is ∙ h)) in
          rest ∙ sym (ap (λ b. b || has ids id) differs)
      by_new (Some found) e rest = (λ i. same_id id other new found once h e i || rest i)

  -- a number that is no new id is not in the mapped list
  pub has_no_mapped : (ids : List ℕ) (new : ℕ) → ((other : ℕ) → new_id new_ids other ≡ Some new → ⊥) →
      has (new_ids_of new_ids ids) new ≡ false
  has_no_mapped [] new none = refl
  has_no_mapped (other ∷ ids) new none = by_new (new_id new_ids other) refl (has_no_mapped ids new none)
    where
      by_new : (o : Option ℕ) → new_id new_ids other ≡ o → has (new_ids_of new_ids ids) new ≡ false →
          has (cons_option o (new_ids_of new_ids ids)) new ≡ false
      by_new None e rest = rest
      by_new (Some found) e rest =
          let differs : eqb found new ≡ false = ne_eqb found new (λ is. none other (e ∙ ap Some is)) in
          ap (λ b. b || has (new_ids_of new_ids ids) new) differs ∙ rest

  -- a number in the mapped list is the new id of some id
  pub mapped_from : (ids : List ℕ) (new : ℕ) → has (new_ids_of new_ids ids) new ≡ true → (id : ℕ) × (new_id new_ids id ≡ Some new)
  mapped_from [] new h = absurd (true≢false (sym h))
  mapped_from (other ∷ ids) new h = by_new (new_id new_ids other) refl (mapped_from ids new) h
    where
      by_new : (o : Option ℕ) → new_id new_ids other ≡ o →
          (has (new_ids_of new_ids ids) new ≡ true → (id : ℕ) × (new_id new_ids id ≡ Some new)) →
          has (cons_option o (new_ids_of new_ids ids)) new ≡ true → (id : ℕ) × (new_id new_ids id ≡ Some new)
      by_new None e rest g = rest g
      by_new (Some found) e rest g =
          elim (cases_Bool (eqb found new)) [
            | inl is ↦ (other, e ∙ ap Some (eqb-true found new is))
            | inr differs ↦ rest (sym (ap (λ b. b || has (new_ids_of new_ids ids) new) differs) ∙ g)
          ]

  pub rise_mapped : (count name_count next least : ℕ) (ids : List ℕ) → IsIncreasing new_ids → StayBelow count new_ids →
      AscendWithin name_count next ids → ((id new : ℕ) → next ≤ id → new_id new_ids id ≡ Some new → least ≤ new) →
      AscendWithin count least (new_ids_of new_ids ids)
  rise_mapped count name_count next least [] order below up low = tt
  rise_mapped count name_count next least (id ∷ ids) order below up low =
      by_new (new_id new_ids id) refl (λ most more. rise_mapped count name_count (id + 1) most ids order below up.2 more)
    where
      from : next ≤ id
      from = up.0

      by_new : (o : Option ℕ) → new_id new_ids id ≡ o →
          ((most : ℕ) → ((other new : ℕ) → id + 1 ≤ other → new_id new_ids other ≡ Some new → most ≤ new) →
          AscendWithin count most (new_ids_of new_ids ids)) →
          AscendWithin count least (cons_option o (new_ids_of new_ids ids))
      by_new None e rest = rest least (λ other new h f. low other new (omega (arith, h, from)) f)
      by_new (Some new) e rest = (
        low id new from e,
        below id new e,
        rest (new + 1) (λ other found h f. let less : new < found = order id other new found (omega (arith, h)) e f in omega (arith, less)),
      )
