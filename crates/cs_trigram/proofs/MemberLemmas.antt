-- Members of lists of strings.
use Rattle.std.proofs.Common.{◌≡◌, ℕ, suc, ◌≤◌, ◌⊎◌, inl, inr, not, true, List, [], ◌∷◌, ◌++◌, length, map, refl, sym, ◌∙◌, ap, subst, arith}
use Rattle.std.specs.Str.{bytes_eq}
use Rattle.std.proofs.lemmas.Bool.{or_cases, or_left, or_right, false≢true, and_parts, and_from, both_ways, not-true, false_from_ne_true}
use Rattle.std.proofs.lemmas.List.Folds.{list_any-append}
use Rattle.std.proofs.lemmas.Slice.Eq.{bytes_eq-Decides}
use Rattle.cs_tree.specs.Cover.{is_among}
use Rattle.cs_tree.specs.Folders.{are_distinct}

-- the empty list has no member; a longer list has its first string and the members of the rest
pub no_member : (w : List ℕ) → is_among [] w ≡ true → ⊥
no_member w m = false≢true m

pub first_member : (w x : List ℕ) (xs : List (List ℕ)) → w ≡ x → is_among (x ∷ xs) w ≡ true
first_member w x xs e = or_left (bytes_eq x w) (is_among xs w) ((bytes_eq-Decides x w).1 (sym e))

pub later_member : (w x : List ℕ) (xs : List (List ℕ)) → is_among xs w ≡ true → is_among (x ∷ xs) w ≡ true
later_member w x xs m = or_right (bytes_eq x w) (is_among xs w) m

pub member_cases : (w x : List ℕ) (xs : List (List ℕ)) → is_among (x ∷ xs) w ≡ true → (w ≡ x) ⊎ (is_among xs w ≡ true)
member_cases w x xs m =
    elim (or_cases (bytes_eq x w) (is_among xs w) m) [
      | inl e ↦ inl (sym ((bytes_eq-Decides x w).0 e))
      | inr n ↦ inr n
    ]

pub only_member : (w x : List ℕ) → is_among (x ∷ []) w ≡ true → w ≡ x
only_member w x m = elim (member_cases w x [] m) [ inl e ↦ e | inr n ↦ absurd (no_member w n) ]

pub member_append : (w : List ℕ) (xs ys : List (List ℕ)) → is_among (xs ++ ys) w ≡ true → (is_among xs w ≡ true) ⊎ (is_among ys w ≡ true)
member_append w xs ys m = or_cases (is_among xs w) (is_among ys w) (sym (list_any-append (λ x. bytes_eq x w) xs ys) ∙ m)

pub member_left : (w : List ℕ) (xs ys : List (List ℕ)) → is_among xs w ≡ true → is_among (xs ++ ys) w ≡ true
member_left w xs ys m = list_any-append (λ x. bytes_eq x w) xs ys ∙ or_left (is_among xs w) (is_among ys w) m

pub member_right : (w : List ℕ) (xs ys : List (List ℕ)) → is_among ys w ≡ true → is_among (xs ++ ys) w ≡ true
member_right w xs ys m = list_any-append (λ x. bytes_eq x w) xs ys ∙ or_right (is_among xs w) (is_among ys w) m

pub member_map : (f : List ℕ → List ℕ) (w : List ℕ) (xs : List (List ℕ)) → is_among (map f xs) w ≡ true →
    (v : List ℕ) × (is_among xs v ≡ true) × (w ≡ f v)
member_map f w [] m = absurd (no_member w m)
member_map f w (x ∷ xs) m =
    elim (member_cases w (f x) (map f xs) m) [
      | inl e ↦ (x, first_member x x xs refl, e)
      | inr n ↦ let r = member_map f w xs n in (r.0, later_member r.0 x xs r.1, r.2)
    ]

pub map_member : (f : List ℕ → List ℕ) (v : List ℕ) (xs : List (List ℕ)) → is_among xs v ≡ true → is_among (map f xs) (f v) ≡ true
map_member f v [] m = absurd (no_member v m)
map_member f v (x ∷ xs) m =
    elim (member_cases v x xs m) [
      | inl e ↦ first_member (f v) (f x) (map f xs) (ap f e)
      | inr n ↦ later_member (f v) (f x) (map f xs) (map_member f v xs n)
    ]

-- a list without one member
removed : (w : List ℕ) (us : List (List ℕ)) → is_among us w ≡ true →
    (rest : List (List ℕ)) × (length us ≡ suc (length rest)) × ((v : List ℕ) → is_among us v ≡ true → (v ≡ w → ⊥) → is_among rest v ≡ true)
removed w [] m = absurd (no_member w m)
removed w (u ∷ us) m =
    elim (member_cases w u us m) [
      | inl e ↦ (us, refl, λ v n other. elim (member_cases v u us n) [ inl same ↦ absurd (other (same ∙ sym e)) | inr k ↦ k ])
      | inr n ↦
          let r = removed w us n in (
            u ∷ r.0,
            ap suc r.1,
            λ v k other.
                elim (member_cases v u us k) [ inl same ↦ first_member v u r.0 same | inr j ↦ later_member v u r.0 (r.2 v j other) ],
          )
    ]

-- the first of distinct strings is not among the others, which are distinct
pub distinct_head : (w : List ℕ) (ws : List (List ℕ)) → are_distinct (w ∷ ws) ≡ true → is_among ws w ≡ true → ⊥
distinct_head w ws d m = both_ways (is_among ws w) (not-true (is_among ws w) (and_parts (not (is_among ws w)) (are_distinct ws) d).0) m

pub distinct_tail : (w : List ℕ) (ws : List (List ℕ)) → are_distinct (w ∷ ws) ≡ true → are_distinct ws ≡ true
distinct_tail w ws d = (and_parts (not (is_among ws w)) (are_distinct ws) d).1

pub distinct_more : (w : List ℕ) (ws : List (List ℕ)) → (is_among ws w ≡ true → ⊥) → are_distinct ws ≡ true → are_distinct (w ∷ ws) ≡ true
distinct_more w ws new d =
    and_from (not (is_among ws w)) (are_distinct ws) (ap not (false_from_ne_true (is_among ws w) new)) d

-- distinct strings that are members of a list are at most as many
pub different_within : (ws us : List (List ℕ)) → are_distinct ws ≡ true →
    ((w : List ℕ) → is_among ws w ≡ true → is_among us w ≡ true) → length ws ≤ length us
different_within [] us d f = omega arith
different_within (w ∷ ws) us d f =
    let r = removed w us (f w (first_member w w ws refl)) in
    let rest = different_within ws r.0 (distinct_tail w ws d) (λ v m.
    r.2 v (f v (later_member v w ws m)) (λ e. distinct_head w ws d (subst (λ (x : List ℕ). is_among ws x ≡ true) e m))) in
    omega (arith, rest, r.1)

pub different_push : (ws : List (List ℕ)) (w : List ℕ) → are_distinct ws ≡ true → (is_among ws w ≡ true → ⊥) →
    are_distinct (ws ++ w ∷ []) ≡ true
different_push [] w d new = refl
different_push (x ∷ ws) w d new =
    distinct_more x (ws ++ w ∷ [])
    (λ m. elim (member_append x ws (w ∷ []) m) [
      | inl a ↦ distinct_head x ws d a
      | inr b ↦ new (first_member w x ws (sym (only_member x w b)))
    ])
    (different_push ws w (distinct_tail x ws d) (λ m. new (later_member w x ws m)))

pub different_map : (f : List ℕ → List ℕ) → ((u v : List ℕ) → f u ≡ f v → u ≡ v) → (ws : List (List ℕ)) →
    are_distinct ws ≡ true → are_distinct (map f ws) ≡ true
different_map f once [] d = refl
different_map f once (w ∷ ws) d =
    distinct_more (f w) (map f ws)
    (λ m.
    let r = member_map f (f w) ws m in
    distinct_head w ws d (subst (λ (x : List ℕ). is_among ws x ≡ true) (sym (once w r.0 r.2)) r.1))
    (different_map f once ws (distinct_tail w ws d))
