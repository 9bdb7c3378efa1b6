-- The laws of `covers` and `least`.
use Rattle.std.specs.Prelude.{bytes_eq}
use Rattle.std.specs.Path.{slash}
use Rattle.std.proofs.Common.{◌≡◌, ◌≢◌, ℕ, suc, ◌<◌, true, false, get_or, nat_eq, ◌||◌, ◌+◌, Option, Some, None, Bor, take, drop, List, [], ◌∷◌, ◌++◌, length, refl, sym, ap, subst, ◌∙◌, ◌⊎◌, inl, inr, arith, append_assoc, length-append, append-nil, eqb}
use Rattle.cs_tree.specs.Below.{ends_element}
use Rattle.cs_tree.specs.Covering.{Covers, itself, below, root}
use Rattle.std.proofs.lemmas.Bool.{true≢false, eqb-true, eq-eqb, and_parts, or_cases, and_from, or_left, or_right, false_from_ne_true}
use Rattle.std.proofs.lemmas.List.{append_cancel_left}
use Rattle.std.specs.Cmp.{both_ways as same_tests}
use Rattle.std.specs.Cmp.Lexicographic.{bytes_decides, pointwise}
use Rattle.std.proofs.lemmas.Bool.Decides.{Decides-eqb}
use Rattle.std.proofs.lemmas.Slice.Eq.{strip_prefix_is}
use Rattle.std.specs.Option.{MatchOption}
use Rattle.cs_tree.specs.Cover.{begins, covers}

-- ---- one path and one name

pub begins_rest : (prefix text : List ℕ) → begins prefix text ≡ true → (rest : List ℕ) × (text ≡ prefix ++ rest)
begins_rest [] text h = (text, refl)
begins_rest (b ∷ prefix) [] h = absurd (true≢false (sym h))
begins_rest (b ∷ prefix) (c ∷ text) h =
    let parts = and_parts (eqb b c) (begins prefix text) h in
    let more = begins_rest prefix text parts.1 in
    (more.0, let first : b ≡ c = eqb-true b c parts.0 in let after : text ≡ prefix ++ more.0 = more.1 in cc)

pub begins_at : (prefix rest : List ℕ) → begins prefix (prefix ++ rest) ≡ true
begins_at [] rest = refl
begins_at (b ∷ prefix) rest = and_from (eqb b b) _ (eq-eqb b b refl) (begins_at prefix rest)

regroup : (p r : List ℕ) → (p ++ slash ∷ []) ++ r ≡ p ++ slash ∷ r
regroup p r = append_assoc p (slash ∷ []) r

pub covers_says : (p n : List ℕ) → covers p n ≡ true → Covers p n
covers_says p n h =
    elim (or_cases (bytes_eq p n) _ h) [
      | inl e ↦ itself ((bytes_decides p n).0 e)
      | inr more ↦ elim (or_cases (begins (p ++ slash ∷ []) n) _ more) [
        | inl b ↦ let found = begins_rest (p ++ slash ∷ []) n b in below found.0 (found.1 ∙ regroup p found.0)
        | inr last ↦ let parts = and_parts (bytes_eq p (slash ∷ [])) _ last in
            let found = begins_rest (slash ∷ []) n parts.1 in
            root found.0 ((bytes_decides p (slash ∷ [])).0 parts.0) found.1
      ]
    ]

pub covers_from : (p n : List ℕ) → Covers p n → covers p n ≡ true
covers_from p n (itself e) = or_left (bytes_eq p n) _ ((bytes_decides p n).1 e)
covers_from p n (below r e) = or_right (bytes_eq p n) _
    (or_left (begins (p ++ slash ∷ []) n) _ (subst (λ t. begins (p ++ slash ∷ []) t ≡ true) (regroup p r ∙ sym e)
    (begins_at (p ++ slash ∷ []) r)))
covers_from p n (root r e f) =
    or_right (bytes_eq p n) _ (or_right (begins (p ++ slash ∷ []) n) _
    (and_from (bytes_eq p (slash ∷ [])) _ ((bytes_decides p (slash ∷ [])).1 e)
    (subst (λ t. begins (slash ∷ []) t ≡ true) (sym f) refl)))

pub covers_refl : (p : List ℕ) → covers p p ≡ true
covers_refl p = covers_from p p (itself refl)

chain : (p q n : List ℕ) → Covers p q → Covers q n → Covers p n
chain p q n (itself e) g = subst (λ x. Covers x n) (sym e) g
chain p q n (below r e) (itself f) = below r (sym f ∙ e)
chain p q n (below r e) (below s f) = below (r ++ slash ∷ s) (f ∙ ap (λ x. x ++ slash ∷ s) e ∙ append_assoc p (slash ∷ r) (slash ∷ s))
chain [] q n (below r e) (root s f g) = below s g
chain (b ∷ p) q n (below r e) (root s f g) = absurd (too_long b p r (sym e ∙ f))
  where
    too_long : (b : ℕ) (p r : List ℕ) → b ∷ (p ++ slash ∷ r) ≡ slash ∷ [] → ⊥
    too_long b p r h = let l : length (b ∷ (p ++ slash ∷ r)) ≡ 1 = ap length h in omega (arith, l, length-append p (slash ∷ r))
chain p q n (root r e f) (itself g) = root r e (sym g ∙ f)
chain p q n (root r e f) (below s g) = root (r ++ slash ∷ s) e (g ∙ ap (λ x. x ++ slash ∷ s) f)
chain p q n (root r e f) (root s g h) = root s e h

pub covers_trans : (p q n : List ℕ) → covers p q ≡ true → covers q n ≡ true → covers p n ≡ true
covers_trans p q n g h = covers_from p n (chain p q n (covers_says p q g) (covers_says q n h))

-- a name that another path covers is longer
longer : (p n : List ℕ) → Covers p n → (p ≡ n) ⊎ (length p < length n)
longer p n (itself e) = inl e
longer p n (below r e) = inr (let l : length n ≡ length (p ++ slash ∷ r) = ap length e in omega (arith, l, length-append p (slash ∷ r)))
longer p n (root [] e f) = inl (e ∙ sym f)
longer p n (root (b ∷ r) e f) = inr (let l : length n ≡ suc (suc (length r)) = ap length f in let m : length p ≡ 1 =
    ap length e in omega (arith, l, m))

pub covers_longer : (p n : List ℕ) → covers p n ≡ true → (p ≡ n) ⊎ (length p < length n)
covers_longer p n h = longer p n (covers_says p n h)

pub covers_both : (p q : List ℕ) → covers p q ≡ true → covers q p ≡ true → p ≡ q
covers_both p q g h =
    elim (covers_longer p q g) [
      | inl e ↦ e
      | inr l ↦ elim (covers_longer q p h) [ inl e ↦ sym e | inr m ↦ absurd (omega (arith, l, m)) ]
    ]

-- ---- a name that begins with the path's text

-- only the root covers a text that continues within an element
pub covers_append : (p r : List ℕ) → covers p (p ++ r) ≡ (ends_element r || bytes_eq p (slash ∷ []))
covers_append p [] = covers_from p (p ++ []) (itself (sym (append-nil p)))
covers_append p (b ∷ r) = same_tests _ _ (λ h. says (covers_says p (p ++ b ∷ r) h))
    (λ h. elim (or_cases (nat_eq b slash) _ h) [ inl here ↦ goes_below here | inr is_root ↦ root_covers is_root ])
  where
    says : Covers p (p ++ b ∷ r) → (nat_eq b slash || bytes_eq p (slash ∷ [])) ≡ true
    says (itself f) = let long : length p ≡ length (p ++ b ∷ r) = ap length f in absurd (omega (arith, long, length-append p (b ∷ r)))
    says (below s f) = or_left (nat_eq b slash) _ (eq-eqb b slash (ap (λ xs. get_or xs 0 b) (append_cancel_left p (b ∷ r) (slash ∷ s) f)))
    says (root s f g) = or_right (nat_eq b slash) _ ((bytes_decides p (slash ∷ [])).1 f)

    goes_below : nat_eq b slash ≡ true → covers p (p ++ b ∷ r) ≡ true
    goes_below h = covers_from p (p ++ b ∷ r) (below r (ap (λ x. p ++ x ∷ r) (eqb-true b slash h)))

    root_covers : bytes_eq p (slash ∷ []) ≡ true → covers p (p ++ b ∷ r) ≡ true
    root_covers h = let is : p ≡ slash ∷ [] = (bytes_decides p (slash ∷ [])).0 h in
        covers_from p (p ++ b ∷ r) (root (b ∷ r) is (ap (λ q. q ++ b ∷ r) is))

-- a covered name begins with the path's text
pub covers_apart : (p n : List ℕ) → ((rest : List ℕ) → n ≢ p ++ rest) → covers p n ≡ false
covers_apart p n apart = false_from_ne_true (covers p n) (λ h. says (covers_says p n h))
  where
    says : Covers p n → ⊥
    says (itself f) = apart [] (sym f ∙ sym (append-nil p))
    says (below s f) = apart (slash ∷ s) f
    says (root s f g) = apart s (g ∙ ap (λ q. q ++ s) (sym f))

-- the result of stripping a path's text from a name
abbrev PrefixCutSays : List ℕ → List ℕ → Option (Bor (List ℕ)) → Type 0
PrefixCutSays p n cut = MatchOption cut (covers p n ≡ false) (λ rest. covers p n ≡ (ends_element rest.now || bytes_eq p (slash ∷ [])))

cut_says : (p n : List ℕ) (cut : Option (Bor (List ℕ))) → MatchOption cut (pointwise eqb (take (length p) n) p ≡ false)
    (λ rest. (pointwise eqb (take (length p) n) p ≡ true) × (rest.now ≡ drop (length p) n) ×
    (length rest.now + length p ≡ length n)) → PrefixCutSays p n cut
cut_says p n None h = covers_apart p n (strip_prefix_is Decides-eqb n p None h)
cut_says p n (Some rest) h = ap (covers p) (strip_prefix_is Decides-eqb n p (Some rest) h) ∙ covers_append p rest.now

-- the same for texts seen as bytes
pub covers_cut : (p n : List ℕ) {q m : List ℕ} (cut : Option (Bor (List ℕ))) → q ≡ p → m ≡ n →
    MatchOption cut (pointwise eqb (take (length q) m) q ≡ false)
    (λ rest. (pointwise eqb (take (length q) m) q ≡ true) × (rest.now ≡ drop (length q) m) ×
    (length rest.now + length q ≡ length m)) → PrefixCutSays p n cut
covers_cut p n {q} {m} cut e f h = subst (λ path. PrefixCutSays path n cut) e
    (subst (λ name. PrefixCutSays q name cut) f (cut_says q m cut h))
