-- The trigrams of a substring are trigrams of the text.
use Rattle.std.proofs.Common.{◌≡◌, ℕ, Bool, true, false, List, [], ◌∷◌, ◌++◌, take, drop, refl, sym, ◌∙◌, ap, subst, inl, inr}
use Rattle.std.specs.Prelude.{nat_eq}
use Rattle.std.specs.List.{list_all}
use Rattle.std.proofs.lemmas.Bool.{and_parts, and_from, or_cases, or_left, or_right, eqb-true, eq-eqb, false≢true}
use Rattle.std.proofs.lemmas.List.{append-nil, take-append-drop}
use Rattle.cs_trigram.specs.Trigram.{trigram_sequence, tri, has}
use Rattle.cs_trigram.specs.Query.{HasTrigrams}
use Rattle.cs_trigram.proofs.SetLemmas.{has-set_of_numbers}
use Rattle.cs_trigram.proofs.LawLemmas.{has-part_of}

module _ (set : ℕ → Bool) where
  each_of : (ns : List ℕ) → list_all set ns ≡ true → (n : ℕ) → has ns n ≡ true → set n ≡ true
  each_of [] h n m = absurd (false≢true m)
  each_of (x ∷ ns) h n m =
      let parts = and_parts (set x) (list_all set ns) h in
      elim (or_cases (nat_eq x n) (has ns n) m) [
        | inl same ↦ ap set (sym (eqb-true x n same))
            ∙ parts.0
        | inr later ↦ each_of ns parts.1 n later
      ]

  all_of : (ns : List ℕ) → ((n : ℕ) → has ns n ≡ true → set n ≡ true) → list_all set ns ≡ true
  all_of [] each = refl
  all_of (x ∷ ns) each =
      and_from (set x) (list_all set ns) (each x (or_left (nat_eq x x) (has ns x) (eq-eqb x x refl)))
      (all_of ns (λ n m. each n (or_right (nat_eq x n) (has ns n) m)))

  within : (ns ms : List ℕ) → ((n : ℕ) → has ns n ≡ true → has ms n ≡ true) → list_all set ms ≡ true → list_all set ns ≡ true
  within ns ms there h = all_of ns (λ n m. each_of ms h n (there n m))

  -- a set has the trigrams of a text exactly if it has each trigram of their sequence
  pub all_trigrams_tri : (text : List ℕ) → list_all set (tri text) ≡ list_all set (trigram_sequence text)
  all_trigrams_tri text =
      same _ _ (within (trigram_sequence text) (tri text) (λ n h. has-set_of_numbers n (trigram_sequence text) ∙ h))
      (within (tri text) (trigram_sequence text) (λ n h. sym (has-set_of_numbers n (trigram_sequence text)) ∙ h))
    where
      same : (a b : Bool) → (a ≡ true → b ≡ true) → (b ≡ true → a ≡ true) → a ≡ b
      same true b to from = sym (to refl)
      same false true to from = from refl
      same false false to from = refl

  pub has_part : (n m : ℕ) (text : List ℕ) → HasTrigrams set text → HasTrigrams set (take n (drop m text))
  has_part n m text =
      let part = take n (drop m text) in
      let whole : take m text ++ (part ++ drop n (drop m text)) ≡ text = ap (λ (x : List ℕ). take m text ++ x)
      (take-append-drop n (drop m text)) ∙ take-append-drop m text in
      within (tri part) (tri text) (λ k h. subst (λ (x : List ℕ). has (tri x) k ≡ true) whole
      (has-part_of (take m text) part (drop n (drop m text)) k h))

  pub has_prefix : (u v : List ℕ) → HasTrigrams set (u ++ v) → HasTrigrams set u
  has_prefix u v = within (tri u) (tri (u ++ v)) (has-part_of [] u v)

  pub has_suffix : (u v : List ℕ) → HasTrigrams set (u ++ v) → HasTrigrams set v
  has_suffix u v = within (tri v) (tri (u ++ v))
      (λ k h. subst (λ (x : List ℕ). has (tri (u ++ x)) k ≡ true) (append-nil v) (has-part_of u v [] k h))
