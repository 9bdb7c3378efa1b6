-- Proofs of the laws.
use Rattle.std.proofs.Common.{◌≡◌, ℕ, true, eqb, List, [], ◌∷◌, ◌++◌, Option, Some, None, refl, sym, ap, ◌∙◌, inl, inr}
use Rattle.std.specs.Prelude.{is_none, if◌then◌else◌}
use Rattle.std.proofs.lemmas.Bool.{false≢true, or_cases, or_left, or_right, eq-eqb, eqb-true}
use Rattle.cs_trigram.specs.declared.scan.Reason.{Reason}
use Rattle.cs_trigram.specs.Trigram.{trigram, trigram_sequence, tri, has}
use Rattle.cs_trigram.proofs.SetLemmas.{has-set_of_numbers}

has-behind : (a n : ℕ) (bytes : List ℕ) → has (trigram_sequence bytes) n ≡ true → has (trigram_sequence (a ∷ bytes)) n ≡ true
has-behind a n [] h = h
has-behind a n (b ∷ []) h = h
has-behind a n (b ∷ c ∷ rest) h = or_right (eqb (trigram a b c) n) (has (trigram_sequence (b ∷ c ∷ rest)) n) h

pub has-before : (before bytes : List ℕ) (n : ℕ) → has (trigram_sequence bytes) n ≡ true → has (trigram_sequence (before ++ bytes)) n ≡ true
has-before [] bytes n h = h
has-before (a ∷ before) bytes n h = has-behind a n (before ++ bytes) (has-before before bytes n h)

has-after : (bytes after : List ℕ) (n : ℕ) → has (trigram_sequence bytes) n ≡ true → has (trigram_sequence (bytes ++ after)) n ≡ true
has-after [] after n h = absurd (false≢true h)
has-after (a ∷ []) after n h = absurd (false≢true h)
has-after (a ∷ b ∷ []) after n h = absurd (false≢true h)
has-after (a ∷ b ∷ c ∷ rest) after n h =
    elim (or_cases (eqb (trigram a b c) n) (has (trigram_sequence (b ∷ c ∷ rest)) n) h) [
      | inl here ↦ or_left (eqb (trigram a b c) n) (has (trigram_sequence (b ∷ c ∷ (rest ++ after))) n) here
      | inr later ↦ or_right (eqb (trigram a b c) n) (has (trigram_sequence (b ∷ c ∷ (rest ++ after))) n)
          (has-after (b ∷ c ∷ rest) after n later)
    ]

pub has-part_of : (before part after : List ℕ) (n : ℕ) → has (tri part) n ≡ true → has (tri (before ++ (part ++ after))) n ≡ true
has-part_of before part after n h =
    has-set_of_numbers n (trigram_sequence (before ++ (part ++ after)))
    ∙ has-before before (part ++ after) n (has-after part after n (sym (has-set_of_numbers n (trigram_sequence part)) ∙ h))

pub has-each : (before after : List ℕ) (a b c : ℕ) → has (tri (before ++ (a ∷ b ∷ c ∷ after))) (trigram a b c) ≡ true
has-each before after a b c =
    has-set_of_numbers (trigram a b c) (trigram_sequence (before ++ (a ∷ b ∷ c ∷ after)))
    ∙ has-before before (a ∷ b ∷ c ∷ after) (trigram a b c)
    (or_left (eqb (trigram a b c) (trigram a b c)) (has (trigram_sequence (b ∷ c ∷ after)) (trigram a b c))
    (eq-eqb (trigram a b c) (trigram a b c) refl))

-- the number is that of a substring of three bytes
abbrev IsPartOf : ℕ → List ℕ → Type 0
IsPartOf n bytes =
    (before after : List ℕ) × (a b c : ℕ) × (bytes ≡ before ++ (a ∷ b ∷ c ∷ after)) × (n ≡ trigram a b c)

has-sequence : (bytes : List ℕ) (n : ℕ) → has (trigram_sequence bytes) n ≡ true → IsPartOf n bytes
has-sequence [] n h = absurd (false≢true h)
has-sequence (a ∷ []) n h = absurd (false≢true h)
has-sequence (a ∷ b ∷ []) n h = absurd (false≢true h)
has-sequence (a ∷ b ∷ c ∷ rest) n h =
    elim (or_cases (eqb (trigram a b c) n) (has (trigram_sequence (b ∷ c ∷ rest)) n) h) [
      | inl here ↦ ([], rest, a, b, c, refl, sym (eqb-true (trigram a b c) n here))
      | inr later ↦ let r = has-sequence (b ∷ c ∷ rest) n later in (a ∷ r.0, r.1, r.2, r.3, r.4, ap (λ x. a ∷ x) r.5, r.6)
    ]

pub has-only : (bytes : List ℕ) (n : ℕ) → has (tri bytes) n ≡ true → IsPartOf n bytes
has-only bytes n h = has-sequence bytes n (sym (has-set_of_numbers n (trigram_sequence bytes)) ∙ h)

-- the trigrams of a file that is not skipped
abbrev pub none_skipped : Option Reason → List ℕ → Option (List ℕ)
none_skipped why trigrams = if is_none why then Some trigrams else None
