-- The trigrams of each line are trigrams of its text.
use Rattle.std.proofs.Common.{◌≡◌, ℕ, Bool, true, false, cond, ◌||◌, List, [], ◌∷◌, ◌++◌, refl, ap, subst, ◌∙◌, eq-eqb, append-nil}
use Rattle.std.specs.Prelude.{nat_eq}
use Rattle.std.specs.List.{list_all, AllByRecursion, onto_first}
use Rattle.std.proofs.lemmas.Bool.{and_from}
use Rattle.std.proofs.Math.Bool.{or-true}
use Rattle.cs_match.specs.Lines.{newline, lines}
use Rattle.cs_trigram.specs.Trigram.{tri, has}
use Rattle.cs_trigram.specs.Query.{HasTrigrams}
use Rattle.cs_trigram.proofs.LawLemmas.{has-part_of}

begins : (text : List ℕ) (line : List ℕ) (rest : List (List ℕ)) → lines text ≡ line ∷ rest → (more : List ℕ) × (text ≡ line ++ more)
unfolding lines
begins [] line rest e = cc
begins (b ∷ text) line rest e = by_test (nat_eq b newline) (lines text) (begins text) refl e
  where
    by_lines : (ls : List (List ℕ)) → ((l : List ℕ) (ls : List (List ℕ)) → lines text ≡ l ∷ ls →
        (more : List ℕ) × (text ≡ l ++ more)) → lines text ≡ ls → onto_first b ls ≡ line ∷ rest →
        (more : List ℕ) × (b ∷ text ≡ line ++ more)
    by_lines [] later is h = let prefix : b ∷ [] ≡ line = cc in (text, ap (λ (l : List ℕ). l ++ text) prefix)
    by_lines (l ∷ ls) later is h =
        let prefix : b ∷ l ≡ line = cc in
        let more = later l ls is in
        (more.0, ap (λ (t : List ℕ). b ∷ t) more.1 ∙ ap (λ (t : List ℕ). t ++ more.0) prefix)

    by_test : (test : Bool) (ls : List (List ℕ)) →
        ((l : List ℕ) (ls : List (List ℕ)) → lines text ≡ l ∷ ls → (more : List ℕ) × (text ≡ l ++ more)) → lines text
        ≡ ls → cond test ([] ∷ ls) (onto_first b ls) ≡ line ∷ rest → (more : List ℕ) × (b ∷ text ≡ line ++ more)
    by_test true ls later is h = let none : [] ≡ line = cc in (b ∷ text, ap (λ (l : List ℕ). l ++ b ∷ text) none)
    by_test false ls later is h = by_lines ls later is h

module _ (P : List ℕ → Type 0) (prefix : (u v : List ℕ) → P (u ++ v) → P u) (back : (u v : List ℕ) → P (u ++ v) → P v) where
  parts_have : (text : List ℕ) → P text → AllByRecursion P (lines text)
  unfolding lines
  parts_have [] h = tt
  parts_have (b ∷ text) h =
      elim (nat_eq b newline) as (λ t. AllByRecursion P (cond t ([] ∷ lines text) (onto_first b (lines text)))) [
        | true ↦ (prefix [] (b ∷ text) h, parts_have text (back (b ∷ []) text h))
        | false ↦ by_lines (lines text) refl (parts_have text (back (b ∷ []) text h))
      ]
    where
      by_lines : (ls : List (List ℕ)) → lines text ≡ ls → AllByRecursion P ls → AllByRecursion P (onto_first b ls)
      by_lines [] is all = (prefix (b ∷ []) text h, tt)
      by_lines (l ∷ ls) is all =
          let more = begins text l ls is in
          (prefix (b ∷ l) more.0 (subst P (ap (λ (t : List ℕ). b ∷ t) more.1) h), all.1)

all_of : (set : ℕ → Bool) (ns : List ℕ) → ((n : ℕ) → has ns n ≡ true → set n ≡ true) → list_all set ns ≡ true
all_of set [] h = refl
all_of set (n ∷ ns) h =
    and_from (set n) (list_all set ns) (h n (ap (λ b. b || has ns n) (eq-eqb n n refl)))
    (all_of set ns (λ m there. h m (ap (λ b. nat_eq n m || b) there ∙ or-true (nat_eq n m))))

-- each trigram of the part is one of the text
abbrev Knows : List ℕ → List ℕ → Type 0
Knows text part = (n : ℕ) → has (tri part) n ≡ true → has (tri text) n ≡ true

pub lines_known : (text : List ℕ) → AllByRecursion (HasTrigrams (has (tri text))) (lines text)
lines_known text =
    each (lines text) (parts_have (Knows text) (λ u v known n there. known n (has-part_of [] u v n there))
    (λ u v known n there. known n (subst (λ (end : List ℕ). has (tri (u ++ end)) n ≡ true) (append-nil v)
    (has-part_of u v [] n there))) text (λ n there. there))
  where
    each : (ls : List (List ℕ)) → AllByRecursion (Knows text) ls → AllByRecursion (HasTrigrams (has (tri text))) ls
    each [] all = tt
    each (line ∷ ls) all = (all_of (has (tri text)) (tri line) all.0, each ls all.1)
