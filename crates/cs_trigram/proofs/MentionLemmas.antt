-- The trigrams that queries mention.
use Rattle.std.proofs.Common.{◌≡◌, ℕ, ◌<◌, ◌||◌, Bool, true, false, List, [], ◌∷◌, ◌++◌, drop, take, refl, sym, ◌∙◌, ap, subst, inl, inr}
use Rattle.std.proofs.lemmas.Bool.{false≢true, or_cases, or_left, or_right, eqb-true, eq-eqb}
use Rattle.std.proofs.lemmas.List.{append-nil, take-append-drop}
use Rattle.std.specs.Prelude.{nat_eq}
use Rattle.cs_trigram.specs.Trigram.{trigram_sequence, tri, has}
use Rattle.cs_trigram.specs.TrigramSets.{trigram_count}
use Rattle.cs_trigram.specs.Query.{mentions}
use Rattle.cs_trigram.specs.MayMatch.{IsTrigramOf}
use Rattle.cs_trigram.proofs.MayMatchLemmas.{OccursIn}
use Rattle.cs_trigram.specs.Analysis.{AreTrigramsOf}
use Rattle.cs_trigram.specs.declared.queries.Query.TheVariants.{All, Tri}
use Rattle.cs_trigram.proofs.LawLemmas.{has-part_of}
use Rattle.cs_trigram.proofs.QueryLemmas.{mentions-All, mentions-Tri}
use Rattle.cs_trigram.proofs.SetLemmas.{has-append, has-set_of_numbers}

-- a trigram of a text is one of each text in which it occurs
pub trigram_within : (P : List ℕ → Type 0) (g : ℕ) (text whole : List ℕ) → has (tri text) g ≡ true → P whole →
    OccursIn text whole → IsTrigramOf P g
trigram_within P g text whole h is part =
    (whole, is, subst (λ (x : List ℕ). has (tri x) g ≡ true) (sym part.2) (has-part_of part.0 text part.1 g h))

pub occurs_itself : (part text : List ℕ) → part ≡ text → OccursIn part text
occurs_itself part text e = ([], [], sym e ∙ sym (append-nil part))

-- texts of another kind, in which those of the first occur
pub trigrams_within : (test : ℕ → Bool) (A B : Type 0) (P Q : List ℕ → Type 0) → AreTrigramsOf test A P → (B → A) →
    (B → (text : List ℕ) → P text → (whole : List ℕ) × Q whole × OccursIn text whole) → AreTrigramsOf test B Q
trigrams_within test A B P Q are back part g h =
    let r = are g h in (
      r.0,
      λ b.
          let t = r.1 (back b) in
          let w = part b t.0 t.1 in
          trigram_within Q g t.0 w.0 t.2 w.1 w.2,
    )

pub trigrams_of_both : (one other both : ℕ → Bool) (A : Type 0) (P : List ℕ → Type 0) → ((g : ℕ) → both g ≡ (one g || other g)) →
    AreTrigramsOf one A P → AreTrigramsOf other A P → AreTrigramsOf both A P
trigrams_of_both one other both A P is a b g h = elim (or_cases (one g) (other g) (sym (is g) ∙ h)) [ inl x ↦ a g x | inr y ↦ b g y ]

pub no_trigrams : (test : ℕ → Bool) (A : Type 0) (P : List ℕ → Type 0) → ((g : ℕ) → test g ≡ false) → AreTrigramsOf test A P
no_trigrams test A P none g h = absurd (false≢true (sym (none g) ∙ h))

pub all_mentions_none : (A : Type 0) (P : List ℕ → Type 0) → AreTrigramsOf (mentions All) A P
all_mentions_none A P = no_trigrams (mentions All) A P (λ g. mentions-All g)

-- a query of one trigram
pub mentions_one : (n : ℕ) (text : List ℕ) → n < trigram_count → has (tri text) n ≡ true →
    AreTrigramsOf (mentions (Tri n)) (Unit {0}) (λ part. part ≡ text)
mentions_one n text below has_it g h =
    let same : g ≡ n = eqb-true g n (sym (mentions-Tri g n) ∙ h) in
    (subst (λ x. x < trigram_count) (sym same) below, λ b. (text, refl, subst (λ x. has (tri text) x ≡ true) (sym same) has_it))

-- one more trigram of a prefix is one of the text
pub trigram_at : (text : List ℕ) (i n : ℕ) (before : List ℕ) → trigram_sequence (take i text) ≡ before ++ n ∷ [] → has (tri text) n ≡ true
trigram_at text i n before next =
    let last = has-append n before (n ∷ []) ∙ or_right (has before n) (has (n ∷ []) n) (or_left (nat_eq n n) false (eq-eqb n n refl)) in
    subst (λ (x : List ℕ). has (tri x) n ≡ true) (take-append-drop i text)
    (has-part_of [] (take i text) (drop i text) n (has-set_of_numbers n (trigram_sequence (take i text))
    ∙ ap (λ (ns : List ℕ). has ns n) next ∙ last))
