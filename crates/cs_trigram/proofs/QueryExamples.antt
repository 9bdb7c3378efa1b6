-- Worked examples: what a query loses, how selective it is, and what it may mention.
use Rattle.std.proofs.Common.{◌≡◌, ℕ, zero, suc, inl, inr, Bool, true, false, List, [], ◌∷◌, ◌++◌, refl, sym, ap, subst, ◌∙◌, arith, codes, length, take, reverse, Some, None, replicate}
use Rattle.std.specs.Prelude.{◌↔◌, ◌&&◌, encode_utf8, nat_eq, nat_le}
use Rattle.std.specs.List.{list_all}
use Rattle.std.proofs.lemmas.Bool.{true≢false, and_parts, or_cases, leb-true, eqb-true}
use Rattle.cs_syntax.specs.Matching.{Tree, Trees, empty, one_of, one_char, cat, alt, rep, line_end, word_edge, none, more, member, HasMatch, MatchesSequence}
use Rattle.cs_syntax.specs.Characters.{is_scalar, has_char}
use Rattle.cs_tree.specs.Cover.{is_among}
use Rattle.cs_trigram.proofs.MemberLemmas.{no_member, first_member, later_member, member_cases, only_member}
use Rattle.cs_trigram.specs.Trigram.{has, tri}
use Rattle.cs_trigram.specs.MayMatch.{MayMatch, MayMatchSequence, MayMatchBranch, HasMembers, MentionsTrigramsOf}
use Rattle.cs_trigram.specs.Query.{HasTrigrams, LosesNoLine}
use Rattle.cs_trigram.specs.ExactStrings.{is_finite, HaveExactStrings, HaveFewExactStrings, HaveLongStrings}
use Rattle.cs_trigram.specs.ExactQuery.{HasFewExactStrings, RequiresExactString}
use Rattle.cs_trigram.specs.ExactRuns.{HasCross, HasExactRuns, IsSelective}
use Rattle.cs_trigram.specs.declared.queries.Query.TheVariants.{All, Tri}
use Rattle.cs_trigram.proofs.QueryLemmas.{matches_set-All, matches_set-Tri, mentions-Tri}
use Rattle.cs_trigram.proofs.LeadingRunLemmas.{concatenates_one, exact_of_one}
use Rattle.cs_trigram.proofs.ExactStringLemmas.{exact_match_has_runs}
use Rattle.cs_trigram.proofs.SubstringTrigramLemmas.{all_trigrams_tri}

-- the set of one byte
abbrev only : ℕ → List Bool
only b = replicate b false ++ true ∷ []

has_it : (b : ℕ) → member (only b) b ≡ true
has_it zero = refl
has_it (suc b) = has_it b

has_no_other : (b n : ℕ) → member (only b) n ≡ true → n ≡ b
has_no_other zero zero h = refl
has_no_other zero (suc n) h = cc
has_no_other (suc b) zero h = cc
has_no_other (suc b) (suc n) h = ap suc (has_no_other b n h)

-- a sequence of letters
abbrev letters : List ℕ → Trees
letters [] = none
letters (b ∷ text) = more (one_of (only b)) (letters text)

concatenates : (bounded : Bool) (text : List ℕ) → MayMatchSequence bounded (letters text) text
concatenates bounded [] = refl
concatenates bounded (b ∷ text) = (b ∷ [], text, (b, has_it b, refl), concatenates bounded text, refl)

concatenates_no_other : (bounded : Bool) (text string : List ℕ) → MayMatchSequence bounded (letters text) string → string ≡ text
concatenates_no_other bounded [] string j = j
concatenates_no_other bounded (b ∷ text) string j =
    let letter = j.2 in
    let first : j.0 ≡ b ∷ [] = letter.2 ∙ ap (λ n. n ∷ []) (has_no_other b letter.0 letter.1) in
    let rest = concatenates_no_other bounded text j.1 j.3 in
    j.4 ∙ (λ i. first i ++ rest i)

-- ---- a literal string has the exact run of its trigrams

abbrev hello : List ℕ
hello = codes "hello"

hello_is_a_run : HaveFewExactStrings (letters hello)
hello_is_a_run = (
  refl,
  (
    (hello, concatenates true hello),
    (hello ∷ [], omega arith, λ string j. first_member string hello [] (concatenates_no_other true hello string j)),
  ),
)

trigrams_of_hello : tri hello ≡ 6646892 ∷ 6841708 ∷ 7105647 ∷ []
trigrams_of_hello = refl

exact_runs_of_hello : (set : ℕ → Bool) → HasExactRuns set (cat (letters hello)) ↔ (list_all set (6646892 ∷ 6841708 ∷ 7105647 ∷ []) ≡ true)
exact_runs_of_hello set = (
  λ has_run. let has_runs = has_run.1.0 none (letters hello) none refl hello_is_a_run in
      subst (HasTrigrams set) (concatenates_no_other true hello has_runs.0 has_runs.1) has_runs.2,
  λ known. exact_match_has_runs set (cat (letters hello)) hello (concatenates true hello) known,
)

-- ---- `(ab|cd)ef`: a query that requires nothing is not selective

abbrev ab_or_cd_then_ef : Trees
ab_or_cd_then_ef = more (alt (more (cat (letters (codes "ab"))) (more (cat (letters (codes "cd"))) none))) (letters (codes "ef"))

alternation_concatenates : (string : List ℕ) → MayMatchSequence true ab_or_cd_then_ef string →
    is_among (codes "abef" ∷ codes "cdef" ∷ []) string ≡ true
alternation_concatenates string j =
    let suffix = concatenates_no_other true (codes "ef") j.1 j.3 in
    elim j.2 [
      | inl first ↦ let prefix = concatenates_no_other true (codes "ab") j.0 first in first_member string (codes "abef")
          (codes "cdef" ∷ []) (j.4 ∙ (λ i. prefix i ++ suffix i))
      | inr rest ↦ elim rest [
        | inl second ↦ let prefix = concatenates_no_other true (codes "cd") j.0 second in later_member string (codes "abef")
            (codes "cdef" ∷ []) (first_member string (codes "cdef") [] (j.4 ∙ (λ i. prefix i ++ suffix i)))
        | inr neither ↦ absurd neither
      ]
    ]

alternation_is_a_run : HaveFewExactStrings ab_or_cd_then_ef
alternation_is_a_run = (
  refl,
  (
    (codes "abef", (codes "ab", codes "ef", inl (concatenates true (codes "ab")), concatenates true (codes "ef"), refl)),
    (codes "abef" ∷ codes "cdef" ∷ [], omega arith, alternation_concatenates),
  ),
)

requiring_nothing_is_not_selective : IsSelective All (cat ab_or_cd_then_ef) → ⊥
requiring_nothing_is_not_selective selective =
    let has_runs = (selective (λ n. false) (matches_set-All (λ n. false))).1.0 none ab_or_cd_then_ef none refl alternation_is_a_run in
    elim (member_cases has_runs.0 (codes "abef") (codes "cdef" ∷ []) (alternation_concatenates has_runs.0 has_runs.1)) [
      | inl first ↦ true≢false (sym (subst (HasTrigrams (λ n. false)) first has_runs.2))
      | inr rest ↦ true≢false (sym (subst (HasTrigrams (λ n. false)) (only_member has_runs.0 (codes "cdef") rest) has_runs.2))
    ]

-- ---- `(ab|cd|ef|gh|ij|kl)(mn|op|qr|st|uv)`: the thirty strings are no run, but each of the two parts has few. The set
-- has the trigrams of one of the thirty, so a query that requires nothing is not selective

-- an alternation of words
abbrev words : List (List ℕ) → Trees
words [] = none
words (word ∷ rest) = more (cat (letters word)) (words rest)

word_of : (all : List (List ℕ)) (string : List ℕ) → MayMatchBranch true (words all) string → is_among all string ≡ true
word_of [] string b = absurd b
word_of (word ∷ rest) string b =
    elim b [
      | inl this ↦ first_member string word rest (concatenates_no_other true word string this)
      | inr other ↦ later_member string word rest (word_of rest string other)
    ]

abbrev six : List (List ℕ)
six = codes "ab" ∷ codes "cd" ∷ codes "ef" ∷ codes "gh" ∷ codes "ij" ∷ codes "kl" ∷ []

abbrev five : List (List ℕ)
five = codes "mn" ∷ codes "op" ∷ codes "qr" ∷ codes "st" ∷ codes "uv" ∷ []

abbrev run_of_five : Trees
run_of_five = more (alt (words five)) none

six_have_exact_strings : HaveExactStrings 6 (more (alt (words six)) none)
six_have_exact_strings = (
  refl,
  (
    (codes "ab", concatenates_one (alt (words six)) (codes "ab") (inl (concatenates true (codes "ab")))),
    (six, omega arith, λ string j. word_of six string (exact_of_one (alt (words six)) string j)),
  ),
)

five_have_exact_strings : HaveExactStrings 5 run_of_five
five_have_exact_strings = (
  refl,
  (
    (codes "mn", concatenates_one (alt (words five)) (codes "mn") (inl (concatenates true (codes "mn")))),
    (five, omega arith, λ string j. word_of five string (exact_of_one (alt (words five)) string j)),
  ),
)

two_bytes_of : (all : List (List ℕ)) (string : List ℕ) → list_all (λ word. nat_eq (length word) 2) all ≡ true →
    is_among all string ≡ true → length string ≡ 2
two_bytes_of [] string each m = absurd (no_member string m)
two_bytes_of (word ∷ rest) string each m =
    let both = and_parts (nat_eq (length word) 2) (list_all (λ w. nat_eq (length w) 2) rest) each in
    elim (member_cases string word rest m) [
      | inl same ↦ ap length same ∙ eqb-true (length word) 2 both.0
      | inr later ↦ two_bytes_of rest string both.1 later
    ]

five_are_long : HaveLongStrings 2 run_of_five
five_are_long string j = omega (arith, two_bytes_of five string refl (word_of five string (exact_of_one (alt (words five)) string j)))

-- both trigrams of the two bytes before the end of the first part and the two after it
cross_of_thirty : (set : ℕ → Bool) → HasExactRuns set (cat (more (alt (words six)) run_of_five)) →
    HasCross set 2 2 (alt (words six)) run_of_five
cross_of_thirty set has_runs =
    (has_runs.1.1 none (alt (words six)) run_of_five refl run_of_five none 6 5 refl (omega arith) (omega arith) six_have_exact_strings
    five_have_exact_strings five_are_long).0 (omega arith)

requiring_nothing_across_is_not_selective : IsSelective All (cat (more (alt (words six)) run_of_five)) → ⊥
requiring_nothing_across_is_not_selective selective =
    let cross = cross_of_thirty (λ n. false) (selective (λ n. false) (matches_set-All (λ n. false))) in
    by cross.0 cross.1 (two_bytes_of six cross.0 refl (word_of six cross.0 cross.2))
    (two_bytes_of five cross.1 refl (word_of five cross.1 (exact_of_one (alt (words five)) cross.1 cross.3))) cross.4
  where
    by : (u v : List ℕ) → length u ≡ 2 → length v ≡ 2 → HasTrigrams (λ n. false) (reverse (take 2 (reverse u)) ++ take 2 v) → ⊥
    by (a ∷ b ∷ []) (c ∷ d ∷ []) x y has = true≢false (sym (sym (all_trigrams_tri (λ n. false) (a ∷ b ∷ c ∷ d ∷ [])) ∙ has))
    by [] v x y has = absurd (omega (arith, x))
    by (a ∷ []) v x y has = absurd (omega (arith, x))
    by (a ∷ b ∷ c ∷ u) v x y has = absurd (omega (arith, x))
    by (a ∷ b ∷ []) [] x y has = absurd (omega (arith, y))
    by (a ∷ b ∷ []) (c ∷ []) x y has = absurd (omega (arith, y))
    by (a ∷ b ∷ []) (c ∷ d ∷ e ∷ v) x y has = absurd (omega (arith, y))

-- ---- `abc?`: a query that requires `abc` loses the line `ab`

abbrev optional : Tree
optional = cat (more (cat (letters (codes "ab"))) (more (rep (one_of (only 99)) 0 (Some 1)) none))

ab_matches : MatchesSequence (codes "ab") (letters (codes "ab")) 0 2
ab_matches = (1, (omega arith, refl, refl), (2, (omega arith, refl, refl), refl))

ab_is_found : HasMatch optional (codes "ab")
ab_is_found = (0, 2, omega arith, omega arith, (2, ab_matches, (2, (0, omega arith, omega arith, refl), refl)))

requiring_an_optional_letter_loses_a_line : LosesNoLine (Tri 6382179) optional → ⊥
requiring_an_optional_letter_loses_a_line loses =
    true≢false (sym (loses (codes "ab") (λ n. false) ab_is_found refl) ∙ matches_set-Tri (λ n. false) 6382179)

-- ---- `abc$d`: no line matches it, but its query may mention `abc` and `bcd`, as it may match `abcd`

abbrev past_the_end : Trees
past_the_end = more line_end (letters (codes "d"))

abbrev past_a_line : Tree
past_a_line = cat (more (cat (letters (codes "abc"))) past_the_end)

no_line_goes_on : (line : List ℕ) (i j : ℕ) → MatchesSequence line past_the_end i j → ⊥
no_line_goes_on line i j m = omega (arith, m.1.1, m.2.1.0)

no_line_matches : (line : List ℕ) → HasMatch past_a_line line → ⊥
no_line_matches line m = no_line_goes_on line m.4.0 m.1 m.4.2

abcd_may_match : MayMatch false past_a_line (codes "abcd")
abcd_may_match =
    let d_may_match = concatenates false (codes "d") in
    (codes "abc", codes "d", concatenates false (codes "abc"), ([], codes "d", refl, d_may_match, refl), refl)

-- two iterations of `a?` may match, unless repeats are bounded
aa_may_match : MayMatch false (rep (one_of (only 97)) 0 (Some 1)) (codes "aa")
aa_may_match = (2, omega arith, tt, (codes "a", codes "a", (97, refl, refl), (codes "a", [], (97, refl, refl), refl, refl), refl))

-- ---- `abc`: its query may not mention `zzz`

abc_has_no_other_trigram : MentionsTrigramsOf (Tri 8026746) (cat (letters (codes "abc"))) → ⊥
abc_has_no_other_trigram only =
    let zzz = only ((97, refl), ((98, refl), ((99, refl), tt))) 8026746 (mentions-Tri 8026746 8026746) in
    let is = concatenates_no_other false (codes "abc") zzz.0 zzz.1 in
    true≢false (sym (subst (λ (text : List ℕ). has (tri text) 8026746 ≡ true) is zzz.2))

-- a set without a member, and an alternation without a branch

an_empty_set_has_no_member : HasMembers (one_of []) → ⊥
an_empty_set_has_no_member h = true≢false (sym h.1)

no_branch_has_no_member : HasMembers (alt none) → ⊥
no_branch_has_no_member h = h

-- ---- which trees are finite

a_repeat_with_a_most_is_finite : is_finite (rep (one_of []) 2 (Some 3)) ≡ true
a_repeat_with_a_most_is_finite = refl

a_repeat_without_a_most_is_not : is_finite (cat (more empty (more (rep (one_of []) 2 None) none))) ≡ false
a_repeat_without_a_most_is_not = refl

a_repeat_with_too_small_a_most_is_not : is_finite (rep (one_of []) 2 (Some 1)) ≡ false
a_repeat_with_too_small_a_most_is_not = refl

an_edge_is_finite : is_finite word_edge ≡ true
an_edge_is_finite = refl

-- ---- `[€]`, a character beyond ASCII: a query that requires nothing is not selective, and does not require
-- its string

abbrev euro : Tree
euro = one_char ((8364, 8364) ∷ [])

abbrev euro_bytes : List ℕ
euro_bytes = 0xe2 ∷ 0x82 ∷ 0xac ∷ []

euro_in_utf8 : encode_utf8 8364 ≡ euro_bytes
unfolding lib.Utf8.encode
euro_in_utf8 = refl

euro_is_an_exact_string : MayMatch true euro euro_bytes
euro_is_an_exact_string = (8364, refl, sym euro_in_utf8)

euro_is_the_only_exact_string : (string : List ℕ) → MayMatch true euro string → string ≡ euro_bytes
euro_is_the_only_exact_string string w = w.2 ∙ ap encode_utf8 (same w.0 w.1) ∙ euro_in_utf8
  where
    same : (c : ℕ) → has_char ((8364, 8364) ∷ []) c ≡ true → c ≡ 8364
    same c h = elim (or_cases (nat_le 8364 c && nat_le c 8364) false (and_parts (is_scalar c) _ h).1) [
      | inl both ↦
          let ends = and_parts (nat_le 8364 c) (nat_le c 8364) both in
          let low = leb-true 8364 c ends.0 in
          let high = leb-true c 8364 ends.1 in
          omega (arith, low, high)
      | inr never ↦ absurd (true≢false (sym never))
    ]

euro_has_few_exact_strings : HasFewExactStrings euro
euro_has_few_exact_strings = (
  refl,
  (
    (euro_bytes, concatenates_one euro euro_bytes euro_is_an_exact_string),
    (
      euro_bytes ∷ [],
      omega arith,
      λ string j. first_member string euro_bytes []
          (euro_is_the_only_exact_string string (exact_of_one euro string j)),
    ),
  ),
)

trigrams_of_euro : tri euro_bytes ≡ 14844588 ∷ []
trigrams_of_euro = refl

requiring_nothing_of_a_character_is_not_selective : IsSelective All euro → ⊥
requiring_nothing_of_a_character_is_not_selective selective =
    let has_runs = (selective (λ n. false) (matches_set-All (λ n. false))).0 euro_has_few_exact_strings in
    true≢false (sym (subst (HasTrigrams (λ n. false))
    (euro_is_the_only_exact_string has_runs.0 (exact_of_one euro has_runs.0 has_runs.1)) has_runs.2))

requiring_nothing_of_a_character_requires_no_string : RequiresExactString All euro → ⊥
requiring_nothing_of_a_character_requires_no_string requires =
    let has_runs = (requires (λ n. false)).0 (matches_set-All (λ n. false)) in
    true≢false (sym (subst (HasTrigrams (λ n. false))
    (euro_is_the_only_exact_string has_runs.0 (exact_of_one euro has_runs.0 has_runs.1)) has_runs.2))
