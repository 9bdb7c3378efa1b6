-- Each line has a list of all its matches: so a search has a finding.
use Rattle.std.proofs.Common.{◌≡◌, ℕ, zero, suc, ◌+◌, ◌<◌, ◌≤◌, ◌⊎◌, inl, inr, Bool, true, false, List, [], ◌∷◌, length, IsTrue, ◌↔◌, refl, sym, subst, ◌∙◌, arith}
use Rattle.std.proofs.lemmas.Bool.{cases_lt, false≢true}
use Rattle.cs_syntax.specs.Matching.{Tree, MatchesSpan, HasMatch}
use Rattle.cs_match.specs.Glushkov.{IsExpanded}
use Rattle.cs_match.specs.Passes.{PassesFindEnds, ends_in}
use Rattle.cs_match.specs.Span.{AreSpansFrom, HasNoMatchOf, IsFirstOf, IsMatchOf, IsWholeWord}
use Rattle.std.specs.Prelude.{IfSome, MatchOption, Some}
use Rattle.cs_lines.specs.Findings.{HasFinding, HasWord, found_tree}
use Rattle.cs_lines.specs.Forms.{Span}
use Rattle.cs_lines.specs.declared.search.LineSearch.{LineSearch}

module _ (whole : Bool) (t : Tree) (s : List ℕ) (finds : (from until : ℕ) → PassesFindEnds whole s t from until) where
  -- a match, wherever it is searched for
  abbrev Spans : ℕ → ℕ → Type 0
  Spans i j = (i ≤ j) × (j ≤ length s) × MatchesSpan s t i j × (whole ≡ true → IsWholeWord s i j)

  by_test : (i j : ℕ) → j ≤ length s → (b : Bool) → ends_in whole s t i (i + 1) j ≡ b → Spans i j ⊎ ¬ Spans i j
  by_test i j within true e =
      let f = ((finds i (i + 1)).found j within).0 e in
      let at : f.0 ≡ i = omega (arith, f.1, f.2) in
      inl (
        omega (arith, f.3, at),
        within,
        subst (λ n. MatchesSpan s t n j) at f.4,
        λ w. subst (λ n. IsWholeWord s n j) at (f.5 w),
      )
  by_test i j within false e =
      inr (λ m. absurd (false≢true (sym e ∙ ((finds i (i + 1)).found j within).1 (i, omega arith, omega arith, m.0, m.2, m.3))))

  -- the last end, up to n, of a match that begins at i
  abbrev Last : ℕ → ℕ → ℕ → Type 0
  Last i least n =
      ((j : ℕ) × (least ≤ j) × (j ≤ n) × Spans i j × ((k : ℕ) → k ≤ n → least ≤ k → Spans i k → k ≤ j))
      ⊎ ((k : ℕ) → least ≤ k → k ≤ n → ¬ Spans i k)

  last : (i least n : ℕ) → n ≤ length s → Last i least n
  last i least zero within =
      elim (cases_lt 0 least) [
        | inl low ↦ inr (λ k a b m. let wrong : ⊥ = omega (arith, low, a, b) in wrong)
        | inr high ↦
            elim (by_test i 0 within (ends_in whole s t i (i + 1) 0) refl) [
              | inl here ↦ inl (0, high, omega arith, here, λ k le a m. le)
              | inr miss ↦ inr (λ k a b m. let e : k ≡ 0 = omega (arith, b) in miss (subst (Spans i) e m))
            ]
      ]
  last i least (suc n) within =
      elim (cases_lt (suc n) least) [
        | inl low ↦ inr (λ k a b m. let wrong : ⊥ = omega (arith, low, a, b) in wrong)
        | inr high ↦
            elim (by_test i (suc n) within (ends_in whole s t i (i + 1) (suc n)) refl) [
              | inl here ↦ inl (suc n, high, omega arith, here, λ k le a m. le)
              | inr miss ↦
                  elim (last i least n (omega (arith, within))) [
                    | inl l ↦ inl (
                      l.0,
                      l.1,
                      omega (arith, l.2),
                      l.3,
                      λ k le a m. elim (cases_lt k (suc n)) [
                        | inl lt ↦ l.4 k (omega (arith, lt)) a m
                        | inr ge ↦ let e : k ≡ suc n = omega (arith, le, ge) in absurd (miss (subst (Spans i) e m))
                      ],
                    )
                    | inr none ↦ inr (λ k a b m. elim (cases_lt k (suc n)) [
                      | inl lt ↦ none k a (omega (arith, lt)) m
                      | inr ge ↦ let e : k ≡ suc n = omega (arith, b, ge) in miss (subst (Spans i) e m)
                    ])
                  ]
            ]
      ]

  module _ (from least : ℕ) where
    abbrev First : Type 0
    First = ((i j : ℕ) × IsFirstOf whole t s from least i j) ⊎ HasNoMatchOf whole t s from least

    first : (fuel i : ℕ) → from ≤ i → length s < i + fuel → ((k j : ℕ) → k < i → ¬ IsMatchOf whole t s from least k j) → First
    first zero i low over none =
        inr (λ start end m. elim (cases_lt start i) [
          | inl lt ↦ none start end lt m
          | inr ge ↦ let wrong : ⊥ = omega (arith, ge, over, m.ordered, m.within) in wrong
        ])
    first (suc fuel) i low over none =
        elim (cases_lt (length s) i) [
          | inl past ↦ inr (λ start end m. elim (cases_lt start i) [
            | inl lt ↦ none start end lt m
            | inr ge ↦ let wrong : ⊥ = omega (arith, ge, past, m.ordered, m.within) in wrong
          ])
          | inr within ↦
              elim (last i least (length s) (omega arith)) [
                | inl l ↦ inl (
                  i,
                  l.0,
                  record {
                    is = record { begins = low; ends = l.1; ordered = l.3.0; within = l.3.1; matches = l.3.2; word = l.3.3 };
                    leftmost = λ k j m. elim (cases_lt k i) [ inl lt ↦ absurd (none k j lt m) | inr ge ↦ ge ];
                    longest = λ j m. l.4 j m.within m.ends (m.ordered, m.within, m.matches, m.word);
                  },
                )
                | inr miss ↦
                    first fuel (i + 1) (omega (arith, low)) (omega (arith, over)) (λ k j lt m. elim (cases_lt k i) [
                      | inl below ↦ none k j below m
                      | inr ge ↦
                          let e : k ≡ i = omega (arith, lt, ge) in
                          miss j m.ends m.within (subst (λ n. Spans n j) e (m.ordered, m.within, m.matches, m.word))
                    ])
              ]
        ]

  pub spans_from : (fuel from least : ℕ) → length s < least + fuel → (spans : List Span) × AreSpansFrom true whole t s from least spans
  spans_from zero from least over = ([], λ _ start end m. let wrong : ⊥ = omega (arith, over, m.ends, m.within) in wrong)
  spans_from (suc fuel) from least over =
      elim (first from least (length s + 1) from (omega arith) (omega arith) (λ k j lt m. let wrong : ⊥ = omega (arith, lt, m.begins) in wrong)) [
        | inl f ↦
            let more = spans_from fuel f.1 (suc f.1) (omega (arith, over, f.2.is.ends)) in
            let span : Span = (f.0, f.1) in
            (span ∷ more.0, (f.2, more.1))
        | inr none ↦ ([], λ _. none)
      ]

has_spans : List Span → Bool
has_spans [] = false
has_spans (span ∷ spans) = true

-- the list is empty if and only if there is no match
some_match : (whole : Bool) (t : Tree) (s : List ℕ) (spans : List Span) → AreSpansFrom true whole t s 0 0 spans →
    IsTrue (has_spans spans) ↔ ((start end : ℕ) × IsMatchOf whole t s 0 0 start end)
unfolding has_spans
some_match whole t s [] none = (λ e. absurd (false≢true e), λ m. absurd (none refl m.0 m.1 m.2))
some_match whole t s (span ∷ spans) all = (λ e. (span.0, span.1, all.0.is), λ m. refl)

matches_by : (whole : Bool) (t : Tree) (s : List ℕ) →
    ((start end : ℕ) × IsMatchOf whole t s 0 0 start end) ↔ (HasMatch t s × (whole ≡ true → HasWord t s))
matches_by true t s = (
  λ m. ((m.0, m.1, m.2.ordered, m.2.within, m.2.matches), λ _. m),
  λ h. h.1 refl,
)
matches_by false t s = (
  λ m. ((m.0, m.1, m.2.ordered, m.2.within, m.2.matches), λ wrong. absurd (false≢true wrong)),
  λ h. (
    h.0.0,
    h.0.1,
    record {
      begins = omega arith;
      ends = omega arith;
      ordered = h.0.2;
      within = h.0.3;
      matches = h.0.4;
      word = λ wrong. absurd (false≢true wrong);
    },
  ),
)

pub has_finding : (s : LineSearch) (t : Tree) → s.matcher.tree ≡ t → found_tree s ≡ Some t → IsExpanded t →
    ((whole : Bool) (line : List ℕ) (tree : Tree) (from until : ℕ) → IsExpanded tree → PassesFindEnds whole line tree from until) → HasFinding s
unfolding HasFinding
has_finding s t lines spans expanded finds =
    let whole = s.whole in
    let all : (line : List ℕ) → (ps : List Span) × AreSpansFrom true whole t line 0 0 ps =
    λ line. spans_from whole t line (λ from until. finds whole line t from until expanded) (length line + 1) 0 0 (omega arith) in (
      record { has_match = λ line. has_spans (all line).0; spans = λ line. (all line).0 },
      (
        λ line.
            let some = some_match whole t line (all line).0 (all line).1 in
            let by = matches_by whole t line in (
              λ e.
                  let h = by.0 (some.0 e) in
                  (subst (λ tree. HasMatch tree line) (sym lines) h.0, λ w. subst (λ tree. IfSome tree (λ t. HasWord t line)) (sym spans) (h.1 w)),
              λ h. some.1 (by.1 (subst (λ tree. HasMatch tree line) lines h.0, λ w. subst (λ tree. IfSome tree (λ t. HasWord t line)) spans (h.1 w))),
            ),
        λ line. subst (λ tree. MatchOption tree ((all line).0 ≡ []) (λ t. AreSpansFrom true whole t line 0 0 (all line).0)) (sym spans) (all line).1,
      ),
    )
