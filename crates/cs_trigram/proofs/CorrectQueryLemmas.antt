-- Correct queries of trees.
use Rattle.std.proofs.Common.{false, ◌≡◌, ℕ, zero, suc, ◌+◌, ◌*◌, ◌-◌, ◌<◌, ◌≤◌, length, inl, inr, Bool, true, List, [], ◌∷◌, ◌++◌, Vec, Global, sym, ◌∙◌, subst, arith, refl}
use Rattle.cs_tree.specs.Cover.{is_among}
use Rattle.std.specs.Prelude.{Option, Some, None, slice_range}
use Rattle.std.specs.List.{sum_by}
use Rattle.std.proofs.lemmas.Nat.{mul-le}
use Rattle.std.proofs.lemmas.List.Sums.{sum_by_push}
use Rattle.std.proofs.lemmas.Bool.{false≢true, or_cases, or_left, or_right}
use Rattle.cs_syntax.specs.Matching.{Tree, Trees, alt, rep, more, Chain, MatchesSpan}
use Rattle.cs_syntax.specs.Weight.{weight, times}
use Rattle.cs_trigram.specs.Query.{matches_set, mentions, query_size, HasTrigrams}
use Rattle.cs_trigram.specs.MayMatch.{MayMatch, MayMatchBranch, HasMembers, HaveMembers}
use Rattle.cs_trigram.specs.ExactRuns.{HasWhole, HasRunsWithin, HasExactRuns}
use Rattle.cs_trigram.specs.ExactQuery.{RequiresExactString}
use Rattle.cs_trigram.specs.Analysis.{some_matches, some_mentions, has_any, MentionsOnly, AreExactStrings, IsCorrect, AreCorrect, IsMatchQuery}
use Rattle.cs_trigram.specs.declared.queries.Query.{Query}
use Rattle.cs_trigram.specs.declared.queries.Query.TheVariants.{All, Or}
use Rattle.cs_trigram.proofs.LeadingRunLemmas.{concatenates_one, exact_of_one}
use Rattle.cs_trigram.proofs.SequenceQueryLemmas.{any_run_found, found_any_run}
use Rattle.cs_trigram.proofs.ExactStringLemmas.{match_is_exact, exact_match_has_runs}
use Rattle.cs_trigram.proofs.SizeLemmas.{size-All, size-Or, weight_pos, string_short, few_short}
use Rattle.cs_trigram.proofs.SubstringTrigramLemmas.{has_part}
use Rattle.cs_trigram.proofs.QueryLemmas.{matches_set-All, matches_set-Or, some_matches_push, mentions-Or, mentions_push}
use Rattle.cs_trigram.proofs.MentionLemmas.{all_mentions_none, occurs_itself, trigrams_of_both, trigrams_within}
use Rattle.cs_trigram.proofs.MayMatchLemmas.{branches_have_members, exact_may_match, iteration_within}

-- a tree that requires nothing
pub correct_all : (t : Tree) → ((set : ℕ → Bool) → HasExactRuns set t) → IsCorrect All t
correct_all t has_runs = record {
  matching = λ s set i j h has. matches_set-All set;
  selective = λ set h. has_runs set;
  mentioned = all_mentions_none (HasMembers t) (MayMatch false t);
  small = omega (arith, size-All, weight_pos t);
}

-- `All` is a match query of a tree without runs within it, such as a leaf
pub leaf_match_query : (t : Tree) → ((set : ℕ → Bool) → HasRunsWithin set t) → IsMatchQuery All t
leaf_match_query t within many = correct_all t (λ set. (λ few. absurd (many few), within set))

-- zero iterations have the empty string as their exact string
no_iteration : (x : Tree) (m : Option ℕ) (set : ℕ → Bool) → HasWhole set (rep x 0 m)
no_iteration x None set few = absurd (false≢true few.0)
no_iteration x (Some m) set few = ([], ([], [], (0, omega arith, omega arith, refl), refl, refl), refl)

pub all_repeated : (x : Tree) (n : ℕ) (m : Option ℕ) → n ≡ 0 → IsCorrect All (rep x n m)
all_repeated x n m e = subst (λ k. IsCorrect All (rep x k m)) (sym e) (correct_all (rep x 0 m) (λ set. (no_iteration x m set, tt)))

-- at least one iteration
pub correct_repeated : (q : Query) (x : Tree) (n : ℕ) (m : Option ℕ) → 0 < n → IsCorrect q x → IsMatchQuery q (rep x n m)
correct_repeated q x zero m some r many = absurd (omega arith)
correct_repeated q x (suc n) m some r many = record {
  matching = λ s set i j h has. first s set h.0 i j h.1 h.3 has;
  selective = λ set h. (λ few. absurd (many few), r.selective set h);
  mentioned =
      trigrams_within (mentions q) (HasMembers x) (HasMembers x) (MayMatch false x) (MayMatch false (rep x (suc n) m)) r.mentioned
      (λ h. h) (λ h w is. iteration_within x (suc n) m w is);
  small = omega (arith, r.small, mul-le 1 (weight x) (times (suc n) m) (weight x) (omega arith) (omega arith));
}
  where
    first : (s : List ℕ) (set : ℕ → Bool) (k i j : ℕ) → suc n ≤ k → Chain (MatchesSpan s x) k i j → HasTrigrams set s →
        matches_set q set ≡ true
    first s set zero i j le c has = absurd (omega arith)
    first s set (suc k) i j le c has = r.matching s set i c.0 c.1 has

-- a tree with few exact strings
pub correct_strings : (q : Query) (ws : List (List ℕ)) (t : Tree) → AreExactStrings ws t →
    ((set : ℕ → Bool) → matches_set q set ≡ has_any set ws) → MentionsOnly q (λ w. is_among ws w ≡ true) →
    query_size q ≤ 1 + sum_by (λ string. length string - 1) ws → IsCorrect q t
correct_strings q ws t strings required only size = record {
  matching = λ s set i j h has.
      let r = match_is_exact s t i j strings.are.0 h in
      required set ∙ found_any_run set ws (slice_range s i j) (strings.are.1.whole strings.few (slice_range s i j) r.1)
      (has_part set (j - i) i s has);
  selective = λ set h.
      let w = any_run_found set ws (sym (required set) ∙ h) in
      exact_match_has_runs set t w.0 (strings.are.1.right w.0 w.1) w.2;
  mentioned =
      trigrams_within (mentions q) (Unit {0}) (HasMembers t) (λ w. is_among ws w ≡ true) (MayMatch false t) only (λ h. tt)
      (λ h w m. (w, exact_may_match t w (strings.are.1.right w m), occurs_itself w w refl));
  small =
      let short = few_short ws (4 * weight t) strings.few (λ w m. string_short t w strings.are.0 (strings.are.1.right w m)) in
      omega (arith, size, short, weight_pos t);
}

-- the query of a tree with few exact strings requires one of them
pub string_required : (q : Query) (ws : List (List ℕ)) (t : Tree) → AreExactStrings ws t →
    ((set : ℕ → Bool) → matches_set q set ≡ has_any set ws) → RequiresExactString q t
string_required q ws t strings required set = (
  λ h. let w = any_run_found set ws (sym (required set) ∙ h) in (w.0, concatenates_one t w.0 (strings.are.1.right w.0 w.1), w.2),
  λ w. required set ∙ found_any_run set ws w.0 (strings.are.1.whole strings.few w.0 (exact_of_one t w.0 w.1)) w.2,
)

pub right_more : (queries : List Query) (q : Query) (t : Tree) (ts : Trees) → IsCorrect q t → AreCorrect queries ts →
    AreCorrect (queries ++ q ∷ []) (more t ts)
right_more queries q t ts match_query others = record {
  matching = λ s set i j h has.
      some_matches_push set queries q
      ∙ elim h [
        | inl a ↦ or_right (some_matches queries set) (matches_set q set) (match_query.matching s set i j a has)
        | inr b ↦ or_left (some_matches queries set) (matches_set q set) (others.matching s set i j b has)
      ];
  selective = λ set h.
      elim (or_cases (some_matches queries set) (matches_set q set) (sym (some_matches_push set queries q) ∙ h)) [
        | inl a ↦ inr (others.selective set a)
        | inr b ↦ inl (match_query.selective set b)
      ];
  mentioned =
      let A = HaveMembers (more t ts) in
      let P = MayMatchBranch false (more t ts) in
      trigrams_of_both (some_mentions queries) (mentions q) (some_mentions (queries ++ q ∷ [])) A P (λ g. mentions_push g queries q)
      (trigrams_within (some_mentions queries) (HaveMembers ts) A (MayMatchBranch false ts) P others.mentioned (λ h. h.1)
      (λ h w m. (w, inr m, occurs_itself w w refl)))
      (trigrams_within (mentions q) (HasMembers t) A (MayMatch false t) P match_query.mentioned (λ h. h.0)
      (λ h w m. (w, inl m, occurs_itself w w refl)));
  small = omega (arith, sum_by_push query_size queries q, match_query.small, others.small);
}

pub correct_alternation : (members : Vec Query Global) (ts : Trees) → AreCorrect members.items ts → IsMatchQuery (Or members) (alt ts)
correct_alternation members ts r many = record {
  matching = λ s set i j h has. matches_set-Or set members ∙ r.matching s set i j h has;
  selective = λ set h. (λ few. absurd (many few), r.selective set (sym (matches_set-Or set members) ∙ h));
  mentioned = λ g h. let only = r.mentioned g (sym (mentions-Or g members) ∙ h) in (only.0, λ m. only.1 (branches_have_members ts m));
  small = omega (arith, size-Or members, r.small);
}
