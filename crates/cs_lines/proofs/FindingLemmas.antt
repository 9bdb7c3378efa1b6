-- What a search finds.
use Rattle.std.proofs.Common.{◌≡◌, ℕ, Bool, true, false, List, [], Option, Some, None, IsTrue, ◌↔◌, MatchOption, get_or, refl, sym, ap, subst, ◌∙◌}
use Rattle.std.specs.Prelude.{IfSome, is_some}
use Rattle.std.proofs.lemmas.Bool.{false≢true}
use Rattle.cs_syntax.specs.Matching.{Tree, HasMatch}
use Rattle.cs_match.specs.Deciding.{Decides}
use Rattle.cs_match.specs.Skipping.{NoneMatch}
use Rattle.cs_match.specs.Span.{AreSpansFrom}
use Rattle.cs_lines.specs.Findings.{Finding, HasWord, Matches, Tests, TestsMatches, IsFoundBy, KeepsSearch, SearchesLines, StopsBySpans, found_tree, has_stopped, of_lines}
use Rattle.cs_lines.specs.Forms.{Span}
use Rattle.cs_lines.specs.Printing.{needs_spans}
use Rattle.cs_lines.specs.declared.rows.Page.{Page}
use Rattle.cs_lines.specs.declared.search.LineSearch.{LineSearch}
use Rattle.cs_lines.specs.declared.search.SpanSearch.{SpanSearch}

-- a line that does not match
pub missed : (search : LineSearch) (test : List ℕ → Bool) → Tests test search → (line : List ℕ) → ¬ Matches search line → test line ≡ false
missed search test tests line miss = by_test (test line) refl
  where
    by_test : (t : Bool) → test line ≡ t → t ≡ false
    by_test true e = absurd (miss ((tests line).0 e))
    by_test false e = refl

-- lines without a match do not match
pub none_match : (search : LineSearch) (test other : List ℕ → Bool) → Tests test search → TestsMatches other search → (lines : List (List ℕ)) →
    NoneMatch other lines → NoneMatch test lines
none_match search test other tests finds lines none k d low =
    let line = get_or lines k d in
    missed search test tests line (λ matches. false_true (other line) (none k d low) ((finds line).1 matches.0))
  where
    false_true : (t : Bool) → t ≡ false → t ≡ true → ⊥
    false_true t e f = false≢true (sym e ∙ f)

-- the search is for the same
abbrev IsWord : Option Tree → List ℕ → Type 0
IsWord t line = IfSome t (λ tree. HasWord tree line)

pub same_matches : (old new : LineSearch) → KeepsSearch old new → (line : List ℕ) → Matches old line → Matches new line
same_matches old new same line h = (
  subst (λ t. HasMatch t line) (sym same.0) h.0,
  λ whole. subst (λ t. IsWord t line) (sym same.1) (h.1 (sym same.2 ∙ whole)),
)

pub matches_same : (old new : LineSearch) → KeepsSearch old new → (line : List ℕ) → Matches new line → Matches old line
matches_same old new same line h = (
  subst (λ t. HasMatch t line) same.0 h.0,
  λ whole. subst (λ t. IsWord t line) same.1 (h.1 (same.2 ∙ whole)),
)

pub tests_same : (old new : LineSearch) → KeepsSearch old new → (test : List ℕ → Bool) → Tests test old → Tests test new
tests_same old new same test tests line =
    (λ e. same_matches old new same line ((tests line).0 e), λ h. (tests line).1 (matches_same old new same line h))

abbrev AreSpans : Option Tree → Bool → List ℕ → List Span → Type 0
AreSpans t whole line spans = MatchOption t (spans ≡ []) (λ tree. AreSpansFrom true whole tree line 0 0 spans)

pub found_same : (old new : LineSearch) → KeepsSearch old new → (finding : Finding) → IsFoundBy finding old → IsFoundBy finding new
found_same old new same finding found = (
  tests_same old new same finding.has_match found.0,
  λ line. subst (λ whole. AreSpans (found_tree new) whole line (finding.spans line)) (sym same.2)
      (subst (λ t. AreSpans t old.whole line (finding.spans line)) (sym same.1) (found.1 line)),
)

pub keeps_again : (a b c : LineSearch) → KeepsSearch a b → KeepsSearch b c → KeepsSearch a c
keeps_again a b c p q = (q.0 ∙ p.0, q.1 ∙ p.1, q.2 ∙ p.2, λ none. p.3 (q.3 none))

pub keeps_itself : (a : LineSearch) → KeepsSearch a a
keeps_itself a = (refl, refl, refl, λ none. none)

pub finds_before : (old new : LineSearch) → KeepsSearch old new → (test : List ℕ → Bool) → TestsMatches test new → TestsMatches test old
finds_before old new same test finds = subst (λ t. (line : List ℕ) → IsTrue (test line) ↔ HasMatch t line) same.0 finds

-- the budget of a line, after more of the same text was searched
pub stops_again : (old now : Page) (a b c : LineSearch) → now ≡ old → StopsBySpans old.options.now.form a b → StopsBySpans now.options.now.form b c →
    StopsBySpans old.options.now.form a c
stops_again old now a b c is p q = λ alone. q (ap (λ (page : Page). needs_spans page.options.now.form) is ∙ alone) ∙ p alone

-- ---- a search for lines alone

abbrev pub tree_in : Option SpanSearch → Option Tree
tree_in found = elim found [ None ↦ None | Some found ↦ Some found.finder.tree ]

abbrev stop_in : Option SpanSearch → Bool
stop_in found = elim found [ None ↦ false | Some found ↦ found.stopped ]

-- no budget is used up
pub never_stopped : (search : LineSearch) → found_tree search ≡ None → has_stopped search ≡ false
never_stopped search none = by search.found none
  where
    by : (found : Option SpanSearch) → tree_in found ≡ None → stop_in found ≡ false
    by None none = refl
    by (Some found) e = absurd (false≢true (sym (ap is_some e)))

pub lines_found : (search : LineSearch) (tree : Tree) (has_match : List ℕ → Bool) → SearchesLines search tree → Decides has_match tree →
    IsFoundBy (of_lines has_match) search
lines_found search tree has_match is decides = (
  λ line. (
    λ e. (subst (λ t. HasMatch t line) (sym is.0) ((decides line).0 e), λ whole. absurd (false≢true (sym is.2 ∙ whole))),
    λ h. (decides line).1 (subst (λ t. HasMatch t line) is.0 h.0),
  ),
  λ line. subst (λ t. AreSpans t search.whole line []) (sym (ap tree_in is.1)) refl,
)
