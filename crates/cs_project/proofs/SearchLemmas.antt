-- Two states of a search for the same.
use Rattle.std.proofs.Common.{◌≡◌, ℕ, Bool, List, [], Option, refl, sym, ap, subst, ◌∙◌}
use Rattle.std.specs.Prelude.{IfSome, MatchOption}
use Rattle.cs_syntax.specs.Matching.{Tree, HasMatch}
use Rattle.cs_lines.specs.Findings.{AreSpansIn, Finding, HasWord, Matches, IsFoundBy, KeepsSearch, found_tree}
use Rattle.cs_lines.specs.Forms.{Span}
use Rattle.cs_lines.specs.Printing.{needs_spans}
use Rattle.cs_lines.specs.declared.form.ShowOptions.{ShowOptions}
use Rattle.cs_lines.specs.declared.search.LineSearch.{LineSearch}
use Rattle.cs_project.specs.Visits.{KeepsForm}
use Rattle.cs_project.specs.declared.file_search.FileSearch.{FileSearch}

-- the same is searched for
abbrev pub SameSearch : LineSearch → LineSearch → Type 0
SameSearch old new = (new.matcher.tree ≡ old.matcher.tree) × (found_tree new ≡ found_tree old) × (new.whole ≡ old.whole)

same_matches : (old new : LineSearch) → SameSearch old new → (line : List ℕ) → Matches old line → Matches new line
same_matches old new same line h = (
  subst (λ t. HasMatch t line) (sym same.0) h.0,
  λ whole. subst (λ (found : Option Tree). IfSome found (λ tree. HasWord tree line)) (sym same.1) (h.1 (sym same.2 ∙ whole)),
)

-- the matches of a line, if they are looked for
abbrev SpansIn : Option Tree → Bool → List ℕ → List Span → Type 0
SpansIn found whole line spans = MatchOption found (spans ≡ []) (λ tree. AreSpansIn tree whole line spans)

-- a finding of one is a finding of the other
found_same : (old new : LineSearch) → SameSearch old new → (finding : Finding) → IsFoundBy finding old → IsFoundBy finding new
found_same old new same finding found = (
  λ line. (
    λ e. same_matches old new same line ((found.0 line).0 e),
    λ h. (found.0 line).1 (same_matches new old (sym same.0, sym same.1, sym same.2) line h),
  ),
  λ line. subst (λ whole. SpansIn (found_tree new) whole line (finding.spans line)) (sym same.2)
      (subst (λ tree. SpansIn tree old.whole line (finding.spans line)) (sym same.1) (found.1 line)),
)

pub still_found : (old new : LineSearch) → KeepsSearch old new → (finding : Finding) → IsFoundBy finding old → IsFoundBy finding new
still_found old new same = found_same old new (same.0, same.1, same.2)

pub was_found : (old new : LineSearch) → KeepsSearch old new → (finding : Finding) → IsFoundBy finding new → IsFoundBy finding old
was_found old new same = found_same new old (sym same.0, sym same.1, sym same.2)

pub form_again : (a b c : FileSearch) → KeepsForm a b → KeepsForm b c → KeepsForm a c
form_again a b c p q = (
  q.0 ∙ p.0,
  q.1 ∙ p.1,
  ((q.2).0 ∙ (p.2).0, (q.2).1 ∙ (p.2).1, (q.2).2 ∙ (p.2).2, λ none. (p.2).3 ((q.2).3 none)),
  λ right. p.3 (q.3 right),
  q.4 ∙ p.4,
  λ plain. q.5 (ap (λ (o : ShowOptions). needs_spans o.form) p.0 ∙ plain) ∙ p.5 plain,
)

pub form_itself : (a : FileSearch) → KeepsForm a a
form_itself a = (refl, refl, (refl, refl, refl, λ none. none), λ right. right, refl, λ plain. refl)
