use Rattle.std.proofs.Common.{ℕ, ℤ, List, [], ◌++◌, ◌≡◌, Option, Some, None, sym, ap, subst, w32, ◌∙◌}
use Rattle.std.proofs.lemmas.Int.{to_z-of_z}
use Rattle.std.specs.Str.{IsUtf8}
use Rattle.cs_syntax.specs.Matching.{Tree}
use Rattle.cs_tree.specs.Sinks.{SinkModel}
use Rattle.cs_args.specs.declared.jobs.Style.{Style}
use Rattle.cs_search.specs.GrepReports.{text_report}
use Rattle.cs_match.specs.Automaton.{Automaton}
use Rattle.cs_match.specs.Cached.{IsCacheOf}
use Rattle.codesearch_c.specs.Compiled.{Compiled}
use Rattle.codesearch_c.specs.Copies.{IsCopy}
use Rattle.codesearch_c.specs.MatchingLines.{ForEachTest}
use Rattle.codesearch_c.specs.Reports.{style_of, IsReportCode, reported}
use Rattle.codesearch_c.proofs.MatchingLineLemmas.{decides_program}
use Rattle.codesearch_c.proofs.slot.HeldPattern.report_code.Goals as goal

abbrev written : Option SinkModel → List ℕ
written None = []
written (Some sink) = sink.bytes

-- the report is copied
copied : (pattern : Tree) (name decoded text : List ℕ) (flags : ℕ) (style : Style) (bytes old new : List ℕ)
    (old_len len : ℕ) (code shown : ℤ) → IsUtf8 name → decoded ≡ name → style ≡ style_of flags → shown ≡ code →
    ForEachTest pattern (λ has_match. bytes ≡ (text_report style decoded has_match text).output) →
    IsCopy bytes old new len code → IsReportCode pattern name text flags old new old_len len shown
copied pattern name decoded text flags style bytes old new old_len len code shown utf8 same is shows prints copy =
    reported utf8 (λ has_match decides. subst (λ (code : ℤ). IsCopy (text_report (style_of flags) name has_match text).output old new len code) (sym shows)
    (subst (λ (bytes : List ℕ). IsCopy bytes old new len code) (prints has_match decides
    ∙ ap (λ (name : List ℕ). (text_report style name has_match text).output) same
    ∙ ap (λ (style : Style). (text_report style name has_match text).output) is) copy))

pub invariant_of-self-in-Ok-answer : goal.invariant_of-self-in-Ok-answer
invariant_of-self-in-Ok-answer c = (
  c.self.invariant.0,
  c.self.invariant.1,
  subst (λ (tree : Tree). IsCacheOf tree c.into_cache.result) (ap (λ (m : Automaton). m.tree) c.into_matcher.ensures ∙ (c.grep_text-answer.ensures.same _ c.of_lines-search.ensures).0
      ∙ c.in-Ok-matcher_of.ensures.tree) c.into_cache.ensures,
  c.self.invariant.3,
)

pub invariant_of-self-2 : goal.invariant_of-self-2
invariant_of-self-2 c = (
  c.self.invariant.0,
  c.self.invariant.1,
  subst (λ (tree : Tree). IsCacheOf tree c.into_cache.result) (ap (λ (m : Automaton). m.tree) c.into_matcher.ensures ∙ (c.grep_text-answer.ensures.same _ c.of_lines-search.ensures).0
      ∙ c.in-Ok-matcher_of.ensures.tree) c.into_cache.ensures,
  c.self.invariant.3,
)

pub returns-in-Ok-answer-clause-code : goal.returns-in-Ok-answer-clause-code
returns-in-Ok-answer-clause-code c =
    let name = c.in-Ok.name.now in
    let text = c.args.input.now.text.now in
    let style = c.style_of.result in
    copied c.args.self.now.pattern _ name text _ style c.bytes.result.now _ _ _ _ c.copy_items.result _ c.in-Ok.ensures.cases.1
    c.in-Ok.ensures.cases.0 c.style_of.ensures
    (to_z-of_z w32 c.copy_items.result (record { sfits = c.copy_items.type_inv }))
    (λ has_match decides.
    let reported = c.in-Ok-answer.ensures.report _ c.of_lines-search.ensures has_match
    (decides_program has_match _ _ _ _ c.in-Ok-matcher_of.ensures.tree c.self.invariant.0
    (ap (λ (p : Compiled). p.pattern) c.self.view_is) decides) in
    c.bytes.ensures ∙ ap written reported.0 ∙ ap (λ (bytes : List ℕ). bytes
    ++ (text_report style name has_match text).output) (ap written c.new-report.ensures.model))
    c.copy_items.ensures
