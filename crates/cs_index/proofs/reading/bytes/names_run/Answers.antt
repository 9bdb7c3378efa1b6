use Rattle.std.specs.Prelude.{bytes_eq}
use Rattle.std.proofs.Common.{◌≡◌, ◌∙◌, ◌||◌, ◌∷◌, [], ap, sym, ℕ, List, Bool, drop}
use Rattle.std.proofs.lemmas.List.{take_rest}
use Rattle.cs_index.specs.Opening.{is_names_section}
use Rattle.cs_index.specs.SectionPieces.{IsTextRun}
use Rattle.cs_index.specs.declared.reading.bytes.TextRun.{TextRun}
use Rattle.cs_index.proofs.stored.SectionPieces.{bare_after, closed_after, no_section}
use Rattle.cs_index.proofs.reading.bytes.names_run.Goals as goal

-- what follows the strings decides
decided : (section rest : List ℕ) (run : TextRun) (ends : Bool) → IsTextRun section run → rest ≡ drop run.len section →
    ends ≡ (bytes_eq rest (0 ∷ []) || bytes_eq rest []) → ends ≡ is_names_section section
decided section rest run ends is from ensured =
    ensured ∙ ap (λ (s : List ℕ). bytes_eq s (0 ∷ []) || bytes_eq s []) from
    ∙ (λ i. sym (closed_after section run is) i || sym (bare_after section run is) i)

pub returns-in_default-clause-none : goal.returns-in_default-clause-none
returns-in_default-clause-none c =
    let none = no_section c.args.section.now c.in_default.ensures.none in
    λ i. none.closed i || none.bare i

pub returns-then-not-is_ending-clause-none : goal.returns-then-not-is_ending-clause-none
returns-then-not-is_ending-clause-none c =
    sym (decided c.args.section.now _ c.in-Some.run' c.is_ending.result c.in-Some.ensures.run
    (take_rest c.args.section.now c.in-Some.run'.len) c.is_ending.ensures) ∙ c.if-not-is_ending.true

pub returns-clause-some : goal.returns-clause-some
returns-clause-some c =
    sym (decided c.args.section.now _ c.in-Some.run' c.is_ending.result c.in-Some.ensures.run
    (take_rest c.args.section.now c.in-Some.run'.len) c.is_ending.ensures) ∙ c.if-not-is_ending.false
