use Rattle.std.proofs.Common.{rules, ◌≡◌, ◌∙◌, ap, sym, ℕ, List, length, take, true, false}
use Rattle.cs_index.specs.Opening.{is_name_index, is_names_section, texts_of}
use Rattle.cs_index.specs.SectionPieces.{IsTextRun}
use Rattle.cs_index.specs.ValidSections.{has_starts}
use Rattle.cs_index.specs.declared.reading.bytes.TextRun.{TextRun}
use Rattle.cs_index.proofs.stored.SectionPieces.{run_all, run_texts, run_valid, starts_all}
use Rattle.cs_index.proofs.reading.index.test_sections.Goals as goal

pub has_offsets-requires-clause-names : goal.has_offsets-requires-clause-names
has_offsets-requires-clause-names c = run_valid c.args.names.now c.in-Some.run' c.in-Some.ensures.run

pub has_offsets-requires-clause-count : goal.has_offsets-requires-clause-count
has_offsets-requires-clause-count c =
    let is : IsTextRun c.args.names.now c.in-Some.run' = c.in-Some.ensures.run in
    sym is.count ∙ ap (λ (ts : List (List ℕ)). length ts) (sym (run_texts c.args.names.now c.in-Some.run' is))

-- the test of the strings is that of the section
tested : (name_index names : List ℕ) (run : TextRun) → IsTextRun names run → is_names_section names ≡ true →
    has_starts name_index 0 0 (texts_of (take run.len names)) ≡ is_name_index name_index (texts_of names)
tested name_index names run is formed = ap (has_starts name_index 0 0) (run_all names run is formed)
    ∙ starts_all name_index (texts_of names)

pub returns-then-not-has_offsets-clause-fault : goal.returns-then-not-has_offsets-clause-fault
returns-then-not-has_offsets-clause-fault c =
    let formed : is_names_section c.args.names.now ≡ true = c.in-Some.ensures.some in
    let wrong : is_name_index c.args.name_index.now (texts_of c.args.names.now) ≡ false =
    sym (tested c.args.name_index.now c.args.names.now c.in-Some.run' c.in-Some.ensures.run formed)
    ∙ sym c.has_offsets.ensures ∙ c.if-not-has_offsets.true in
    search rules

pub returns-then-not-has_entries-clause-fault : goal.returns-then-not-has_entries-clause-fault
returns-then-not-has_entries-clause-fault c =
    let formed : is_names_section c.args.names.now ≡ true = c.in-Some.ensures.some in
    let right : is_name_index c.args.name_index.now (texts_of c.args.names.now) ≡ true =
    sym (tested c.args.name_index.now c.args.names.now c.in-Some.run' c.in-Some.ensures.run formed)
    ∙ sym c.has_offsets.ensures ∙ c.if-not-has_offsets.false in
    search rules

pub returns-clause-read : goal.returns-clause-read
returns-clause-read c =
    let formed : is_names_section c.args.names.now ≡ true = c.in-Some.ensures.some in
    let right : is_name_index c.args.name_index.now (texts_of c.args.names.now) ≡ true =
    sym (tested c.args.name_index.now c.args.names.now c.in-Some.run' c.in-Some.ensures.run formed)
    ∙ sym c.has_offsets.ensures ∙ c.if-not-has_offsets.false in
    search rules
