use Rattle.std.specs.Prelude.{bytes_eq}
use Rattle.std.proofs.Common.{◌∙◌, sym, ℕ, List}
use Rattle.std.proofs.lemmas.List.{take_rest}
use Rattle.cs_index.proofs.stored.SectionPieces.{closed_after, no_section}
use Rattle.cs_index.proofs.reading.bytes.is_closed.Goals as goal

pub returns-in-Some : goal.returns-in-Some
returns-in-Some c =
    let section : List ℕ = c.args.section.now in
    c.eq.ensures ∙ (λ i. bytes_eq (take_rest section c.in-Some.run'.len i) (c.as_slice.ensures i))
    ∙ sym (closed_after section c.in-Some.run' c.in-Some.ensures.run)

pub returns-in-None : goal.returns-in-None
returns-in-None c = sym (no_section c.args.section.now c.in-None.ensures.none).closed
