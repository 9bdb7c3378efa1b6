use Rattle.std.proofs.Common.{◌≡◌, ◌+◌, ◌≤◌, ◌++◌, List, ℕ, length, ◌∙◌, ap, arith, length-append}
use Rattle.cs_match.specs.Lines.{terminated_lines}
use Rattle.cs_match.proofs.LinesLemmas.{lines_within, length-terminated_append}
use Rattle.cs_lines.proofs.lines.line_count.Goals as goal

-- a block splits into a part and a rest, and its lines are those of both
counted : (count few : ℕ) (rest part more block : List ℕ) → count + length (terminated_lines rest) ≡ length (terminated_lines block)
    → rest ≡ part ++ more → few ≡ length (terminated_lines part)
    → (count + few ≤ length block) × (count + few + length (terminated_lines more) ≡ length (terminated_lines block))
    × (length rest ≡ length part + length more)
counted count few rest part more block all cut is =
    let e : length (terminated_lines rest) ≡ length (terminated_lines part) + length (terminated_lines more) =
    ap (λ text. length (terminated_lines text)) cut ∙ length-terminated_append part more in
    (omega (arith, lines_within block), omega arith, ap (λ (text : List ℕ). length text) cut ∙ length-append part more)

pub overflow_add-count : goal.overflow_add-count
overflow_add-count c =
    let h = counted c.parts.count c.from-count.result _ _ _ c.args.block.now c.parts.invariant
    c.split_at.ensures.by_index.0 (c.from-count.ensures ∙ c.count_newlines.ensures) in
    omega (arith, h.0, c.well_formed.0.0)

pub parts-preserved : goal.parts-preserved
parts-preserved c =
    let h = counted c.parts.count c.from-count.result _ _ _ c.args.block.now c.parts.invariant c.split_at.ensures.by_index.0
    (c.from-count.ensures ∙ c.count_newlines.ensures) in
    h.1

pub overflow_add-result : goal.overflow_add-result
overflow_add-result c = omega (
  arith,
  lines_within c.args.block.now,
  c.well_formed.0.0,
  c.parts.invariant,
  c.from.ensures,
  c.count_newlines-2.ensures,
)

pub returns-clause-within : goal.returns-clause-within
returns-clause-within c = omega (
  arith,
  lines_within c.args.block.now,
  c.parts.invariant,
  c.from.ensures,
  c.count_newlines-2.ensures,
)
