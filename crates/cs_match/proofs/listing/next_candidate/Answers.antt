use Rattle.std.proofs.Common.{◌≡◌, ℕ, ◌+◌, ◌-◌, ◌≤◌, List, length, take, drop, sym, subst, ap, arith, length-drop, length-take-le}
use Rattle.std.specs.Prelude.{Any}
use Rattle.std.proofs.lemmas.List.{take_rest}
use Rattle.cs_prefilter.specs.WordAt.{WordAt, NoWordFrom}
use Rattle.cs_match.specs.Lines.{terminated_lines}
use Rattle.cs_match.specs.NoNewline.{HasNoNewline}
use Rattle.cs_match.specs.Candidates.{LackWords}
use Rattle.cs_match.specs.Skipping.{AreWholeLines}
use Rattle.cs_match.proofs.CandidateLemmas.{line_around}
use Rattle.cs_match.proofs.SkippedLineLemmas.{words_placed, without, without_before}
use Rattle.cs_match.proofs.WholeLineLemmas.{whole_from}
use Rattle.cs_match.proofs.listing.next_candidate.Goals as goal

pub returns-then-stop-rest-clause-candidate : goal.returns-then-stop-rest-clause-candidate
returns-then-stop-rest-clause-candidate c =
    let words = c.args.prefilter.now.0 in
    let block = c.args.block.now in
    let text = take (length block - c.args.from) (drop c.args.from block) in
    let all : c.skip-stop.result.offset ≡ length text = c.if-stop-rest.true in
    subst (λ (t : List ℕ). LackWords words (terminated_lines t)) (take_rest block c.args.from)
    (without (λ xs k. Any (WordAt xs k) words) (words_placed words) text
    (λ k low h. c.skip-stop.ensures.none k (omega arith) (omega (arith, all)) h.0 h.1 h.2 (subst (WordAt text k) (sym h.3) h.4)))

pub line_end-end-requires-clause-within : goal.line_end-end-requires-clause-within
line_end-end-requires-clause-within c = omega (
  arith,
  c.skip-stop.ensures.high,
  c.if-stop-rest.false,
  length-drop c.args.from c.args.block.now,
)

pub line_end-end-requires-clause-whole : goal.line_end-end-requires-clause-whole
line_end-end-requires-clause-whole c = whole_from c.args.block.now c.args.from _ (omega arith) c.requires.whole

pub returns-clause-candidate : goal.returns-clause-candidate
returns-clause-candidate c =
    let words = c.args.prefilter.now.0 in
    let block = c.args.block.now in
    let from = c.args.from in
    let rest = drop from block in
    let offset = c.skip-stop.result.offset in
    let size = c.whole_lines_len-len.result in
    let end = c.line_end-end.result in
    let all : take (length block - from) rest ≡ rest = take_rest block from in
    let skip = c.skip-stop.ensures in
    let below : offset ≤ length rest = omega (arith, skip.high, ap (λ (t : List ℕ). length t) all) in
    let prefix = length-take-le offset rest below in
    let lines = c.whole_lines_len-len.ensures in
    let within : size ≤ length (take offset rest) = subst (λ (t : List ℕ). size ≤ length (take offset t)) all lines.within in
    let small : size ≤ offset = omega (arith, within, prefix) in
    let e = c.line_end-end.ensures in
    record {
      line = line_around block from offset size end within
          (subst (λ (t : List ℕ). AreWholeLines (take size (take offset t))) all lines.whole)
          (subst (λ (t : List ℕ). HasNoNewline (drop size (take offset t))) all lines.rest)
          e.low e.high e.part e.newline;
      lack =
          let n : size ≡ from + size - from = omega arith in
          subst (λ m. LackWords words (terminated_lines (take m rest))) n
          (without_before (λ xs k. Any (WordAt xs k) words) (words_placed words) rest offset size small below
          (λ k low h. subst (λ (t : List ℕ). NoWordFrom words t 0 offset) all skip.none k (omega arith) low h.0 h.1 h.2
          (subst (WordAt rest k) (sym h.3) h.4)));
    }
