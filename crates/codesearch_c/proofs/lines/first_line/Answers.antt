use Rattle.std.proofs.Common.{◌≡◌, ◌-◌, ◌<◌, ℕ, List, length, take, drop, Option, Some, None, IfSome, refl, sym, subst, ◌∙◌, arith}
use Rattle.std.proofs.lemmas.Slice.{between_is}
use Rattle.cs_syntax.specs.Matching.{Tree, HasMatch}
use Rattle.cs_match.specs.Deciding.{Decides}
use Rattle.cs_match.specs.NoNewline.{HasNoNewline}
use Rattle.cs_match.specs.Skipped.{AreLinesBetween}
use Rattle.cs_match.specs.Skipping.{AreWholeLines}
use Rattle.codesearch_c.specs.declared.lines.LineBounds.{LineBounds}
use Rattle.codesearch_c.specs.Budgets.{IsLineFrom}
use Rattle.codesearch_c.proofs.MatchingLineLemmas.{first_match, no_match, none_beyond}
use Rattle.codesearch_c.proofs.BudgetLemmas.{no_lines, lines_on, line_after, line_at_end}
use Rattle.codesearch_c.proofs.lines.first_line.Goals as goal

-- a last line without a newline
ends_block : (block : List ℕ) (from start : ℕ) (found : Option LineBounds) → AreLinesBetween block from start →
    HasNoNewline (drop start block) →
    IfSome found (λ line. (start < length block) × (line.end ≡ length block) × (line.start ≡ start)) →
    IfSome found (λ line. IsLineFrom block from line.start line.end)
ends_block block from start None before part last = tt
ends_block block from start (Some line) before part last =
    let P : ℕ → Type 0 = λ n. IsLineFrom block from n line.end in
    let Q : ℕ → Type 0 = λ n. IsLineFrom block from start n in
    subst P (sym last.2) (subst Q (sym last.1) (line_at_end block from start before last.0 part))

pub parts-init : goal.parts-init
parts-init c = record {
  lines = λ within. no_lines c.args.block.now c.args.from within;
  low = omega arith;
  none = λ has_match decides. refl;
  same = refl;
}

pub returns-in_default-clause-line : goal.returns-in_default-clause-line
returns-in_default-clause-line c =
    let i = c.parts.invariant in
    ends_block c.args.block.now c.args.from c.parts.start c.last_line.result
    (i.lines (omega (arith, i.low, c.parts-test.true))) c.in_default.ensures c.last_line.ensures.last

pub next_match-requires-clause-whole : goal.next_match-requires-clause-whole
next_match-requires-clause-whole c =
    subst AreWholeLines (between_is c.args.block.now c.parts.start c.in-Some.end) c.in-Some.ensures.1.whole

pub returns-in-Some-next_match-clause-found : goal.returns-in-Some-next_match-clause-found
returns-in-Some-next_match-clause-found c = λ has_match decides.
    let block = c.args.block.now in
    let i = c.parts.invariant in
    let end = c.in-Some.end in
    let line = c.in-Some-next_match.line in
    let e = c.in-Some-next_match.ensures in
    let text = take (line.end - line.start) (drop line.start (take end block)) in
    let found = subst (λ (tree : Tree). HasMatch tree text) i.same e.found in
    i.none has_match decides
    ∙ first_match has_match block end c.in-Some.ensures.1.high c.parts.start line.start line.end e.line
    (e.none has_match (subst (Decides has_match) (sym i.same) decides)) ((decides text).1 found)

pub returns-in-Some-next_match-clause-line : goal.returns-in-Some-next_match-clause-line
returns-in-Some-next_match-clause-line c =
    let i = c.parts.invariant in
    let line = c.in-Some-next_match.line in
    line_after c.args.block.now c.args.from c.parts.start (i.lines (omega (arith, i.low, c.parts-test.true))) c.in-Some.end
    line.start line.end c.in-Some.ensures.1.high c.in-Some-next_match.ensures.line

pub parts-preserved : goal.parts-preserved
parts-preserved c =
    let block = c.args.block.now in
    let i = c.parts.invariant in
    let start = c.parts.start in
    let end = c.in-Some.end in
    let more = c.in-Some.ensures in
    let e = c.in_default-next_match.ensures in
    record {
      lines = λ within. lines_on block c.args.from start (i.lines within) end more.1;
      low = omega (arith, i.low, more.0);
      none = λ has_match decides.
          i.none has_match decides
          ∙ no_match has_match block end more.1.high start (omega (arith, more.0))
          (subst AreWholeLines (between_is block start end) more.1.whole)
          (e.none has_match (subst (Decides has_match) (sym i.same) decides));
      same = e.same ∙ i.same;
    }

pub returns-clause-found : goal.returns-clause-found
returns-clause-found c = λ has_match decides.
    c.parts.invariant.none has_match decides
    ∙ none_beyond has_match c.args.block.now c.parts.start (omega (arith, c.parts-test.false))
