use Rattle.std.proofs.Common.{◌+◌, ◌-◌, ℕ, List, ◌∷◌, drop, take, refl, sym, subst, ◌∙◌, arith}
use Rattle.std.specs.Prelude.{IsUtf8}
use Rattle.std.specs.List.{AllByRecursion}
use Rattle.cs_match.specs.Deciding.{Decides}
use Rattle.cs_match.specs.Lines.{terminated_lines}
use Rattle.cs_match.specs.Skipping.{IsLineAfter}
use Rattle.cs_match.proofs.WholeLineLemmas.{whole_drop}
use Rattle.cs_search.proofs.NameBlockLemmas.{PushesFrom, all_rest, lines_from, pushes_all, pushes_line}
use Rattle.cs_search.proofs.name_block.push_matching.Goals as goal

pub next_match-requires-clause-whole : goal.next_match-requires-clause-whole
next_match-requires-clause-whole c = whole_drop c.lines.from c.args.block.now c.requires

pub lines-init : goal.lines-init
lines-init c = record { within = omega arith; pushed = λ keeps decides. refl; utf8 = λ all. all; same = refl }

-- the line and those after it are UTF-8
and_after : (block : List ℕ) (from start end : ℕ) → IsLineAfter block from start end →
    AllByRecursion IsUtf8 (terminated_lines (drop from block)) →
    AllByRecursion IsUtf8 (take (end - start) (drop start block) ∷ terminated_lines (drop (end + 1) block))
and_after block from start end line all =
    all_rest (terminated_lines (take (start - from) (drop from block))) _
    (subst (AllByRecursion IsUtf8) (lines_from block from start end line) all)

pub returns-in-Err-clause-pushed : goal.returns-in-Err-clause-pushed
returns-in-Err-clause-pushed c = λ all.
    let line = c.in-Some.line in
    c.in-Err.ensures.cases.0 (and_after c.args.block.now c.lines.from line.start line.end c.in-Some.ensures.line
    (c.lines.invariant.utf8 all)).0

pub lines-preserved : goal.lines-preserved
lines-preserved c =
    let i = c.lines.invariant in
    let e = c.in-Some.ensures in
    let block = c.args.block.now in
    let line = c.in-Some.line in
    let own = take (line.end - line.start) (drop line.start block) in
    record {
      within = omega (arith, e.line.high);
      pushed = subst (λ items. PushesFrom c.args.matcher.now.tree block (line.end + 1) c.args.names.now.items items)
          (sym c.in_ok-push-in-Ok.ensures.items)
          (pushes_line c.args.matcher.now.tree block c.lines.from line.start line.end c.args.names.now.items c.lines.names.items
          c.in_ok-from_str-in-Ok.field-0 i.pushed e.line
          (λ keeps decides. e.none keeps (subst (Decides keeps) (sym i.same) decides))
          (λ keeps decides. (subst (Decides keeps) (sym i.same) decides own).1 e.found)
          (c.in_ok-from_str-in-Ok.ensures.ok ∙ c.in-Ok.ensures.cases.0));
      utf8 = λ all. (and_after block c.lines.from line.start line.end e.line (i.utf8 all)).1;
      same = e.same ∙ i.same;
    }

pub returns-clause-pushed : goal.returns-clause-pushed
returns-clause-pushed c = λ all.
    let i = c.lines.invariant in
    pushes_all c.args.matcher.now.tree c.args.block.now c.lines.from c.args.names.now.items c.lines.names.items i.pushed
    (λ keeps decides. c.in_default.ensures.none keeps (subst (Decides keeps) (sym i.same) decides))
