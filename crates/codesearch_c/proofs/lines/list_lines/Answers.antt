use Rattle.std.proofs.Common.{◌≡◌, ◌+◌, ◌∷◌, [], List, take, drop, sym, subst, ◌∙◌, arith, length-take}
use Rattle.std.proofs.lemmas.List.{take-append-drop}
use Rattle.cs_match.specs.Deciding.{Decides}
use Rattle.cs_match.proofs.WholeLineLemmas.{whole_from}
use Rattle.codesearch_c.specs.declared.lines.LineBounds.{LineBounds}
use Rattle.codesearch_c.specs.MatchingLines.{AreListedTo, matching_lines}
use Rattle.codesearch_c.proofs.MatchingLineLemmas.{listed_next, listed_all, none_beyond}
use Rattle.codesearch_c.proofs.lines.list_lines.Goals as goal

pub list_lines-to-requires-clause-whole : goal.list_lines-to-requires-clause-whole
list_lines-to-requires-clause-whole c =
    whole_from (take c.whole_lines_len-whole.result c.args.block.now) 0 c.lists.offset (omega arith) c.whole_lines_len-whole.ensures.whole

pub lists-preserved : goal.lists-preserved
lists-preserved c =
    let i = c.lists.invariant in
    let e = c.list_lines-to.ensures in
    let p = c.put_listed-count.ensures in
    let block = c.args.block.now in
    let whole = c.whole_lines_len-whole.result in
    record {
      within = omega (arith, e.lines.high, length-take whole block);
      fewer = p.fewer;
      listed = λ has_match decides.
          let now = subst (Decides has_match) (sym (e.same ∙ i.same)) decides in
          let same = take-append-drop whole block in
          subst (λ text. AreListedTo has_match text c.args.lines.now c.put_listed-count.new.lines c.put_listed-count.result c.list_lines-to.result)
          same (p.listed has_match now (drop whole block) c.args.lines.now
          (subst (λ text. AreListedTo has_match text c.args.lines.now c.lists.lines c.lists.count c.lists.offset) (sym same) (i.listed has_match decides)));
      same = e.same ∙ i.same;
    }

pub returns-in-Some-clause-listed : goal.returns-in-Some-clause-listed
returns-in-Some-clause-listed c = λ has_match decides.
    let i = c.lists.invariant in
    let e = c.in-Some.ensures in
    let block = c.args.block.now in
    let line = c.in-Some.line in
    let at : c.whole_lines_len-whole.result ≡ c.lists.offset = omega (arith, i.within, c.lists-test.false) in
    let next : matching_lines has_match block c.lists.offset ≡ line ∷ matching_lines has_match block (line.end + 1) =
    subst (λ n. matching_lines has_match block n ≡ line ∷ matching_lines has_match block (line.end + 1)) at
    (e.found has_match (subst (Decides has_match) (sym i.same) decides)) in
    listed_all has_match block c.args.lines.now c.put_line.new.lines (c.lists.count + 1) (line.end + 1)
    (subst (λ (ls : List LineBounds). AreListedTo has_match block c.args.lines.now ls (c.lists.count + 1) (line.end + 1)) (sym c.put_line.ensures)
    (listed_next has_match block c.args.lines.now c.lists.lines c.lists.count c.lists.offset line (i.listed has_match decides) next))
    (none_beyond has_match block (line.end + 1) (omega (arith, e.last)))

pub returns-in-None-clause-listed : goal.returns-in-None-clause-listed
returns-in-None-clause-listed c = λ has_match decides.
    let i = c.lists.invariant in
    let block = c.args.block.now in
    let at : c.whole_lines_len-whole.result ≡ c.lists.offset = omega (arith, i.within, c.lists-test.false) in
    listed_all has_match block c.args.lines.now c.lists.lines c.lists.count c.lists.offset (i.listed has_match decides)
    (subst (λ n. matching_lines has_match block n ≡ []) at
    (c.in-None.ensures.found has_match (subst (Decides has_match) (sym i.same) decides)))
