use Rattle.std.proofs.Common.{◌∙◌, ◌+◌, arith, subst, sym}
use Rattle.cs_known.specs.KnownFiles.{ArePassed, IsMatchOf, IsReached}
use Rattle.cs_known.proofs.NameLemmas.{ArePassedFor, passed_at, passed_next, some_name, still_reads}
use Rattle.cs_known.proofs.types.KnownFiles.reach.Goals as goal

pub names-preserved : goal.names-preserved
names-preserved g c =
    let i = c.names.invariant in
    let e = c.in_ok-next_match.ensures in
    let id = c.names.self.id in
    let path = c.args.path.now in
    let test = c.names-test.true in
    let same = i.count in
    record {
      reads = λ query parts was below. e.reads was.index parts (i.rest.0 ∙ was.index_is) (i.reads query parts was test);
      passed = λ query parts was below.
          let bound = was.count in
          let found = some_name parts.names id (omega (arith, test, same, bound)) in
          let matched = e.matches was.index found.0 parts (i.rest.0 ∙ was.index_is) (i.reads query parts was test) found.1 in
          let order = subst (IsMatchOf found.0 path c.args.stamp.now) c.in-Before.is matched in
          subst (λ k. ArePassedFor parts.names (k + 1) path) (sym e.rest.1)
          (passed_next parts.names id path found.0 found.1 order (i.passed query parts was test));
      count = e.rest.2 ∙ same;
      rest = (e.rest.0.0 ∙ i.rest.0, e.rest.0.1 ∙ i.rest.1, e.rest.0.2 ∙ i.rest.2);
    }

pub returns-in-Found-clause-found : goal.returns-in-Found-clause-found
returns-in-Found-clause-found g c query parts was =
    let i = c.names.invariant in
    let e = c.in_ok-next_match.ensures in
    let id = c.names.self.id in
    let path = c.args.path.now in
    let test = c.names-test.true in
    let same = i.count in
    let bound = was.count in
    let found = some_name parts.names id (omega (arith, test, same, bound)) in
    let matched = subst (IsMatchOf found.0 path c.args.stamp.now) c.in-Found.is
    (e.matches was.index found.0 parts (i.rest.0 ∙ was.index_is) (i.reads query parts was test) found.1) in
    let passed = passed_at parts.names id path found.0 found.1 matched.0 (i.passed query parts was test) in
    subst (λ k. IsReached parts k path c.args.stamp.now c.in-Found.kind) (sym e.rest.1)
    (found.0, found.1, passed found.0 found.1, matched.1)

pub returns-in-Found-clause-reads : goal.returns-in-Found-clause-reads
returns-in-Found-clause-reads g c query parts was =
    let i = c.names.invariant in
    let e = c.in_ok-next_match.ensures in
    let id = c.names.self.id in
    let path = c.args.path.now in
    let test = c.names-test.true in
    let same = i.count in
    let bound = was.count in
    let found = some_name parts.names id (omega (arith, test, same, bound)) in
    let matched = subst (IsMatchOf found.0 path c.args.stamp.now) c.in-Found.is
    (e.matches was.index found.0 parts (i.rest.0 ∙ was.index_is) (i.reads query parts was test) found.1) in
    still_reads g.S.Store.model query parts c.args.self.now c.next_match.new.self
    (e.rest.0.0 ∙ i.rest.0, e.rest.0.1 ∙ i.rest.1, e.rest.0.2 ∙ i.rest.2) (e.rest.2 ∙ same) was
    (λ below. e.reads was.index parts (i.rest.0 ∙ was.index_is) (i.reads query parts was test))
    (λ below. subst (ArePassed parts.names) (sym e.rest.1)
    (passed_at parts.names id path found.0 found.1 matched.0 (i.passed query parts was test)))

pub returns-in-Other-clause-reads : goal.returns-in-Other-clause-reads
returns-in-Other-clause-reads g c query parts was =
    let i = c.names.invariant in
    let e = c.in_ok-next_match.ensures in
    let id = c.names.self.id in
    let path = c.args.path.now in
    let test = c.names-test.true in
    let same = i.count in
    let bound = was.count in
    let found = some_name parts.names id (omega (arith, test, same, bound)) in
    let matched = subst (IsMatchOf found.0 path c.args.stamp.now) c.in-Other.is
    (e.matches was.index found.0 parts (i.rest.0 ∙ was.index_is) (i.reads query parts was test) found.1) in
    still_reads g.S.Store.model query parts c.args.self.now c.next_match.new.self
    (e.rest.0.0 ∙ i.rest.0, e.rest.0.1 ∙ i.rest.1, e.rest.0.2 ∙ i.rest.2) (e.rest.2 ∙ same) was
    (λ below. e.reads was.index parts (i.rest.0 ∙ was.index_is) (i.reads query parts was test))
    (λ below. subst (ArePassed parts.names) (sym e.rest.1)
    (passed_at parts.names id path found.0 found.1 matched (i.passed query parts was test)))
