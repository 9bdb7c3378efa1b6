use Rattle.std.proofs.Common.{◌&&◌, sym, ap, ◌∙◌, arith}
use Rattle.cs_listing.specs.Globs.{one, matches_path}
use Rattle.cs_listing.specs.Models.{tokens_of, element_of, glob_of, names}
use Rattle.cs_listing.proofs.LastElementLemmas.{split_of, last_first, last_first_paid}
use Rattle.cs_listing.proofs.glob.matches_glob.Goals as goal

pub returns-then-not-matches_last-clause-work : goal.returns-then-not-matches_last-clause-work
returns-then-not-matches_last-clause-work c =
    let last = c.in-Some-One-default in
    let elements = last.elements.now in
    let tokens = c.deref.result.now in
    let above = c.in-Some.above.now in
    let name = c.in-Some.name.now in
    let parts = split_of c.args.glob.now elements last.field-0-0.now tokens c.args.path.now above name last.ensures.cases
    (ap element_of last.field-0-0-is ∙ ap (λ ts. one (tokens_of ts)) (sym c.deref.ensures.value)) c.in-Some.ensures.cases in
    let paid = last_first_paid c.args.glob.now elements tokens c.args.path.now above name.now parts in
    (omega (arith, c.matches_last.ensures.work.0), omega (arith, paid, c.matches_last.ensures.work.1))

pub returns-then-not-matches_last-clause-matches : goal.returns-then-not-matches_last-clause-matches
returns-then-not-matches_last-clause-matches c =
    let last = c.in-Some-One-default in
    let elements = last.elements.now in
    let tokens = c.deref.result.now in
    let above = c.in-Some.above.now in
    let name = c.in-Some.name.now in
    let parts = split_of c.args.glob.now elements last.field-0-0.now tokens c.args.path.now above name last.ensures.cases
    (ap element_of last.field-0-0-is ∙ ap (λ ts. one (tokens_of ts)) (sym c.deref.ensures.value)) c.in-Some.ensures.cases in
    sym (last_first c.args.glob.now elements tokens c.args.path.now above name.now parts
    ∙ ap (λ t. t && matches_path (glob_of elements) (names above)) (sym c.matches_last.ensures.matches ∙ c.if-not-matches_last.true))

pub returns-clause-work : goal.returns-clause-work
returns-clause-work c =
    let last = c.in-Some-One-default in
    let elements = last.elements.now in
    let tokens = c.deref.result.now in
    let above = c.in-Some.above.now in
    let name = c.in-Some.name.now in
    let parts = split_of c.args.glob.now elements last.field-0-0.now tokens c.args.path.now above name last.ensures.cases
    (ap element_of last.field-0-0-is ∙ ap (λ ts. one (tokens_of ts)) (sym c.deref.ensures.value)) c.in-Some.ensures.cases in
    let paid = last_first_paid c.args.glob.now elements tokens c.args.path.now above name.now parts in (
      omega (arith, c.matches_last.ensures.work.0, c.matches_path.ensures.work.0),
      omega (arith, paid, c.matches_last.ensures.work.1, c.matches_path.ensures.work.1),
    )

pub returns-clause-matches : goal.returns-clause-matches
returns-clause-matches c =
    let last = c.in-Some-One-default in
    let elements = last.elements.now in
    let tokens = c.deref.result.now in
    let above = c.in-Some.above.now in
    let name = c.in-Some.name.now in
    let parts = split_of c.args.glob.now elements last.field-0-0.now tokens c.args.path.now above name last.ensures.cases
    (ap element_of last.field-0-0-is ∙ ap (λ ts. one (tokens_of ts)) (sym c.deref.ensures.value)) c.in-Some.ensures.cases in
    c.matches_path.ensures.matches
    ∙ sym (last_first c.args.glob.now elements tokens c.args.path.now above name.now parts
    ∙ ap (λ t. t && matches_path (glob_of elements) (names above)) (sym c.matches_last.ensures.matches ∙ c.if-not-matches_last.false))
