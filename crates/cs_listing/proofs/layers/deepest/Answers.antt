use Rattle.std.proofs.Common.{length, drop, sym, ap, ◌∙◌, arith}
use Rattle.std.proofs.lemmas.List.{take_rest}
use Rattle.cs_listing.specs.Rules.{decide}
use Rattle.cs_listing.specs.MatchWork.{rules_work}
use Rattle.cs_listing.specs.Models.{names}
use Rattle.cs_listing.proofs.LayerLemmas.{deepest_says, deepest_passes, files_last}
use Rattle.cs_listing.proofs.layers.deepest.Goals as goal

pub returns-then-is_some-clause-says : goal.returns-then-is_some-clause-says
returns-then-is_some-clause-says c =
    let path = c.args.path.now in
    let above = c.in-Some.above.now in
    let said = (rw (take_rest path (length above)) at c.decide-said.ensures.decides) in
    sym (c.folders.invariant.same
    ∙ deepest_says c.args.file c.args.is_folder c.folders.upper.now above c.in-Some.folder.now path c.decide-said.result
    c.in-Some.ensures.cases (said ∙ ap (λ rules. decide rules (names (drop (length above) path)) c.args.is_folder) c.rules.ensures) (sym c.is_some.ensures ∙ c.if-is_some.true))

pub returns-then-is_some-clause-work : goal.returns-then-is_some-clause-work
returns-then-is_some-clause-work c =
    let path = c.args.path.now in
    let above = c.in-Some.above.now in
    let inv = c.folders.invariant in
    let last = files_last c.args.file c.folders.upper.now above c.in-Some.folder.now path c.in-Some.ensures.cases in
    let asked = ap (λ rules. rules_work rules (names (drop (length above) path))) c.rules.ensures in
    let work = (rw (take_rest path (length above)) at c.decide-said.ensures.work) in
    (omega (arith, inv.rises, work.0), omega (arith, inv.work, work.1, last, asked))

pub folders-preserved : goal.folders-preserved
folders-preserved c =
    let path = c.args.path.now in
    let above = c.in-Some.above.now in
    let inv = c.folders.invariant in
    let last = files_last c.args.file c.folders.upper.now above c.in-Some.folder.now path c.in-Some.ensures.cases in
    let asked = ap (λ rules. rules_work rules (names (drop (length above) path))) c.rules.ensures in
    let work = (rw (take_rest path (length above)) at c.decide-said.ensures.work) in
    let said = (rw (take_rest path (length above)) at c.decide-said.ensures.decides) in
    record {
      same = inv.same
          ∙ deepest_passes c.args.file c.args.is_folder c.folders.upper.now above c.in-Some.folder.now path c.decide-said.result
          c.in-Some.ensures.cases (said ∙ ap (λ rules. decide rules (names (drop (length above) path)) c.args.is_folder) c.rules.ensures) (sym c.is_some.ensures ∙ c.if-is_some.false);
      within = omega (arith, inv.within, c.in-Some.ensures.cases.1);
      rises = omega (arith, inv.rises, work.0);
      work = omega (arith, inv.work, work.1, last, asked);
    }
