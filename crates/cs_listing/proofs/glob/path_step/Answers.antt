use Rattle.std.proofs.Common.{sym, ap, ◌∙◌, ◌∷◌, length, arith}
use Rattle.cs_listing.specs.Globs.{matches_name}
use Rattle.cs_listing.specs.MatchWork.{name_work}
use Rattle.cs_listing.specs.Models.{glob_of, element_of, tokens_of}
use Rattle.cs_listing.proofs.PathLemmas.{path_name}
use Rattle.cs_listing.proofs.WorkLemmas.{pair_of}
use Rattle.cs_listing.proofs.glob.path_step.Goals as goal

pub returns-then-matches_name-clause-says : goal.returns-then-matches_name-clause-says
returns-then-matches_name-clause-says c =
    let glob = c.in-Some.ensures.cases in
    path_name _ c.in-Some.later.now c.in-One.tokens.items _ _ _
    (ap glob_of glob.0 ∙ ap (λ e. element_of e ∷ glob_of c.in-Some.later.now) c.in-One.is) glob.1
    c.in-Some-split_first.ensures.cases
    (ap (λ ts. matches_name (tokens_of ts) c.in-Some-split_first.name.now.now) (sym c.deref.ensures.value)
    ∙ sym c.matches_name.ensures.matches ∙ c.if-matches_name.true)

pub returns-then-matches_name-clause-work : goal.returns-then-matches_name-clause-work
returns-then-matches_name-clause-work c =
    let glob = c.in-Some.ensures.cases in
    let pair = pair_of _ c.in-Some.later.now c.in-One.tokens.items _ _ _
    (ap glob_of glob.0 ∙ ap (λ e. element_of e ∷ glob_of c.in-Some.later.now) c.in-One.is) c.in-Some-split_first.ensures.cases in
    let own = ap (λ ts. name_work (tokens_of ts) (length c.in-Some-split_first.name.now.now)) c.deref.ensures.value in
    (omega (arith, c.matches_name.ensures.work.0, c.add.ensures), omega (arith, pair, own, c.matches_name.ensures.work.1, c.add.ensures))

pub returns-clause-work : goal.returns-clause-work
returns-clause-work c =
    let glob = c.in-Some.ensures.cases in
    let pair = pair_of _ c.in-Some.later.now c.in-One.tokens.items _ _ _
    (ap glob_of glob.0 ∙ ap (λ e. element_of e ∷ glob_of c.in-Some.later.now) c.in-One.is) c.in-Some-split_first.ensures.cases in
    let own = ap (λ ts. name_work (tokens_of ts) (length c.in-Some-split_first.name.now.now)) c.deref.ensures.value in
    (omega (arith, c.matches_name.ensures.work.0, c.add.ensures), omega (arith, pair, own, c.matches_name.ensures.work.1, c.add.ensures))
