use Rattle.std.proofs.Common.{◌≡◌, true, ◌&&◌, ap, sym, ◌∙◌}
use Rattle.cs_merge.proofs.Common.{list_all, is_covered, paths_in}
use Rattle.cs_index.specs.OpenedParts.{are_covered}
use Rattle.cs_merge.proofs.CoverLemmas.{covered_in, all_first}
use Rattle.cs_merge.proofs.replacing.is_under.Goals as goal

pub returns-in_default : goal.returns-in_default
unfolding are_covered
returns-in_default c =
    sym (sym c.names.invariant.left
    ∙ all_first (λ name. is_covered (paths_in c.args.index.now) name) c.names.name-iterator c.next.new.self
    c.in-Some.name.now c.in-Some.ensures.steps (covered_in c.args.index.now c.in-Some.name.now
    ∙ sym c.in_default.ensures.covers))

pub names-preserved : goal.names-preserved
names-preserved c =
    let here : is_covered (paths_in c.args.index.now) c.in-Some.name.now ≡ true =
    covered_in c.args.index.now c.in-Some.name.now ∙ sym c.in-Some-next_cover.ensures.covers in
    record {
      left = sym (ap (list_all (λ name. is_covered (paths_in c.args.index.now) name)) c.in-Some.ensures.steps
          ∙ ap (λ b. b && list_all (λ name. is_covered (paths_in c.args.index.now) name) c.next.new.self) here)
          ∙ c.names.invariant.left;
      rest = c.in-Some-next_cover.ensures.rest;
      last = c.in-Some-next_cover.ensures.last;
    }

pub returns : goal.returns
unfolding are_covered
returns c =
    sym (sym c.names.invariant.left ∙ ap (list_all (λ name. is_covered (paths_in c.args.index.now) name)) c.in-None.ensures.steps.0)
