use Rattle.std.proofs.Common.{ap, ◌∙◌}
use Rattle.cs_merge.proofs.Common.{is_covered, are_ascending, texts}
use Rattle.cs_tree.specs.PathSet as set
use Rattle.cs_merge.proofs.replacing.Cover.covers.Goals as goal

pub is_covered-requires : goal.is_covered-requires
is_covered-requires c = ap are_ascending (ap texts c.deref.ensures.value) ∙ c.self.invariant

pub returns : goal.returns
returns c =
    c.is_covered.ensures ∙ ap (λ paths. is_covered (set.from_list paths) c.args.name.now) (ap texts c.deref.ensures.value ∙ c.self.view_is)
