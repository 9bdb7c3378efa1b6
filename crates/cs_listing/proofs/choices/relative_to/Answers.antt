use Rattle.std.proofs.Common.{sym, ◌∙◌}
use Rattle.cs_listing.proofs.ChoiceLemmas.{is_within, below_is}
use Rattle.cs_listing.proofs.choices.relative_to.Goals as goal

pub slice_bounds-result-count : goal.slice_bounds-result-count
slice_bounds-result-count c =
    is_within c.args.folder.now c.args.path.now (sym c.is_below.ensures ∙ c.if-is_below.true)

pub slice_bounds-result-start : goal.slice_bounds-result-start
slice_bounds-result-start c =
    is_within c.args.folder.now c.args.path.now (sym c.is_below.ensures ∙ c.if-is_below.true)

pub returns-then-is_below : goal.returns-then-is_below
returns-then-is_below c =
    below_is c.args.folder.now c.args.path.now (sym c.is_below.ensures ∙ c.if-is_below.true)
