use Rattle.std.proofs.Common.{rules, tests, sym, ◌∙◌}
use Rattle.std.proofs.lemmas.Iterator.{YieldsList-from_slice}
use Rattle.std.proofs.lemmas.Iterator.Search.{all_from_yields_List}
use Rattle.std.proofs.lemmas.List.Folds.{list_all-map}
use Rattle.cs_listing.specs.Globs.{can_match_element}
use Rattle.cs_listing.specs.Models.{element_of}
use Rattle.cs_listing.specs.declared.glob.Element.{Element}
use Rattle.cs_listing.proofs.glob.can_match.Goals as goal

pub returns : goal.returns
returns c =
    let glob = c.args.glob.now in
    all_from_yields_List (λ (element : Element). can_match_element (element_of element)) _ _ _ c.all.ensures.ran (YieldsList-from_slice glob cc)
    (λ x b q k. search (rules, tests))
    ∙ sym (list_all-map can_match_element element_of glob)
