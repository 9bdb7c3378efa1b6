use Rattle.std.proofs.Common.{rules, tests, sym, ap, ◌∙◌, not, ◌&&◌, eqb}
use Rattle.std.proofs.lemmas.List.{length-map}
use Rattle.std.proofs.lemmas.Iterator.{YieldsList-from_slice}
use Rattle.std.proofs.lemmas.Iterator.Search.{any_from_yields_List}
use Rattle.cs_tree.proofs.NameLemmas.{list_any-map}
use Rattle.cs_listing.specs.Globs.{is_nothing}
use Rattle.cs_listing.specs.Models.{token_of}
use Rattle.cs_listing.specs.declared.glob.Token.{Token}
use Rattle.cs_listing.proofs.glob.can_match_name.Goals as goal

pub returns-then-not-is_empty : goal.returns-then-not-is_empty
returns-then-not-is_empty c =
    let tokens = c.args.tokens.now in
    let any = any_from_yields_List (λ (token : Token). is_nothing (token_of token)) _ _ _ c.any.ensures.ran (YieldsList-from_slice tokens cc)
    (λ x b q k. search (rules, tests)) ∙ sym (list_any-map token_of is_nothing tokens) in
    search (rules, tests, any, length-map tokens token_of)
