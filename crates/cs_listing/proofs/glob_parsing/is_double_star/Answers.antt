use Rattle.std.proofs.Common.{rules, tests, sym, ◌∙◌}
use Rattle.std.proofs.lemmas.Iterator.{YieldsList-from_slice}
use Rattle.std.proofs.lemmas.Iterator.Search.{all_from_yields_List}
use Rattle.cs_listing.specs.GlobText.{is_star}
use Rattle.cs_listing.specs.Models.{token_of}
use Rattle.cs_listing.proofs.TokenLemmas.{stars_all}
use Rattle.cs_listing.proofs.glob_parsing.is_double_star.Goals as goal

pub returns-then-tokens-ge2 : goal.returns-then-tokens-ge2
returns-then-tokens-ge2 c =
    let tokens = c.args.tokens.now in
    let all = all_from_yields_List (λ t. is_star (token_of t)) _ _ c.all.result c.all.ensures.ran (YieldsList-from_slice tokens cc)
    (λ x b q k. search (rules, tests)) in
    all ∙ sym (stars_all tokens c.if-tokens-ge2.true)
