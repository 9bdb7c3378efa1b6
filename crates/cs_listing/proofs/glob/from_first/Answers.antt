use Rattle.std.proofs.Common.{◌∷◌, sym, ap, ◌∙◌}
use Rattle.std.proofs.lemmas.List.{take_rest}
use Rattle.cs_listing.specs.Globs.{star, matches_name}
use Rattle.cs_listing.specs.Models.{tokens_of}
use Rattle.cs_listing.proofs.StarLemmas.{up_to_byte}
use Rattle.cs_listing.proofs.glob.from_first.Goals as goal

pub returns-clause-matches : goal.returns-clause-matches
returns-clause-matches c =
    let name = c.args.name.now in
    let n = c.unwrap_or-skipped.result in
    let later = c.in-Some-Byte-default.field-0-1.now in
    up_to_byte c.args.tokens.now later c.in-Some-Byte-default.byte n name c.memchr.result
    (ap tokens_of (c.in-Some-Byte-default.ensures.cases.0 ∙ ap (λ t. t ∷ later) c.in-Some-Byte-default.field-0-0-is)) c.memchr.ensures
    c.unwrap_or-skipped.ensures
    ∙ ap (matches_name (star ∷ tokens_of c.args.tokens.now)) (sym (take_rest name n))
