use Rattle.cs_syntax.proofs.QuoteMetaLemmas.{ascii_parses, text_parses}
use Rattle.cs_syntax.proofs.laws.quoted_texts_parse_as_literals.Goals as goal

pub returns : goal.returns
returns c = record { ascii = ascii_parses; characters = text_parses }
