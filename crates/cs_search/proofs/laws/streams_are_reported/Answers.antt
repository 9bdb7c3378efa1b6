use Rattle.cs_search.proofs.StyleStreamLemmas.{stream_reported}
use Rattle.cs_search.proofs.laws.streams_are_reported.Goals as goal

pub returns : goal.returns
returns c = λ style page has_match ended text given later streamed options.
    stream_reported style page has_match ended text given later streamed options
