use Rattle.std.proofs.Common.{◌∙◌, [], ap, length, List, ℕ}
use Rattle.cs_index.proofs.writer.CodedStrings.{count_texts}
use Rattle.cs_index.proofs.writing.strings.Strings.len.Goals as goal

pub returns : goal.returns
returns c =
    let count = count_texts [] c.self.inside.codes.items c.self.inside.rests.items in
    c.len.ensures ∙ c.self.inside.codes.ok.0 ∙ count ∙ ap (λ (ts : List (List ℕ)). length ts) c.self.view_is
