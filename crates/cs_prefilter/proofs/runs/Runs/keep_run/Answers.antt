use Rattle.std.proofs.Common.{Bool, List, ◌∙◌, ap}
use Rattle.std.specs.Prelude.{slice_index}
use Rattle.std.proofs.lemmas.Result.{on_ok_weaker}
use Rattle.cs_syntax.specs.Matching.{member}
use Rattle.cs_prefilter.specs.WordAt.{with_newline}
use Rattle.cs_prefilter.proofs.EdgeLemmas.{small_bytes}
use Rattle.cs_prefilter.proofs.RunLemmas.{is_a_byte, to_newline}
use Rattle.cs_prefilter.proofs.runs.Runs.keep_run.Goals as goal

pub returns-in-Trigrams-clause-best : goal.returns-in-Trigrams-clause-best
returns-in-Trigrams-clause-best c = on_ok_weaker c.keep_before.result (λ best line j e has.
    let byte = slice_index (with_newline line) j in
    best line j e (ap (λ (set : List Bool). member set byte) c.all.ensures ∙ is_a_byte byte (small_bytes line e.is_line j)) has)
    c.keep_before.ensures.best

pub returns-in_default-clause-best : goal.returns-in_default-clause-best
returns-in_default-clause-best c = on_ok_weaker c.keep.result (λ best line j e has.
    best line j (to_newline line c.args.self.now j e) has) c.keep.ensures.best
