use Rattle.std.proofs.Common.{◌∙◌, arith}
use Rattle.std.proofs.lemmas.Result.{IfOk-weaker}
use Rattle.cs_index.proofs.writer.BuilderAdd.{built_indexable}
use Rattle.cs_index.proofs.encoding.FileMapEncoding.{encoding_built}
use Rattle.cs_index.proofs.common.ResultClauses.{both_ok}
use Rattle.cs_index.proofs.writing.builder.Builder.finish.Goals as goal

pub returns-clause-encoding : goal.returns-clause-encoding
returns-clause-encoding c = IfOk-weaker c.finish_within.result _ _
    (λ index is. is ∙ encoding_built c.args.self c.finish_within.ensures.built) c.finish_within.ensures.ok

pub returns-clause-indexable : goal.returns-clause-indexable
returns-clause-indexable c =
    both_ok c.finish_within.result _ _ _
    (λ index is within. built_indexable c.args.self index.items c.finish_within.ensures.built is (omega (arith, within)))
    c.finish_within.ensures.ok c.finish_within.ensures.within
