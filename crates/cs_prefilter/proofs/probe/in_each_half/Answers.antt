use Rattle.std.proofs.Common.{◌%◌, ◌++◌, get_or, refl, ◌∙◌, arith}
use Rattle.std.proofs.lemmas.List.{get_or_append_left}
use Rattle.std.proofs.lemmas.List.FromFn.{get_or-map-range_with_len}
use Rattle.cs_prefilter.proofs.probe.in_each_half.Goals as goal

pub returns : goal.returns
returns c =
    let table = c.args.table.now in
    record {
      long = refl;
      each = λ k below.
          get_or-map-range_with_len (λ j. get_or (table ++ table) (j % 16) 0) 0 32 k k 0 below (omega arith)
          ∙ get_or_append_left table table 0 (k % 16) (omega arith);
    }
