use Rattle.std.proofs.Common.{arith}
use Rattle.cs_syntax.proofs.CountedRepeatLemmas.{repeat_as_written, repeat_out_of_order}
use Rattle.cs_syntax.proofs.laws.counted_repeats_parse_as_written.Goals as goal

pub returns : goal.returns
returns c = record {
  reads = λ b n m fold literal ordered bound. repeat_as_written b n m fold literal (omega (arith, ordered, bound))
      (omega (arith, bound)) ordered bound;
  syntax = λ b n m fold literal n_small m_small apart. repeat_out_of_order b n m fold literal n_small m_small apart;
}
