use Rattle.std.proofs.Common.{◌%◌, eqb, ◌∙◌, ap, sym}
use Rattle.std.proofs.lemmas.Nat.Bits.{shr_and_one}
use Rattle.cs_syntax.specs.Matching.{member}
use Rattle.cs_syntax.proofs.ByteSetWordLemmas.{set_of_bits_at}
use Rattle.cs_syntax.proofs.byte_set.ByteSet.contains.Goals as goal

pub returns : goal.returns
returns c =
    ap (λ x. eqb x 1) (shr_and_one _ (c.args.byte % 64))
    ∙ sym (set_of_bits_at c.self.inside.words c.args.byte c.ranges.byte.fits)
    ∙ ap (λ set. member set c.args.byte) c.self.view_is
