use Rattle.std.proofs.Common.{◌||◌, length, sym, ◌∙◌, ap, rules}
use Rattle.cs_syntax.specs.Matching.{member}
use Rattle.cs_syntax.proofs.ByteSetLemmas.{union_of_bytes}
use Rattle.cs_syntax.proofs.ByteSetWordLemmas.{length-set_of_bits}
use Rattle.cs_syntax.proofs.byte_set.ByteSet.union.Goals as goal

pub returns : goal.returns
returns c =
    let s = c.args.self.now in
    let t = c.args.other.now in
    c.of.ensures (λ b. member s b || member t b) (search rules)
    ∙ union_of_bytes s t (ap length (sym c.self.view_is) ∙ length-set_of_bits c.self.inside.words)
    (ap length (sym c.other.view_is) ∙ length-set_of_bits c.other.inside.words)
