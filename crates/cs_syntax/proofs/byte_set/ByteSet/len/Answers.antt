use Rattle.std.proofs.Common.{length, ◌∙◌, ap, sym}
use Rattle.cs_syntax.specs.Members.{count}
use Rattle.cs_syntax.proofs.ByteSetWordLemmas.{length-set_of_bits, ones_count}
use Rattle.cs_syntax.proofs.byte_set.ByteSet.len.Goals as goal

pub returns-clause-members : goal.returns-clause-members
returns-clause-members c = ones_count c.self.inside.words c.self.invariant ∙ ap count c.self.view_is

pub returns-clause-bytes : goal.returns-clause-bytes
returns-clause-bytes c = sym (ap length c.self.view_is) ∙ length-set_of_bits c.self.inside.words
