use Rattle.std.proofs.Common.{Vec, Global, ◌++◌, subst}
use Rattle.cs_trigram.specs.EndStrings.{AreCoarser}
use Rattle.cs_trigram.specs.declared.end_strings.EndString.{EndString}
use Rattle.cs_trigram.proofs.end_strings.add_end_strings.Goals as goal

pub returns : goal.returns
returns c =
    subst (λ (v : Vec EndString Global). AreCoarser c.in_ok-both.both.items (v.items ++ c.args.more.items))
    c.replace-before.ensures.value c.in_ok-both.ensures
