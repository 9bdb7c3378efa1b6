use Rattle.std.proofs.Common.{rules}
use Rattle.std.specs.Prelude.{string_bytes}
use Rattle.cs_args.proofs.ReadOptionsLemmas.{map-append_copy}
use Rattle.cs_args.proofs.args.copies.Goals as goal

pub loop-text-preserved : goal.loop-text-preserved
loop-text-preserved c =
    map-append_copy string_bytes c.args.texts.now c.loop-text.copies.items c.push.new.self.items c.loop-text.text-index
    c.in_ok-clone.field-0 c.text-item.result (search rules) c.text-item.is (search rules) (search rules) c.loop-text.invariant
