use Rattle.std.proofs.Common.{◌∙◌, [], append-nil, sym}
use Rattle.std.proofs.lemmas.Bool.{false≢true}
use Rattle.cs_state.specs.StampedNames.{stamp_text}
use Rattle.cs_state.proofs.stamp_text.is_stamp_text.Goals as goal

pub returns-in-None : goal.returns-in-None
returns-in-None c = (λ no. absurd (false≢true no), λ is. absurd (c.in-None.ensures.none [] (is ∙ sym (append-nil (stamp_text c.args.stamp.now)))))
