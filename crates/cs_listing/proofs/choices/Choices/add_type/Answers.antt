use Rattle.std.proofs.Common.{◌≡◌, cond, List, sym, ap, ◌∙◌, ◌++◌}
use Rattle.cs_listing.specs.Choices.{Settings}
use Rattle.cs_listing.specs.Rules.{Rule}
use Rattle.cs_listing.specs.RuleFiles.{rules_saying}
use Rattle.cs_listing.specs.Models.{chosen_in, rules_in}
use Rattle.cs_listing.specs.declared.rules.Decision.TheVariants.{Ignore, TakeBack}
use Rattle.cs_listing.proofs.choices.Choices.add_type.Goals as goal
use Rattle.cs_listing.proofs.choices.Choices.add_type.Goals.{then-is_left_out, else-is_left_out}

pub returns-clause-adds : goal.returns-clause-adds
returns-clause-adds c =
    let decision : c.if-is_left_out.decision ≡ cond c.args.is_left_out TakeBack Ignore =
    elim c.if-is_left_out.branch [
      | then-is_left_out w ↦ w.decision-is ∙ sym (ap (λ b. cond b TakeBack Ignore) w.if-is_left_out.true)
      | else-is_left_out w ↦ w.decision-is ∙ sym (ap (λ b. cond b TakeBack Ignore) w.if-is_left_out.false)
    ] in (
      c.as_bytes.result.now,
      ap (λ (types : List Rule). let s : Settings = record (chosen_in c.args.self.now) { types = types } in s)
          (c.in_ok-add_all.ensures ∙ ap (λ d. rules_in c.args.self.now.types ++ rules_saying d c.as_bytes.result.now) decision),
    )
