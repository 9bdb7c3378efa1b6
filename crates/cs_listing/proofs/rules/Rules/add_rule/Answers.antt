use Rattle.std.proofs.Common.{refl, sym, ◌∙◌}
use Rattle.cs_listing.proofs.RuleLemmas.{rule_added}
use Rattle.cs_listing.proofs.rules.Rules.add_rule.Goals as goal

pub returns : goal.returns
returns c =
    rule_added c.args.text.now c.without_last-glob_text.result.now c.args.self.now.rules.items c.push.new.self.rules.items _
    c.without_last-glob_text.ensures (sym c.is_empty.ensures ∙ c.if-is_empty.false) refl c.in_ok-glob.ensures c.in_ok-push.ensures
