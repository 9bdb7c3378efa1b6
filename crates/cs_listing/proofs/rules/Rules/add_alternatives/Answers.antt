use Rattle.std.proofs.Common.{rules, ◌++◌, map, take, ap, ◌∙◌, sym}
use Rattle.std.specs.Prelude.{filter_map}
use Rattle.cs_tree.proofs.NameLemmas.{mapped_more}
use Rattle.cs_listing.specs.RuleFiles.{rule_saying}
use Rattle.cs_listing.specs.Models.{rule_of, texts_of}
use Rattle.cs_listing.proofs.RuleLemmas.{text_more}
use Rattle.cs_listing.proofs.BraceLemmas.{text_of}
use Rattle.cs_listing.proofs.rules.Rules.add_alternatives.Goals as goal

pub loop-glob-preserved : goal.loop-glob-preserved
loop-glob-preserved c =
    let globs = c.deref-glob-items.result.now in
    text_more c.args.decision c.args.self.now.rules.items c.loop-glob.self.rules.items c.add_rule.new.self.rules.items
    (texts_of (take c.loop-glob.glob-index globs))
    c.glob-item.result.items c.loop-glob.invariant (search rules)
    ∙ ap (λ ts. map rule_of c.args.self.now.rules.items ++ filter_map (rule_saying c.args.decision) ts)
    (sym (mapped_more text_of globs c.loop-glob.glob-index c.glob-item.result (search rules) c.glob-item.is))
