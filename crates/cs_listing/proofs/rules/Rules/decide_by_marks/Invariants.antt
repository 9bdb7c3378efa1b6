use Rattle.cs_listing.specs.Models.{names}
use Rattle.cs_listing.proofs.MarkLemmas.{HasAsked}
use Rattle.cs_listing.proofs.rules.Rules.decide_by_marks.Given as goal

-- the later rules do not apply
abbrev pub invariant-rules : goal.invariant-rules
invariant-rules l = HasAsked l.self.rules.items (names l.path) l.is_folder l.at l.fn.steps.count l.steps.count

abbrev pub decreases-rules : goal.decreases-rules
decreases-rules l = l.at
