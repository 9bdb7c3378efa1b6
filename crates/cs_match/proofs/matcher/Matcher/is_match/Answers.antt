use Rattle.std.proofs.Common.{◌↔◌, length, take, subst}
use Rattle.std.specs.Prelude.{IsTrue}
use Rattle.cs_syntax.specs.Matching.{HasMatch}
use Rattle.cs_match.specs.Automaton.{Automaton}
use Rattle.cs_match.specs.Listing.{automaton_of}
use Rattle.cs_match.specs.Work.{WorksWithin, line_work}
use Rattle.cs_match.proofs.matcher.Matcher.is_match.Goals as goal

pub returns-clause-found : goal.returns-clause-found
returns-clause-found c =
    subst (λ (a : Automaton). IsTrue c.is_match.result ↔ HasMatch a.tree c.args.line.now) c.self.view_is c.is_match.ensures.found

pub returns-clause-work : goal.returns-clause-work
returns-clause-work c =
    subst (λ (a : Automaton). WorksWithin (line_work a.tree (length c.args.line.now)) a
    (automaton_of (record c.self.inside.lister { dfa = c.is_match.new.self; steps = c.is_match.new.steps }) (take c.self.inside.listed c.self.inside.ends.items))) c.self.view_is c.is_match.ensures.work.1
