use Rattle.std.proofs.Common.{◌∙◌, false, ap, sym}
use Rattle.std.specs.Prelude.{string_bytes}
use Rattle.cs_project.specs.Searched.{binary_as}
use Rattle.cs_known.specs.Skipped.{leaves_out, prints_unmatched}
use Rattle.cs_learned.specs.ClosedStates.{AsksFor}
use Rattle.cs_learned.proofs.StateKnowledgeLemmas.{still_known}
use Rattle.cs_learned.proofs.state_knowledge.StateKnowledgeKnowledge.begin.Goals as goal

pub returns-clause-begun : goal.returns-clause-begun
returns-clause-begun g c tree asked held =
    let asks : AsksFor c.new.result c.in_ok-query.query tree = (
      asked.search,
      record {
        found = asked.found;
        loses = λ line set has trigrams. c.in_ok-query.ensures.sound line set ((asked.lines line).0 has) trigrams;
      },
      record {
        unmatched = c.new.ensures.unmatched ∙ ap prints_unmatched (sym asked.options);
        binary = c.new.ensures.binary ∙ ap leaves_out (c.met_binaries.ensures ∙ ap (λ b. binary_as b false) (sym asked.binary));
      },
    ) in
    still_known g.S.Store.model _ _ _ tree c.args.self.now.known c.prepare.new.self.known c.prepare.ensures.known
    (c.prepare.ensures.unread (string_bytes c.args.self.now.known.root) tree asks held.0) held.1
