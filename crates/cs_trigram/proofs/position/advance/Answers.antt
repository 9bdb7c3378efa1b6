use Rattle.std.proofs.lemmas.Bool.{eq-eqb, ne_eqb}
use Rattle.cs_trigram.proofs.PositionLemmas.{IsPositionAfter-push}
use Rattle.cs_trigram.proofs.position.advance.Goals as goal

pub returns-then-byte-eq10-clause-is_after : goal.returns-then-byte-eq10-clause-is_after
returns-then-byte-eq10-clause-is_after c = λ prefix is_after. rw (eq-eqb c.args.byte 10 c.if-byte-eq10.true) at
    (IsPositionAfter-push c.args.position prefix c.args.byte is_after)

pub returns-else-byte-eq10-clause-is_after : goal.returns-else-byte-eq10-clause-is_after
returns-else-byte-eq10-clause-is_after c = λ prefix is_after. rw (ne_eqb c.args.byte 10 c.if-byte-eq10.false) at
    (IsPositionAfter-push c.args.position prefix c.args.byte is_after)
