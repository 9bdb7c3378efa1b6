use Rattle.std.proofs.Common.{◌≡◌, true, false, refl, nat_eq, length, sym, ◌∙◌, arith, append-nil, eq-eqb, ne_eqb}
use Rattle.cs_match.specs.Table.{found}
use Rattle.cs_match.proofs.LaneLemmas.{has_room, IsLane-step}
use Rattle.cs_match.proofs.lanes.Lane.step.Goals as goal

pub note-requires : goal.note-requires
note-requires c =
    has_room c.args.table c.requires.rows c.args.block.now c.type_inv.block c.args.at (length c.args.ends.now) c.requires.within
    c.args.self.now c.args.ends.now c.requires.lane c.requires.room (sym c.next-self.ensures ∙ c.if-self-eq-FOUND.true)

pub returns-then-self-eq-FOUND-clause-lane : goal.returns-then-self-eq-FOUND-clause-lane
returns-then-self-eq-FOUND-clause-lane c =
    let h = c.note.ensures in
    let is : nat_eq c.note.new.self.number found ≡ true =
    eq-eqb c.note.new.self.number found (h.same.1 ∙ c.if-self-eq-FOUND.true) in
    IsLane-step c.args.table c.requires.rows c.args.block.now c.type_inv.block c.args.at c.requires.within c.args.self.now
    c.note.new.self c.args.ends.now c.note.new.ends c.requires.lane h.same.0 (h.same.1 ∙ c.next-self.ensures)
    (rw is h.count) (rw is h.listed)

pub returns-else-self-eq-FOUND-clause-lane : goal.returns-else-self-eq-FOUND-clause-lane
returns-else-self-eq-FOUND-clause-lane c =
    let is_not : nat_eq c.next-self.result found ≡ false = ne_eqb c.next-self.result found c.if-self-eq-FOUND.false in
    IsLane-step c.args.table c.requires.rows c.args.block.now c.type_inv.block c.args.at c.requires.within c.args.self.now
    _ c.args.ends.now c.args.ends.now c.requires.lane refl c.next-self.ensures
    (rw is_not (omega arith)) (rw is_not (sym (append-nil _)))
