use Rattle.std.proofs.Common.{◌+◌, ◌-◌, ◌*◌, ℕ, inl, inr, arith}
use Rattle.std.proofs.lemmas.Bool.{cases_lt}
use Rattle.cs_index.proofs.stored.SectionPieces.{part_shown, part_within}
use Rattle.cs_index.proofs.reading.stored_sections.read_numbers.Goals as goal

pub returns-clause-numbers : goal.returns-clause-numbers
returns-clause-numbers g c bytes m =
    let s = c.args.starts.now in
    let room : ℕ = s.list_index - s.name_index in
    let at : ℕ = 4 * c.args.done in
    let n : ℕ = 4 * (c.args.count + 1) in
    part_shown (g.S.Store.model c.args.store.now) bytes _ c.read_part.result (s.name_index + at) c.min.result m c.read_part.ensures.bytes
    (part_within bytes s.name_index room at n c.min.result (elim (cases_lt (room - at) n) [
      | inl less ↦ inr (omega (arith, less, c.min.ensures, c.saturating_sub-room.ensures), omega (arith, less))
      | inr more ↦ inl (omega (arith, more, c.min.ensures, c.saturating_sub-room.ensures), more)
    ]))
