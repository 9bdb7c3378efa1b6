use Rattle.std.proofs.Common.{◌≡◌, ◌+◌, ◌-◌, ◌∙◌, ap, ℕ, length, arith}
use Rattle.cs_index.specs.Opening.{number_at}
use Rattle.cs_index.proofs.stored.NamePieces.{part_prefix}
use Rattle.cs_index.proofs.stored.StoredEntries.{number_part}
use Rattle.cs_index.proofs.reading.window.Window.number.Goals as goal

pub returns-clause-number : goal.returns-clause-number
returns-clause-number g c bytes m is within =
    let at : ℕ = c.args.at in
    let long = c.in_ok-reach.ensures.long bytes m is within in
    c.read_number.ensures
    ∙ ap (λ bs. number_at bs 0) (c.from-part.ensures
    ∙ part_prefix bytes c.reach.new.self at (c.in_ok-reach.ensures.piece bytes m is) c.in_ok-reach.ensures.from
    c.in_ok-reach.ensures.within)
    ∙ number_part bytes at (c.reach.new.self.start + length c.reach.new.self.piece.items - at) 0 (omega (arith, long))
    ∙ ap (number_at bytes) (let z : at + 0 ≡ at = omega arith in z)
