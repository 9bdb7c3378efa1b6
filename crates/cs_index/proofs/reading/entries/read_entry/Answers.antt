use Rattle.std.proofs.Common.{◌≡◌, ◌+◌, ◌∙◌, ap, List, ℕ, length, take, arith}
use Rattle.cs_tree.specs.Store.{part_of}
use Rattle.cs_index.specs.Opening.{entry_at}
use Rattle.cs_index.proofs.stored.ListPieces.{shown}
use Rattle.cs_index.proofs.stored.StoredEntries.{entry_part, filled}
use Rattle.cs_index.proofs.reading.entries.read_entry.Goals as goal

pub returns-clause-entry : goal.returns-clause-entry
returns-clause-entry g c bytes m within =
    let buf : List ℕ = c.fill_at.new.buf in
    let at : ℕ = c.args.at in
    let long = c.fill_at.ensures.len in
    let is = filled bytes buf at c.in_ok-fill_at.field-0
    (shown (λ b. take c.in_ok-fill_at.field-0 buf ≡ part_of b at (length buf)) (g.S.Store.model c.args.store.now) bytes
    m c.in_ok-fill_at.ensures.bytes) (omega (arith, long, within)) in
    c.entry_in.ensures
    ∙ ap (λ b. entry_at b 0) is
    ∙ entry_part bytes at (length buf) 0 (omega (arith, long))
    ∙ ap (entry_at bytes) (let z : at + 0 ≡ at = omega arith in z)
