use Rattle.std.proofs.Common.{◌≡◌, ◌-◌, ◌∙◌, ap, refl, inl, inr, arith, ℕ, List, length, take, drop}
use Rattle.std.specs.Prelude.{min}
use Rattle.std.proofs.lemmas.Bool.{cases_lt}
use Rattle.cs_tree.specs.Store.{part_of}
use Rattle.cs_index.proofs.stored.SectionOffsets.{header_part, tail_part}
use Rattle.cs_index.proofs.reading.section_offsets.offsets_in_bytes.Goals as goal

header : (bytes : List ℕ) (n : ℕ) → n ≡ min (length bytes) 16 → take n bytes ≡ part_of bytes 0 16
header bytes n is = header_part bytes n (elim (cases_lt (length bytes) 16)
    [ inl less ↦ inl (omega (arith, less, is)) | inr more ↦ inr (omega (arith, more, is)) ]) (omega (arith, is))

tail : (bytes : List ℕ) (k : ℕ) → k ≡ length bytes - 36 → take (length bytes - k) (drop k bytes) ≡ part_of bytes (length bytes - 36) 36
tail bytes k is = tail_part bytes k (omega (arith, is)) ∙ ap (λ n. part_of bytes n 36) is

pub returns-clause-slices : goal.returns-clause-slices
returns-clause-slices c =
    c.offsets_of.ensures.slices c.args.bytes.now refl (header c.args.bytes.now c.min.result c.min.ensures)
    (tail c.args.bytes.now c.saturating_sub.result c.saturating_sub.ensures)
