-- The section offsets of a stored index.
use Rattle.std.proofs.Common.{◌≡◌, ℕ, ◌+◌, ◌-◌, ◌≤◌, true, false, cond, ◌&&◌, eqb, ltb, leb, List, length, take, drop, Result, Ok, Err, IfOk, IfErr, refl, sym, ap, ◌∙◌, inl, inr, arith, length-drop, ◌⊎◌}
use Rattle.cs_index.proofs.stored.StoredEntries.{number_part}
use Rattle.std.proofs.lemmas.Bool.{cases_Bool, leb-true, le-leb}
use Rattle.std.proofs.lemmas.List.{drop-drop, take_rest, take-take, take_all}
use Rattle.std.specs.List.{starts_with, ends_with}
use Rattle.std.specs.Cmp.Lexicographic.{pointwise}
use Rattle.std.specs.Prelude.{nat_eq}
use Rattle.cs_tree.specs.Store.{part_of}
use Rattle.cs_index.specs.declared.fault.IndexFault.{IndexFault}
use Rattle.cs_index.specs.declared.fault.IndexFault.TheVariants.{BadMagic, BadTrailer, BadOffsets}
use Rattle.cs_index.specs.declared.reading.section_offsets.SectionOffsets.{SectionOffsets}
use Rattle.cs_index.specs.Encoding.{magic, trailer_magic}
use Rattle.cs_index.specs.Opening.{are_section_offsets, split_at_offsets, split_before, split_of, has_trailer, number_at}
use Rattle.cs_index.specs.Stored.{sections_at}
use Rattle.cs_index.specs.StoredOpening.{AreDisorderedOffsets, AreTrailerOffsets, IsSplitAt, is_tail}
use Rattle.cs_index.proofs.decoding.IndexFields.{split_there, no_magic, no_trailer}

-- The first and the last bytes of an index of some length.
pub record AreEnds (bytes header tail : List ℕ) (len : ℕ) : Type 0 where
  pub long : length bytes ≡ len
  pub header_is : header ≡ part_of bytes 0 16
  pub tail_is : tail ≡ part_of bytes (len - 36) 36

module _ (bytes header tail : List ℕ) (len : ℕ) (ends : AreEnds bytes header tail len) where
  magic_at_start : starts_with nat_eq bytes magic ≡ starts_with nat_eq header magic
  magic_at_start = ap (pointwise eqb magic) (sym (take-take 16 16 bytes (omega arith)) ∙ ap (take 16) (sym ends.header_is))

  pub wrong_magic : starts_with nat_eq header magic ≡ false → split_of bytes ≡ Err BadMagic
  wrong_magic h = no_magic bytes (magic_at_start ∙ h)

  tail_rest : 36 ≤ len → tail ≡ drop (len - 36) bytes
  tail_rest h =
      let all : length bytes - (len - 36) ≡ 36 = let l = ends.long in omega (arith, h, l) in
      ends.tail_is ∙ ap (λ n. take n (drop (len - 36) bytes)) (sym all) ∙ take_rest bytes (len - 36)

  tail_long : 36 ≤ len → length tail ≡ 36
  tail_long h = let l = length-drop (len - 36) bytes in let m = ends.long in let t = ap length (tail_rest h) in omega (arith, h, l, m, t)

  tail_end : 36 ≤ len → drop (length tail - 16) tail ≡ drop (length bytes - 16) bytes
  tail_end h =
      let l = ends.long in
      let t = tail_long h in
      ap (λ xs. drop (length tail - 16) xs) (tail_rest h)
      ∙ drop-drop (length tail - 16) (len - 36) bytes
      ∙ ap (λ n. drop n bytes) (let z : len - 36 + (length tail - 16) ≡ length bytes - 16 = omega (arith, h, l, t) in z)

  trailer_at_tail : has_trailer bytes ≡ is_tail tail len
  trailer_at_tail = elim (cases_Bool (leb 52 len)) [
    | inl enough ↦
        let h : 36 ≤ len = let e = leb-true 52 len enough in omega (arith, e) in
        let long : leb 36 (length tail) ≡ true = le-leb 36 (length tail) (let t = tail_long h in omega (arith, t)) in
        (λ i. leb 52 (ends.long i) && (ltb (ends.long i) 4294967296 && (sym long i && pointwise eqb trailer_magic (sym (tail_end h) i))))
    | inr bound ↦
        (λ i. leb 52 (ends.long i) && (ltb (length bytes) 4294967296 && ends_with eqb bytes trailer_magic))
        ∙ (λ i. bound i && (ltb (length bytes) 4294967296 && ends_with eqb bytes trailer_magic))
        ∙ sym (λ i. bound i && (ltb len 4294967296 && (leb 36 (length tail) && ends_with eqb tail trailer_magic)))
  ]

  pub wrong_trailer : starts_with nat_eq header magic ≡ true → is_tail tail len ≡ false → split_of bytes ≡ Err BadTrailer
  wrong_trailer h g = no_trailer bytes (magic_at_start ∙ h) (trailer_at_tail ∙ g)

  number_there : (k m : ℕ) → k + 4 ≤ 36 → len - 36 + k ≡ m → number_at tail k ≡ number_at bytes m
  number_there k m h is = ap (λ t. number_at t k) ends.tail_is ∙ number_part bytes (len - 36) 36 k h ∙ ap (number_at bytes) is

  -- the section offsets in the trailer
  split_given : (a b c d e : ℕ) → 36 ≤ len → a ≡ number_at tail 0 → b ≡ number_at tail 4 → c ≡ number_at tail 8 →
      d ≡ number_at tail 12 → e ≡ number_at tail 16 → split_before bytes (length bytes - 36)
      ≡ split_at_offsets bytes a b c d e (len - 36)
  split_given a b c d e h a_is b_is c_is d_is e_is =
      let at : len - 36 ≡ length bytes - 36 = ap (λ n. n - 36) (sym ends.long) in
      let p : a ≡ number_at bytes (length bytes - 36) = a_is ∙ number_there 0 (length bytes - 36) (omega arith) (omega (arith, at)) in
      let q : b ≡ number_at bytes (length bytes - 36 + 4) = b_is ∙ number_there 4 (length bytes - 36 + 4) (omega arith)
      (omega (arith, at)) in
      let r : c ≡ number_at bytes (length bytes - 36 + 8) = c_is ∙ number_there 8 (length bytes - 36 + 8) (omega arith)
      (omega (arith, at)) in
      let s : d ≡ number_at bytes (length bytes - 36 + 12) = d_is ∙ number_there 12 (length bytes - 36 + 12)
      (omega arith) (omega (arith, at)) in
      let t : e ≡ number_at bytes (length bytes - 36 + 16) = e_is ∙ number_there 16 (length bytes - 36 + 16)
      (omega arith) (omega (arith, at)) in
      λ i. split_at_offsets bytes (sym p i) (sym q i) (sym r i) (sym s i) (sym t i) (sym at i)

  disordered : (a b c d e at : ℕ) → are_section_offsets a b c d e at ≡ false → split_at_offsets bytes a b c d e at ≡ Err BadOffsets
  disordered a b c d e at h = ap (λ t. cond t
      (Ok (record {
        paths = take (b - a) (drop a bytes);
        names = take (c - b) (drop b bytes);
        postings =
            take (d - c) (drop c bytes);
        name_index = take (e - d) (drop d bytes);
        list_index =
            take (at - e) (drop e bytes);
      })) (Err BadOffsets)) h

  pub offsets_split : (answer : Result SectionOffsets IndexFault) → starts_with nat_eq header magic ≡ true →
      is_tail tail len ≡ true → 52 ≤ len → IfOk answer (AreTrailerOffsets tail (len - 36)) →
      IfErr answer (AreDisorderedOffsets tail (len - 36)) → IsSplitAt bytes answer
  offsets_split (Ok s) h g enough given wrong =
      let slices = split_there bytes (magic_at_start ∙ h) (trailer_at_tail ∙ g) in
      let ordered : split_at_offsets bytes s.paths s.names s.postings s.name_index s.list_index (len - 36)
      ≡ Ok (record (sections_at bytes s) { list_index = take (len - 36 - s.list_index) (drop s.list_index bytes) }) =
      ap (λ b. cond b (Ok (record (sections_at bytes s) {
        list_index =
            take (len - 36 - s.list_index) (drop s.list_index bytes);
      })) (Err BadOffsets)) given.order in (
        slices ∙ split_given s.paths s.names s.postings s.name_index s.list_index (omega (arith, enough)) given.paths
            given.names given.postings given.name_index given.list_index
            ∙ ordered ∙ ap (λ n. Ok (record (sections_at bytes s) {
              list_index =
                  take (n - s.list_index) (drop s.list_index bytes);
            })) (sym given.trailer_there),
        (let l = ends.long in let t = given.trailer_there in omega (arith, l, t)),
      )
  offsets_split (Err fault) h g enough given wrong =
      let slices = split_there bytes (magic_at_start ∙ h) (trailer_at_tail ∙ g) in
      slices ∙ split_given _ _ _ _ _ (omega (arith, enough)) refl refl refl refl refl
      ∙ disordered (number_at tail 0) (number_at tail 4) (number_at tail 8) (number_at tail 12) (number_at tail 16)
      (len - 36) wrong.disorder ∙ ap Err (sym wrong.is)

-- ---- the ends of bytes in memory

pub header_part : (bytes : List ℕ) (n : ℕ) → (length bytes ≤ n) ⊎ (n ≡ 16) → n ≤ 16 → take n bytes ≡ part_of bytes 0 16
header_part bytes n (inl all) few = take_all n bytes all ∙ sym (take_all 16 bytes (omega (arith, all, few)))
header_part bytes n (inr is) few = ap (λ k. take k bytes) is

pub tail_part : (bytes : List ℕ) (k : ℕ) → length bytes ≤ k + 36 → take (length bytes - k) (drop k bytes) ≡ part_of bytes k 36
tail_part bytes k few = take_rest bytes k ∙ sym (take_all 36 (drop k bytes) (let d = length-drop k bytes in omega (arith, d, few)))
