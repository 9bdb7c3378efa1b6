-- Posting lists that are read through a map.
use Rattle.std.proofs.Common.{◌≡◌, ℕ, ◌+◌, ◌-◌, ◌<◌, ◌≤◌, List, [], ◌∷◌, ◌++◌, drop, get_or, length, refl, sym, ap, ◌∙◌, Option, Some, None, append_assoc, arith}
use Rattle.std.proofs.lemmas.List.{drop_more}
use Rattle.std.specs.List.{cons_option}
use Rattle.cs_index.specs.ListDecoding.{AreMappedBytes, ids_ahead}
use Rattle.cs_index.specs.MappedIds.{NewIds, new_id, new_ids_of}
use Rattle.cs_index.specs.PostingLists.{Ids, onto, read_ids, read_varint}
use Rattle.cs_index.specs.declared.reading.postings.ListDecoder.{ListDecoder}
use Rattle.cs_index.proofs.encoding.VarintRoundtrip.{varint_read}
use Rattle.cs_index.proofs.postings.StreamPush.{short_varint}
use Rattle.cs_index.proofs.stored.ListPieces.{taken}

pub cons_more : (o : Option ℕ) (xs : List ℕ) → cons_option o [] ++ xs ≡ cons_option o xs
cons_more None xs = refl
cons_more (Some x) xs = refl

one_byte : (b : ℕ) (rest : List ℕ) → b < 128 → read_varint (b ∷ rest) ≡ Some (b, rest)
one_byte b rest small = ap (λ bs. read_varint (bs ++ rest)) (sym (short_varint b small)) ∙ varint_read b rest (omega (arith, small))

module _ (d : ListDecoder) (bytes : List ℕ) (new_ids : NewIds) (out : List ℕ) where
  pub mapped_none : d.next ≤ d.name_count → AreMappedBytes d bytes new_ids 0 d.next out out
  mapped_none order =
      let all : d.left - 0 ≡ d.left = omega arith in
      let same : read_ids d.name_count (d.left - 0) d.next (drop 0 bytes) ≡ ids_ahead d bytes =
      ap (λ n. read_ids d.name_count n d.next bytes) all in
      record {
        within = omega arith;
        few = omega arith;
        named = order;
        ids = ap (λ (r : Ids). out ++ new_ids_of new_ids r.ids) same;
        whole = ap (λ (r : Ids). r.whole) same;
        fewer = let long = ap (λ (r : Ids). length r.ids) same in omega (arith, long);
      }

  pub mapped_one : (count next delta : ℕ) (mapped new : List ℕ) → AreMappedBytes d bytes new_ids count next out mapped →
      count < length bytes → count < d.left → delta ≡ get_or bytes count 0 → (delta ≡ 0 → ⊥) → delta < 128 →
      delta ≤ d.name_count - next → new ≡ mapped ++ cons_option (new_id new_ids (next + delta - 1)) [] →
      AreMappedBytes d bytes new_ids (count + 1) (next + delta) out new
  mapped_one count next delta mapped new so_far inside left read some small fits grown =
      let on : List ℕ = drop (count + 1) bytes in
      let rest : Ids = read_ids d.name_count (d.left - (count + 1)) (next + delta) on in
      let id : ℕ = next + delta - 1 in
      let down : d.left - count - 1 ≡ d.left - (count + 1) = omega arith in
      let begin : drop count bytes ≡ delta ∷ on = drop_more bytes count 0 inside ∙ ap (λ b. b ∷ on) (sym read) in
      let one : read_ids d.name_count (d.left - count) next (drop count bytes) ≡ onto id rest =
      ap (read_ids d.name_count (d.left - count) next) begin
      ∙ taken d.name_count (d.left - count) next delta (delta ∷ on) on (λ none. omega (arith, none, left)) so_far.named
      (one_byte delta on small) some fits
      ∙ ap (λ n. onto id (read_ids d.name_count n (next + delta) on)) down in
      record {
        within = omega (arith, inside);
        few = omega (arith, left);
        named = omega (arith, fits, so_far.named);
        ids =
            ap (λ l. l ++ new_ids_of new_ids rest.ids) grown
            ∙ append_assoc mapped (cons_option (new_id new_ids id) []) (new_ids_of new_ids rest.ids)
            ∙ ap (λ l. mapped ++ l) (cons_more (new_id new_ids id) (new_ids_of new_ids rest.ids))
            ∙ ap (λ (r : Ids). mapped ++ new_ids_of new_ids r.ids) (sym one)
            ∙ so_far.ids;
        whole = ap (λ (r : Ids). r.whole) (sym one) ∙ so_far.whole;
        fewer = let long = ap (λ (r : Ids). length r.ids) one in let before = so_far.fewer in omega (arith, long, before);
      }
