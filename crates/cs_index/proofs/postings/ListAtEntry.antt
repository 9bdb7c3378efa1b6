-- Reading the posting list of an entry.
use Rattle.std.specs.Prelude.{bytes_eq}
use Rattle.std.proofs.Common.{◌≡◌, ℕ, zero, suc, ◌+◌, ◌<◌, ◌≤◌, ◌^◌, cond, List, [], ◌∷◌, length, take, drop, get_or, refl, sym, ap, subst, ◌∙◌, inl, inr, arith, drop-cons, length-drop, length-take}
use Rattle.cs_index.specs.ListReading.{list_in}
use Rattle.cs_index.specs.PostingLists.{damage, read_ids, read_list}
use Rattle.cs_tree.specs.ByteList.{AreBytes}
use Rattle.std.proofs.lemmas.Bool.{cases_lt, false_from_ne_true}
use Rattle.std.proofs.lemmas.Nat.{be_bytes_4}
use Rattle.std.proofs.lemmas.List.{get_or_past, drop-drop}
use Rattle.std.proofs.lemmas.List.Elements.{All-get_or}
use Rattle.cs_index.specs.Encoding.{three_bytes, ListEntry}
use Rattle.cs_index.specs.Opening.{trigram_at}
use Rattle.cs_index.proofs.decoding.StringScan.{not_longer}

-- each value is a byte; beyond the end it is 0
abbrev pub Small : List ℕ → Type 0
Small bytes = (i : ℕ) → get_or bytes i 0 < 256

pub small_bytes : (bytes : List ℕ) → AreBytes bytes → Small bytes
small_bytes bytes all i = elim (cases_lt i (length bytes)) [
  | inl within ↦ All-get_or (λ b. b < 256) bytes i 0 within all
  | inr past ↦ subst (λ b. b < 256) (sym (get_or_past bytes i 0 past)) (omega arith)
]

four_small : (bytes : List ℕ) (at : ℕ) → Small bytes →
    Small (0 ∷ get_or bytes at 0 ∷ get_or bytes (at + 1) 0 ∷ get_or bytes (at + 2) 0 ∷ [])
four_small bytes at h zero = omega arith
four_small bytes at h (suc zero) = h at
four_small bytes at h (suc (suc zero)) = h (at + 1)
four_small bytes at h (suc (suc (suc zero))) = h (at + 2)
four_small bytes at h (suc (suc (suc (suc i)))) = omega arith

three_taken : (bytes : List ℕ) (at : ℕ) → at + 3 ≤ length bytes → take 3 (drop at bytes) ≡ get_or bytes at 0
    ∷ get_or bytes (at + 1) 0 ∷ get_or bytes (at + 2) 0 ∷ []
three_taken bytes at h =
    let one : suc at ≡ at + 1 = omega arith in
    let two : suc (at + 1) ≡ at + 2 = omega arith in
    ap (take 3) (drop-cons bytes at 0 (omega (arith, h)) ∙ ap (λ k. get_or bytes at 0 ∷ drop k bytes) one
    ∙ ap (λ rest. get_or bytes at 0 ∷ rest) (drop-cons bytes (at + 1) 0 (omega (arith, h))
    ∙ ap (λ k. get_or bytes (at + 1) 0 ∷ drop k bytes) two ∙ ap (λ rest. get_or bytes (at + 1) 0 ∷ rest)
    (drop-cons bytes (at + 2) 0 (omega (arith, h)))))

-- a trigram is determined by its three bytes
pub three_of : (bytes : List ℕ) (at : ℕ) → at + 3 ≤ length bytes → Small bytes → three_bytes (trigram_at bytes at) ≡ take 3 (drop at bytes)
unfolding trigram_at
three_of bytes at h small =
    ap (drop 1) (be_bytes_4 (0 ∷ get_or bytes at 0 ∷ get_or bytes (at + 1) 0 ∷ get_or bytes (at + 2) 0 ∷ [])
    (trigram_at bytes at) refl (four_small bytes at small) refl)
    ∙ sym (three_taken bytes at h)

pub trigram_small : (bytes : List ℕ) (at : ℕ) → Small bytes → trigram_at bytes at < 2 ^ 24
unfolding trigram_at
trigram_small bytes at small = let a = small at in let b = small (at + 1) in let d = small (at + 2) in omega (arith, a, b, d)

pub list_short : (postings : List ℕ) (name_count : ℕ) (e : ListEntry) → length postings < e.offset + 3 → damage
    ≡ read_list postings name_count e
list_short postings name_count e h =
    let slices : length (take 3 (drop e.offset postings)) < 3 = let l = length-drop e.offset postings in let m =
    length-take 3 (drop e.offset postings) in omega (arith, h, l, m) in
    sym (ap (λ b. cond b (read_ids name_count e.count 0 (drop (e.offset + 3) postings)) damage)
    (false_from_ne_true (bytes_eq (take 3 (drop e.offset postings)) (three_bytes e.trigram))
    (λ t. let long = not_longer (take 3 (drop e.offset postings)) (three_bytes e.trigram) t in
    omega (arith, slices, long))))

-- the bytes from the offset on begin with the list
pub list_from : (postings : List ℕ) (name_count : ℕ) (e : ListEntry) → list_in (drop e.offset postings) name_count e
    ≡ read_list postings name_count e
list_from postings name_count e =
    ap (λ bs. cond (bytes_eq (take 3 (drop e.offset postings)) (three_bytes e.trigram))
    (read_ids name_count e.count 0 bs) damage) (drop-drop 3 e.offset postings)
