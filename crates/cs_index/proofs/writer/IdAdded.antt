-- Posting lists after an id is appended to the list of a trigram.
use Rattle.std.proofs.Common.{◌≡◌, ℕ, false, cond, List, [], ◌∷◌, ◌++◌, refl, ap, ◌∙◌}
use Rattle.cs_trigram.specs.Trigram.{has}
use Rattle.std.proofs.lemmas.Bool.{or_parts}
use Rattle.cs_index.specs.Encoding.{PostingList}
use Rattle.cs_index.specs.Gathering.{trigrams_in}
use Rattle.cs_index.specs.Written.{with_id}

-- a trigram without a list
pub gathered_new : (lists : List PostingList) (g id : ℕ) → has (trigrams_in lists) g ≡ false → with_id lists g id
    ≡ lists ++ (g, id ∷ []) ∷ []
gathered_new [] g id h = refl
gathered_new (p ∷ lists) g id h =
    ap (λ b. cond b ((p.0, p.1 ++ id ∷ []) ∷ lists) (p ∷ with_id lists g id)) (or_parts _ _ h).0
    ∙ ap (λ rest. p ∷ rest) (gathered_new lists g id (or_parts _ _ h).1)
