-- The trigrams of a text are a trigram set of an index.
use Rattle.std.proofs.Common.{◌≡◌, ℕ, List, [], ◌∷◌, refl, subst, Option, Some, None}
use Rattle.cs_trigram.specs.Trigram.{Ascends as Rises}
use Rattle.cs_trigram.specs.TrigramSets.{IsTrigramSet}
use Rattle.cs_history.proofs.Common.{trigram_sequence, tri, Ascends, first_broken, too_many, skip, text_trigrams}
use Rattle.cs_trigram.specs.declared.scan.Limits.{Limits}
use Rattle.cs_trigram.specs.declared.scan.Reason.{Reason}
use Rattle.cs_trigram.proofs.SetLemmas.{ascends_set}
use Rattle.cs_trigram.proofs.LawLemmas.{none_skipped}
use Rattle.cs_trigram.proofs.RuleLemmas.{option_or-none, tri_below}

-- the set of a scan is one of an index
rises : (ns : List ℕ) → Rises ns → Ascends ns
rises [] up = tt
rises (n ∷ []) up = tt
rises (n ∷ m ∷ ms) up = (up.0, rises (m ∷ ms) up.1)

pub text_set : (most : Limits) (bytes trigrams : List ℕ) → text_trigrams most bytes ≡ Some trigrams → IsTrigramSet trigrams
text_set most bytes trigrams h = by_skip (skip most bytes) refl h
  where
    by_skip : (why : Option Reason) → skip most bytes ≡ why → none_skipped why (tri bytes) ≡ Some trigrams → IsTrigramSet trigrams
    by_skip (Some reason) e h = cc
    by_skip None e h =
        let is : tri bytes ≡ trigrams = cc in
        subst IsTrigramSet is (
          rises (tri bytes) (ascends_set (trigram_sequence bytes)),
          tri_below most bytes (option_or-none (first_broken most [] bytes) (too_many most (tri bytes)) e).0,
        )
