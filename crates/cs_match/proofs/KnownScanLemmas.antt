-- A scan by known transitions alone: over a byte, and over the rest of a line that is decided.
use Rattle.std.proofs.Common.{◌≡◌, ◌≢◌, ℕ, ◌+◌, ◌-◌, ◌<◌, ◌≤◌, List, [], ◌∷◌, ◌++◌, take, drop, length, get_or, Fits, w8, refl, sym, ap, subst, ◌∙◌, arith, append_assoc, drop-cons, drop-drop, add-one}
use Rattle.std.proofs.lemmas.List.{take-append-drop}
use Rattle.std.proofs.lemmas.List.Elements.{All-take, All-drop, All-append, All-cons, All-nil, All-from_get_or}
use Rattle.cs_tree.specs.ByteList.{AreBytes}
use Rattle.cs_match.specs.declared.lanes.Table.{Table}
use Rattle.cs_match.specs.ConsistentDfa.{Dfa, IsConsistent, IsKnown, table_in, count_in}
use Rattle.cs_match.specs.LazyDfa.{match_number, dead_number, start_number}
use Rattle.cs_match.specs.Lines.{newline}
use Rattle.cs_match.specs.NoNewline.{HasNoNewline}
use Rattle.cs_match.specs.Table.{next_number, number_after, unknown}
use Rattle.cs_match.proofs.LaneLemmas.{number_after-append}
use Rattle.cs_match.proofs.TableLemmas.{after_unknown, after_match, after_dead}

abbrev IsByte : ℕ → Type 0
IsByte b = b < 256

-- the number after a text does not depend on where the table is
pub number_after-same : (r s : Table) → ((number b : ℕ) → next_number r number b ≡ next_number s number b) → (number : ℕ) (text : List ℕ) →
    number_after r number text ≡ number_after s number text
unfolding number_after
number_after-same r s same number [] = refl
number_after-same r s same number (b ∷ text) =
    ap (λ n. number_after r n text) (same number b) ∙ number_after-same r s same (next_number s number b) text

-- the bytes of a text from an offset on
pub rest_bytes : (text : List ℕ) → ((k : ℕ) → Fits w8 (get_or text k 0)) → (k : ℕ) → AreBytes (drop k text)
rest_bytes text bytes k = All-drop IsByte k text (All-from_get_or IsByte text 0 (λ i _. omega (arith, bytes i)))

-- over a byte
pub known_step : (dfa : Dfa) (number b : ℕ) (rest : List ℕ) → IsKnown dfa number (b ∷ rest) →
    IsKnown dfa (next_number (table_in dfa) number b) rest
unfolding number_after
known_step dfa number b rest known = known

pub known_here : (dfa : Dfa) (text : List ℕ) (to number : ℕ) → to < length text → IsKnown dfa number (drop to text) →
    IsKnown dfa number (get_or text to 0 ∷ drop (to + 1) text)
known_here dfa text to number within known =
    subst (λ bs. number_after (table_in dfa) number bs ≢ unknown (table_in dfa))
    (drop-cons text to 0 within ∙ ap (λ k. get_or text to 0 ∷ drop k text) (sym (add-one to))) known

module _ (dfa : Dfa) (right : IsConsistent dfa.tree dfa.states) where
  abbrev r : Table
  r = table_in dfa

  pub known_next : (number b : ℕ) (rest : List ℕ) → AreBytes rest → IsKnown dfa number (b ∷ rest) → next_number r number b ≢ count_in dfa
  known_next number b rest bytes known e =
      known_step dfa number b rest known (after_unknown dfa.tree dfa.states.classes dfa.states.cached dfa.states.transitions.items right.classes
      right.cached right.table r refl refl refl (next_number r number b) rest bytes e)

  -- over the rest of a line and its newline
  module _ (text : List ℕ) (bytes : (k : ℕ) → Fits w8 (get_or text k 0)) (to end : ℕ) (high : to ≤ end)
      (part : HasNoNewline (take (end - to) (drop to text))) (line : drop end text ≡ newline ∷ drop (end + 1) text) where
    abbrev rest : List ℕ
    rest = take (end - to) (drop to text)

    split : drop to text ≡ (rest ++ newline ∷ []) ++ drop (end + 1) text
    split =
        let at : to + (end - to) ≡ end = omega (arith, high) in
        sym (take-append-drop (end - to) (drop to text))
        ∙ ap (λ (xs : List ℕ). rest ++ xs) (drop-drop (end - to) to text ∙ ap (λ k. drop k text) at ∙ line)
        ∙ sym (append_assoc rest (newline ∷ []) (drop (end + 1) text))

    line_bytes : AreBytes (rest ++ newline ∷ [])
    line_bytes = All-append IsByte rest (newline ∷ []) (All-take IsByte (end - to) (drop to text) (rest_bytes text bytes to))
        (All-cons IsByte newline [] (omega arith) (All-nil IsByte))

    over : (number after : ℕ) → number_after r number (rest ++ newline ∷ []) ≡ after → IsKnown dfa number (drop to text) →
        IsKnown dfa after (drop (end + 1) text)
    over number after e known =
        let all : number_after r number (drop to text) ≡ number_after r after (drop (end + 1) text) =
        ap (number_after r number) split ∙ number_after-append r number (rest ++ newline ∷ []) (drop (end + 1) text)
        ∙ ap (λ n. number_after r n (drop (end + 1) text)) e in
        λ is. known (all ∙ is)

    pub known_match : (number : ℕ) → number ≡ match_number (count_in dfa) → IsKnown dfa number (drop to text) → IsKnown dfa 0 (drop (end + 1) text)
    known_match number is = over number 0
        (after_match dfa.tree dfa.states.classes dfa.states.cached dfa.states.transitions.items right.classes right.cached
        right.table r refl refl refl number rest line_bytes part is)

    pub known_dead : (number : ℕ) → number ≡ dead_number (count_in dfa) → IsKnown dfa number (drop to text) →
        IsKnown dfa (start_number (count_in dfa)) (drop (end + 1) text)
    known_dead number is = over number (start_number (count_in dfa))
        (after_dead dfa.tree dfa.states.classes dfa.states.cached dfa.states.transitions.items right.classes right.cached
        right.table r refl refl refl number rest line_bytes part is)
