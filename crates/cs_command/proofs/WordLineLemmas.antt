-- One more line of a text.
use Rattle.std.proofs.Common.{◌≡◌, ℕ, ◌+◌, ◌<◌, ◌==◌, Bool, false, List, [], ◌∷◌, ◌++◌, length, map, sym, ap, ◌∙◌, arith}
use Rattle.std.specs.List.{All, slice_split, position_or_len, before_first, after_first}
use Rattle.std.proofs.lemmas.Grind.{common_steps}
use Rattle.std.proofs.lemmas.List.{map-append, append_assoc}
use Rattle.std.proofs.lemmas.List.Splits.{slice_split_first, slice_split_none}
use Rattle.std.proofs.lemmas.List.Sums.{fails_before_first}
use Rattle.cs_command.specs.WordLines.{line_view, lines_from}
use Rattle.cs_command.specs.declared.word_lines.WordLine.{WordLine}

abbrev is_newline : ℕ → Bool
is_newline byte = byte == 10

abbrev texts_of : List ℕ → List (List ℕ)
texts_of text = slice_split is_newline text

module _ (lines more : List WordLine) (line : WordLine) (rest : List ℕ) (pushed : more ≡ lines ++ line ∷ []) where
  after_line : (texts : List (List ℕ)) → map line_view more ++ lines_from line.part (line.at + (length line.text.now + 1)) texts
      ≡ map line_view lines ++ lines_from line.part line.at (line.text.now ∷ texts)
  after_line texts =
      ap (λ own. map line_view own ++ lines_from line.part (line.at + (length line.text.now + 1)) texts) pushed
      ∙ ap (λ views. views ++ lines_from line.part (line.at + (length line.text.now + 1)) texts) (map-append line_view lines (line ∷ []))
      ∙ append_assoc (map line_view lines) (line_view line ∷ []) (lines_from line.part (line.at + (length line.text.now + 1)) texts)

  pub next_line : (behind : List ℕ) → position_or_len is_newline rest < length rest → line.text.now ≡ before_first is_newline rest
      → behind ≡ after_first is_newline rest
      → map line_view more ++ lines_from line.part (line.at + (length line.text.now + 1)) (texts_of behind)
      ≡ map line_view lines ++ lines_from line.part line.at (texts_of rest)
  next_line behind found before after =
      after_line (texts_of behind)
      ∙ ap (λ texts. map line_view lines ++ lines_from line.part line.at texts)
      ((λ i. before i ∷ texts_of (after i)) ∙ sym (slice_split_first is_newline rest 0 found))

  pub last_line : position_or_len is_newline rest ≡ length rest → line.text.now ≡ rest
      → map line_view more ≡ map line_view lines ++ lines_from line.part line.at (texts_of rest)
  last_line found is =
      let none : All (λ byte. is_newline byte ≡ false) rest = λ k e m. let k' = fails_before_first is_newline rest k e (omega (arith, found, m)) in grind (arith, common_steps) in
      ap (map line_view) pushed ∙ map-append line_view lines (line ∷ [])
      ∙ ap (λ texts. map line_view lines ++ lines_from line.part line.at texts)
      ((λ i. is i ∷ []) ∙ sym (slice_split_none is_newline rest none))

-- a newline is between the first line and what follows it
pub behind_length : (rest text behind : List ℕ) → position_or_len is_newline rest < length rest → text ≡ before_first is_newline rest
    → behind ≡ after_first is_newline rest → length text + 1 + length behind ≡ length rest
behind_length rest text behind found before after = grind (arith, common_steps)
