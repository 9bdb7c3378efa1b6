-- Look-up in the table of the POSIX classes.
use Rattle.std.proofs.Common.{◌≡◌, ℕ, ◌+◌, ◌<◌, ◌≤◌, Bool, true, false, cond, List, [], ◌∷◌, length, drop, get_or, Bor, sym, ◌∙◌, ap}
use Rattle.std.specs.Prelude.{Option, Some, None, nat_eq}
use Rattle.std.specs.Cmp.Lexicographic.{pointwise}
use Rattle.std.proofs.lemmas.List.{drop_more, drop_all}
use Rattle.cs_syntax.specs.declared.items.NamedClass.{NamedClass}

abbrev pub Row : Type 0
Row = Bor (List ℕ) × NamedClass

-- the class of the first row with the name
abbrev pub picked : List ℕ → List Row → Option NamedClass
picked name [] = None
picked name (row ∷ rows) = cond (pointwise nat_eq name row.0.now) (Some row.1) (picked name rows)

-- the result of the comparison with the name of row i
at_row : (name : List ℕ) (rows : List Row) (i : ℕ) (d : Row) (word : List ℕ) (is b : Bool) → i < length rows →
    word ≡ (get_or rows i d).0.now → is ≡ pointwise nat_eq name word → is ≡ b
    → picked name (drop i rows) ≡ cond b (Some (get_or rows i d).1) (picked name (drop (i + 1) rows))
at_row name rows i d word is b within there compared answer =
    ap (picked name) (drop_more rows i d within)
    ∙ ap (λ test. cond test (Some (get_or rows i d).1) (picked name (drop (i + 1) rows)))
    (sym (ap (pointwise nat_eq name) there) ∙ sym compared ∙ answer)

module _ (name : List ℕ) (rows : List Row) (i : ℕ) (class : Option NamedClass) (so_far : class ≡ picked name (drop i rows)) where
  pub picked-here : (d : Row) (word : List ℕ) (is : Bool) → i < length rows → word ≡ (get_or rows i d).0.now →
      is ≡ pointwise nat_eq name word → is ≡ true → Some (get_or rows i d).1 ≡ class
  picked-here d word is within there compared answer =
      sym (so_far ∙ at_row name rows i d word is true within there compared answer)

  pub picked-later : (d : Row) (word : List ℕ) (is : Bool) → i < length rows → word ≡ (get_or rows i d).0.now →
      is ≡ pointwise nat_eq name word → is ≡ false → class ≡ picked name (drop (i + 1) rows)
  picked-later d word is within there compared answer =
      so_far ∙ at_row name rows i d word is false within there compared answer

  pub picked-nowhere : length rows ≤ i → None ≡ class
  picked-nowhere past = sym (so_far ∙ ap (picked name) (drop_all i rows past))
