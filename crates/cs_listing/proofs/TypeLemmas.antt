-- Look-up in the table of the types.
use Rattle.std.specs.Prelude.{Option, Some, None, bytes_eq}
use Rattle.std.proofs.Common.{◌≡◌, ℕ, ◌+◌, ◌<◌, ◌≤◌, Bool, true, false, cond, List, length, map, drop, get_or, Bor, sym, ◌∙◌, ap}
use Rattle.std.proofs.lemmas.List.{drop_more, drop_all}
use Rattle.cs_listing.specs.Types.{globs_among, type_of}

abbrev pub Row : Type 0
Row = Bor (List ℕ) × Bor (List ℕ)

-- by the comparison with the name of row i
at_row : (name : List ℕ) (rows : List Row) (i : ℕ) (d : Row) (is b : Bool) → i < length rows →
    is ≡ bytes_eq (get_or rows i d).0.now name → is ≡ b → globs_among (map type_of (drop i rows)) name
    ≡ cond b (Some (get_or rows i d).1.now) (globs_among (map type_of (drop (i + 1) rows)) name)
at_row name rows i d is b within compared answer =
    ap (λ rs. globs_among (map type_of rs) name) (drop_more rows i d within)
    ∙ ap (λ test. cond test (Some (get_or rows i d).1.now) (globs_among (map type_of (drop (i + 1) rows)) name)) (sym compared ∙ answer)

module _ (name : List ℕ) (rows : List Row) (i : ℕ) (globs : Option (List ℕ))
    (so_far : globs ≡ globs_among (map type_of (drop i rows)) name) where
  pub globs_here : (d : Row) (is : Bool) → i < length rows → is ≡ bytes_eq (get_or rows i d).0.now name → is ≡ true →
      Some (get_or rows i d).1.now ≡ globs
  globs_here d is within compared answer = sym (so_far ∙ at_row name rows i d is true within compared answer)

  pub globs_later : (d : Row) (is : Bool) → i < length rows → is ≡ bytes_eq (get_or rows i d).0.now name → is ≡ false →
      globs ≡ globs_among (map type_of (drop (i + 1) rows)) name
  globs_later d is within compared answer = so_far ∙ at_row name rows i d is false within compared answer

  pub globs_nowhere : length rows ≤ i → None ≡ globs
  globs_nowhere past = sym (so_far ∙ ap (λ rs. globs_among (map type_of rs) name) (drop_all i rows past))
