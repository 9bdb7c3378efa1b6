-- Lists of matches of a line.
use Rattle.std.proofs.Common.{◌≡◌, ◌≤◌, ◌<◌, ◌+◌, ℕ, suc, List, [], ◌∷◌, ◌++◌, length, drop, get_or, refl, ap, subst, arith, Bool, true, false, ◌||◌, if◌then◌else◌, None, codes, decimal, sym, ◌∙◌, append_assoc, slice_range}
use Rattle.std.proofs.lemmas.Bool.{false≢true, lt-ltb}
use Rattle.std.specs.List.{flat_map}
use Rattle.cs_match.specs.Lines.{newline}
use Rattle.cs_lines.specs.Contexts.{Row}
use Rattle.cs_lines.specs.Printing.{needs_spans}
use Rattle.cs_lines.specs.declared.form.LineForm.{LineForm}
use Rattle.std.proofs.lemmas.List.{at_drop_more}
use Rattle.cs_syntax.specs.Matching.{Tree}
use Rattle.cs_match.specs.Span.{AreSpansFrom, IsMatchOf}
use Rattle.cs_match.specs.declared.spans.Span.{Span as A_span}
use Rattle.cs_lines.specs.Forms.{Span, column_part, dyed, first_column, marked_bytes, match_bytes, name_part, number_part, painted, painted_from, prefix_of, row_bytes, separator, whole_bytes}
use Rattle.cs_lines.specs.Ordered.{pair_of, pairs, AreOrdered}

pub ordered_within : (from size : ℕ) (spans : List Span) → AreOrdered from size spans → from ≤ size
ordered_within from size [] h = h
ordered_within from size (span ∷ spans) h = omega (arith, h.0, h.1, ordered_within span.1 size spans h.2)

pub ordered_before : (from at size : ℕ) (spans : List Span) → from ≤ at → AreOrdered at size spans → AreOrdered from size spans
ordered_before from at size [] low h = omega arith
ordered_before from at size (span ∷ spans) low h = (omega (arith, h.0), h.1, h.2)

pub spans_ordered : (all whole : Bool) (t : Tree) (s : List ℕ) (spans : List Span) (from least : ℕ) → from ≤ length s → AreSpansFrom all whole t s from least spans →
    AreOrdered from (length s) spans
spans_ordered all whole t s [] from least within h = within
spans_ordered all whole t s (span ∷ spans) from least within h =
    (h.0.is.begins, h.0.is.ordered, spans_ordered all whole t s spans span.1 (suc span.1) h.0.is.within h.1)

-- the matches from one on
pub pairs_from : (spans : List A_span) (i : ℕ) (d : A_span) → i < length spans →
    pairs (drop i spans) ≡ pair_of (get_or spans i d) ∷ pairs (drop (i + 1) spans)
pairs_from spans i d low = at_drop_more pairs spans i d low

pub ordered_more : (from size more : ℕ) (spans : List Span) → size ≤ more → AreOrdered from size spans → AreOrdered from more spans
ordered_more from size more [] low h = omega arith
ordered_more from size more (span ∷ spans) low h = (h.0, h.1, ordered_more span.1 size more spans low h.2)

pub first_start : (spans : List A_span) (size : ℕ) (d : A_span) → 1 ≤ length spans → AreOrdered 0 size (pairs spans) → (get_or spans 0 d).start ≤ size
first_start [] size d some h = let wrong : ⊥ = omega (arith, some) in absurd wrong
first_start (span ∷ spans) size d some h = omega (arith, h.1, ordered_within span.end size (pairs spans) h.2)

-- the match at an index
pub span_within : (spans : List A_span) (i from size : ℕ) (d : A_span) → i < length spans → AreOrdered from size (pairs (drop i spans)) →
    ((get_or spans i d).start ≤ (get_or spans i d).end) × ((get_or spans i d).end ≤ size)
span_within spans i from size d low h =
    let here = subst (AreOrdered from size) (pairs_from spans i d low) h in
    (here.1, ordered_within (get_or spans i d).end size (pairs (drop (i + 1) spans)) here.2)

-- ---- a match in colours

module _ (form : LineForm) (line : List ℕ) (at : ℕ) (span : Span) (spans : List Span) where
  painted_if : Bool → List ℕ
  painted_if filled =
      if filled
      then slice_range line at span.0 ++ (dyed form (codes "1;31") (slice_range line span.0 span.1) ++ painted_from form line span.1 spans)
      else painted_from form line at spans

  -- after the bytes that were printed before
  pub match_painted : (given : List ℕ) → span.0 < span.1 → given ++ painted_from form line at (span ∷ spans)
      ≡ ((given ++ slice_range line at span.0) ++ dyed form (codes "1;31") (slice_range line span.0 span.1)) ++ painted_from form line span.1 spans
  unfolding painted_if
  match_painted given filled =
      let part = slice_range line at span.0 in
      let bytes = dyed form (codes "1;31") (slice_range line span.0 span.1) in
      let rest = painted_from form line span.1 spans in
      ap (λ b. given ++ painted_if b) (lt-ltb span.0 span.1 filled)
      ∙ sym (append_assoc (given ++ part) bytes rest ∙ append_assoc given part (bytes ++ rest))

-- ---- the matches of a line are unique

module _ (whole : Bool) (t : Tree) (s : List ℕ) where
  pub spans_unique : (a b : List Span) (from least : ℕ) → AreSpansFrom true whole t s from least a → AreSpansFrom true whole t s from least b → a ≡ b
  spans_unique [] [] from least h k = refl
  spans_unique [] (y ∷ b) from least h k = absurd (h refl y.0 y.1 k.0.is)
  spans_unique (x ∷ a) [] from least h k = absurd (k refl x.0 x.1 h.0.is)
  spans_unique (x ∷ a) (y ∷ b) from least h k =
      let start : x.0 ≡ y.0 = omega (arith, h.0.leftmost y.0 y.1 k.0.is, k.0.leftmost x.0 x.1 h.0.is) in
      let low = h.0.longest y.1 (subst (λ i. IsMatchOf whole t s from least i y.1) (sym start) k.0.is) in
      let high = k.0.longest x.1 (subst (λ i. IsMatchOf whole t s from least i x.1) start h.0.is) in
      let end : x.1 ≡ y.1 = omega (arith, low, high) in
      let more = subst (λ e. AreSpansFrom true whole t s e (suc e) b) (sym end) k.1 in
      ap (λ i. let p : Span = (i, x.1) in p ∷ a) start ∙ ap (λ e. let p : Span = (y.0, e) in p ∷ a) end
      ∙ ap (λ (rest : List Span). y ∷ rest) (spans_unique a b x.1 (suc x.1) h.1 more)

-- ---- forms that do not show where matches are

either : (a b : Bool) → (a || b) ≡ false → (a ≡ false) × (b ≡ false)
either true b h = absurd (false≢true (sym h))
either false b h = (refl, h)

module _ (form : LineForm) (name : List ℕ) (row : Row) where
  column_plain : form.column ≡ false → (spans : List Span) → column_part form row.marked (first_column spans) ≡ []
  column_plain e [] = refl
  column_plain e (span ∷ spans) = ap (λ (b : Bool). if b then decimal (span.0 + 1) ++ dyed form (codes "36") (separator row.marked) else []) e

  whole_plain : form.column ≡ false → form.colour ≡ false → (a b : List Span) → whole_bytes form name row a ≡ whole_bytes form name row b
  whole_plain column colour a b =
      let first = name_part form name row.marked in
      let number = number_part form row.number row.marked in
      let painted_is : (spans : List Span) → painted form row.line spans ≡ row.line =
      λ spans. ap (λ (b : Bool). if b then painted_from form row.line 0 spans else row.line) colour in
      ap (λ c. (first ++ (number ++ c)) ++ (painted form row.line a ++ newline ∷ [])) (column_plain column a ∙ sym (column_plain column b))
      ∙ ap (λ p. (first ++ (number ++ column_part form row.marked (first_column b))) ++ (p ++ newline ∷ [])) (painted_is a ∙ sym (painted_is b))

  marked_whole : (form.only || form.each) ≡ false → (spans : List Span) → marked_bytes form name row spans ≡ whole_bytes form name row spans
  marked_whole none [] = refl
  marked_whole none (span ∷ spans) =
      ap (λ (b : Bool). if b then flat_map (match_bytes form name row (span ∷ spans)) (span ∷ spans) else whole_bytes form name row (span ∷ spans)) none

  marked_plain : needs_spans form ≡ false → (a b : List Span) → marked_bytes form name row a ≡ marked_bytes form name row b
  marked_plain none a b =
      let c = either form.column (form.only || (form.each || form.colour)) none in
      let o = either form.only (form.each || form.colour) c.1 in
      let e = either form.each form.colour o.1 in
      let no : (form.only || form.each) ≡ false = ap (λ b. b || form.each) o.0 ∙ e.0 in
      marked_whole no a ∙ whole_plain c.0 e.1 a b ∙ sym (marked_whole no b)

  by_need : (needs : Bool) → needs_spans form ≡ needs → (a b : List Span) → (needs_spans form ≡ true → a ≡ b) → marked_bytes form name row a ≡ marked_bytes form name row b
  by_need true is a b same = ap (marked_bytes form name row) (same is)
  by_need false is a b same = marked_plain is a b

  by_mark : (marked : Bool) → row.marked ≡ marked → (a b : List Span) → (row.marked ≡ true → needs_spans form ≡ true → a ≡ b) →
      (if marked then marked_bytes form name row a else prefix_of form name row None ++ (row.line ++ newline ∷ []))
      ≡ (if marked then marked_bytes form name row b else prefix_of form name row None ++ (row.line ++ newline ∷ []))
  by_mark true is a b same = by_need (needs_spans form) refl a b (same is)
  by_mark false is a b same = refl

  pub row_same : (a b : List Span) → (row.marked ≡ true → needs_spans form ≡ true → a ≡ b) → row_bytes form name row a ≡ row_bytes form name row b
  row_same a b same = by_mark row.marked refl a b same
