use denote.Ref.{Bor}
use Rattle.std.specs.Prelude.{Option, Some, bytes_eq}
use Rattle.std.specs.Map.{lookup}
use Rattle.std.proofs.Common.{◌≡◌, ℕ, ◌+◌, ◌<◌, Bool, true, false, cond, List, length, map, drop, get_or, sym, ◌∙◌, ap}
use Rattle.std.proofs.lemmas.List.{at_drop_more, at_drop_all}
use Rattle.cs_listing.proofs.class_names.ranges_among.Goals as goal

abbrev Row : Type 0
Row = Bor (List ℕ) × Bor (List (ℕ × ℕ))

abbrev found : List ℕ → List Row → Option (List (ℕ × ℕ))
found name rows = lookup (bytes_eq name) (map (λ row. (row.0.now, row.1.now)) rows)

-- by the comparison with the name of row i
at_row : (name : List ℕ) (rows : List Row) (i : ℕ) (d : Row) (is b : Bool) → i < length rows →
    is ≡ bytes_eq name (get_or rows i d).0.now → is ≡ b →
    found name (drop i rows) ≡ cond b (Some (get_or rows i d).1.now) (found name (drop (i + 1) rows))
at_row name rows i d is b within compared answer =
    at_drop_more (found name) rows i d within
    ∙ ap (λ test. cond test (Some (get_or rows i d).1.now) (found name (drop (i + 1) rows))) (sym compared ∙ answer)

pub returns-then-eq : goal.returns-then-eq
returns-then-eq c = c.classes.invariant ∙ at_row c.args.name.now _ c.classes.own-index _ _ true c.classes-test.true c.eq.ensures c.if-eq.true

pub classes-preserved : goal.classes-preserved
classes-preserved c = c.classes.invariant ∙ at_row c.args.name.now _ c.classes.own-index _ _ false c.classes-test.true c.eq.ensures c.if-eq.false

pub returns : goal.returns
returns c = c.classes.invariant ∙ at_drop_all (found c.args.name.now) _ c.classes.own-index c.classes-test.false
