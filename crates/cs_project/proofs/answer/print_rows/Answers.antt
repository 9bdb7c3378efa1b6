use Rattle.std.proofs.Common.{◌≡◌, Bor, ℕ, ◌+◌, ◌<◌, List, [], ◌∷◌, ◌++◌, codes, get_or, length, map, take, sym, ap, ◌∙◌, append-nil, append_assoc}
use Rattle.std.proofs.lemmas.Grind.{flat_map-append}
use Rattle.std.proofs.lemmas.List.{map-append, take_more}
use Rattle.cs_tree.specs.SinkOutputs.{given}
use Rattle.cs_project.specs.Calls.{types_printed}
use Rattle.cs_project.proofs.PrintLemmas.{keeps_then}
use Rattle.cs_project.proofs.answer.print_rows.Goals as goal

abbrev Row : Type 0
Row = Bor (List ℕ) × Bor (List ℕ)

abbrev view : Row → List ℕ × List ℕ
view row = (row.0.now, row.1.now)

abbrev line : List ℕ × List ℕ → List ℕ
line row = row.0 ++ (codes ": " ++ (row.1 ++ codes "\n"))

-- one more of the types
types_more : (rows : List Row) (i : ℕ) (none : Row) → i < length rows →
    types_printed (map view (take (i + 1) rows)) ≡ types_printed (map view (take i rows)) ++ line (view (get_or rows i none))
types_more rows i none low =
    ap (λ some. types_printed (map view some)) (take_more rows i none low)
    ∙ ap types_printed (map-append view (take i rows) (get_or rows i none ∷ []))
    ∙ flat_map-append line (map view (take i rows)) (view (get_or rows i none) ∷ [])
    ∙ ap (λ l. types_printed (map view (take i rows)) ++ l) (append-nil (line (view (get_or rows i none))))

regrouped : (o t a s b n : List ℕ) → ((((o ++ t) ++ a) ++ s) ++ b) ++ n ≡ o ++ (t ++ (a ++ (s ++ (b ++ n))))
regrouped o t a s b n = simp append_assoc

pub types-preserved : goal.types-preserved
types-preserved g c =
    let model = g.O.Sink.model in
    let failed = g.O.Sink.failed in
    let first = c.args.out.now in
    let none : Row = (record { ref_ptr = (0, 0); now = [] }, record { ref_ptr = (0, 0); now = [] }) in
    let row = view (get_or c.args.types.now c.types.row-index none) in
    let some = types_printed (map view (take c.types.row-index c.args.types.now)) in
    let colon = codes ": " in
    let end = codes "\n" in
    let printed : given c.print-in-types-3.new.self ≡ given first ++ (some ++ line row) =
    c.print-in-types-3.ensures.0
    ∙ ap (λ l. l ++ end) c.print-in-types-2.ensures.0
    ∙ ap (λ l. (l ++ c.as_bytes-in-types.result.now) ++ end) c.print-in-types.ensures.0
    ∙ ap (λ l. ((l ++ colon) ++ c.as_bytes-in-types.result.now) ++ end) c.print.ensures.0
    ∙ ap (λ l. (((l ++ c.as_bytes.result.now) ++ colon) ++ c.as_bytes-in-types.result.now) ++ end) c.types.invariant.0
    ∙ regrouped (given first) some c.as_bytes.result.now colon c.as_bytes-in-types.result.now end
    ∙ ap (λ a. given first ++ (some ++ (a ++ (colon ++ (c.as_bytes-in-types.result.now ++ end))))) c.as_bytes.ensures.value
    ∙ ap (λ b. given first ++ (some ++ (row.0 ++ (colon ++ (b ++ end))))) c.as_bytes-in-types.ensures.value in (
      printed ∙ ap (λ l. given first ++ l) (sym (types_more c.args.types.now c.types.row-index none c.types-test.true)),
      keeps_then model failed first c.print-in-types-2.new.self c.print-in-types-3.new.self
          (keeps_then model failed first c.print-in-types.new.self c.print-in-types-2.new.self
          (keeps_then model failed first c.print.new.self c.print-in-types.new.self
          (keeps_then model failed first c.types.out c.print.new.self c.types.invariant.1 c.print.ensures.1) c.print-in-types.ensures.1)
          c.print-in-types-2.ensures.1) c.print-in-types-3.ensures.1,
    )
