use Rattle.std.proofs.Common.{◌≡◌, ◌≤◌, ◌+◌, ◌-◌, ◌∷◌, ◌++◌, ◌&&◌, [], ℕ, List, true, false, length, drop, if◌then◌else◌, Bool, append-nil, refl, sym, ap, subst, ◌∙◌, arith, rules}
use Rattle.std.proofs.lemmas.List.{drop_all}
use Rattle.cs_match.specs.Lines.{terminated_lines}
use Rattle.cs_lines.specs.Contexts.{is_open, row_at}
use Rattle.cs_lines.specs.Findings.{Finding}
use Rattle.cs_tree.specs.SinkOutputs.{Keeps, given}
use Rattle.cs_tree.proofs.SinkOutputLemmas.{keeps_same, keeps_then}
use Rattle.cs_lines.specs.Scans.{rows_at}
use Rattle.cs_lines.specs.Forms.{name_part, number_part}
use Rattle.cs_lines.specs.Shown.{gap}
use Rattle.cs_lines.specs.Spacing.{Progress, before_row, opening_of, printed_by, progress_of}
use Rattle.cs_lines.specs.declared.rows.Rows.{Rows}
use Rattle.cs_lines.proofs.NumberLemmas.{mark_alike, plain_alone, plain_before, plain_row}
use Rattle.cs_lines.proofs.Printing.{given_then}
use Rattle.cs_lines.proofs.ScanLemmas.{scan_same}
use Rattle.cs_lines.proofs.rows.Rows.show_plain.Goals as goal
use Rattle.cs_lines.proofs.rows.Rows.show_plain.Goals.{then-not-self, else-not-self}

pub returns-clause-rows : goal.returns-clause-rows
returns-clause-rows g c = λ line ended spans.
    let old = c.args.self.now in
    let lines = terminated_lines c.args.held.now in
    let alone = plain_alone old.page.options.now c.requires.plain in
    let all : length lines ≤ length lines - old.page.options.now.before = omega (arith, alone.0) in
    let none : drop (length lines - old.page.options.now.before) lines ≡ [] = drop_all (length lines - old.page.options.now.before) lines all in
    let n = old.number + c.counted.result in
    let new : Rows = record { page = old.page; number = n + 1; most = c.one_less-self.result; left = 0; shown = true; next = n + 1 } in
    let options = old.page.options.now in
    let name = old.page.name.now in
    let start = given c.args.out.now in
    let opened = given c.if-not-self.out in
    let named = given c.print_name.new.out in
    let numbered = given c.print_number.new.out in
    let end = given c.print.new.self in
    let first = before_row (opening_of old.page) (gap options) old.shown old.next n in
    let before : opened ≡ start ++ first =
    elim c.if-not-self.branch [
      | then-not-self w ↦ let is : old.shown ≡ false = search (rules, w.if-not-self.true) in
          ap (λ o. given o) w.out-is ∙ w.print_opening.ensures.0
          ∙ ap (λ (bytes : List ℕ). start ++ bytes) (sym (plain_before options (opening_of old.page) old.shown old.next n (alone.0, alone.1)
          ∙ ap (λ (b : Bool). if b then [] else opening_of old.page) is))
      | else-not-self w ↦ let is : old.shown ≡ true = search (rules, w.if-not-self.false) in
          ap (λ o. given o) w.out-is ∙ sym (append-nil start)
          ∙ ap (λ (bytes : List ℕ). start ++ bytes) (sym (plain_before options (opening_of old.page) old.shown old.next n (alone.0, alone.1)
          ∙ ap (λ (b : Bool). if b then [] else opening_of old.page) is))
    ] in
    let row : (finding : Finding) → progress_of new end ≡ printed_by old.page finding (progress_of old start) (row_at n line true ∷ []) =
    λ finding. ap (λ (bytes : List ℕ). let p : Progress = record { given = bytes; shown = true; next = n + 1 } in p)
    (given_then start opened end first (name_part options.form name true ++ (number_part options.form n true ++ c.args.ended.now)) before
    (given_then opened named end (name_part options.form name true) (number_part options.form n true ++ c.args.ended.now) c.print_name.ensures.0
    (given_then named numbered end (number_part options.form n true) c.args.ended.now c.print_number.ensures.0 c.print.ensures.0))
    ∙ ap (λ (bytes : List ℕ). start ++ (first ++ (name_part options.form name true ++ (number_part options.form n true ++ bytes)))) ended
    ∙ ap (λ (bytes : List ℕ). start ++ (first ++ bytes)) (sym (plain_row options finding name n line alone.2))) in (
      refl,
      λ finding same wanted more. mark_alike old new start end finding lines more line n
          (λ numbers. let k : length lines ≡ length lines - old.page.options.now.before = omega (arith, alone.0) in
          ap (λ (i : ℕ). old.number + i) (c.counted.ensures.exact numbers ∙ k))
          (ap (λ b. b && is_open old.most) wanted ∙ c.requires.open)
          refl
          (scan_same _ _ (omega (arith, ap (λ (ls : List (List ℕ)). length ls) none)) c.one_less-self.ensures (sym alone.1))
          (row finding
          ∙ ap (λ (i : ℕ). printed_by old.page finding (progress_of old start) (row_at i line true ∷ [])) (omega arith)
          ∙ ap (λ (ls : List (List ℕ)). printed_by old.page finding (progress_of old start) (rows_at n ls ++ row_at (n + length ls) line true ∷ []))
          (sym none)),
    )

pub returns-clause-keeps : goal.returns-clause-keeps
returns-clause-keeps g c =
    let m = g.O.Sink.model in
    let f = g.O.Sink.failed in
    let out = c.args.out.now in
    let opened : Keeps m f out c.if-not-self.out =
    elim c.if-not-self.branch [
      | then-not-self w ↦ subst (Keeps m f out) (sym w.out-is) w.print_opening.ensures.1
      | else-not-self w ↦ subst (Keeps m f out) (sym w.out-is) (keeps_same m f out)
    ] in
    let named = keeps_then m f out c.if-not-self.out c.print_name.new.out opened c.print_name.ensures.1 in
    let numbered = keeps_then m f out c.print_name.new.out c.print_number.new.out named c.print_number.ensures.1 in
    keeps_then m f out c.print_number.new.out c.print.new.self numbered c.print.ensures.1
