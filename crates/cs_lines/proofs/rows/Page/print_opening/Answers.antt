use Rattle.std.proofs.Common.{[], if◌then◌else◌, Bool, sym, subst, append-nil}
use Rattle.cs_tree.specs.SinkOutputs.{Prints, given}
use Rattle.cs_lines.specs.Shown.{heading, line_gap}
use Rattle.cs_tree.proofs.SinkOutputLemmas.{keeps_same, keeps_then}
use Rattle.cs_lines.proofs.Printing.{given_then}
use Rattle.cs_lines.proofs.rows.Page.print_opening.Goals as goal
use Rattle.cs_lines.proofs.rows.Page.print_opening.Goals.{then-self, else-self}

pub returns : goal.returns
returns g c =
    let m = g.O.Sink.model in
    let f = g.O.Sink.failed in
    let out = c.args.out.now in
    let mid = c.if-self.out in
    let new = c.print_heading.new.out in
    let page = c.args.self.now in
    let options = page.options.now in
    let before : Prints m f out mid (if page.begun then line_gap options else []) =
    elim c.if-self.branch [
      | then-self w ↦ subst (λ o. Prints m f out o (if page.begun then line_gap options else [])) (sym w.out-is)
          (subst (λ (b : Bool). Prints m f out w.print_between.new.out (if b then line_gap options else [])) (sym w.if-self.true) w.print_between.ensures)
      | else-self w ↦ subst (λ o. Prints m f out o (if page.begun then line_gap options else [])) (sym w.out-is)
          (subst (λ (b : Bool). Prints m f out out (if b then line_gap options else [])) (sym w.if-self.false) (sym (append-nil (given out)), keeps_same m f out))
    ] in (
      given_then (given out) (given mid) (given new) (if page.begun then line_gap options else []) (heading options page.name.now) before.0
          c.print_heading.ensures.0,
      keeps_then m f out mid new before.1 c.print_heading.ensures.1,
    )
