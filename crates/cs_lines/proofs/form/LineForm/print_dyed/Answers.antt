use Rattle.std.proofs.Common.{◌++◌, codes, if◌then◌else◌, Bool, sym, ap, ◌∙◌}
use Rattle.cs_lines.specs.Forms.{escape}
use Rattle.cs_tree.specs.SinkOutputs.{given}
use Rattle.cs_tree.proofs.SinkOutputLemmas.{keeps_then}
use Rattle.cs_lines.proofs.Printing.{given_then}
use Rattle.cs_lines.proofs.form.LineForm.print_dyed.Goals as goal

pub returns : goal.returns
returns g c =
    let m = g.O.Sink.model in
    let f = g.O.Sink.failed in
    let out = c.args.out.now in
    let s2 = c.print-2.new.self in
    let s3 = c.print-3.new.self in
    let s4 = c.print-4.new.self in
    let s5 = c.print-5.new.self in
    let s6 = c.print-6.new.self in
    let colour = c.args.colour.now in
    let text = c.args.text.now in
    let end = escape ++ codes "m" in
    let e5 = given_then (given s4) (given s5) (given s6) text end c.print-5.ensures.0 c.print-6.ensures.0 in
    let e4 = given_then (given s3) (given s4) (given s6) (codes "m") (text ++ end) c.print-4.ensures.0 e5 in
    let e3 = given_then (given s2) (given s3) (given s6) colour (codes "m" ++ (text ++ end)) c.print-3.ensures.0 e4 in
    let e2 = given_then (given out) (given s2) (given s6) escape (colour ++ (codes "m" ++ (text ++ end))) c.print-2.ensures.0 e3 in
    let k3 = keeps_then m f out s2 s3 c.print-2.ensures.1 c.print-3.ensures.1 in
    let k4 = keeps_then m f out s3 s4 k3 c.print-4.ensures.1 in
    let k5 = keeps_then m f out s4 s5 k4 c.print-5.ensures.1 in (
      e2 ∙ ap (λ (b : Bool). given out ++ (if b then escape ++ (colour ++ (codes "m" ++ (text ++ end))) else text)) (sym c.if-not-self.false),
      keeps_then m f out s5 s6 k5 c.print-6.ensures.1,
    )
