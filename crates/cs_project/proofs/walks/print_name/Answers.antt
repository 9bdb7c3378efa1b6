use Rattle.std.proofs.Common.{◌≡◌, ◌++◌, [], ℕ, List, sym, ap, ◌∙◌, append-nil, append_assoc}
use Rattle.cs_tree.specs.SinkOutputs.{given}
use Rattle.cs_project.proofs.walks.print_name.Goals as goal

pub returns-clause-begins : goal.returns-clause-begins
returns-clause-begins g c =
    let old = given c.args.out.now in
    let end = c.args.end.now in
    let all : given c.print-2.new.self ≡ old ++ (c.args.name.now ++ end) =
    c.print-2.ensures.0 ∙ ap (λ (l : List ℕ). l ++ end) c.print.ensures.0 ∙ append_assoc old c.as_bytes.result.now end
    ∙ ap (λ (b : List ℕ). old ++ (b ++ end)) c.as_bytes.ensures.value in
    ([], sym all ∙ sym (append-nil (given c.print-2.new.self)))
