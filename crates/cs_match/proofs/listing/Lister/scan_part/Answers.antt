use Rattle.std.proofs.Common.{◌≡◌, ◌+◌, ◌-◌, ap, subst, ◌∙◌, arith}
use Rattle.std.specs.Prelude.{slice_index}
use Rattle.cs_syntax.specs.Matching.{Tree}
use Rattle.cs_match.specs.Listing.{ListsLines}
use Rattle.cs_match.specs.declared.listing.Lister.{Lister}
use Rattle.cs_match.proofs.listing.Lister.scan_part.Goals as goal
use Rattle.cs_match.proofs.listing.Lister.scan_part.Goals.{then-ends-ge-SHORT+else-not-self, then-is_over, else-is_over, else-ends-ge-SHORT}

pub returns-then-not-self-clause-lists : goal.returns-then-not-self-clause-lists
returns-then-not-self-clause-lists c =
    let e = c.list_chunks.ensures in
    let same : c.if-is_over.self.dfa.tree ≡ c.args.self.now.dfa.tree = elim c.if-is_over.branch [
      | then-is_over w ↦ ap (λ (s : Lister). s.dfa.tree) w.self-is
      | else-is_over w ↦ ap (λ (s : Lister). s.dfa.tree) w.self-is
    ] in
    subst (λ (t : Tree). ListsLines t c.args.block.now c.args.from c.list_chunks.result c.list_chunks.new.ends) same (record {
      listed = e.listed;
      moves = e.moves;
      one = λ one counted. let no : ⊥ = omega (arith, one, c.if-ends-ge-SHORT.true, c.list_chunks.auto.ends) in absurd no;
    })

pub returns-clause-lists : goal.returns-clause-lists
returns-clause-lists c =
    let e = c.list_ends.ensures in
    let ends = c.list_ends.new.ends in
    let same : c.if-ends-ge-SHORT.self.dfa.tree ≡ c.args.self.now.dfa.tree = elim c.if-ends-ge-SHORT.branch [
      | then-ends-ge-SHORT+else-not-self w ↦ ap (λ (s : Lister). s.dfa.tree) w.self-is ∙ elim w.if-is_over.branch [
        | then-is_over v ↦ ap (λ (s : Lister). s.dfa.tree) v.self-is
        | else-is_over v ↦ ap (λ (s : Lister). s.dfa.tree) v.self-is
      ]
      | else-ends-ge-SHORT w ↦ ap (λ (s : Lister). s.dfa.tree) w.self-is
    ] in
    subst (λ (t : Tree). ListsLines t c.args.block.now c.args.from c.list_ends.result ends) same (record {
      listed = e.listed;
      moves = e.moves;
      one = λ one counted. e.stops (omega (arith, one, counted, c.list_ends.auto.ends)) ∙ ap (λ n. slice_index ends (n - 1) + 1) counted;
    })
