use Rattle.std.proofs.Common.{rules, ◌+◌, sym, ap, subst, ◌∙◌, Ok, Err}
use Rattle.cs_tree.specs.TreeReaders.{open_model, tree_read}
use Rattle.cs_trigram.specs.Text.{limits}
use Rattle.cs_trigram.specs.declared.scan.ScanFault.TheVariants as fault
use Rattle.cs_cindex.proofs.Common.{IsVerdictIn}
use Rattle.cs_cindex.proofs.ReadLemmas.{file_read}
use Rattle.cs_cindex.proofs.VerdictLemmas.{IsBorrowedScanOf, verdict_refused, verdict_scanned, verdict_unread}
use Rattle.cs_cindex.proofs.indexer.read_file.Goals as goal

pub returns-in-Err : goal.returns-in-Err
returns-in-Err g c =
    let file = c.in_ok-fault.ensures.file in (
      subst (λ why. IsVerdictIn (g.T.Tree.snapshot c.args.tree.now) c.args.name.now (Err why)) (sym file.0)
          (verdict_refused (g.T.Tree.snapshot c.args.tree.now) c.args.name.now c.in-Err.fault
          (g.T.Tree.opened c.open.new.self) file.1 c.in-Err.ensures.answer),
      search rules,
    )

pub returns-in-Ok : goal.returns-in-Ok
returns-in-Ok g c =
    let reads = file_read g.T.Tree.snapshot g.T.Tree.opened g.T.Tree.read_counts (limits.bytes + 1) c.args.name.now
    c.args.tree.now c.open.new.self (tree_read c.new-reader.result) (tree_read c.gather.new.source) _
    (g.met.T.Tree.counts_modelled c.open.new.self) c.in_default.ensures.answer c.open.ensures.keeps
    c.open.ensures.counts c.new-reader.ensures.same_tree c.gather.ensures.keeps.1 c.gather.ensures.bounded
    c.gather.ensures.keeps.2 in
    let same = ap (λ t. open_model (g.T.Tree.snapshot t) (g.T.Tree.opened t)) c.new-reader.ensures.same_tree
    ∙ ap (λ s. open_model s (g.T.Tree.opened c.open.new.self)) c.open.ensures.keeps in (
      verdict_scanned (g.T.Tree.snapshot c.args.tree.now) c.args.name.now (g.T.Tree.opened c.open.new.self)
          c.in_default.ensures.answer c.in-Ok.scan
          (subst (λ input. IsBorrowedScanOf input (Ok c.in-Ok.scan)) same c.in-Ok.ensures.model),
      (c.in-Ok.ensures.trigrams, search rules),
    )

pub returns-in-Err-Read : goal.returns-in-Err-Read
returns-in-Err-Read g c =
    let reads = file_read g.T.Tree.snapshot g.T.Tree.opened g.T.Tree.read_counts (limits.bytes + 1) c.args.name.now
    c.args.tree.now c.open.new.self (tree_read c.new-reader.result) (tree_read c.gather.new.source) _
    (g.met.T.Tree.counts_modelled c.open.new.self) c.in_default.ensures.answer c.open.ensures.keeps
    c.open.ensures.counts c.new-reader.ensures.same_tree c.gather.ensures.keeps.1 c.gather.ensures.bounded
    c.gather.ensures.keeps.2 in
    let same = ap (λ t. open_model (g.T.Tree.snapshot t) (g.T.Tree.opened t)) c.new-reader.ensures.same_tree
    ∙ ap (λ s. open_model s (g.T.Tree.opened c.open.new.self)) c.open.ensures.keeps in (
      verdict_unread (g.T.Tree.snapshot c.args.tree.now) c.args.name.now (g.T.Tree.opened c.open.new.self) c.in_default.ensures.answer
          (subst (λ input. IsBorrowedScanOf input (Err fault.Read)) same (rw c.in-Err-Read.field-0-is at c.in-Err-Read.ensures.model)),
      search rules,
    )

pub returns-in-Err-Memory : goal.returns-in-Err-Memory
returns-in-Err-Memory g c =
    let reads = file_read g.T.Tree.snapshot g.T.Tree.opened g.T.Tree.read_counts (limits.bytes + 1) c.args.name.now
    c.args.tree.now c.open.new.self (tree_read c.new-reader.result) (tree_read c.gather.new.source) _
    (g.met.T.Tree.counts_modelled c.open.new.self) c.in_default.ensures.answer c.open.ensures.keeps
    c.open.ensures.counts c.new-reader.ensures.same_tree c.gather.ensures.keeps.1 c.gather.ensures.bounded
    c.gather.ensures.keeps.2 in
    search rules
