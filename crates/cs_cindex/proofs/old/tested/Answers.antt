use Rattle.std.proofs.Common.{ap, sym, ◌∙◌, subst}
use Rattle.cs_cindex.proofs.Common.{list_all, is_normalized, are_distinct, OpensAsTables, TableParts}
use Rattle.cs_cindex.proofs.StoredIndexLemmas.{bad_paths, unsorted}
use Rattle.cs_cindex.proofs.old.tested.Goals as goal

pub returns-then-not-are_normalized-clause-opened : goal.returns-then-not-are_normalized-clause-opened
returns-then-not-are_normalized-clause-opened c = λ bytes opens.
    bad_paths bytes c.in_ok-base.base (subst (OpensAsTables bytes) c.in_ok-base.was opens) _
    (ap (λ (t : TableParts). list_all is_normalized t.paths) (sym c.tables-tables.ensures)
    ∙ ap (list_all is_normalized) (sym c.paths.ensures) ∙ sym c.are_normalized.ensures ∙ c.if-not-are_normalized.true)

pub returns-then-not-branch-clause-opened : goal.returns-then-not-branch-clause-opened
returns-then-not-branch-clause-opened c = λ bytes opens.
    unsorted bytes c.in_ok-base.base (subst (OpensAsTables bytes) c.in_ok-base.was opens) _
    (ap (λ (t : TableParts). list_all is_normalized t.paths) (sym c.tables-tables.ensures)
    ∙ ap (list_all is_normalized) (sym c.paths.ensures) ∙ sym c.are_normalized.ensures ∙ c.if-not-are_normalized.false)
    (ap (λ (t : TableParts). are_distinct t.names) (sym c.tables-tables.ensures)
    ∙ ap are_distinct (sym c.name_table.ensures) ∙ sym c.in_ok-are_distinct.ensures ∙ c.if-not-branch.true)
