use Rattle.std.proofs.Common.{sym, subst}
use Rattle.cs_syntax.specs.Matching.{more}
use Rattle.cs_trigram.specs.SequenceQuery.{IsSequenceQueryWith, AreSmall}
use Rattle.cs_trigram.specs.Analysis.{cross_size}
use Rattle.cs_trigram.specs.declared.sequence_query.SequenceQuery.{SequenceQuery}
use Rattle.cs_trigram.proofs.NodeListLemmas.{some_of, none_is}
use Rattle.cs_trigram.proofs.sequence_query.SequenceQuery.add.Goals as goal
use Rattle.cs_trigram.proofs.sequence_query.SequenceQuery.add.Goals.{in-Some+in_ok-prepend_few-in-Some, in-None+in_ok-cut-in-None}

pub returns-clause-required : goal.returns-clause-required
returns-clause-required c = λ t ts exact match_query suffixes prefixes exact_suffixes begin parts sequence_query.
    c.in_ok-add_cross.ensures.required t ts suffixes prefixes exact_suffixes begin
    (elim c.match-few_strings.branch [
      | in-Some+in_ok-prepend_few-in-Some w ↦
          let few = some_of c.few_strings.result w.in-Some.few _ _ c.few_strings.ensures w.in-Some.is t exact in
          subst (λ (q : SequenceQuery). IsSequenceQueryWith q (more t ts) ts) (sym w.self-is)
          (w.in_ok-prepend_few-in-Some.ensures.required t ts few parts sequence_query)
      | in-None+in_ok-cut-in-None w ↦
          let many = none_is c.few_strings.result _ _ c.few_strings.ensures w.in-None.is t exact in
          subst (λ (q : SequenceQuery). IsSequenceQueryWith q (more t ts) ts) (sym w.self-is)
          (w.in_ok-cut-in-None.ensures.required t ts many match_query sequence_query)
    ])

pub returns-clause-small : goal.returns-clause-small
returns-clause-small c = λ t ts exact match_query sequence_query small.
    c.in_ok-add_cross.ensures.small (more t ts)
    (elim c.match-few_strings.branch [
      | in-Some+in_ok-prepend_few-in-Some w ↦
          let few = some_of c.few_strings.result w.in-Some.few _ _ c.few_strings.ensures w.in-Some.is t exact in
          subst (λ (q : SequenceQuery). AreSmall cross_size q.conjuncts.items (more t ts)) (sym w.self-is)
          (w.in_ok-prepend_few-in-Some.ensures.small t ts few sequence_query small)
      | in-None+in_ok-cut-in-None w ↦
          let many = none_is c.few_strings.result _ _ c.few_strings.ensures w.in-None.is t exact in
          subst (λ (q : SequenceQuery). AreSmall cross_size q.conjuncts.items (more t ts)) (sym w.self-is)
          (w.in_ok-cut-in-None.ensures.small t ts many match_query sequence_query small)
    ])
