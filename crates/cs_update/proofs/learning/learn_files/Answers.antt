use Rattle.std.proofs.Common.{subst, ◌∙◌, map, arith}
use Rattle.std.proofs.lemmas.List.{take_all}
use Rattle.cs_update.specs.Learning.{HasLearned, all_learned, run_of, seen_of}
use Rattle.cs_update.proofs.LearningLemmas.{learned_next}
use Rattle.cs_update.proofs.learning.learn_files.Goals as goal

pub files-preserved : goal.files-preserved
files-preserved g c =
    let was = c.files.invariant in
    let call = c.args.call.now in
    record {
      learned = λ items is. subst (HasLearned c.learn_file.new.own)
          (learned_next (run_of call items (g.T.Look.stamps items)) call.files.now c.files.file-index c.file-item.result c.files-test.true
          c.file-item.is)
          (c.in_ok-learn_file.ensures.learned items (was.keeps ∙ is) _ (was.learned items is));
      paths = c.in_ok-learn_file.ensures.paths ∙ was.paths;
      keeps = c.in_ok-learn_file.ensures.keeps ∙ was.keeps;
    }

pub returns-clause-learned : goal.returns-clause-learned
returns-clause-learned g c = λ items is.
    let call = c.args.call.now in
    subst (λ files. HasLearned c.files.own (all_learned (run_of call items (g.T.Look.stamps items)) (map seen_of files)))
    (take_all c.files.file-index call.files.now (omega (arith, c.files-test.false))) (c.files.invariant.learned items is)
