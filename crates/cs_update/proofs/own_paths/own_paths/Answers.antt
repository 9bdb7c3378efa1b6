use Rattle.std.proofs.Common.{◌∙◌, ◌++◌, ◌∷◌, [], ap, append-nil, arith, false, map, string_bytes, sym, true}
use Rattle.std.proofs.lemmas.List.{map-append, take_all}
use Rattle.cs_tree.specs.Cover.{least}
use Rattle.cs_tree.specs.PathSet as set
use Rattle.cs_state.specs.StampedNames.{cover_of}
use Rattle.cs_update.specs.Learning.{is_learnable, seen_of}
use Rattle.cs_update.specs.Updating.{covers_seen}
use Rattle.cs_update.proofs.LearnableLemmas.{test_is}
use Rattle.cs_update.proofs.LearningLemmas.{covers_next}
use Rattle.cs_update.proofs.own_paths.own_paths.Goals as goal
use Rattle.cs_update.proofs.own_paths.own_paths.Goals.{then-takes_name+in_ok-path_cover+in_ok-push, else-takes_name}

pub files-preserved : goal.files-preserved
files-preserved c =
    let files = c.args.files.now in
    let at = c.files.file-index in
    let file = c.file-item.result in
    let tested = test_is _ _ c.as_str-name.utf8 c.takes_name.ensures ∙ ap is_learnable c.as_str-name.ensures.value in
    elim c.if-takes_name.branch [
      | then-takes_name+in_ok-path_cover+in_ok-push w ↦
          let cover = w.in_ok-path_cover.ensures ∙ ap cover_of c.as_str-name.ensures.value in
          (λ j. map string_bytes (w.covers-is j).items) ∙ ap (map string_bytes) w.in_ok-push.ensures.items
          ∙ map-append string_bytes c.files.covers.items (w.in_ok-path_cover.field-0 ∷ []) ∙ (λ j. c.files.invariant j ++ cover j ∷ [])
          ∙ covers_next files at file true c.files-test.true c.file-item.is (sym w.if-takes_name.true ∙ tested)
      | else-takes_name w ↦
          (λ j. map string_bytes (w.covers-is j).items) ∙ c.files.invariant ∙ sym (append-nil _)
          ∙ covers_next files at file false c.files-test.true c.file-item.is (sym w.if-takes_name.false ∙ tested)
    ]

pub returns : goal.returns
returns c =
    let files = c.args.files.now in
    c.in_ok-paths.ensures ∙ ap (λ ps. set.items (least (set.from_list ps)))
    (ap (map string_bytes) c.deref.ensures.value ∙ c.files.invariant
    ∙ ap (λ l. covers_seen (map seen_of l)) (take_all c.files.file-index files (omega (arith, c.files-test.false))))
