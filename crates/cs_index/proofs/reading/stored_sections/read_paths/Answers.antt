use Rattle.std.proofs.Common.{◌+◌, ◌-◌, ◌∙◌, ◌∷◌, ◌++◌, [], ap, sym, subst, ℕ, List, length, take, append_assoc}
use Rattle.cs_tree.specs.Store.{part_of}
use Rattle.cs_index.specs.Opening.{is_section}
use Rattle.cs_index.specs.SectionPieces.{IsTextRun, left_from}
use Rattle.cs_index.proofs.stored.SectionPieces.{run_bytes, run_taken, strings_before, window_begins, window_run}
use Rattle.cs_index.proofs.reading.stored_sections.read_paths.Goals as goal

pub returns-in_default-clause-paths : goal.returns-in_default-clause-paths
returns-in_default-clause-paths g c bytes m within =
    let i = c.pieces.invariant in
    let new = c.read_on.new.self in
    let piece : List ℕ = new.piece.items in
    let stop : ℕ = c.args.starts.now.names in
    let more : List ℕ = part_of bytes (new.start + length piece) (stop - new.start - length piece) in
    let begins = window_begins bytes stop c.pieces.window new c.pieces.used c.in_ok-read_on.ensures.start
    c.read_on.ensures.window (c.in_ok-read_on.ensures.piece bytes (i.keeps ∙ m) (i.piece bytes m)) in
    ap (is_section (0 ∷ [])) (i.left bytes m ∙ ap (λ l. c.pieces.paths.items ++ l) begins)
    ∙ i.strings (0 ∷ []) (piece ++ more)
    ∙ ap (λ p. is_section (0 ∷ []) (p ++ more)) (sym c.deref.ensures.value)
    ∙ (c.in_default.ensures.none more).closed

pub pieces-preserved : goal.pieces-preserved
pieces-preserved g c =
    let i = c.pieces.invariant in
    let new = c.read_on.new.self in
    let piece : List ℕ = new.piece.items in
    let run = c.in-Some.run' in
    let is : IsTextRun piece run = subst (λ (p : List ℕ). IsTextRun p run) c.deref.ensures.value c.in-Some.ensures.run in
    let strings = run_taken piece run.len is.texts is.within is.strings in
    let paths = c.in_ok-extend_from_slice.ensures.items ∙ ap (λ p. c.pieces.paths.items ++ take run.len p)
    c.deref-in-pieces.ensures.value ∙ ap (λ s. c.pieces.paths.items ++ s) strings in
    record {
      window = c.read_on.ensures.window;
      used = is.within;
      piece = λ bytes m. c.in_ok-read_on.ensures.piece bytes (i.keeps ∙ m) (i.piece bytes m);
      strings = λ closing rest.
          ap (λ p. is_section closing (p ++ rest)) paths
          ∙ ap (is_section closing) (append_assoc c.pieces.paths.items (run_bytes is.texts) rest)
          ∙ i.strings closing (run_bytes is.texts ++ rest) ∙ strings_before closing rest is.texts is.strings.0;
      left = λ bytes m.
          i.left bytes m
          ∙ ap (λ l. c.pieces.paths.items ++ l) (window_run bytes c.args.starts.now.names c.pieces.window new c.pieces.used run
          c.in_ok-read_on.ensures.start c.read_on.ensures.window
          (c.in_ok-read_on.ensures.piece bytes (i.keeps ∙ m) (i.piece bytes m)) is).1
          ∙ sym (append_assoc c.pieces.paths.items (run_bytes is.texts) (left_from bytes c.args.starts.now.names new run.len))
          ∙ ap (λ p. p ++ left_from bytes c.args.starts.now.names new run.len) (sym paths);
      keeps = c.read_on.ensures.store.0 ∙ i.keeps;
      size = c.read_on.ensures.store.1 ∙ i.size;
      failed = c.in_ok-read_on.ensures.store.2 ∙ i.failed;
    }
