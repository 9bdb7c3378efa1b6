use Rattle.std.proofs.Common.{◌≡◌, ◌∙◌, ◌+◌, ◌++◌, ◌<◌, ◌≤◌, ◌^◌, Err, refl, sym, ap, subst, map, string_bytes, take, drop, true, List, arith}
use Rattle.cs_index.specs.LeastLength.{least_length}
use Rattle.cs_cindex.proofs.Common.{take_all, err_from_is_err_and, count_if, is_failed_write, Grows, AreWithinPathLimit, Memory, names_of, is_above, TakesPrefix, Diagnostic, text_of, noted_entries, AreTextsIn, AreAbove, HaveNamesOf, PrintsFiles}
use Rattle.cs_tree.proofs.NameLemmas.{mapped_more}
use Rattle.cs_cindex.specs.Effects.{effects}
use Rattle.cs_cindex.specs.ReadsFiles.{ReadsFile}
use Rattle.cs_cindex.proofs.IndexedFileLemmas.{names_at, names_rest, verdict_in_at, noted_at, texts_none, prints_none, above_none, texts_next, names_next, prints_step, above_next, above_first, ascend_next, prefix_read, prefix_noted, too_large}
use Rattle.cs_cindex.proofs.ReadLemmas.{files_read, files_unread}
use Rattle.cs_cindex.proofs.WalkAnswerLemmas.{files_failed, memory_failure, no_file_walked}
use Rattle.cs_cindex.proofs.indexer.Indexer.index_files.Goals as goal

pub returns-in_err-files-clause-indexes : goal.returns-in_err-files-clause-indexes
returns-in_err-files-clause-indexes g c =
    let p = err_from_is_err_and c.from_residual.result c.from_residual.ensures.1 in
    let to = effects g.T.Tree.snapshot g.T.Tree.failed g.E.Sink.model g.E.Sink.failed c.args.tree.now c.args.tree.now
    c.args.err.now c.args.err.now in
    let names = map string_bytes c.args.names.now in
    let log_skip = c.args.self.now.log_skip in
    files_failed log_skip names c.args.self.now.builder.entries to c.from_residual.result p.0 Memory p.1 p.2
    (memory_failure log_skip names to
    (no_file_walked log_skip to.tree.snapshot names to.tree.failed to.err.model)) refl

pub returns-in_err-files-clause-tree : goal.returns-in_err-files-clause-tree
returns-in_err-files-clause-tree g c =
    files_unread g.T.Tree.snapshot g.T.Tree.longest_requested g.T.Tree.read_counts c.args.tree.now

pub loop-name-init : goal.loop-name-init
loop-name-init g c = record {
  texts = texts_none (g.T.Tree.snapshot c.args.tree.now) c.args.self.now.builder.entries c.requires.empty;
  names = subst (HaveNamesOf (map string_bytes (take 0 c.args.names.now))) (sym c.requires.empty) tt;
  prints = prints_none c.args.self.now.log_skip (g.T.Tree.snapshot c.args.tree.now) (g.T.Tree.failed c.args.tree.now)
      (g.E.Sink.model c.args.err.now);
  small = subst (λ entries. least_length entries < 2 ^ 32) (sym c.requires.empty) (omega arith);
  ascend = c.requires.ascend;
  above = subst (λ entries. AreAbove entries (map string_bytes c.args.names.now)) (sym c.requires.empty)
      (above_none (map string_bytes c.args.names.now));
  paths = refl;
  log_skip = refl;
  writes = refl;
  path_limit = c.requires.path_limit;
  tree = files_unread g.T.Tree.snapshot g.T.Tree.longest_requested g.T.Tree.read_counts c.args.tree.now;
}

pub returns-in_err-verdict-clause-indexes : goal.returns-in_err-verdict-clause-indexes
returns-in_err-verdict-clause-indexes g c =
    let p = err_from_is_err_and c.from_residual-in_err-verdict.result c.from_residual-in_err-verdict.ensures.1 in
    let i = c.loop-name.invariant in
    let at = c.loop-name.name-index in
    let names = c.args.names.now in
    let to = effects g.T.Tree.snapshot g.T.Tree.failed g.E.Sink.model g.E.Sink.failed c.args.tree.now c.read_file.new.tree
    c.args.err.now c.loop-name.err in
    files_failed c.args.self.now.log_skip (map string_bytes names) c.loop-name.self.builder.entries to
    c.from_residual-in_err-verdict.result p.0 Memory p.1 p.2
    (memory_failure c.args.self.now.log_skip (map string_bytes names) to
    (prefix_read c.args.self.now.log_skip (g.T.Tree.snapshot c.args.tree.now) (map string_bytes (take at names))
    (g.T.Tree.failed c.args.tree.now) (g.T.Tree.failed c.loop-name.tree) (g.T.Tree.failed c.read_file.new.tree)
    (g.E.Sink.model c.args.err.now) (g.E.Sink.model c.loop-name.err) i.prints (map string_bytes names)
    (map string_bytes (drop at names)) (names_at string_bytes names at) c.in_err-verdict.ensures.counted))
    i.writes

pub returns-in_err-verdict-clause-tree : goal.returns-in_err-verdict-clause-tree
returns-in_err-verdict-clause-tree g c =
    let i = c.loop-name.invariant in
    let at = c.loop-name.name-index in
    let names = c.args.names.now in
    let name = string_bytes c.name-item.result in
    let rest = names_rest string_bytes names at c.name-item.result c.loop-name-test.true c.name-item.is in
    files_read g.T.Tree.snapshot g.T.Tree.longest_requested g.T.Tree.read_counts name c.args.tree.now c.loop-name.tree
    c.read_file.new.tree (subst AreWithinPathLimit rest i.path_limit).0 i.tree
    (subst (λ path. ReadsFile g.T.Tree.snapshot g.T.Tree.longest_requested g.T.Tree.read_counts path c.loop-name.tree
    c.read_file.new.tree) c.as_str.ensures.value c.read_file.ensures.tree)

pub note-requires-clause-above : goal.note-requires-clause-above
note-requires-clause-above g c =
    let at = c.loop-name.name-index in
    let names = c.args.names.now in
    let entries = c.loop-name.self.builder.entries in
    let item = c.name-item.result in
    subst (λ name. is_above (names_of entries) name ≡ true) (sym c.as_str-in-loop-name.ensures.value)
    (above_first entries (map string_bytes (drop at names)) (map string_bytes (drop (at + 1) names)) (string_bytes item)
    (names_rest string_bytes names at item c.loop-name-test.true c.name-item.is) c.loop-name.invariant.above)

pub returns-in_err-note-clause-indexes : goal.returns-in_err-note-clause-indexes
returns-in_err-note-clause-indexes g c =
    let p = err_from_is_err_and c.from_residual-in_err-note.result c.from_residual-in_err-note.ensures.1 in
    let i = c.loop-name.invariant in
    let at = c.loop-name.name-index in
    let names = c.args.names.now in
    let item = c.name-item.result in
    let rest = map string_bytes (drop (at + 1) names) in
    let verdict = c.in_ok-verdict.verdict in
    let model = g.T.Tree.snapshot c.args.tree.now in
    let now = g.E.Sink.model c.loop-name.err in
    let later = g.E.Sink.model c.note.new.err in
    let fault = c.in_err-note.field-0.0 in
    let noted = c.in_err-note.ensures.notes in
    let entries = c.loop-name.self.builder.entries in
    let to = effects g.T.Tree.snapshot g.T.Tree.failed g.E.Sink.model g.E.Sink.failed c.args.tree.now c.read_file.new.tree
    c.args.err.now c.note.new.err in
    files_failed c.args.self.now.log_skip (map string_bytes names) c.note.new.self.builder.entries to
    c.from_residual-in_err-note.result p.0 fault p.1 p.2 (
      noted.4,
      (λ e. too_large model (map string_bytes names) (map string_bytes (take (at + 1) names))
          (map string_bytes (drop (at + 1) names)) (entries ++ noted_entries (string_bytes item) verdict)
          (names_at string_bytes names (at + 1))
          (texts_next model (map string_bytes (take at names)) (map string_bytes (take (at + 1) names)) entries
          (entries ++ noted_entries (string_bytes item) verdict) (string_bytes item) verdict
          (mapped_more string_bytes names at item c.loop-name-test.true c.name-item.is) refl i.texts
          (verdict_in_at (g.T.Tree.snapshot c.loop-name.tree) model c.as_str.result.now (string_bytes item) verdict
          i.tree.2 c.as_str.ensures.value c.in_ok-verdict.ensures.model))
          (subst (λ n. 2 ^ 32 ≤ least_length (entries ++ noted_entries n verdict)) c.as_str-in-loop-name.ensures.value
          (noted.2 (ap Err e)))),
      prefix_noted c.args.self.now.log_skip model (map string_bytes (take at names)) (g.T.Tree.failed c.args.tree.now)
          (g.T.Tree.failed c.loop-name.tree) (g.T.Tree.failed c.read_file.new.tree)
          (g.E.Sink.model c.args.err.now) now i.prints later (map string_bytes names) rest (string_bytes item) verdict
          (names_at string_bytes names at ∙ ap (λ l. map string_bytes (take at names) ++ l)
          (names_rest string_bytes names at item c.loop-name-test.true c.name-item.is))
          (verdict_in_at (g.T.Tree.snapshot c.loop-name.tree) model c.as_str.result.now (string_bytes item) verdict i.tree.2
          c.as_str.ensures.value c.in_ok-verdict.ensures.model)
          c.in_ok-verdict.ensures.counted
          (subst (λ (lines : List Diagnostic). TakesPrefix (text_of lines) now later)
          (noted_at c.loop-name.self.log_skip c.args.self.now.log_skip c.as_str-in-loop-name.result.now
          (string_bytes item) verdict i.log_skip c.as_str-in-loop-name.ensures.value) noted.1),
    )
    (noted.3 ∙ ap (count_if (is_failed_write fault)) i.writes)

pub returns-in_err-note-clause-tree : goal.returns-in_err-note-clause-tree
returns-in_err-note-clause-tree g c =
    let i = c.loop-name.invariant in
    let at = c.loop-name.name-index in
    let names = c.args.names.now in
    let name = string_bytes c.name-item.result in
    let rest = names_rest string_bytes names at c.name-item.result c.loop-name-test.true c.name-item.is in
    files_read g.T.Tree.snapshot g.T.Tree.longest_requested g.T.Tree.read_counts name c.args.tree.now c.loop-name.tree
    c.read_file.new.tree (subst AreWithinPathLimit rest i.path_limit).0 i.tree
    (subst (λ path. ReadsFile g.T.Tree.snapshot g.T.Tree.longest_requested g.T.Tree.read_counts path c.loop-name.tree
    c.read_file.new.tree) c.as_str.ensures.value c.read_file.ensures.tree)

pub loop-name-preserved : goal.loop-name-preserved
loop-name-preserved g c =
    let i = c.loop-name.invariant in
    let at = c.loop-name.name-index in
    let names = c.args.names.now in
    let item = c.name-item.result in
    let name = string_bytes item in
    let verdict = c.in_ok-verdict.verdict in
    let model = g.T.Tree.snapshot c.args.tree.now in
    let entries = c.loop-name.self.builder.entries in
    let more = mapped_more string_bytes names at item c.loop-name-test.true c.name-item.is in
    let rest = names_rest string_bytes names at item c.loop-name-test.true c.name-item.is in
    let added = c.in_ok-note.ensures.notes.0 ∙ ap (λ n. entries ++ noted_entries n verdict) c.as_str-in-loop-name.ensures.value in
    let is = verdict_in_at (g.T.Tree.snapshot c.loop-name.tree) model c.as_str.result.now name verdict i.tree.2
    c.as_str.ensures.value c.in_ok-verdict.ensures.model in
    let printed = subst (λ (lines : List Diagnostic). Grows (g.E.Sink.model c.loop-name.err)
    (g.E.Sink.model c.note.new.err) (text_of lines))
    (noted_at c.loop-name.self.log_skip c.args.self.now.log_skip c.as_str-in-loop-name.result.now name verdict
    i.log_skip c.as_str-in-loop-name.ensures.value) c.in_ok-note.ensures.notes.1 in
    record {
      texts = texts_next model (map string_bytes (take at names)) (map string_bytes (take (at + 1) names)) entries
          c.note.new.self.builder.entries name verdict more added i.texts is;
      names = names_next (map string_bytes (take at names)) (map string_bytes (take (at + 1) names)) entries
          c.note.new.self.builder.entries name verdict more added i.names;
      prints = subst (λ ns. PrintsFiles c.args.self.now.log_skip model ns (g.T.Tree.failed c.args.tree.now)
          (g.T.Tree.failed c.read_file.new.tree) (g.E.Sink.model c.args.err.now) (g.E.Sink.model c.note.new.err))
          (sym more)
          (prints_step c.args.self.now.log_skip model (map string_bytes (take at names))
          (g.T.Tree.failed c.args.tree.now) (g.T.Tree.failed c.loop-name.tree)
          (g.T.Tree.failed c.read_file.new.tree)
          (g.E.Sink.model c.args.err.now) (g.E.Sink.model c.loop-name.err) i.prints (g.E.Sink.model c.note.new.err) name
          verdict is c.in_ok-verdict.ensures.counted printed);
      small = c.in_ok-note.ensures.small i.small;
      ascend = ascend_next (map string_bytes (drop at names)) (map string_bytes (drop (at + 1) names)) name rest i.ascend;
      above = above_next entries c.note.new.self.builder.entries (map string_bytes (drop at names))
          (map string_bytes (drop (at + 1) names)) name verdict rest added i.ascend i.above;
      paths = c.note.ensures.paths ∙ i.paths;
      log_skip = c.note.ensures.log_skip ∙ i.log_skip;
      writes = c.in_ok-note.ensures.notes.3 ∙ i.writes;
      path_limit = (subst AreWithinPathLimit rest i.path_limit).1;
      tree = files_read g.T.Tree.snapshot g.T.Tree.longest_requested g.T.Tree.read_counts name c.args.tree.now
          c.loop-name.tree c.read_file.new.tree (subst AreWithinPathLimit rest i.path_limit).0 i.tree
          (subst (λ path. ReadsFile g.T.Tree.snapshot g.T.Tree.longest_requested g.T.Tree.read_counts path
          c.loop-name.tree c.read_file.new.tree) c.as_str.ensures.value c.read_file.ensures.tree);
    }

pub returns-clause-indexes : goal.returns-clause-indexes
returns-clause-indexes g c =
    let i = c.loop-name.invariant in
    let all = take_all c.loop-name.name-index c.args.names.now c.loop-name-test.false in
    let model = g.T.Tree.snapshot c.args.tree.now in (
      (
        subst (λ names. AreTextsIn model (map string_bytes names) c.loop-name.self.builder.entries) all i.texts,
        subst (λ names. HaveNamesOf (map string_bytes names) c.loop-name.self.builder.entries) all i.names,
        subst (λ names. PrintsFiles c.args.self.now.log_skip model (map string_bytes names)
            (g.T.Tree.failed c.args.tree.now) (g.T.Tree.failed c.loop-name.tree) (g.E.Sink.model c.args.err.now)
            (g.E.Sink.model c.loop-name.err)) all i.prints,
      ),
      i.writes,
    )
