use Rattle.std.proofs.Common.{◌+◌, ◌∷◌, [], ℕ, List, Option, take, drop, refl, sym, ap, subst, ◌∙◌}
use Rattle.std.specs.Prelude.{option_map, map, string_bytes}
use Rattle.std.proofs.lemmas.List.{take_all}
use Rattle.std.proofs.lemmas.Result.{err_from_is_err_and}
use Rattle.cs_args.specs.declared.jobs.Tool.{Tool}
use Rattle.cs_tree.specs.Snapshot.{Snapshot}
use Rattle.cs_tree.proofs.ReadCountLemmas.{reads_nothing, reads_on}
use Rattle.cs_search.specs.InputReport.{max_searched}
use Rattle.cs_search.specs.Searcher.{Prints, PrintsAllFaults, PrintsPrefix}
use Rattle.cs_search.specs.Printed.{Printed, file_printed, all_printed}
use Rattle.cs_tree.proofs.NameLemmas.{mapped_more}
use Rattle.cs_search.proofs.PrintedInputLemmas.{Prints-none, Prints-both, PrintsPrefix-both, all_mapped, all_more, mapped_rest, done, undone, PrintsAllFaults-none, PrintsAllFaults-more, PrintsAllFaults-rest, PrintsAllFaults-refused}
use Rattle.cs_search.proofs.searching.Searcher.search_files.Goals as goal

pub loop-name-init : goal.loop-name-init
loop-name-init g c = record {
  prints = λ has_match decides. Prints-none (g.T.Tree.snapshot c.args.tree.now)
      (file_printed max_searched c.args.self.now.tool c.args.self.now.style has_match) (g.O.Sink.model c.args.out.now)
      (g.E.Sink.model c.args.err.now);
  faults = PrintsAllFaults-none c.args.self.now.tool done [] _ _ _ _ refl refl;
  out_failed = refl;
  err_failed = refl;
  kept = record { tool = refl; style = refl; lines = λ tree is. is };
  reads = reads_nothing (max_searched + 1) (g.T.Tree.read_counts c.args.tree.now);
  keeps = refl;
}

pub loop-name-preserved : goal.loop-name-preserved
loop-name-preserved g c =
    let i = c.loop-name.invariant in
    let s = c.in_ok-matched.ensures in
    record {
      prints = λ has_match decides.
          let self = c.args.self.now in
          let names = c.args.names.now in
          let at = c.loop-name.name-index in
          let item = c.name-item.result in
          let file = λ (s : Snapshot) (name : List ℕ). file_printed max_searched self.tool self.style has_match s name in
          let one = s.prints has_match (decides.0, i.kept.lines decides.0 decides.1, decides.2) in
          let tools = subst (λ t. Prints (option_map
          (λ (s : Snapshot). file_printed max_searched t c.loop-name.self.style has_match s c.as_str.result.now)
          (g.T.Tree.snapshot c.loop-name.tree)) (g.O.Sink.model c.loop-name.out) (g.O.Sink.model c.search_file.new.out)
          (g.E.Sink.model c.loop-name.err) (g.E.Sink.model c.search_file.new.err) c.in_ok-matched.field-0) i.kept.tool
          one in
          let styles = subst (λ t. Prints (option_map
          (λ (s : Snapshot). file_printed max_searched self.tool t has_match s c.as_str.result.now)
          (g.T.Tree.snapshot c.loop-name.tree)) (g.O.Sink.model c.loop-name.out) (g.O.Sink.model c.search_file.new.out)
          (g.E.Sink.model c.loop-name.err) (g.E.Sink.model c.search_file.new.err) c.in_ok-matched.field-0) i.kept.style
          tools in
          let trees = subst (λ tree. Prints (option_map (λ (s : Snapshot). file s c.as_str.result.now) tree)
          (g.O.Sink.model c.loop-name.out) (g.O.Sink.model c.search_file.new.out) (g.E.Sink.model c.loop-name.err)
          (g.E.Sink.model c.search_file.new.err) c.in_ok-matched.field-0) i.keeps styles in
          let last = subst (λ name. Prints (option_map (λ (s : Snapshot). file s name)
          (g.T.Tree.snapshot c.args.tree.now)) (g.O.Sink.model c.loop-name.out) (g.O.Sink.model c.search_file.new.out)
          (g.E.Sink.model c.loop-name.err) (g.E.Sink.model c.search_file.new.err) c.in_ok-matched.field-0)
          c.as_str.ensures.value trees in
          Prints-both (g.T.Tree.snapshot c.args.tree.now) (λ s. all_printed (file s) (map string_bytes (take at names)))
          (λ s. file s (string_bytes item)) (λ s. all_printed (file s) (map string_bytes (take (at + 1) names))) _ _ _ _
          _ _ c.loop-name.matched c.in_ok-matched.field-0
          (λ s. ap (all_printed (file s)) (mapped_more string_bytes names at item c.loop-name-test.true c.name-item.is)
          ∙ all_more (file s) (map string_bytes (take at names)) (string_bytes item))
          (i.prints has_match decides) last;
      faults =
          let tool = c.args.self.now.tool in
          let names = c.args.names.now in
          let at = c.loop-name.name-index in
          let item = c.name-item.result in
          let IsModelled = λ (t : Tool) (name : List ℕ). PrintsAllFaults t (name ∷ [])
          (g.T.Tree.failed c.loop-name.tree) (g.T.Tree.failed c.search_file.new.tree) (g.E.Sink.model c.loop-name.err)
          (g.E.Sink.model c.search_file.new.err) done in
          let last = subst (IsModelled tool) c.as_str.ensures.value (subst (λ t. IsModelled t c.as_str.result.now) i.kept.tool s.faults) in
          subst (λ l. PrintsAllFaults tool l (g.T.Tree.failed c.args.tree.now) (g.T.Tree.failed c.search_file.new.tree)
          (g.E.Sink.model c.args.err.now) (g.E.Sink.model c.search_file.new.err) done)
          (sym (mapped_more string_bytes names at item c.loop-name-test.true c.name-item.is))
          (PrintsAllFaults-more tool done (map string_bytes (take at names)) (string_bytes item ∷ []) _
          (g.T.Tree.failed c.loop-name.tree) _ _ (g.E.Sink.model c.loop-name.err) _ i.faults last);
      out_failed = s.counts.0.0 ∙ i.out_failed;
      err_failed = s.counts.0.1 ∙ i.err_failed;
      kept = record { tool = s.kept.tool ∙ i.kept.tool; style = s.kept.style ∙ i.kept.style; lines = λ tree is. s.kept.lines tree (i.kept.lines tree is) };
      reads = reads_on (max_searched + 1) (g.T.Tree.read_counts c.args.tree.now) (g.T.Tree.read_counts c.loop-name.tree)
          (g.T.Tree.read_counts c.search_file.new.tree) i.reads s.tree.1;
      keeps = s.tree.0 ∙ i.keeps;
    }

pub returns-clause-prints : goal.returns-clause-prints
returns-clause-prints g c = λ has_match decides.
    let i = c.loop-name.invariant in
    let names = c.args.names.now in
    subst (λ (l : List _). Prints (option_map
    (λ (tree : Snapshot). all_printed (file_printed max_searched c.args.self.now.tool c.args.self.now.style has_match
    tree) (map string_bytes l)) (g.T.Tree.snapshot c.args.tree.now)) (g.O.Sink.model c.args.out.now)
    (g.O.Sink.model c.loop-name.out) (g.E.Sink.model c.args.err.now) (g.E.Sink.model c.loop-name.err)
    c.loop-name.matched)
    (take_all c.loop-name.name-index names c.loop-name-test.false) (i.prints has_match decides)

pub returns-in_err-matched-clause-prints : goal.returns-in_err-matched-clause-prints
returns-in_err-matched-clause-prints g c =
    let p = err_from_is_err_and c.from_residual.result c.from_residual.ensures.1 in
    rw p.1 (λ has_match decides.
    let i = c.loop-name.invariant in
    let self = c.args.self.now in
    let names = c.args.names.now in
    let at = c.loop-name.name-index in
    let item = c.name-item.result in
    let file = λ (s : Snapshot) (name : List ℕ). file_printed max_searched self.tool self.style has_match s name in
    let Claim = λ (printed : Option Printed). PrintsPrefix printed (g.O.Sink.model c.loop-name.out)
    (g.O.Sink.model c.search_file.new.out) (g.E.Sink.model c.loop-name.err) (g.E.Sink.model c.search_file.new.err) in
    let one = c.in_err-matched.ensures.prints has_match (decides.0, i.kept.lines decides.0 decides.1, decides.2) in
    let tools = subst (λ t. Claim (option_map
    (λ (s : Snapshot). file_printed max_searched t c.loop-name.self.style has_match s c.as_str.result.now)
    (g.T.Tree.snapshot c.loop-name.tree))) i.kept.tool one in
    let styles = subst (λ t. Claim (option_map
    (λ (s : Snapshot). file_printed max_searched self.tool t has_match s c.as_str.result.now)
    (g.T.Tree.snapshot c.loop-name.tree))) i.kept.style tools in
    let trees = subst (λ tree. Claim (option_map (λ (s : Snapshot). file s c.as_str.result.now) tree)) i.keeps styles in
    let last = subst (λ name. Claim (option_map (λ (s : Snapshot). file s name) (g.T.Tree.snapshot c.args.tree.now)))
    c.as_str.ensures.value trees in
    PrintsPrefix-both (g.T.Tree.snapshot c.args.tree.now) (λ s. all_printed (file s) (map string_bytes (take at names)))
    (λ s. file s (string_bytes item)) (λ s. all_printed (file s) (map string_bytes (drop (at + 1) names)))
    (λ s. all_printed (file s) (map string_bytes names)) _ _ _ _ _ _ c.loop-name.matched
    (λ s. all_mapped (file s) string_bytes names at item c.loop-name-test.true c.name-item.is)
    (i.prints has_match decides) last)

pub returns-clause-faults : goal.returns-clause-faults
returns-clause-faults g c =
    let i = c.loop-name.invariant in
    subst (λ (l : List _). PrintsAllFaults c.args.self.now.tool (map string_bytes l) (g.T.Tree.failed c.args.tree.now)
    (g.T.Tree.failed c.loop-name.tree) (g.E.Sink.model c.args.err.now) (g.E.Sink.model c.loop-name.err) done)
    (take_all c.loop-name.name-index c.args.names.now c.loop-name-test.false) i.faults

pub returns-in_err-matched-clause-faults : goal.returns-in_err-matched-clause-faults
returns-in_err-matched-clause-faults g c =
    let p = err_from_is_err_and c.from_residual.result c.from_residual.ensures.1 in
    let i = c.loop-name.invariant in
    let tool = c.args.self.now.tool in
    let names = c.args.names.now in
    let at = c.loop-name.name-index in
    let item = c.name-item.result in
    let IsModelled = λ (t : Tool) (name : List ℕ). PrintsAllFaults t (name ∷ []) (g.T.Tree.failed c.loop-name.tree)
    (g.T.Tree.failed c.search_file.new.tree) (g.E.Sink.model c.loop-name.err) (g.E.Sink.model c.search_file.new.err)
    undone in
    let last = subst (IsModelled tool) c.as_str.ensures.value
    (subst (λ t. IsModelled t c.as_str.result.now) i.kept.tool c.in_err-matched.ensures.faults) in
    let faults = PrintsAllFaults-more tool undone (map string_bytes (take at names)) (string_bytes item ∷ [])
    (g.T.Tree.failed c.args.tree.now) (g.T.Tree.failed c.loop-name.tree) (g.T.Tree.failed c.search_file.new.tree)
    (g.E.Sink.model c.args.err.now) (g.E.Sink.model c.loop-name.err) (g.E.Sink.model c.search_file.new.err) i.faults
    last in
    PrintsAllFaults-refused tool c.from_residual.result p.0 (map string_bytes names) _ _ _ _ p.1
    (subst (λ l. PrintsAllFaults tool l (g.T.Tree.failed c.args.tree.now) (g.T.Tree.failed c.search_file.new.tree)
    (g.E.Sink.model c.args.err.now) (g.E.Sink.model c.search_file.new.err) undone)
    (sym (mapped_rest string_bytes names at item c.loop-name-test.true c.name-item.is))
    (PrintsAllFaults-rest tool undone _ (map string_bytes (drop (at + 1) names)) _ _ _ _ faults))

pub returns-in_err-matched-clause-tree : goal.returns-in_err-matched-clause-tree
returns-in_err-matched-clause-tree g c = (
  c.in_err-matched.ensures.tree.0 ∙ c.loop-name.invariant.keeps,
  reads_on (max_searched + 1) (g.T.Tree.read_counts c.args.tree.now) (g.T.Tree.read_counts c.loop-name.tree)
      (g.T.Tree.read_counts c.search_file.new.tree) c.loop-name.invariant.reads c.in_err-matched.ensures.tree.1,
)

pub returns-in_err-matched-clause-kept : goal.returns-in_err-matched-clause-kept
returns-in_err-matched-clause-kept g c =
    let i = c.loop-name.invariant in
    let s = c.in_err-matched.ensures in
    record { tool = s.kept.tool ∙ i.kept.tool; style = s.kept.style ∙ i.kept.style; lines = λ tree is. s.kept.lines tree (i.kept.lines tree is) }
