use Rattle.std.proofs.Common.{◌≡◌, ℕ, Bool, false, List, [], ◌++◌, take, ap, subst, ◌∙◌}
use Rattle.std.specs.Prelude.{IfOk}
use Rattle.cs_match.specs.Deciding.{Decides}
use Rattle.cs_lines.specs.Findings.{has_stopped, of_lines}
use Rattle.cs_tree.specs.SinkOutputs.{given}
use Rattle.cs_lines.specs.Streamed.{ended_of}
use Rattle.cs_lines.specs.Streams.{BeginsText, StreamsText, TextCut, TextStreamed}
use Rattle.cs_lines.proofs.FindingLemmas.{lines_found, never_stopped, tree_in}
use Rattle.cs_lines.proofs.PlaceLemmas.{ok_map}
use Rattle.cs_lines.proofs.ReadLemmas.{some_map}
use Rattle.cs_lines.specs.Work.{TakesRead, line_weight, shown_work}
use Rattle.cs_lines.proofs.WorkLemmas.{reads_lose}
use Rattle.cs_lines.proofs.source.print_input.Goals as goal

pub returns-clause-text : goal.returns-clause-text
returns-clause-text g c = λ tree is.
    let s0 = c.args.search.now in
    let s1 = c.print_source.new.search in
    let page = c.args.page.now in
    let limit = c.args.limit in
    let model = g.R.Source.model c.args.input.now in
    let g0 = given c.args.out.now in
    let g1 = given c.print_source.new.out in
    let result = c.print_source.result in
    let none : has_stopped s1 ≡ false = never_stopped s1 (c.print_source.ensures.same.1 ∙ ap tree_in is.1) in
    let text : IfOk result (StreamsText s0 s1 page limit model [] g0 g1) =
    subst (λ left. IfOk result (StreamsText s0 s1 page left model [] g0 g1)) c.begin.ensures.left
    (subst (λ (first : List ℕ). IfOk result (StreamsText s0 s1 page c.begin.new.self.left model first g0 g1)) c.begin.ensures.pending c.print_source.ensures.text) in
    ok_map result (λ streamed h.
    some_map {Q = λ source. (has_match : List ℕ → Bool) → Decides has_match tree →
    TextStreamed page (of_lines has_match) (ended_of limit source) ([] ++ take limit source.bytes) g0 g1 page.options.now.mode streamed} model
    (λ source h has_match decides. h none (of_lines has_match) (lines_found s0 tree has_match is decides)) h) text

pub returns-clause-begins : goal.returns-clause-begins
returns-clause-begins g c = λ tree is.
    let s0 = c.args.search.now in
    let s1 = c.print_source.new.search in
    let page = c.args.page.now in
    let limit = c.args.limit in
    let model = g.R.Source.model c.args.input.now in
    let g0 = given c.args.out.now in
    let g1 = given c.print_source.new.out in
    let result = c.print_source.result in
    let none : has_stopped s1 ≡ false = never_stopped s1 (c.print_source.ensures.same.1 ∙ ap tree_in is.1) in
    let begins : BeginsText s0 s1 page limit model [] g0 g1 result =
    subst (λ left. BeginsText s0 s1 page left model [] g0 g1 result) c.begin.ensures.left
    (subst (λ (first : List ℕ). BeginsText s0 s1 page c.begin.new.self.left model first g0 g1 result) c.begin.ensures.pending c.print_source.ensures.begins) in
    some_map {Q = λ source. (has_match : List ℕ → Bool) → Decides has_match tree →
    TextCut page (of_lines has_match) (ended_of limit source) ([] ++ take limit source.bytes) g0 g1 ([] ++ source.bytes) page.options.now.mode result} model
    (λ source h has_match decides. h none (of_lines has_match) (lines_found s0 tree has_match is decides)) begins

pub returns-clause-work : goal.returns-clause-work
returns-clause-work g c =
    let work = shown_work c.args.page.now.options.now (line_weight c.args.search.now) in
    let model = g.R.Source.model c.args.input.now in
    let later = g.R.Source.model c.print_source.new.input in
    let s0 = c.args.search.now in
    let s1 = c.print_source.new.search in
    subst (λ (left : ℕ). TakesRead work [] left model later s0 s1) c.begin.ensures.left
    (subst (λ (first : List ℕ). TakesRead work first c.begin.new.self.left model later s0 s1) c.begin.ensures.pending c.print_source.ensures.work)

pub returns-clause-loses : goal.returns-clause-loses
returns-clause-loses g c =
    reads_lose (shown_work c.args.page.now.options.now (line_weight c.args.search.now)) [] c.args.limit (g.R.Source.model c.args.input.now)
    (g.R.Source.model c.print_source.new.input) c.args.search.now c.print_source.new.search (returns-clause-work g c)
