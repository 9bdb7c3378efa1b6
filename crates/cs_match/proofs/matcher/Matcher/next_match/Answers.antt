use Rattle.std.proofs.Common.{◌≡◌, ℕ, Bool, ◌-◌, ◌≤◌, List, [], length, take, drop, sym, ap, subst, ◌∙◌, arith}
use Rattle.std.specs.Prelude.{slice_index}
use Rattle.std.proofs.lemmas.List.{take_rest}
use Rattle.cs_match.specs.Automaton.{Automaton}
use Rattle.cs_match.specs.Deciding.{Decides}
use Rattle.cs_match.specs.Lines.{terminated_lines}
use Rattle.cs_match.specs.MatchingEnds.{matching_ends}
use Rattle.cs_match.specs.Skipping.{NoneMatch}
use Rattle.cs_match.proofs.DecidabilityLemmas.{matching_is_decidable}
use Rattle.cs_match.proofs.ListingLemmas.{IsFirstEnd, first_end, first_matches, first_skips, first_taken, none_listed}
use Rattle.cs_match.proofs.matcher.Matcher.next_match.Goals as goal

pub returns-then-listed-eq0-clause-none : goal.returns-then-listed-eq0-clause-none
returns-then-listed-eq0-clause-none c = λ has_match decides.
    let block = c.args.block.now in
    let e = c.list_lines-listed.ensures.lists.listed in
    let all : c.list_lines-listed.result.to ≡ length block = c.list_lines-listed.ensures.all c.if-listed-eq0.true in
    let none = sym (e.listed has_match (subst (λ (a : Automaton). Decides has_match a.tree) (sym c.self.view_is) decides)) ∙ ap (λ n. take n c.list_lines-listed.new.ends) c.if-listed-eq0.true in
    subst (λ text. NoneMatch has_match (terminated_lines text))
    (ap (λ n. take (n - c.args.from) (drop c.args.from block)) all ∙ take_rest block c.args.from)
    (none_listed has_match block c.args.from c.list_lines-listed.result.to e.lines.low e.lines.high none)

-- the list is the end of the first matching line
first_of : (has_match : List ℕ → Bool) (block : List ℕ) (from to count : ℕ) (ends : List ℕ) → from ≤ to → to ≤ length block →
    length ends ≡ 1 → count ≤ length ends → (count ≡ 0 → ⊥) → take count ends ≡ matching_ends has_match block from to →
    IsFirstEnd has_match block from to (slice_index ends 0) []
first_of has_match block from to count ends low high len room some listed =
    let one : count ≡ 1 = omega (arith, len, room, some) in
    first_end has_match block from to (slice_index ends 0) [] low high
    (sym listed ∙ ap (λ n. take n ends) one ∙ first_taken ends (omega (arith, len)))

pub line_to-line-requires-clause-low : goal.line_to-line-requires-clause-low
line_to-line-requires-clause-low c =
    let e = c.list_lines-listed.ensures.lists.listed in
    let decided = matching_is_decidable c.args.self.now.tree in
    (first_of decided.0 c.args.block.now c.args.from c.list_lines-listed.result.to c.list_lines-listed.result.count c.list_lines-listed.new.ends
    e.lines.low e.lines.high c.list_lines-listed.auto.ends e.room c.if-listed-eq0.false (e.listed decided.0 (subst (λ (a : Automaton). Decides decided.0 a.tree) (sym c.self.view_is) decided.1))).low

pub line_to-line-requires-clause-newline : goal.line_to-line-requires-clause-newline
line_to-line-requires-clause-newline c =
    let e = c.list_lines-listed.ensures.lists.listed in
    let decided = matching_is_decidable c.args.self.now.tree in
    (first_of decided.0 c.args.block.now c.args.from c.list_lines-listed.result.to c.list_lines-listed.result.count c.list_lines-listed.new.ends
    e.lines.low e.lines.high c.list_lines-listed.auto.ends e.room c.if-listed-eq0.false (e.listed decided.0 (subst (λ (a : Automaton). Decides decided.0 a.tree) (sym c.self.view_is) decided.1))).newline

pub returns-clause-found : goal.returns-clause-found
returns-clause-found c =
    let e = c.list_lines-listed.ensures.lists.listed in
    let block = c.args.block.now in
    let start = c.line_to-line.result.start in
    let end = c.line_to-line.result.end in
    let decided = matching_is_decidable c.args.self.now.tree in
    let first = first_of decided.0 block c.args.from c.list_lines-listed.result.to c.list_lines-listed.result.count c.list_lines-listed.new.ends
    e.lines.low e.lines.high c.list_lines-listed.auto.ends e.room c.if-listed-eq0.false
    (e.listed decided.0 (subst (λ (a : Automaton). Decides decided.0 a.tree) (sym c.self.view_is) decided.1)) in
    (decided.1 (take (end - start) (drop start block))).0
    (first_matches decided.0 block c.args.from _ _ _ e.lines.high first start end c.line_to-line.ensures.end c.line_to-line.ensures.line)

pub returns-clause-none : goal.returns-clause-none
returns-clause-none c = λ has_match decides.
    let e = c.list_lines-listed.ensures.lists.listed in
    let block = c.args.block.now in
    let first = first_of has_match block c.args.from c.list_lines-listed.result.to c.list_lines-listed.result.count c.list_lines-listed.new.ends
    e.lines.low e.lines.high c.list_lines-listed.auto.ends e.room c.if-listed-eq0.false
    (e.listed has_match (subst (λ (a : Automaton). Decides has_match a.tree) (sym c.self.view_is) decides)) in
    first_skips has_match block c.args.from _ _ _ e.lines.high first c.line_to-line.result.start c.line_to-line.result.end
    c.line_to-line.ensures.end c.line_to-line.ensures.line
