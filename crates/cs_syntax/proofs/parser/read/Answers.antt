use Rattle.std.proofs.Common.{◌≡◌, IfOk, IfErr, List, ℕ, sym, ◌∙◌, ap, subst, arith}
use Rattle.cs_syntax.specs.Parsing.{ParseResult, parse_result, tree}
use Rattle.cs_syntax.specs.Node.{tree_of}
use Rattle.cs_syntax.specs.ParserState.{ParserState, parse_from_state, parse_at_end, state_of, HasOperand, IsErrorOf}
use Rattle.cs_syntax.proofs.ParserStateLemmas.{parse_from_state-start, parse_from_state-end}
use Rattle.cs_syntax.proofs.parser.read.Goals as goal

pub text-init : goal.text-init
text-init c =
    let text = c.as_bytes-bytes.result.now in
    record {
      same = ap (λ (s : ParserState). parse_from_state s 0 0 text) c.new-parser.ensures ∙ parse_from_state-start text c.args.fold;
      kept = subst HasOperand (sym c.new-parser.ensures) tt;
      within = omega arith;
    }

pub returns-clause-reads : goal.returns-clause-reads
returns-clause-reads c =
    let text = c.as_bytes-bytes.result.now in
    let e : parse_result text c.args.fold ≡ parse_at_end (state_of c.text.parser) =
    sym c.text.invariant.same ∙ parse_from_state-end (state_of c.text.parser) text c.text.offset c.text-test.false in
    let f : parse_result c.args.text.now c.args.fold ≡ parse_at_end (state_of c.text.parser) =
    ap (λ (t : List ℕ). parse_result t c.args.fold) (sym c.as_bytes-bytes.ensures.value) ∙ e in
    subst (λ (r : ParseResult). IfOk c.end.result (λ n. r ≡ tree (tree_of n))) (sym f) c.end.ensures.reads

pub returns-clause-syntax : goal.returns-clause-syntax
returns-clause-syntax c =
    let text = c.as_bytes-bytes.result.now in
    let e : parse_result text c.args.fold ≡ parse_at_end (state_of c.text.parser) =
    sym c.text.invariant.same ∙ parse_from_state-end (state_of c.text.parser) text c.text.offset c.text-test.false in
    let f : parse_result c.args.text.now c.args.fold ≡ parse_at_end (state_of c.text.parser) =
    ap (λ (t : List ℕ). parse_result t c.args.fold) (sym c.as_bytes-bytes.ensures.value) ∙ e in
    subst (λ (r : ParseResult). IfErr c.end.result (IsErrorOf r)) (sym f) c.end.ensures.syntax
