use Rattle.std.proofs.Common.{inl, inr, ℕ, List, Bool, rules}
use Rattle.cs_syntax.specs.Node.{tree_of}
use Rattle.cs_syntax.specs.ParserState.{IsErrorOf}
use Rattle.cs_syntax.specs.Parsing.{parse_result}
use Rattle.cs_syntax.specs.ParseErrors.{IsParseError, syntax, memory}
use Rattle.cs_syntax.specs.declared.fault.PatternError.{PatternError}
use Rattle.cs_syntax.proofs.JoiningLemmas.{parsed_tree}
use Rattle.cs_syntax.proofs.ParseLemmas.{text_fault}
use Rattle.cs_syntax.proofs.parser.parse.Goals as goal

refused_text : (text : List ℕ) (fold : Bool) (e : PatternError) → IsErrorOf (parse_result text fold) e → IsParseError text fold e
refused_text text fold e (inl m) = memory m.0 m.1
refused_text text fold e (inr b) = syntax (text_fault text fold e.fault e.at b) b

pub returns-in_err-root-clause-rejected : goal.returns-in_err-root-clause-rejected
returns-in_err-root-clause-rejected c =
    let is : IsParseError c.args.text.now c.args.fold c.in_err-root.field-0.0 = refused_text c.args.text.now c.args.fold
    c.in_err-root.field-0.0 c.in_err-root.ensures.syntax in
    search rules

pub returns : goal.returns
returns c =
    let is = parsed_tree c.args.text.now c.args.fold (tree_of c.in_ok-root.root) c.new.result c.in_ok-root.ensures.reads c.new.ensures in
    record { reads = is.0; light = is.1; rejected = is.2 }
