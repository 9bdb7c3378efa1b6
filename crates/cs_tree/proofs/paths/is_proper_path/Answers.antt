use Rattle.std.specs.Path.{slash}
use Rattle.std.proofs.Common.{rules, sym, ◌∙◌, arith}
use Rattle.std.proofs.lemmas.Str.Pattern.{strip_prefix_char}
use Rattle.cs_tree.proofs.SplitLemmas.{split_says, unclean, proper_more, proper_last}
use Rattle.cs_tree.proofs.paths.is_proper_path.Goals as goal

pub returns-in_default : goal.returns-in_default
returns-in_default c = sym (unclean c.args.path.now
    (rw c.in_default.is at (strip_prefix_char slash c.args.path.now c.strip_prefix.result c.strip_prefix.ensures.cases
    (omega arith))))

pub elements-preserved : goal.elements-preserved
elements-preserved c =
    let split = (rw c.in-Some-split_once.is at (split_says c.elements.rest.now c.split_once.result c.split_once.ensures.cases)) in
    record {
      text = search rules;
      left = c.elements.invariant.left ∙ proper_more c.elements.rest.now c.in-Some-split_once.element.now
          c.in-Some-split_once.later.now split (sym c.is_proper.ensures ∙ c.if-not-is_proper.false);
    }

pub returns : goal.returns
returns c =
    let split = (rw c.in_default-split_once.is at (split_says c.elements.rest.now c.split_once.result c.split_once.ensures.cases)) in
    c.is_proper-2.ensures ∙ sym (c.elements.invariant.left ∙ proper_last c.elements.rest.now split)
