use Rattle.std.proofs.Common.{rules, ◌≡◌, ◌+◌, [], ◌∙◌, ap, arith}
use Rattle.cs_syntax.specs.Matching.{one_of, cat, more, none}
use Rattle.cs_syntax.specs.TreeList.{append}
use Rattle.cs_syntax.proofs.TreeListLemmas.{append_assoc_trees}
use Rattle.cs_match.specs.Glushkov.{position_count}
use Rattle.cs_match.specs.Parts.{run, optional_run, options, shape_of, shapes_of, HaveSameShape}
use Rattle.cs_match.specs.declared.parts.Fragment.{Fragment}
use Rattle.cs_match.proofs.PartLemmas.{shape_of-Run, shape_of-Options, shapes_last}
use Rattle.cs_match.proofs.ShapeLemmas.{position_count_run, shape_refl, before_same, copies_more}
use Rattle.cs_match.proofs.TraversalLemmas.{few_options}
use Rattle.cs_match.proofs.parts.add_part.Goals as goal

pub overflow_add-result : goal.overflow_add-result
overflow_add-result c =
    let n = c.in-Run-Run.n in
    let m = c.in-Run-Run.m in
    let e : shape_of c.args.last ≡ run n = ap shape_of c.in-Run-Run.is-0 ∙ shape_of-Run n in
    let f : shape_of c.args.part ≡ run m = ap shape_of c.in-Run-Run.is-1 ∙ shape_of-Run m in
    omega (arith, c.requires, ap position_count e, ap position_count f, position_count_run n, position_count_run m)

pub overflow_add-result-in-Options-Options : goal.overflow_add-result-in-Options-Options
overflow_add-result-in-Options-Options c =
    let n = c.in-Options-Options.n in
    let m = c.in-Options-Options.m in
    let k = c.in-Options-Options.count in
    let l = c.in-Options-Options.more in
    let e : shape_of c.args.last ≡ options n k = ap shape_of c.in-Options-Options.is-0 ∙ shape_of-Options n k in
    let f : shape_of c.args.part ≡ options m l = ap shape_of c.in-Options-Options.is-1 ∙ shape_of-Options m l in
    omega (arith, c.requires, ap position_count e, ap position_count f, few_options n k (omega arith), few_options m l (omega arith))

pub returns-in-Run-Run-clause-shape : goal.returns-in-Run-Run-clause-shape
returns-in-Run-Run-clause-shape c = λ ts.
    let n = c.in-Run-Run.n in
    let m = c.in-Run-Run.m in
    rw (ap shape_of c.in-Run-Run.is-0 ∙ shape_of-Run n, ap shape_of c.in-Run-Run.is-1 ∙ shape_of-Run m, shape_of-Run (n + m))
    (before_same (shapes_of c.args.parts.now.items) _ _ (copies_more (one_of []) n m ts))

pub returns-in-Options-Options-clause-shape : goal.returns-in-Options-Options-clause-shape
returns-in-Options-Options-clause-shape c = λ ts.
    let n = c.in-Options-Options.n in
    let k = c.in-Options-Options.count in
    let l = c.in-Options-Options.more in
    let same : c.in-Options-Options.m ≡ n = omega arith in
    rw (
      ap shape_of c.in-Options-Options.is-0 ∙ shape_of-Options n k,
      ap shape_of c.in-Options-Options.is-1 ∙ shape_of-Options c.in-Options-Options.m l,
      same,
      shape_of-Options n (k + l),
    )
    (before_same (shapes_of c.args.parts.now.items) _ _ (copies_more (optional_run n) k l ts))

pub returns-in_ok-push-in_default-clause-shape : goal.returns-in_ok-push-in_default-clause-shape
returns-in_ok-push-in_default-clause-shape c = λ ts.
    let us = shapes_of c.args.parts.now.items in
    let rest = more (shape_of c.args.part) ts in
    let whole = append us (more (shape_of c.args.last) rest) in
    let pushed : append (shapes_of c.push.new.self.items) rest ≡ whole =
    ap (λ ws. append ws rest) (ap shapes_of c.in_ok-push-in_default.ensures.items ∙ shapes_last c.args.parts.now.items c.args.last)
    ∙ append_assoc_trees us (more (shape_of c.args.last) none) rest in
    let by : (part : Fragment) → part ≡ c.args.part →
    HaveSameShape (cat whole) (cat (append (shapes_of c.push.new.self.items) (more (shape_of part) ts))) =
    λ part same. rw (same, pushed) (shape_refl (cat whole)) in
    by _ (search rules)
