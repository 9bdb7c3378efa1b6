use Rattle.std.proofs.Common.{◌≡◌, inr, [], List, map, reverse, sym, ◌∙◌, ap, arith}
use Rattle.cs_syntax.specs.Parsing.{tree, at_end}
use Rattle.cs_syntax.specs.PartialGroups.{whole_parse}
use Rattle.cs_syntax.specs.ParserState.{parse_at_end, state_of, partial_group, pending_group, group_of}
use Rattle.cs_syntax.specs.declared.parser.GroupFrame as frame_type
use Rattle.cs_syntax.proofs.PartialGroupLemmas.{whole_parse_end}
use Rattle.cs_syntax.proofs.ParserStateLemmas.{nothing_open, one_more_open}
use Rattle.cs_syntax.proofs.parser.Parser.end.Goals as goal

pub returns-in-Some-clause-syntax : goal.returns-in-Some-clause-syntax
unfolding parse_at_end state_of
returns-in-Some-clause-syntax c =
    let p = c.args.self in
    let was = ap reverse c.in-Some.ensures.items ∙ one_more_open c.pop.new.self.items c.in-Some.group in
    inr (ap (λ (os : List frame_type.GroupFrame). whole_parse (map (λ w. w.so_far) (map pending_group os))
    (partial_group p.builder) (at_end (map group_of (map pending_group os)))) was)

pub returns-clause-reads : goal.returns-clause-reads
unfolding parse_at_end state_of
returns-clause-reads c =
    let p = c.args.self in
    let none : p.open.items ≡ [] = nothing_open p.open.items (omega (arith, c.args.self.open.ok.0, c.in_default.ensures.cases.0)) in
    ap (λ (os : List frame_type.GroupFrame). whole_parse (map (λ w. w.so_far) (map pending_group (reverse os)))
    (partial_group p.builder) (at_end (map group_of (map pending_group (reverse os))))) none
    ∙ whole_parse_end (partial_group p.builder) ∙ ap tree (sym c.in_ok-finish.ensures)
