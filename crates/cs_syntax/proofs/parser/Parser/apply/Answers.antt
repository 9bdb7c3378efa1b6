use Rattle.cs_syntax.proofs.parser.Parser.apply.Goals as goal

pub returns-in_ok-atom-in-Atom-clause-goes_on : goal.returns-in_ok-atom-in-Atom-clause-goes_on
returns-in_ok-atom-in-Atom-clause-goes_on c = rw c.in-Atom.is (c.in_ok-atom-in-Atom.ensures c.args.offset)

pub returns-in_ok-bar-in-Bar-clause-goes_on : goal.returns-in_ok-bar-in-Bar-clause-goes_on
returns-in_ok-bar-in-Bar-clause-goes_on c = rw c.in-Bar.is (c.in_ok-bar-in-Bar.ensures c.args.offset)

pub returns-in-FlagsFromHere-clause-goes_on : goal.returns-in-FlagsFromHere-clause-goes_on
returns-in-FlagsFromHere-clause-goes_on c = rw c.in-FlagsFromHere.is (c.set_flags.ensures c.args.offset)
