-- Concatenation of lists of trees.
use Rattle.cs_syntax.specs.Matching.{Trees, none, more}

abbrev pub append : Trees → Trees → Trees
append none us = us
append (more t ts) us = more t (append ts us)
