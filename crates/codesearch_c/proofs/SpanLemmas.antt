-- Spans of a pattern, found by its program.
use Rattle.std.proofs.Common.{◌≡◌, ℕ, suc, Bool, List, [], ◌∷◌, sym, subst}
use Rattle.cs_syntax.specs.Matching.{Tree}
use Rattle.cs_match.specs.SameLines.{MatchSameSpans}
use Rattle.cs_match.specs.Span.{IsMatchOf, HasNoMatchOf, IsFirstOf, AreSpansFrom}
use Rattle.cs_match.specs.SpanList.{IsListing}
use Rattle.cs_match.specs.declared.spans.Span.{Span}
use Rattle.cs_match.specs.declared.spans.ListedSpans.{ListedSpans}

-- a finder of the program finds the spans of the pattern
pub alike_by : (tree program held pattern : Tree) → tree ≡ program → held ≡ pattern → MatchSameSpans program held →
    MatchSameSpans tree pattern
alike_by tree program held pattern e f alike =
    let P : Tree → Type 0 = λ t. MatchSameSpans t pattern in
    let Q : Tree → Type 0 = λ t. MatchSameSpans program t in
    subst P (sym e) (subst Q f alike)

module _ (a b : Tree) (whole : Bool) (s : List ℕ) (alike : MatchSameSpans a b) where
  here : (from least i j : ℕ) → IsMatchOf whole a s from least i j → IsMatchOf whole b s from least i j
  here from least i j m = record {
    begins = m.begins;
    ends = m.ends;
    ordered = m.ordered;
    within = m.within;
    matches = (alike s i j).0 m.matches;
    word = m.word;
  }

  there : (from least i j : ℕ) → IsMatchOf whole b s from least i j → IsMatchOf whole a s from least i j
  there from least i j m = record {
    begins = m.begins;
    ends = m.ends;
    ordered = m.ordered;
    within = m.within;
    matches = (alike s i j).1 m.matches;
    word = m.word;
  }

  pub none_of : (from least : ℕ) → HasNoMatchOf whole a s from least → HasNoMatchOf whole b s from least
  none_of from least none i j m = none i j (there from least i j m)

  pub first_of : (from least i j : ℕ) → IsFirstOf whole a s from least i j → IsFirstOf whole b s from least i j
  first_of from least i j f = record {
    is = here from least i j f.is;
    leftmost = λ k l m. f.leftmost k l (there from least k l m);
    longest = λ l m. f.longest l (there from least i l m);
  }

  spans_of : (all : Bool) (from least : ℕ) (spans : List (ℕ × ℕ)) → AreSpansFrom all whole a s from least spans → AreSpansFrom all whole b s from least spans
  spans_of all from least [] h = λ e. none_of from least (h e)
  spans_of all from least (span ∷ spans) h = (first_of from least span.0 span.1 h.0, spans_of all span.1 (suc span.1) spans h.1)

  pub listing_of : (old new : List Span) (listed : ListedSpans) → IsListing whole a s old new listed → IsListing whole b s old new listed
  listing_of old new listed h =
      record { spans = spans_of _ 0 0 _ h.spans; within = h.within; size = h.size; rest = h.rest }
