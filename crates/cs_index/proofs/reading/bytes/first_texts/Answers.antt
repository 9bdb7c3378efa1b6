use Rattle.std.proofs.Common.{rules, ◌≡◌, ◌-◌, ◌∙◌, ◌++◌, ◌<◌, ap, sym, subst, true, false, arith, List, ℕ, length, get_or, take, drop, append_assoc, length-drop, length-take-le}
use Rattle.std.proofs.lemmas.List.Sums.{count_by-le-length}
use Rattle.std.proofs.lemmas.Str.{IsUtf8-from_is_utf8}
use Rattle.std.specs.List.{count_by}
use Rattle.std.specs.Str.{is_utf8}
use Rattle.cs_index.specs.Decoding.{AreStrings}
use Rattle.cs_index.specs.Nuls.{AreTextsTo, is_nul}
use Rattle.cs_index.specs.SectionPieces.{IsNoSection}
use Rattle.cs_index.specs.ValidSections.{HasNoText}
use Rattle.cs_index.proofs.decoding.StringScan.{not_utf8, yes_utf8}
use Rattle.cs_index.proofs.stored.NulRuns.{none_after, texts_to}
use Rattle.cs_index.proofs.stored.SectionPieces.{nul_no, none_on, run_bytes}
use Rattle.cs_index.proofs.stored.TextRuns.{ArePlain, bad_run, good_run, plain_taken}
use Rattle.cs_index.proofs.reading.bytes.first_texts.Goals as goal

-- the strings whose UTF-8 is not tested yet, and what follows them
record Split (piece : List ℕ) (len : ℕ) : Type 0 where
  texts : List (List ℕ)
  plain : ArePlain (drop len piece) texts piece
  count : count_by is_nul (take len piece) ≡ length texts
  bytes : take len piece ≡ run_bytes texts

split_at : (piece : List ℕ) (len : ℕ) → AreTextsTo piece len → Split piece len
split_at piece len are =
    let found = texts_to piece len are in
    let l = length-drop len piece in
    let same : length piece - length (drop len piece) ≡ len = omega (arith, l, are.within) in
    record {
      texts = found.0;
      plain = found.1;
      count = found.2;
      bytes = ap (λ n. take n piece) (sym same) ∙ plain_taken piece (drop len piece) found.0 found.1.1;
    }

pub returns-then-is_err-clause-none : goal.returns-then-is_err-clause-none
returns-then-is_err-clause-none c =
    let piece : List ℕ = c.args.piece.now in
    let len : ℕ = c.texts_len.result in
    let split = split_at piece len c.texts_len.ensures in
    let bad : is_utf8 (take len piece) ≡ false =
    ap is_utf8 (sym c.split_at.ensures.front) ∙ not_utf8 _ _ c.from_utf8.result c.split_at.result.0.now c.from_utf8.ensures.cases
    (sym c.is_err.ensures.value ∙ c.if-is_err.true) in
    λ more. subst IsNoSection
    (sym (ap (λ (p : List ℕ). p ++ more) split.plain.1 ∙ append_assoc (run_bytes split.texts) (drop len piece) more))
    (bad_run split.texts (drop len piece ++ more) split.plain.0 (ap is_utf8 (sym split.bytes) ∙ bad))

-- the strings are UTF-8
good : (piece : List ℕ) (len : ℕ) (split : Split piece len) → is_utf8 (take len piece) ≡ true →
    AreStrings (drop len piece) split.texts piece
good piece len split is = (
  good_run split.texts split.plain.0 (IsUtf8-from_is_utf8 (run_bytes split.texts) (ap is_utf8 (sym split.bytes) ∙ is)),
  split.plain.1,
)

pub returns-then-rest-eq0-clause-none : goal.returns-then-rest-eq0-clause-none
returns-then-rest-eq0-clause-none c =
    let piece : List ℕ = c.args.piece.now in
    let len : ℕ = c.texts_len.result in
    let split = split_at piece len c.texts_len.ensures in
    let is : is_utf8 (take len piece) ≡ true = ap is_utf8 (sym c.split_at.ensures.front)
    ∙ yes_utf8 _ _ c.from_utf8.result c.split_at.result.0.now c.from_utf8.ensures.cases (sym c.is_err.ensures.value ∙ c.if-is_err.false) in
    let first : get_or (drop len piece) 0 0 ≡ 0 = ap (λ (r : List ℕ). get_or r 0 0) (sym c.split_at.ensures.back) ∙ c.if-rest-eq0.true in
    let l = ap length c.split_at.ensures.back in
    let long : 1 < length (drop len piece) = omega (arith, l, c.if-rest-gt1.true) in
    λ more. none_on piece (drop len piece) more split.texts (good piece len split is) (nul_no (drop len piece) more first long)

pub returns-clause-run : goal.returns-clause-run
returns-clause-run c =
    let piece : List ℕ = c.args.piece.now in
    let len : ℕ = c.texts_len.result in
    let split = split_at piece len c.texts_len.ensures in
    let is : is_utf8 (take len piece) ≡ true = ap is_utf8 (sym c.split_at.ensures.front)
    ∙ yes_utf8 _ _ c.from_utf8.result c.split_at.result.0.now c.from_utf8.ensures.cases (sym c.is_err.ensures.value ∙ c.if-is_err.false) in
    let long : length c.split_at.result.0.now ≡ len = search rules in
    let few = count_by-le-length is_nul (take len piece) in
    let t = length-take-le len piece c.texts_len.ensures.within in
    let same : c.count_nuls.result ≡ length split.texts =
    c.count_nuls.ensures ∙ ap (count_by is_nul) c.split_at.ensures.front ∙ split.count in
    record {
      within = omega (arith, long, c.texts_len.ensures.within);
      few = omega (arith, long, few, t, same, split.count);
      texts = split.texts;
      count = sym same;
      strings = subst (λ n. AreStrings (drop n piece) split.texts piece) (sym long) (good piece len split is);
      rest = subst (λ n. HasNoText (drop n piece)) (sym long) (none_after piece len c.texts_len.ensures);
    }
