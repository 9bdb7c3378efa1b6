use Rattle.std.proofs.Common.{◌≡◌, ◌≢◌, ◌≤◌, ◌<◌, ◌+◌, ◌-◌, ◌∙◌, ◌∷◌, [], ap, sym, ℕ, List, length, refl, arith, get_or, length-drop}
use Rattle.std.proofs.lemmas.List.{append-nil}
use Rattle.cs_index.specs.Opening.{number_at, texts_of}
use Rattle.cs_index.specs.ValidSections.{has_starts}
use Rattle.cs_index.proofs.decoding.StringSections.{section_read}
use Rattle.cs_index.proofs.stored.NameStarts.{end_there, goes_on, starts_last, starts_not, starts_wrong}
use Rattle.cs_index.proofs.stored.SectionPieces.{run_bytes}
use Rattle.cs_index.proofs.reading.entries.has_offsets.Goals as goal

pub returns-then-read_number-start : goal.returns-then-read_number-start
returns-then-read_number-start c =
    let some : 0 < length (texts_of c.args.names.now) = omega arith in
    sym (starts_wrong c.args.numbers.now 0 c.args.start (texts_of c.args.names.now) some
    (λ e. c.if-read_number-start.true (c.read_number.ensures ∙ e)))

pub names-init : goal.names-init
names-init c =
    let names : List ℕ = c.args.names.now in
    let read = section_read [] names c.requires.names in
    record {
      texts = texts_of names;
      each = read.0;
      bytes = read.1 ∙ append-nil (run_bytes (texts_of names));
      from = omega arith;
      number = omega arith;
      within = omega arith;
      whole = refl;
      few = omega arith;
      left = ap (λ n. has_starts c.args.numbers.now 0 n (texts_of names)) (let z : c.args.start ≡ c.args.start + 0 = omega arith in z);
    }

pub returns-then-not-begins_later : goal.returns-then-not-begins_later
returns-then-not-begins_later c =
    let i = c.names.invariant in
    let names : List ℕ = c.args.names.now in
    let to : ℕ = c.saturating_sub-to.result in
    let from : ℕ = c.names.from in
    let apart : (text : List ℕ) (more : List (List ℕ)) → i.texts ≡ text ∷ more →
    number_at c.args.numbers.now (c.names.at + 4) ≢ c.args.start + from + (length text + 1) = λ text more e n.
    let there = end_there names from text more (i.bytes ∙ ap run_bytes e) in
    let is : from + (length text + 1) ≡ to = omega (arith, n, c.read_number-in-names.ensures, c.saturating_sub-to.ensures) in
    let order : from < to = omega (arith, is) in
    c.if-not-begins_later.ensures.no refl order (omega (arith, there.0, is)) (ap (λ k. get_or names (k - 1) 0) (sym is) ∙ there.1) in
    let within : c.names.at + 12 ≤ length c.args.numbers.now = omega (arith, i.whole) in
    sym (i.left ∙ starts_not c.args.numbers.now c.names.at (c.args.start + from) i.number i.texts within apart)

pub names-preserved : goal.names-preserved
names-preserved c =
    let i = c.names.invariant in
    let names : List ℕ = c.args.names.now in
    let numbers : List ℕ = c.args.numbers.now in
    let to : ℕ = c.saturating_sub-to.result in
    let from : ℕ = c.names.from in
    let yes = c.if-not-begins_later.ensures.yes refl in
    let order : from < to = yes.0 in
    let next : number_at numbers (c.names.at + 4) ≡ c.args.start + to =
    omega (arith, order, c.read_number-in-names.ensures, c.saturating_sub-to.ensures) in
    let on = goes_on numbers names c.args.start c.names.at from to i.texts i.each i.bytes i.number next i.few order yes.1 yes.2 in
    record {
      texts = on.left;
      each = on.each;
      bytes = on.bytes;
      from = yes.1;
      number = next;
      within = omega (arith, i.whole);
      whole = omega (arith, i.whole);
      few = on.few;
      left = i.left ∙ on.starts;
    }

pub returns : goal.returns
returns c =
    let i = c.names.invariant in
    let names : List ℕ = c.args.names.now in
    let l = ap length i.bytes in
    let d = length-drop c.names.from names in
    let from = i.from in
    let within = i.within in
    starts_last c.args.numbers.now c.names.at (c.args.start + c.names.from) i.number i.texts c.names.from (length names)
    (omega arith) i.few (omega (arith, l, d, from))
    ∙ sym i.left
