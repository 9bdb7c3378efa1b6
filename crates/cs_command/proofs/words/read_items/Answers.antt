use Rattle.std.proofs.Common.{length, map, sym, ap, ◌∙◌, arith}
use Rattle.std.specs.Prelude.{string_bytes}
use Rattle.std.proofs.lemmas.Result.{err_from_is_err_and}
use Rattle.cs_command.specs.Words.{reading, after_word, items_after, items_at_end}
use Rattle.cs_command.proofs.WordLemmas.{no_word, all_items, read_word, faulty_word}
use Rattle.cs_command.proofs.words.read_items.Goals as goal

pub returns-in_err-next-clause-fault : goal.returns-in_err-next-clause-fault
returns-in_err-next-clause-fault c =
    let before = reading c.words.items.items c.words.next in
    let p = err_from_is_err_and c.from_residual.result c.from_residual.ensures.1 in
    rw (p.1, p.2) (λ known. c.words.invariant.same ∙ ap (λ rest. items_after before c.words.index (map string_bytes rest)) c.in-Some.ensures.cases.0
    ∙ faulty_word before c.words.index (string_bytes c.in-Some.word.now) (map string_bytes c.in-Some.behind.now) c.in_err-next.field-0.0
    (ap (after_word before c.words.index) (sym c.as_str.ensures.value) ∙ c.in_err-next.ensures.fault known))

pub words-preserved : goal.words-preserved
words-preserved c =
    let before = reading c.words.items.items c.words.next in
    let cases = c.in-Some.ensures.cases in
    record {
      same = c.words.invariant.same ∙ ap (λ rest. items_after before c.words.index (map string_bytes rest)) cases.0
          ∙ read_word before (reading c.read_word.new.items.items c.in_ok-next.next) c.words.index (string_bytes c.in-Some.word.now)
          (map string_bytes c.in-Some.behind.now)
          (ap (after_word before c.words.index) (sym c.as_str.ensures.value) ∙ c.in_ok-next.ensures.reads);
      count = omega (arith, c.words.invariant.count, ap length cases.0);
    }

pub returns-in-Value-clause-fault : goal.returns-in-Value-clause-fault
returns-in-Value-clause-fault c _ =
    c.words.invariant.same ∙ no_word c.words.items.items c.words.next c.words.index c.words.rest.now c.in_default.ensures.cases
    ∙ ap (items_at_end c.words.index c.words.items.items) c.in-Value.is

pub returns-in_default-next : goal.returns-in_default-next
returns-in_default-next c = record {
  items = c.words.invariant.same ∙ no_word c.words.items.items c.words.next c.words.index c.words.rest.now c.in_default.ensures.cases
      ∙ all_items c.words.index c.words.items.items c.words.next c.in_default-next.not-Value;
  fault = tt;
}
