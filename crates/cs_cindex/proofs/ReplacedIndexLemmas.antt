-- A walk that covers the base index replaces it.
use Rattle.std.proofs.Common.{◌≡◌, ◌∙◌, true, List, ℕ, Ok, Err, Result, sym, ap}
use Rattle.cs_cindex.proofs.Common.{and_from, are_distinct, least, Parts, are_whole, IndexFault, least_twice, MergesTo, IsReducedIndex}
use Rattle.cs_index.specs.Encoding.{encoding}
use Rattle.cs_index.specs.Opening.{opening}
use Rattle.cs_merge.specs.Replacing.{is_replaced}
use Rattle.cs_merge.proofs.ReplacedLemmas.{index_replaced}
use Rattle.cs_cindex.proofs.OldIndexLemmas.{OpensWith, opened_encoding}

module _ (old : Parts) (bytes : List ℕ) (once : are_distinct old.names ≡ true) (walk : IsReducedIndex bytes)
    (replaced : is_replaced (least walk.paths) old ≡ true) (whole : are_whole old ≡ true) where
  over : (opened : Result Parts IndexFault) → OpensWith opened (least walk.paths) walk.index.files → MergesTo old opened bytes
  over (Ok newer) has = (
    record {
      tested = record {
        distinct = and_from (are_distinct old.names) (are_distinct newer.names) once has.sound.distinct;
        covered = has.sound.covered;
      };
      whole = and_from (are_whole old) (are_whole newer) whole has.sound.whole;
    },
    walk.index.is
        ∙ sym (index_replaced old newer (ap (λ ps. is_replaced ps old) has.paths_are ∙ replaced)
        ∙ (λ i. encoding (least (has.paths_are i)) (has.files_are i))
        ∙ ap (λ ps. encoding ps walk.index.files) (least_twice walk.paths)),
  )
  over (Err fault) has = absurd has

  pub replaced_merges : MergesTo old (opening bytes) bytes
  replaced_merges = over (opening bytes)
      (opened_encoding bytes (least walk.paths) walk.index.files walk.index.content walk.index.under walk.index.is walk.short)
