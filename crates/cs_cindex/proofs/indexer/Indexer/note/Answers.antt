use Rattle.std.proofs.Common.{Err, ap, refl, option_to_list}
use Rattle.cs_cindex.proofs.Common.{noted_entries, noted_line, prefix_none, text_of}
use Rattle.cs_cindex.proofs.IndexedFileLemmas.{full_is_large}
use Rattle.cs_cindex.proofs.indexer.Indexer.note.Goals as goal

pub returns-in-Err-TooLarge-clause-notes : goal.returns-in-Err-TooLarge-clause-notes
returns-in-Err-TooLarge-clause-notes g c = (
  tt,
  prefix_none (text_of (option_to_list (noted_line c.args.self.now.log_skip c.args.name.now c.args.verdict)))
      (g.E.Sink.model c.args.err.now),
  (λ e. full_is_large c.args.self.now.builder.entries (noted_entries c.args.name.now c.args.verdict)
      (c.in-Err-TooLarge.ensures.too_large.0 (ap Err c.in-Err-TooLarge.field-0-is)).2),
  refl,
  tt,
)
