use Rattle.std.proofs.Common.{ap}
use Rattle.cs_lines.specs.Streamed.{is_whole}
use Rattle.cs_project.specs.declared.file_search.FileSearch.{FileSearch}
use Rattle.cs_project.proofs.FileLemmas.{source_begun, source_cut, source_shown}
use Rattle.cs_project.proofs.VisitorLemmas.{on_any}
use Rattle.cs_project.proofs.file_search.FileSearch.show_source.Goals as goal

pub returns-in-Whole-clause-shown : goal.returns-in-Whole-clause-shown
returns-in-Whole-clause-shown g c =
    let old = c.args.self.now in
    let new : FileSearch = record old { search = c.print_file.new.search; buffer = c.print_file.new.buffer; marked = c.either-self.result } in
    source_shown old new c.args.name c.args.named c.binary_as.result c.binary_as.ensures c.args.out.now.sent.bytes c.print_file.new.out.sent.bytes
    (g.R.Source.model c.args.input.now) c.in_ok-streamed.streamed c.in_ok-streamed.ensures.text c.either-self.ensures (ap is_whole c.in-Whole.is)

pub returns-in-Failed-clause-shown : goal.returns-in-Failed-clause-shown
returns-in-Failed-clause-shown g c =
    let old = c.args.self.now in
    let new : FileSearch = record old {
      search = c.print_file.new.search;
      buffer = c.print_file.new.buffer;
      marked = c.either-self.result;
      reports = c.print.new.self;
    } in
    on_any c.print.result (source_cut old new c.args.name c.args.named c.binary_as.result c.binary_as.ensures c.args.out.now.sent.bytes
    c.print_file.new.out.sent.bytes (g.R.Source.model c.args.input.now) c.in_ok-streamed.streamed c.print_file.ensures.begins
    c.in_ok-streamed.ensures.found c.in_ok-streamed.ensures.ended c.either-self.ensures (ap is_whole c.in-Failed.is) c.print.ensures.reported)

pub returns-in-TooLong-clause-shown : goal.returns-in-TooLong-clause-shown
returns-in-TooLong-clause-shown g c =
    let old = c.args.self.now in
    let new : FileSearch = record old {
      search = c.print_file.new.search;
      buffer = c.print_file.new.buffer;
      marked = c.either-self.result;
      reports = c.print-in-TooLong.new.self;
    } in
    on_any c.print-in-TooLong.result (source_cut old new c.args.name c.args.named c.binary_as.result c.binary_as.ensures c.args.out.now.sent.bytes
    c.print_file.new.out.sent.bytes (g.R.Source.model c.args.input.now) c.in_ok-streamed.streamed c.print_file.ensures.begins
    c.in_ok-streamed.ensures.found c.in_ok-streamed.ensures.ended c.either-self.ensures (ap is_whole c.in-TooLong.is) c.print-in-TooLong.ensures.reported)

pub returns-in_err-streamed-clause-begins : goal.returns-in_err-streamed-clause-begins
returns-in_err-streamed-clause-begins g c =
    let old = c.args.self.now in
    let new : FileSearch = record old { search = c.print_file.new.search } in
    source_begun old new c.args.name c.args.named c.binary_as.result c.binary_as.ensures c.args.out.now.sent.bytes c.print_file.new.out.sent.bytes
    (g.R.Source.model c.args.input.now) c.print_file.ensures.begins

pub returns-in_err-check-clause-begins : goal.returns-in_err-check-clause-begins
returns-in_err-check-clause-begins g c =
    let old = c.args.self.now in
    let new : FileSearch = record old { search = c.print_file.new.search } in
    source_begun old new c.args.name c.args.named c.binary_as.result c.binary_as.ensures c.args.out.now.sent.bytes c.print_file.new.out.sent.bytes
    (g.R.Source.model c.args.input.now) c.print_file.ensures.begins

pub returns-in-Whole-clause-begins : goal.returns-in-Whole-clause-begins
returns-in-Whole-clause-begins g c =
    let old = c.args.self.now in
    let new : FileSearch = record old { search = c.print_file.new.search } in
    source_begun old new c.args.name c.args.named c.binary_as.result c.binary_as.ensures c.args.out.now.sent.bytes c.print_file.new.out.sent.bytes
    (g.R.Source.model c.args.input.now) c.print_file.ensures.begins

pub returns-in-Failed-clause-begins : goal.returns-in-Failed-clause-begins
returns-in-Failed-clause-begins g c =
    let old = c.args.self.now in
    let new : FileSearch = record old { search = c.print_file.new.search; reports = c.print.new.self } in
    source_begun old new c.args.name c.args.named c.binary_as.result c.binary_as.ensures c.args.out.now.sent.bytes c.print_file.new.out.sent.bytes
    (g.R.Source.model c.args.input.now) c.print_file.ensures.begins

pub returns-in-TooLong-clause-begins : goal.returns-in-TooLong-clause-begins
returns-in-TooLong-clause-begins g c =
    let old = c.args.self.now in
    let new : FileSearch = record old { search = c.print_file.new.search; reports = c.print-in-TooLong.new.self } in
    source_begun old new c.args.name c.args.named c.binary_as.result c.binary_as.ensures c.args.out.now.sent.bytes c.print_file.new.out.sent.bytes
    (g.R.Source.model c.args.input.now) c.print_file.ensures.begins
