-- The std reader inside a source, and the std writer inside a sink.
use Rattle.cs_tree.specs.declared.std_io.StdSink.{StdSink}
use Rattle.cs_tree.specs.declared.std_io.StdSource.{StdSource}

abbrev pub reader_of : {R : Type 0} → StdSource R → R
reader_of source = source.inner

abbrev pub writer_of : {W : Type 0} → StdSink W → W
writer_of sink = sink.inner
