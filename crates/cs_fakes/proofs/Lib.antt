mod Examples
mod MemItemLemmas
mod NameLemmas
mod PathLemmas
