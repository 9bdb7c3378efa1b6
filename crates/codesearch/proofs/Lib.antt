mod CallLemmas
mod Examples
mod ExecutionLemmas
mod IndexingLemmas
