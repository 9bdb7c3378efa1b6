mod Examples
mod FreshLemmas
mod KnownProjectLemmas
mod LaterLemmas
mod NotedLemmas
mod StateKnowledgeLemmas
