mod AgainLemmas
mod KeyLinesLemmas
mod KeysLemmas
mod LeastLemmas
mod TextsLemmas
mod WritesLemmas
