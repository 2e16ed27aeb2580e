mod StretchLemmas
mod TextLemmas
