mod BitsLemmas
