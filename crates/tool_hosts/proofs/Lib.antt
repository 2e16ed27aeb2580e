pub mod EarlierLemmas
