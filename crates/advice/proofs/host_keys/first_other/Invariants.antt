use Rattle.std.proofs.Common.{◌≡◌}
use Rattle.toml.specs.View.{table_view}
use Rattle.advice.specs.Keys.{first_other}
use Rattle.advice.proofs.KeysLemmas.{first_word}
use Rattle.advice.proofs.host_keys.first_other.Given as goal

-- the keys that are left have the same first other one
abbrev pub invariant-loop-word : goal.invariant-loop-word
invariant-loop-word l = first_word l.keys l.word-iterator ≡ first_other l.keys (table_view l.table)
