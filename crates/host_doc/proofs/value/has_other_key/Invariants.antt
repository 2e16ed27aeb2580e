use Rattle.std.proofs.Common.{◌≡◌}
use Rattle.std.specs.List.{list_any}
use Rattle.toml.specs.View.{table_view}
use Rattle.host_doc.specs.OtherKeys.{has_other_key}
use Rattle.host_doc.proofs.OtherKeysLemmas.{is_other}
use Rattle.host_doc.proofs.value.has_other_key.Given as goal

-- the keys that are left have another one exactly where the table has
abbrev pub invariant-loop-word : goal.invariant-loop-word
invariant-loop-word l = list_any (is_other l.keys) l.word-iterator ≡ has_other_key l.keys (table_view l.table)
