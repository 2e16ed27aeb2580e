use Rattle.kernel_tables.specs.TablesText.{form_lines}
use Rattle.kernel_tables.proofs.TextLemmas.{on_ok_then, three_more}
use Rattle.kernel_tables.proofs.tables.put_form.Goals as goal

pub returns : goal.returns
unfolding form_lines
returns c = on_ok_then _ _ _
    (three_more c.args.text.now.items _ _ _ _ _ _ c.in_ok-put_bytes.ensures c.in_ok-put_hex.ensures) c.put_bytes-2.ensures
