use Rattle.std.proofs.Common.{subst, sym, ◌∙◌, rules}
use Rattle.tab_core.specs.Name.{IsName}
use Rattle.size_fit.proofs.NameLemmas.{is_good_name}
use Rattle.size_fit.proofs.more_vms.number_name.Goals as goal

pub unreachable-requires : goal.unreachable-requires
unreachable-requires c =
    c.of.ensures.bad_name (rw (c.in-Err-BadName.is, c.in-Err-BadName.field-0-is) (search rules))
    (subst IsName (sym (c.as_bytes.ensures.value ∙ c.in_ok-text.ensures.ok))
    (is_good_name c.args.number c.requires))
