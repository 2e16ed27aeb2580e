use Rattle.std.proofs.Common.{subst, sym, ◌∙◌, rules}
use Rattle.tab_core.specs.Name.{IsName}
use Rattle.host_gen.proofs.GeneratedLemmas.{is_good_name}
use Rattle.host_gen.proofs.generator.name_of.Goals as goal

pub unreachable-requires : goal.unreachable-requires
unreachable-requires c =
    c.of.ensures.bad_name (rw (c.in-Err-BadName.is, c.in-Err-BadName.field-0-is) (search rules))
    (subst IsName (sym (c.as_bytes.ensures.value ∙ c.in_ok-text.ensures.ok))
    (is_good_name c.args.number c.requires))
