use Rattle.std.proofs.Common.{◌≡◌, length, sym, ap, ◌∙◌}
use Rattle.std.proofs.lemmas.List.{length-map}
use Rattle.tab_core.specs.declared.vcpu.Vcpu.{Vcpu}
use Rattle.vcpu_names.specs.Names.{names_of}
use Rattle.plan_text.proofs.ReadingHeadLemmas.{host_names}
use Rattle.plan_text.proofs.row_reader.RowReader.of.Goals as goal

pub invariant_of-result : goal.invariant_of-result
invariant_of-result c =
    let own : c.in_ok-names.names ≡ names_of c.args.host.now.vcpus =
    c.in_ok-names.ensures.names ∙ ap names_of c.items.ensures.same in (
      host_names c.args.host.now.vcpus c.in_ok-names.names own c.in_ok-names.ensures.good
          c.items.ensures.distinct,
      ap length own ∙ (length-map c.args.host.now.vcpus (λ (v : Vcpu). v.name)
          ∙ (sym c.requires.named ∙ ap length (sym c.items-2.ensures.same))),
    )

pub returns-clause-ok : goal.returns-clause-ok
returns-clause-ok c =
    let own : c.in_ok-names.names ≡ names_of c.args.host.now.vcpus =
    c.in_ok-names.ensures.names ∙ ap names_of c.items.ensures.same in
    record {
      own_names = own;
      own_tasks = c.items-2.ensures.same;
      homes = c.in_ok-front.front.homes.items;
      read = c.in_ok-front.ensures.ok;
    }
