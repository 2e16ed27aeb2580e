use Rattle.std.proofs.Common.{refl, ap, ◌∙◌}
use Rattle.std.proofs.lemmas.Option.{slice_get_read}
use Rattle.tab_core.specs.declared.vcpu.Vcpu.{Vcpu}
use Rattle.period_choice.proofs.tasks.is_reserved.Goals as goal

pub returns-then-number-vcpus : goal.returns-then-number-vcpus
returns-then-number-vcpus c = λ yes. (
  c.index-vcpus-number.result,
  slice_get_read c.args.vcpus.now _ c.args.number c.index-vcpus-number.result refl c.if-number-vcpus.true
      c.index-vcpus-number.is,
  ap (λ (v : Vcpu). v.reservation) c.index-vcpus-number.is ∙ c.are_same.ensures yes,
)
