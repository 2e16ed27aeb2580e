use Rattle.std.proofs.Common.{◌≡◌, ◌<◌, [], ◌∷◌, ◌++◌, length, Err, refl, sym, ap, ◌∙◌, get_or, arith, rules}
use Rattle.std.proofs.lemmas.Grind.{common_steps}
use Rattle.std.proofs.lemmas.List.{length-map}
use Rattle.std.proofs.lemmas.Result.{err_from_is_err_and}
use Rattle.tab_core.specs.declared.vcpu.Vcpu.{Vcpu}
use Rattle.vcpu_names.specs.Names.{name_at, names_of}
use Rattle.plan_text.specs.declared.read_fault.ReadPlan.TheVariants.{BadLine}
use Rattle.vcpu_names.proofs.NamesLemmas.{name_here}
use Rattle.plan_text.proofs.ReadingVcpuLemmas.{bad_behind_vcpu, bad_behind_vcpus, housed_more, housed_whole, lines_more, no_vcpus_yet, vcpu_is_bad}
use Rattle.plan_text.proofs.read_vcpus.read_vcpus.Goals as goal

pub loop-v-init : goal.loop-v-init
loop-v-init c =
    let none : c.new-homes.result.items ≡ [] = search rules in
    record {
      many = rw none refl;
      lines = rw none (no_vcpus_yet (names_of c.args.vcpus.now) c.args.tasks.now c.args.left.now.lines);
      housed = rw none refl;
      behind = λ bad is. is;
    }

pub returns-in_err-home-clause-bad_line : goal.returns-in_err-home-clause-bad_line
returns-in_err-home-clause-bad_line c = λ bad is.
    let p = err_from_is_err_and c.from_residual.result c.from_residual.ensures.1 in
    let same : c.in_err-home.field-0.0 ≡ BadLine bad = cc in
    let fault = c.in_err-home.ensures.bad_line bad (ap Err same) in
    let size = length-map c.args.vcpus.now (λ (v : Vcpu). v.name) in
    let low : c.loop-v.v < length c.args.vcpus.now = omega (arith, c.requires.named, c.loop-v-test.true) in
    let named : c.loop-v.v < length (names_of c.args.vcpus.now) = omega (arith, size, low) in
    let name : name_at (names_of c.args.vcpus.now) c.loop-v.v ≡ c.bytes.result.now =
    name_here c.args.vcpus.now c.loop-v.v c.index-vcpus-v.result low c.index-vcpus-v.is
    ∙ (ap (λ (v : Vcpu). v.name) c.index-vcpus-v.is ∙ sym c.bytes.ensures.same) in
    rw fault.0 (c.loop-v.invariant.behind _
    (vcpu_is_bad _ _ _ c.loop-v.v _ _ c.index-tasks-v.result _
    (omega (arith, c.requires.some_core)) named c.loop-v-test.true name (sym c.index-tasks-v.is) fault.1))

pub loop-v-preserved : goal.loop-v-preserved
loop-v-preserved c =
    let size = length-map c.args.vcpus.now (λ (v : Vcpu). v.name) in
    let many : length c.loop-v.homes.items ≡ c.loop-v.v = c.loop-v.invariant.many in
    let low : c.loop-v.v < length c.args.vcpus.now = omega (arith, c.requires.named, c.loop-v-test.true) in
    let named : c.loop-v.v < length (names_of c.args.vcpus.now) = omega (arith, size, low) in
    let name : name_at (names_of c.args.vcpus.now) c.loop-v.v ≡ c.bytes.result.now =
    name_here c.args.vcpus.now c.loop-v.v c.index-vcpus-v.result low c.index-vcpus-v.is
    ∙ (ap (λ (v : Vcpu). v.name) c.index-vcpus-v.is ∙ sym c.bytes.ensures.same) in
    let task : get_or c.args.tasks.now c.loop-v.v c.index-tasks-v.result ≡ c.index-tasks-v.result =
    sym c.index-tasks-v.is in
    let pushed : c.push.new.self.items ≡ c.loop-v.homes.items ++ c.in_ok-home.home ∷ [] =
    grind (arith, common_steps) in
    rw pushed (record {
      many = grind (arith, common_steps);
      lines = lines_more _ _ c.loop-v.v c.loop-v.homes.items c.in_ok-home.home c.bytes.result.now
          c.index-tasks-v.result _ _ _ many named c.loop-v-test.true name task c.loop-v.invariant.lines
          c.in_ok-home.ensures.lines;
      housed = housed_more _ _ c.loop-v.v c.index-tasks-v.result c.loop-v.homes.items c.in_ok-home.home
          c.loop-v-test.true c.loop-v.invariant.housed (rw task c.in_ok-home.ensures.housed);
      behind = λ bad is. c.loop-v.invariant.behind bad
          (bad_behind_vcpu _ _ _ c.loop-v.v _ _ _ _ c.in_ok-home.home _ _ bad named
          c.loop-v-test.true name task
          c.in_ok-home.ensures.housed c.in_ok-home.ensures.lines c.in_ok-home.ensures.number is);
    })

pub returns-clause-housed : goal.returns-clause-housed
returns-clause-housed c = housed_whole _ _ c.loop-v.v _
    (omega (arith, c.loop-v-test.false)) c.loop-v.invariant.housed

pub returns-clause-behind : goal.returns-clause-behind
returns-clause-behind c = λ bad is.
    c.loop-v.invariant.behind bad (bad_behind_vcpus _ _ _ c.loop-v.v _ _ bad (search rules) is)
