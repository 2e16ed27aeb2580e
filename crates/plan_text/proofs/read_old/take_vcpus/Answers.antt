use Rattle.std.proofs.Common.{◌≡◌, ◌∷◌, ◌++◌, [], subst, sym, append_assoc, append-nil, arith}
use Rattle.std.proofs.lemmas.Grind.{common_steps}
use Rattle.plan_text.specs.FirstBad.{IsFirstBadFor}
use Rattle.plan_text.specs.Inside.OldReading.{IsSomeHomeLine, StartsOtherwise}
use Rattle.plan_text.specs.OldText.{AreOldRows, AreOldVcpus}
use Rattle.plan_text.proofs.OldReadingLemmas.{bad_behind_home_line, bad_behind_homes, vcpus_back}
use Rattle.plan_text.proofs.read_old.take_vcpus.Goals as goal

pub loop-vcpu-preserved : goal.loop-vcpu-preserved
loop-vcpu-preserved c =
    let vcpu = c.in-Some.vcpu in
    let taken = c.in-Some.ensures.some in
    let pushed : c.push.new.self.items ≡ c.loop-vcpu.vcpus.items ++ vcpu ∷ [] = grind (arith, common_steps) in
    rw pushed (record {
      text = λ more are. subst (λ vs. AreOldVcpus vs c.args.left.now.lines)
          (sym (append_assoc c.loop-vcpu.vcpus.items (vcpu ∷ []) more))
          (c.loop-vcpu.invariant.text (vcpu ∷ more) (vcpus_back taken.0 _ _ vcpu more taken.1 taken.2 are));
      behind = λ bad is. c.loop-vcpu.invariant.behind bad
          (bad_behind_home_line _ _ bad taken.0 _ _ vcpu taken.1 taken.2 taken.3 is);
    })

pub returns-clause-text : goal.returns-clause-text
returns-clause-text c = λ rows.
    subst (λ vs. AreOldVcpus vs c.args.left.now.lines) (append-nil c.loop-vcpu.vcpus.items)
    (c.loop-vcpu.invariant.text [] (subst (λ left. AreOldRows left.lines) c.in_default.ensures.none.0 rows))

pub returns-clause-behind : goal.returns-clause-behind
returns-clause-behind c = λ bad is.
    let none : StartsOtherwise IsSomeHomeLine c.loop-vcpu.left.lines = c.in_default.ensures.none.1 in
    c.loop-vcpu.invariant.behind bad (bad_behind_homes _ bad _ none
    (subst (λ left. IsFirstBadFor AreOldRows left.number left.lines bad) c.in_default.ensures.none.0 is))
