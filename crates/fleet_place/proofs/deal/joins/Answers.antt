use Rattle.std.proofs.Common.{◌≡◌, ◌++◌, ◌∷◌, [], ap, arith, inl, inr, rules, subst, ◌∙◌}
use Rattle.fleet_place.specs.Fits.{IsAccepted, TooMany, TooMuch}
use Rattle.fleet_place.specs.Held.{sizes_in}
use Rattle.fleet_place.proofs.HeldLemmas.{count_push, load_push}
use Rattle.fleet_place.proofs.TurnLemmas.{known_again}
use Rattle.fleet_place.proofs.deal.joins.Goals as goal
use Rattle.fleet_place.proofs.deal.joins.Goals.{then-not-has_space-via-then-not-has_space, then-not-has_space-via-else-not-has_space+then-is_known}

pub returns-then-not-has_space-clause-fits_not : goal.returns-then-not-has_space-clause-fits_not
returns-then-not-has_space-clause-fits_not c = λ is. elim c.then-not-has_space.branch [
  | then-not-has_space-via-then-not-has_space w ↦
      elim (w.if-not-has_space.ensures.none (search rules)) [
        | inl much ↦ TooMuch (omega (arith, much, load_push c.args.host.now.vms c.args.vm.now))
        | inr many ↦ TooMany (omega (arith, many, count_push c.args.host.now.vms c.args.vm.now))
      ]
  | then-not-has_space-via-else-not-has_space+then-is_known w ↦
      known_again c.args.policy.now c.args.host.now c.args.vm.now c.args.refused.now
      (w.is_known.ensures w.if-is_known.true) c.requires.known
]

pub returns-clause-fits : goal.returns-clause-fits
returns-clause-fits c = λ yes.
    let much = c.if-not-has_space.ensures.much (search rules) in
    let many = c.if-not-has_space.ensures.many (search rules) in
    let sizes : c.deref.result.now ≡ sizes_in (c.args.host.now.vms ++ c.args.vm.now ∷ []) =
    c.deref.ensures.value ∙ (c.in_ok-sizes.ensures
    ∙ ap (λ vms. sizes_in (vms ++ c.args.vm.now ∷ [])) c.vms.ensures) in
    record {
      load = omega (arith, much, load_push c.args.host.now.vms c.args.vm.now);
      count = omega (arith, many, count_push c.args.host.now.vms c.args.vm.now);
      accepted = subst (λ n. IsAccepted c.args.policy.now n (sizes_in (c.args.host.now.vms ++ c.args.vm.now ∷ [])))
          c.cores.ensures.value (subst (IsAccepted c.args.policy.now c.cores.result) sizes (c.in_ok-fits.ensures.accepted yes));
    }
