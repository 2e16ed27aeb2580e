use Rattle.std.proofs.Common.{◌≡◌, suc, ◌-◌, refl, subst, arith, rules}
use Rattle.std.proofs.lemmas.Option.{slice_get_read}
use Rattle.burst_bound.specs.Inside.Seeing.{IsUnseenCount}
use Rattle.burst_bound.proofs.UnseenLemmas.{all_seen, not_before, seen_behind}
use Rattle.burst_bound.proofs.seeing.unseen_until.Goals as goal

pub returns-then-unseen-eq0-clause-sees : goal.returns-then-unseen-eq0-clause-sees
returns-then-unseen-eq0-clause-sees c =
    let none : c.unseen_count-unseen.result ≡ 0 = search rules in
    all_seen c.args.event c.args.stints.now
    (subst (IsUnseenCount c.args.event c.args.stints.now) none c.unseen_count-unseen.ensures)

pub returns-clause-sees : goal.returns-clause-sees
returns-clause-sees c =
    let n = c.unseen_count-unseen.result in
    let stints = c.args.stints.now in
    let some : n ≡ suc (n - 1) = omega arith in
    let last = slice_get_read stints _ (n - 1) c.index-stints-unseen.result refl
    (let le = c.unseen_count-unseen.ensures.within in omega arith) c.index-stints-unseen.is in
    rw (← c.index-stints-unseen.is) (seen_behind c.args.event (n - 1) stints c.index-stints-unseen.result c.requires
    (subst (IsUnseenCount c.args.event stints) some c.unseen_count-unseen.ensures) last)

pub returns-clause-least : goal.returns-clause-least
returns-clause-least c = λ x sees.
    let n = c.unseen_count-unseen.result in
    let stints = c.args.stints.now in
    let some : n ≡ suc (n - 1) = omega arith in
    let last = slice_get_read stints _ (n - 1) c.index-stints-unseen.result refl
    (let le = c.unseen_count-unseen.ensures.within in omega arith) c.index-stints-unseen.is in
    rw (← c.index-stints-unseen.is) (not_before c.args.event (n - 1) x stints c.index-stints-unseen.result
    (subst (IsUnseenCount c.args.event stints) some c.unseen_count-unseen.ensures) last sees)
