use Rattle.std.proofs.Common.{◌≡◌, ◌≤◌, ℕ, arith, subst, sym}
use Rattle.sizes_doc.specs.Sizes.{IsTimeOr}
use Rattle.tool_hosts.proofs.judgements.window_in.Goals as goal

pub returns-clause-window : goal.returns-clause-window
returns-clause-window c =
    let held = c.in-Some.ensures in
    let least : 1000000 ≤ c.in-Some.ns = omega arith in
    let most : c.in-Some.ns ≤ 3600000000000 = omega arith in
    let same : c.in-Some.ns ≡ held.value = held.kept.exact (omega (arith, most)) in
    record {
      least = least;
      most = most;
      is = subst (λ (n : ℕ). IsTimeOr 1000000 c.args.word.now n) (sym same) held.is;
    }
