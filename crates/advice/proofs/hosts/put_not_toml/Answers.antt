use Rattle.std.proofs.Common.{rules, ◌≤◌, length, refl}
use Rattle.advice.specs.Advice.{IsTomlText}
use Rattle.advice.specs.Inside.Again.{IsNoDocument}
use Rattle.advice.proofs.WritesLemmas.{tells_it, tells_nothing}
use Rattle.advice.proofs.hosts.put_not_toml.Goals as goal

pub returns-in_default : goal.returns-in_default
returns-in_default g c = tells_nothing (IsTomlText c.args.section.now) _
    (λ other tells. tells.no_document _ c.in_default.ensures.ok)

pub returns-in-Some : goal.returns-in-Some
returns-in-Some g c =
    let within : c.in-Some.span.start ≤ length c.args.section.now = search rules in
    let none : IsNoDocument c.args.section.now = search rules in
    let short : length c.args.section.now ≤ 2000000000 = search rules in
    rw c.of_sink.ensures (tells_it (IsTomlText c.args.section.now) _ _ _ _ (record {
      no_document = none;
      short = short;
      at = c.in-Some.span.start;
      message = c.as_bytes.result.now;
      within = within;
      is = refl;
    }) c.put_toml_fault.ensures)
