use Rattle.std.proofs.Common.{arith, rules, ◌≡◌, ◌∷◌, ◌≤◌, decimal}
use Rattle.tab_words.specs.Commands.{texts}
use Rattle.tab_words.proofs.CommandLemmas.{fault_of_cores, fault_of_gen, fault_of_vcpus, most_vcpus, reading_gen}
use Rattle.tab_words.proofs.command.read_gen.Goals as goal

pub returns-in_default : goal.returns-in_default
returns-in_default c = fault_of_gen (texts c.args.rest.now) (search rules)

pub returns-in_default-read_first : goal.returns-in_default-read_first
returns-in_default-read_first c =
    let words : texts c.args.rest.now ≡ decimal c.in-Some.seed ∷ texts c.in-Some.more.now = search rules in
    rw words (fault_of_cores c.in-Some.seed (texts c.in-Some.more.now) (omega (arith, c.in-Some.ensures.some))
    (search rules))

pub returns-in_default-read_first-2 : goal.returns-in_default-read_first-2
returns-in_default-read_first-2 c =
    let words : texts c.args.rest.now ≡ decimal c.in-Some.seed ∷ decimal c.in-Some-read_first.cores
    ∷ texts c.in-Some-read_first.more.now = search rules in
    rw words (fault_of_vcpus c.in-Some.seed c.in-Some-read_first.cores (texts c.in-Some-read_first.more.now)
    (omega (arith, c.in-Some.ensures.some)) (search rules) (search rules) (search rules))

pub returns : goal.returns
returns c =
    let words : texts c.args.rest.now ≡ decimal c.in-Some.seed ∷ decimal c.in-Some-read_first.cores
    ∷ decimal c.in-Some-read_first-2.vcpus ∷ texts c.in-Some-read_first-2.more.now = search rules in
    let few : c.in-Some-read_first-2.vcpus ≤ most_vcpus c.in-Some-read_first.cores = search rules in
    rw words (reading_gen c.in-Some.seed c.in-Some-read_first.cores c.in-Some-read_first-2.vcpus
    c.in-Some-read_first-2.more.now c.read_end.result (record {
      seed_fits = omega (arith, c.in-Some.ensures.some);
      some = search rules;
      few = search rules;
      few_vcpus = omega (arith, few);
      roomy = omega (arith, few);
    }) c.read_end.ensures)
