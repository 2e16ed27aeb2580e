use Rattle.std.proofs.Common.{ap, rules, ◌≡◌, [], ◌∷◌, codes}
use Rattle.std.proofs.lemmas.List.{nil_from_length}
use Rattle.tab_words.specs.Commands.{texts}
use Rattle.tab_words.proofs.CommandLemmas.{reading_check, reading_help, reading_version, fault_of_name, fault_of_none}
use Rattle.tab_words.proofs.command.reading_of.Goals as goal

pub returns-in_default : goal.returns-in_default
returns-in_default c =
    let none : texts c.args.words.now ≡ [] =
    ap texts (nil_from_length c.args.words.now c.in_default.ensures.cases) in
    rw none fault_of_none

pub returns-in-plan : goal.returns-in-plan
returns-in-plan c =
    let words : texts c.args.words.now ≡ codes "plan" ∷ texts c.in-Some.rest.now = search rules in
    rw words c.read_plan.ensures

pub returns-in-check : goal.returns-in-check
returns-in-check c =
    let words : texts c.args.words.now ≡ codes "check" ∷ texts c.in-Some.rest.now = search rules in
    rw words (reading_check c.in-Some.rest.now c.read_end.result c.read_end.ensures)

pub returns-in-replay : goal.returns-in-replay
returns-in-replay c =
    let words : texts c.args.words.now ≡ codes "replay" ∷ texts c.in-Some.rest.now = search rules in
    rw words c.read_replay.ensures

pub returns-in-run : goal.returns-in-run
returns-in-run c =
    let words : texts c.args.words.now ≡ codes "run" ∷ texts c.in-Some.rest.now = search rules in
    rw words c.read_run.ensures

pub returns-in-gen : goal.returns-in-gen
returns-in-gen c =
    let words : texts c.args.words.now ≡ codes "gen" ∷ texts c.in-Some.rest.now = search rules in
    rw words c.read_gen.ensures

pub returns-in-selftest : goal.returns-in-selftest
returns-in-selftest c =
    let words : texts c.args.words.now ≡ codes "selftest" ∷ texts c.in-Some.rest.now = search rules in
    rw words c.read_selftest.ensures

pub returns-in-text : goal.returns-in-text
returns-in-text c =
    let words : texts c.args.words.now ≡ codes "--help" ∷ texts c.in-Some.rest.now = search rules in
    rw words (reading_help c.in-Some.rest.now c.read_end-in-text.result c.read_end-in-text.ensures)

pub returns-in-text-2 : goal.returns-in-text-2
returns-in-text-2 c =
    let words : texts c.args.words.now ≡ codes "--version" ∷ texts c.in-Some.rest.now = search rules in
    rw words (reading_version c.in-Some.rest.now c.read_end-in-text-2.result c.read_end-in-text-2.ensures)

pub returns-in_default-as_str : goal.returns-in_default-as_str
returns-in_default-as_str c =
    let words : texts c.args.words.now ≡ c.as_str.result.now ∷ texts c.in-Some.rest.now = search rules in
    rw words (fault_of_name c.as_str.result.now (texts c.in-Some.rest.now) (record {
      no_plan = c.in_default-as_str.not-plan;
      no_check = c.in_default-as_str.not-check;
      no_replay = c.in_default-as_str.not-replay;
      no_run = c.in_default-as_str.not-run;
      no_gen = c.in_default-as_str.not-gen;
      no_selftest = c.in_default-as_str.not-selftest;
      no_help = c.in_default-as_str.not-text;
      no_version = c.in_default-as_str.not-text-2;
    }))
