use Rattle.std.proofs.Common.{rules, ◌≡◌, length, refl, ap, ◌∙◌, arith, length-append}
use Rattle.host_gen.specs.GeneratorWords.{state_after, word_of_state}
use Rattle.host_gen.proofs.GeneratedLemmas.{admitted, distinct, generated_next, generated_none, state_at-more, state_at-zero, with_words}
use Rattle.host_gen.proofs.generator.generate.Goals as goal

pub loop-number-init : goal.loop-number-init
loop-number-init c = record {
  size = ap length c.in_ok-made.ensures.items;
  state = rw (state_at-zero c.args.seed) (search rules);
  each = generated_none _ _ _ c.in_ok-made.ensures.items;
}

pub loop-number-preserved : goal.loop-number-preserved
loop-number-preserved c =
    let items = c.in_ok-push.ensures.items in
    let before = c.loop-number.invariant in
    let first = c.take_word-first.ensures.state ∙ ap state_after before.state in
    record {
      size = rw items (simp length-append (omega (arith, before.size)));
      state = rw (state_at-more c.args.seed c.loop-number.number)
          (c.take_word-second.ensures.state ∙ ap state_after first);
      each = rw items (generated_next _ _ c.loop-number.number _ _ before.size before.each
          (with_words _ _ _ _ _ _ _ (c.take_word-first.ensures.word ∙ ap word_of_state before.state)
          (c.take_word-second.ensures.word ∙ ap word_of_state first) c.in_ok-vcpu_of.ensures));
    }

pub of-requires-clause-distinct : goal.of-requires-clause-distinct
of-requires-clause-distinct c =
    distinct c.args.seed c.most_percent-most.result c.loop-number.made.items (omega arith)
    c.loop-number.invariant.each

pub returns-clause-generated : goal.returns-clause-generated
returns-clause-generated c =
    let inv = c.loop-number.invariant in
    let all : c.loop-number.number ≡ c.args.vcpus = omega arith in
    record {
      tick_ns = refl;
      cores_are = refl;
      lag = refl;
      sliver = refl;
      quantum = refl;
      as_many = ap length c.of.ensures ∙ (inv.size ∙ all);
      each = rw (c.of.ensures, ← c.most_percent-most.ensures.value) inv.each;
    }

pub returns-clause-admitted : goal.returns-clause-admitted
returns-clause-admitted c = rw c.of.ensures
    (admitted c.args.seed c.most_percent-most.result c.loop-number.made.items c.loop-number.invariant.each)
