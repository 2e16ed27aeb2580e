use Rattle.std.proofs.Common.{◌≡◌, ◌+◌, ◌<◌, ◌∷◌, ◌++◌, [], take, set, get_or, length, ap, sym, ◌∙◌, arith, length-set, take_all}
use Rattle.std.proofs.lemmas.List.{take_more, take_more_set}
use Rattle.line_bytes.proofs.tails.tail_of.Goals as goal

pub loop-at-preserved : goal.loop-at-preserved
loop-at-preserved c =
    let word = c.args.word.now in
    let l = c.loop-at in
    let room : l.at + 1 < length l.bytes = omega (arith, l.invariant.sized, c.requires) in
    record {
      sized = length-set l.bytes (l.at + 1) (get_or word l.at 0) ∙ l.invariant.sized;
      behind = take_more_set l.bytes (l.at + 1) (get_or word l.at 0) room
          ∙ (ap (λ xs. xs ++ get_or word l.at 0 ∷ []) l.invariant.behind
          ∙ ap (λ xs. 32 ∷ xs) (sym (take_more word l.at 0 c.loop-at-test.true)));
    }

pub returns : goal.returns
returns c =
    let word = c.args.word.now in
    let l = c.loop-at in
    let room : length word + 1 < length l.bytes = omega (arith, l.invariant.sized, c.requires) in
    let all : take l.at word ≡ word = take_all l.at word (omega arith) in
    let end : l.at ≡ length word = omega arith in
    let len : length word + 2 ≡ length word + 1 + 1 = omega arith in
    ap (λ n. take n (set l.bytes (length word + 1) c.args.behind)) len
    ∙ (take_more_set l.bytes (length word + 1) c.args.behind room
    ∙ (ap (λ n. take (n + 1) l.bytes ++ c.args.behind ∷ []) (sym end)
    ∙ (ap (λ xs. xs ++ c.args.behind ∷ []) l.invariant.behind
    ∙ ap (λ xs. 32 ∷ (xs ++ c.args.behind ∷ [])) all)))
