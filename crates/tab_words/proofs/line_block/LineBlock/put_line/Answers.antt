use Rattle.std.proofs.Common.{rules, ◌≡◌}
use Rattle.tab_words.proofs.BlockLemmas.{put_at_once}
use Rattle.tab_words.proofs.line_block.LineBlock.put_line.Goals as goal

pub returns : goal.returns
returns g c =
    let kept : c.append.new.bytes.items ≡ c.args.self.now = search rules in
    put_at_once _ _ _ _ _ _ _ _ _ (rw kept at c.write.ensures) c.in_ok-write.was c.put_words.ensures
    c.clear.ensures
