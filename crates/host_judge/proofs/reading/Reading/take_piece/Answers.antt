use Rattle.std.proofs.Common.{◌≡◌, ◌++◌, rules}
use Rattle.host_judge.proofs.PieceLemmas.{piece_fault, piece_read}
use Rattle.host_judge.proofs.reading.Reading.take_piece.Goals as goal

pub returns-in-Err-clause-fault : goal.returns-in-Err-clause-fault
returns-in-Err-clause-fault c = λ bytes has.
    let text : c.deref.result.now ≡ c.args.held.now.items ++ c.split_at.result.0.now = search rules in
    let bad = rw text at c.in-Err.ensures.fault in
    piece_fault bytes _ _ _ _ c.in-Some.end _ _ _ has c.in-Some.ensures.0 c.in-Some.ensures.1
    c.split_at.ensures.front c.split_at.ensures.back bad

pub returns-clause-read : goal.returns-clause-read
returns-clause-read c = λ bytes has.
    let text : c.deref.result.now ≡ c.args.held.now.items ++ c.split_at.result.0.now = search rules in
    let read = rw text at c.in_default-take_lines.ensures.read in
    let rest : c.extend_from_slice-3.new.self.items ≡ c.split_at.result.1.now = search rules in
    rw rest (piece_read bytes _ _ _ _ c.in-Some.end _ _ has c.in-Some.ensures.0 c.in-Some.ensures.1
    c.split_at.ensures.front c.split_at.ensures.back read)
