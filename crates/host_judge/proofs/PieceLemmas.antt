-- The lines of a text that is read in pieces.
use Rattle.std.proofs.Common.{arith, ◌≡◌, ℕ, ◌<◌, true, false, if◌then◌else◌, List, [], ◌∷◌, ◌++◌, length, map, ap, refl, sym, ◌∙◌, ⊎_elim, append_assoc, inr, get_or, take, drop, ◌+◌}
use Rattle.std.specs.Bool.{◌==◌}
use Rattle.std.specs.List.{onto_first}
use Rattle.std.proofs.lemmas.List.{map-append, take-append-drop, take_more}
use Rattle.tab_words.specs.Lines.{lines_of, raw_lines_of, without_feed}
use Rattle.host_judge.specs.Faults.{IsFaultIn}
use Rattle.host_judge.specs.Inside.Readings.{HasReadBytes, HasReadLines, IsEnded}
use Rattle.host_judge.specs.declared.fault.JudgeFault.{JudgeFault}
use Rattle.host_judge.specs.declared.reading.Reading.{Reading}
use Rattle.host_judge.proofs.ReadingLemmas.{fault_more}

-- lines that begin with one more byte
onto_first-append : (byte : ℕ) (lines more : List (List ℕ)) → 0 < length lines
    → onto_first byte (lines ++ more) ≡ onto_first byte lines ++ more
onto_first-append byte [] more some = absurd (omega arith)
onto_first-append byte (line ∷ lines) more some = refl

-- there is a line where there is a byte
some_line : (byte : ℕ) (lines : List (List ℕ)) → 0 < length (onto_first byte lines)
some_line byte [] = omega arith
some_line byte (line ∷ lines) = omega arith

some_lines : (front : List ℕ) → 0 < length (raw_lines_of (front ++ 10 ∷ []))
unfolding raw_lines_of
some_lines [] = omega arith
some_lines (byte ∷ front) =
    elim (byte == 10) as (λ b. 0 < length (if b then (byte ∷ []) ∷ raw_lines_of (front ++ 10 ∷ [])
    else onto_first byte (raw_lines_of (front ++ 10 ∷ [])))) [
      | true ↦ omega arith
      | false ↦ some_line byte (raw_lines_of (front ++ 10 ∷ []))
    ]

-- after a line feed the lines begin anew
raw_ended : (front more : List ℕ)
    → raw_lines_of ((front ++ 10 ∷ []) ++ more) ≡ raw_lines_of (front ++ 10 ∷ []) ++ raw_lines_of more
unfolding raw_lines_of
raw_ended [] more = refl
raw_ended (byte ∷ front) more =
    let rest = raw_ended front more in
    elim (byte == 10) as (λ b.
    (if b then (byte ∷ []) ∷ raw_lines_of ((front ++ 10 ∷ []) ++ more)
    else onto_first byte (raw_lines_of ((front ++ 10 ∷ []) ++ more)))
    ≡ (if b then (byte ∷ []) ∷ raw_lines_of (front ++ 10 ∷ [])
    else onto_first byte (raw_lines_of (front ++ 10 ∷ []))) ++ raw_lines_of more) [
      | true ↦ ap (λ lines. (byte ∷ []) ∷ lines) rest
      | false ↦ ap (onto_first byte) rest
          ∙ onto_first-append byte (raw_lines_of (front ++ 10 ∷ [])) (raw_lines_of more) (some_lines front)
    ]

lines_ended : (front more : List ℕ)
    → lines_of ((front ++ 10 ∷ []) ++ more) ≡ lines_of (front ++ 10 ∷ []) ++ lines_of more
unfolding lines_of
lines_ended front more =
    ap (map without_feed) (raw_ended front more)
    ∙ map-append without_feed (raw_lines_of (front ++ 10 ∷ [])) (raw_lines_of more)

none_behind : (more : List ℕ) → lines_of ([] ++ more) ≡ lines_of [] ++ lines_of more
unfolding lines_of raw_lines_of
none_behind more = refl

-- the lines of a text that ends with its last line, and of more after it
pub lines_behind : (whole more : List ℕ) → IsEnded whole → lines_of (whole ++ more) ≡ lines_of whole ++ lines_of more
lines_behind whole more ended = ⊎_elim
    (λ none. rw none (none_behind more))
    (λ some. rw some.1 (lines_ended some.0 more))
    ended

-- the bytes with a piece that is cut
piece_parts : (bytes whole held piece front back : List ℕ) (end : ℕ) → bytes ≡ whole ++ held
    → front ≡ take (end + 1) piece → back ≡ drop (end + 1) piece
    → bytes ++ piece ≡ (whole ++ (held ++ front)) ++ back
piece_parts bytes whole held piece front back end are is behind =
    let cut : piece ≡ front ++ back =
    sym (ap (λ f. f ++ back) is ∙ ap (λ b. take (end + 1) piece ++ b) behind
    ∙ take-append-drop (end + 1) piece) in
    ap (λ b. b ++ piece) are ∙ ap (λ p. (whole ++ held) ++ p) cut
    ∙ sym (append_assoc (whole ++ held) front back) ∙ ap (λ w. w ++ back) (append_assoc whole held front)

-- what was read after a piece that has a line feed
pub piece_read : (bytes held piece front back : List ℕ) (end : ℕ) (old new : Reading)
    → HasReadBytes bytes held old → end < length piece → get_or piece end 0 ≡ 10 → front ≡ take (end + 1) piece
    → back ≡ drop (end + 1) piece
    → ((lines : List (List ℕ)) → HasReadLines lines old → HasReadLines (lines ++ lines_of (held ++ front)) new)
    → HasReadBytes (bytes ++ piece) back new
piece_read bytes held piece front back end old new has low at is behind read =
    let more : front ≡ take end piece ++ 10 ∷ [] =
    is ∙ take_more piece end 0 low ∙ ap (λ b. take end piece ++ b ∷ []) at in
    let ended : has.whole ++ (held ++ front) ≡ (has.whole ++ (held ++ take end piece)) ++ 10 ∷ [] =
    ap (λ f. has.whole ++ (held ++ f)) more
    ∙ ap (λ t. has.whole ++ t) (sym (append_assoc held (take end piece) (10 ∷ [])))
    ∙ sym (append_assoc has.whole (held ++ take end piece) (10 ∷ [])) in
    record {
      whole = has.whole ++ (held ++ front);
      ended = inr (has.whole ++ (held ++ take end piece), ended);
      parts = piece_parts bytes has.whole held piece front back end has.parts is behind;
      read = rw (lines_behind has.whole (held ++ front) has.ended) (read (lines_of has.whole) has.read);
    }

-- a fault in the lines up to its last line feed is one of all bytes so far
pub piece_fault : (bytes held piece front back : List ℕ) (end : ℕ) (names : List (List ℕ)) (fault : JudgeFault)
    (old : Reading) → HasReadBytes bytes held old → end < length piece → get_or piece end 0 ≡ 10
    → front ≡ take (end + 1) piece → back ≡ drop (end + 1) piece
    → ((lines : List (List ℕ)) → HasReadLines lines old → IsFaultIn names (lines ++ lines_of (held ++ front)) fault)
    → IsFaultIn names (lines_of (bytes ++ piece)) fault
piece_fault bytes held piece front back end names fault old has low at is behind bad =
    let more : front ≡ take end piece ++ 10 ∷ [] =
    is ∙ take_more piece end 0 low ∙ ap (λ b. take end piece ++ b ∷ []) at in
    let ended : has.whole ++ (held ++ front) ≡ (has.whole ++ (held ++ take end piece)) ++ 10 ∷ [] =
    ap (λ f. has.whole ++ (held ++ f)) more
    ∙ ap (λ t. has.whole ++ t) (sym (append_assoc held (take end piece) (10 ∷ [])))
    ∙ sym (append_assoc has.whole (held ++ take end piece) (10 ∷ [])) in
    let lines : lines_of (bytes ++ piece) ≡ (lines_of has.whole ++ lines_of (held ++ front)) ++ lines_of back =
    ap lines_of (piece_parts bytes has.whole held piece front back end has.parts is behind)
    ∙ lines_behind (has.whole ++ (held ++ front)) back (inr (has.whole ++ (held ++ take end piece), ended))
    ∙ ap (λ l. l ++ lines_of back) (lines_behind has.whole (held ++ front) has.ended) in
    rw lines (fault_more names (lines_of has.whole ++ lines_of (held ++ front)) (lines_of back) fault
    (bad (lines_of has.whole) has.read))

-- what is held after the last piece are its last lines
pub rest_read : (bytes held : List ℕ) (old new : Reading) → HasReadBytes bytes held old
    → ((lines : List (List ℕ)) → HasReadLines lines old → HasReadLines (lines ++ lines_of held) new)
    → HasReadLines (lines_of bytes) new
rest_read bytes held old new has read =
    rw (has.parts, lines_behind has.whole held has.ended) (read (lines_of has.whole) has.read)

pub rest_fault : (bytes held : List ℕ) (names : List (List ℕ)) (fault : JudgeFault) (old : Reading)
    → HasReadBytes bytes held old
    → ((lines : List (List ℕ)) → HasReadLines lines old → IsFaultIn names (lines ++ lines_of held) fault)
    → IsFaultIn names (lines_of bytes) fault
rest_fault bytes held names fault old has bad =
    rw (has.parts, lines_behind has.whole held has.ended) (bad (lines_of has.whole) has.read)
