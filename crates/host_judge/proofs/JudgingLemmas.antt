-- The bytes of a trace that have come from its source.
use Rattle.std.proofs.Common.{arith, ◌≡◌, ℕ, ◌+◌, ◌≤◌, List, [], ◌++◌, length, length-append, map, take, Option, Result, Ok, Err, IfErr, IfOk, MatchResult, inl, refl, sym, subst, ◌∙◌}
use Rattle.std.proofs.KnownBytes.{Consumes-kept, Consumes-nil, Consumes-trans}
use Rattle.std.proofs.lemmas.List.{length-take-le}
use Rattle.std.proofs.lemmas.Option.{get_or_from_slice_get, slice_get_within}
use Rattle.std.specs.Io.KnownBytes.{Consumes}
use Rattle.std.specs.List.{All}
use Rattle.tab_core.specs.declared.vcpu.Vcpu.{Vcpu}
use Rattle.tab_io.specs.Sources.{Gave}
use Rattle.tab_io.specs.Views.{SourceView}
use Rattle.tab_io.specs.declared.source.Got.TheVariants as got
use Rattle.tab_words.specs.Lines.{lines_of}
use Rattle.tab_words.proofs.LineLemmas.{length-lines_of, lines_of-nil}
use Rattle.vcpu_names.specs.Names.{names_of}
use Rattle.host_trace.proofs.RowLemmas.{rows_from-nil}
use Rattle.host_judge.specs.Clashes.{IsCountOf}
use Rattle.host_judge.specs.Faults.{IsFaultIn}
use Rattle.host_judge.specs.Inside.Begun.{HasReadNothing}
use Rattle.host_judge.specs.Inside.Clashed.{HasClashes}
use Rattle.host_judge.specs.Inside.Judged.{terms_of}
use Rattle.host_judge.specs.Inside.Readings.{HasReadBytes}
use Rattle.host_judge.specs.Inside.Reported.{sold_terms}
use Rattle.host_judge.specs.Inside.Settled.{IsTracked}
use Rattle.host_judge.specs.Judgements.{HasJudgeFault, JudgesTrace}
use Rattle.host_judge.specs.Reports.{IsJudgementOf}
use Rattle.host_judge.specs.declared.fault.JudgeFault.{JudgeFault}
use Rattle.host_judge.specs.declared.fault.JudgeFault.TheVariants.{BadLine, NoMemory, ReadFault, TooLong}
use Rattle.host_judge.specs.declared.owed.Owed.{Owed}
use Rattle.host_judge.specs.declared.reading.Reading.{Reading}
use Rattle.host_judge.specs.declared.report.Report.{Report}

-- before the first line
pub has_begun : (window : ℕ) (vcpus : List Vcpu) (reading : Reading) → reading.names ≡ names_of vcpus
    → map terms_of reading.judge.trackers.items ≡ map (sold_terms window) vcpus → reading.lines ≡ 0
    → reading.judge.end_ns ≡ 0 → IsCountOf [] reading.judge.falls → IsCountOf [] reading.judge.unknown
    → HasClashes [] reading.judge.clashes → All (λ tracker. IsTracked [] tracker) reading.judge.trackers.items → HasReadNothing window vcpus reading
has_begun window vcpus reading names terms lines ends falls unknown clashes tracked = record {
  names = names;
  terms = terms;
  read = record {
    marks = [];
    said = rw (rows_from-nil 1) tt;
    judged = record {
      end_ns = ends;
      falls = falls;
      unknown = unknown;
      clashes = clashes;
      each = λ v tracker at.
          subst (IsTracked []) (get_or_from_slice_get reading.judge.trackers.items v tracker tracker at)
          (tracked v tracker (slice_get_within reading.judge.trackers.items v tracker at));
    };
    count = lines;
  };
}

-- bytes have come, one at least from each read, and were read
pub record HasCome (first now : SourceView) (vcpus : List Vcpu) (window : ℕ) (held : List ℕ) (reading : Reading) (reads : ℕ)
    : Type 0 where
  pub bytes : List ℕ
  pub many : reads ≤ length bytes
  pub consumed : Consumes first.rest now.rest bytes
  pub later : first.faults ≤ now.faults
  pub names : reading.names ≡ names_of vcpus
  pub terms : map terms_of reading.judge.trackers.items ≡ map (sold_terms window) vcpus
  pub read : HasReadBytes bytes held reading

-- none so far
pub none_come : (view : SourceView) (vcpus : List Vcpu) (window : ℕ) (held : List ℕ) (reading : Reading) → held ≡ []
    → HasReadNothing window vcpus reading → HasCome view view vcpus window held reading 0
none_come view vcpus window held reading none begun = record {
  bytes = [];
  many = omega arith;
  consumed = Consumes-nil view.rest;
  later = omega arith;
  names = begun.names;
  terms = begun.terms;
  read = record {
    whole = [];
    ended = inl refl;
    parts = sym none;
    read = rw lines_of-nil begun.read;
  };
}

-- one more piece
pub piece_come : (first old new : SourceView) (vcpus : List Vcpu) (window : ℕ) (held more : List ℕ) (reading next : Reading)
    (count reads : ℕ) (into : List ℕ) → HasCome first old vcpus window held reading reads
    → Gave old new into (got.Bytes count)
    → old.faults ≤ new.faults → next.names ≡ reading.names
    → map terms_of next.judge.trackers.items ≡ map terms_of reading.judge.trackers.items
    → ((bytes : List ℕ) → HasReadBytes bytes held reading → HasReadBytes (bytes ++ take count into) more next)
    → HasCome first new vcpus window more next (reads + 1)
piece_come first old new vcpus window held more reading next count reads into come gave later names terms read = record {
  bytes = come.bytes ++ take count into;
  many = omega (arith, come.many, gave.0, length-append come.bytes (take count into), length-take-le count into gave.1);
  consumed = Consumes-trans _ _ _ _ _ come.consumed gave.2;
  later = omega (arith, come.later, later);
  names = names ∙ come.names;
  terms = terms ∙ come.terms;
  read = read come.bytes come.read;
}

-- a fault of lines is one of a trace that begins so
fault_of : (old new : SourceView) (vcpus : List Vcpu) (bytes : List ℕ) (fault : JudgeFault)
    → IsFaultIn (names_of vcpus) (lines_of bytes) fault → HasJudgeFault old new vcpus bytes fault
fault_of old new vcpus bytes (BadLine number text) is = is
fault_of old new vcpus bytes ReadFault is = absurd is
fault_of old new vcpus bytes TooLong is = omega (arith, is, length-lines_of bytes)
fault_of old new vcpus bytes NoMemory is = tt

-- a piece with a fault
pub piece_fault : (first old new : SourceView) (vcpus : List Vcpu) (owed : List (Option Owed)) (window : ℕ) (held : List ℕ) (reading : Reading)
    (count reads : ℕ) (into : List ℕ) (fault : JudgeFault) → HasCome first old vcpus window held reading reads
    → Gave old new into (got.Bytes count) → old.faults ≤ new.faults
    → ((bytes : List ℕ) → HasReadBytes bytes held reading
    → IsFaultIn reading.names (lines_of (bytes ++ take count into)) fault)
    → JudgesTrace first new vcpus owed window (Err fault)
piece_fault first old new vcpus owed window held reading count reads into fault come gave later bad =
    let told : IsFaultIn (names_of vcpus) (lines_of (come.bytes ++ take count into)) fault =
    subst (λ names. IsFaultIn names (lines_of (come.bytes ++ take count into)) fault) come.names
    (bad come.bytes come.read) in
    record {
      bytes = come.bytes ++ take count into;
      consumed = Consumes-trans _ _ _ _ _ come.consumed gave.2;
      later = omega (arith, come.later, later);
      told = fault_of first new vcpus (come.bytes ++ take count into) fault told;
    }

-- the source failed, or memory or numbers ran out
pub failed_come : (first old new : SourceView) (vcpus : List Vcpu) (owed : List (Option Owed)) (window : ℕ) (held into : List ℕ) (reading : Reading)
    (reads : ℕ) → HasCome first old vcpus window held reading reads → Gave old new into got.Failed → old.faults ≤ new.faults
    → JudgesTrace first new vcpus owed window (Err ReadFault)
failed_come first old new vcpus owed window held into reading reads come gave later = record {
  bytes = come.bytes;
  consumed = Consumes-kept _ _ _ _ come.consumed gave.0;
  later = omega (arith, come.later, later);
  told = (let rose = gave.1 in omega (arith, come.later, rose));
}

pub ended_come : (first old new : SourceView) (vcpus : List Vcpu) (owed : List (Option Owed)) (window : ℕ) (held into : List ℕ) (reading : Reading)
    (reads : ℕ) (result : Result Report JudgeFault) → HasCome first old vcpus window held reading reads → Gave old new into got.End
    → old.faults ≤ new.faults
    → MatchResult result
    (λ report. (all : List ℕ) → HasReadBytes all held reading → IsJudgementOf window vcpus owed all report)
    (λ fault. (all : List ℕ) → HasReadBytes all held reading → IsFaultIn (names_of vcpus) (lines_of all) fault)
    → JudgesTrace first new vcpus owed window result
ended_come first old new vcpus owed window held into reading reads (Ok report) come gave later told = record {
  bytes = come.bytes;
  consumed = Consumes-kept _ _ _ _ come.consumed gave.0;
  later = omega (arith, come.later, later);
  told = (gave.1, told come.bytes come.read);
}
ended_come first old new vcpus owed window held into reading reads (Err fault) come gave later told = record {
  bytes = come.bytes;
  consumed = Consumes-kept _ _ _ _ come.consumed gave.0;
  later = omega (arith, come.later, later);
  told = fault_of first new vcpus come.bytes fault (told come.bytes come.read);
}

-- what holds in both cases
pub in_both : {T E : Type 0} (result : Result T E) (A : T → Type 0) (B : E → Type 0) → IfOk result A
    → IfErr result B → MatchResult result A B
in_both (Ok value) A B one two = one
in_both (Err fault) A B one two = two
