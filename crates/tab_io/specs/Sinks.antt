-- What one write, one `finish`, and a call that writes a text, does to a sink.
use Rattle.std.specs.Prelude.{◌≡◌, ℕ, ◌-◌, ◌<◌, ◌≤◌, List, ◌++◌, length, take, Option, Some, None, Result, Ok, MatchResult, IfSome, ⊤}
use Rattle.std.specs.Io.KnownBytes.{Appends, Keeps}
use Rattle.tab_io.specs.FaultCounts.{Rose, next_count}
use Rattle.tab_io.specs.Views.{SinkView}
use Rattle.tab_io.specs.declared.sink.Put.{Put}
use Rattle.tab_io.specs.declared.sink.Put.TheVariants as put
use Rattle.tab_io.specs.declared.sink.WriteFault.{WriteFault}

-- as many bytes are settled as before, where that is known
abbrev pub StaysSettled : Option ℕ → Option ℕ → Type 0
StaysSettled None new = ⊤
StaysSettled (Some m) None = ⊥
StaysSettled (Some m) (Some n) = n ≡ m

-- all that was taken is settled, where that is known
abbrev pub AllSettled : SinkView → Type 0
AllSettled sink = IfSome sink.settled (λ n. IfSome sink.taken (λ bytes. n ≡ length bytes))

-- what one write did
abbrev pub Wrote : SinkView → SinkView → List ℕ → Put → Type 0
Wrote old new piece (put.Took n) =
    (1 ≤ n) × (n ≤ length piece) × Appends old.taken new.taken (take n piece)
Wrote old new piece put.Failed = Keeps old.taken new.taken × Rose old.faults new.faults

-- a write takes from the room, and fails only where none is left
abbrev pub UsesRoom : SinkView → SinkView → Put → Type 0
UsesRoom old new (put.Took n) = (m : ℕ) → old.room ≡ Some m → (n ≤ m) × (new.room ≡ Some (m - n))
UsesRoom old new put.Failed = (m : ℕ) → old.room ≡ Some m → m ≡ 0

-- where room is known, `finish` leaves it as it is
abbrev pub KeepsRoom : SinkView → SinkView → Type 0
KeepsRoom old new = (m : ℕ) → old.room ≡ Some m → new.room ≡ Some m

-- where room is known, `finish` doesn't fail
abbrev pub FinishWorks : SinkView → Put → Type 0
FinishWorks old (put.Took n) = ⊤
FinishWorks old put.Failed = (m : ℕ) → old.room ≡ Some m → ⊥

-- what one `finish` did: all that was taken is settled, or what was settled stays
abbrev pub Finished : SinkView → SinkView → Put → Type 0
Finished old new (put.Took n) = (n ≡ 0) × AllSettled new
Finished old new put.Failed = StaysSettled old.settled new.settled × Rose old.faults new.faults

-- some prefix of the text was taken
pub record TookPrefix (old new : Option (List ℕ)) (text : List ℕ) : Type 0 where
  pub front : List ℕ
  pub rest : List ℕ
  pub whole : text ≡ front ++ rest
  pub appends : Appends old new front

-- where room is known, the text had room and used it
pub record HadRoom (old new : SinkView) (text : List ℕ) : Type 0 where
  pub uses : (m : ℕ) → old.room ≡ Some m → (length text ≤ m) × (new.room ≡ Some (m - length text))

-- where room is known, the text had none
pub record LacksRoom (old : SinkView) (text : List ℕ) : Type 0 where
  pub lacks : (m : ℕ) → old.room ≡ Some m → m < length text

-- a call wrote the text, or a prefix of it and the sink failed
pub record Writes {U : Type 0} (old new : SinkView) (text : List ℕ) (result : Result U WriteFault)
    : Type 0 where
  pub later : old.faults ≤ new.faults
  pub bytes : MatchResult result
      (λ _. Appends old.taken new.taken text)
      (λ _. TookPrefix old.taken new.taken text × Rose old.faults new.faults)
  pub fits : MatchResult result (λ _. HadRoom old new text) (λ _. LacksRoom old text)

-- a prefix of the text was written, and this is left
pub record IsLeft (old new : SinkView) (text left : List ℕ) : Type 0 where
  pub front : List ℕ
  pub whole : text ≡ front ++ left
  pub written : Writes {U = Unit {0}} old new front (Ok (tt {0}))

-- of what a write or a `finish` answered, a fault alone counts, and it counts once
abbrev pub CountsPut : ℕ → ℕ → Put → Type 0
CountsPut before now put.Failed = now ≡ next_count before
CountsPut before now _ = now ≡ before
