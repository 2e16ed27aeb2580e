-- What one read, and a call that reads all, does to a source.
use Rattle.std.specs.Prelude.{◌≡◌, ℕ, ◌+◌, ◌≤◌, true, IsErrOf, List, length, take, Result, Ok, Err, Vec, ⊤}
use Rattle.std.specs.Io.KnownBytes.{Consumes, IsAtEnd, Keeps}
use Rattle.std.specs.declared.alloc.Global.{Global}
use Rattle.tab_io.specs.FaultCounts.{Rose, next_count}
use Rattle.tab_io.specs.Views.{SourceView}
use Rattle.tab_io.specs.declared.source.Got.{Got}
use Rattle.tab_io.specs.declared.source.Got.TheVariants as got
use Rattle.tab_io.specs.declared.source.ReadAll.{ReadAll}
use Rattle.tab_io.specs.declared.source.ReadAll.TheVariants as read

-- what one read did
abbrev pub Gave : SourceView → SourceView → List ℕ → Got → Type 0
Gave old new into (got.Bytes n) =
    (1 ≤ n) × (n ≤ length into) × Consumes old.rest new.rest (take n into)
Gave old new into got.End = Keeps old.rest new.rest × IsAtEnd new.rest
Gave old new into got.Failed = Keeps old.rest new.rest × Rose old.faults new.faults

-- how reading all ended, after these bytes: at the end, at a fault, or one byte past the limit
abbrev pub EndsReading : SourceView → SourceView → ℕ → List ℕ → Result (Vec ℕ Global) ReadAll → Type 0
EndsReading old new limit bytes (Ok v) = (v.items ≡ bytes) × (length bytes ≤ limit) × IsAtEnd new.rest
EndsReading old new limit bytes (Err read.ReadFault) = (length bytes ≤ limit) × Rose old.faults new.faults
EndsReading old new limit bytes (Err (read.TooLong at)) = (at ≡ limit) × (length bytes ≡ limit + 1)
EndsReading old new limit bytes (Err read.NoMemory) = ⊤

-- the source gave these bytes, and reading ended after them; a sound source is read without a fault
pub record ReadsAll (old new : SourceView) (limit : ℕ) (result : Result (Vec ℕ Global) ReadAll)
    : Type 0 where
  pub bytes : List ℕ
  pub consumed : Consumes old.rest new.rest bytes
  pub later : old.faults ≤ new.faults
  pub ended : EndsReading old new limit bytes result
  pub sound : old.sound ≡ true → IsErrOf result read.ReadFault → ⊥

-- a sound source stays sound, and its read doesn't fail
abbrev pub StaysSound : SourceView → SourceView → Got → Type 0
StaysSound old new (got.Bytes n) = old.sound ≡ true → new.sound ≡ true
StaysSound old new got.End = old.sound ≡ true → new.sound ≡ true
StaysSound old new got.Failed = old.sound ≡ true → ⊥

-- of what a read gave, a fault alone counts, and it counts once
abbrev pub CountsGot : ℕ → ℕ → Got → Type 0
CountsGot before now got.Failed = now ≡ next_count before
CountsGot before now _ = now ≡ before
