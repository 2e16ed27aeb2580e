-- The sizes that the statements of a text are, and the first statement that is none.
use Rattle.std.specs.Prelude.{◌≡◌, List, [], ◌∷◌, ◌++◌}
use Rattle.script_doc.specs.Statements.{Statement}
use Rattle.sizes_doc.specs.Sizes.{HasBadPart, IsSize}
use Rattle.sizes_doc.specs.declared.fault.Part.{Part}
use Rattle.sizes_doc.specs.declared.fault.SizesFault.{SizesFault}
use Rattle.sizes_doc.specs.declared.fault.SizesFault.TheVariants.{BadSize}
use Rattle.sizes_doc.specs.declared.size.Size.{Size}

-- the statement is this size, on its line
pub record IsSizeLine (statement : Statement) (size : Size) : Type 0 where
  pub placed : size.line ≡ statement.number
  pub written : IsSize statement.words size

-- each statement is the size at its place
abbrev pub AreSizes : List Statement → List Size → Type 0
AreSizes [] [] = Unit {0}
AreSizes (statement ∷ statements) (size ∷ sizes) = IsSizeLine statement size × AreSizes statements sizes
AreSizes [] (size ∷ sizes) = ⊥
AreSizes (statement ∷ statements) [] = ⊥

-- the statements before a statement are sizes, and it has this as its first bad part
pub record IsFirstBadSize (statements : List Statement) (fault : SizesFault) : Type 0 where
  pub front : List Statement
  pub statement : Statement
  pub back : List Statement
  pub sizes : List Size
  pub part : Part
  pub whole : statements ≡ front ++ statement ∷ back
  pub before : AreSizes front sizes
  pub bad : HasBadPart statement.words part
  pub told : fault ≡ BadSize statement.number part
