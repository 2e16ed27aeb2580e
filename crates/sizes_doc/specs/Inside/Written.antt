-- The parts of a size as the reader holds them.
use Rattle.std.specs.Prelude.{◌≡◌, ◌≢◌, ℕ, Bool, true, List, codes}
use Rattle.sizes_doc.specs.Sizes.{SizeParts, form_words}
use Rattle.sizes_doc.specs.declared.size_reader.Written.{Written}

-- their bytes
abbrev pub parts_in : Written → SizeParts
parts_in written = record {
  alone = written.head.alone;
  name = written.head.name.now;
  machines = written.head.machines.now;
  vcpus = written.head.vcpus.now;
  share = written.rest.share.now;
  latency = written.rest.latency.now;
  capped = written.rest.capped;
}

-- the words begin with these parts, and the rest follows
pub record HasHead (words : List (List ℕ)) (alone : Bool) (name machines vcpus : List ℕ) (rest : List (List ℕ)) : Type 0 where
  pub written : words ≡ form_words alone name machines vcpus rest
  pub alone_is : alone ≡ true → (machines ≡ codes "1") × (vcpus ≢ codes "x")
