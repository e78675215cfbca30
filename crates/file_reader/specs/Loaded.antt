-- How much of a file was read.
use Rattle.std.specs.Prelude.{ℕ, ◌≤◌, ◌≡◌, Option, Some, None, Result, Ok, Err, List, ◌⊎◌, length, take}
use Rattle.std.specs.declared.io.Error.{Error}
use Rattle.file_reader.specs.declared.Extent.{Extent}

-- So many bytes at the start of a buffer were read; and reading went on until a read gave nothing or the
-- buffer was full.
abbrev pub ExtentIn : Extent → List ℕ → Type 0
ExtentIn x buffer =
    (x.size ≤ length buffer) × (x.size ≡ length (take x.size buffer)) ×
    ((x.last ≡ 0) ⊎ (x.size ≡ length buffer))

-- The same where something was read.
abbrev pub ReadIn : Result Extent Error → List ℕ → Type 0
ReadIn (Ok x) buffer = ExtentIn x buffer
ReadIn (Err e) buffer = Unit {0}

abbrev pub LoadedIn : Option Extent → List ℕ → Type 0
LoadedIn (Some x) buffer = ExtentIn x buffer
LoadedIn None buffer = Unit {0}
