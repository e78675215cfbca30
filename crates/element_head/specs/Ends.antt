-- A name and a head that were read lie in the input, behind where they began.
use Rattle.std.specs.Prelude.{ℕ, Result, Ok, Err, ◌+◌, ◌≤◌, ◌<◌, ◌≡◌, List, length}
use Rattle.std.proofs.Common.{sym, arith}
use Rattle.rules.specs.TypeFile.{words}
use Rattle.text.specs.declared.Fault.{Fault}
use Rattle.rules_laws.specs.Declarations.{words_range}
use Rattle.rules.specs.Bytes.{element_limit}
use Rattle.element_head.specs.declared.Head as here
use Rattle.element_head.specs.Heads.{head_in, head_of, HeadIn}

-- A head that was read, where the gap before its name began at `from`.
pub head_in_lem : (long : ℕ) (s : List ℕ) (i e from count : ℕ) (r : Result here.Head Fault) → head_of r ≡ words long s i e → from ≤ i → i ≤ e → e ≤ length s → count < element_limit → e ≤ i + long
    → HeadIn long (length s) from count r
head_in_lem long s i e from count (Ok h) q a b d f l =
    let range = words_range long s i e (head_in h) d (sym q) in
    omega arith
head_in_lem long s i e from count (Err f) q a b d g l = tt
