-- How many names a lookup compares (paper 02, request three).
use Rattle.std.specs.Prelude.{ℕ, suc, Bool, true, false, ◌&&◌, List, [], ◌∷◌, eqb}
use Rattle.rules.specs.Bytes.{byte_at, fold}
use Rattle.rules.specs.TypeFile.{Element}
use Rattle.rules.specs.Elements.{is_named}

-- "Compare byte by byte only with names of the same length and first letter, folded": the element's name and the one of this size at `at` in
-- the text t are so compared.
abbrev pub is_alike : List ℕ → Element → (t : List ℕ) (at size : ℕ) → Bool
is_alike s e t at size = eqb e.size size && eqb (fold (byte_at s e.at)) (fold (byte_at t at))

-- "In declaration order. The lookup also says how many it so compared: exactly those up to the one found, or all such where none is."
unfoldable pub compared : List ℕ → List Element → (t : List ℕ) (at size : ℕ) → ℕ
compared s [] t at size = 0
compared s (e ∷ es) t at size =
    elim (is_alike s e t at size) [
      | true ↦ elim (is_named s e t at size) [ true ↦ 1 | false ↦ suc (compared s es t at size) ]
      | false ↦ compared s es t at size
    ]
