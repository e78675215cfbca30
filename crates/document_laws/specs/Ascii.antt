-- The bytes of a quoted text of ASCII characters.
use Rattle.std.specs.Prelude.{ℕ, List}
use Prim.Native.Char.{code}
use Prim.Native.String.{String, [], ◌∷◌}

unfoldable pub ascii : String → List ℕ
ascii [] = List.[]
ascii (c ∷ r) = List.◌∷◌ (code c) (ascii r)
