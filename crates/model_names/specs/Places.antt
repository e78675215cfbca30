-- The places of a model as its table of names holds them.
use Rattle.std.specs.Prelude.{ℕ, zero, suc, ◌+◌, ◌-◌, ◌*◌, ◌/◌, cond, eqb, List, [], ◌∷◌, ◌++◌, get_or}
use Rattle.rules.specs.Bytes.{byte_at, fold}
use Rattle.rules.specs.TypeFile.{Place}

-- The k-th place, from 0: two numbers, where the name stands and its size, 0 for `#PCDATA`.
abbrev pub place_in : List ℕ → ℕ → Place
place_in names k = record { at = get_or names (2 * k) 0; size = get_or names (2 * k + 1) 0 }

-- The first k places.
unfoldable pub places_of : List ℕ → ℕ → List Place
places_of names zero = []
places_of names (suc k) = places_of names k ++ place_in names k ∷ []

-- How far in a name of a size its middle byte stands.
abbrev pub middle : ℕ → ℕ
middle n = n / 2

-- A number that places of the same name share: the folded first, last and middle byte of the name, 0 for `#PCDATA`.
unfoldable pub key_of : List ℕ → Place → ℕ
key_of s x =
    cond (eqb x.size 0) 0
    ((fold (byte_at s x.at) * 256 + fold (byte_at s (x.at + (x.size - 1)))) * 256 + fold (byte_at s (x.at + middle x.size)))
