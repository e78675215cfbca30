-- The tokens of a list as the table holds them, and what the answers of the code stand for.
use Rattle.std.specs.Prelude.{ℕ, Result, Ok, Err, zero, suc, ◌+◌, ◌-◌, ◌*◌, ◌≤◌, ◌<◌, ◌≡◌, List, [], ◌∷◌, ◌++◌, length, get_or}
use Rattle.rules.specs.Reading.{Reading, got}
use Rattle.rules.specs.Attributes.{Part}
use Rattle.rules.specs.TypeFile.{TokensEnd}
use Rattle.rules.specs.Bytes.{GRPCNT}
use Rattle.text.specs.declared.Fault.{Fault}
use Rattle.text.specs.Refusal.{refusal_of}
use Rattle.name_tokens.specs.declared.Tokens as code

-- The k-th token, from 0: two numbers, where it stands and how long it is.
abbrev pub part_in : List ℕ → ℕ → Part
part_in seen k = record { at = get_or seen (2 * k) 0; size = get_or seen (2 * k + 1) 0 }

-- The first k tokens.
unfoldable pub parts_of : List ℕ → ℕ → List Part
parts_of seen zero = []
parts_of seen (suc k) = parts_of seen k ++ part_in seen k ∷ []

-- The token at i that ends where it says, or a refusal.
abbrev pub token_of : ℕ → Result ℕ Fault → Reading Part
token_of i (Ok e) = got (record { at = i; size = e - i })
token_of i (Err f) = refusal_of f

-- A group that was read: the tokens of the list are then those before it, at most 32 more, and its own.
pub record ReadAs (seen : List ℕ) (n m e : ℕ) (ts : List Part) (x : Reading TokensEnd) : Type 0 where
  pub end : TokensEnd
  pub read : x ≡ got end
  pub ends : e ≡ end.at
  pub parts : parts_of seen m ≡ ts ++ end.tokens
  pub counted : m ≡ n + length end.tokens
  pub few : length end.tokens ≤ GRPCNT

abbrev pub MeetsGroup : (seen : List ℕ) (n : ℕ) (ts : List Part) → Result code.Tokens Fault → Reading TokensEnd → Type 0
MeetsGroup seen n ts (Ok g) x = ReadAs seen n g.count g.at ts x
MeetsGroup seen n ts (Err f) x = x ≡ refusal_of f

-- Whatever the table holds: a token is some of the text, and its group has room for it; a group that is read ends in the text, and has at most 32 tokens.
abbrev pub TokenIn : (end i k : ℕ) → Result ℕ Fault → Type 0
TokenIn end i k (Ok e) = (i < e) × (e ≤ end) × (k < GRPCNT)
TokenIn end i k (Err f) = Unit {0}

abbrev pub GroupIn : (end at n : ℕ) → Result code.Tokens Fault → Type 0
GroupIn end at n (Ok g) = (at < g.at) × (g.at ≤ end) × (n < g.count) × (g.count ≤ n + GRPCNT)
GroupIn end at n (Err f) = Unit {0}
