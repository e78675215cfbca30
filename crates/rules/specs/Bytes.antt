-- Bytes, names and quantities (paper 01, "Bytes, names, quantities").
use Rattle.std.specs.Prelude.{ℕ, zero, suc, ◌+◌, ◌-◌, Bool, true, false, ◌&&◌, ◌||◌, cond, List, [], ◌∷◌, get_or, drop, eqb, leb}

-- The byte at a position. Past the end it is 0, which is not allowed and fits nowhere.
abbrev pub byte_at : List ℕ → ℕ → ℕ
byte_at s i = get_or s i 0

-- Bytes by the standard's names: TAB, RS, RE and SPACE are function characters, the others stand in its figure 3. A byte has the name of one of
-- its roles: ">" is MDC also where it is TAGC, "&" is AND where it is ERO, "[" is DSO where it is DTGO. Others are parts of `<!`, `<?`, `</`,
-- `&#`, `--` and `]]`. "!", "/" and "." have plain names: the first two stand here only within `<!` and `</`, and "." is no delimiter.
abbrev pub TAB : ℕ
TAB = 9

abbrev pub RS : ℕ
RS = 10

abbrev pub RE : ℕ
RE = 13

abbrev pub SPACE : ℕ
SPACE = 32

abbrev pub EXCLAMATION : ℕ
EXCLAMATION = 33

abbrev pub LIT : ℕ
LIT = 34

abbrev pub RNI : ℕ
RNI = 35

abbrev pub PERO : ℕ
PERO = 37

abbrev pub AND : ℕ
AND = 38

abbrev pub LITA : ℕ
LITA = 39

abbrev pub GRPO : ℕ
GRPO = 40

abbrev pub GRPC : ℕ
GRPC = 41

abbrev pub REP : ℕ
REP = 42

abbrev pub PLUS : ℕ
PLUS = 43

abbrev pub SEQ : ℕ
SEQ = 44

abbrev pub MINUS : ℕ
MINUS = 45

abbrev pub STOP : ℕ
STOP = 46

abbrev pub SOLIDUS : ℕ
SOLIDUS = 47

abbrev pub STAGO : ℕ
STAGO = 60

abbrev pub VI : ℕ
VI = 61

abbrev pub MDC : ℕ
MDC = 62

abbrev pub OPT : ℕ
OPT = 63

abbrev pub DSO : ℕ
DSO = 91

abbrev pub DSC : ℕ
DSC = 93

abbrev pub OR : ℕ
OR = 124

-- "Allowed bytes: 9, 10, 13, 32 to 126".
unfoldable pub allowed : ℕ → Bool
allowed b = eqb b TAB || eqb b RS || eqb b RE || (leb 32 b && leb b 126)

-- "Separators: 9, 10, 13, 32."
unfoldable pub separator : ℕ → Bool
separator b = eqb b TAB || eqb b RS || eqb b RE || eqb b SPACE

-- A letter of either case.
unfoldable pub letter : ℕ → Bool
letter b = (leb 65 b && leb b 90) || (leb 97 b && leb b 122)

unfoldable pub digit : ℕ → Bool
digit b = leb 48 b && leb b 57

-- "Letters fold to upper case."
unfoldable pub fold : ℕ → ℕ
fold b = cond (leb 97 b && leb b 122) (b - 32) b

-- "A name is a letter, then letters, digits, "." and "-"": what may go on a name.
unfoldable pub name_byte : ℕ → Bool
name_byte b = letter b || (leb 48 b && leb b 57) || eqb b STOP || eqb b MINUS

-- How many of the first bytes pass a test.
unfoldable pub span : (ℕ → Bool) → List ℕ → ℕ
span t [] = 0
span t (b ∷ r) = elim (t b) [ true ↦ suc (span t r) | false ↦ 0 ]

-- Names, keywords and words "are read to their longest".
unfoldable pub name_end : List ℕ → ℕ → ℕ
name_end s at = at + span name_byte (drop at s)

unfoldable pub separators_end : List ℕ → ℕ → ℕ
separators_end s at = at + span separator (drop at s)

-- n bytes of s from a and n bytes of t from b are the same, folded.
unfoldable pub same_text : List ℕ → ℕ → List ℕ → ℕ → ℕ → Bool
same_text s a t b zero = true
same_text s a t b (suc n) = elim (eqb (fold (byte_at s a)) (fold (byte_at t b))) [ true ↦ same_text s (a + 1) t (b + 1) n | false ↦ false ]

-- The quantities; NAMELEN, the longest name, is in Settings.

-- "GRPCNT 32 tokens in one group, GRPLVL 16 group levels (the outermost is level 1), GRPGTCNT 96 content tokens in a model".
abbrev pub GRPCNT : ℕ
GRPCNT = 32

abbrev pub GRPLVL : ℕ
GRPLVL = 16

abbrev pub GRPGTCNT : ℕ
GRPGTCNT = 96

-- "House figures: type file 32,768 bytes, .. 64 elements."
abbrev pub type_limit : ℕ
type_limit = 32768

abbrev pub element_limit : ℕ
element_limit = 64

-- "At most 40 attributes to an element" (paper 02, request one).
abbrev pub ATTCNT : ℕ
ATTCNT = 40

-- "TAGLVL 24 open elements."
abbrev pub TAGLVL : ℕ
TAGLVL = 24

-- "House figures: .. document 65,535".
abbrev pub document_limit : ℕ
document_limit = 65535
