-- Attributes: what a type declares of them, and what fits as a value (paper 02, request one; ISO 8879, 11.3).
-- How they are declared is in TypeFile, how a tag specifies them in Document.
use Rattle.std.specs.Prelude.{ℕ, zero, suc, ◌+◌, Bool, true, false, not, ◌&&◌, ◌||◌, List, [], ◌∷◌, length, take, drop, eqb, leb, ltb}
use Rattle.rules.specs.Bytes.{byte_at, letter, digit, name_byte, span, same_text, TAB, RS, RE, LIT, RNI, AND, LITA}
use Rattle.rules.specs.Reading.{Reading, refused, got}

-- A part of a text: where it begins and how long it is.
pub record Part : Type 0 where
  pub at : ℕ
  pub size : ℕ

-- The bytes of a part.
abbrev pub bytes_in : (t : List ℕ) → Part → List ℕ
bytes_in t p = take p.size (drop p.at t)

-- Literals

-- "Literals in either quote".
abbrev pub quote : ℕ → Bool
quote b = eqb b LIT || eqb b LITA

-- ""&" then a letter; `&#` then a letter or digit" are number 5.
abbrev pub is_reference : List ℕ → ℕ → Bool
is_reference d i =
    let b = byte_at d (i + 1) in
    let c = byte_at d (i + 2) in
    letter b || (eqb b RNI && (letter c || (leb 48 c && leb c 57)))

-- ""&" in a literal is as in content": at i stands the closing quote q, or a reference.
abbrev pub ends_literal : (q : ℕ) → List ℕ → (i : ℕ) → Bool
ends_literal q t i = eqb (byte_at t i) q || (eqb (byte_at t i) AND && is_reference t i)

-- How many bytes stand before the first of these; all of them where neither comes.
unfoldable pub in_literal : (q : ℕ) → List ℕ → ℕ
in_literal q [] = 0
in_literal q (b ∷ r) = elim (ends_literal q (b ∷ r) 0) [ true ↦ 0 | false ↦ suc (in_literal q r) ]

-- The closing quote of the literal whose opening quote stands at i. A reference in it is number 5 there, and without a closing quote the input
-- ends within a form.
unfoldable pub literal_end : List ℕ → (i : ℕ) → Reading ℕ
literal_end t i =
    let q = byte_at t i in
    let e = i + 1 + in_literal q (drop (i + 1) t) in
    elim (ltb e (length t)) [
      | true ↦ elim (eqb (byte_at t e) q) [ true ↦ got e | false ↦ refused 5 e ]
      | false ↦ refused 4 (length t)
    ]

-- What is declared

-- "Declared values CDATA (any length), NUMBER and NAME .., and name token group": its "(" and its tokens.
pub data DeclaredValue : Type 0 where
  cdata : DeclaredValue
  number : DeclaredValue
  name : DeclaredValue
  tokens : (at : ℕ) → List Part → DeclaredValue

-- "Defaults `#REQUIRED`, `#IMPLIED` or a literal": the part of the type file that is its value, without quotes.
pub data Default : Type 0 where
  required : Default
  implied : Default
  literal : Part → Default

-- An attribute: where its name stands and how long it is, and what is declared of it.
pub record Attribute : Type 0 where
  pub at : ℕ
  pub size : ℕ
  pub value : DeclaredValue
  pub default : Default

-- An attribute list: the number of its element, from 1, and the attributes in declaration order.
pub record AttList : Type 0 where
  pub element : ℕ
  pub attributes : List Attribute

-- The attribute has the name of this size at `at` in the text t, folded.
abbrev pub is_called : List ℕ → Attribute → (t : List ℕ) (at size : ℕ) → Bool
is_called s a t at size = elim (eqb a.size size) [ true ↦ same_text s a.at t at size | false ↦ false ]

-- "The attribute's number in its list, from 1": of the attribute that has that name, 0 if none has. The first of these has the number k.
unfoldable pub attribute_from : ℕ → List ℕ → List Attribute → (t : List ℕ) (at size : ℕ) → ℕ
attribute_from k s [] t at size = 0
attribute_from k s (a ∷ xs) t at size = elim (is_called s a t at size) [ true ↦ k | false ↦ attribute_from (k + 1) s xs t at size ]

unfoldable pub attribute_of : List ℕ → List Attribute → (t : List ℕ) (at size : ℕ) → ℕ
attribute_of s xs t at size = attribute_from 1 s xs t at size

-- The k-th attribute of a list, from 0.
unfoldable pub attribute_at : List Attribute → ℕ → Attribute
attribute_at [] k = record { at = 0; size = 0; value = cdata; default = implied }
attribute_at (a ∷ xs) zero = a
attribute_at (a ∷ xs) (suc k) = attribute_at xs k

abbrev pub is_required : Default → Bool
is_required required = true
is_required implied = false
is_required (literal p) = false

-- "An element with a required attribute never has its start inferred": one of these is required.
unfoldable pub needs_tag : List Attribute → Bool
needs_tag [] = false
needs_tag (a ∷ xs) = is_required a.default || needs_tag xs

-- Which values fit

-- All bytes pass the test.
abbrev pub every : (ℕ → Bool) → List ℕ → Bool
every t v = eqb (span t v) (length v)

-- A token of the group, of the type file s, is the value v, folded.
unfoldable pub is_one_of : List ℕ → List Part → (v : List ℕ) → Bool
is_one_of s [] v = false
is_one_of s (p ∷ ps) v = (eqb p.size (length v) && same_text s p.at v 0 (length v)) || is_one_of s ps v

-- The value v, its bytes without quotes, does "fit its declared value (a space fits CDATA only)", and does not hold "byte 9, 10 or 13"; NUMBER and
-- NAME are "1 to 8 long", with the given length for 8 (request six).
unfoldable pub fits : (long : ℕ) → (s : List ℕ) → DeclaredValue → (v : List ℕ) → Bool
fits long s cdata v = every (λ b. not (eqb b TAB || (eqb b RS || eqb b RE))) v
fits long s number v = leb 1 (length v) && (leb (length v) long && every digit v)
fits long s name v = letter (byte_at v 0) && (leb (length v) long && every name_byte v)
fits long s (tokens at ps) v = is_one_of s ps v
