-- The document's pieces: tags, comment declarations, what is skipped, and single bytes (paper 01, "The document"), with refusals 3, 4, 5 and 17.
-- `long` is how long a name may be. What a piece means for the open elements is in Settling.
use Rattle.std.specs.Prelude.{ℕ, zero, suc, ◌+◌, ◌-◌, Bool, true, false, ◌&&◌, ◌||◌, List, [], ◌∷◌, ◌++◌, length, eqb, ltb}
use Rattle.rules.specs.Bytes.{byte_at, letter, name_end, separators_end, TAB, RS, RE, SPACE, EXCLAMATION, AND, SOLIDUS, STAGO, VI, MDC, OPT, DSO, DSC}
use Rattle.rules.specs.Reading.{Reading, refused, got, and_then}
use Rattle.rules.specs.Attributes.{quote, is_reference, literal_end}
use Rattle.rules.specs.TypeFile.{at_dashes, comment_declaration}

-- An attribute as a start tag gives it: where its name stands and how long that is, where the literal's opening quote stands, and how long the value is,
-- which begins behind it.
pub record Written : Type 0 where
  pub at : ℕ
  pub size : ℕ
  pub quote : ℕ
  pub width : ℕ

-- A tag: where its name stands, how long that is, where the tag ends, and the attributes that it gives; an end tag gives none.
pub record Tag : Type 0 where
  pub name : ℕ
  pub size : ℕ
  pub after : ℕ
  pub written : List Written

-- What stands at a position of the document, outside tags and comments.
pub data Piece : Type 0 where
  start_tag : Tag → Piece
  end_tag : Tag → Piece
  -- A comment declaration, `<!>` or byte 10, and where it ends.
  skipped : (after : ℕ) → Piece
  -- Byte 9, 13 or 32: the current element decides whether it is data or ignored.
  blank : Piece
  data_byte : Piece

-- An end tag: "name, separators, `>`." Within a tag 3 comes before 4. `at` is the name's first byte, a letter.
unfoldable pub tag : (long : ℕ) → List ℕ → ℕ → Reading Tag
tag long d at =
    let e = name_end d at in
    let i = separators_end d e in
    elim (ltb long (e - at)) [
      | true ↦ refused 3 at
      | false ↦ elim (eqb (byte_at d i) MDC) [ true ↦ got (record { name = at; size = e - at; after = i + 1; written = [] }) | false ↦ refused 4 i ]
    ]

-- An attribute in a start tag, whose name, a letter, stands at i: "written values are literals in either quote; separators may stand between name, `=` and
-- literal".
unfoldable pub specification : (long : ℕ) → List ℕ → (i : ℕ) → Reading Written
specification long d i =
    let e = name_end d i in
    let j = separators_end d e in
    let k = separators_end d (j + 1) in
    elim (ltb long (e - i)) [
      | true ↦ refused 3 i
      | false ↦ elim (eqb (byte_at d j) VI) [
        | true ↦ elim (quote (byte_at d k)) [
          | true ↦ and_then (literal_end d k) λ q. got (record { at = i; size = e - i; quote = k; width = q - (k + 1) })
          | false ↦ refused 4 k
        ]
        | false ↦ refused 4 j
      ]
    ]

-- What follows the name of a start tag, from to e, or an attribute, at `at`: further attributes, "and none need follow a literal", then `>`. "In a tag 3,
-- 4 and 5 come first, by position". Each turn but the last takes an attribute, so there are fewer turns than bytes.
unfoldable pub specifications : (long : ℕ) → (turns : ℕ) → List ℕ → (name e at : ℕ) → List Written → Reading Tag
specifications long zero d name e at ws = refused 4 (length d)
specifications long (suc turns) d name e at ws =
    let i = separators_end d at in
    elim (eqb (byte_at d i) MDC) [
      | true ↦ got (record { name = name; size = e - name; after = i + 1; written = ws })
      | false ↦ elim (letter (byte_at d i)) [
        | true ↦ and_then (specification long d i) λ w. specifications long turns d name e (w.quote + 1 + w.width + 1) (ws ++ w ∷ [])
        | false ↦ refused 4 i
      ]
    ]

-- A start tag: name, attributes, separators, `>`. `at` is the name's first byte, a letter.
unfoldable pub start_tag_at : (long : ℕ) → List ℕ → (at : ℕ) → Reading Tag
start_tag_at long d at =
    let e = name_end d at in
    elim (ltb long (e - at)) [ true ↦ refused 3 at | false ↦ specifications long (suc (length d)) d at e e [] ]

-- What is refused in a comment declaration is number 4 in a document: number 5 names no `%` there.
abbrev pub malformed : {A : Type 0} → Reading A → Reading A
malformed (refused n p) = refused 4 p
malformed (got a) = got a

-- `<!` at i: "`<!--` starts a comment declaration (ends as above); `<!>` is skipped". "`<!` then a letter or "["" is number 5.
unfoldable pub declaration_piece : List ℕ → ℕ → Reading Piece
declaration_piece d i =
    let b = byte_at d (i + 2) in
    elim (eqb b MDC) [
      | true ↦ got (skipped (i + 3))
      | false ↦ elim (at_dashes d (i + 2)) [
        | true ↦ and_then (malformed (comment_declaration d (i + 2))) λ e. got (skipped e)
        | false ↦ elim (letter b || eqb b DSO) [ true ↦ refused 5 i | false ↦ got data_byte ]
      ]
    ]

-- `<` at i: "`<` then a letter starts a start tag, `</` then a letter an end tag". "`<?`" is number 5.
unfoldable pub markup_piece : (long : ℕ) → List ℕ → ℕ → Reading Piece
markup_piece long d i =
    let b = byte_at d (i + 1) in
    elim (letter b) [
      | true ↦ and_then (start_tag_at long d (i + 1)) λ t. got (start_tag t)
      | false ↦ elim (eqb b SOLIDUS && letter (byte_at d (i + 2))) [
        | true ↦ and_then (tag long d (i + 2)) λ t. got (end_tag t)
        | false ↦ elim (eqb b EXCLAMATION) [
          | true ↦ declaration_piece d i
          | false ↦ elim (eqb b OPT) [ true ↦ refused 5 i | false ↦ got data_byte ]
        ]
      ]
    ]

-- "`]]>` outside tags and comments" is number 17.
abbrev pub is_section_end : List ℕ → ℕ → Bool
is_section_end d i = eqb (byte_at d i) DSC && (eqb (byte_at d (i + 1)) DSC && eqb (byte_at d (i + 2)) MDC)

-- A byte by itself. "Byte 10 outside tags and comments is ignored. Bytes 9, 13 and 32 are data where `#PCDATA` may come next in the
-- current element, and ignored elsewhere." "Anything not named here or under numbers 5 and 17 is data."
unfoldable pub byte_piece : List ℕ → ℕ → Reading Piece
byte_piece d i =
    let b = byte_at d i in
    elim (eqb b RS) [
      | true ↦ got (skipped (i + 1))
      | false ↦ elim (eqb b TAB || (eqb b RE || eqb b SPACE)) [ true ↦ got blank | false ↦ got data_byte ]
    ]

-- What stands at i, where the document does not end.
unfoldable pub piece : (long : ℕ) → List ℕ → ℕ → Reading Piece
piece long d i =
    elim (eqb (byte_at d i) STAGO) [
      | true ↦ markup_piece long d i
      | false ↦ elim (eqb (byte_at d i) AND && is_reference d i) [
        | true ↦ refused 5 i
        | false ↦ elim (is_section_end d i) [ true ↦ refused 17 i | false ↦ byte_piece d i ]
      ]
    ]
