-- The type file: declarations, parameters, comments and model groups (paper 01, "The type file"), with
-- refusals 3 to 8, where the "&" of number 25 is (paper 02, request twelve), and attribute definition lists
-- with refusals 10, 20 and 22 (request one), which "take their turn among 3 to 8". Numbers 3 and 5 read "with
-- the given length for 8" (paper 02, request six): `long` is that length. Reading goes from left to right and
-- refuses at the first fault, by the lower number if there are two at one position. A byte at which no form
-- can continue is the unfit byte of number 4; past the end it is 0, so that the position is then the length.
use Rattle.std.specs.Prelude.{ℕ, zero, suc, ◌+◌, ◌-◌, Bool, true, false, ◌&&◌, ◌||◌, List, [], ◌∷◌, ◌++◌, length, drop, eqb, leb, ltb}
use Rattle.rules.specs.Bytes.{byte_at, letter, name_end, separators_end, same_text, GRPCNT, GRPLVL, GRPGTCNT, ATTCNT, element_limit, EXCLAMATION, RNI, PERO, AND, GRPO, GRPC, REP, PLUS, SEQ, MINUS, STAGO, MDC, OPT, DSO, OR}
use Rattle.rules.specs.Reading.{Reading, refused, got, and_then}
use Rattle.rules.specs.Walk.{Group, place, seq, alt, opt, plus, and, Members, one, also, star}
use Rattle.rules.specs.Attributes.{Part, bytes_in, quote, literal_end, DeclaredValue, cdata, number, name, tokens, Default, required, implied, literal, Attribute, AttList, attribute_of, fits}

-- Comments

abbrev pub at_dashes : List ℕ → ℕ → Bool
at_dashes s i = eqb (byte_at s i) MINUS && eqb (byte_at s (i + 1)) MINUS

-- How many bytes stand before the first `--`; all of them where there is none.
unfoldable pub before_dashes : List ℕ → ℕ
before_dashes [] = 0
before_dashes (b ∷ r) = elim (at_dashes (b ∷ r) 0) [ true ↦ 0 | false ↦ suc (before_dashes r) ]

-- "Parameters are parted by one or more separators or comments (`--` to the next `--`)"; a `%` there is number 5.
-- Each turn but the last takes a comment, so there are fewer turns than bytes.
unfoldable pub gap_within : ℕ → List ℕ → ℕ → Reading ℕ
gap_within zero s at = refused 4 (length s)
gap_within (suc turns) s at =
    let i = separators_end s at in
    let e = i + 2 + before_dashes (drop (i + 2) s) in
    elim (at_dashes s i) [
      | true ↦ elim (ltb e (length s)) [ true ↦ gap_within turns s (e + 2) | false ↦ refused 4 (length s) ]
      | false ↦ elim (eqb (byte_at s i) PERO) [ true ↦ refused 5 i | false ↦ got i ]
    ]

unfoldable pub gap : List ℕ → ℕ → Reading ℕ
gap s at = gap_within (suc (length s)) s at

-- The end of a comment declaration, where its comments and separators end at i. A "-" there could only open a further comment, so the
-- byte after it is the unfit one.
abbrev pub comment_close : List ℕ → ℕ → Reading ℕ
comment_close s i =
    elim (eqb (byte_at s i) MDC) [
      | true ↦ got (i + 1)
      | false ↦ elim (eqb (byte_at s i) MINUS) [ true ↦ refused 4 (i + 1) | false ↦ refused 4 i ]
    ]

-- Production (91) of source document 004, in the words of paper 02, request two: "`<!`, then comments each from `--` to the next `--`,
-- with separators or further comments between, then `>`; the first comment follows `<!` at once". `at` is behind the `<!`, where `--`
-- stands. A separator may stand between the comments, so a `%` there is number 5.
unfoldable pub comment_declaration : List ℕ → ℕ → Reading ℕ
comment_declaration s at = and_then (gap s at) (comment_close s)

-- Words

-- The word from `at` to `end` is the given one, folded.
abbrev pub is_word : List ℕ → ℕ → ℕ → List ℕ → Bool
is_word s at end w = elim (eqb (end - at) (length w)) [ true ↦ same_text s at w 0 (length w) | false ↦ false ]

abbrev pub ELEMENT : List ℕ
ELEMENT = 69 ∷ 76 ∷ 69 ∷ 77 ∷ 69 ∷ 78 ∷ 84 ∷ []

abbrev pub EMPTY : List ℕ
EMPTY = 69 ∷ 77 ∷ 80 ∷ 84 ∷ 89 ∷ []

abbrev pub ANY : List ℕ
ANY = 65 ∷ 78 ∷ 89 ∷ []

abbrev pub CDATA : List ℕ
CDATA = 67 ∷ 68 ∷ 65 ∷ 84 ∷ 65 ∷ []

abbrev pub RCDATA : List ℕ
RCDATA = 82 ∷ 67 ∷ 68 ∷ 65 ∷ 84 ∷ 65 ∷ []

abbrev pub PCDATA : List ℕ
PCDATA = 80 ∷ 67 ∷ 68 ∷ 65 ∷ 84 ∷ 65 ∷ []

abbrev pub O : List ℕ
O = 79 ∷ []

abbrev pub ATTLIST : List ℕ
ATTLIST = 65 ∷ 84 ∷ 84 ∷ 76 ∷ 73 ∷ 83 ∷ 84 ∷ []

abbrev pub NUMBER : List ℕ
NUMBER = 78 ∷ 85 ∷ 77 ∷ 66 ∷ 69 ∷ 82 ∷ []

abbrev pub NAME : List ℕ
NAME = 78 ∷ 65 ∷ 77 ∷ 69 ∷ []

abbrev pub REQUIRED : List ℕ
REQUIRED = 82 ∷ 69 ∷ 81 ∷ 85 ∷ 73 ∷ 82 ∷ 69 ∷ 68 ∷ []

abbrev pub IMPLIED : List ℕ
IMPLIED = 73 ∷ 77 ∷ 80 ∷ 76 ∷ 73 ∷ 69 ∷ 68 ∷ []

-- The input ends within the word from `at` to `end`, which could have gone on as the given one: then no byte of it is unfit, and
-- number 4 stands at the input's end and not at the word's first byte.
abbrev pub is_cut : List ℕ → ℕ → ℕ → List ℕ → Bool
is_cut s at end w = leb (length s) end && (ltb (end - at) (length w) && same_text s at w 0 (end - at))

-- Two names, each by its position and size, are the same name folded.
abbrev pub same_name : List ℕ → ℕ → ℕ → ℕ → ℕ → Bool
same_name s a m b n = elim (eqb m n) [ true ↦ same_text s a s b n | false ↦ false ]

-- Model groups

-- Where a place stands and how long its name is; 0 for `#PCDATA`.
pub record Place : Type 0 where
  pub at : ℕ
  pub size : ℕ

-- What was read of a model: the group, where it ends, and the places and content tokens of the model up to there. `and` is where the first "&" of
-- the group stands, at any depth, and `repeated` where the first of those stands that number 25 is given for; 0 if there is none, since a type file
-- does not begin with "&".
pub record Tokens : Type 0 where
  pub group : Group
  pub at : ℕ
  pub places : List Place
  pub tokens : ℕ
  pub and : ℕ
  pub repeated : ℕ

-- "The indicator ("?", "+", "*") follows at once." "An "&" group may not stand, at any depth, in a token or group that carries "+" or "*",
-- nor carry one; that is number 25 at the first such "&"": here all of the group's are such, so it is its first.
unfoldable pub occurrence : List ℕ → Tokens → Tokens
occurrence s t =
    let b = byte_at s t.at in
    let with : Group → ℕ → Tokens = λ g n. record { group = g; at = t.at + 1; places = t.places; tokens = t.tokens; and = t.and; repeated = n } in
    elim (eqb b OPT) [
      | true ↦ with (opt t.group) t.repeated
      | false ↦ elim (eqb b PLUS) [
        | true ↦ with (plus t.group) t.and
        | false ↦ elim (eqb b REP) [ true ↦ with (star t.group) t.and | false ↦ t ]
      ]
    ]

-- "The names and `#PCDATA`s of a model are its places, numbered from 1, left to right": the next one.
abbrev pub new_place : List Place → Group
new_place ps = place (suc (length ps))

-- A name as content token. `full` says that the group or the model may have no further token.
unfoldable pub name_token : (long : ℕ) → List ℕ → ℕ → Bool → List Place → ℕ → Reading Tokens
name_token long s at full ps n =
    let e = name_end s at in
    elim (ltb long (e - at)) [
      | true ↦ refused 3 at
      | false ↦ elim full [
        | true ↦ refused 6 at
        | false ↦ got (occurrence s (record { group = new_place ps; at = e; places = ps ++ record { at = at; size = e - at } ∷ []; tokens = n + 1; and = 0; repeated = 0 }))
      ]
    ]

-- "`#PCDATA` counts as "*"". "A wrong word after `#` stands at the `#`."
unfoldable pub data_token : List ℕ → ℕ → Bool → List Place → ℕ → Reading Tokens
data_token s at full ps n =
    let e = name_end s (at + 1) in
    elim (letter (byte_at s (at + 1))) [
      | true ↦ elim (is_word s (at + 1) e PCDATA) [
        | true ↦ elim full [
          | true ↦ refused 6 at
          | false ↦ got (record { group = star (new_place ps); at = e; places = ps ++ record { at = at; size = 0 } ∷ []; tokens = n + 1; and = 0; repeated = 0 })
        ]
        | false ↦ elim (is_cut s (at + 1) e PCDATA) [ true ↦ refused 4 (length s) | false ↦ refused 4 at ]
      ]
      | false ↦ refused 4 (at + 1)
    ]

-- A content token: "a name, a name with an indicator, `#PCDATA`, or a group with or without an indicator".
-- `inner` reads a group one level further in, at its "(".
unfoldable pub token : (long : ℕ) → (ℕ → List Place → ℕ → Reading Tokens) → List ℕ → ℕ → Bool → List Place → ℕ → Reading Tokens
token long inner s at full ps n =
    let b = byte_at s at in
    elim (letter b) [
      | true ↦ name_token long s at full ps n
      | false ↦ elim (eqb b RNI) [
        | true ↦ data_token s at full ps n
        | false ↦ elim (eqb b GRPO) [
          | true ↦ elim full [ true ↦ refused 6 at | false ↦ and_then (inner at ps (n + 1)) (λ t. got (occurrence s t)) ]
          | false ↦ elim (eqb b DSO || eqb b PERO) [ true ↦ refused 5 at | false ↦ refused 4 at ]
        ]
      ]
    ]

-- The connectors: ",", "|" and, since request twelve of paper 02, "&".
abbrev pub is_connector : ℕ → Bool
is_connector b = eqb b SEQ || eqb b OR || eqb b AND

-- The members of an "&" group; another group is the only one.
abbrev pub members_of : Group → Members
members_of (place n) = one (place n)
members_of (seq g h) = one (seq g h)
members_of (alt g h) = one (alt g h)
members_of (opt g) = one (opt g)
members_of (plus g) = one (plus g)
members_of (and m) = m

-- One member more in an "&" group of which k were read: g is the first of them, be it an "&" group itself, or the group of all of them.
abbrev pub one_more : (k : ℕ) → Group → Group → Group
one_more k g h = and (also (elim (leb k 1) [ true ↦ one g | false ↦ members_of g ]) h)

-- "A group holds content tokens joined by one kind of connector": k of them, and one more.
abbrev pub join : (k b : ℕ) → Group → Group → Group
join k b g h = elim (eqb b SEQ) [ true ↦ seq g h | false ↦ elim (eqb b OR) [ true ↦ alt g h | false ↦ one_more k g h ] ]

-- The first of two positions, of which the first is earlier; 0 is none.
abbrev pub earlier : ℕ → ℕ → ℕ
earlier i j = elim (eqb i 0) [ true ↦ j | false ↦ i ]

-- Two tokens of a group, of which k were read, are joined by the connector b at i.
abbrev pub join_tokens : (k b i : ℕ) → Tokens → Tokens → Tokens
join_tokens k b i t u =
    record {
      group = join k b t.group u.group;
      at = u.at;
      places = u.places;
      tokens = u.tokens;
      and = earlier t.and (elim (eqb b AND) [ true ↦ i | false ↦ u.and ]);
      repeated = earlier t.repeated u.repeated;
    }

-- What follows a content token of a group: the group's ")", or a connector and a further content token.
pub data Further : Type 0 where
  closed : Tokens → Further
  joined : (connector : ℕ) → Tokens → Further

-- What follows when `t` was read of the group: k content tokens joined by the connector (0: none yet).
unfoldable pub further : (long : ℕ) → (ℕ → List Place → ℕ → Reading Tokens) → List ℕ → (k connector : ℕ) → Tokens → Reading Further
further long inner s k connector t =
    let i = separators_end s t.at in
    let b = byte_at s i in
    elim (eqb b GRPC) [
      | true ↦ got (closed (record { group = t.group; at = i + 1; places = t.places; tokens = t.tokens; and = t.and; repeated = t.repeated }))
      | false ↦ elim (eqb b PERO) [
        | true ↦ refused 5 i
        | false ↦ elim (is_connector b && (eqb connector 0 || eqb connector b)) [
          | true ↦ and_then
              (token long inner s (separators_end s (i + 1)) (leb GRPCNT k || leb GRPGTCNT t.tokens) t.places t.tokens)
              (λ u. got (joined b (join_tokens k b i t u)))
          | false ↦ refused 4 i
        ]
      ]
    ]

-- The rest of the group. `left` is how many more content tokens it may have; where it is 0 the token was refused already.
unfoldable pub members : (long : ℕ) → (ℕ → List Place → ℕ → Reading Tokens) → List ℕ → (left k connector : ℕ) → Tokens → Reading Tokens
members long inner s zero k connector t = refused 6 t.at
members long inner s (suc left) k connector t =
    and_then (further long inner s k connector t) (elim [ closed u ↦ got u | joined b u ↦ members long inner s left (k + 1) b u ])

-- A group whose "(" stands at `at`, with `levels` group levels left.
unfoldable pub group : (long : ℕ) → (levels : ℕ) → List ℕ → ℕ → List Place → ℕ → Reading Tokens
group long zero s at ps n = refused 6 at
group long (suc levels) s at ps n =
    and_then (token long (group long levels s) s (separators_end s (at + 1)) (leb GRPGTCNT n) ps n)
    (λ t. members long (group long levels s) s GRPCNT 1 0 t)

-- Element declarations

-- "Content is EMPTY or a group".
pub data Content : Type 0 where
  empty : Content
  model : Group → List Place → (tokens : ℕ) → Content

-- `repeated` is where the first "&" of the model stands that number 25 is given for, 0 if there is none. `attributes` are those of its list,
-- in declaration order.
pub record Element : Type 0 where
  pub at : ℕ
  pub size : ℕ
  pub start : ℕ
  pub end : ℕ
  pub content : Content
  pub repeated : ℕ
  pub attributes : List Attribute

-- An element is made here alone: where its name stands and how long it is, its start and end tag, its content, where the first "&" stands that is refused in
-- it, and its attributes.
abbrev pub element_with : (at size start end : ℕ) → Content → (repeated : ℕ) → List Attribute → Element
element_with at size start end content repeated attributes =
    record { at = at; size = size; start = start; end = end; content = content; repeated = repeated; attributes = attributes }

-- The element with these attributes.
abbrev pub with_list : Element → List Attribute → Element
with_list e xs = element_with e.at e.size e.start e.end e.content e.repeated xs

-- The number of the element with the name of this size at `at`, from 1; 0 if none has it. The first of these
-- has the number k.
unfoldable pub declared_from : ℕ → List ℕ → List Element → (at size : ℕ) → ℕ
declared_from k s [] at size = 0
declared_from k s (e ∷ es) at size = elim (same_name s e.at e.size at size) [ true ↦ k | false ↦ declared_from (k + 1) s es at size ]

-- An element declared before has the name of this size at `at`: exactly where that number is not 0.
abbrev pub is_declared : List ℕ → List Element → (at size : ℕ) → Bool
is_declared s es at size = leb 1 (declared_from 1 s es at size)

-- What fits nowhere between parameters is number 4 there. But a "-" at the input's end could still have opened a comment.
abbrev pub unfit : {A : Type 0} → List ℕ → ℕ → Reading A
unfit s i = elim (eqb (byte_at s i) MINUS && leb (length s) (i + 1)) [ true ↦ refused 4 (length s) | false ↦ refused 4 i ]

-- The element's name, and where it ends. "A group as element name" is number 5.
unfoldable pub element_name : (long : ℕ) → List ℕ → ℕ → List Element → Reading ℕ
element_name long s i es =
    let e = name_end s i in
    elim (letter (byte_at s i)) [
      | true ↦ elim (ltb long (e - i)) [
        | true ↦ refused 3 i
        | false ↦ elim (is_declared s es i (e - i)) [
          | true ↦ refused 7 i
          | false ↦ elim (leb element_limit (length es)) [ true ↦ refused 8 i | false ↦ got e ]
        ]
      ]
      | false ↦ elim (eqb (byte_at s i) GRPO) [ true ↦ refused 5 i | false ↦ unfit s i ]
    ]

-- One of the "two words each "-" or "O"", and where it ends: 0 for "-", 1 for "O". The parameter before ended at `from`:
-- "a parameter not parted from the one before is 4 at its first byte".
pub record Word : Type 0 where
  pub value : ℕ
  pub at : ℕ

unfoldable pub omission : (long : ℕ) → List ℕ → (from : ℕ) → ℕ → Reading Word
omission long s from i =
    let e = name_end s i in
    elim (eqb (byte_at s i) MINUS && ltb from i) [
      | true ↦ got (record { value = 0; at = i + 1 })
      | false ↦ elim (letter (byte_at s i)) [
        | true ↦ elim (ltb long (e - i)) [
          | true ↦ refused 3 i
          | false ↦ elim (ltb from i && is_word s i e O) [ true ↦ got (record { value = 1; at = e }) | false ↦ refused 4 i ]
        ]
        | false ↦ refused 4 i
      ]
    ]

-- What stands before the content.
pub record Head : Type 0 where
  pub name : ℕ
  pub size : ℕ
  pub start : ℕ
  pub end : ℕ
  pub at : ℕ

-- The two words after the name from i to e.
unfoldable pub words : (long : ℕ) → List ℕ → (i e : ℕ) → Reading Head
words long s i e =
    and_then (gap s e) λ j.
    and_then (omission long s e j) λ a.
    and_then (gap s a.at) λ k.
    and_then (omission long s a.at k) λ b.
    got (record { name = i; size = e - i; start = a.value; end = b.value; at = b.at })

unfoldable pub head : (long : ℕ) → List ℕ → ℕ → List Element → Reading Head
head long s at es =
    and_then (gap s at) λ i.
    and_then (element_name long s i es) λ e.
    words long s i e

-- What was read of the content and where it ends.
pub record ContentEnd : Type 0 where
  pub content : Content
  pub at : ℕ
  pub repeated : ℕ

-- A word as content: EMPTY, or one of those that number 5 names.
unfoldable pub content_word : (long : ℕ) → List ℕ → (from : ℕ) → ℕ → Reading ContentEnd
content_word long s from i =
    let e = name_end s i in
    elim (ltb long (e - i)) [
      | true ↦ refused 3 i
      | false ↦ elim (ltb from i && is_word s i e EMPTY) [
        | true ↦ got (record { content = empty; at = e; repeated = 0 })
        | false ↦ elim (is_word s i e ANY || is_word s i e CDATA || is_word s i e RCDATA) [
          | true ↦ refused 5 i
          | false ↦ elim (ltb from i && is_cut s i e EMPTY) [ true ↦ refused 4 (length s) | false ↦ refused 4 i ]
        ]
      ]
    ]

-- A model: "a group, which may have an indicator at once after it".
unfoldable pub content_model : (long : ℕ) → List ℕ → ℕ → Reading ContentEnd
content_model long s i =
    and_then (group long GRPLVL s i [] 0) λ t.
    let u = occurrence s t in
    got (record { content = model u.group u.places u.tokens; at = u.at; repeated = u.repeated })

unfoldable pub content : (long : ℕ) → List ℕ → (from : ℕ) → ℕ → Reading ContentEnd
content long s from i =
    elim (eqb (byte_at s i) GRPO) [
      | true ↦ content_model long s i
      | false ↦ elim (letter (byte_at s i)) [ true ↦ content_word long s from i | false ↦ unfit s i ]
    ]

-- The end of the declaration; "`-(` or `+(` after content" is number 5.
unfoldable pub close : List ℕ → ℕ → Reading ℕ
close s i =
    let b = byte_at s i in
    elim (eqb b MDC) [
      | true ↦ got (i + 1)
      | false ↦ elim ((eqb b MINUS || eqb b PLUS) && eqb (byte_at s (i + 1)) GRPO) [ true ↦ refused 5 i | false ↦ unfit s i ]
    ]

-- What an element declaration adds: the elements in declaration order, and where the type file goes on.
pub record Declared : Type 0 where
  pub elements : List Element
  pub at : ℕ

-- The element that is declared with this head and this content. Its attributes come with a list further on.
abbrev pub declare : Head → ContentEnd → Element
declare h x = element_with h.name h.size h.start h.end x.content x.repeated []

-- What follows the head: the content and the end of the declaration.
unfoldable pub rest : (long : ℕ) → List ℕ → List Element → Head → Reading Declared
rest long s es h =
    and_then (gap s h.at) λ i.
    and_then (content long s h.at i) λ x.
    and_then (gap s x.at) λ j.
    and_then (close s j) λ k.
    got (record { elements = es ++ declare h x ∷ []; at = k })

-- An element declaration whose keyword ends at `at`.
unfoldable pub element : (long : ℕ) → List ℕ → ℕ → List Element → Reading Declared
element long s at es = and_then (head long s at es) (rest long s es)

-- Name token groups

-- "A token twice in a list": one of these has the same bytes, folded.
unfoldable pub is_token : List ℕ → List Part → (at size : ℕ) → Bool
is_token s [] at size = false
is_token s (p ∷ ps) at size = same_name s p.at p.size at size || is_token s ps at size

-- A token at i: "letters, digits, "." and "-", 1 to 8 long, a longer one 3 at its first byte". `ps` are the
-- tokens of the group before it, `seen` those of the list's groups before. ""[" as token" names no kind of
-- group, so it is 5 here too, though ISO 8879 has no such form here (docs/DECISIONS.md).
unfoldable pub group_token : (long : ℕ) → List ℕ → (seen ps : List Part) → (i : ℕ) → Reading Part
group_token long s seen ps i =
    let e = name_end s i in
    elim (ltb i e) [
      | true ↦ elim (ltb long (e - i)) [
        | true ↦ refused 3 i
        | false ↦ elim (leb GRPCNT (length ps)) [
          | true ↦ refused 6 i
          | false ↦ elim (is_token s (seen ++ ps) i (e - i)) [ true ↦ refused 20 i | false ↦ got (record { at = i; size = e - i }) ]
        ]
      ]
      | false ↦ elim (eqb (byte_at s i) DSO || eqb (byte_at s i) PERO) [
        | true ↦ refused 5 i
        | false ↦ refused 4 i
      ]
    ]

-- The tokens of a group and where it ends.
pub record TokensEnd : Type 0 where
  pub tokens : List Part
  pub at : ℕ

-- The connectors of name token groups; ""&" .. joins name token groups too" (request twelve).
abbrev pub is_token_connector : ℕ → Bool
is_token_connector b = eqb b SEQ || (eqb b OR || eqb b AND)

-- The rest of a group, "one connector" (0: none yet), from behind its "(" or a connector on. `left` is how many more tokens it may have; where it is 0
-- the token was refused already.
unfoldable pub group_tokens : (long : ℕ) → List ℕ → (seen : List Part) → (left connector : ℕ) → (ps : List Part) → (at : ℕ) → Reading TokensEnd
group_tokens long s seen zero connector ps at = refused 6 at
group_tokens long s seen (suc left) connector ps at =
    and_then (group_token long s seen ps (separators_end s at)) λ p.
    let i = separators_end s (p.at + p.size) in
    let b = byte_at s i in
    elim (eqb b GRPC) [
      | true ↦ got (record { tokens = ps ++ p ∷ []; at = i + 1 })
      | false ↦ elim (eqb b PERO) [
        | true ↦ refused 5 i
        | false ↦ elim (is_token_connector b && (eqb connector 0 || eqb connector b)) [
          | true ↦ group_tokens long s seen left b (ps ++ p ∷ []) (i + 1)
          | false ↦ refused 4 i
        ]
      ]
    ]

-- The group whose "(" stands at `at`.
unfoldable pub token_group : (long : ℕ) → List ℕ → (seen : List Part) → (at : ℕ) → Reading TokensEnd
token_group long s seen at = group_tokens long s seen (suc GRPCNT) 0 [] (at + 1)

-- Attribute definitions

-- The tokens of all groups of these attributes.
unfoldable pub tokens_of : List Attribute → List Part
tokens_of [] = []
tokens_of (a ∷ xs) = elim a.value [ cdata ↦ tokens_of xs | number ↦ tokens_of xs | name ↦ tokens_of xs | tokens i ps ↦ ps ++ tokens_of xs ]

-- The attribute's name at i, a letter, and where it ends; the parameter before ended at `from`. "7 holds for a list's attributes too", and 20 for "a 41st".
unfoldable pub attribute_name : (long : ℕ) → List ℕ → List Attribute → (from i : ℕ) → Reading ℕ
attribute_name long s xs from i =
    let e = name_end s i in
    elim (ltb long (e - i)) [
      | true ↦ refused 3 i
      | false ↦ elim (ltb from i) [
        | true ↦ elim (leb 1 (attribute_of s xs s i (e - i))) [
          | true ↦ refused 7 i
          | false ↦ elim (leb ATTCNT (length xs)) [ true ↦ refused 20 i | false ↦ got e ]
        ]
        | false ↦ refused 4 i
      ]
    ]

-- A declared value and where it ends.
pub record ValueEnd : Type 0 where
  pub value : DeclaredValue
  pub at : ℕ

-- A word as declared value. Every word but three is a wrong one.
unfoldable pub value_word : (long : ℕ) → List ℕ → (i : ℕ) → Reading ValueEnd
value_word long s i =
    let e = name_end s i in
    elim (ltb long (e - i)) [
      | true ↦ refused 3 i
      | false ↦ elim (is_word s i e CDATA) [
        | true ↦ got (record { value = cdata; at = e })
        | false ↦ elim (is_word s i e NUMBER) [
          | true ↦ got (record { value = number; at = e })
          | false ↦ elim (is_word s i e NAME) [
            | true ↦ got (record { value = name; at = e })
            | false ↦ elim (is_cut s i e CDATA || (is_cut s i e NUMBER || is_cut s i e NAME)) [ true ↦ refused 4 (length s) | false ↦ refused 4 i ]
          ]
        ]
      ]
    ]

-- The declared value at i; `seen` are the tokens of the list so far. A name ends before a letter only where something parts them.
unfoldable pub declared_value : (long : ℕ) → List ℕ → (seen : List Part) → (i : ℕ) → Reading ValueEnd
declared_value long s seen i =
    elim (eqb (byte_at s i) GRPO) [
      | true ↦ and_then (token_group long s seen i) λ t. got (record { value = tokens i t.tokens; at = t.at })
      | false ↦ elim (letter (byte_at s i)) [ true ↦ value_word long s i | false ↦ unfit s i ]
    ]

-- A default and where it ends.
pub record DefaultEnd : Type 0 where
  pub default : Default
  pub at : ℕ

-- `#REQUIRED` or `#IMPLIED`, from its `#` at i. "A wrong word after `#` stands at the `#`."
unfoldable pub default_word : List ℕ → (i : ℕ) → Reading DefaultEnd
default_word s i =
    let e = name_end s (i + 1) in
    elim (letter (byte_at s (i + 1))) [
      | true ↦ elim (is_word s (i + 1) e REQUIRED) [
        | true ↦ got (record { default = required; at = e })
        | false ↦ elim (is_word s (i + 1) e IMPLIED) [
          | true ↦ got (record { default = implied; at = e })
          | false ↦ elim (is_cut s (i + 1) e REQUIRED || is_cut s (i + 1) e IMPLIED) [ true ↦ refused 4 (length s) | false ↦ refused 4 i ]
        ]
      ]
      | false ↦ refused 4 (i + 1)
    ]

-- A literal as default, from its opening quote at i: 22 stands there, "not for a literal with 4 or 5 in it".
unfoldable pub default_literal : (long : ℕ) → List ℕ → DeclaredValue → (i : ℕ) → Reading DefaultEnd
default_literal long s x i =
    and_then (literal_end s i) λ e.
    let p : Part = record { at = i + 1; size = e - (i + 1) } in
    elim (fits long s x (bytes_in s p)) [ true ↦ got (record { default = literal p; at = e + 1 }) | false ↦ refused 22 i ]

-- "A group needs none on either side": nothing need part the default from it.
abbrev pub is_group : DeclaredValue → Bool
is_group cdata = false
is_group number = false
is_group name = false
is_group (tokens at ps) = true

-- The default at i of an attribute with this declared value, which ended at `from`.
unfoldable pub default_value : (long : ℕ) → List ℕ → DeclaredValue → (from i : ℕ) → Reading DefaultEnd
default_value long s x from i =
    let b = byte_at s i in
    elim (eqb b RNI || quote b) [
      | true ↦ elim (is_group x || ltb from i) [
        | true ↦ elim (eqb b RNI) [ true ↦ default_word s i | false ↦ default_literal long s x i ]
        | false ↦ refused 4 i
      ]
      | false ↦ unfit s i
    ]

-- An attribute definition and where it ends.
pub record Definition : Type 0 where
  pub attribute : Attribute
  pub at : ℕ

-- The definition whose name, a letter, stands at i, after these attributes of the list; the parameter before ended at `from`.
unfoldable pub definition : (long : ℕ) → List ℕ → List Attribute → (from i : ℕ) → Reading Definition
definition long s xs from i =
    and_then (attribute_name long s xs from i) λ e.
    and_then (gap s e) λ j.
    and_then (declared_value long s (tokens_of xs) j) λ v.
    and_then (gap s v.at) λ k.
    and_then (default_value long s v.value v.at k) λ f.
    got (record { attribute = record { at = i; size = e - i; value = v.value; default = f.default }; at = f.at })

-- The attributes of a list and where its declaration ends.
pub record ListEnd : Type 0 where
  pub attributes : List Attribute
  pub at : ℕ

-- The definitions of a list, one or more, and the `>`; what was read ended at `from`. `left` is how many more definitions there may be; where it is 0
-- the name was refused already.
unfoldable pub definitions : (long : ℕ) → List ℕ → (left : ℕ) → List Attribute → (from : ℕ) → Reading ListEnd
definitions long s zero xs from = refused 20 from
definitions long s (suc left) xs from =
    and_then (gap s from) λ i.
    elim (eqb (byte_at s i) MDC && leb 1 (length xs)) [
      | true ↦ got (record { attributes = xs; at = i + 1 })
      | false ↦ elim (letter (byte_at s i)) [
        | true ↦ and_then (definition long s xs from i) λ d. definitions long s left (xs ++ d.attribute ∷ []) d.at
        | false ↦ unfit s i
      ]
    ]

-- The list whose element's name ends at `from`: this depends on nothing that was declared before.
unfoldable pub list_from : (long : ℕ) → List ℕ → (from : ℕ) → Reading ListEnd
list_from long s from = definitions long s (suc ATTCNT) [] from

-- Attribute definition lists

-- The element with this number has a list.
unfoldable pub is_listed : List AttList → ℕ → Bool
is_listed [] k = false
is_listed (l ∷ ls) k = eqb l.element k || is_listed ls k

-- The element whose attributes are declared, and where its name ends.
pub record Listed : Type 0 where
  pub element : ℕ
  pub at : ℕ

-- "One list each, the element declared before it, else 10"; "a second list" is 20. "A group as element name" is number 5.
unfoldable pub listed_element : (long : ℕ) → List ℕ → List Element → List AttList → (i : ℕ) → Reading Listed
listed_element long s es ls i =
    let e = name_end s i in
    let k = declared_from 1 s es i (e - i) in
    elim (letter (byte_at s i)) [
      | true ↦ elim (ltb long (e - i)) [
        | true ↦ refused 3 i
        | false ↦ elim (leb 1 k) [
          | true ↦ elim (is_listed ls k) [ true ↦ refused 20 i | false ↦ got (record { element = k; at = e }) ]
          | false ↦ refused 10 i
        ]
      ]
      | false ↦ elim (eqb (byte_at s i) GRPO) [ true ↦ refused 5 i | false ↦ unfit s i ]
    ]

-- What was read of a type file: the elements and the attribute lists, each in declaration order, and where it goes on.
pub record Declarations : Type 0 where
  pub elements : List Element
  pub lists : List AttList
  pub at : ℕ

-- An attribute definition list declaration whose keyword ends at `at`.
unfoldable pub attribute_list : (long : ℕ) → List ℕ → (at : ℕ) → List Element → List AttList → Reading Declarations
attribute_list long s at es ls =
    and_then (gap s at) λ i.
    and_then (listed_element long s es ls i) λ l.
    and_then (list_from long s l.at) λ x.
    got (record { elements = es; lists = ls ++ record { element = l.element; attributes = x.attributes } ∷ []; at = x.at })

-- The type file

-- `<!` and a letter: "`<!` and a name of 1 to 8 other than ELEMENT" is number 5, and that too reads "with the given length for 8"; "ATTLIST leaves the
-- list under 5".
unfoldable pub keyword : (long : ℕ) → List ℕ → ℕ → List Element → List AttList → Reading Declarations
keyword long s i es ls =
    let e = name_end s (i + 2) in
    elim (ltb long (e - (i + 2))) [
      | true ↦ refused 3 (i + 2)
      | false ↦ elim (is_word s (i + 2) e ELEMENT) [
        | true ↦ and_then (element long s e es) λ d. got (record { elements = d.elements; lists = ls; at = d.at })
        | false ↦ elim (is_word s (i + 2) e ATTLIST) [ true ↦ attribute_list long s e es ls | false ↦ refused 5 i ]
      ]
    ]

-- `<!` at i: `<!>`, a comment declaration, `<![` (number 5) or a keyword. "No gap stands between `<!` and its keyword."
unfoldable pub markup : (long : ℕ) → List ℕ → ℕ → List Element → List AttList → Reading Declarations
markup long s i es ls =
    let b = byte_at s (i + 2) in
    elim (eqb b MDC) [
      | true ↦ got (record { elements = es; lists = ls; at = i + 3 })
      | false ↦ elim (eqb b MINUS) [
        | true ↦ elim (eqb (byte_at s (i + 3)) MINUS) [
          | true ↦ and_then (comment_declaration s (i + 2)) λ j. got (record { elements = es; lists = ls; at = j })
          | false ↦ refused 4 (i + 3)
        ]
        | false ↦ elim (eqb b DSO) [ true ↦ refused 5 i | false ↦ elim (letter b) [ true ↦ keyword long s i es ls | false ↦ refused 4 (i + 2) ] ]
      ]
    ]

-- What stands at i, where a declaration may begin and the input does not end.
unfoldable pub declaration : (long : ℕ) → List ℕ → ℕ → List Element → List AttList → Reading Declarations
declaration long s i es ls =
    let b = byte_at s i in
    let second = byte_at s (i + 1) in
    elim (eqb b STAGO) [
      | true ↦ elim (eqb second EXCLAMATION) [ true ↦ markup long s i es ls | false ↦ elim (eqb second OPT) [ true ↦ refused 5 i | false ↦ refused 4 (i + 1) ] ]
      | false ↦ elim (eqb b PERO) [ true ↦ refused 5 i | false ↦ refused 4 i ]
    ]

-- "Separators, comment declarations, `<!>` and element declarations", and attribute lists, from `at` on. A type file with no element is number 8 at its length.
-- Each turn but the last takes a declaration, so there are fewer turns than bytes.
unfoldable pub declarations_within : (long : ℕ) → ℕ → List ℕ → ℕ → List Element → List AttList → Reading Declarations
declarations_within long zero s at es ls = refused 4 (length s)
declarations_within long (suc turns) s at es ls =
    let i = separators_end s at in
    elim (leb (length s) i) [
      | true ↦ elim (eqb (length es) 0) [ true ↦ refused 8 (length s) | false ↦ got (record { elements = es; lists = ls; at = i }) ]
      | false ↦ and_then (declaration long s i es ls) λ d. declarations_within long turns s d.at d.elements d.lists
    ]

-- The attributes of the list for the element with this number; none where there is no such list.
unfoldable pub attributes_of : List AttList → ℕ → List Attribute
attributes_of [] k = []
attributes_of (l ∷ ls) k = elim (eqb l.element k) [ true ↦ l.attributes | false ↦ attributes_of ls k ]

-- Each element with the attributes of its list. The first of these has the number k.
unfoldable pub listed : ℕ → List AttList → List Element → List Element
listed k ls [] = []
listed k ls (e ∷ es) = with_list e (attributes_of ls k) ∷ listed (k + 1) ls es

unfoldable pub type_file : (long : ℕ) → List ℕ → Reading (List Element)
type_file long s = and_then (declarations_within long (suc (length s)) s 0 [] []) λ d. got (listed 1 d.lists d.elements)
