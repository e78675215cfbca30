-- The sizes of the tables, by the names that the code has for them.
use Rattle.std.specs.Prelude.{ℕ, ◌+◌, ◌*◌}
use Rattle.rules.specs.Settings.{most_name_length}
use Rattle.rules.specs.Bytes.{GRPCNT, GRPGTCNT, ATTCNT, TAGLVL, element_limit}
use Rattle.rules.specs.Judge.{record_width}
use Rattle.rules.specs.Events.{event_width}
use Rattle.rules.specs.Listing.{attribute_width}

-- Where one can stand in a content model: at its start, or after one of its places.
abbrev pub POSITIONS : ℕ
POSITIONS = GRPGTCNT + 1

-- The names of a model: of each place where it stands and how long it is.
abbrev pub NAMES : ℕ
NAMES = 2 * GRPGTCNT

-- The table of a model: a row for each position, with a cell for each position and one for the required place; behind the rows the
-- model as postfix code.
abbrev pub MODEL_ROW : ℕ
MODEL_ROW = POSITIONS + 1

abbrev pub MODEL_ROWS : ℕ
MODEL_ROWS = POSITIONS * MODEL_ROW

abbrev pub CODE : ℕ
CODE = 4 * GRPGTCNT + 3

abbrev pub MODEL : ℕ
MODEL = MODEL_ROWS + CODE

-- The records of a type.
abbrev pub RECORDS : ℕ
RECORDS = record_width * element_limit

-- The events; those that the small program has room for, the bytes of a line that it prints, at most, and of all lines.
abbrev pub EVENT : ℕ
EVENT = event_width

abbrev pub PROGRAM_EVENTS : ℕ
PROGRAM_EVENTS = 4096

abbrev pub LINE : ℕ
LINE = 72

abbrev pub PROGRAM_TEXT : ℕ
PROGRAM_TEXT = LINE * (PROGRAM_EVENTS + 1)

-- The events that a token brings at most, without those of attributes: the ends and starts that are inferred, and two of its own; and with those of attributes,
-- which stand before each start.
abbrev pub TOKEN_EVENTS : ℕ
TOKEN_EVENTS = 2 * TAGLVL + 2

abbrev pub MOST_EVENTS : ℕ
MOST_EVENTS = TOKEN_EVENTS + (TAGLVL + 1) * ATTCNT

-- What has content: the document itself (0), and the elements.
abbrev pub CONTENTS : ℕ
CONTENTS = element_limit + 1

-- The elements by name: a link for each, and a bucket for each length of a name and each first letter.
abbrev pub LETTERS : ℕ
LETTERS = 32

abbrev pub INDEX : ℕ
INDEX = CONTENTS + LETTERS * most_name_length

-- The tables of a type: the bits of a row, eight in a number, and the required place behind them.
abbrev pub LAST_BITS : ℕ
LAST_BITS = 12

abbrev pub REQUIRED : ℕ
REQUIRED = LAST_BITS + 1

abbrev pub ROW : ℕ
ROW = REQUIRED + 1

abbrev pub ROWS : ℕ
ROWS = CONTENTS * POSITIONS * ROW

-- What a place names and the next smaller place of that name; `#PCDATA` is the name of no element.
abbrev pub LINK : ℕ
LINK = 2

abbrev pub PLACES : ℕ
PLACES = CONTENTS * POSITIONS * LINK

abbrev pub PCDATA : ℕ
PCDATA = 255

-- A place for each name, and behind these whether the start may be omitted, the end may be omitted, and the content is a model.
abbrev pub START_OMITTED : ℕ
START_OMITTED = CONTENTS

abbrev pub END_OMITTED : ℕ
END_OMITTED = CONTENTS + 1

abbrev pub HAS_MODEL : ℕ
HAS_MODEL = CONTENTS + 2

abbrev pub FACT : ℕ
FACT = CONTENTS + 3

abbrev pub FACTS : ℕ
FACTS = CONTENTS * FACT

-- A required place and the largest place of a name are so much higher where the model has an "&".
abbrev pub RAISE : ℕ
RAISE = 128

-- The members of "&" groups: of each content a number for each position and two for each member, four for each group, and behind these one for each group.
-- Behind these stand members as bits, eight in a number: those that cannot be nothing, and of each group those that hold it and those that are its own or of a
-- group around it.
abbrev pub GROUP : ℕ
GROUP = 4

abbrev pub AND_GROUPS : ℕ
AND_GROUPS = 48

-- The last place of each group, while they are filled.
abbrev pub LASTS : ℕ
LASTS = AND_GROUPS + 1

-- A member that holds a place or a group is so much higher where it can end with that.
abbrev pub ENDING : ℕ
ENDING = 128

abbrev pub REACHES : ℕ
REACHES = 3 * POSITIONS + GROUP * (AND_GROUPS + 1)

abbrev pub NEEDED : ℕ
NEEDED = REACHES + AND_GROUPS + 1

abbrev pub MEMBER_BITS : ℕ
MEMBER_BITS = 12

abbrev pub SETS : ℕ
SETS = NEEDED + MEMBER_BITS

abbrev pub MEMBER : ℕ
MEMBER = SETS + 2 * MEMBER_BITS * (AND_GROUPS + 1)

abbrev pub MEMBERS : ℕ
MEMBERS = CONTENTS * MEMBER

-- Which members have begun: of the document and of each open element a bit for each content token, in three numbers.
abbrev pub BEGUN_WORDS : ℕ
BEGUN_WORDS = 3

abbrev pub BEGUN : ℕ
BEGUN = (TAGLVL + 1) * BEGUN_WORDS

-- The attributes of an element: how many there are, and five numbers for each.
abbrev pub ATTRIBUTE : ℕ
ATTRIBUTE = 5

abbrev pub LIST : ℕ
LIST = 1 + ATTCNT * ATTRIBUTE

-- Those of all elements.
abbrev pub LISTS : ℕ
LISTS = element_limit * LIST

-- The tokens of the name token groups of one list: of each where it stands and how long it is.
abbrev pub TOKENS : ℕ
TOKENS = 2 * GRPCNT * ATTCNT

-- The attributes that a start tag gives, as they are read: four numbers for each of at most one more than a list has.
abbrev pub WRITTEN : ℕ
WRITTEN = 4

abbrev pub GIVEN : ℕ
GIVEN = WRITTEN * (ATTCNT + 1)

-- What a tag gives of the attributes of its element: of each where the value begins and how long it is.
abbrev pub MARKS : ℕ
MARKS = 2 * ATTCNT

-- The records of a type's attributes, for a caller.
abbrev pub ATTRIBUTE_RECORDS : ℕ
ATTRIBUTE_RECORDS = attribute_width * ATTCNT * element_limit
