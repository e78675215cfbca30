-- How the table of a content model is filled, group by group: functions on lists, of the shape of the code.
-- The table has `POSITIONS` rows of `MODEL_ROW` numbers. Row 0 is the start, row u is after the place u; the places are 1 to 96.
-- Column 0 is 1 where the content is complete, column p is 1 where the place p may come next, the last column is the required place or 0.
-- While a model is read, row 0 holds the places that can begin, and column 0 those that can end, the innermost finished group around them.
use Rattle.std.specs.Prelude.{ℕ, ◌*◌, Bool, ◌&&◌, ◌||◌, cond, List, set}
use Rattle.rules.specs.Walk.{Group}
use Rattle.layout.specs.Sizes.{MODEL_ROW, POSITIONS}
use Rattle.model_sets.specs.Sets.{nullable, required_first}
use Rattle.model_links.specs.Links.{link, settle, clear_row, unbegin}
use Rattle.model_table.specs.declared.Part.{Part}

-- A new place can begin and end itself, and nothing comes after it.
abbrev pub put_place : List ℕ → ℕ → List ℕ
put_place T p = set (set (clear_row T p) p 1) (p * MODEL_ROW) 1

-- This is kept of a group beside the table.
abbrev pub part : Bool → ℕ → Part
part n r = record { nullable = n; required = r }

-- Two groups in sequence require what the first does, or what the second does if the first can be empty.
abbrev pub part_seq : Part → Part → Part
part_seq g h = part (g.nullable && h.nullable) (cond g.nullable h.required g.required)

-- Two groups of which one is taken require no place.
abbrev pub part_alt : Part → Part → Part
part_alt g h = part (g.nullable || h.nullable) 0

-- Two groups in any order require no place.
abbrev pub part_and : Part → Part → Part
part_and g h = part (g.nullable && h.nullable) 0

-- The ends of a first group stay ends if the second can be empty.
unfoldable pub close_ends : List ℕ → ℕ → ℕ → Part → List ℕ
close_ends T lo mid h = cond h.nullable T (settle T lo mid h.required)

-- The starts of a second group stay starts if the first can be empty.
unfoldable pub close_starts : List ℕ → ℕ → ℕ → Part → List ℕ
close_starts T mid hi g = cond g.nullable T (unbegin T mid hi)

-- Where [lo, mid) is filled with a first group and [mid, hi) with a second, the two are put in sequence.
abbrev pub join_seq : List ℕ → ℕ → ℕ → ℕ → Part → Part → List ℕ
join_seq T lo mid hi g h = close_starts (close_ends (link T lo mid mid hi) lo mid h) mid hi g

-- Where [lo, mid) is filled with a first group and [mid, hi) with a second, the two are put in any order.
abbrev pub join_and : List ℕ → ℕ → ℕ → ℕ → List ℕ
join_and T lo mid hi = link (link T lo mid mid hi) mid hi lo mid

-- Any of [lo, hi) that can end may be followed by any that can begin.
abbrev pub repeated : List ℕ → ℕ → ℕ → List ℕ
repeated T lo hi = link T lo hi lo hi

-- Row 0 gets its two columns: whether the whole model can be empty, and which place it requires.
abbrev pub finished : List ℕ → Part → List ℕ
finished T g = set (set T 0 (cond g.nullable 1 0)) POSITIONS g.required

-- This is kept of the group g.
abbrev pub part_of : Group → Part
part_of g = part (nullable g) (required_first g)
