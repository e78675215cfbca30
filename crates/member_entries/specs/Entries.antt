-- What the functions of the code put into the table of members: of one member, and of one group.
use Rattle.std.specs.Prelude.{ℕ, ◌+◌, ◌*◌, ◌&&◌, cond, List, get_or, set, ltb, leb, eqb}
use Rattle.layout.specs.Sizes.{POSITIONS, MODEL_ROW, GROUP, ENDING}
use Rattle.model_links.specs.Each.{each}

-- A number is put where none is yet.
unfoldable pub put_free : List ℕ → (i x : ℕ) → List ℕ
put_free M i x = cond (eqb (get_or M i 0) 0) (set M i x) M

-- The member h, and `ENDING` more if the table has w after u.
abbrev pub marked : List ℕ → (u w h : ℕ) → ℕ
marked T u w h = h + cond (eqb (get_or T (u * MODEL_ROW + w) 0) 1) ENDING 0

-- Where what is kept of a group begins.
abbrev pub record_from : (base g : ℕ) → ℕ
record_from base g = base + 3 * POSITIONS + g * GROUP

-- The member h gets the free places of [lo, hi).
abbrev pub put_place : (base : ℕ) (T : List ℕ) (w h : ℕ) → List ℕ → ℕ → List ℕ
put_place base T w h M u = put_free M (base + u) (marked T u w h)

unfoldable pub put_places : List ℕ → (base : ℕ) (T : List ℕ) (w h lo hi : ℕ) → List ℕ
put_places M base T w h lo hi = each (put_place base T w h) M lo hi

-- The member h of [lo, hi) gets the group g, which is free and ends with `last`; and those of the groups [a, b).
unfoldable pub put_outer : List ℕ → (base : ℕ) (T : List ℕ) (w h lo hi last g : ℕ) → List ℕ
put_outer M base T w h lo hi last g = cond (leb lo last && ltb last hi) (put_free M (record_from base g + 3) (marked T last w h)) M

unfoldable pub put_outers : List ℕ → (base : ℕ) (T : List ℕ) (w h lo hi : ℕ) (lasts : List ℕ) (a b : ℕ) → List ℕ
put_outers M base T w h lo hi lasts a b = each (λ S g. put_outer S base T w h lo hi (get_or lasts g 0) g) M a b

-- The member h of the group after the first groups, with the places [lo, hi) and what it requires.
unfoldable pub put_member : List ℕ → (base : ℕ) (T lasts : List ℕ) (groups w h lo hi required : ℕ) → List ℕ
put_member M base T lasts groups w h lo hi required =
    set (set (put_outers (put_places M base T w h lo hi) base T w h lo hi lasts 1 (groups + 1)) (base + POSITIONS + h) (groups + 1)) (base + 2 * POSITIONS + h) required

-- What is kept of the group after the first groups: its first member, how many cannot be nothing, and how many there are.
abbrev pub put_record : List ℕ → (base groups own needed k : ℕ) → List ℕ
put_record M base groups own needed k =
    set (set (set M (record_from base (groups + 1)) own) (record_from base (groups + 1) + 1) needed) (record_from base (groups + 1) + 2) k
