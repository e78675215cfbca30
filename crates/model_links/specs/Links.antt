-- What joining groups does to the cells of the table: functions on lists, of the shape of the code.
use Rattle.std.specs.Prelude.{ℕ, ◌+◌, ◌*◌, cond, List, get_or, set, eqb}
use Rattle.layout.specs.Sizes.{MODEL_ROW, POSITIONS}
use Rattle.model_links.specs.Each.{each}

-- The place p may come after u if it can begin the group.
unfoldable pub link_cell : ℕ → List ℕ → ℕ → List ℕ
link_cell u T p = cond (eqb (get_or T p 0) 1) (set T (u * MODEL_ROW + p) 1) T

-- Each place of [c, d) that can begin the group may come after u.
abbrev pub link_row : List ℕ → ℕ → ℕ → ℕ → List ℕ
link_row T u c d = each (link_cell u) T c d

-- They may come after u if u can end its group.
unfoldable pub link_from : ℕ → ℕ → List ℕ → ℕ → List ℕ
link_from c d T u = cond (eqb (get_or T (u * MODEL_ROW) 0) 1) (link_row T u c d) T

-- After each place in [a, b) that can end its group, each in [c, d) may come that can begin its own.
abbrev pub link : List ℕ → ℕ → ℕ → ℕ → ℕ → List ℕ
link T a b c d = each (link_from c d) T a b

-- The place u can no longer end its group: the place r is required after it.
unfoldable pub settle_row : ℕ → List ℕ → ℕ → List ℕ
settle_row r T u = cond (eqb (get_or T (u * MODEL_ROW) 0) 1) (set (set T (u * MODEL_ROW) 0) (u * MODEL_ROW + POSITIONS) r) T

abbrev pub settle : List ℕ → ℕ → ℕ → ℕ → List ℕ
settle T lo mid r = each (settle_row r) T lo mid

-- A number of row u is 0.
unfoldable pub clear_cell : ℕ → List ℕ → ℕ → List ℕ
clear_cell u T c = set T (u * MODEL_ROW + c) 0

-- All numbers of the row are 0.
abbrev pub clear_row : List ℕ → ℕ → List ℕ
clear_row T u = each (clear_cell u) T 0 MODEL_ROW

-- The place p can no longer begin.
unfoldable pub unbegin_cell : List ℕ → ℕ → List ℕ
unbegin_cell T p = set T p 0

abbrev pub unbegin : List ℕ → ℕ → ℕ → List ℕ
unbegin T mid hi = each unbegin_cell T mid hi
