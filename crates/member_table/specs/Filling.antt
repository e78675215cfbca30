-- What the functions of the code do to the table of members: one number of the code after the other, upon a stack of groups.
use Rattle.std.specs.Prelude.{ℕ, zero, suc, ◌+◌, ◌-◌, ◌*◌, Bool, true, false, ◌&&◌, ◌||◌, cond, List, get_or, set, replicate, ltb, leb, eqb}
use Rattle.model_code.specs.Codes.{AND_CODE, OPT_CODE, PLUS_CODE, SEQ_CODE}
use Rattle.layout.specs.Sizes.{POSITIONS, MODEL_ROWS, CODE, AND_GROUPS, MEMBER, LASTS}
use Rattle.model_links.specs.Each.{each}
use Rattle.member_entries.specs.Entries.{put_member, put_record}
use Rattle.member_table.specs.declared.Piece.{Piece}

-- Pieces lie on a stack.

abbrev pub none_piece : Piece
none_piece = record { lo = 0; last = 0; null = false; required = 0 }

abbrev pub piece_at : List Piece → ℕ → Piece
piece_at stack k = get_or stack k none_piece

abbrev pub place_piece : ℕ → Piece
place_piece p = record { lo = p; last = p; null = false; required = p }

abbrev pub opt_piece : Piece → Piece
opt_piece a = record { lo = a.lo; last = a.last; null = true; required = 0 }

abbrev pub joined_piece : ℕ → Piece → Piece → Piece
joined_piece op a b =
    cond
    (eqb op SEQ_CODE)
    (record { lo = a.lo; last = b.last; null = a.null && b.null; required = cond a.null b.required a.required })
    (record { lo = a.lo; last = b.last; null = a.null || b.null; required = 0 })

abbrev pub closed_piece : (needed : ℕ) → Piece → Piece → Piece
closed_piece needed a b = record { lo = a.lo; last = b.last; null = eqb needed 0; required = 0 }

-- How many of the k pieces from `first` on cannot be nothing.
abbrev pub needed_in : List Piece → (first k : ℕ) → ℕ
needed_in stack first zero = 0
needed_in stack first (suc j) = needed_in stack first j + cond (piece_at stack (first + j)).null 0 1

-- The number of the piece j as a member: those that cannot be nothing come first.
abbrev pub number_at : List Piece → (first own needed j : ℕ) → ℕ
number_at stack first own needed j =
    cond (piece_at stack (first + j)).null (own + needed + (j - needed_in stack first j)) (own + needed_in stack first j)

-- A place that begins another member than the piece j.
abbrev pub other_at : List Piece → (first j : ℕ) → ℕ
other_at stack first j = cond (eqb j 0) (piece_at stack (first + 1)).lo (piece_at stack first).lo

-- The piece j is put as a member of the next group.
unfoldable pub put_one : List ℕ → (base : ℕ) (T lasts : List ℕ) (groups own : ℕ) (stack : List Piece) (first needed j : ℕ) → List ℕ
put_one M base T lasts groups own stack first needed j =
    put_member
    M
    base
    T
    lasts
    groups
    (other_at stack first j)
    (number_at stack first own needed j)
    (piece_at stack (first + j)).lo
    ((piece_at stack (first + j)).last + 1)
    (piece_at stack (first + j)).required

-- The pieces [a, b) are put, and the next group whole.
unfoldable pub put_ones : List ℕ → (base : ℕ) (T lasts : List ℕ) (groups own : ℕ) (stack : List Piece) (first needed a b : ℕ) → List ℕ
put_ones M base T lasts groups own stack first needed a b = each (λ S j. put_one S base T lasts groups own stack first needed j) M a b

abbrev pub put_group : List ℕ → (base : ℕ) (T lasts : List ℕ) (groups own : ℕ) (stack : List Piece) (first needed k : ℕ) → List ℕ
put_group M base T lasts groups own stack first needed k =
    put_ones (put_record M base groups own needed k) base T lasts groups own stack first needed 0 k

-- One number of the code is read.

-- The table, the stack with how many pieces are on it, the groups with the last place of each, and how many members there are.
pub record State : Type 0 where
  pub members : List ℕ
  pub stack : List Piece
  pub top : ℕ
  pub lasts : List ℕ
  pub groups : ℕ
  pub count : ℕ

abbrev pub fits : (k top groups count : ℕ) → Bool
fits k top groups count = leb 2 k && (leb k top && (ltb groups AND_GROUPS && ltb (count + k) POSITIONS))

-- The stack has a piece at k, which is the last now.
abbrev pub stacked : State → (k : ℕ) → Piece → State
stacked s k a = record { members = s.members; stack = set s.stack k a; top = k + 1; lasts = s.lasts; groups = s.groups; count = s.count }

-- "&" groups end: the last k pieces are the members.
abbrev pub close_group : (base : ℕ) (T : List ℕ) (k : ℕ) → State → State
close_group base T k s =
    record {
      members =
          put_group
          s.members
          base
          T
          s.lasts
          s.groups
          (s.count + 1)
          s.stack
          (s.top - k)
          (needed_in s.stack (s.top - k) k)
          k;
      stack =
          set
          s.stack
          (s.top - k)
          (closed_piece (needed_in s.stack (s.top - k) k) (piece_at s.stack (s.top - k)) (piece_at s.stack (s.top - 1)));
      top = s.top - k + 1;
      lasts = set s.lasts (s.groups + 1) (piece_at s.stack (s.top - 1)).last;
      groups = s.groups + 1;
      count = s.count + k;
    }

-- A number that lacks pieces or room does nothing.
abbrev pub step_fill : (base : ℕ) (T : List ℕ) → State → (op : ℕ) → State
step_fill base T s op =
    cond
    (ltb op SEQ_CODE)
    (cond (ltb s.top POSITIONS) (stacked s s.top (place_piece op)) s)
    (cond
    (eqb op OPT_CODE)
    (cond (leb 1 s.top) (stacked s (s.top - 1) (opt_piece (piece_at s.stack (s.top - 1)))) s)
    (cond
    (ltb op PLUS_CODE)
    (cond (leb 2 s.top) (stacked s (s.top - 2) (joined_piece op (piece_at s.stack (s.top - 2)) (piece_at s.stack (s.top - 1)))) s)
    (cond (ltb AND_CODE op) (cond (fits (op - AND_CODE) s.top s.groups s.count) (close_group base T (op - AND_CODE) s) s) s)))

abbrev pub start_fill : List ℕ → State
start_fill M = record { members = M; stack = replicate POSITIONS none_piece; top = 0; lasts = replicate LASTS 0; groups = 0; count = 0 }

-- The first n numbers of the code, fewer than CODE.
unfoldable pub run_fill : List ℕ → (base : ℕ) (T : List ℕ) → ℕ → State
run_fill M base T zero = start_fill M
run_fill M base T (suc i) = cond (ltb i CODE) (step_fill base T (run_fill M base T i) (get_or T (MODEL_ROWS + i) 0)) (run_fill M base T i)

-- The table of members when the code of the element e, n numbers, has been run.
abbrev pub filled : List ℕ → (e : ℕ) (T : List ℕ) (n : ℕ) → List ℕ
filled M e T n = (run_fill M (e * MEMBER) T n).members
