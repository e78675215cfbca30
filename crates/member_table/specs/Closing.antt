-- The end of an "&" group: its members, the last pieces of the stack, are put, and the group takes their place.
use Rattle.std.specs.Prelude.{ℕ, suc, ◌+◌, ◌-◌, ◌*◌, ◌≤◌, ◌<◌, ◌≡◌, refl, Bool, ◌⊎◌, List, [], ◌∷◌, ◌++◌, eqb, length, get_or, set}
use Rattle.std.proofs.Common.{sym, ◌∙◌, ap, subst, inl, inr, arith, length-set, get_or-set_same, get_or-set_other, ne_eqb}
use Rattle.std.proofs.Math.Bool.{and-false, and-true}
use Rattle.model_code.specs.Codes.{AND_CODE}
use Rattle.rules.specs.Bytes.{GRPCNT, GRPGTCNT}
use Rattle.rules.specs.Walk.{Group, and, Members, one, also}
use Rattle.layout.specs.Sizes.{MEMBER, POSITIONS, AND_GROUPS, LASTS, REACHES}
use Rattle.basic_laws.specs.Truth.{bool_cases}
use Rattle.model_sets.specs.Sets.{has_m, size, size_m, NumberedM, nullable, nullable_m, amount, required_first}
use Rattle.and_laws.specs.Sets.{GoodM}
use Rattle.model_code.specs.Spelled.{codes, codes_m}
use Rattle.member_laws.specs.Members.{Each, needs, group_at, due_at, first_at, needed_at, size_at, outer_at, Grouped}
use Rattle.member_laws.specs.Numbered.{amount_both}
use Rattle.member_entries.specs.Entries.{record_from, put_record}
use Rattle.member_entries.specs.Slots.{Slot}
use Rattle.member_table.specs.declared.Piece.{Piece}
use Rattle.member_table.specs.Filling.{State, piece_at, closed_piece, put_group, close_group}
use Rattle.member_table.specs.Beside.{RowsM, EachMarks, second, marks, last_m_end}
use Rattle.member_table.specs.Joined.{piece_of, Pieces, needed_is, each_map, rows_of, Joined, joins}
use Rattle.member_table.specs.Chains.{base_of, Keeps, Closes}
use Rattle.member_table.specs.States.{Common}
use Rattle.member_table.specs.Order.{InOrder, order_more}

-- The last number of the code closes the group.

last_of : List ℕ → ℕ
last_of [] = 0
last_of (x ∷ []) = x
last_of (x ∷ (y ∷ xs)) = last_of (y ∷ xs)

last_append : (xs : List ℕ) (x : ℕ) → last_of (xs ++ x ∷ []) ≡ x
unfolding last_of
last_append [] x = refl
last_append (y ∷ []) x = refl
last_append (y ∷ (z ∷ xs)) x = last_append (z ∷ xs) x

one_more : (x y : ℕ) → AND_CODE + x ≡ AND_CODE + y → AND_CODE + (x + 1) ≡ AND_CODE + (y + 1)
one_more x y e = omega arith

close_number : (m : Members) → last_of (codes (and m)) ≡ AND_CODE + amount m
close_number (one g) = last_append (codes_m (one g)) (AND_CODE + 1)
close_number (also m g) = last_append (codes_m (also m g)) _ ∙ one_more _ _ (sym (last_append (codes_m m) _) ∙ close_number m)

same_last : (xs : List ℕ) (x y : ℕ) → last_of (xs ++ x ∷ []) ≡ y → xs ++ x ∷ [] ≡ xs ++ y ∷ []
same_last xs x y e = ap (λ (z : ℕ). xs ++ z ∷ []) (sym (last_append xs x) ∙ e)

pub codes_and : (m : Members) → codes (and m) ≡ codes_m m ++ (AND_CODE + amount m) ∷ []
codes_and m = same_last (codes_m m) _ (AND_CODE + amount m) (close_number m)

-- The pieces of the members lie on the stack.

module _ (stack : List Piece) (first : ℕ) where
  pub pieces_first : (m : Members) (lo : ℕ) → Pieces stack first m lo → (piece_at stack first).lo ≡ lo
  pieces_first (one g) lo p = let e : first + 0 ≡ first = omega arith in ap (λ (a : Piece). a.lo) (rw e at p)
  pieces_first (also m g) lo (p, q) = pieces_first m lo p

  pub pieces_second : (m : Members) (g : Group) (lo : ℕ) → Pieces stack first (also m g) lo → (piece_at stack (first + 1)).lo ≡ second (also m g) lo
  pieces_second (one h) g lo (p, q) = ap (λ (a : Piece). a.lo) q
  pieces_second (also m h) g lo (p, q) = pieces_second m h lo p

  pub pieces_last : (m : Members) (lo : ℕ) → Pieces stack first m lo → (piece_at stack (first + amount m - 1)).last ≡ lo + size_m m - 1
  pieces_last (one g) lo p = let e : first + 1 - 1 ≡ first + 0 = omega arith in rw e (ap (λ (a : Piece). a.last) p)
  pieces_last (also m g) lo (p, q) =
      let e : first + (amount m + 1) - 1 ≡ first + amount m = omega arith in
      let d : lo + size_m m + size g - 1 ≡ lo + (size_m m + size g) - 1 = omega arith in
      rw e (ap (λ (a : Piece). a.last) q ∙ d)

none_needed : (m : Members) → eqb (needs m) 0 ≡ nullable_m m
none_needed (one g) = bool_cases (nullable g) (λ e. rw e) (λ e. rw e)
none_needed (also m g) =
    bool_cases
    (nullable g)
    (λ e. let z : needs m + 0 ≡ needs m = omega arith in rw (e, z, and-true (nullable_m m)) (none_needed m))
    (λ e. rw (e, and-false (nullable_m m), ne_eqb (needs m + 1) 0 (λ x. omega arith)))

closed_is : (stack : List Piece) (first : ℕ) (m : Members) (g : Group) (lo : ℕ) → Pieces stack first (also m g) lo
    → closed_piece (needs (also m g)) (piece_at stack first) (piece_at stack (first + amount (also m g) - 1)) ≡ piece_of (and (also m g)) lo
closed_is stack first m g lo p =
    by (pieces_first stack first (also m g) lo p) (pieces_last stack first (also m g) lo p) (none_needed (also m g))
  where
    by : {a b c d : ℕ} {x y : Bool} → a ≡ b → c ≡ d → x ≡ y → ◌≡◌ {A = Piece} (record { lo = a; last = c; null = x; required = 0 }) (record { lo = b; last = d; null = y; required = 0 })
    by i j k = rw (i, j, k)

-- The numbers of the group itself are put.

module _ (base groups own needed k : ℕ) (M : List ℕ) (room : base + REACHES ≤ length M) (few : groups < AND_GROUPS) where
  abbrev at : ℕ
  at = record_from base (groups + 1)

  abbrev kept : List ℕ
  kept = put_record M base groups own needed k

  pub record_len : length kept ≡ length M
  record_len = length-set (set (set M at own) (at + 1) needed) (at + 2) k ∙ length-set (set M at own) (at + 1) needed ∙ length-set M at own

  pub record_other : (j : ℕ) → (j ≡ at → ⊥) → (j ≡ at + 1 → ⊥) → (j ≡ at + 2 → ⊥) → get_or kept j 0 ≡ get_or M j 0
  record_other j a b c =
      get_or-set_other (set (set M at own) (at + 1) needed) (at + 2) j k 0 c ∙ get_or-set_other (set M at own) (at + 1) j needed 0 b ∙ get_or-set_other M at j own 0 a

  pub record_own : get_or kept at 0 ≡ own
  record_own =
      get_or-set_other (set (set M at own) (at + 1) needed) (at + 2) at k 0 (λ x. omega arith)
      ∙ get_or-set_other (set M at own) (at + 1) at needed 0 (λ x. omega arith)
      ∙ get_or-set_same M at own 0 (omega arith)

  pub record_needed : get_or kept (at + 1) 0 ≡ needed
  record_needed =
      get_or-set_other (set (set M at own) (at + 1) needed) (at + 2) (at + 1) k 0 (λ x. omega arith)
      ∙ get_or-set_same (set M at own) (at + 1) needed 0 (omega (arith, length-set M at own))

  pub record_size : get_or kept (at + 2) 0 ≡ k
  record_size = get_or-set_same (set (set M at own) (at + 1) needed) (at + 2) k 0 (omega (arith, length-set (set M at own) (at + 1) needed, length-set M at own))

  pub record_slot : (lasts : List ℕ) (s v : ℕ) → Slot base lasts groups s v → get_or kept s 0 ≡ get_or M s 0
  record_slot lasts s v (inl (l, e)) = record_other s (λ x. omega arith) (λ x. omega arith) (λ x. omega arith)
  record_slot lasts s v (inr (n, a, b, e, i)) = record_other s (λ x. omega arith) (λ x. omega arith) (λ x. omega arith)

-- The group of m and g, whose pieces are the last of the state's stack, from `first` on.
module _
    (e : ℕ) (T : List ℕ) (m : Members) (g : Group) (lo first : ℕ) (t : State)
    (numbered : NumberedM (also m g) lo) (good : GoodM (also m g)) (rows : RowsM (rows_of T) (also m g))
    (pieces : Pieces t.stack first (also m g) lo) (top : t.top ≡ first + amount (also m g)) (high : lo + size_m (also m g) ≤ POSITIONS)
    (few : t.groups < AND_GROUPS) (least : t.count + amount (also m g) ≤ GRPGTCNT) (most : amount (also m g) ≤ GRPCNT)
    (lasts_len : length t.lasts ≡ LASTS) (room : base_of e + REACHES ≤ length t.members) (free : outer_at t.members e (suc t.groups) ≡ 0) where
  abbrev all : Members
  all = also m g

  abbrev pub closed_members : List ℕ
  closed_members = put_group t.members (base_of e) T t.lasts t.groups (t.count + 1) t.stack first (needs all) (amount all)

  abbrev pub closed_lasts : List ℕ
  closed_lasts = set t.lasts (t.groups + 1) (lo + size_m all - 1)

  abbrev pub closed_state : State
  closed_state =
      record {
        members = closed_members;
        stack = set t.stack first (piece_of (and all) lo);
        top = first + 1;
        lasts = closed_lasts;
        groups = t.groups + 1;
        count = t.count + amount all;
      }

  pub close_is : close_group (base_of e) T (amount all) t ≡ closed_state
  close_is =
      let f : t.top - amount all ≡ first = omega arith in
      let d : t.top - 1 ≡ first + amount all - 1 = omega (arith, top) in
      rw (f, d, needed_is t.stack first all lo pieces, closed_is t.stack first m g lo pieces, pieces_last t.stack first all lo pieces)

  abbrev begun : List ℕ
  begun = put_record t.members (base_of e) t.groups (t.count + 1) (needs all) (amount all)

  len_begun : length begun ≡ length t.members
  len_begun = record_len (base_of e) t.groups (t.count + 1) (needs all) (amount all) t.members room few

  J : Joined (base_of e) t.lasts t.groups (t.count + 1) (needs all) all begun closed_members
  J =
      joins
      (base_of e)
      T
      t.lasts
      t.groups
      (t.count + 1)
      (needs all)
      t.stack
      first
      (omega arith)
      all
      lo
      numbered
      good
      high
      pieces
      (subst (λ (w : ℕ). EachMarks (rows_of T) w (piece_at t.stack (first + 1)).lo all) (sym (pieces_first t.stack first all lo pieces))
      (subst (λ (v : ℕ). EachMarks (rows_of T) lo v all) (sym (pieces_second t.stack first m g lo pieces)) (marks (rows_of T) m g lo numbered good rows)))
      (omega arith)
      (omega (arith, amount_both all))
      begun
      (omega (arith, len_begun))

  in_slot : (s v : ℕ) → Slot (base_of e) t.lasts t.groups s v → get_or begun s 0 ≡ get_or t.members s 0
  in_slot s v is = record_slot (base_of e) t.groups (t.count + 1) (needs all) (amount all) t.members room few t.lasts s v is

  -- This number is none of a member, of a place or of a group before.
  apart :
      (k : ℕ)
      → ((u : ℕ) → u ≤ GRPGTCNT → k ≡ base_of e + u → ⊥)
      → ((n : ℕ) → 1 ≤ n → n ≤ t.groups → k ≡ record_from (base_of e) n + 3 → ⊥)
      → ((n : ℕ) → t.count + 1 ≤ n → n ≤ GRPGTCNT → k ≡ base_of e + POSITIONS + n → ⊥)
      → ((n : ℕ) → t.count + 1 ≤ n → n ≤ GRPGTCNT → k ≡ base_of e + 2 * POSITIONS + n → ⊥)
      → get_or closed_members k 0 ≡ get_or begun k 0
  apart = J.rest

  before : (k : ℕ) → (k ≡ record_from (base_of e) (t.groups + 1) → ⊥) → (k ≡ record_from (base_of e) (t.groups + 1) + 1 → ⊥) → (k ≡ record_from (base_of e) (t.groups + 1) + 2 → ⊥) → get_or begun k 0 ≡ get_or t.members k 0
  before = record_other (base_of e) t.groups (t.count + 1) (needs all) (amount all) t.members room few

  -- The numbers of a group's record stay, but for the last, and so do those of any later group.
  in_record : (n r : ℕ) → r < 3 → get_or closed_members (record_from (base_of e) n + r) 0 ≡ get_or begun (record_from (base_of e) n + r) 0
  in_record n r l = apart (record_from (base_of e) n + r) (λ u x y. omega arith) (λ q x y z. omega arith) (λ q x y z. omega arith) (λ q x y z. omega arith)

  old_record : (n r : ℕ) → n ≤ t.groups → r < 3 → get_or closed_members (record_from (base_of e) n + r) 0 ≡ get_or t.members (record_from (base_of e) n + r) 0
  old_record n r to l = in_record n r l ∙ before (record_from (base_of e) n + r) (λ x. omega arith) (λ x. omega arith) (λ x. omega arith)

  pub new_outer : (n : ℕ) → t.groups < n → outer_at closed_members e n ≡ outer_at t.members e n
  new_outer n l =
      apart (record_from (base_of e) n + 3) (λ u x y. omega arith) (λ q x y z. omega arith) (λ q x y z. omega arith) (λ q x y z. omega arith)
      ∙ before (record_from (base_of e) n + 3) (λ x. omega arith) (λ x. omega arith) (λ x. omega arith)

  pub new_outside : (k : ℕ) → (k < base_of e) ⊎ (base_of e + MEMBER ≤ k) → get_or closed_members k 0 ≡ get_or t.members k 0
  new_outside k (inl l) =
      apart k (λ u x y. omega arith) (λ q x y z. omega arith) (λ q x y z. omega arith) (λ q x y z. omega arith)
      ∙ before k (λ x. omega arith) (λ x. omega arith) (λ x. omega arith)
  new_outside k (inr l) =
      apart k (λ u x y. omega arith) (λ q x y z. omega arith) (λ q x y z. omega arith) (λ q x y z. omega arith)
      ∙ before k (λ x. omega arith) (λ x. omega arith) (λ x. omega arith)

  pub new_len : length closed_members ≡ length t.members
  new_len = J.len ∙ len_begun

  keeps_old : Keeps e t.lasts t.groups t.count (has_m all) t.members closed_members
  keeps_old =
      record {
        other = λ s v is i. J.other s v is i ∙ in_slot s v is;
        kept = λ s v is some.
            let x = in_slot s v is in
            J.kept s v is (omega (arith, x)) ∙ x;
        group = λ n l.
            apart (base_of e + POSITIONS + n) (λ u x y. omega arith) (λ q x y z. omega arith) (λ q x y z. omega arith) (λ q x y z. omega arith)
            ∙ before (base_of e + POSITIONS + n) (λ x. omega arith) (λ x. omega arith) (λ x. omega arith);
        due = λ n l.
            apart (base_of e + 2 * POSITIONS + n) (λ u x y. omega arith) (λ q x y z. omega arith) (λ q x y z. omega arith) (λ q x y z. omega arith)
            ∙ before (base_of e + 2 * POSITIONS + n) (λ x. omega arith) (λ x. omega arith) (λ x. omega arith);
        first = λ n l. let z : record_from (base_of e) n + 0 ≡ record_from (base_of e) n = omega arith in rw z at (old_record n 0 l (omega arith));
        needed = λ n l. old_record n 1 l (omega arith);
        size = λ n l. old_record n 2 l (omega arith);
      }

  next : t.groups + 1 ≡ suc t.groups
  next = omega arith

  new_first : first_at closed_members e (suc t.groups) ≡ t.count + 1
  new_first =
      let z : record_from (base_of e) (t.groups + 1) + 0 ≡ record_from (base_of e) (t.groups + 1) = omega arith in
      subst (λ (n : ℕ). first_at closed_members e n ≡ t.count + 1) next
      ((rw z at (in_record (t.groups + 1) 0 (omega arith))) ∙ record_own (base_of e) t.groups (t.count + 1) (needs all) (amount all) t.members room few)

  new_grouped : Grouped closed_members e (record { number = suc t.groups; members = all })
  new_grouped =
      record {
        within = omega arith;
        some = omega (arith, new_first);
        room = omega (arith, new_first);
        few = most;
        needed =
            subst (λ (n : ℕ). needed_at closed_members e n ≡ needs all) next
            (in_record (t.groups + 1) 1 (omega arith) ∙ record_needed (base_of e) t.groups (t.count + 1) (needs all) (amount all) t.members room few);
        size =
            subst (λ (n : ℕ). size_at closed_members e n ≡ amount all) next
            (in_record (t.groups + 1) 2 (omega arith) ∙ record_size (base_of e) t.groups (t.count + 1) (needs all) (amount all) t.members room few);
        members =
            subst (λ (f : ℕ). Each (λ (n : ℕ) (x : Group). (group_at closed_members e n ≡ suc t.groups) × (due_at closed_members e n ≡ required_first x)) f (needs all) all) (sym new_first)
            (each_map {P = λ (n : ℕ) (x : Group). (group_at closed_members e n ≡ t.groups + 1) × (due_at closed_members e n ≡ required_first x)} {Q = (λ (n : ℕ) (x : Group). (group_at closed_members e n ≡ suc t.groups) × (due_at closed_members e n ≡ required_first x))} (t.count + 1) (needs all) all (λ n x r p. (p.0 ∙ next, p.1)) J.each);
      }

  later_first : (n : ℕ) → t.groups + 1 < n → first_at closed_members e n ≡ first_at t.members e n
  later_first n l =
      let z : record_from (base_of e) n + 0 ≡ record_from (base_of e) n = omega arith in
      rw z at (in_record n 0 (omega arith) ∙ before (record_from (base_of e) n + 0) (λ x. omega arith) (λ x. omega arith) (λ x. omega arith))

  new_order : InOrder e t.members t.groups t.count → InOrder e closed_members (t.groups + 1) (t.count + amount all)
  new_order =
      order_more e t.members closed_members t.groups t.count (amount all) keeps_old.first keeps_old.size
      (subst (λ (n : ℕ). first_at closed_members e n ≡ t.count + 1) (sym next) new_first)
      (subst (λ (n : ℕ). size_at closed_members e n ≡ amount all) (sym next) new_grouped.size)
      later_first

  new_agree : (n : ℕ) → n ≤ t.groups → get_or closed_lasts n 0 ≡ get_or t.lasts n 0
  new_agree n l = get_or-set_other t.lasts (t.groups + 1) n (lo + size_m all - 1) 0 (λ x. omega arith)

  new_last : get_or closed_lasts (suc t.groups) 0 ≡ lo + size_m all - 1
  new_last = subst (λ (n : ℕ). get_or closed_lasts n 0 ≡ lo + size_m all - 1) next (get_or-set_same t.lasts (t.groups + 1) (lo + size_m all - 1) 0 (omega (arith, lasts_len)))

  pub closes : Closes e t.lasts closed_lasts t.groups t.count all t.members closed_members
  closes =
      record {
        keeps = keeps_old;
        put = λ s v is i z. J.put s v is i (in_slot s v is ∙ z);
        grouped = new_grouped;
        first = new_first;
        outer = new_outer (suc t.groups) (omega arith) ∙ free;
        agree = new_agree;
        ends = rw new_last (last_m_end all lo numbered);
      }

  pub close_common : Common e (has_m all) 1 (amount all) t closed_state
  close_common =
      record {
        groups = refl;
        count = refl;
        lasts_len = length-set t.lasts (t.groups + 1) (lo + size_m all - 1);
        agree = new_agree;
        len = new_len;
        keeps = keeps_old;
        later = λ n l. new_outer n (omega arith);
        outside = new_outside;
        order = new_order;
      }
