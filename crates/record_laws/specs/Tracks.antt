-- One element read from left to right, with at most one byte 13 held of which it is not known whether it is the last: what is data are those bytes that
-- the three cases leave.
use Rattle.std.specs.Prelude.{ℕ, ◌≡◌, refl, Bool, true, false, ◌&&◌, ◌||◌, List, [], ◌∷◌, ◌++◌}
use Rattle.std.proofs.Common.{sym, ◌∙◌, ap, subst, append_assoc, append-nil}
use Rattle.rules.specs.RecordEnds.{Thing, markup, boundary, record_end, datum, subelement}
use Rattle.record_laws.specs.Marks.{is_once, Mark, fresh, directly, other, after_markup, marked, drops_now, Marked, marked_start, marked_snoc, marked_decides, marks, mark_decides}
use Rattle.record_laws.specs.Cases.{is_last, is_dropped}

-- The places of the bytes that are data, of those `after`, where these stand `before` them.
abbrev pub kept : (before after : List Thing) → List ℕ
kept before [] = []
kept before (markup ∷ after) = kept (before ++ markup ∷ []) after
kept before (boundary ∷ after) = kept (before ++ boundary ∷ []) after
kept before (record_end p ∷ after) = elim (is_dropped before p after) [ true ↦ kept (before ++ record_end p ∷ []) after | false ↦ p ∷ kept (before ++ record_end p ∷ []) after ]
kept before (datum p ∷ after) = p ∷ kept (before ++ datum p ∷ []) after
kept before (subelement ∷ after) = kept (before ++ subelement ∷ []) after

-- A byte 13 that has taken its place and is not yet known to be data.
pub data Held : Type 0 where
  nothing : Held
  one : (at : ℕ) → Held

abbrev pub due : Held → List ℕ
due nothing = []
due (one p) = p ∷ []

pub record Track : Type 0 where
  pub mark : Mark
  pub held : Held
  -- The places of the bytes that are known to be data.
  pub written : List ℕ

abbrev pub track : Mark → Held → List ℕ → Track
track m h w = record { mark = m; held = h; written = w }

abbrev pub at_start : Track
at_start = track fresh nothing []

-- The held byte, if it is not the last.
abbrev pub due_unless : Bool → Held → List ℕ
due_unless true h = []
due_unless false h = due h

unless_nothing : (c : Bool) → due_unless c nothing ≡ []
unless_nothing true = refl
unless_nothing false = refl

-- A byte 13: one that is dropped at once leaves a held one held.
abbrev pub ended13 : Track → ℕ → Bool → Track
ended13 l p c = elim c [ true ↦ track directly l.held l.written | false ↦ track directly (one p) (l.written ++ due l.held) ]

-- One thing more. Markup and byte 10 leave a held byte held; data and subelements show that it was not the last.
abbrev pub next : Track → Thing → Track
next l markup = track (after_markup l.mark) l.held l.written
next l boundary = track directly l.held l.written
next l (record_end p) = ended13 l p (drops_now l.mark)
next l (datum p) = track other nothing (l.written ++ (due l.held ++ p ∷ []))
next l subelement = track other nothing (l.written ++ due l.held)

-- All of them. At the end of the element what is held is dropped: the data are `written`.
abbrev pub through : Track → List Thing → Track
through l [] = l
through l (t ∷ ts) = through (next l t) ts

-- After the rest the data are those before, the held byte unless it is the last, and those kept of the rest.
abbrev Writes : (b a : List Thing) → Track → Type 0
Writes b a l = (through l a).written ≡ l.written ++ (due_unless (is_last b a) l.held ++ kept b a)

writes_end : (b a : List Thing) (l : Track) (p : ℕ) (c : Bool) → ((x : Track) → Marked x.mark (b ++ record_end p ∷ []) → Writes (b ++ record_end p ∷ []) a x) → Marked directly (b ++ record_end p ∷ []) → (through (ended13 l p c) a).written ≡ l.written ++ (due_unless (c && is_last (b ++ record_end p ∷ []) a) l.held ++ elim (c || is_last (b ++ record_end p ∷ []) a) as (λ _. List ℕ) [ true ↦ kept (b ++ record_end p ∷ []) a | false ↦ p ∷ kept (b ++ record_end p ∷ []) a ])
writes_end b a l p true ih k = ih (ended13 l p true) k
writes_end b a l p false ih k = ih (ended13 l p false) k ∙ append_assoc l.written (due l.held) (due_unless (is_last (b ++ record_end p ∷ []) a) (one p) ++ kept (b ++ record_end p ∷ []) a) ∙ ap (λ z. l.written ++ (due l.held ++ z)) (go (is_last (b ++ record_end p ∷ []) a))
  where
    go : (c : Bool) → due_unless c (one p) ++ kept (b ++ record_end p ∷ []) a ≡ elim c as (λ _. List ℕ) [ true ↦ kept (b ++ record_end p ∷ []) a | false ↦ p ∷ kept (b ++ record_end p ∷ []) a ]
    go true = refl
    go false = refl

writes : (a b : List Thing) (l : Track) → Marked l.mark b → Writes b a l
writes [] b l k = sym (append-nil l.written)
writes (markup ∷ a) b l k = writes a (b ++ markup ∷ []) (next l markup) (marked_snoc k markup)
writes (boundary ∷ a) b l k = writes a (b ++ boundary ∷ []) (next l boundary) (marked_snoc k boundary)
writes (record_end p ∷ a) b l k =
    let b' : List Thing = b ++ record_end p ∷ [] in
    subst
    (λ (c : Bool). (through (next l (record_end p)) a).written ≡ l.written ++ (due_unless (c && is_last b' a) l.held ++ elim (c || is_last b' a) as (λ _. List ℕ) [ true ↦ kept b' a | false ↦ p ∷ kept b' a ]))
    (sym (marked_decides k))
    (writes_end b a l p (drops_now l.mark) (λ x. writes a b' x) (marked_snoc k (record_end p)))
writes (datum p ∷ a) b l k =
    writes a (b ++ datum p ∷ []) (next l (datum p)) (marked_snoc k (datum p)) ∙ ap (λ z. (l.written ++ (due l.held ++ p ∷ [])) ++ (z ++ kept (b ++ datum p ∷ []) a)) (unless_nothing (is_last (b ++ datum p ∷ []) a)) ∙ simp append_assoc
writes (subelement ∷ a) b l k =
    writes a (b ++ subelement ∷ []) (next l subelement) (marked_snoc k subelement) ∙ ap (λ z. (l.written ++ due l.held) ++ (z ++ kept (b ++ subelement ∷ []) a)) (unless_nothing (is_last (b ++ subelement ∷ []) a)) ∙ append_assoc l.written (due l.held) (kept (b ++ subelement ∷ []) a)

-- Read from left to right, the data of an element are those that the three cases leave.
pub element_data : (c : List Thing) → (through at_start c).written ≡ kept [] c
element_data c = writes c [] at_start marked_start ∙ ap (λ z. z ++ kept [] c) (unless_nothing (is_last [] c))

-- One thing more behind those of an element.

abbrev pub read_in : List Thing → Track
read_in c = through at_start c

through_snoc : (l : Track) (a : List Thing) (t : Thing) → through l (a ++ t ∷ []) ≡ next (through l a) t
through_snoc l [] t = refl
through_snoc l (x ∷ a) t = through_snoc (next l x) a t

pub read_snoc : (c : List Thing) (t : Thing) → read_in (c ++ t ∷ []) ≡ next (read_in c) t
read_snoc c t = through_snoc at_start c t

ended_mark : (l : Track) (p : ℕ) (c : Bool) → (ended13 l p c).mark ≡ directly
ended_mark l p true = refl
ended_mark l p false = refl

next_mark : (l : Track) (t : Thing) → (next l t).mark ≡ marked l.mark t
next_mark l markup = refl
next_mark l boundary = refl
next_mark l (record_end p) = ended_mark l p (drops_now l.mark)
next_mark l (datum p) = refl
next_mark l subelement = refl

through_mark : (l : Track) (ts : List Thing) → (through l ts).mark ≡ marks l.mark ts
through_mark l [] = refl
through_mark l (t ∷ ts) = through_mark (next l t) ts ∙ ap (λ (m : Mark). marks m ts) (next_mark l t)

-- A byte 13 more, where it is dropped at once or not.
pub read_end : (c : List Thing) (p : ℕ) (b : Bool) → is_once c ≡ b → read_in (c ++ record_end p ∷ []) ≡ ended13 (read_in c) p b
read_end c p b e = read_snoc c (record_end p) ∙ ap (ended13 (read_in c) p) (ap drops_now (through_mark at_start c) ∙ sym (mark_decides c) ∙ e)
